use Rattle.std.proofs.Common.{refl}
use Rattle.jr_model.specs.declared.event.Role.TheVariants.{Within}
use Rattle.jr_model.specs.Checks.{Nothing}
use Rattle.jr_frames.specs.Ready.{StandsReady}
use Rattle.jr_env.specs.UsedWords.{AreUsed}
use Rattle.jr_env.proofs.ExplainedWords.{sees_on, ready_seen}
use Rattle.jr_env.proofs.OpenStays.{can_within}
use Rattle.jr_env.proofs.UsedLook.{used_seen}
use Rattle.jr_env.proofs.stays.numbers.used_inside.Goals as goal

pub invariant_of-held : goal.invariant_of-held
invariant_of-held g c =
    let ready : StandsReady g.S.Steps.facts Within c.args.held.now.steps c.args.held.now.frames =
    record { role_is = c.requires.stay.1; spent = c.requires.ready.spent; own = c.args.held.now.own } in
    record {
      own = (ready_seen g.met.S.Steps.fits AreUsed ready (used_seen g.met.S.Steps.fits c.args.held.now.frames.frames
          c.see_top.result c.requires.stay.1 c.see_top.ensures)).own;
    }

pub returns-clause-call : goal.returns-clause-call
returns-clause-call g c = used_seen g.met.S.Steps.fits c.args.held.now.frames.frames c.see_top.result
    c.requires.stay.1 c.see_top.ensures

pub returns-clause-on : goal.returns-clause-on
returns-clause-on g c =
    let ready : StandsReady g.S.Steps.facts Within c.args.held.now.steps c.args.held.now.frames =
    record { role_is = c.requires.stay.1; spent = c.requires.ready.spent; own = c.args.held.now.own } in
    let seen = used_seen g.met.S.Steps.fits c.args.held.now.frames.frames c.see_top.result c.requires.stay.1
    c.see_top.ensures in
    let left = ready_seen g.met.S.Steps.fits AreUsed ready seen in
    sees_on g.met.S.Steps.fits AreUsed c.args.held.now
    (record { steps = c.see_top.new.self; frames = c.args.held.now.frames; own = left.own }) Nothing c.see_top.result
    refl seen

pub returns-clause-next : goal.returns-clause-next
returns-clause-next g c =
    let ready : StandsReady g.S.Steps.facts Within c.args.held.now.steps c.args.held.now.frames =
    record { role_is = c.requires.stay.1; spent = c.requires.ready.spent; own = c.args.held.now.own } in
    can_within (ready_seen g.met.S.Steps.fits AreUsed ready (used_seen g.met.S.Steps.fits
    c.args.held.now.frames.frames c.see_top.result c.requires.stay.1 c.see_top.ensures))
