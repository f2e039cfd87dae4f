use Rattle.std.proofs.Common.{refl}
use Rattle.jr_model.specs.declared.event.Role.TheVariants.{Within}
use Rattle.jr_frames.specs.Ready.{StandsReady}
use Rattle.jr_frames.specs.Reading.{word_of}
use Rattle.jr_env.proofs.ExplainedWords.{sees_on, ready_seen}
use Rattle.jr_env.specs.Words.{explanation_of}
use Rattle.jr_env.proofs.OpenStays.{can_within}
use Rattle.jr_env.proofs.stays.explaining.explain_inside.Goals as goal

pub invariant_of-held : goal.invariant_of-held
invariant_of-held g c =
    let ready : StandsReady g.S.Steps.facts Within c.args.held.now.steps c.args.held.now.frames =
    record { role_is = c.requires.stay.1; spent = c.requires.ready.spent; own = c.args.held.now.own } in
    record {
      own = (ready_seen g.met.S.Steps.fits (explanation_of (word_of c.args.target)) ready c.explain.ensures).own;
    }

pub returns-clause-on : goal.returns-clause-on
returns-clause-on g c =
    let ready : StandsReady g.S.Steps.facts Within c.args.held.now.steps c.args.held.now.frames =
    record { role_is = c.requires.stay.1; spent = c.requires.ready.spent; own = c.args.held.now.own } in
    let left = ready_seen g.met.S.Steps.fits (explanation_of (word_of c.args.target)) ready c.explain.ensures in
    sees_on g.met.S.Steps.fits (explanation_of (word_of c.args.target)) c.args.held.now
    (record { steps = c.explain.new.steps; frames = c.args.held.now.frames; own = left.own }) (word_of c.args.target)
    c.explain.result refl c.explain.ensures

pub returns-clause-next : goal.returns-clause-next
returns-clause-next g c =
    let ready : StandsReady g.S.Steps.facts Within c.args.held.now.steps c.args.held.now.frames =
    record { role_is = c.requires.stay.1; spent = c.requires.ready.spent; own = c.args.held.now.own } in
    can_within (ready_seen g.met.S.Steps.fits (explanation_of (word_of c.args.target)) ready c.explain.ensures)
