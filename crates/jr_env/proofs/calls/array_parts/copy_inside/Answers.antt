use Rattle.std.proofs.Common.{length, map}
use Rattle.jr_model.specs.declared.event.Role.TheVariants.{Within}
use Rattle.jr_frames.specs.Ready.{StandsReady}
use Rattle.jr_frames.proofs.StillReady.{same_owner}
use Rattle.jr_env.specs.Deeds.{read_answer}
use Rattle.jr_env.specs.Requests.{for_get_array_region}
use Rattle.jr_env.proofs.OpenStays.{can_within}
use Rattle.jr_env.proofs.Served.{did_served, on_served, own_as, ready_served}
use Rattle.jr_env.proofs.calls.array_parts.copy_inside.Goals as goal

pub invariant_of-held : goal.invariant_of-held
invariant_of-held g c =
    let ready : StandsReady g.S.Steps.facts Within c.args.held.now.steps c.args.held.now.frames =
    record { role_is = c.requires.stay.1; spent = c.requires.ready.spent; own = c.args.held.now.own } in
    let request = for_get_array_region g.E.Elem.KIND c.args.array.0 c.args.start (length c.args.elements.now) in
    let answer = read_answer c.read_into.result (map g.E.Elem.word_of c.read_into.new.elements) in
    record {
      own = (ready_served request answer ready (same_owner c.args.held.now.frames) c.read_into.ensures.call).own;
    }

pub returns-clause-call : goal.returns-clause-call
returns-clause-call g c = did_served g.met.S.Steps.fits
    (for_get_array_region g.E.Elem.KIND c.args.array.0 c.args.start (length c.args.elements.now))
    (read_answer c.read_into.result (map g.E.Elem.word_of c.read_into.new.elements)) c.read_into.ensures.call

pub returns-clause-on : goal.returns-clause-on
returns-clause-on g c =
    let ready : StandsReady g.S.Steps.facts Within c.args.held.now.steps c.args.held.now.frames =
    record { role_is = c.requires.stay.1; spent = c.requires.ready.spent; own = c.args.held.now.own } in
    let request = for_get_array_region g.E.Elem.KIND c.args.array.0 c.args.start (length c.args.elements.now) in
    let answer = read_answer c.read_into.result (map g.E.Elem.word_of c.read_into.new.elements) in
    let left = ready_served request answer ready (same_owner c.args.held.now.frames) c.read_into.ensures.call in
    on_served g.met.S.Steps.fits c.args.held.now
    (record { steps = c.read_into.new.steps; frames = c.args.held.now.frames; own = left.own }) request answer
    c.read_into.ensures.call

pub returns-clause-own : goal.returns-clause-own
returns-clause-own g c = own_as c.requires.stay (did_served g.met.S.Steps.fits
    (for_get_array_region g.E.Elem.KIND c.args.array.0 c.args.start (length c.args.elements.now))
    (read_answer c.read_into.result (map g.E.Elem.word_of c.read_into.new.elements)) c.read_into.ensures.call).stands_is

pub returns-clause-next : goal.returns-clause-next
returns-clause-next g c =
    let ready : StandsReady g.S.Steps.facts Within c.args.held.now.steps c.args.held.now.frames =
    record { role_is = c.requires.stay.1; spent = c.requires.ready.spent; own = c.args.held.now.own } in
    let request = for_get_array_region g.E.Elem.KIND c.args.array.0 c.args.start (length c.args.elements.now) in
    let answer = read_answer c.read_into.result (map g.E.Elem.word_of c.read_into.new.elements) in
    can_within (ready_served request answer ready (same_owner c.args.held.now.frames) c.read_into.ensures.call)
