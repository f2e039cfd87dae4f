use Rattle.std.proofs.Common.{refl}
use Rattle.jr_env.proofs.OpenStays.{can_entered, goes_in, goes_in_behind, own_entered, refused_entered, stays_since}
use Rattle.jr_env.proofs.work.go_inside.Goals as goal

pub invariant_of-held : goal.invariant_of-held
invariant_of-held g c = record {
  own = own_entered g.S.Steps.facts c.outside.new.held.steps c.enter.new.steps c.outside.new.held.frames
      c.outside.ensures.ready c.enter.result c.enter.ensures.ok c.enter.ensures.err;
}

pub returns-clause-call : goal.returns-clause-call
returns-clause-call g c =
    let own = own_entered g.S.Steps.facts c.outside.new.held.steps c.enter.new.steps c.outside.new.held.frames
    c.outside.ensures.ready c.enter.result c.enter.ensures.ok c.enter.ensures.err in
    goes_in c.args.held.now c.outside.new.held
    (record { steps = c.enter.new.steps; frames = c.outside.new.held.frames; own = own }) c.outside.ensures refl
    c.enter.result c.enter.ensures.ok c.enter.ensures.err

pub returns-clause-left : goal.returns-clause-left
returns-clause-left g c =
    let own = own_entered g.S.Steps.facts c.outside.new.held.steps c.enter.new.steps c.outside.new.held.frames
    c.outside.ensures.ready c.enter.result c.enter.ensures.ok c.enter.ensures.err in
    goes_in_behind c.args.held.now c.outside.new.held
    (record { steps = c.enter.new.steps; frames = c.outside.new.held.frames; own = own }) c.outside.ensures refl
    c.enter.result c.enter.ensures.ok c.enter.ensures.err

pub returns-clause-since : goal.returns-clause-since
returns-clause-since g c =
    let own = own_entered g.S.Steps.facts c.outside.new.held.steps c.enter.new.steps c.outside.new.held.frames
    c.outside.ensures.ready c.enter.result c.enter.ensures.ok c.enter.ensures.err in
    stays_since c.args.held.now c.outside.new.held
    (record { steps = c.enter.new.steps; frames = c.outside.new.held.frames; own = own }) c.outside.ensures refl
    c.enter.result c.enter.ensures.ok c.enter.ensures.err

pub returns-clause-next : goal.returns-clause-next
returns-clause-next g c = can_entered g.S.Steps.facts c.outside.new.held.steps c.enter.new.steps
    c.outside.new.held.frames c.outside.ensures.ready c.enter.result c.enter.ensures.ok c.enter.ensures.err

pub returns-clause-refused : goal.returns-clause-refused
returns-clause-refused g c = refused_entered g.S.Steps.facts c.outside.new.held.steps c.enter.new.steps
    c.outside.new.held.frames c.outside.ensures.ready c.enter.result c.enter.ensures.err
