use Rattle.std.proofs.Common.{refl}
use Rattle.jr_model.specs.declared.event.Role.TheVariants.{Outside, Within}
use Rattle.jr_frames.specs.Ready.{StandsReady}
use Rattle.jr_frames.proofs.StillReady.{ready_left}
use Rattle.jr_env.proofs.EndedStays.{can_call, leaves}
use Rattle.jr_env.proofs.OpenStays.{ends_as_one}
use Rattle.jr_env.proofs.work.go_outside.Goals as goal

pub invariant_of-held : goal.invariant_of-held
invariant_of-held g c = record {
  own = (ready_left {role = Within}
      (record { role_is = c.requires.stay.1; spent = c.requires.ready.spent; own = c.args.held.now.own })
      c.leave.ensures).own;
}

pub returns-clause-call : goal.returns-clause-call
returns-clause-call g c =
    leaves g.S.Steps.facts c.args.held.now.steps c.leave.new.steps c.args.held.now.frames.frames c.leave.ensures

pub returns-clause-one : goal.returns-clause-one
returns-clause-one g c =
    let own = (ready_left {role = Within}
    (record { role_is = c.requires.stay.1; spent = c.requires.ready.spent; own = c.args.held.now.own })
    c.leave.ensures).own in
    ends_as_one c.args.held.now (record { steps = c.leave.new.steps; frames = c.args.held.now.frames; own = own }) refl
    c.leave.ensures

pub returns-clause-next : goal.returns-clause-next
returns-clause-next g c =
    let ready : StandsReady g.S.Steps.facts Within c.args.held.now.steps c.args.held.now.frames =
    record { role_is = c.requires.stay.1; spent = c.requires.ready.spent; own = c.args.held.now.own } in
    let left : StandsReady g.S.Steps.facts Outside c.leave.new.steps c.args.held.now.frames =
    ready_left ready c.leave.ensures in
    can_call left
