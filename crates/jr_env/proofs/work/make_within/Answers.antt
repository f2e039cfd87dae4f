use Rattle.jr_model.specs.declared.event.Role.TheVariants.{Within}
use Rattle.jr_frames.specs.Ready.{StandsReady}
use Rattle.jr_env.proofs.OpenStays.{can_within}
use Rattle.jr_env.proofs.Served.{did_served, on_served, own_as, ready_served}
use Rattle.jr_env.proofs.work.make_within.Goals as goal

pub invariant_of-held : goal.invariant_of-held
invariant_of-held g c =
    let ready : StandsReady g.S.Steps.facts Within c.args.held.now.steps c.args.held.now.frames =
    record { role_is = c.requires.stay.1; spent = c.requires.ready.spent; own = c.args.held.now.own } in
    record {
      own = (ready_served (g.C.NativeCall.request c.args.call) c.work.result ready c.work.ensures.same
          c.work.ensures.call).own;
    }

pub returns-clause-call : goal.returns-clause-call
returns-clause-call g c =
    did_served g.met.S.Steps.fits (g.C.NativeCall.request c.args.call) c.work.result c.work.ensures.call

pub returns-clause-on : goal.returns-clause-on
returns-clause-on g c =
    let ready : StandsReady g.S.Steps.facts Within c.args.held.now.steps c.args.held.now.frames =
    record { role_is = c.requires.stay.1; spent = c.requires.ready.spent; own = c.args.held.now.own } in
    let left = ready_served (g.C.NativeCall.request c.args.call) c.work.result ready c.work.ensures.same
    c.work.ensures.call in
    on_served g.met.S.Steps.fits c.args.held.now
    (record { steps = c.work.new.steps; frames = c.work.new.frames; own = left.own })
    (g.C.NativeCall.request c.args.call) c.work.result c.work.ensures.call

pub returns-clause-own : goal.returns-clause-own
returns-clause-own g c = own_as c.requires.stay (did_served g.met.S.Steps.fits (g.C.NativeCall.request c.args.call)
    c.work.result c.work.ensures.call).stands_is

pub returns-clause-next : goal.returns-clause-next
returns-clause-next g c =
    let ready : StandsReady g.S.Steps.facts Within c.args.held.now.steps c.args.held.now.frames =
    record { role_is = c.requires.stay.1; spent = c.requires.ready.spent; own = c.args.held.now.own } in
    can_within (ready_served (g.C.NativeCall.request c.args.call) c.work.result ready c.work.ensures.same
    c.work.ensures.call)
