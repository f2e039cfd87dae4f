use Rattle.std.proofs.Common.{refl}
use Rattle.jr_model.specs.declared.event.Act.TheVariants.{Gate}
use Rattle.jr_model.specs.declared.event.GateAct.TheVariants.{Enter}
use Rattle.jr_frames.proofs.StillReady.{own_stepped}
use Rattle.jr_env_tests.proofs.held.resolved.Goals as goal

pub invariant_of-held : goal.invariant_of-held
invariant_of-held g c = record { own = own_stepped (Gate Enter) refl c.args.env.held.own c.in_ok-inside.ensures.ok.1 }
