use Rattle.std.proofs.Common.{Err, Ok, ap, refl}
use Rattle.jr_model.specs.References.{new_local}
use Rattle.jr_frames.specs.Reading.{word_of}
use Rattle.jr_env.proofs.EnvCalls.{packed_if_is}
use Rattle.jr_env.proofs.NewReference.{creates_refused}
use Rattle.jr_env.proofs.Served.{forgets, refused_is}
use Rattle.jr_frames.proofs.NewLocal.{may_find, ready_resolved, creates_local}
use Rattle.jr_env.proofs.calls.references.NewLocalRefNativeCall.work.Goals as goal

pub returns-in_err-object-clause-call : goal.returns-in_err-object-clause-call
returns-in_err-object-clause-call g c =
    let s = (g.S.Steps.facts c.args.steps.now).stands in (
      Err _,
      refused_is c.from_residual.result c.from_residual.ensures.1,
      (
        word_of c.of-target.result,
        c.of-target.ensures.reads,
        forgets (creates_refused
            (new_local s.config s.last s.thread) (Err _) refl c.in_err-object.ensures),
      ),
    )

pub new_local-requires-clause-ready : goal.new_local-requires-clause-ready
new_local-requires-clause-ready g c = ready_resolved c.requires.ready c.in_ok-object.ensures

pub new_local-requires-clause-object : goal.new_local-requires-clause-object
new_local-requires-clause-object g c = may_find c.in_ok-object.ensures c.requires.ready.own.agrees

pub returns-in_err-made-clause-call : goal.returns-in_err-made-clause-call
returns-in_err-made-clause-call g c = (
  Err _,
  refused_is c.from_residual-in_err-made.result c.from_residual-in_err-made.ensures.1,
  (
    word_of c.of-target.result,
    c.of-target.ensures.reads,
    forgets (creates_local c.in_ok-object.ensures
        c.in_err-made.ensures.call),
  ),
)

pub returns-clause-call : goal.returns-clause-call
returns-clause-call g c = (
  Ok _,
  ap (λ x. Ok x) (packed_if_is c.map.result c.in_ok-made.made c.map.ensures.cases),
  (
    word_of c.of-target.result,
    c.of-target.ensures.reads,
    forgets (creates_local c.in_ok-object.ensures
        c.in_ok-made.ensures.call),
  ),
)
