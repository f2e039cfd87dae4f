use Rattle.std.proofs.Common.{replicate, refl, Err, Ok, ap}
use Rattle.jr_word.specs.declared.kind.Kind.TheVariants.{Objects}
use Rattle.jr_model.specs.Checks.{element_word}
use Rattle.jr_model.specs.References.{made}
use Rattle.jr_frames.specs.Reading.{word_of}
use Rattle.jr_frames.proofs.NewLocal.{may_find, ready_resolved}
use Rattle.jr_env.specs.Requests.{making_steps}
use Rattle.jr_env.proofs.EnvCalls.{packed_is}
use Rattle.jr_env.proofs.NewReference.{creates_refused}
use Rattle.jr_env.proofs.NewArray.{calls_more, may_name, makes_resolved}
use Rattle.jr_env.proofs.Served.{forgets, refused_is}
use Rattle.jr_env.proofs.calls.arrays.NewObjectArrayNativeCall.work.Goals as goal

pub returns-in_err-object-clause-call : goal.returns-in_err-object-clause-call
returns-in_err-object-clause-call g c =
    let s = (g.S.Steps.facts c.args.steps.now).stands in (
      Err _,
      refused_is c.from_residual.result c.from_residual.ensures.1,
      (
        word_of c.of-initial.result,
        c.of-initial.ensures.reads,
        forgets (calls_more (making_steps c.args.self.0 s.config)
            (creates_refused (λ z. made s.config s.last s.thread Objects (replicate c.args.self.0 (element_word z)))
            (Err _) refl c.in_err-object.ensures)),
      ),
    )

pub make_array-requires-clause-ready : goal.make_array-requires-clause-ready
make_array-requires-clause-ready g c = ready_resolved c.requires.ready c.in_ok-object.ensures

pub make_array-requires-clause-word : goal.make_array-requires-clause-word
make_array-requires-clause-word g c = may_name g.S.Steps.facts _ _ _ c.element_word-word.ensures
    (may_find c.in_ok-object.ensures c.requires.ready.own.agrees)

pub returns-in_err-made-clause-call : goal.returns-in_err-made-clause-call
returns-in_err-made-clause-call g c = (
  Err _,
  refused_is c.from_residual-in_err-made.result c.from_residual-in_err-made.ensures.1,
  (
    word_of c.of-initial.result,
    c.of-initial.ensures.reads,
    forgets (makes_resolved c.args.self.0 c.in_ok-object.ensures
        c.element_word-word.ensures c.in_err-made.ensures.call),
  ),
)

pub returns-clause-call : goal.returns-clause-call
returns-clause-call g c = (
  Ok _,
  ap (λ h. Ok h) (packed_is c.pack.result c.in_ok-made.made c.pack.ensures),
  (
    word_of c.of-initial.result,
    c.of-initial.ensures.reads,
    forgets (makes_resolved c.args.self.0 c.in_ok-object.ensures
        c.element_word-word.ensures c.in_ok-made.ensures.call),
  ),
)
