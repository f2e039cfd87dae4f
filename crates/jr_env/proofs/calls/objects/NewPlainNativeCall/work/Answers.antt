use Rattle.std.proofs.Common.{[], None, Err, Ok, ap, refl}
use Rattle.jr_word.specs.declared.kind.Kind.TheVariants.{Plain}
use Rattle.jr_heap.specs.Ranges.{place_of, size_of}
use Rattle.jr_env.specs.Works.{LearnsNew}
use Rattle.jr_env.proofs.EnvCalls.{packed_is}
use Rattle.jr_env.proofs.NewObject.{may_publish, makes, makes_nothing}
use Rattle.jr_env.proofs.Served.{forgets, refused_is}
use Rattle.jr_env.proofs.calls.objects.NewPlainNativeCall.work.Goals as goal

pub returns-in_default-clause-call : goal.returns-in_default-clause-call
returns-in_default-clause-call g c = (
  Err _,
  refl,
  forgets (makes_nothing g.met.S.Steps.fits (g.S.Steps.facts c.args.steps.now).stands.config.objects (LearnsNew None)
      (λ j k e. e) Plain [] c.requires.ready c.in_default.ensures.none),
)

pub refer-requires-clause-filled : goal.refer-requires-clause-filled
refer-requires-clause-filled g c = may_publish g.S.Steps.facts c.args.steps.now (place_of c.empty.result)
    (size_of c.empty.result) c.empty.ensures.place c.empty.ensures.size (g.met.S.Steps.some_known c.args.steps.now)

pub returns-in_err-made-clause-call : goal.returns-in_err-made-clause-call
returns-in_err-made-clause-call g c = (
  Err _,
  refused_is c.from_residual.result c.from_residual.ensures.1,
  forgets (makes (Err _) c.requires.ready c.in-Some.ensures.some c.empty.ensures.place c.empty.ensures.size
      c.in_err-made.ensures.call),
)

pub returns-clause-call : goal.returns-clause-call
returns-clause-call g c = (
  Ok _,
  ap (λ h. Ok h) (packed_is c.pack.result c.in_ok-made.made c.pack.ensures),
  forgets (makes (Ok c.in_ok-made.made) c.requires.ready c.in-Some.ensures.some c.empty.ensures.place
      c.empty.ensures.size c.in_ok-made.ensures.call),
)
