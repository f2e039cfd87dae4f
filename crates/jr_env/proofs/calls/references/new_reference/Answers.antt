use Rattle.std.proofs.Common.{None, Some, Err, Ok, ap, refl}
use Rattle.jr_model.specs.Parts.{created}
use Rattle.jr_frames.specs.Reading.{word_of}
use Rattle.jr_env.proofs.EnvCalls.{packed_is}
use Rattle.jr_env.proofs.NewReference.{creates_refused, creates_none, creates_full, creates_won, may_create}
use Rattle.jr_env.proofs.Served.{forgets, refused_is}
use Rattle.jr_env.proofs.calls.references.new_reference.Goals as goal

pub returns-in_err-object : goal.returns-in_err-object
returns-in_err-object g c =
    let s = (g.S.Steps.facts c.args.steps.now).stands in (
      Err _,
      refused_is c.from_residual.result c.from_residual.ensures.1,
      (
        word_of c.of-target.result,
        c.of-target.ensures.reads,
        forgets (creates_refused
            (created s.config.slots c.args.kind) (Err _) refl c.in_err-object.ensures),
      ),
    )

pub returns-in_default : goal.returns-in_default
returns-in_default g c =
    let s = (g.S.Steps.facts c.args.steps.now).stands in (
      Ok None,
      refl,
      (
        word_of c.of-target.result,
        c.of-target.ensures.reads,
        forgets (creates_none s.config.slots c.args.kind
            c.in_default.is c.in_ok-object.ensures),
      ),
    )

pub create-requires-clause-object : goal.create-requires-clause-object
create-requires-clause-object g c = may_create c.in-Some.is c.in_ok-object.ensures c.requires.ready.own.agrees

pub returns-in_err-made : goal.returns-in_err-made
returns-in_err-made g c = (
  Err _,
  refused_is c.from_residual-in_err-made.result c.from_residual-in_err-made.ensures.1,
  (
    word_of c.of-target.result,
    c.of-target.ensures.reads,
    forgets (creates_full g.met.S.Steps.fits
        c.requires.ready.role_is c.args.kind (Err _) refl c.in-Some.is c.in_ok-object.ensures
        c.in_err-made.ensures.err c.in_err-made.ensures.stays),
  ),
)

pub returns : goal.returns
returns g c = (
  Ok (Some c.in_ok-made.made),
  ap (λ h. Ok (Some h)) (packed_is c.pack.result c.in_ok-made.made c.pack.ensures),
  (
    word_of c.of-target.result,
    c.of-target.ensures.reads,
    forgets (creates_won g.met.S.Steps.fits c.in-Some.is
        c.in_ok-object.ensures c.in_ok-made.ensures.ok c.in_ok-made.ensures.next),
  ),
)
