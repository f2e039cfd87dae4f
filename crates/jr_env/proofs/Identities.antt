-- The identity of what a reference is to is told, over any steps.
use Rattle.std.proofs.Common.{◌≡◌, ℕ, Option, Some, None, Result, Ok, Err, subst}
use Rattle.std.specs.Result.{IsErrAnd}
use Rattle.jr_word.specs.declared.fault.Fault.{Fault}
use Rattle.jr_word.specs.declared.fault.Fault.TheVariants.{Null}
use Rattle.jr_model.specs.Frames.{Frames}
use Rattle.jr_model.specs.Calls.{done, ◌>>=◌}
use Rattle.jr_model.specs.Checks.{Word}
use Rattle.jr_model.specs.Parts.{not_null}
use Rattle.jr_model.proofs.Runs.{did_legal, ran_done, ran_err, ran_refuse, ran_then}
use Rattle.jr_steps.specs.Knowing.{Facts, view}
use Rattle.jr_gate.proofs.HandedOn.{handed_on}
use Rattle.jr_gate.proofs.Spending.{made_of, spending}
use Rattle.jr_frames.specs.OverSteps.{Resolves}
use Rattle.jr_frames.specs.Reading.{IsReadAs}
use Rattle.jr_frames.proofs.FoundObject.{resolving}
use Rattle.jr_env.specs.Requests.{for_identity_of}
use Rattle.jr_env.specs.Works.{Serves}

module _ {S : Type 0} {facts : S → Facts} {a b : S} {f : Frames} {v : ℕ} (w : Word) (reads : IsReadAs v w) where
  -- the reference was refused
  pub names_nothing : {e : Fault} (answer : Result ℕ Fault) → IsErrAnd answer (λ y. y ≡ e)
      → Resolves facts a b f (resolving facts a w) (Err e) → Serves facts a b f f (for_identity_of v) answer
  names_nothing {e} answer given p = (
    w,
    reads,
    handed_on answer given (record {
      stands_is = p.stands_is;
      ran = λ k s m. let x = p.ran k s m in (
        x.0,
        x.1,
        made_of (spending x.2) (ran_err (λ (z : Option ℕ). not_null z >>= (λ (o : ℕ). done o)) e x.2.ran),
        (tt, x.3.1),
      );
    }),
  )

  -- it is to no object
  pub names_null : {z : Option ℕ} → z ≡ None → Resolves facts a b f (resolving facts a w) (Ok z)
      → Serves facts a b f f (for_identity_of v) (Err Null)
  names_null is r = let p = subst (λ y. Resolves facts a b f (resolving facts a w) (Ok y)) is r in (
    w,
    reads,
    record {
      stands_is = p.stands_is;
      ran = λ k s m. let x = p.ran k s m in
          let l = did_legal x.2.ran.acts x.2.ran.did in (
            x.0,
            x.1,
            made_of (spending x.2) (ran_then {next = λ z. not_null z >>= (λ (o : ℕ). done o)} None x.2.ran
                (ran_err (λ (o : ℕ). done o) Null (ran_refuse (view x.0) f Null tt l))),
            (tt, x.3.1),
          );
    },
  )

  -- it is to this object
  pub names_object : {z : Option ℕ} {o : ℕ} → z ≡ Some o → Resolves facts a b f (resolving facts a w) (Ok z)
      → Serves facts a b f f (for_identity_of v) (Ok o)
  names_object {o = o} is r =
      let p = subst (λ y. Resolves facts a b f (resolving facts a w) (Ok y)) is r in (
        w,
        reads,
        record {
          stands_is = p.stands_is;
          ran = λ k s m. let x = p.ran k s m in
              let l = did_legal x.2.ran.acts x.2.ran.did in (
                x.0,
                x.1,
                made_of (spending x.2) (ran_then {next = λ z. not_null z >>= (λ (o : ℕ). done o)} (Some o) x.2.ran
                    (ran_then {next = λ (o : ℕ). done o} o (ran_done (view x.0) f o l) (ran_done (view x.0) f o l))),
                (tt, x.3.1),
              );
        },
      )
