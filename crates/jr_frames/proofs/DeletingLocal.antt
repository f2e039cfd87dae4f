-- Local references are deleted.
use Rattle.std.proofs.Common.{◌≡◌, ℕ, true, false, not, Option, Some, None}
use Rattle.std.proofs.Common.{[], ◌∷◌, Result, Ok, Err, refl, sym, ap, subst}
use Rattle.jr_word.specs.declared.config.Config.{Config}
use Rattle.jr_word.specs.declared.fault.Fault.{Fault}
use Rattle.jr_word.specs.declared.fault.Fault.TheVariants as fault
use Rattle.jr_model.specs.declared.event.Act.TheVariants.{LocalDrop}
use Rattle.jr_model.specs.State.{Handle}
use Rattle.jr_model.specs.History.{PassView, IsLegal}
use Rattle.jr_model.specs.Frames.{Frames, without_local, object_of}
use Rattle.jr_model.specs.Calls.{Ran, ◌>>=◌}
use Rattle.jr_model.specs.Checks.{Nothing, Malformed, Parts, is_local, is_out_of_bounds, is_foreign}
use Rattle.jr_model.specs.Parts.{drop_local, local_answer, looked_at}
use Rattle.jr_model.proofs.Windows.{window_act}
use Rattle.jr_model.proofs.Runs.{ran_done, ran_then, ran_err}
use Rattle.jr_steps.specs.Knowing.{AreOf, Facts, view, keeps, HasOptional, Took}
use Rattle.jr_steps.proofs.StepFacts.{goes_did}
use Rattle.jr_model.specs.References.{local_removal}
use Rattle.jr_frames.specs.Table.{IsOnly}
use Rattle.jr_frames.specs.OverSteps.{Calls}
use Rattle.jr_gate.proofs.Spending.{made_of, spend_step}
use Rattle.jr_gate.proofs.SameRoom.{as_before}
use Rattle.jr_frames.proofs.FramesAgree.{holds_dropped}
use Rattle.jr_frames.proofs.Reading.{ran_refused, ran_passed, ran_local}
use Rattle.jr_frames.proofs.Resolution.{stays}

module _ (c : Config) (t : ℕ) {p q : PassView} {f g : Frames} (h : Handle) where
  local_ran : {answer : Result (Unit {0}) Fault} → is_local h ≡ true → is_out_of_bounds c (Parts h) ≡ false
      → is_foreign t (Parts h) ≡ false → Ran p q f g (looked_at h >>= (λ _. drop_local h)) answer
      → Ran p q f g (local_removal c t (Parts h)) answer
  local_ran e e' e'' r =
      ran_passed false fault.Stale _ refl (ran_passed (not (is_local h)) fault.WrongKind _ (ap not e)
      (ran_passed (is_out_of_bounds c (Parts h)) fault.Stale _ e'
      (ran_passed (is_foreign t (Parts h)) fault.Foreign _ e'' r)))

looked_ran : {p : PassView} {f : Frames} (h : Handle) (z : Option ℕ) → is_local h ≡ true → z ≡ object_of f h
    → IsLegal p.config p.last p.seen → Ran p p f f (looked_at h) (local_answer z)
looked_ran {p} {f} h z e is l = subst (λ y. Ran p p f f (looked_at h) (local_answer y)) (sym is) (ran_local p f h e l)

module _ {S : Type 0} {facts : S → Facts} where
  -- the local reference of a handle that stands
  pub removes_local : {a b : S} {f g : Frames} (fits : AreOf facts) (c : Config) (t : ℕ) (h : Handle) (o : ℕ)
      → is_local h ≡ true → is_out_of_bounds c (Parts h) ≡ false → is_foreign t (Parts h) ≡ false
      → Some o ≡ object_of f h
      → Took facts a b (LocalDrop h.index ∷ []) (HasOptional None) keeps → g ≡ without_local f h
      → IsOnly f h.index None g → Calls facts a b f g (local_removal c t (Parts h)) (Ok tt)
  removes_local {a} {f = f} {g = g} fits c t h o e e' e'' is u gone only = record {
    stands_is = as_before _ u.stands_is;
    ran = λ k s m.
        let y = u.goes k s tt in
        let d = goes_did y.2 in
        let dropped : Ran (view k) (view y.0) f g (drop_local h) (Ok tt) = record {
          acts = LocalDrop h.index ∷ [];
          did = d;
          is = (refl, refl, gone);
          begun = k.seen;
          window = window_act (LocalDrop h.index) d tt tt;
          grounds = tt;
        } in (
          y.0,
          y.1,
          made_of (spend_step u (λ n i. refl) k s tt f g) (local_ran c t h e e' e''
              (ran_then {next = λ _. drop_local h} (Some o) (looked_ran h (Some o) e is (fits a k s).legal) dropped)),
          (y.3, holds_dropped k y.0 f g h.index d only (ap (λ (x : Frames). x.given) gone) m),
        );
  }

  module _ (fits : AreOf facts) (a : S) (f : Frames) (c : Config) where
    module _ (t : ℕ) where
      pub local_null : Calls facts a a f f (local_removal c t Nothing) (Ok tt)
      local_null = stays fits a f (λ p l. ran_passed false fault.Stale _ refl (ran_passed false fault.WrongKind _ refl
          (ran_passed false fault.Stale _ refl (ran_passed false fault.Foreign _ refl (ran_done p f tt l)))))

      pub local_malformed : Calls facts a a f f (local_removal c t Malformed) (Err fault.Stale)
      local_malformed = stays fits a f (λ p l. ran_refused p f true fault.Stale _ refl tt l)

      pub local_other : (h : Handle) → is_local h ≡ false
          → Calls facts a a f f (local_removal c t (Parts h)) (Err fault.WrongKind)
      local_other h e = stays fits a f (λ p l.
          ran_passed false fault.Stale _ refl (ran_refused p f (not (is_local h)) fault.WrongKind _ (ap not e) tt l))

      module _ (h : Handle) (e : is_local h ≡ true) where
        pub local_outside : is_out_of_bounds c (Parts h) ≡ true
            → Calls facts a a f f (local_removal c t (Parts h)) (Err fault.Stale)
        local_outside e' = stays fits a f (λ p l. ran_passed false fault.Stale _ refl (ran_passed (not (is_local h))
            fault.WrongKind _ (ap not e) (ran_refused p f (is_out_of_bounds c (Parts h)) fault.Stale _ e' tt l)))

        pub local_foreign : is_out_of_bounds c (Parts h) ≡ false → is_foreign t (Parts h) ≡ true
            → Calls facts a a f f (local_removal c t (Parts h)) (Err fault.Foreign)
        local_foreign e' e'' = stays fits a f (λ p l.
            ran_passed false fault.Stale _ refl (ran_passed (not (is_local h)) fault.WrongKind _ (ap not e)
            (ran_passed (is_out_of_bounds c (Parts h)) fault.Stale _ e'
            (ran_refused p f (is_foreign t (Parts h)) fault.Foreign _ e'' tt l))))

        pub local_absent : is_out_of_bounds c (Parts h) ≡ false → is_foreign t (Parts h) ≡ false → None ≡ object_of f h
            → Calls facts a a f f (local_removal c t (Parts h)) (Err fault.Stale)
        local_absent e' e'' is = stays fits a f (λ p l.
            local_ran c t h e e' e'' (ran_err (λ _. drop_local h) fault.Stale (looked_ran h None e is l)))
