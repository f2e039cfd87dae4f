-- Two references are resolved, each check of the first and then of the second, and compared.
use Rattle.std.proofs.Common.{◌≡◌, ◌≢◌, ℕ, true, false, ◌||◌, Bool, cond, Option, Some, None, List}
use Rattle.std.proofs.Common.{◌∷◌, ◌++◌, Result, Ok, Err, inl, inr, nat_eq, refl, sym, ap, subst, ◌∙◌}
use Rattle.std.specs.List.{AllByRecursion}
use Rattle.std.specs.Option.{option_eq}
use Rattle.std.specs.Result.{IsErrAnd}
use Rattle.jr_word.specs.declared.config.Config.{Config}
use Rattle.jr_word.specs.declared.fault.Fault.{Fault}
use Rattle.jr_word.specs.declared.fault.Fault.TheVariants as fault
use Rattle.jr_model.specs.declared.event.Role.TheVariants.{Within}
use Rattle.jr_model.specs.declared.event.Act.{Act}
use Rattle.jr_model.specs.declared.event.Act.TheVariants.{Gate, Look}
use Rattle.jr_model.specs.declared.event.GateAct.TheVariants.{Leave}
use Rattle.jr_model.specs.State.{Handle}
use Rattle.jr_model.specs.History.{PassView, IsLegal, role_of, Did}
use Rattle.jr_model.specs.Frames.{Frames, object_of}
use Rattle.jr_model.specs.Calls.{Call, Ran, done, ◌>>=◌}
use Rattle.jr_model.specs.Checks.{Word, Nothing, Malformed, Parts, is_local, is_malformed}
use Rattle.jr_model.specs.Checks.{is_out_of_bounds, is_foreign, same_object}
use Rattle.jr_model.specs.Parts.{found_object, local_object, look, looked}
use Rattle.jr_model.specs.References.{resolved_both}
use Rattle.jr_model.proofs.Runs.{ran_then, ran_err, ran_give}
use Rattle.jr_steps.specs.declared.known.Known.{Known}
use Rattle.jr_steps.specs.Knowing.{AreOf, Facts, view, HasOptional}
use Rattle.jr_steps.proofs.StepFacts.{present_stays}
use Rattle.jr_frames.specs.OverSteps.{Resolves, ResolvesBoth, Calls}
use Rattle.jr_gate.proofs.SameRoom.{nothing_changed, still_before}
use Rattle.jr_frames.proofs.Reading.{ran_either, ran_neither}
use Rattle.jr_frames.proofs.NewLocal.{found_optional}
use Rattle.jr_gate.proofs.Spending.{made_of, spending, spend_first, spend_none}
use Rattle.jr_gate.proofs.HandedOn.{handed_on}

-- what follows the tests: both are looked at
abbrev pub looked_both : Word → Word → Call (Option ℕ × Option ℕ)
looked_both v w = looked v >>= (λ x. looked w >>= (λ y. done (x, y)))

-- a look is no leave
at_stays : (b : Bool) (h : Handle) (f g : Frames) (acts : List Act) (answer : Result (Option ℕ) Fault)
    → cond b (λ old. local_object (object_of old h) old) (look h >>= found_object) f acts answer g
    → AllByRecursion (λ a. a ≢ Gate Leave) acts
at_stays true h f g acts answer y = subst (λ l. AllByRecursion (λ a. a ≢ Gate Leave) l) (sym y.0) tt
at_stays false h f g acts answer (inl y) = subst (λ l. AllByRecursion (λ a. a ≢ Gate Leave) l)
    (sym (y.4 ∙ (ap (λ l. l ++ y.3) y.5.1 ∙ ap (λ l. Look h y.5.0 ∷ l) y.6.0))) ((λ e. cc), tt)
at_stays false h f g acts answer (inr y) =
    subst (λ l. AllByRecursion (λ a. a ≢ Gate Leave) l) (sym y.2.1) ((λ e. cc), tt)

looks_stay : (w : Word) (f g : Frames) (acts : List Act) (answer : Result (Option ℕ) Fault) → looked w f acts answer g
    → AllByRecursion (λ a. a ≢ Gate Leave) acts
looks_stay Nothing f g acts answer y = subst (λ l. AllByRecursion (λ a. a ≢ Gate Leave) l) (sym y.0) tt
looks_stay Malformed f g acts answer y = subst (λ l. AllByRecursion (λ a. a ≢ Gate Leave) l) (sym y.0) tt
looks_stay (Parts h) f g acts answer y = at_stays (is_local h) h f g acts answer y

optional_stays : (k k' : Known) (acts : List Act) (z : Option ℕ) → Did (view k) (view k') acts
    → role_of (view k) ≡ Within → AllByRecursion (λ a. a ≢ Gate Leave) acts → HasOptional z k → HasOptional z k'
optional_stays k k' acts None d w q p = tt
optional_stays k k' acts (Some o) d w q p = present_stays k k' acts o d w q p

module _ (c : Config) (last t : ℕ) (v w : Word) where
  -- the tests are passed by both
  pub record Passes : Type 0 where
    pub formed : (is_malformed v || is_malformed w) ≡ false
    pub inside : (is_out_of_bounds c v || is_out_of_bounds c w) ≡ false
    pub own : (is_foreign t v || is_foreign t w) ≡ false

  -- asked with the same sizes, and of the same thread
  pub passes : {k : Config} {u : ℕ} → k ≡ c → u ≡ t → (is_malformed v || is_malformed w) ≡ false
      → (is_out_of_bounds k v || is_out_of_bounds k w) ≡ false → (is_foreign u v || is_foreign u w) ≡ false → Passes
  passes sizes thread a b d = record {
    formed = a;
    inside = ap (λ (k : Config). is_out_of_bounds k v || is_out_of_bounds k w) (sym sizes) ∙ b;
    own = ap (λ (u : ℕ). is_foreign u v || is_foreign u w) (sym thread) ∙ d;
  }

  passed_ran : {p q : PassView} {f g : Frames} {answer : Result (Option ℕ × Option ℕ) Fault} → Passes
      → Ran p q f g (looked_both v w) answer → Ran p q f g (resolved_both c last t v w) answer
  passed_ran passes r =
      ran_neither (is_malformed v) (is_malformed w) fault.Stale _ passes.formed
      (ran_neither (is_out_of_bounds c v) (is_out_of_bounds c w) fault.Stale _ passes.inside
      (ran_neither (is_foreign t v) (is_foreign t w) fault.Foreign _ passes.own r))

  module _ {S : Type 0} {facts : S → Facts} where
    module _ (fits : AreOf facts) (a : S) (f : Frames) where
      -- a refusal before any step
      both_none : {e : Fault}
          → ((p : PassView) → IsLegal p.config p.last p.seen → Ran p p f f (resolved_both c last t v w) (Err e))
          → ResolvesBoth facts a a f (resolved_both c last t v w) (Err e)
      both_none each = record {
        stands_is = nothing_changed;
        ran = λ k s m. let l = (fits a k s).legal in
            (k, s, made_of (spend_none (facts a) k f f l) (each (view k) l), (refl, m, tt));
      }

      pub both_malformed : (is_malformed v || is_malformed w) ≡ true
          → ResolvesBoth facts a a f (resolved_both c last t v w) (Err fault.Stale)
      both_malformed e = both_none (λ p l. ran_either p f (is_malformed v) (is_malformed w) fault.Stale _ e tt l)

      pub both_outside : (is_malformed v || is_malformed w) ≡ false
          → (is_out_of_bounds c v || is_out_of_bounds c w) ≡ true
          → ResolvesBoth facts a a f (resolved_both c last t v w) (Err fault.Stale)
      both_outside e e' = both_none (λ p l. ran_neither (is_malformed v) (is_malformed w) fault.Stale _ e
          (ran_either p f (is_out_of_bounds c v) (is_out_of_bounds c w) fault.Stale _ e' tt l))

      pub both_foreign : (is_malformed v || is_malformed w) ≡ false
          → (is_out_of_bounds c v || is_out_of_bounds c w) ≡ false → (is_foreign t v || is_foreign t w) ≡ true
          → ResolvesBoth facts a a f (resolved_both c last t v w) (Err fault.Foreign)
      both_foreign e e' e'' = both_none (λ p l.
          ran_neither (is_malformed v) (is_malformed w) fault.Stale _ e
          (ran_neither (is_out_of_bounds c v) (is_out_of_bounds c w) fault.Stale _ e'
          (ran_either p f (is_foreign t v) (is_foreign t w) fault.Foreign _ e'' tt l)))

    module _ {a b : S} {f : Frames} where
      both_refused : {e : Fault} (answer : Result (Option ℕ × Option ℕ) Fault) → IsErrAnd answer (λ y. y ≡ e)
          → ResolvesBoth facts a b f (resolved_both c last t v w) (Err e)
          → ResolvesBoth facts a b f (resolved_both c last t v w) answer
      both_refused (Ok x) given p = absurd given
      both_refused (Err d) given p =
          subst (λ y. ResolvesBoth facts a b f (resolved_both c last t v w) (Err y)) (sym given) p

    module _ {a b : S} {f : Frames} (passes : Passes) where
      -- the first is refused
      pub both_err_left : {e : Fault} (answer : Result (Option ℕ × Option ℕ) Fault) → IsErrAnd answer (λ y. y ≡ e)
          → Resolves facts a b f (looked v) (Err e) → ResolvesBoth facts a b f (resolved_both c last t v w) answer
      both_err_left {e} answer given p = both_refused answer given (record {
        stands_is = p.stands_is;
        ran = λ k s m. let x = p.ran k s m in
            (x.0, x.1, made_of (spending x.2) (passed_ran passes (ran_err _ e x.2.ran)), (x.3.0, x.3.1, tt));
      })

      -- the second is refused
      pub both_err_right : {d : S} {x : Option ℕ} {e : Fault} (answer : Result (Option ℕ × Option ℕ) Fault)
          → IsErrAnd answer (λ y. y ≡ e) → Resolves facts a b f (looked v) (Ok x)
          → Resolves facts b d f (looked w) (Err e) → ResolvesBoth facts a d f (resolved_both c last t v w) answer
      both_err_right {x = x} {e = e} answer given p q = both_refused answer given (record {
        stands_is = still_before p.stands_is q.stands_is;
        ran = λ k s m. let y = p.ran k s m in let z = q.ran y.0 y.1 y.3.1 in (
          z.0,
          z.1,
          made_of (spend_first (spending y.2) (spending z.2))
              (passed_ran passes (ran_then x y.2.ran (ran_err _ e z.2.ran))),
          (z.3.0 ∙ y.3.0, z.3.1, tt),
        );
      })

      -- the first object stays while the second reference is looked at
      pub both_looked : {d : S} {x y : Option ℕ} (fits : AreOf facts) → (facts a).stands.role ≡ Within
          → Resolves facts a b f (looked v) (Ok x) → Resolves facts b d f (looked w) (Ok y)
          → ResolvesBoth facts a d f (resolved_both c last t v w) (Ok (x, y))
      both_looked {x = x} {y = y} fits within p q = record {
        stands_is = still_before p.stands_is q.stands_is;
        ran = λ k s m. let u = p.ran k s m in let z = q.ran u.0 u.1 u.3.1 in
            let role = (fits b u.0 u.1).role ∙ (p.stands_is.role ∙ within) in
            let first = optional_stays u.0 z.0 z.2.ran.acts x z.2.ran.did role
            (looks_stay w f f z.2.ran.acts (Ok y) z.2.ran.is) (found_optional x u.0 u.3.2) in (
              z.0,
              z.1,
              made_of (spend_first (spending u.2) (spending z.2))
                  (passed_ran passes (ran_then x u.2.ran (ran_give (λ n. (x, n)) y z.2.ran))),
              (z.3.0 ∙ u.3.0, z.3.1, (first, found_optional y z.0 z.3.2)),
            );
      }

same_is : (x y : Option ℕ) → option_eq nat_eq x y ≡ same_object x y
same_is None None = refl
same_is None (Some y) = refl
same_is (Some x) None = refl
same_is (Some x) (Some y) = refl

module _ {S : Type 0} {facts : S → Facts} {a b : S} {f : Frames} {both : Call (Option ℕ × Option ℕ)} where
  pub compares_refused : {e : Fault} (answer : Result Bool Fault) → IsErrAnd answer (λ y. y ≡ e)
      → ResolvesBoth facts a b f both (Err e) → Calls facts a b f f (both >>= (λ z. done (same_object z.0 z.1))) answer
  compares_refused {e} answer given p = handed_on answer given (record {
    stands_is = p.stands_is;
    ran = λ k s m. let x = p.ran k s m in (x.0, x.1, made_of (spending x.2) (ran_err _ e x.2.ran), (x.3.0, x.3.1));
  })

  pub compares : {x y : Option ℕ} {same : Bool} → same ≡ option_eq nat_eq x y
      → ResolvesBoth facts a b f both (Ok (x, y))
      → Calls facts a b f f (both >>= (λ z. done (same_object z.0 z.1))) (Ok same)
  compares {x} {y} is p = subst (λ r. Calls facts a b f f (both >>= (λ z. done (same_object z.0 z.1))) (Ok r))
      (sym (is ∙ same_is x y)) (record {
        stands_is = p.stands_is;
        ran = λ k s m. let u = p.ran k s m in
            (u.0, u.1, made_of (spending u.2) (ran_give (λ z. same_object z.0 z.1) (x, y) u.2.ran), (u.3.0, u.3.1));
      })
