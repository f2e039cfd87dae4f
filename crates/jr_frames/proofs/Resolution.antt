-- References are resolved, and their types are told.
pub mod Telling
pub mod ToldWords
pub mod OneExplanation
use Rattle.std.proofs.Common.{◌≡◌, ◌≢◌, ◌⊎◌, inl, inr, ℕ, Bool, true, false, ◌||◌, cond, Option, Some}
use Rattle.std.proofs.Common.{None, IfSome, [], ◌∷◌, Result, Ok, Err, refl, sym, ap, subst, ◌∙◌}
use Rattle.jr_word.specs.declared.config.Config.{Config}
use Rattle.jr_word.specs.declared.fault.Fault.{Fault}
use Rattle.jr_word.specs.declared.fault.Fault.TheVariants as fault
use Rattle.jr_model.specs.declared.event.Found.{Found}
use Rattle.jr_model.specs.declared.event.Found.TheVariants.{Object, Cleared, Stale}
use Rattle.jr_model.specs.declared.event.Act.TheVariants.{Look}
use Rattle.jr_model.specs.State.{Handle}
use Rattle.jr_model.specs.History.{PassView, IsLegal}
use Rattle.jr_model.specs.Frames.{Frames, object_of, object_at}
use Rattle.jr_model.specs.Calls.{Call, Ran, done, ◌>>=◌}
use Rattle.jr_model.specs.Checks.{Word, Parts, is_local, is_malformed}
use Rattle.jr_model.specs.Checks.{is_out_of_bounds, is_foreign, type_found, type_local}
use Rattle.jr_model.specs.Parts.{found_answer, local_answer, look, looked, looked_at, type_at}
use Rattle.jr_model.specs.References.{resolved, typing}
use Rattle.jr_model.proofs.Stays.{did_nothing}
use Rattle.jr_model.proofs.Windows.{window_nothing}
use Rattle.jr_model.proofs.Runs.{ran_done}
use Rattle.jr_steps.specs.declared.known.Known.{Known}
use Rattle.jr_steps.specs.Knowing.{AreOf, Facts, view, anything, keeps, Holds, Goes, Took}
use Rattle.jr_steps.proofs.StepFacts.{goes_did, looked_present}
use Rattle.jr_frames.specs.OverSteps.{FoundPresent, Resolves, Calls}
use Rattle.jr_frames.specs.Reading.{word_of}
use Rattle.jr_frames.specs.declared.reference.Reference.{Reference}
use Rattle.jr_frames.specs.declared.reference.Reference.TheVariants as reference
use Rattle.jr_gate.proofs.Spending.{made_of, spending, spend_step, spend_none}
use Rattle.jr_gate.proofs.SameRoom.{nothing_changed, as_before}
use Rattle.jr_frames.proofs.FramesAgree.{holds_did, local_present}
use Rattle.jr_frames.proofs.Reading.{ran_refused, ran_passed, ran_either, ran_neither}
use Rattle.jr_frames.proofs.Reading.{ran_local, ran_remote, ran_remote_type}

remote_present : (k k' : Known) (h : Handle) (r : Found) → Goes k (Look h r ∷ []) k' → FoundPresent (found_answer r) k'
remote_present k k' h (Object o) g = looked_present h o g
remote_present k k' h Cleared g = tt
remote_present k k' h Stale g = tt

found_there : (f : Frames) (h : Handle) (z : Option ℕ) → IfSome z (λ o. object_at f h.index ≡ Some o) → (k : Known)
    → IsLegal k.config k.last k.seen → Holds f k → FoundPresent (local_answer z) k
found_there f h None at k l m = tt
found_there f h (Some o) at k l m = local_present k f h.index o l m at

module _ {S : Type 0} {facts : S → Facts} where
  pub resolves_remote : {a b : S} (f : Frames) (h : Handle) (r : Found) → is_local h ≡ false
      → Took facts a b (Look h r ∷ []) anything keeps → Resolves facts a b f (looked_at h) (found_answer r)
  resolves_remote f h r b t = record {
    stands_is = as_before _ t.stands_is;
    ran = λ k s m. let g = t.goes k s tt in let d = goes_did g.2 in (
      g.0,
      g.1,
      made_of (spend_step t (λ n i. refl) k s tt f f) (ran_remote f h r b d),
      (g.3, holds_did k g.0 f (Look h r ∷ []) d (refl, tt) m, remote_present k g.0 h r g.2),
    );
  }

  pub types_remote : {a b : S} (f : Frames) (h : Handle) (r : Found) → is_local h ≡ false
      → Took facts a b (Look h r ∷ []) anything keeps
      → Calls facts a b f f (type_at (Parts h)) (Ok (type_found h.kind r))
  types_remote f h r b t = record {
    stands_is = as_before _ t.stands_is;
    ran = λ k s m. let g = t.goes k s tt in let d = goes_did g.2 in (
      g.0,
      g.1,
      made_of (spend_step t (λ n i. refl) k s tt f f) (ran_remote_type f h r b d),
      (g.3, holds_did k g.0 f (Look h r ∷ []) d (refl, tt) m),
    );
  }

  module _ (fits : AreOf facts) (a : S) (f : Frames) where
    -- a call that takes no step
    pub stays : {A : Type 0} {call : Call A} {answer : Result A Fault}
        → ((p : PassView) → IsLegal p.config p.last p.seen → Ran p p f f call answer) → Calls facts a a f f call answer
    stays each = record {
      stands_is = nothing_changed;
      ran = λ k s m. let l = (fits a k s).legal in
          (k, s, made_of (spend_none (facts a) k f f l) (each (view k) l), (refl, m));
    }

    -- a resolution that takes no step and finds no object
    pub resolves_none : {call : Call (Option ℕ)} {answer : Result (Option ℕ) Fault}
        → ((k : Known) → FoundPresent answer k)
        → ((p : PassView) → IsLegal p.config p.last p.seen → Ran p p f f call answer) → Resolves facts a a f call answer
    resolves_none none each = record {
      stands_is = nothing_changed;
      ran = λ k s m. let l = (fits a k s).legal in
          (k, s, made_of (spend_none (facts a) k f f l) (each (view k) l), (refl, m, none k));
    }

    -- NULL and a malformed reference name no object
    pub resolves_void : (r : Reference) → ((h : Handle) → r ≢ reference.Parts h)
        → Resolves facts a a f (looked (word_of r)) (Ok None)
    resolves_void reference.Null ne = resolves_none (λ k. tt) (λ p l. ran_done p f None l)
    resolves_void reference.Malformed ne = resolves_none (λ k. tt) (λ p l. ran_done p f None l)
    resolves_void (reference.Parts h) ne = absurd (ne h refl)

    pub types_void : (c : Config) (t : ℕ) (r : Reference) → (r ≡ reference.Null) ⊎ (r ≡ reference.Malformed)
        → Calls facts a a f f (typing c t (word_of r)) (Ok 0)
    types_void c t r (inl e) =
        subst (λ z. Calls facts a a f f (typing c t (word_of z)) (Ok 0)) (sym e) (stays (λ p l. ran_done p f 0 l))
    types_void c t r (inr e) =
        subst (λ z. Calls facts a a f f (typing c t (word_of z)) (Ok 0)) (sym e) (stays (λ p l. ran_done p f 0 l))

    -- the type of what a call would refuse
    pub types_none : (x y : Bool) (work : Call ℕ) → (x || y) ≡ true
        → Calls facts a a f f (cond (x || y) (done 0) work) (Ok 0)
    types_none x y work e =
        subst (λ b. Calls facts a a f f (cond b (done 0) work) (Ok 0)) (sym e) (stays (λ p l. ran_done p f 0 l))

    pub types_local : (h : Handle) (z : Option ℕ) (n : ℕ) → is_local h ≡ true → z ≡ object_of f h → n ≡ type_local z
        → Calls facts a a f f (type_at (Parts h)) (Ok n)
    types_local h z n b is same =
        subst (λ m. Calls facts a a f f (type_at (Parts h)) (Ok m)) (sym (same ∙ ap type_local is))
        (subst (λ y. Calls facts a a f f (cond y (λ old. done (type_local (object_of old h)) old)
        (look h >>= (λ r. done (type_found h.kind r)))) (Ok (type_local (object_of f h)))) (sym b)
        (stays (λ p l. record {
          acts = [];
          did = did_nothing p l;
          is = (refl, refl, refl);
          begun = p.seen;
          window = window_nothing p;
          grounds = tt;
        })))

    pub resolves_local : (h : Handle) (z : Option ℕ) → is_local h ≡ true → z ≡ object_of f h
        → IfSome z (λ o. object_at f h.index ≡ Some o) → Resolves facts a a f (looked_at h) (local_answer z)
    resolves_local h z b is at = record {
      stands_is = nothing_changed;
      ran = λ k s m. let l = (fits a k s).legal in (
        k,
        s,
        made_of (spend_none (facts a) k f f l) (subst (λ y. Ran (view k) (view k) f f (looked_at h) (local_answer y))
            (sym is) (ran_local (view k) f h b l)),
        (refl, m, found_there f h z at k l m),
      );
    }

    module _ (c : Config) (last t : ℕ) (w : Word) where
      pub resolves_outside : (is_malformed w || is_out_of_bounds c w) ≡ true
          → Resolves facts a a f (resolved c last t w) (Err fault.Stale)
      resolves_outside e =
          resolves_none (λ k. tt) (λ p l. ran_either p f (is_malformed w) (is_out_of_bounds c w) fault.Stale _ e tt l)

      pub resolves_foreign : (is_malformed w || is_out_of_bounds c w) ≡ false → is_foreign t w ≡ true
          → Resolves facts a a f (resolved c last t w) (Err fault.Foreign)
      resolves_foreign e e' = resolves_none (λ k. tt) (λ p l. ran_neither (is_malformed w) (is_out_of_bounds c w)
          fault.Stale _ e (ran_refused p f (is_foreign t w) fault.Foreign _ e' tt l))

  pub resolves_looked : (c : Config) (last t : ℕ) {a b : S} (f : Frames) (w : Word) {answer : Result (Option ℕ) Fault}
      → (is_malformed w || is_out_of_bounds c w) ≡ false → is_foreign t w ≡ false
      → Resolves facts a b f (looked w) answer → Resolves facts a b f (resolved c last t w) answer
  resolves_looked c last t f w e e' p = record {
    stands_is = p.stands_is;
    ran = λ k s m. let r = p.ran k s m in (
      r.0,
      r.1,
      made_of (spending r.2) (ran_neither (is_malformed w) (is_out_of_bounds c w) fault.Stale _ e
          (ran_passed (is_foreign t w) fault.Foreign _ e' r.2.ran)),
      r.3,
    );
  }

  pub types_some : {a b : S} {f : Frames} {answer : Result ℕ Fault} (x y : Bool) (work : Call ℕ) → x ≡ false → y ≡ false
      → Calls facts a b f f work answer → Calls facts a b f f (cond (x || y) (done 0) work) answer
  types_some {a} {b} {f} {answer} false y work e e' p =
      subst (λ z. Calls facts a b f f (cond z (done 0) work) answer) (sym e') p
  types_some true y work e e' p = absurd cc
