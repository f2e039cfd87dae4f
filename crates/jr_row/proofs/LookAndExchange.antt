-- A delete is one look and one exchange.
use Rattle.std.proofs.Common.{◌≡◌, ℕ, Option, Some, None, [], ◌∷◌, Result, Ok, Err, inl, inr, refl, ap, subst, ◌∙◌}
use Rattle.std.specs.Result.{IsErrAnd}
use mathlib.Core.Logic.{∥∥₁_map}
use Rattle.jr_word.specs.declared.fault.Fault.{Fault}
use Rattle.jr_word.specs.declared.fault.Fault.TheVariants as fault
use Rattle.jr_model.specs.declared.event.Found.{Found}
use Rattle.jr_model.specs.declared.event.Found.TheVariants as found
use Rattle.jr_model.specs.declared.event.Act.{Act}
use Rattle.jr_model.specs.declared.event.Act.TheVariants.{Look, Delete, DeleteStale}
use Rattle.jr_model.specs.State.{Handle}
use Rattle.jr_model.specs.History.{PassView, Did}
use Rattle.jr_model.specs.Frames.{Frames}
use Rattle.jr_model.specs.Calls.{Ran, act, refuse, ◌>>◌}
use Rattle.jr_model.specs.Parts.{delete, delete_found, found_answer}
use Rattle.jr_model.proofs.Runs.{ran_act, ran_some_act, ran_refuse, ran_then, did_legal}
use Rattle.jr_steps.specs.declared.known.Known.{Known}
use Rattle.jr_steps.specs.Acts.{found_of}
use Rattle.jr_steps.specs.Knowing.{Facts, view, anything, keeps, HasLooked, MayKnow, Took, Goes}
use Rattle.jr_steps.proofs.StepFacts.{goes_did, looked_now}
use Rattle.jr_gate.specs.Performing.{Performed, thread_state}
use Rattle.jr_gate.proofs.SameRoom.{as_before, still_before}
use Rattle.jr_gate.proofs.Spending.{KeepsHint, Spending, made_of, spend_first, spend_step}
use Rattle.jr_gate.proofs.HandedOn.{handed_on}

-- what a look found, by what it answers
found_some : (r : Found) (z : Option ℕ) → found_answer r ≡ Ok z → r ≡ found_of z
found_some (found.Object o) z e = let same : Some o ≡ z = cc in ap (λ y. found_of y) same
found_some found.Cleared z e = let same : None ≡ z = cc in ap (λ y. found_of y) same
found_some found.Stale z e = cc

found_none : (r : Found) (e : Fault) → found_answer r ≡ Err e → (r ≡ found.Stale) × (e ≡ fault.Stale)
found_none (found.Object o) e is = absurd cc
found_none found.Cleared e is = absurd cc
found_none found.Stale e is = (refl, cc)

won : (p q : PassView) (f : Frames) (h : Handle) (z : Option ℕ) → Did p q (Delete h ∷ [])
    → Ran p q f f (delete_found h (found_of z)) (Ok tt)
won p q f h (Some o) d = let r = ran_act f (Delete h) tt tt d in
    record { acts = r.acts; did = r.did; is = inl r.is; begun = r.begun; window = r.window; grounds = tt }
won p q f h None d = let r = ran_act f (Delete h) tt tt d in
    record { acts = r.acts; did = r.did; is = inl r.is; begun = r.begun; window = r.window; grounds = tt }

lost_then : (p q : PassView) (f : Frames) (h : Handle) → Did p q (DeleteStale h ∷ [])
    → Ran p q f f (act (DeleteStale h) >> refuse {A = Unit {0}} fault.Stale) (Err fault.Stale)
lost_then p q f h d = ran_then {g = f} {next = λ u. refuse {A = Unit {0}} fault.Stale} tt
    (ran_act f (DeleteStale h) tt tt d) (ran_refuse q f fault.Stale tt (did_legal (DeleteStale h ∷ []) d))

lost : (p q : PassView) (f : Frames) (h : Handle) (z : Option ℕ) → Did p q (DeleteStale h ∷ [])
    → Ran p q f f (delete_found h (found_of z)) (Err fault.Stale)
lost p q f h (Some o) d = let r = lost_then p q f h d in
    record { acts = r.acts; did = r.did; is = inr r.is; begun = r.begun; window = r.window; grounds = tt }
lost p q f h None d = let r = lost_then p q f h d in
    record { acts = r.acts; did = r.did; is = inr r.is; begun = r.begun; window = r.window; grounds = tt }

module _ {S : Type 0} {facts : S → Facts} {a b : S} (h : Handle) (r : Found)
    (t : Took facts a b (Look h r ∷ []) anything keeps) where
  stale_ran : r ≡ found.Stale → (k k' : Known) → Goes k (Look h r ∷ []) k' → (f : Frames)
      → Ran (view k) (view k') f f (delete h) (Err fault.Stale)
  stale_ran is k k' g f = let d = goes_did (subst (λ x. Goes k (Look h x ∷ []) k') is g) in
      ran_then found.Stale (ran_some_act f (Look h) found.Stale tt tt d)
      (ran_refuse (view k') f fault.Stale tt (did_legal (Look h found.Stale ∷ []) d))

  pub deleted_none : {e : Fault} (answer : Result (Unit {0}) Fault) → found_answer r ≡ Err e
      → IsErrAnd answer (λ y. y ≡ e) → (f : Frames) → Performed facts a b f f 0 anything (λ s. delete h) answer keeps
  deleted_none {e} answer is given f =
      let why = found_none r e is in
      handed_on answer (subst (λ y. IsErrAnd answer (λ z. z ≡ y)) why.1 given) (record {
        stands_is = as_before _ t.stands_is;
        ran = λ k s m. let g = t.goes k s m in
            (g.0, g.1, made_of (spend_step t (λ n i. refl) k s m f f) (stale_ran why.0 k g.0 g.2 f), g.3);
      })

  module _ (z : Option ℕ) (is : found_answer r ≡ Ok z) where
    looked : (k k' : Known) → Goes k (Look h r ∷ []) k' → HasLooked h (found_of z) k'
    looked k k' g = subst (λ x. HasLooked h x k') (found_some r z is) (looked_now h r g)

    looked_did : (k k' : Known) → Goes k (Look h r ∷ []) k' → Did (view k) (view k') (Look h (found_of z) ∷ [])
    looked_did k k' g = goes_did (subst (λ x. Goes k (Look h x ∷ []) k') (found_some r z is) g)

    pub may_delete : MayKnow facts a anything → MayKnow facts b (HasLooked h (found_of z))
    may_delete some = ∥∥₁_map some (λ k. let g = t.goes k.0 k.1 tt in (g.0, g.1, looked k.0 g.0 g.2))

    -- a look and an exchange
    spent_both : {c : S} {x : Act} (u : Took facts b c (x ∷ []) (HasLooked h (found_of z)) keeps) → KeepsHint x
        → (k : Known) (s : (facts a).knows k) (m : anything k) (f : Frames)
        → let g = t.goes k s m in
        Spending 0 (thread_state (facts a) k f) (thread_state (facts c) (u.goes g.0 g.1 (looked k g.0 g.2)).0 f)
    spent_both u keeps k s m f = let g = t.goes k s m in
        spend_first (spend_step t (λ n i. refl) k s m f f) (spend_step u keeps g.0 g.1 (looked k g.0 g.2) f f)

    pub deleted_won : {c : S} → Took facts b c (Delete h ∷ []) (HasLooked h (found_of z)) keeps → (f : Frames)
        → Performed facts a c f f 0 anything (λ s. delete h) (Ok tt) keeps
    deleted_won u f = record {
      stands_is = still_before (as_before _ t.stands_is) (as_before _ u.stands_is);
      ran = λ k s m. let g = t.goes k s m in let e = u.goes g.0 g.1 (looked k g.0 g.2) in (
        e.0,
        e.1,
        made_of (spent_both u (λ n i. refl) k s m f) (ran_then (found_of z) (ran_some_act f (Look h) (found_of z) tt tt
            (looked_did k g.0 g.2)) (won (view g.0) (view e.0) f h z (goes_did e.2))),
        e.3 ∙ g.3,
      );
    }

    pub deleted_lost : {c : S} → Took facts b c (DeleteStale h ∷ []) (HasLooked h (found_of z)) keeps → (f : Frames)
        → Performed facts a c f f 0 anything (λ s. delete h) (Err fault.Stale) keeps
    deleted_lost u f = record {
      stands_is = still_before (as_before _ t.stands_is) (as_before _ u.stands_is);
      ran = λ k s m. let g = t.goes k s m in let e = u.goes g.0 g.1 (looked k g.0 g.2) in (
        e.0,
        e.1,
        made_of (spent_both u (λ n i. refl) k s m f) (ran_then (found_of z) (ran_some_act f (Look h) (found_of z) tt tt
            (looked_did k g.0 g.2)) (lost (view g.0) (view e.0) f h z (goes_did e.2))),
        e.3 ∙ g.3,
      );
    }
