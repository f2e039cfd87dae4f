-- References are deleted by the call for their kind.
use Rattle.std.proofs.Common.{◌≡◌, true, false, not, List, [], ◌∷◌, ◌++◌, Result, Ok, Err, ⊎_elim, refl, sym, ap, subst}
use Rattle.std.specs.List.{AllByRecursion}
use Rattle.jr_word.specs.declared.config.Config.{Config}
use Rattle.jr_word.specs.declared.handle.RefKind.{RefKind}
use Rattle.jr_word.specs.declared.fault.Fault.{Fault}
use Rattle.jr_word.specs.declared.fault.Fault.TheVariants as fault
use Rattle.jr_model.specs.declared.event.Found.{Found}
use Rattle.jr_model.specs.declared.event.Found.TheVariants.{Stale}
use Rattle.jr_model.specs.declared.event.Act.{Act}
use Rattle.jr_model.specs.State.{Handle, same_kind}
use Rattle.jr_model.specs.History.{PassView}
use Rattle.jr_model.specs.Frames.{Frames}
use Rattle.jr_model.specs.Calls.{Ran}
use Rattle.jr_model.specs.Checks.{Nothing, Malformed, Parts, is_out_of_bounds}
use Rattle.jr_model.specs.Parts.{delete, delete_found}
use Rattle.jr_model.proofs.Agreement.{spares_places}
use Rattle.jr_model.proofs.Runs.{ran_done}
use Rattle.jr_steps.specs.Knowing.{AreOf, Facts, anything, keeps}
use Rattle.jr_model.specs.References.{removal}
use Rattle.jr_gate.specs.Performing.{Performed}
use Rattle.jr_frames.specs.OverSteps.{Calls}
use Rattle.jr_gate.proofs.Spending.{made_of, spending}
use Rattle.jr_frames.proofs.FramesAgree.{holds_did}
use Rattle.jr_frames.proofs.Reading.{ran_refused, ran_passed}
use Rattle.jr_frames.proofs.Resolution.{stays}

-- THE ACTS of a delete leave the locals as they are
abbrev Spare : List Act → Type 0
Spare acts = AllByRecursion (λ a. spares_places a ≡ true) acts

spare_both : (xs ys : List Act) → Spare xs → Spare ys → Spare (xs ++ ys)
spare_both [] ys p q = q
spare_both (x ∷ xs) ys p q = (p.0, spare_both xs ys p.1 q)

found_spares : (h : Handle) (x : Found) (f g : Frames) (acts : List Act) (answer : Result (Unit {0}) Fault)
    → delete_found h x f acts answer g → Spare acts
found_spares h Stale f g acts answer r = subst Spare (sym r.0) tt
found_spares h _ f g acts answer r = ⊎_elim
    (λ won. subst Spare (sym won.0) (refl, tt))
    (λ lost. ⊎_elim
    (λ both. subst Spare (sym both.4)
    (spare_both both.2 both.3 (subst Spare (sym both.5.0) (refl, tt)) (subst Spare (sym both.6.0) tt)))
    (λ first. subst Spare (sym first.2.0) (refl, tt))
    lost)
    r

delete_spares : (h : Handle) (f g : Frames) (acts : List Act) (answer : Result (Unit {0}) Fault)
    → delete h f acts answer g → Spare acts
delete_spares h f g acts answer r = ⊎_elim
    (λ both. subst Spare (sym both.4) (spare_both both.2 both.3 (subst Spare (sym both.5.1) (refl, tt))
    (found_spares h both.0 both.1 g both.3 answer both.6)))
    (λ first. subst Spare (sym first.2.1) (refl, tt))
    r

module _ (c : Config) (k : RefKind) {p q : PassView} {f g : Frames} (h : Handle) where
  removed_ran : {answer : Result (Unit {0}) Fault} → same_kind k h.kind ≡ true → is_out_of_bounds c (Parts h) ≡ false
      → Ran p q f g (delete h) answer → Ran p q f g (removal c k (Parts h)) answer
  removed_ran e e' r = ran_passed false fault.Stale _ refl (ran_passed (not (same_kind k h.kind)) fault.WrongKind _
      (ap not e) (ran_passed (is_out_of_bounds c (Parts h)) fault.Stale _ e' r))

module _ {S : Type 0} {facts : S → Facts} where
  -- a delete leaves the frames in agreement
  deletes : {a b : S} {h : Handle} {answer : Result (Unit {0}) Fault}
      → ((f : Frames) → Performed facts a b f f 0 anything (λ s. delete h) answer keeps) → (f : Frames)
      → Calls facts a b f f (delete h) answer
  deletes {h = h} {answer = answer} p f = record {
    stands_is = (p f).stands_is;
    ran = λ k s m. let x = (p f).ran k s tt in
        let r = x.2.ran in
        (x.0, x.1, x.2, (x.3, holds_did k x.0 f r.acts r.did (delete_spares h f f r.acts answer r.is) m));
  }

  pub removes : {a b : S} (c : Config) (k : RefKind) (h : Handle) {answer : Result (Unit {0}) Fault}
      → same_kind k h.kind ≡ true → is_out_of_bounds c (Parts h) ≡ false
      → ((f : Frames) → Performed facts a b f f 0 anything (λ s. delete h) answer keeps)
      → (f : Frames) → Calls facts a b f f (removal c k (Parts h)) answer
  removes c k h e e' p f = let r = deletes p f in record {
    stands_is = r.stands_is;
    ran = λ k' s m. let x = r.ran k' s m in (x.0, x.1, made_of (spending x.2) (removed_ran c k h e e' x.2.ran), x.3);
  }

  module _ (fits : AreOf facts) (a : S) (f : Frames) (c : Config) where
    pub removes_null : (k : RefKind) → Calls facts a a f f (removal c k Nothing) (Ok tt)
    removes_null k = stays fits a f (λ p l. ran_passed false fault.Stale _ refl
        (ran_passed false fault.WrongKind _ refl (ran_passed false fault.Stale _ refl (ran_done p f tt l))))

    pub removes_malformed : (k : RefKind) → Calls facts a a f f (removal c k Malformed) (Err fault.Stale)
    removes_malformed k = stays fits a f (λ p l. ran_refused p f true fault.Stale _ refl tt l)

    pub removes_other : (k : RefKind) (h : Handle) → same_kind k h.kind ≡ false
        → Calls facts a a f f (removal c k (Parts h)) (Err fault.WrongKind)
    removes_other k h e = stays fits a f (λ p l. ran_passed false fault.Stale _ refl
        (ran_refused p f (not (same_kind k h.kind)) fault.WrongKind _ (ap not e) tt l))

    pub removes_outside : (k : RefKind) (h : Handle) → same_kind k h.kind ≡ true → is_out_of_bounds c (Parts h) ≡ true
        → Calls facts a a f f (removal c k (Parts h)) (Err fault.Stale)
    removes_outside k h e e' =
        stays fits a f (λ p l. ran_passed false fault.Stale _ refl (ran_passed (not (same_kind k h.kind))
        fault.WrongKind _ (ap not e) (ran_refused p f (is_out_of_bounds c (Parts h)) fault.Stale _ e' tt l)))
