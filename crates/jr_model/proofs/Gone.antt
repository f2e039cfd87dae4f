-- A local handle that stands no more never stands again.
use Rattle.std.proofs.Common.{◌≡◌, ◌+◌, ℕ, Bool, true, false, not, cond, Option, Some, None, IsSome}
use Rattle.std.proofs.Common.{List, [], ◌∷◌, ◌++◌, slice_index, refl, sym, ap, subst, ◌∙◌, arith}
use Rattle.std.specs.List.{filter, AllByRecursion}
use Rattle.jr_model.specs.declared.event.Act.{Act}
use Rattle.jr_model.specs.declared.frames.LocalRef.{LocalRef}
use Rattle.jr_model.specs.State.{Handle, same_handle}
use Rattle.jr_model.specs.Frames.{Frames, IsMove, pushes, adds, deletes, pops, frees, LeadsTo, stays, goes_on, all_refs}
use Rattle.jr_model.specs.Frames.{is_held, frames_before, joined, last_frame, object_of, object_where, stored_at}
use Rattle.jr_model.specs.Frames.{with_last}
use Rattle.jr_model.specs.History.{state}
use Rattle.jr_model.specs.Laws.{GoneStaysGone, EmptiedStaysGone, TakenIsGone}
use Rattle.jr_model.proofs.Updates.{handle_true}
use Rattle.jr_model.proofs.Locals.{IsPast, past_later, past_not_new}
use Rattle.jr_model.proofs.Agreement.{cut_last, joined_before, joined_filter, joined_last}
use Rattle.jr_model.proofs.Agreement.{joined_push, not_both, object_last, other_than, standing_held}
use Rattle.jr_model.proofs.Agreement.{handle_is_at_place, nothing_stored, places_did, stored_did}

-- the reference has the handle
abbrev pub has : Handle → LocalRef → Bool
has h r = same_handle r.handle h

-- WHAT NO REFERENCE OF A LIST HAS

absent_last : (p : LocalRef → Bool) (xs : List (List LocalRef)) (r : LocalRef) → p r ≡ false
    → object_where p (joined xs) ≡ None → object_where p (joined (with_last xs r)) ≡ None
absent_last p [] r e none = none
absent_last p (x ∷ xs) r e none =
    ap (object_where p) (joined_last (x ∷ xs) r (omega arith)) ∙ (object_last p (joined (x ∷ xs)) r e ∙ none)

absent_filter : (p k : LocalRef → Bool) (xs : List LocalRef) → object_where p xs ≡ None
    → object_where p (filter k xs) ≡ None
absent_filter p k [] none = refl
absent_filter p k (x ∷ xs) none = go (k x) (p x) refl none (absent_filter p k xs)
  where
    go : (b c : Bool) → p x ≡ c → cond c (Some x.object) (object_where p xs) ≡ None
        → (object_where p xs ≡ None → object_where p (filter k xs) ≡ None)
        → object_where p (cond b (x ∷ filter k xs) (filter k xs)) ≡ None
    go b true is none rest = absurd cc
    go true false is none rest = ap (λ c. cond c (Some x.object) (object_where p (filter k xs))) is ∙ rest none
    go false false is none rest = rest none

absent_front : (p : LocalRef → Bool) (xs ys : List LocalRef) → object_where p (xs ++ ys) ≡ None
    → object_where p xs ≡ None
absent_front p [] ys none = refl
absent_front p (x ∷ xs) ys none = go (p x) none (absent_front p xs ys)
  where
    go : (b : Bool) → cond b (Some x.object) (object_where p (xs ++ ys)) ≡ None
        → (object_where p (xs ++ ys) ≡ None → object_where p xs ≡ None)
        → cond b (Some x.object) (object_where p xs) ≡ None
    go true none rest = absurd cc
    go false none rest = rest none

absent_without : (h : Handle) (xs : List LocalRef) → object_where (has h) (filter (other_than h) xs) ≡ None
absent_without h [] = refl
absent_without h (x ∷ xs) = go (same_handle x.handle h) refl (absent_without h xs)
  where
    go : (b : Bool) → same_handle x.handle h ≡ b → object_where (has h) (filter (other_than h) xs) ≡ None
        → object_where (has h) (cond (not b) (x ∷ filter (other_than h) xs) (filter (other_than h) xs)) ≡ None
    go true is rest = rest
    go false is rest = ap (λ c. cond c (Some x.object) (object_where (has h) (filter (other_than h) xs))) is ∙ rest

absent_unheld : (h : Handle) (xs : List LocalRef) → is_held xs h.index ≡ false → object_where (has h) xs ≡ None
absent_unheld h xs free = go (object_where (has h) xs) refl
  where
    go : (x : Option ℕ) → object_where (has h) xs ≡ x → object_where (has h) xs ≡ None
    go None e = e
    go (Some o) e = let held : is_held xs h.index ≡ true = standing_held h xs (subst (λ x. IsSome x) (sym e) refl) in
        absurd cc

-- a handle that stands is the last that its place has given
newest_standing : (given : List ℕ) (h : Handle) (xs : List LocalRef)
    → AllByRecursion (λ r. slice_index given r.handle.index ≡ r.handle.serial + 1) xs → IsSome (object_where (has h) xs)
    → slice_index given h.index ≡ h.serial + 1
newest_standing given h [] all stands = absurd cc
newest_standing given h (x ∷ xs) all stands = go (same_handle x.handle h) refl stands (newest_standing given h xs all.1)
  where
    go : (b : Bool) → same_handle x.handle h ≡ b → IsSome (cond b (Some x.object) (object_where (has h) xs))
        → (IsSome (object_where (has h) xs) → slice_index given h.index ≡ h.serial + 1)
        → slice_index given h.index ≡ h.serial + 1
    go true is s rest =
        subst (λ (k : Handle). slice_index given k.index ≡ k.serial + 1) (handle_true x.handle h is) all.0
    go false is s rest = rest s

module _ (last thread : ℕ) where
  absent_move : (h : Handle) (f : Frames) {g : Frames} {acts : List Act} → IsMove last thread f acts g → IsPast h f
      → object_of f h ≡ None → object_of g h ≡ None
  absent_move h f (pushes l) p none = ap (object_where (has h)) (joined_push f.frames) ∙ none
  absent_move h f {g} (adds q a) p none = go (same_handle q.handle h) refl
    where
      go : (b : Bool) → same_handle q.handle h ≡ b → object_of g h ≡ None
      go true is = absurd (past_not_new last thread h q f g a p (handle_true q.handle h is))
      go false is = ap (λ (x : Frames). object_of x h) a.new_is ∙ absent_last (has h) f.frames q is none
  absent_move h f (deletes k s) p none = ap (object_where (has h)) (joined_filter (other_than k) f.frames)
      ∙ absent_filter (has h) (other_than k) (all_refs f) none
  absent_move h f (pops l) p none = absent_front (has h) (joined (frames_before f.frames)) (last_frame f.frames)
      (ap (object_where (has h)) (sym (joined_before f.frames)) ∙ none)
  absent_move h f frees p none = refl

  absent_later : (h : Handle) (f : Frames) {g : Frames} → LeadsTo last thread f g → IsPast h f → object_of f h ≡ None
      → object_of g h ≡ None
  absent_later h f stays p none = none
  absent_later h f (goes_on {g} l m) p none =
      absent_move h g m (past_later last thread h f l p) (absent_later h f l p none)

  pub gone_stays_gone : GoneStaysGone last thread
  gone_stays_gone f g later h sound stands l none m =
      let is = newest_standing f.given h (all_refs f) sound.newest stands in
      absent_later h g m (past_later last thread h f l (omega arith)) none

pub emptied_stays_gone : EmptiedStaysGone
emptied_stays_gone old mid new f g h first then_done sound agree stood d empty d' sound' agree' =
    go (object_of g h) refl
  where
    -- where it stands again nothing was stored at its place since
    none : IsSome (object_of g h) → stored_at h.index then_done ≡ 0
    none stands =
        let before = newest_standing f.given h (all_refs f) sound.newest stood in
        let now = newest_standing g.given h (all_refs g) sound'.newest stands in
        let was = agree.given h.index in
        let is = agree'.given h.index in
        let more = stored_did h.index first d in
        let still_more = stored_did h.index then_done d' in
        omega arith

    go : (x : Option ℕ) → object_of g h ≡ x → object_of g h ≡ None
    go None e = e
    go (Some o) e =
        let here : (state new.seen).locals new.thread h.index ≡ Some o =
        agree'.locals h.index ∙ handle_is_at_place g h o sound' e in
        let gone : (state new.seen).locals new.thread h.index ≡ None =
        ap (λ (l : ℕ → Option ℕ). l h.index) (places_did then_done d')
        ∙ nothing_stored ((state mid.seen).locals mid.thread) h.index then_done
        (none (subst (λ x. IsSome x) (sym e) refl)) empty in
        absurd cc

pub taken_is_gone : TakenIsGone
taken_is_gone f h sound = (
  ap (object_where (has h)) (joined_filter (other_than h) f.frames) ∙ absent_without h (all_refs f),
  λ stood. absent_unheld h (joined (frames_before f.frames)) (not_both (joined (frames_before f.frames))
      (last_frame f.frames) h.index ((cut_last f sound).between h.index) (standing_held h (last_frame f.frames) stood)),
  refl,
)
