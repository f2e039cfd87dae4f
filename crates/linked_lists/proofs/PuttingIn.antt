-- A number that stands in no list is put in one of those that links show.
use Rattle.std.proofs.Common.{◌≡◌, ◌==◌, ◌+◌, ◌<◌, ◌≤◌, ℕ, suc, Bool, true, false, if◌then◌else◌}
use Rattle.std.proofs.Common.{List, [], ◌∷◌, ◌++◌, length, refl, sym, ap, subst, ◌∙◌, arith}
use Rattle.std.proofs.lemmas.Bool.{eqb-true}
use Rattle.std.specs.List.{concat}
use Rattle.linked_lists.specs.Lists.{Lists, all_numbers, list_at, times, with_end, with_free, with_lists}
use Rattle.linked_lists.specs.declared.links.Link.{Link}
use Rattle.linked_lists.specs.Links.{next_at, previous_at, IsJoined, AreRings, AreShown, Follow}
use Rattle.linked_lists.proofs.Times.{times_append, all_below, none_left, none_right}
use Rattle.linked_lists.proofs.Following.{next_back, before_end}
use Rattle.linked_lists.proofs.Putting.{IsPut, follow_first, rings_last, rings_other}
use Rattle.linked_lists.proofs.LastList.{length_with_end, times_with_end}
use Rattle.linked_lists.proofs.Shown.{ring_at, times_at, still_shown}

bit_more : (b : Bool) (n : ℕ) → (b ≡ true → n ≡ 0) → n ≤ 1 → (if b then 1 else 0) + n ≤ 1
bit_more true n none l = let z = none refl in omega arith
bit_more false n none l = omega arith

bit_none : (b : Bool) (n : ℕ) → (b ≡ true → ⊥) → n ≡ 0 → (if b then 1 else 0) + n ≡ 0
bit_none true n other e = absurd (other refl)
bit_none false n other e = omega arith

module _ {most : ℕ} {old : List Link} {l : Lists} (shown : AreShown most old l) (p : ℕ) (low : p < l.numbers)
    (none : times p (all_numbers l) ≡ 0) where
  once_more : (q : ℕ) → times q (p ∷ all_numbers l) ≤ 1
  once_more q = bit_more (p == q) _ (λ e. subst (λ r. times r (all_numbers l) ≡ 0) (eqb-true p q e) none) (shown.once q)

  below_more : (q : ℕ) → l.numbers ≤ q → times q (p ∷ all_numbers l) ≡ 0
  below_more q g = bit_none (p == q) _ (λ e. let same = eqb-true p q e in absurd (omega arith)) (shown.below q g)

  pub number_fits : p < length old
  number_fits = let size = shown.size in omega arith

  -- FREE

  module _ (end next : ℕ) (is_end : end ≡ l.numbers) (at : next ≡ next_at old end) where
    free_follow : Follow old end (l.free ++ end ∷ [])
    free_follow = subst (λ n. Follow old n (l.free ++ n ∷ [])) (sym is_end) shown.rings.0

    away : times end (l.free ++ concat l.lists) ≡ 0
    away = shown.below end (omega arith)

    around_free : (previous_at old (next_at old end) ≡ end) × (next_at old end < length old)
    around_free = let size = shown.size in
        next_back old (length old) end (omega arith) end l.free
        (all_below l.numbers (length old) l.free (omega arith)
        (λ q g. none_left q l.free (concat l.lists) (shown.below q g))) free_follow

    pub free_fits : next < length old
    free_fits = let fits = around_free.1 in omega arith

    pub put_free_shown : {mid new : List Link} → IsJoined old end p mid → IsJoined mid p next new
        → AreShown most new (with_free l (p ∷ l.free))
    put_free_shown {mid} {new} first second =
        let put : IsPut old end p next new = record {
          mid = mid;
          first = first;
          second = second;
          ahead = sym at;
          behind = ap (previous_at old) at ∙ around_free.0;
        } in
        still_shown shown new (with_free l (p ∷ l.free)) (second.size ∙ first.size) refl refl (
          subst (λ n. Follow new n ((p ∷ l.free) ++ n ∷ [])) is_end
              (follow_first put (λ e. absurd (omega arith)) l.free (none_left p l.free (concat l.lists) none)
              (none_left end l.free (concat l.lists) away) free_follow),
          rings_other put (suc l.numbers) l.lists (omega arith) (omega arith)
              (none_right p l.free (concat l.lists) none) (none_right end l.free (concat l.lists) away) shown.rings.1,
        )
        once_more below_more

  -- LAST

  module _ (end previous : ℕ) (is_end : suc end ≡ length old) (at : previous ≡ previous_at old end)
      (some : 1 ≤ length l.lists) where
    around_last : (next_at old (previous_at old end) ≡ end) × (previous_at old end < length old)
    around_last = let size = shown.size in
        let same : l.numbers + length l.lists ≡ end = omega arith in
        before_end old (length old) end (omega arith) end (list_at (l.free ∷ l.lists) (length l.lists)) (omega arith)
        (all_below l.numbers (length old) _ (omega arith)
        (λ q g. omega (arith, times_at q (length l.lists) (l.free ∷ l.lists), shown.below q g)))
        (subst (λ e. Follow old e (list_at (l.free ∷ l.lists) (length l.lists) ++ e ∷ [])) same
        (ring_at old l.numbers (length l.lists) (l.free ∷ l.lists) (omega arith) shown.rings))

    pub last_fits : previous < length old
    last_fits = let fits = around_last.1 in omega arith

    times_more : (q : ℕ) → times q (all_numbers (with_lists l (with_end l.lists p))) ≡ times q (p ∷ all_numbers l)
    times_more q = omega (
      arith,
      times_append q l.free (concat (with_end l.lists p)),
      times_append q l.free (concat l.lists),
      times_with_end q p l.lists some,
    )

    both : (new : List Link) (rs : List (List ℕ)) → 1 ≤ length rs
        → AreRings new l.numbers (with_end (l.free ∷ rs) p) → AreRings new l.numbers (l.free ∷ with_end rs p)
    both new [] l r = absurd (omega arith)
    both new (y ∷ ys) l r = r

    pub put_last_shown : {mid new : List Link} → IsJoined old previous p mid → IsJoined mid p end new
        → AreShown most new (with_lists l (with_end l.lists p))
    put_last_shown {mid} {new} first second =
        let size = shown.size in
        let put : IsPut old previous p end new = record {
          mid = mid;
          first = first;
          second = second;
          ahead = ap (next_at old) at ∙ around_last.0;
          behind = sym at;
        } in
        still_shown shown new (with_lists l (with_end l.lists p)) (second.size ∙ first.size) refl
        (length_with_end l.lists p)
        (both new l.lists some
        (rings_last put l.numbers (l.free ∷ l.lists) low (omega arith) none shown.below shown.rings))
        (λ q. omega (arith, times_more q, once_more q)) (λ q g. times_more q ∙ below_more q g)
