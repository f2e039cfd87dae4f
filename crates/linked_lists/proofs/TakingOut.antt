-- A number is taken out of the lists that links show.
use Rattle.std.proofs.Common.{◌≡◌, ◌==◌, ◌<◌, ◌≤◌, ℕ, Bool, true, false, List, ◌∷◌, length, refl, sym, subst, arith}
use Rattle.std.proofs.lemmas.Bool.{eqb-true, eqb-false}
use Rattle.std.proofs.lemmas.List.{length-map}
use Rattle.linked_lists.specs.Lists.{Lists, all_numbers, lists_without, times, without_number}
use Rattle.linked_lists.specs.declared.links.Link.{Link}
use Rattle.linked_lists.specs.Links.{next_at, previous_at, IsJoined, AreShown}
use Rattle.linked_lists.proofs.Times.{concat_without, times_without_self, times_without_other}
use Rattle.linked_lists.proofs.Taking.{rings_without}
use Rattle.linked_lists.proofs.Shown.{beside, number_low, still_shown}

-- of what is so of none and of as many as before, it is so of what is left
left : (P : ℕ → Type 0) (p q : ℕ) (xs : List ℕ) → P 0 → P (times q xs) → P (times q (without_number p xs))
left P p q xs none same = go (q == p) refl
  where
    go : (b : Bool) → (q == p) ≡ b → P (times q (without_number p xs))
    go true e = subst P (sym
        (subst (λ r. times q (without_number r xs) ≡ 0) (eqb-true q p e) (times_without_self q xs))) none
    go false e = subst P (sym (times_without_other p q (eqb-false q p e) xs)) same

module _ {most : ℕ} {old : List Link} {l : Lists} (shown : AreShown most old l) (p : ℕ)
    (some : 1 ≤ times p (all_numbers l)) where
  pub low : p < length old
  low = let size = shown.size in omega (arith, number_low shown p some)

  module _ {previous next : ℕ} (before : previous ≡ previous_at old p) (after : next ≡ next_at old p) where
    pub low_both : (previous < length old) × (next < length old)
    low_both = let around = beside shown p some in let low = around.previous_low in let high = around.next_low in
        (omega arith, omega arith)

    all_left : (P : ℕ → Type 0) (q : ℕ) → P 0 → P (times q (all_numbers l))
        → P (times q (all_numbers (lists_without l p)))
    all_left P q none same = subst (λ xs. P (times q xs)) (sym (concat_without p (l.free ∷ l.lists)))
        (left P p q (all_numbers l) none same)

    pub taken_out : {new : List Link} → IsJoined old previous next new → AreShown most new (lists_without l p)
    taken_out {new} joined =
        let around = beside shown p some in
        still_shown shown new (lists_without l p) joined.size refl (length-map l.lists (without_number p))
        (rings_without old new p
        (subst (λ v. IsJoined old (previous_at old p) v new) after
        (subst (λ u. IsJoined old u next new) before joined))
        around.ahead around.behind l.numbers (l.free ∷ l.lists) (number_low shown p some) shown.rings)
        (λ q. all_left (λ n. n ≤ 1) q (omega arith) (shown.once q))
        (λ q g. all_left (λ n. n ≡ 0) q refl (shown.below q g))
