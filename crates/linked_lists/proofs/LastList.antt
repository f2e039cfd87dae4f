-- The last of some lists.
use Rattle.std.proofs.Common.{◌≡◌, ◌+◌, ◌≤◌, ℕ, zero, suc, List, [], ◌∷◌, ◌++◌, length, refl, ap, arith}
use Rattle.std.specs.List.{concat}
use Rattle.linked_lists.specs.Lists.{last_list, list_at, lists_before, times, with_end}
use Rattle.linked_lists.specs.declared.links.Link.{Link}
use Rattle.linked_lists.specs.Links.{AreRings}
use Rattle.linked_lists.proofs.Times.{times_append}

pub length_with_end : (rs : List (List ℕ)) (p : ℕ) → length (with_end rs p) ≡ length rs
length_with_end [] p = refl
length_with_end (x ∷ []) p = refl
length_with_end (x ∷ y ∷ xs) p = ap suc (length_with_end (y ∷ xs) p)

pub times_with_end : (q p : ℕ) (rs : List (List ℕ)) → 1 ≤ length rs
    → times q (concat (with_end rs p)) ≡ times q (p ∷ concat rs)
times_with_end q p [] l = absurd (omega arith)
times_with_end q p (x ∷ []) l =
    omega (arith, times_append q (x ++ p ∷ []) [], times_append q x (p ∷ []), times_append q x [])
times_with_end q p (x ∷ y ∷ xs) l = omega (
  arith,
  times_append q x (concat (with_end (y ∷ xs) p)),
  times_append q x (concat (y ∷ xs)),
  times_with_end q p (y ∷ xs) (omega arith),
)

pub times_parts : (q : ℕ) (rs : List (List ℕ))
    → times q (concat rs) ≡ times q (concat (lists_before rs)) + times q (last_list rs)
times_parts q [] = refl
times_parts q (x ∷ []) = omega (arith, times_append q x [])
times_parts q (x ∷ y ∷ xs) = omega (
  arith,
  times_append q x (concat (y ∷ xs)),
  times_append q x (concat (lists_before (y ∷ xs))),
  times_parts q (y ∷ xs),
)

pub length_before : (rs : List (List ℕ)) → 1 ≤ length rs → suc (length (lists_before rs)) ≡ length rs
length_before [] l = absurd (omega arith)
length_before (x ∷ []) l = refl
length_before (x ∷ y ∷ xs) l = ap suc (length_before (y ∷ xs) (omega arith))

pub rings_before : (links : List Link) (first : ℕ) (rs : List (List ℕ)) → AreRings links first rs
    → AreRings links first (lists_before rs)
rings_before links first [] r = tt
rings_before links first (x ∷ []) r = tt
rings_before links first (x ∷ y ∷ xs) r = (r.0, rings_before links (suc first) (y ∷ xs) r.1)

pub last_at : (k : ℕ) (rs : List (List ℕ)) → suc k ≡ length rs → list_at rs k ≡ last_list rs
last_at k [] e = absurd (omega arith)
last_at zero (x ∷ []) e = refl
last_at zero (x ∷ y ∷ xs) e = absurd (omega arith)
last_at (suc k) (x ∷ []) e = absurd (omega arith)
last_at (suc k) (x ∷ y ∷ xs) e = last_at k (y ∷ xs) (omega arith)
