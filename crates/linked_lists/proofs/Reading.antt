-- What stands first in a list that links show, and what behind a number of it.
use Rattle.std.proofs.Common.{◌≡◌, ◌+◌, ◌<◌, ◌≤◌, ⊎_elim, ℕ, suc, true, false, cond, nat_lt, Some, None}
use Rattle.std.proofs.Common.{List, [], ◌∷◌, ◌++◌, length, sym, ap, subst, ◌∙◌, arith}
use Rattle.std.proofs.lemmas.Bool.{cases_lt}
use Rattle.std.proofs.lemmas.Bool.Decides.{nat_tests}
use Rattle.std.proofs.lemmas.List.{get_or_past}
use Rattle.std.specs.List.{AllByRecursion}
use Rattle.linked_lists.specs.Lists.{Lists, IsAfter, first_listed, list_at}
use Rattle.linked_lists.specs.declared.links.Link.{Link}
use Rattle.linked_lists.specs.Links.{next_at, number_below, AreShown, Follow}
use Rattle.linked_lists.proofs.Times.{all_below}
use Rattle.linked_lists.proofs.Shown.{ring_at, times_at}

first_is : (links : List Link) (n x end : ℕ) (xs : List ℕ) → n ≤ end → AllByRecursion (λ q. q < n) xs
    → Follow links x (xs ++ end ∷ []) → number_below n (next_at links x) ≡ first_listed xs
first_is links n x end [] l all f = ap (number_below n) f.0
    ∙ ap (λ b. cond b (Some end) None) (let e : nat_lt end n ≡ false = grind (arith, nat_tests) in e)
first_is links n x end (y ∷ ys) l all f = ap (number_below n) f.0
    ∙ ap (λ b. cond b (Some y) None) (let low = all.0 in let e : nat_lt y n ≡ true = grind (arith, nat_tests) in e)

-- what follows from a number on, and which numbers these are
from_there : (links : List Link) (P : ℕ → Type 0) (x p end : ℕ) (xs ys : List ℕ) → AllByRecursion P (xs ++ p ∷ ys)
    → Follow links x ((xs ++ p ∷ ys) ++ end ∷ []) → AllByRecursion P ys × Follow links p (ys ++ end ∷ [])
from_there links P x p end [] ys all f = (all.1, f.2)
from_there links P x p end (z ∷ zs) ys all f = from_there links P z p end zs ys all.1 f.2

module _ {most : ℕ} {links : List Link} {l : Lists} (shown : AreShown most links l) (k : ℕ)
    (low : k < suc (length l.lists)) where
  all_low : AllByRecursion (λ q. q < l.numbers) (list_at (l.free ∷ l.lists) k)
  all_low = all_below l.numbers l.numbers _ (omega arith)
      (λ q g. omega (arith, times_at q k (l.free ∷ l.lists), shown.below q g))

  pub first_shown : (n end : ℕ) → n ≡ l.numbers → end ≡ l.numbers + k
      → number_below n (next_at links end) ≡ first_listed (list_at (l.free ∷ l.lists) k)
  first_shown n end e is =
      ap (λ m. number_below m (next_at links end)) e
      ∙ (ap (λ i. number_below l.numbers (next_at links i)) is
      ∙ first_is links l.numbers (l.numbers + k) (l.numbers + k) _ (omega arith) all_low
      (ring_at links l.numbers k (l.free ∷ l.lists) (omega arith) shown.rings))

  after_at : (p : ℕ) (xs ys : List ℕ) → list_at (l.free ∷ l.lists) k ≡ xs ++ p ∷ ys
      → number_below l.numbers (next_at links p) ≡ first_listed ys
  after_at p xs ys e =
      let behind = from_there links (λ q. q < l.numbers) (l.numbers + k) p (l.numbers + k) xs ys
      (subst (AllByRecursion (λ q. q < l.numbers)) e all_low)
      (subst (λ zs. Follow links (l.numbers + k) (zs ++ (l.numbers + k) ∷ [])) e
      (ring_at links l.numbers k (l.free ∷ l.lists) (omega arith) shown.rings)) in
      first_is links l.numbers p (l.numbers + k) ys (omega arith) behind.0 behind.1

pub after_shown : {most : ℕ} {links : List Link} {l : Lists} → AreShown most links l → (n p : ℕ) → n ≡ l.numbers
    → IsAfter l p (number_below n (next_at links p))
after_shown {links = links} {l = l} shown n p e k xs ys is =
    ap (λ m. number_below m (next_at links p)) e
    ∙ ⊎_elim (λ (low : k < suc (length l.lists)). after_at shown k low p xs ys is)
    (λ (g : suc (length l.lists) ≤ k). absurd (none xs (sym (get_or_past (l.free ∷ l.lists) k [] g) ∙ is)))
    (cases_lt k (suc (length l.lists)))
  where
    none : (zs : List ℕ) → ◌≡◌ {A = List ℕ} [] (zs ++ p ∷ ys) → ⊥
    none [] f = absurd cc
    none (z ∷ zs) f = absurd cc
