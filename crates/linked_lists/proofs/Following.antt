-- Numbers that follow one another round a ring.
use Rattle.std.proofs.Common.{◌≡◌, ◌≢◌, ◌==◌, ◌+◌, ◌<◌, ◌≤◌, ℕ, zero, suc, Bool, true, false}
use Rattle.std.proofs.Common.{if◌then◌else◌, List, [], ◌∷◌, ◌++◌, length, refl, sym, ap, subst, ◌∙◌, arith}
use Rattle.std.proofs.lemmas.Bool.{eqb-true}
use Rattle.std.specs.List.{AllByRecursion}
use Rattle.linked_lists.specs.Lists.{times}
use Rattle.linked_lists.specs.declared.links.Link.{Link}
use Rattle.linked_lists.specs.Links.{next_at, previous_at, Follow, until}
use Rattle.linked_lists.proofs.Times.{pick_self, pick_other}

-- numbers of which each pair that follows stays so go on following
pub follow_pairs : (old new : List Link) (P : ℕ → Type 0)
    → ((x y : ℕ) → P x → P y → next_at old x ≡ y → previous_at old y ≡ x
    → (next_at new x ≡ y) × (previous_at new y ≡ x))
    → (x : ℕ) (ys : List ℕ) → P x → AllByRecursion P ys → Follow old x ys → Follow new x ys
follow_pairs old new P keep x [] p all f = tt
follow_pairs old new P keep x (y ∷ ys) p all f =
    let here = keep x y p all.0 f.0 f.1 in
    (here.0, here.1, follow_pairs old new P keep y ys all.0 all.1 f.2)

pub all_end : (P : ℕ → Type 0) (xs : List ℕ) (end : ℕ) → AllByRecursion P xs → P end → AllByRecursion P (xs ++ end ∷ [])
all_end P [] end all e = (e, tt)
all_end P (x ∷ xs) end all e = (all.0, all_end P xs end all.1 e)

-- what stands beside a number stands there for both, and below a bound
pub record IsBetween (links : List Link) (bound p : ℕ) : Type 0 where
  pub ahead : next_at links (previous_at links p) ≡ p
  pub behind : previous_at links (next_at links p) ≡ p
  pub previous_low : previous_at links p < bound
  pub next_low : next_at links p < bound

module _ (links : List Link) (bound end : ℕ) (low : end < bound) where
  -- the one after a number stands there for both, and below the bound
  pub next_back : (y : ℕ) (ys : List ℕ) → AllByRecursion (λ q. q < bound) ys → Follow links y (ys ++ end ∷ [])
      → (previous_at links (next_at links y) ≡ y) × (next_at links y < bound)
  next_back y [] all f = (ap (previous_at links) f.0 ∙ f.1, subst (λ k. k < bound) (sym f.0) low)
  next_back y (z ∷ zs) all f = (ap (previous_at links) f.0 ∙ f.1, subst (λ k. k < bound) (sym f.0) all.0)

  pub between : (p x : ℕ) (xs : List ℕ) → x < bound → AllByRecursion (λ q. q < bound) xs → 1 ≤ times p xs
      → Follow links x (xs ++ end ∷ []) → IsBetween links bound p
  between p x [] xl all some f = absurd (omega arith)
  between p x (y ∷ ys) xl all some f = go (y == p) refl (between p y ys all.0 all.1)
    where
      go : (b : Bool) → (y == p) ≡ b → (1 ≤ times p ys → Follow links y (ys ++ end ∷ []) → IsBetween links bound p)
          → IsBetween links bound p
      go true e rest =
          let after = next_back y ys all.1 f.2 in
          subst (λ k. IsBetween links bound k) (eqb-true y p e)
          (record {
            ahead = ap (next_at links) f.1 ∙ f.0;
            behind = after.0;
            previous_low = subst (λ k. k < bound) (sym f.1) xl;
            next_low = after.1;
          })
      go false e rest =
          let n : 1 ≤ 0 + times p ys = subst (λ b. 1 ≤ (if b then 1 else 0) + times p ys) e some in
          rest (omega arith) f.2

  -- the same of the one before the end
  pub before_end : (x : ℕ) (xs : List ℕ) → x < bound → AllByRecursion (λ q. q < bound) xs
      → Follow links x (xs ++ end ∷ [])
      → (next_at links (previous_at links end) ≡ end) × (previous_at links end < bound)
  before_end x [] xl all f = (ap (next_at links) f.1 ∙ f.0, subst (λ k. k < bound) (sym f.1) xl)
  before_end x (y ∷ ys) xl all f = before_end y ys all.0 all.1 f.2

-- a ring is what follows until its end
pub until_end : (links : List Link) (end steps x : ℕ) (xs : List ℕ) → AllByRecursion (λ y. y ≢ end) xs
    → length xs ≤ steps → Follow links x (xs ++ end ∷ []) → until links end steps (next_at links x) ≡ xs
until_end links end zero x [] all l f = refl
until_end links end zero x (y ∷ ys) all l f = absurd (omega arith)
until_end links end (suc n) x [] all l f =
    ap (until links end (suc n)) f.0 ∙ pick_self end [] (end ∷ until links end n (next_at links end))
until_end links end (suc n) x (y ∷ ys) all l f =
    ap (until links end (suc n)) f.0
    ∙ (pick_other y end [] (y ∷ until links end n (next_at links y)) all.0
    ∙ ap (λ zs. y ∷ zs) (until_end links end n y ys all.1 (omega arith) f.2))
