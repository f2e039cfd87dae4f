-- What stands in the space and a range that is held fit below the top together: no word has two owners.
use Rattle.std.proofs.Common.{◌≡◌, ◌≢◌, ◌+◌, ◌<◌, ◌≤◌, ◌==◌, ℕ, zero, suc, Bool, true}
use Rattle.std.proofs.Common.{false, cond, eq-eqb, ne_eqb, refl, sym, ap, subst, arith}
use mathlib.Core.Logic.{dite}
use native.Mathlib.Decide.{ℕ_discrete}
use Rattle.jr_model.specs.Maps.{sum_below}
use Rattle.jr_model.proofs.Counts.{sum_at}
use Rattle.jr_model.proofs.Lengths.{sum_zero}
use Rattle.jr_rule.specs.Image.{Owner, unowned, of_object, of_range}

sum_most : (n : ℕ) (f : ℕ → ℕ) → ((k : ℕ) → f k ≤ 1) → sum_below n f ≤ n
unfolding sum_below
sum_most zero f few = omega arith
sum_most (suc n) f few = let a = sum_most n f few in let b = few n in omega arith

sum_less : (n : ℕ) (f g : ℕ → ℕ) → ((k : ℕ) → k < n → f k ≤ g k) → sum_below n f ≤ sum_below n g
unfolding sum_below
sum_less zero f g few = omega arith
sum_less (suc n) f g few = let a = sum_less n f g (λ k l. few k (omega arith)) in let b = few n (omega arith) in
    omega arith

sum_both : (n : ℕ) (f g : ℕ → ℕ) → sum_below n (λ k. f k + g k) ≡ sum_below n f + sum_below n g
unfolding sum_below
sum_both zero f g = refl
sum_both (suc n) f g = let a = sum_both n f g in omega arith

-- a sum of sums either way
sum_swap : (m n : ℕ) (f : ℕ → ℕ → ℕ)
    → sum_below m (λ o. sum_below n (f o)) ≡ sum_below n (λ x. sum_below m (λ o. f o x))
unfolding sum_below
sum_swap zero n f = sym (sum_zero n (λ x. sum_below 0 (λ o. f o x)) (λ k. refl))
sum_swap (suc m) n f = let a = sum_swap m n f in let b = sum_both n (λ x. sum_below m (λ o. f o x)) (f m) in omega arith

-- a row of ones counts
ones : (n a m : ℕ) (f : ℕ → ℕ) → ((j : ℕ) → j < n → (a + j < m) × (1 ≤ f (a + j))) → n ≤ sum_below m f
ones zero a m f each = omega arith
ones (suc n) a m f each =
    let k : ℕ = a + n in
    let g : ℕ → ℕ = λ x. cond (x == k) 0 (f x) in
    let last = each n (omega arith) in
    let rest = ones n a m g (λ j l. let e = each j (omega arith) in (
      e.0,
      subst (λ z. 1 ≤ z) (sym (ap (λ b. cond b 0 (f (a + j))) (ne_eqb (a + j) k (λ q. absurd (omega arith))))) e.1,
    )) in
    let none : g k ≡ 0 = ap (λ b. cond b 0 (f k)) (eq-eqb k k refl) in
    let both = sum_at m f g k last.0 (λ j ne. ap (λ b. cond b 0 (f j)) (ne_eqb j k (λ q. ne (sym q)))) in
    let some = last.1 in omega arith

-- 1 where both numbers are one
abbrev pub one_if : ℕ → ℕ → ℕ
one_if a b = cond (a == b) 1 0

if_same : (a b : ℕ) → a ≡ b → one_if a b ≡ 1
if_same a b e = ap (λ z. cond z 1 0) (eq-eqb a b e)

if_other : (a b : ℕ) → a ≢ b → one_if a b ≡ 0
if_other a b ne = ap (λ z. cond z 1 0) (ne_eqb a b ne)

-- who is counted at a word
abbrev pub of_object_bit : ℕ → Owner → ℕ
of_object_bit o unowned = 0
of_object_bit o (of_object r j) = one_if o r
of_object_bit o (of_range t p j) = 0

abbrev pub of_range_bit : ℕ → ℕ → Owner → ℕ
of_range_bit t p unowned = 0
of_range_bit t p (of_object r j) = 0
of_range_bit t p (of_range u q j) = cond (t == u) (one_if p q) 0

no_number : (n r : ℕ) → n ≤ r → sum_below n (λ o. one_if o r) ≡ 0
unfolding sum_below
no_number zero r l = refl
no_number (suc n) r l = let here = if_other n r (λ e. absurd (omega arith)) in let rest = no_number n r (omega arith) in
    omega arith

one_number : (m r : ℕ) → sum_below m (λ o. one_if o r) ≤ 1
unfolding sum_below
one_number zero r = omega arith
one_number (suc m) r = dite (ℕ_discrete m r)
    (λ e. let here = if_same m r e in let before = no_number m r (omega arith) in omega arith)
    (λ ne. let here = if_other m r ne in let rest = one_number m r in omega arith)

bit_few : (t u p q : ℕ) → cond (t == u) (cond (p == q) 1 0) 0 ≤ 1
bit_few t u p q = go (t == u) (p == q)
  where
    go : (a b : Bool) → cond a (cond b 1 0) 0 ≤ 1
    go true true = omega arith
    go true false = omega arith
    go false b = omega arith

one_owner : (m t p : ℕ) (a : Owner) → sum_below m (λ o. of_object_bit o a) + of_range_bit t p a ≤ 1
one_owner m t p unowned = let z = sum_zero m (λ o. 0) (λ k. refl) in omega arith
one_owner m t p (of_object r j) = let z = one_number m r in omega arith
one_owner m t p (of_range u q j) = let z = sum_zero m (λ o. 0) (λ k. refl) in let b = bit_few t u p q in omega arith

object_counted : (o j : ℕ) → 1 ≤ of_object_bit o (of_object o j)
object_counted o j = let e = if_same o o refl in omega arith

range_counted : (t p j : ℕ) → 1 ≤ of_range_bit t p (of_range t p j)
range_counted t p j = let e = if_same p p refl in let f : of_range_bit t p (of_range t p j) ≡ one_if p p =
    ap (λ b. cond b (one_if p p) 0) (eq-eqb t t refl) in omega arith

-- THE LISTS FIT: each object's words and a range's are words below the top, and none has two owners
pub lists_fit : (owner : ℕ → Owner) (m used t p n : ℕ) (length_at : ℕ → ℕ)
    → ((o : ℕ) → o < m → (a : ℕ) × ((j : ℕ) → j < length_at o → (a + j < used) × (owner (a + j) ≡ of_object o j)))
    → ((j : ℕ) → j < n → (p + j < used) × (owner (p + j) ≡ of_range t p j))
    → sum_below m length_at + n ≤ used
lists_fit owner m used t p n length_at each range =
    let objects = sum_less m length_at (λ o. sum_below used (λ x. of_object_bit o (owner x)))
    (λ o l. let z = each o l in ones (length_at o) z.0 used (λ x. of_object_bit o (owner x)) (λ j k. let q = z.1 j k in
    (q.0, subst (λ (a : Owner). 1 ≤ of_object_bit o a) (sym q.1) (object_counted o j)))) in
    let own = ones n p used (λ x. of_range_bit t p (owner x))
    (λ j k. let q = range j k in
    (q.0, subst (λ (a : Owner). 1 ≤ of_range_bit t p a) (sym q.1) (range_counted t p j))) in
    let swap = sum_swap m used (λ o x. of_object_bit o (owner x)) in
    let both = sum_both used (λ x. sum_below m (λ o. of_object_bit o (owner x))) (λ x. of_range_bit t p (owner x)) in
    let most = sum_most used (λ x. sum_below m (λ o. of_object_bit o (owner x)) + of_range_bit t p (owner x))
    (λ x. one_owner m t p (owner x)) in omega arith
