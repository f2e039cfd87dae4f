-- A look for a number that goes round once comes to each number.
use Rattle.std.proofs.Common.{◌≡◌, ◌<◌, ◌≤◌, ◌+◌, ◌-◌, ◌⊎◌, ⊎_elim, ℕ, cond, ap, ◌∙◌, arith}
use Rattle.std.proofs.lemmas.Bool.{lt-ltb, le-ltb}
use Rattle.jr_heap.specs.Heap.{number_at_turn}

pub number_low : (first turn objects : ℕ) → first + turn < objects
    → number_at_turn first turn objects ≡ first + turn + 1
number_low first turn objects l =
    ap (λ b. cond b (first + turn + 1) (first + turn - objects + 1)) (lt-ltb (first + turn) objects l)

pub number_high : (first turn objects : ℕ) → objects ≤ first + turn
    → number_at_turn first turn objects ≡ first + turn - objects + 1
number_high first turn objects l =
    ap (λ b. cond b (first + turn + 1) (first + turn - objects + 1)) (le-ltb (first + turn) objects l)

low_or_high : (first o : ℕ) → (first < o) ⊎ (o ≤ first)
low_or_high first o = grind arith

-- the turn that comes to the number
pub turn_of : (first objects o : ℕ) → first < objects → 1 ≤ o → o ≤ objects
    → (turn : ℕ) × (turn < objects) × (number_at_turn first turn objects ≡ o)
turn_of first objects o f l m = ⊎_elim
    (λ (h : first < o). (
      o - first - 1,
      omega arith,
      number_low first (o - first - 1) objects (omega arith)
          ∙ (let e : first + (o - first - 1) + 1 ≡ o = omega arith in e),
    ))
    (λ (h : o ≤ first). (
      o + objects - first - 1,
      omega arith,
      number_high first (o + objects - first - 1) objects (omega arith)
          ∙ (let e : first + (o + objects - first - 1) - objects + 1 ≡ o = omega arith in e),
    ))
    (low_or_high first o)
