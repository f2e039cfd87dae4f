-- A list that rises falls in reverse.
use Rattle.std.proofs.Common.{◌≡◌, ◌<◌, ◌-◌, ℕ, List, length, slice_index_or, ap, arith}
use Rattle.std.specs.List.Sorted.{IsNonDecreasingBy}
use Rattle.jr_alive.specs.Groups.{FallsBy}

pub falls_reversed : {A : Type 0} (by : A → ℕ) (xs ys : List A) → IsNonDecreasingBy by xs → length ys ≡ length xs
    → ((k : ℕ) (d : A) → k < length xs → slice_index_or ys k d ≡ slice_index_or xs (length xs - 1 - k) d)
    → FallsBy by ys
falls_reversed by xs ys rises long at i j x le l =
    let a = ap by (at i x (omega arith)) in
    let b = ap by (at j x (omega arith)) in
    let r = rises (length xs - 1 - j) (length xs - 1 - i) x (omega arith) (omega arith) in
    omega arith
