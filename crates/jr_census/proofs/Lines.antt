-- The lines of threads, one after the other.
use Rattle.std.proofs.Common.{◌≡◌, ℕ, suc, ◌+◌, List, ◌++◌, ap, arith, slice_index_or}
use Rattle.jr_census.specs.Printed.{locals_line, locals_text}

-- the lines of the threads up to the next one
pub locals_more : (x : List ℕ) (n : ℕ) → locals_text x n ++ locals_line n (slice_index_or x n 0) ≡ locals_text x (n + 1)
locals_more x n = let next : suc n ≡ n + 1 = omega arith in ap (locals_text x) next
