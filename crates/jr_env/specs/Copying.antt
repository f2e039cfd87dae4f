-- Elements that are copied from array to array through a buffer, as Java's `System.arraycopy` has it.
use Rattle.std.specs.Prelude.{◌≡◌, ◌⊎◌, Result, Ok, Err, List, ℕ}
use Rattle.jr_word.specs.declared.fault.Fault.{Fault}
use Rattle.jr_env.specs.Requests.{Request}

-- ELEMENTS WERE COPIED through a buffer that holds these words then: all were read, as the first request asks, and then
-- all were written, as the second asks, or that was refused; or the read was refused, and no more was done: all is
-- as the rest says
abbrev pub CopiesThrough : {N : Type 0} → (N → N → Request (List ℕ) → Result (List ℕ) Fault → Type 0)
    → (N → N → Request (Unit {0}) → Result (Unit {0}) Fault → Type 0) → Request (List ℕ) → List ℕ → Request (Unit {0})
    → Type 0 → N → N → Result (Unit {0}) Fault → Type 0
CopiesThrough {N} reads writes reading words writing same old new answer =
    ((mid : N) × reads old mid reading (Ok words) × writes mid new writing answer)
    ⊎ ((e : Fault) × (answer ≡ Err e) × reads old new reading (Err e) × same)
