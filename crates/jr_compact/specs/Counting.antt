-- How many operations several steps take at the most.
use Rattle.std.specs.Prelude.{◌≤◌, ◌+◌, ℕ}
use Rattle.jr_steps.specs.declared.known.Known.{Known}
use Rattle.jr_steps.specs.Knowing.{Facts, Sees, Went}

-- so many steps were taken at the most, each one operation on one word
abbrev pub TakesWithin : ℕ → Known → Known → Type 0
TakesWithin most k k' = k'.taken ≤ k.taken + most

-- what several steps without an act make of what was known, so many at the most
pub record SeesWithin (most : ℕ) (k k' : Known) : Type 0 where
  pub sees : Sees k k'
  pub within : TakesWithin most k k'

-- SEVERAL STEPS WITHOUT AN ACT WERE TAKEN, and no more than this says of what was known
abbrev pub SawWithin : {S : Type 0} → (S → Facts) → (Known → ℕ) → S → S → (Known → Type 0) → (Known → Known → Type 0)
    → Type 0
SawWithin facts most old new met shows =
    Went facts old new (facts old).stands met (λ j k. SeesWithin (most j) j k) shows
