-- What the steps of marking show.
use Rattle.std.specs.Prelude.{ℕ, Bool, List}
use Rattle.jr_model.specs.State.{State}
use Rattle.jr_steps.specs.declared.known.Known.{Known}
use Rattle.jr_steps.specs.Knowing.{Facts, state_of, IsClosedNow, IsSettled, CanReopen}
use Rattle.jr_compact.specs.Counting.{SawWithin}
use Rattle.jr_weak.specs.Marks.{IsMarked, IsSound, IsExactly}

-- only what is reached is marked, no array names an absent object, and no move is unfinished
pub record IsMarking (marks : List Bool) (k : Known) : Type 0 where
  pub sound : IsSound marks (state_of k)
  pub closed : IsClosedNow k
  pub settled : IsSettled k

-- MARKED MEANS REACHED NOW, no array names an absent object, and no move is unfinished
abbrev pub IsMarkedNow : List Bool → Known → Type 0
IsMarkedNow marks k = IsExactly marks (state_of k) × CanReopen k

-- the marks go on, for whatever was known, by no act of one's own and no more steps than this:
-- they have this of the state, and still only what is reached
pub record MarkedTo {S : Type 0} (facts : S → Facts) (most : Known → ℕ) (marks marks' : List Bool) (old new : S)
    (has : List Bool → Known → Type 0) : Type 0 where
  pub more : (o : ℕ) → IsMarked marks o → IsMarked marks' o
  pub saw : SawWithin facts most old new (IsMarking marks) (λ j k. IsMarking marks' k × has marks' k)

-- the same, of the state alone
abbrev pub MarksAll : {S : Type 0} → (S → Facts) → (Known → ℕ) → List Bool → List Bool → S → S
    → (List Bool → State → Type 0) → Type 0
MarksAll facts most marks marks' old new has = MarkedTo facts most marks marks' old new (λ ms k. has ms (state_of k))
