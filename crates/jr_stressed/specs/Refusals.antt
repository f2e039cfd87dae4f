-- Which refusals a stress may make of a call, and which it makes.
use Rattle.std.specs.Prelude.{◌≡◌, ◌≢◌, ◌⊎◌, ◌≤◌, ◌<◌, ◌+◌, ◌-◌, ◌/◌, ◌%◌, ◌==◌, ◌||◌, ◌&&◌, ℕ, Bool}
use Rattle.std.specs.Prelude.{cond, false, true, not, nat_lt, Option, Some, None}
use Rattle.jr_word.specs.declared.config.Config.{Config}
use Rattle.jr_word.specs.declared.fault.Fault.{Fault}
use Rattle.jr_word.specs.declared.fault.Fault.TheVariants.{Barred, ObjectsFull, Raced, RowFull, SpaceFull}
use Rattle.jr_env.specs.declared.demand.Demand.{Demand}
use Rattle.jr_env.specs.declared.demand.Demand.TheVariants.{Nothing, Slot, Object}
use Rattle.jr_stressed.specs.declared.plan.Stress.{Stress}

-- E10: so many words are used that so many more don't fit
abbrev pub IsSpaceFull : Config → ℕ → Fault → Type 0
IsSpaceFull c n e = (used : ℕ) × (e ≡ SpaceFull used) × (used ≤ c.words) × (c.words < used + n)

-- E12: so many words were looked at that some more fit, and others were found
abbrev pub IsRaced : Config → ℕ → Fault → Type 0
IsRaced c n e = (looked found : ℕ) × (e ≡ Raced looked found) × (1 ≤ n) × (looked + n ≤ c.words) × (found ≤ c.words)
    × (found ≢ looked)

-- what is refused for want of what a call asks for: E8 for a slot; E11, E10 or E12 for an object
abbrev pub IsWant : Config → Demand → Fault → Type 0
IsWant c Nothing e = ⊥
IsWant c Slot e = e ≡ RowFull
IsWant c (Object n) e = (e ≡ ObjectsFull) ⊎ (IsSpaceFull c n e ⊎ IsRaced c n e)

-- THE MACHINE LISTS THIS REFUSAL of a call that asks for this in a room of these sizes:
-- E13 of each, since each enters; or one for want of what it asks for
abbrev pub MachineLists : Config → Demand → Fault → Type 0
MachineLists c d e = (e ≡ Barred) ⊎ IsWant c d e

-- E12 with all words used, where the look had found just so many free; E11 where so many never are
abbrev pub raced_at : Config → ℕ → Fault
raced_at c n = cond ((n == 0) || nat_lt c.words n) ObjectsFull (Raced (c.words - n) c.words)

-- E10 with all words used; E11 where none is asked for
abbrev pub space_full_at : Config → ℕ → Fault
space_full_at c n = cond (n == 0) ObjectsFull (SpaceFull c.words)

-- what a number chooses for an object of so many words
abbrev pub lacking : Config → ℕ → ℕ → Fault
lacking c n number = cond (number % 3 == 0) ObjectsFull (cond (number % 3 == 1) (raced_at c n) (space_full_at c n))

-- what it chooses for what a call asks for
abbrev pub chosen_for : Config → Demand → ℕ → Fault
chosen_for c Nothing number = Barred
chosen_for c Slot number = RowFull
chosen_for c (Object n) number = lacking c n number

-- what it chooses: E13, or the half of the number what the call may lack
abbrev pub chosen : Config → Demand → ℕ → Fault
chosen c d number = cond (number % 2 == 0) Barred (chosen_for c d (number / 2))

-- the usual plan of a seed: a collection before each fifth call, and of four calls one refused, by each of the five
abbrev pub usual : ℕ → Stress
usual seed = record {
  seed = seed;
  collects_each = 5;
  refuses_each = 4;
  row_full = true;
  space_full = true;
  objects_full = true;
  raced = true;
  barred = true;
}

-- the plan has this refusal
abbrev pub has_refusal : Stress → Fault → Bool
has_refusal plan RowFull = plan.row_full
has_refusal plan (SpaceFull u) = plan.space_full
has_refusal plan ObjectsFull = plan.objects_full
has_refusal plan (Raced l f) = plan.raced
has_refusal plan Barred = plan.barred
has_refusal plan _ = false

-- a refusal, where the plan has it
abbrev pub if_had : Stress → Fault → Option Fault
if_had plan e = cond (has_refusal plan e) (Some e) None

-- THE REFUSAL THAT A DRAWN WORD MAKES, none where the call is let through
abbrev pub refusal_drawn : Stress → Config → Demand → ℕ → Option Fault
refusal_drawn plan c d word = cond ((plan.refuses_each == 0) || not (word % plan.refuses_each == 0)) None
    (if_had plan (chosen c d (word / plan.refuses_each)))

-- the call of this number is one to collect before
abbrev pub collects_at : ℕ → ℕ → Bool
collects_at each call = not (each == 0) && (call % each == 0)
