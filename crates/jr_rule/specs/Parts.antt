-- What a thread reads of a part of an object, for the crate's own functions.
use Rattle.std.specs.Prelude.{ℕ, false, List, take}
use Rattle.jr_word.specs.declared.header.HeaderParts.{HeaderParts}
use Rattle.jr_model.specs.declared.event.Role.TheVariants.{Within}
use Rattle.jr_steps.specs.Knowing.{Facts, SawPart}
use Rattle.jr_rule.specs.Cells.{Sight, facts_at}

-- what a thread within may know of the words that it steps on, however else it stands
abbrev pub facts_within : {C : Type 0} → (C → Sight) → C → Facts
facts_within sight s = facts_at (sight s) Within false 0

-- MORE ELEMENTS of a part were read, from one on to another, whatever of it was read since the words stood so
abbrev pub ReadsTo : {C E : Type 0} → (C → Sight) → ℕ → HeaderParts → ℕ → (ℕ → E) → ℕ → ℕ → C → C → List E → List E
    → Type 0
ReadsTo {C = C} sight o h start taken i j old new before after = (p : C)
    → SawPart (facts_within sight) p old o h start taken (take i before)
    → SawPart (facts_within sight) p new o h start taken (take j after)

-- THE OTHER ELEMENTS of a part were read, from one on
abbrev pub ReadsRest : {C E : Type 0} → (C → Sight) → ℕ → HeaderParts → ℕ → (ℕ → E) → ℕ → C → C → List E → List E
    → Type 0
ReadsRest {C = C} sight o h start taken i old new before after = (p : C)
    → SawPart (facts_within sight) p old o h start taken (take i before)
    → SawPart (facts_within sight) p new o h start taken after
