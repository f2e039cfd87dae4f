-- Parts of the elements of a level's object: what a call at one asks and does, as a program at an object, and that it
-- was made, for whatever was known.
use Rattle.std.specs.Prelude.{◌+◌, ℕ, nat_lt, not, Result, Ok, Err, List, [], ◌∷◌, length}
use Rattle.std.proofs.Common.{refl}
use Rattle.jr_word.specs.declared.fault.Fault.{Fault}
use Rattle.jr_word.specs.declared.fault.Fault.TheVariants.{NotArray, Range, WrongElement}
use Rattle.jr_word.specs.declared.kind.Kind.{Kind}
use Rattle.jr_model.specs.Checks.{is_read_as, is_text}
use Rattle.jr_model.specs.Tests.{Tests}
use Rattle.jr_model.specs.Programs.{Program, at_object, ends, looks, nothing, number, reads_from, several, tests}
use Rattle.jr_model.specs.Programs.{writes_from}
use Rattle.jr_steps.specs.declared.steps.Steps.{Ghosts}
use Rattle.jr_frames.specs.declared.held.Held.{Held}
use Rattle.jr_critical.specs.declared.levels.Levels.{Levels}
use Rattle.jr_critical.specs.Levels.{Reaches, level_object}

-- what a read of a part asks: the elements are read as those of this kind, and the part lies in the object
abbrev pub get_part_tests : Kind → ℕ → ℕ → Kind → ℕ → Tests
get_part_tests k start n l m = (not (is_read_as k l), WrongElement) ∷ (nat_lt m (start + n), Range) ∷ []

-- so many elements from an index on, as those of this kind
abbrev pub region_get_part : Kind → ℕ → ℕ → Program 0 (several number)
region_get_part k start n =
    looks (λ l m. tests (get_part_tests k start n l m) (refl, (refl, tt)) (ends (reads_from start n)))

-- what a write of a part asks: a string is never written
abbrev pub set_part_tests : Kind → ℕ → ℕ → Kind → ℕ → Tests
set_part_tests k start n l m = (is_text l, NotArray) ∷ get_part_tests k start n l m

-- elements are written from an index on, as those of this kind
abbrev pub region_set_part : Kind → ℕ → List ℕ → Program 0 nothing
region_set_part k start vs = looks (λ l m.
    tests (set_part_tests k start (length vs) l m) (refl, (refl, (refl, tt))) (ends (writes_from start vs)))

-- the answer of a call that reads a part into a slice: the words that the slice holds then, or its refusal
abbrev pub part_read : Result (Unit {0}) Fault → List ℕ → Result (List ℕ) Fault
part_read (Ok _) ws = Ok ws
part_read (Err e) ws = Err e

module _ {S : Type 0} {G : Ghosts S} where
  -- A PART OF A LEVEL WAS READ, so many elements of this kind from an index on, or refused
  abbrev pub ReadsPartAt : Held S G → Held S G → Levels → ℕ → Kind → ℕ → ℕ → Result (List ℕ) Fault → Type 0
  ReadsPartAt old new v level kind start n answer = Reaches G.facts old.steps new.steps old.frames.frames v
      (λ c last t s. at_object c last t s (level_object v level) (region_get_part kind start n)) answer

  -- A PART OF A LEVEL WAS WRITTEN, with these words of this kind from an index on, or refused
  abbrev pub WritesPartAt : Held S G → Held S G → Levels → ℕ → Kind → ℕ → List ℕ → Result (Unit {0}) Fault → Type 0
  WritesPartAt old new v level kind start words answer = Reaches G.facts old.steps new.steps old.frames.frames v
      (λ c last t s. at_object c last t s (level_object v level) (region_set_part kind start words)) answer
