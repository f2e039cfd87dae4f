-- What an env did in a critical region of its own, which it opened for that alone.
use Rattle.std.specs.Prelude.{◌≡◌, ◌==◌, ◌⊎◌, ℕ, Bool, true, false, List, Result, Ok, Err, length}
use Rattle.jr_word.specs.declared.config.Config.{Config}
use Rattle.jr_word.specs.declared.fault.Fault.{Fault}
use Rattle.jr_word.specs.declared.fault.Fault.TheVariants.{Range, WrongElement}
use Rattle.jr_word.specs.declared.kind.Kind.{Kind}
use Rattle.jr_word.specs.Kind.{kind_code}
use Rattle.jr_model.specs.State.{State}
use Rattle.jr_model.specs.Calls.{Call}
use Rattle.jr_model.specs.Checks.{Word}
use Rattle.jr_model.specs.CallPrograms.{get_array_critical, get_string_critical}
use Rattle.jr_steps.specs.declared.steps.Steps.{Ghosts}
use Rattle.jr_frames.specs.declared.held.Held.{Held}
use Rattle.jr_critical.specs.declared.levels.Levels.{Levels}
use Rattle.jr_critical.specs.Levels.{GivesUpAllOver, TellsKind, TellsLength, opened_by}
use Rattle.jr_critical.specs.LevelParts.{ReadsPartAt, WritesPartAt}
use Rattle.jr_env.specs.declared.env.Env.{Env}
use Rattle.jr_env.specs.Envs.{IsOutside}
use Rattle.jr_env.specs.Criticals.{HasEntered, WasRefused}
use Rattle.jr_env.specs.StandingRegions.{WasUndisturbed}

-- how a region is opened over an array, and over a string
abbrev pub over_array : Config → ℕ → ℕ → State → Word → Call ℕ
over_array = opened_by (get_array_critical 0)

abbrev pub over_string : Config → ℕ → ℕ → State → Word → Call ℕ
over_string = opened_by (get_string_critical 0)

-- a test of the number of elements
abbrev pub so_many_or_refused : Bool → Result (Unit {0}) Fault
so_many_or_refused true = Ok tt
so_many_or_refused false = Err Range

-- a test of their kind, and then one of their number
abbrev pub AreSoMany : Bool → Levels → ℕ → Result (Unit {0}) Fault → Type 0
AreSoMany true v n answer = (m : ℕ) × TellsLength v 0 m × (answer ≡ so_many_or_refused (m == n))
AreSoMany false v n answer = answer ≡ Err WrongElement

-- WHETHER SO MANY ELEMENTS OF A KIND ARE ALL of the first level's array:
-- E6 where its elements are of another kind, and else E7 where they are another number
abbrev pub AreAll : Levels → Kind → ℕ → Result (Unit {0}) Fault → Type 0
AreAll v kind n answer =
    (k : Kind) × TellsKind v 0 k × AreSoMany (kind_code k == kind_code kind) v n answer

-- where the test was passed this was done, and else it is the answer, and nothing has changed
abbrev pub Unless : {A H : Type 0} → Result (Unit {0}) Fault → H → H → Result A Fault → Type 0 → Type 0
Unless (Ok u) old new answer done = done
Unless (Err e) old new answer done = (answer ≡ Err e) × (new ≡ old)

module _ {S : Type 0} {G : Ghosts S} where
  -- THIS WAS DONE IN A REGION that was opened so at a word, with this answer: the region was entered, this was done
  -- in it, and all its levels were given up; or the opening was refused, which is the answer. The thread stands
  -- outside, the frames are as they were, and no collection disturbed the region from its entry to its exit
  abbrev pub DoneInRegion : {A : Type 0} → Env S G → Env S G → ℕ → (Config → ℕ → ℕ → State → Word → Call ℕ)
      → (Held S G → Held S G → Levels → Result A Fault → Type 0) → Result A Fault → Type 0
  DoneInRegion old new w call done answer = ((e : Fault) × (answer ≡ Err e) × WasRefused old new w call e)
      ⊎ ((v : Levels) × (first last : Env S G) × HasEntered old first v w call × done first.held last.held v answer
      × GivesUpAllOver last.held new.held v × (IsOutside old → WasUndisturbed old.held new.held)
      × (new.held.frames ≡ old.held.frames) × IsOutside new)

  -- all elements of the first level's array were read, as many as these, of this kind; or they are not all
  abbrev pub ReadsAll : Kind → ℕ → Held S G → Held S G → Levels → Result (List ℕ) Fault → Type 0
  ReadsAll kind n old new v answer = (fits : Result (Unit {0}) Fault) × AreAll v kind n fits
      × Unless fits old new answer (ReadsPartAt old new v 0 kind 0 n answer)

  -- all elements of the first level's array were written, as many as these words, of this kind; or they are not all
  abbrev pub WritesAll : Kind → List ℕ → Held S G → Held S G → Levels → Result (Unit {0}) Fault → Type 0
  WritesAll kind words old new v answer = (fits : Result (Unit {0}) Fault) × AreAll v kind (length words) fits
      × Unless fits old new answer (WritesPartAt old new v 0 kind 0 words answer)
