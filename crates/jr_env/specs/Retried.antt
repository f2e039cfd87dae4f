-- Stays and critical regions that are entered with patience, and copies of elements, try by try.
use Rattle.std.specs.Prelude.{ℕ, List, Option, Result, Ok, Err, IfErr, map}
use Rattle.std.specs.Borrow.{Fml, MutBor, RattleType, RestsIfErr}
use Rattle.jr_word.specs.declared.config.Config.{Config}
use Rattle.jr_word.specs.declared.fault.Fault.{Fault}
use Rattle.jr_word.specs.declared.kind.Kind.{Kind}
use Rattle.jr_model.specs.declared.frames.Mode.{Mode}
use Rattle.jr_model.specs.State.{State}
use Rattle.jr_model.specs.Calls.{Call}
use Rattle.jr_model.specs.Checks.{Word}
use Rattle.jr_model.specs.CallPrograms.{get_array_critical, get_string_critical}
use Rattle.jr_steps.specs.declared.steps.Steps as steps
use Rattle.jr_critical.specs.declared.levels.Levels.{Levels}
use Rattle.jr_critical.specs.Levels.{opened_by}
use Rattle.jr_env.specs.declared.env.Env.{Env}
use Rattle.jr_env.specs.contracts.env.Env as env
use Rattle.jr_env.specs.declared.critical_region.Region.{Region}
use Rattle.jr_env.specs.declared.levels_beside.First.{First}
use Rattle.jr_env.specs.declared.levels_beside.First.TheVariants.{Array, Text}
use Rattle.jr_env.specs.declared.patience.Patience.{Patience}
use Rattle.jr_env.specs.declared.stay.Stay.{Stay}
use Rattle.jr_env.specs.Criticals.{HasEntered, WasRefused}
use Rattle.jr_env.specs.Deeds.{Deed, release_answer, release_array_elements, whole}
use Rattle.jr_env.specs.Envs.{Does, IsOutside}
use Rattle.jr_env.specs.LentStays.{WasBarred, WasEntered}
use Rattle.jr_env.specs.StandingRegions.{StandsSince}
use Rattle.jr_env.specs.Requests.{for_get_array_elements, told_by}
use Rattle.jr_env.specs.Tries.{MadeAgain, made_again}

-- the word of the first level
abbrev pub first_word : First → ℕ
first_word (Array h) = h.0
first_word (Text h) = h.0

-- the call that opens it
abbrev pub first_call : First → Config → ℕ → ℕ → State → Word → Call ℕ
first_call (Array h) = opened_by (get_array_critical 0)
first_call (Text h) = opened_by (get_string_critical 0)

module _ {S : Type 0} {G : steps.Ghosts S} where
  -- a try to enter a stay: it was entered, or the entry was barred
  abbrev pub TriesToStay : Env S G → Result (Unit {0}) Fault → Env S G → Type 0
  TriesToStay old (Ok _) new = WasEntered old new
  TriesToStay old (Err e) new = WasBarred old new e

  -- a try to open a region: these levels were entered, and a region with them stands since then; or none was opened
  abbrev pub TriesToOpen : First → Env S G → Result Levels Fault → Env S G → Type 0
  TriesToOpen first old (Ok v) new = HasEntered old new v (first_word first) (first_call first)
      × (IsOutside old → StandsSince old.held new.held v)
  TriesToOpen first old (Err e) new = WasRefused old new (first_word first) (first_call first) e

  -- A STAY WAS TRIED FOR, and again as long as there was patience; the last try is the answer
  abbrev pub TriesAgainToStay : Patience → Env S G → Result (Unit {0}) Fault → Env S G → Type 0
  TriesAgainToStay p = MadeAgain p.waits_for_room TriesToStay p.more

  -- A REGION WAS TRIED FOR, and again as long as there was patience; the last try is the answer
  abbrev pub TriesAgainToOpen : Patience → First → Env S G → Result Levels Fault → Env S G → Type 0
  TriesAgainToOpen p first = MadeAgain p.waits_for_room (TriesToOpen first) p.more

-- ReleaseBooleanArrayElements and its like, made again as long as there is patience
abbrev pub releasing_again : Patience → Kind → ℕ → List ℕ → Mode → Deed (Option (List ℕ))
releasing_again p kind w vs mode = made_again p.waits_for_room p.more (release_array_elements kind w vs mode)

module _ {S : Type 0} {G : steps.Ghosts S} {V : Type 0} (p : Patience) (kind : Kind) (word : V → ℕ) (w : ℕ) where
  -- the elements of an array were copied out, or were tried to be, as long as there was patience
  abbrev pub WasCopiedOut : Env S G → Result (List V) Fault → Env S G → Type 0
  WasCopiedOut old answer new = Does old new
      (made_again p.waits_for_room p.more (whole (told_by (map word) (for_get_array_elements kind w)))) answer

  -- these elements were released, or were tried to be, as long as there was patience
  abbrev pub WasReleased : Mode → List V → Env S G → Result (Option (List V)) (List V × Fault) → Env S G → Type 0
  WasReleased mode left old answer new = Does old new
      (releasing_again p kind w (map word left) mode) (release_answer (map word) answer)

module _ (S : RattleType) (G : steps.Ghosts S.Denot) where
  -- who lent the env gets it back at the stay's end; where none was entered, at once, as the last try left it
  abbrev pub rests_trying : Patience → MutBor (Env S.Denot G) → Result (Stay S.Denot G) Fault → Fml
  rests_trying p old result = RestsIfErr (env.the_row S G) old (λ r. r.env.ghost_name) result (λ new.
      IfErr result (λ e. TriesAgainToStay p old.now (Err e) new))

  -- who lent the env gets it back at the region's end; where none was opened, at once, as the last try left it
  abbrev pub rests_opening : Patience → First → MutBor (Env S.Denot G) → Result (Region S.Denot G) Fault → Fml
  rests_opening p first old result = RestsIfErr (env.the_row S G) old (λ r. r.env.ghost_name) result (λ new.
      IfErr result (λ e. TriesAgainToOpen p first old.now (Err e) new))
