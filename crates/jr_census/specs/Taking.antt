-- A census and a dump as calls, over any steps.
use Rattle.std.specs.Prelude.{◌≡◌, ◌+◌, ◌*◌, ℕ, Bool, Option, List, [], ◌∷◌, ◌++◌}
use mathlib.Core.List.{IsPrefix}
use Rattle.jr_word.specs.declared.config.Config.{Config}
use Rattle.jr_word.specs.declared.header.HeaderParts.{HeaderParts}
use Rattle.jr_word.specs.declared.local.LocalParts.{LocalParts}
use Rattle.jr_word.specs.declared.slot.SlotParts.{SlotParts}
use Rattle.jr_model.specs.declared.event.Act.TheVariants.{Gate}
use Rattle.jr_model.specs.declared.event.GateAct.TheVariants.{Shut, Reopen}
use Rattle.jr_model.specs.State.{State}
use Rattle.jr_model.specs.History.{History, by, state, PassView, Did}
use Rattle.jr_steps.specs.declared.known.Known.{Known}
use Rattle.jr_steps.specs.Knowing.{Facts, Goes, Went, CanReopen, state_of, standing_after, lets_go}
use Rattle.jr_compact.specs.Counting.{SeesWithin}
use Rattle.jr_weak.specs.Collecting.{AfterTries, WentAnnounced, WentShut}
use Rattle.jr_weak.specs.Counting.{marking_steps}
use Rattle.jr_weak.specs.Marks.{IsExactly}
use Rattle.jr_census.specs.declared.taking.Census.{Census}
use Rattle.jr_census.specs.Dumps.{HasObjects, HasPlaces, HasSlots}
use Rattle.jr_census.specs.declared.objects.Objects.{Objects}
use Rattle.jr_census.specs.Counts.{AreSlots, AreLocals, AreObjects, AreUsedWords, unmarked}

-- SO MANY OBJECTS ARE PRESENT THAT NOTHING REACHES, with the numbers up to n:
-- those but the ones that are marked, where marked means reached
abbrev pub AreUnreached : ℕ → State → Objects → Type 0
AreUnreached n s x = (marks : List Bool) × IsExactly marks s × AreObjects n (unmarked marks s.objects) x

-- THE CENSUS IS THE STATE'S: each of its numbers is the count over the state
pub record IsCensusOf (c : Config) (last : ℕ) (s : State) (x : Census) : Type 0 where
  pub slots : AreSlots c.slots last s x.slots
  pub locals : AreLocals c.locals s.locals x.locals
  pub objects : AreObjects c.objects s.objects x.objects
  pub unreached : AreUnreached c.objects s x.unreached
  pub words : AreUsedWords c s x.words

-- THE DUMP IS THE STATE'S:
-- each slot, each local place of each thread, and each object number is kept as it stands there
pub record IsDumpOf (c : Config) (last : ℕ) (s : State) (noted : List SlotParts) (places : List LocalParts)
    (headers : List (Option HeaderParts)) (words : List ℕ) : Type 0 where
  pub slots : HasSlots c.slots last s noted
  pub locals : HasPlaces c.threads c.locals s places
  pub objects : HasObjects c.objects s headers words

-- where the step lies that shut the gate, in what a pass has seen since a moment
pub record ShutIn (old new : PassView) : Type 0 where
  pub before : History
  pub rest : History
  pub from : IsPrefix old.seen before
  pub parts : new.seen ≡ before ++ by old.thread (Gate Shut) ∷ rest

-- IT WAS TOLD between two moments:
-- the thread shut the gate and opened it, and did nothing else, and what is told is so of the state at that shut
pub record IsTold (old new : PassView) (tells : Config → ℕ → State → Type 0) : Type 0 where
  pub did : Did old new (Gate Shut ∷ Gate Reopen ∷ [])
  pub shut : ShutIn old new
  pub told : tells old.config old.last (state shut.before)

-- the operations of a census, but two at the gate:
-- those of marking, a look at each slot, at each header, and at each local place of each thread, and one at the top
abbrev pub counting_steps : Config → ℕ
counting_steps c = marking_steps c + (c.slots + c.objects + c.threads * c.locals) + 1

-- those of a dump:
-- a look at each slot, at each local place of each thread, at each header, and at each word of the space
abbrev pub noting_steps : Config → ℕ
noting_steps c = c.slots + c.threads * c.locals + (c.objects + c.words)

-- For the crate's own functions: what comes after the shut:
-- what is told is so of the state then, and the gate is opened at last
pub record ToldFrom (most : Config → ℕ) (tells : Config → ℕ → State → Type 0) (j k : Known) : Type 0 where
  pub opening : Known
  pub seen : SeesWithin (most j.config) j opening
  pub told : tells j.config j.last (state_of j)
  pub opened : Goes opening (Gate Reopen ∷ []) k

module _ {S : Type 0} (facts : S → Facts) (most : Config → ℕ) (tells : Config → ℕ → State → Type 0) where
  -- For the crate's own functions: it was told, once the gate was shut
  abbrev pub TellsOnce : S → S → Type 0
  TellsOnce old new = Went facts old new (standing_after (facts old).stands (Gate Reopen ∷ [])) CanReopen
      (λ j k. ToldFrom most tells j k) lets_go

  -- IT WAS TOLD BY A CALL, in its own window, by no more operations than the room's sizes say, and two;
  -- and nothing is held then
  abbrev pub TakesTold : S → S → Type 0
  TakesTold old new = WentShut facts old new [] [] (λ c. most c + 2) (λ p q. IsTold p q tells)

  -- IT WAS TOLD BY AN ANNOUNCED CALL, after fewer refused shuts than there were tries
  abbrev pub TakesToldAnnounced : ℕ → S → S → Type 0
  TakesToldAnnounced tries old new = AfterTries tries (λ refused.
      WentAnnounced facts old new refused [] (λ c. most c + 2) (λ p q. IsTold p q tells))

module _ {S : Type 0} (facts : S → Facts) (old new : S) where
  -- For the crate's own functions: it was counted, once the gate was shut
  abbrev pub CountsOnce : Census → Type 0
  CountsOnce x = TellsOnce facts counting_steps (λ c last s. IsCensusOf c last s x) old new

  -- A CENSUS WAS TAKEN
  abbrev pub TakesCensus : Census → Type 0
  TakesCensus x = TakesTold facts counting_steps (λ c last s. IsCensusOf c last s x) old new

  -- AN ANNOUNCED CENSUS WAS TAKEN
  abbrev pub TakesCensusAnnounced : ℕ → Census → Type 0
  TakesCensusAnnounced tries x =
      TakesToldAnnounced facts counting_steps (λ c last s. IsCensusOf c last s x) tries old new

  -- For the crate's own functions: it was noted, once the gate was shut
  abbrev pub NotesOnce : List SlotParts → List LocalParts → List (Option HeaderParts) → List ℕ → Type 0
  NotesOnce noted locals headers words =
      TellsOnce facts noting_steps (λ c last s. IsDumpOf c last s noted locals headers words) old new

  -- A DUMP WAS TAKEN
  abbrev pub TakesDump : List SlotParts → List LocalParts → List (Option HeaderParts) → List ℕ → Type 0
  TakesDump noted locals headers words =
      TakesTold facts noting_steps (λ c last s. IsDumpOf c last s noted locals headers words) old new

  -- AN ANNOUNCED DUMP WAS TAKEN
  abbrev pub TakesDumpAnnounced : ℕ → List SlotParts → List LocalParts → List (Option HeaderParts) → List ℕ → Type 0
  TakesDumpAnnounced tries noted locals headers words = TakesToldAnnounced facts noting_steps
      (λ c last s. IsDumpOf c last s noted locals headers words) tries old new
