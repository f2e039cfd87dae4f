-- What a census or a dump that an env takes told.
use Rattle.std.specs.Prelude.{◌≡◌, ◌≤◌, ◌+◌, ℕ, Option, Ok, Err, List, [], ◌++◌}
use Rattle.jr_word.specs.declared.config.Config.{Config}
use Rattle.jr_word.specs.declared.header.HeaderParts.{HeaderParts}
use Rattle.jr_word.specs.declared.local.LocalParts.{LocalParts}
use Rattle.jr_word.specs.declared.slot.SlotParts.{SlotParts}
use Rattle.jr_model.specs.declared.event.Act.{Act}
use Rattle.jr_model.specs.State.{State}
use Rattle.jr_model.specs.CollectionCalls.{announcing_acts}
use Rattle.jr_model.specs.History.{History, PassView}
use Rattle.jr_model.specs.Windows.{IsWindow}
use Rattle.jr_steps.specs.Holdings.{empty}
use Rattle.jr_gate.specs.Performing.{ThreadState}
use Rattle.jr_weak.specs.Collecting.{AfterTries, DoesAnnounced, announced_steps, shut_acts}
use Rattle.jr_census.specs.declared.taking.Census.{Census}
use Rattle.jr_census.specs.Taking.{IsCensusOf, IsDumpOf, IsTold, counting_steps, noting_steps}
use Rattle.jr_env.specs.Collections.{IsGivenUp, IsKeptOut}
use Rattle.jr_env.specs.Deeds.{Deed}

-- IT WAS TOLD, as this says: the thread did these acts in its own window, and nothing else. It takes no more
-- operations than these. The frames and the hint stay as they are, and afterwards the thread holds nothing
pub record WasTold (does : PassView → PassView → Type 0) (acts : List Act) (most : ℕ) (old new : ThreadState)
    : Type 0 where
  pub told : does old.pass new.pass
  pub begun : History
  pub window : IsWindow old.pass new.pass acts begun
  pub frames : new.frames ≡ old.frames
  pub taken : new.taken ≤ old.taken + most
  pub fresh : new.fresh ≡ old.fresh
  pub hint : new.hint ≡ old.hint
  pub lets_go : new.held ≡ empty

-- what a call tells, by its answer, of the state at the step that shut the gate; or its refusal, which is that of a
-- collection. It takes no more operations than the sizes of the room say, and two
abbrev pub telling : {A : Type 0} → (Config → ℕ) → (A → Config → ℕ → State → Type 0) → Deed A
telling most tells old (Ok x) new =
    WasTold (λ p q. IsTold p q (tells x)) (shut_acts []) (most old.pass.config + 2) old new
telling most tells old (Err e) new = IsKeptOut old new e

-- what an announced one tells, after fewer refused shuts than there were tries; or its refusal, which is that of an
-- announced collection. From its announcement to its reopening nobody entered
abbrev pub telling_announced : {A : Type 0} → (Config → ℕ) → (A → Config → ℕ → State → Type 0) → ℕ → Deed A
telling_announced most tells tries old (Ok x) new = AfterTries tries (λ refused.
    WasTold (λ p q. DoesAnnounced p q refused [] (λ r s. IsTold r s (tells x)))
    (announcing_acts refused ++ shut_acts []) (announced_steps refused (most old.pass.config + 2)) old new)
telling_announced most tells tries old (Err e) new = IsGivenUp tries old new e

-- a census
abbrev pub census : Deed Census
census = telling counting_steps (λ x c last s. IsCensusOf c last s x)

-- a census that was announced
abbrev pub announced_census : ℕ → Deed Census
announced_census = telling_announced counting_steps (λ x c last s. IsCensusOf c last s x)

-- a dump, with these notes
abbrev pub dump : List SlotParts → List LocalParts → List (Option HeaderParts) → List ℕ → Deed (Unit {0})
dump noted locals headers words = telling noting_steps (λ u c last s. IsDumpOf c last s noted locals headers words)

-- a dump that was announced, with these notes
abbrev pub announced_dump : ℕ → List SlotParts → List LocalParts → List (Option HeaderParts) → List ℕ
    → Deed (Unit {0})
announced_dump tries noted locals headers words =
    telling_announced noting_steps (λ u c last s. IsDumpOf c last s noted locals headers words) tries
