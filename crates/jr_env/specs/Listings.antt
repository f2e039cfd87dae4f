-- What a collection that an env makes lists, and the marks that it leaves.
use Rattle.std.specs.Prelude.{ℕ, Bool, Ok, Err, List}
use Rattle.jr_model.specs.State.{Handle}
use Rattle.jr_model.specs.Parts as parts
use Rattle.jr_weak.specs.declared.collecting.Collected.{Collected}
use Rattle.jr_weak.specs.Collecting.{AfterTries, CollectsAnnouncedMarking, CollectsMarking, announced_steps}
use Rattle.jr_weak.specs.Counting.{collection_steps}
use Rattle.jr_env.specs.Collections.{HasCollected, IsGivenUp, IsKeptOut}
use Rattle.jr_env.specs.Deeds.{Deed}
use Rattle.jr_env.specs.Remedies.{MadeUntilServed}

-- A COLLECTION, or its refusal: one that left these marks, and of whose cleared references and dropped objects,
-- in their order, this is told
abbrev pub listed_collection : List Bool → (List Handle → List ℕ → Type 0) → Deed Collected
listed_collection marks tells old (Ok c) new =
    (z : HasCollected (CollectsMarking marks) parts.collect (collection_steps old.pass.config) old new c)
    × tells z.cleared z.dropped
listed_collection marks tells old (Err e) new = IsKeptOut old new e

-- an announced one, after fewer refused shuts than there were tries, or its refusal
abbrev pub listed_announced : ℕ → List Bool → (List Handle → List ℕ → Type 0) → Deed Collected
listed_announced tries marks tells old (Ok c) new = AfterTries tries (λ refused.
    (z : HasCollected (CollectsAnnouncedMarking marks refused) (parts.collect_announced tries)
    (announced_steps refused (collection_steps old.pass.config)) old new c) × tells z.cleared z.dropped)
listed_announced tries marks tells old (Err e) new = IsGivenUp tries old new e

-- one that is announced, and again up to so many times as long as it gets no turn
abbrev pub listed_in_turn : ℕ → ℕ → List Bool → (List Handle → List ℕ → Type 0) → Deed Collected
listed_in_turn tries more marks tells = MadeUntilServed (listed_announced tries marks tells) more
