-- What a census foretells of a collection.
use Rattle.std.specs.Prelude.{◌≡◌, ◌+◌, ℕ, if◌then◌else◌, Option, List, ◌∷◌, ◌++◌, length, sum_by}
use Rattle.jr_word.specs.declared.config.Config.{Config}
use Rattle.jr_word.specs.declared.kind.Kind.{Kind}
use Rattle.jr_model.specs.declared.event.Act.TheVariants.{Gate}
use Rattle.jr_model.specs.declared.event.GateAct.TheVariants.{Shut, Reopen}
use Rattle.jr_model.specs.State.{Contents, Handle, HaveSameTables, State, length_of}
use Rattle.jr_model.specs.History.{History, IsLegal, by, mine, state}
use Rattle.jr_model.specs.CollectionCalls.{IsWhole, sweeping_acts}
use Rattle.jr_census.specs.declared.objects.Objects.{Objects as ObjectCounts}
use Rattle.jr_census.specs.declared.taking.Census.{Census}
use Rattle.jr_census.specs.Counts.{count_of, is_present_as}
use Rattle.jr_census.specs.Taking.{IsCensusOf}

-- SO MANY OBJECTS ARE LISTED, of each kind and together, and so many words they have
pub record AreListed (numbers : List ℕ) (objects : ℕ → Option Contents) (x : ObjectCounts) : Type 0 where
  pub kinds : (kind : Kind)
      → count_of x.kinds kind ≡ sum_by (λ o. if is_present_as kind (objects o) then 1 else 0) numbers
  pub live : x.live ≡ length numbers
  pub words : x.words ≡ sum_by (λ o. length_of (objects o)) numbers

-- A COLLECTION IS FORETOLD by a census of the state, where it drops these objects and leaves so many words used:
-- the census told these objects as unreached, these words as reached, and as freed the others that were used
pub record IsForetold (s : State) (x : Census) (dropped : List ℕ) (used : ℕ) : Type 0 where
  pub drops : AreListed dropped s.objects x.unreached
  pub leaves : x.words.reached ≡ used
  pub frees : x.words.freed + used ≡ s.used

-- a census of a state foretells each collection that leaves nothing out, where its shut finds the same tables
abbrev pub CollectionIsForetold : Config → ℕ → Type 0
CollectionIsForetold c last = (s : State) (x : Census) (t : ℕ) (before inside rest : History) (cleared : List Handle)
    (dropped : List ℕ) (used : ℕ)
    → IsCensusOf c last s x → HaveSameTables s (state before)
    → IsLegal c last (before ++ by t (Gate Shut) ∷ inside ++ by t (Gate Reopen) ∷ rest)
    → mine inside t ≡ sweeping_acts cleared dropped used → IsWhole (state before) cleared dropped
    → IsForetold s x dropped used
