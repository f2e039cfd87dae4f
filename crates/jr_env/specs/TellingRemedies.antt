-- What is done about a room that is full, over an env by who tells of refusals.
use Rattle.std.specs.Prelude.{◌≡◌, ◌⊎◌, ℕ, Bool, true, false, Option, Some, None, Result, Ok, Err, List}
use Rattle.jr_word.specs.declared.fault.Fault.{Fault}
use Rattle.jr_word.specs.declared.fault.Fault.TheVariants.{Size}
use Rattle.jr_word.specs.declared.handle.RefKind.TheVariants.{Weak}
use Rattle.jr_steps.specs.declared.steps.Steps as steps
use Rattle.jr_weak.specs.declared.collecting.Collected.{Collected}
use Rattle.jr_weak.specs.declared.marker.Marker.{Marker}
use Rattle.jr_env.specs.declared.env.Env.{Env}
use Rattle.jr_env.specs.declared.patience.Patience.{Patience}
use Rattle.jr_env.specs.declared.span.Span.{Span}
use Rattle.jr_env.specs.Collections.{collection}
use Rattle.jr_env.specs.Deeds.{Deed}
use Rattle.jr_env.specs.Remedies.{collection_in_turn}
use Rattle.jr_env.specs.Requests.{Request, for_delete_reference, for_is_same_object, request_name, request_words}
use Rattle.jr_env.specs.Spans.{Spans}
use Rattle.jr_env.specs.TellingCalls.{DoesIfFits, LeavesEnv, RefusalTold, TriedAgain}
use Rattle.jr_env.specs.Tries.{MadeAgain, MadeCollecting}

-- a collection: once, or in turn, where so many tries to shut the gate are named
abbrev pub collection_by : Option ℕ → ℕ → Deed Collected
collection_by None more = collection
collection_by (Some tries) more = collection_in_turn tries more

module _ {N S : Type 0} {G : steps.Ghosts S} (env_in : N → Env S G) (with_env : N → Env S G → N) where
  -- the env beneath collected with a marker, where that fits its room
  abbrev pub CollectsBeneath : Marker → Option ℕ → ℕ → N → Result Collected Fault → N → Type 0
  CollectsBeneath m tries more old answer new =
      LeavesEnv env_in with_env (λ before behind. DoesIfFits m before behind (collection_by tries more) answer) old new

-- A CALL WAS TRIED, WITH ONE COLLECTION BETWEEN where it lacked room, if the marker fits the room at first;
-- and if it doesn't, that was refused by E17, and nothing was done
pub record TriesCollecting {N A C : Type 0} (one : N → Result A Fault → N → Type 0)
    (collects : N → Result C Fault → N → Type 0) (fits : Type 0) (p : Patience) (old : N) (answer : Result A Fault)
    (new : N) : Type 0 where
  pub tries : fits → MadeCollecting (MadeAgain p.waits_for_room one p.more) collects old answer new
  pub size : ¬ fits → (answer ≡ Err Size) × (new ≡ old)

module _ {N : Type 0} (told : N → N → List ℕ → List ℕ → Option Span → Fault → Type 0) where
  -- AND OF THE LAST REFUSAL ALONE IT WAS TOLD, by the name and the words of the call, with elements that it asks
  pub record TriedCollecting {A C : Type 0} (tried : N → N → Request A → Result A Fault → Type 0)
      (collects : N → Result C Fault → N → Type 0) (fits : Type 0) (p : Patience) (old new : N) (request : Request A)
      (answer : Result A Fault) : Type 0 where
    pub left : N
    pub tries : TriesCollecting (λ before once behind. tried before behind request once) collects fits p old answer left
    pub span : Option Span
    pub asks : Spans request span
    pub tells : RefusalTold told left new (request_name request) (request_words request) span answer

module _ {N : Type 0} (told : N → N → List ℕ → List ℕ → Option Span → Fault → Type 0)
    (compared : N → N → Request Bool → Result Bool Fault → Type 0)
    (deleted : N → N → Request (Unit {0}) → Result (Unit {0}) Fault → Type 0) where
  -- A WEAK REFERENCE WAS DELETED WHERE IT IS CLEARED: it was compared with NULL, and deleted where that said yes;
  -- and of the refusal of either it was told
  abbrev pub DeletesCleared : Patience → ℕ → N → N → Result Bool Fault → Type 0
  DeletesCleared p w old new (Ok true) = (mid : N)
      × TriedAgain told compared p old mid (for_is_same_object w 0) (Ok true)
      × TriedAgain told deleted p mid new (for_delete_reference Weak w) (Ok tt)
  DeletesCleared p w old new (Ok false) = TriedAgain told compared p old new (for_is_same_object w 0) (Ok false)
  DeletesCleared p w old new (Err e) = TriedAgain told compared p old new (for_is_same_object w 0) (Err e)
      ⊎ ((mid : N) × TriedAgain told compared p old mid (for_is_same_object w 0) (Ok true)
      × TriedAgain told deleted p mid new (for_delete_reference Weak w) (Err e))

-- whether elements were written back, in what a release answered
abbrev pub written_answer : {V : Type 0} → Result (Option V) (V × Fault) → Result (Unit {0}) Fault
written_answer (Ok kept) = Ok tt
written_answer (Err (left, e)) = Err e
