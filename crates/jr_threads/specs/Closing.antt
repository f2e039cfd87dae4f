-- What the close of a room does first: its first thread learns what the others have seen, and collects.
use Rattle.std.specs.Prelude.{◌≡◌, ◌≢◌, ◌⊎◌, ◌≤◌, ◌<◌, ℕ, List, [], ◌∷◌}
use Rattle.std.specs.List.{AllByRecursion}
use mathlib.Core.List.{IsPrefix}
use Rattle.jr_word.specs.declared.config.Config.{Config}
use Rattle.jr_word.specs.declared.fault.Fault.{Fault}
use Rattle.jr_word.specs.declared.fault.Fault.TheVariants.{Busy, Size}
use Rattle.jr_word.specs.declared.handle.RefKind.TheVariants.{Weak}
use Rattle.jr_model.specs.declared.event.Act.{Act}
use Rattle.jr_model.specs.declared.event.Act.TheVariants.{ShutBusy}
use Rattle.jr_model.specs.declared.event.Found.TheVariants.{Object}
use Rattle.jr_model.specs.State.{Handle, State, IsPresent, IsReached, present_words}
use Rattle.jr_model.specs.CollectionCalls.{collection_acts}
use Rattle.jr_model.specs.History.{Did, PassView, mine, state}
use Rattle.jr_model.specs.declared.summary.Summary.{Summary}
use Rattle.jr_steps.specs.declared.known.Known.{Known}
use Rattle.jr_steps.specs.Knowing.{Goes, Took, anything, keeps, view}
use Rattle.jr_rule.specs.Passes.{Closes, ClosesAll, Holder, facts_of}

-- NOTHING IS LEFT TO COLLECT in a room of these sizes: each object that is present is reached, and so is each that
-- a weak reference names; and each word that is used is a present object's
pub record HasNoGarbage (c : Config) (s : State) : Type 0 where
  pub objects : (o : ℕ) → IsPresent s o → IsReached s o
  pub weaks : (h : Handle) (o : ℕ) → h.kind ≡ Weak → s.refs h ≡ Object o → IsReached s o
  pub words : s.used ≡ present_words c s

-- IT COLLECTED: by these acts and no others, and nothing is left to collect in what it has seen then
pub record HasSweptAll (old new : PassView) : Type 0 where
  pub cleared : List Handle
  pub dropped : List ℕ
  pub used : ℕ
  pub did : Did old new (collection_acts cleared dropped used)
  pub nothing : HasNoGarbage new.config (state new.seen)

-- For the crate's own functions: A COLLECTION WAS REFUSED, by its one act: so many threads were not outside
pub record WasKeptOut (k k' : Known) : Type 0 where
  pub count : ℕ
  pub some : 1 ≤ count
  pub goes : Goes k (ShutBusy count ∷ []) k'

-- For the crate's own functions: ALL THAT THESE HAVE SEEN WAS LEARNED, and nothing else was done
pub record LearnsAll (k k' : Known) (others : List Known) : Type 0 where
  pub config : k'.config ≡ k.config
  pub last : k'.last ≡ k.last
  pub thread : k'.thread ≡ k.thread
  pub begins : IsPrefix k.seen k'.seen
  pub own : mine k'.seen k.thread ≡ mine k.seen k.thread
  pub all : AllByRecursion (λ j. IsPrefix j.seen k'.seen) others

-- For the crate's own functions: the thread learned what these have seen, and then collected, or was kept out
pub record LearnsAndSweeps (k k' : Known) (others : List Known) : Type 0 where
  pub learned : Known
  pub learns : LearnsAll k learned others
  pub then : HasSweptAll (view learned) (view k') ⊎ WasKeptOut learned k'

-- A ROOM IS CLOSED WITH ALL THESE PASSES, once the first had done these acts, those of a collection that cleared and
-- dropped so, and any behind it: nothing is left to collect at the end
pub record ClosesBy (acts : List Handle → List ℕ → ℕ → List Act) (k : Known) (ks : List Known) (s : Summary)
    : Type 0 where
  pub cleared : List Handle
  pub dropped : List ℕ
  pub used : ℕ
  pub swept : Known
  pub did : Did (view k) (view swept) (acts cleared dropped used)
  pub closes : ClosesAll swept ks s
  pub nothing : HasNoGarbage swept.config (state closes.ends.whole)

-- and where it had collected alone
abbrev pub ClosesSwept : Known → List Known → Summary → Type 0
ClosesSwept = ClosesBy collection_acts

-- A ROOM IS CLOSED BY ONE PASS that had collected. Where no other thread did anything
-- since, nothing is left to collect at the end
pub record ClosesCollected (k : Known) (s : Summary) : Type 0 where
  pub swept : Known
  pub collects : HasSweptAll (view k) (view swept)
  pub closes : Closes swept s
  pub nothing : ((t : ℕ) → t < swept.config.threads → t ≢ swept.thread
      → mine closes.ends.whole t ≡ mine swept.seen t) → HasNoGarbage swept.config (state closes.ends.whole)

-- IT DID NOT COLLECT, with this refusal: the marker was made for another number of objects, and
-- nothing was done; or by its one step so many threads were not outside, and nothing has changed
abbrev pub IsNotCollected : ℕ → ℕ → Holder → Holder → Fault → Type 0
IsNotCollected fits objects old new e = ((e ≡ Size) × (fits ≢ objects) × (new ≡ old))
    ⊎ ((n : ℕ) × (e ≡ Busy n) × (1 ≤ n) × Took facts_of old new (ShutBusy n ∷ []) anything keeps)
