-- Histories: lists of events, the oldest first.
use Rattle.std.specs.Prelude.{◌≡◌, ◌≢◌, ℕ, ◌==◌, Bool, true, false, cond, ◌&&◌, Some, List, [], ◌∷◌, ◌++◌, slice_get}
use Rattle.std.specs.List.{AllByRecursion}
use mathlib.Core.List.{IsPrefix}
use Rattle.jr_word.specs.declared.config.Config.{Config}
use Rattle.jr_word.specs.declared.kind.Kind.{Kind}
use Rattle.jr_model.specs.declared.event.Role.{Role}
use Rattle.jr_model.specs.declared.event.Event.{Event}
use Rattle.jr_model.specs.declared.event.Act.{Act}
use Rattle.jr_model.specs.declared.event.Act.TheVariants.{Gate, ShutBusy, Clear, New, Write, Drop, Settle, Meet}
use Rattle.jr_model.specs.declared.event.GateAct.TheVariants.{Enter, Knock, Leave, Withdraw, Shut, Reopen}
use Rattle.jr_model.specs.State.{State, opening}
use Rattle.jr_model.specs.Steps.{Needs, role_behind, after}

-- a history: the events of all threads, in the order in which they happened
abbrev pub History : Type 0
History = List Event

-- the event of thread t with this act
abbrev pub by : ℕ → Act → Event
by t a = record { thread = t; act = a }

-- the state that the events lead to from s
abbrev pub state_from : State → History → State
state_from s [] = s
state_from s (e ∷ es) = state_from (after s e) es

-- the state after the history
abbrev pub state : History → State
state es = state_from opening es

-- the events are steps, one after the other, from s
abbrev pub IsLegalFrom : Config → ℕ → State → History → Type 0
IsLegalFrom c last s [] = Unit {0}
IsLegalFrom c last s (e ∷ es) = Needs c last s e × IsLegalFrom c last (after s e) es

-- A LEGAL HISTORY: its events are steps, one after the other, from the opening state
abbrev pub IsLegal : Config → ℕ → History → Type 0
IsLegal c last es = IsLegalFrom c last opening es

-- what thread t did, in order
abbrev pub mine : History → ℕ → List Act
mine [] t = []
mine (e ∷ es) t = cond (e.thread == t) (e.act ∷ mine es t) (mine es t)

-- the steps of a collection
abbrev pub is_collection_step : Act → Bool
is_collection_step (Gate Shut) = true
is_collection_step (Clear h) = true
is_collection_step (Drop o) = true
is_collection_step (Settle u) = true
is_collection_step (Gate Reopen) = true
is_collection_step _ = false

-- what another thread may do during a collection
abbrev pub is_waiting : Act → Bool
is_waiting (Gate Knock) = true
is_waiting (Gate Withdraw) = true
is_waiting (ShutBusy n) = true
is_waiting Meet = true
is_waiting _ = false

-- there is no further event, or the next one is e
abbrev pub EndsAt : Event → History → Type 0
EndsAt e [] = Unit {0}
EndsAt e (f ∷ es) = f ≡ e

-- a stay of t inside the gate: from an Enter of t to its next Leave, or to the end of the history
pub record IsStay (t : ℕ) (whole : History) (before inside rest : History) : Type 0 where
  pub parts : whole ≡ before ++ by t (Gate Enter) ∷ inside ++ rest
  pub stays : AllByRecursion (λ e. e ≢ by t (Gate Leave)) inside
  pub ends : EndsAt (by t (Gate Leave)) rest

-- a collection of t: from a Shut of t to its next Reopen, or to the end of the history
pub record IsCollection (t : ℕ) (whole : History) (before inside rest : History) : Type 0 where
  pub parts : whole ≡ before ++ by t (Gate Shut) ∷ inside ++ rest
  pub stays : AllByRecursion (λ e. e ≢ by t (Gate Reopen)) inside
  pub ends : EndsAt (by t (Gate Reopen)) rest

-- the act makes the object
abbrev pub makes_object : ℕ → Act → Bool
makes_object o (New p k ws) = p == o
makes_object o _ = false

-- the act writes the element i of the object
abbrev pub writes : ℕ → ℕ → Act → Bool
writes o i (Write p j v) = (p == o) && (j == i)
writes o i _ = false

-- no event passes
abbrev pub NoneOf : (Act → Bool) → History → Type 0
NoneOf p es = AllByRecursion (λ e. p e.act ≡ false) es

-- v is what stands at element i of o:
-- the word of the last write of it after the last making of o, or else the word that it was made with
pub data IsLastWord (o i v : ℕ) (es : History) : Type 0 where
  from_new : (before since : History) (t : ℕ) (k : Kind) (ws : List ℕ) → es ≡ before ++ by t (New o k ws) ∷ since
      → slice_get ws i ≡ Some v → NoneOf (makes_object o) since → NoneOf (writes o i) since → IsLastWord o i v es
  from_write : (before since : History) (t : ℕ) → es ≡ before ++ by t (Write o i v) ∷ since
      → NoneOf (makes_object o) since → NoneOf (writes o i) since → IsLastWord o i v es

-- a thread's role after an act of its own
abbrev pub role_after : Role → Act → Role
role_after r (Gate a) = role_behind a
role_after r _ = r

-- a thread's role after acts of its own
abbrev pub role_from : Role → List Act → Role
role_from r [] = r
role_from r (a ∷ acts) = role_from (role_after r a) acts

-- what a pass knows: its room's configuration and last serial, its thread, and the history that it has seen
pub record PassView : Type 0 where
  pub config : Config
  pub last : ℕ
  pub thread : ℕ
  pub seen : History

-- the role of the pass's thread
abbrev pub role_of : PassView → Role
role_of p = (state p.seen).role p.thread

-- WHAT A THREAD DID between two moments: what was seen begins what is seen, which is legal, and of
-- the thread's own acts it has these more and no others, whatever the other threads did in between
pub record Did (old new : PassView) (acts : List Act) : Type 0 where
  pub config : new.config ≡ old.config
  pub last : new.last ≡ old.last
  pub thread : new.thread ≡ old.thread
  pub legal : IsLegal old.config old.last new.seen
  pub begins : IsPrefix old.seen new.seen
  pub own : mine new.seen old.thread ≡ mine old.seen old.thread ++ acts

-- a pass met another: all that the other had seen is seen, and of the other's own acts just those
pub record HasMet (other new : PassView) : Type 0 where
  pub begins : IsPrefix other.seen new.seen
  pub theirs : mine new.seen other.thread ≡ mine other.seen other.thread
