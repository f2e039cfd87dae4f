-- The laws of every legal history.
use Rattle.std.specs.Prelude.{◌≡◌, ◌≢◌, ◌⊎◌, ◌≤◌, ℕ, true, false, Some, None}
use Rattle.std.specs.Prelude.{IsSome, List, [], ◌∷◌, ◌++◌, ◌↔◌, map, length}
use Rattle.std.specs.List.{AllByRecursion}
use Rattle.jr_word.specs.declared.config.Config.{Config}
use Rattle.jr_word.specs.declared.kind.Kind.TheVariants.{Plain, Objects}
use Rattle.jr_word.specs.declared.handle.RefKind.TheVariants.{Weak}
use Rattle.jr_model.specs.declared.event.Found.TheVariants.{Object, Cleared, Stale}
use Rattle.jr_model.specs.declared.event.Found.{Found}
use Rattle.jr_model.specs.declared.event.Act.TheVariants.{Gate, Create, Look, Delete, Read}
use Rattle.jr_model.specs.declared.event.GateAct.TheVariants.{Shut, Reopen}
use Rattle.jr_model.specs.declared.event.Event.{Event}
use Rattle.jr_model.specs.declared.frames.Mode.{Mode}
use Rattle.jr_model.specs.Steps.{Step}
use Rattle.jr_model.specs.State.{Contents, State, Handle, same_handle, IsPresent}
use Rattle.jr_model.specs.State.{NobodyCollects, AreWords, IsClosed, present_words}
use Rattle.jr_model.specs.History.{History, by, state, state_from, IsLegal, mine, is_collection_step}
use Rattle.jr_model.specs.History.{is_waiting, IsStay, IsCollection, IsLastWord, PassView, Did}
use Rattle.jr_model.specs.declared.event.Act.{Act}
use Rattle.jr_model.specs.declared.frames.LocalRef.{LocalRef}
use Rattle.jr_model.specs.Frames.{Frames, IsAdded, IsMove, LeadsTo, AreSound, Agree, fresh_frames}
use Rattle.jr_model.specs.Frames.{object_where, object_of, object_at, last_frame, without_local, popped, freed}
use Rattle.jr_model.specs.CollectionCalls.{sweeping_acts, IsWhole, IsExact, KeepsReached}
use Rattle.jr_model.specs.Releases.{released, release_acts}

-- the empty history is legal, and a longer one where its front is and its last event is a step
abbrev pub LegalGoesByStep : Config → ℕ → Type 0
LegalGoesByStep c last = IsLegal c last []
    × ((es : History) (e : Event)
    → IsLegal c last (es ++ e ∷ []) ↔ IsLegal c last es × Step c last (state es) e (state (es ++ e ∷ [])))

-- a thread that did all that it has seen has seen since an earlier moment just the acts that it did since
abbrev pub SeesItsOwnActs : Type 0
SeesItsOwnActs = (old new : PassView) (acts : List Act) → Did old new acts
    → AllByRecursion (λ e. e.thread ≡ new.thread) new.seen → new.seen ≡ old.seen ++ map (by new.thread) acts

-- after a delete of h each look at it is stale
abbrev pub DeletedIsStale : Config → ℕ → Type 0
DeletedIsStale c last = (h : Handle) (t u : ℕ) (r : Found) (before between rest : History)
    → IsLegal c last (before ++ by t (Delete h) ∷ between ++ by u (Look h r) ∷ rest) → r ≡ Stale

-- and h is never created again
abbrev pub DeletedIsNotCreated : Config → ℕ → Type 0
DeletedIsNotCreated c last = (h : Handle) (t u o : ℕ) (before between rest : History)
    → ¬ (IsLegal c last (before ++ by t (Delete h) ∷ between ++ by u (Create h o) ∷ rest))

-- each handle is created at most once
abbrev pub CreatedOnce : Config → ℕ → Type 0
CreatedOnce c last = (h : Handle) (t u o p : ℕ) (before between rest : History)
    → ¬ (IsLegal c last (before ++ by t (Create h o) ∷ between ++ by u (Create h p) ∷ rest))

-- at each moment at most one reference of an index stands
abbrev pub OneAnIndex : Config → ℕ → Type 0
OneAnIndex c last = (es : History) (g h : Handle) → IsLegal c last es
    → (state es).refs g ≢ Stale → (state es).refs h ≢ Stale → g.index ≡ h.index → g ≡ h

-- WHAT THE LAWS SAY OF A HISTORY: each handle is created at most once, and at each
-- moment at most one reference of an index stands; once a handle is deleted each look at
-- it is stale, and it is not created again; and no step of a collection lies in a stay
pub record KeepsTheLaws (es : History) : Type 0 where
  pub once : (h : Handle) (t u o p : ℕ) (before between rest : History)
      → ¬ (es ≡ before ++ by t (Create h o) ∷ between ++ by u (Create h p) ∷ rest)
  pub one : (g h : Handle) (before rest : History) → es ≡ before ++ rest → (state before).refs g ≢ Stale
      → (state before).refs h ≢ Stale → g.index ≡ h.index → g ≡ h
  pub stale : (h : Handle) (t u : ℕ) (r : Found) (before between rest : History)
      → es ≡ before ++ by t (Delete h) ∷ between ++ by u (Look h r) ∷ rest → r ≡ Stale
  pub not_again : (h : Handle) (t u o : ℕ) (before between rest : History)
      → ¬ (es ≡ before ++ by t (Delete h) ∷ between ++ by u (Create h o) ∷ rest)
  pub apart : (t : ℕ) (before inside rest : History) → IsStay t es before inside rest
      → AllByRecursion (λ e. is_collection_step e.act ≡ false) inside

-- no collection step lies in a stay
abbrev pub NoCollectionInside : Config → ℕ → Type 0
NoCollectionInside c last = (t : ℕ) (es before inside rest : History) → IsLegal c last es
    → IsStay t es before inside rest → AllByRecursion (λ e. is_collection_step e.act ≡ false) inside

-- in a collection of t each other thread only waits
abbrev pub OthersWait : Config → ℕ → Type 0
OthersWait c last = (t : ℕ) (es before inside rest : History) → IsLegal c last es
    → IsCollection t es before inside rest → AllByRecursion (λ e. (e.thread ≡ t) ⊎ (is_waiting e.act ≡ true)) inside

-- the object of each reference that is not cleared, and of each local, is present
abbrev pub NamedIsPresent : Config → ℕ → Type 0
NamedIsPresent c last = (es : History) → IsLegal c last es
    → ((h : Handle) (o : ℕ) → (state es).refs h ≡ Object o → IsPresent (state es) o)
    × ((t p o : ℕ) → (state es).locals t p ≡ Some o → IsPresent (state es) o)

-- outside collections each element of a present object array is 0 or present
abbrev pub ElementsArePresent : Config → ℕ → Type 0
ElementsArePresent c last = (es : History) → IsLegal c last es → NobodyCollects (state es) → IsClosed (state es)

-- each element of a present object is a word of its kind:
-- of an object array outside collections, of any other at each moment
abbrev pub ElementsAreWords : Config → ℕ → Type 0
ElementsAreWords c last = (es : History) (o : ℕ) (x : Contents) → IsLegal c last es → (state es).objects o ≡ Some x
    → (x.kind ≡ Objects → NobodyCollects (state es)) → AreWords (state es) x.kind x.words

-- a plain object has no elements
abbrev pub PlainHasNoElements : Config → ℕ → Type 0
PlainHasNoElements c last = (es : History) (o : ℕ) (x : Contents) → IsLegal c last es → (state es).objects o ≡ Some x
    → x.kind ≡ Plain → x.words ≡ []

-- the number of a present object lies in 1 to the room's number of objects
abbrev pub PresentIsInRoom : Config → ℕ → Type 0
PresentIsInRoom c last = (es : History) (o : ℕ) → IsLegal c last es → IsPresent (state es) o → (1 ≤ o) × (o ≤ c.objects)

-- the present objects fit in what is reserved, and that in the room
abbrev pub LengthsFit : Config → ℕ → Type 0
LengthsFit c last =
    (es : History) → IsLegal c last es → (present_words c (state es) ≤ (state es).used) × ((state es).used ≤ c.words)

-- a read finds what was last written
abbrev pub ReadsLastWord : Config → ℕ → Type 0
ReadsLastWord c last = (before rest : History) (t o i v : ℕ) → IsLegal c last (before ++ by t (Read o i v) ∷ rest)
    → IsLastWord o i v before

-- as what a reference that was created for an object may be found while it stands:
-- with the object, or, where it is weak, cleared
abbrev pub IsFoundAs : Handle → ℕ → Found → Type 0
IsFoundAs h o r = (r ≡ Object o) ⊎ ((h.kind ≡ Weak) × (r ≡ Cleared))

-- a reference that was created is found so until it is deleted:
-- a global one with its object, a weak one with it or cleared
abbrev pub CreatedIsFound : Config → ℕ → Type 0
CreatedIsFound c last = (h : Handle) (t u o : ℕ) (r : Found) (before between rest : History)
    → IsLegal c last (before ++ by t (Create h o) ∷ between ++ by u (Look h r) ∷ rest)
    → AllByRecursion (λ e. e.act ≢ Delete h) between → IsFoundAs h o r

-- no local handle is given twice
abbrev pub GivenOnce : ℕ → ℕ → Type 0
GivenOnce last thread = (f g old new : Frames) (r q : LocalRef)
    → IsAdded last thread f r g → LeadsTo last thread g old → IsAdded last thread old q new → q.handle ≢ r.handle

-- a local handle that stood and stands no more never stands again, whatever the thread does with its frames
abbrev pub GoneStaysGone : ℕ → ℕ → Type 0
GoneStaysGone last thread = (f g later : Frames) (h : Handle) → AreSound f → IsSome (object_of f h)
    → LeadsTo last thread f g → object_of g h ≡ None → LeadsTo last thread g later → object_of later h ≡ None

-- nor does one that stood, and at whose place nothing stood later, wherever the thread's frames came from
-- since: at each of the three moments a thread's frames agree with what happened
abbrev pub EmptiedStaysGone : Type 0
EmptiedStaysGone = (old mid new : PassView) (f g : Frames) (h : Handle) (first then_done : List Act)
    → AreSound f → Agree old.thread f old.seen → IsSome (object_of f h) → Did old mid first
    → (state mid.seen).locals mid.thread h.index ≡ None → Did mid new then_done → AreSound g
    → Agree new.thread g new.seen → object_of g h ≡ None

-- a handle stands no more once it is deleted, once the last
-- frame is popped where it stood there, and once all are freed
abbrev pub TakenIsGone : Type 0
TakenIsGone = (f : Frames) (h : Handle) → AreSound f
    → (object_of (without_local f h) h ≡ None)
    × (IsSome (object_where (λ r. same_handle r.handle h) (last_frame f.frames)) → object_of (popped f) h ≡ None)
    × (object_of (freed f) h ≡ None)

-- the frames with which a thread begins are sound
abbrev pub FreshAreSound : Type 0
FreshAreSound = (locals : ℕ) → AreSound (fresh_frames locals)

-- what a thread may do with its frames leaves them sound
abbrev pub FramesStaySound : ℕ → ℕ → Type 0
FramesStaySound last thread = (f g : Frames) (acts : List Act) → AreSound f → IsMove last thread f acts g → AreSound g

-- and they go on agreeing with what happened, whatever the other threads do in between
abbrev pub FramesStayAgreed : Type 0
FramesStayAgreed =
    (old new : PassView) (f g : Frames) (acts : List Act) → AreSound f → Agree old.thread f old.seen
    → IsMove old.last old.thread f acts g → Did old new acts → Agree new.thread g new.seen

-- in sound frames a handle that stands is the one at its place
abbrev pub HandleIsAtPlace : Type 0
HandleIsAtPlace = (f : Frames) (h : Handle) (o : ℕ) → AreSound f → object_of f h ≡ Some o → object_at f h.index ≡ Some o

-- a collection that leaves nothing out clears and drops exactly what
-- is to be, each once, and keeps what is reached and nothing else
abbrev pub CollectionIsExact : Config → ℕ → Type 0
CollectionIsExact c last = (t : ℕ) (before inside rest : History) (cleared : List Handle) (dropped : List ℕ) (used : ℕ)
    → IsLegal c last (before ++ by t (Gate Shut) ∷ inside ++ by t (Gate Reopen) ∷ rest)
    → mine inside t ≡ sweeping_acts cleared dropped used → IsWhole (state before) cleared dropped
    → IsExact (state before) cleared dropped
    × KeepsReached c (state before) (state (before ++ by t (Gate Shut) ∷ inside)) used

-- where nobody writes in between, the acts of a release leave the array that the mode says
abbrev pub ReleaseLeaves : Type 0
ReleaseLeaves = (s : State) (t o : ℕ) (x : Contents) (buffer : List ℕ) (mode : Mode) → s.objects o ≡ Some x
    → length buffer ≡ length x.words
    → (state_from s (map (by t) (release_acts mode o buffer))).objects o
    ≡ Some (record { kind = x.kind; words = (released mode x.words buffer).0 })
