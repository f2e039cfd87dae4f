-- What a caller of the steps knows of them.
use Rattle.std.specs.Prelude.{◌≡◌, ◌≢◌, ◌⊎◌, ◌↔◌, ◌<◌, ◌+◌, ℕ, Bool, true, false, Result, Ok, Err, Option}
use Rattle.std.specs.Prelude.{Some, None, List, [], ◌∷◌, ◌++◌, ◌==◌, cond, map, length, slice_set}
use Rattle.std.specs.List.{AllByRecursion}
use Rattle.atomic_table.specs.Seated.{TableId}
use Rattle.jr_word.specs.declared.config.Config.{Config}
use Rattle.jr_word.specs.declared.gate.GateParts.{GateParts}
use Rattle.jr_word.specs.declared.gate.GateState.TheVariants.{Open}
use Rattle.jr_word.specs.declared.slot.SlotParts.{SlotParts}
use Rattle.jr_word.specs.declared.slot.SlotParts.TheVariants.{Free}
use Rattle.jr_model.specs.declared.event.Role.{Role}
use Rattle.jr_model.specs.declared.event.Role.TheVariants.{Within}
use Rattle.jr_model.specs.declared.event.Act.{Act}
use Rattle.jr_model.specs.declared.event.Act.TheVariants.{Gate, Look, LocalPut, LocalDrop, Read}
use Rattle.jr_model.specs.declared.event.GateAct.TheVariants.{Leave}
use Rattle.jr_model.specs.declared.event.Found.{Found}
use Rattle.jr_model.specs.State.{Handle, State, Contents, IsPresent, IsOccupied, IsClosed, IsWord, AreWords}
use Rattle.jr_model.specs.History.{History, by, state, IsLegal, mine, PassView, role_of, role_from}
use Rattle.jr_model.specs.Refusals.{Sometime}
use Rattle.jr_model.specs.Frames.{Frames, Agree, stored_at}
use Rattle.jr_steps.specs.declared.known.Known.{Known}
use Rattle.jr_word.specs.declared.header.HeaderParts.{HeaderParts}
use Rattle.jr_word.specs.declared.kind.Kind.{Kind}
use Rattle.jr_steps.specs.declared.known.Holdings.{Holdings}
use Rattle.jr_steps.specs.Holdings.{empty, words_at, header_in, with_range, with_header}
use Rattle.jr_steps.specs.Says.{SaysOfGate, SaysOfSlot, SaysOfHeader}

-- the room (none over plain words), the thread, its role, and whether the pass is fresh
pub record Standing : Type 0 where
  pub room : Option TableId
  pub config : Config
  pub last : ℕ
  pub thread : ℕ
  pub role : Role
  pub fresh : Bool

-- WHAT A PASS IS, what may be known of it, and where its next search for a free slot begins
pub record Facts : Type 1 where
  pub stands : Standing
  pub knows : Known → Type 0
  pub hint : ℕ

-- a pass that was not spent is fresh until its first store to a local word
abbrev pub fresh_after : Bool → Act → Bool
fresh_after f (LocalPut p o) = false
fresh_after f (LocalDrop p) = false
fresh_after f _ = f

abbrev pub fresh_from : Bool → List Act → Bool
fresh_from f [] = f
fresh_from f (a ∷ acts) = fresh_from (fresh_after f a) acts

-- what the model calls a pass
abbrev pub view : Known → PassView
view k = record { config = k.config; last = k.last; thread = k.thread; seen = k.seen }

-- the state after all that was seen
abbrev pub state_of : Known → State
state_of k = state k.seen

-- the standing after acts
abbrev pub standing_after : Standing → List Act → Standing
standing_after s acts = record {
  room = s.room;
  config = s.config;
  last = s.last;
  thread = s.thread;
  role = role_from s.role acts;
  fresh = fresh_from s.fresh acts;
}

-- the thread never stored a local reference
abbrev pub HasStoredNone : Known → Type 0
HasStoredNone k = (p : ℕ) → stored_at p (mine k.seen k.thread) ≡ 0

-- what is known is of this room and thread, its history is legal, and in it a fresh pass has stored no local reference
pub record IsOf (s : Standing) (k : Known) : Type 0 where
  pub config : k.config ≡ s.config
  pub last : k.last ≡ s.last
  pub thread : k.thread ≡ s.thread
  pub role : role_of (view k) ≡ s.role
  pub legal : IsLegal k.config k.last k.seen
  pub unused : s.fresh ≡ true → HasStoredNone k

-- WHAT A STEP makes of what was known: what others did in between, and then the acts of the step, one or none;
-- and it is one step more
pub record Goes (k : Known) (acts : List Act) (k' : Known) : Type 0 where
  pub config : k'.config ≡ k.config
  pub last : k'.last ≡ k.last
  pub thread : k'.thread ≡ k.thread
  pub between : History
  pub seen : k'.seen ≡ (k.seen ++ between) ++ map (by k.thread) acts
  pub others : mine between k.thread ≡ []
  pub legal : IsLegal k.config k.last k'.seen
  pub taken : k'.taken ≡ k.taken + 1

-- WHAT SEVERAL STEPS WITHOUT AN ACT make of what was known: what others did in between
pub record Sees (k k' : Known) : Type 0 where
  pub config : k'.config ≡ k.config
  pub last : k'.last ≡ k.last
  pub thread : k'.thread ≡ k.thread
  pub between : History
  pub seen : k'.seen ≡ k.seen ++ between
  pub others : mine between k.thread ≡ []
  pub legal : IsLegal k.config k.last k'.seen

-- so many steps were taken, each one operation on one word
abbrev pub Takes : ℕ → Known → Known → Type 0
Takes n k k' = k'.taken ≡ k.taken + n

-- no condition
abbrev pub anything : Known → Type 0
anything k = Unit {0}

-- the pass holds what it held
abbrev pub keeps : Known → Known → Type 0
keeps k k' = k'.holdings ≡ k.holdings

-- the pass holds nothing any more
abbrev pub lets_go : Known → Known → Type 0
lets_go k k' = k'.holdings ≡ empty

-- the object is present
abbrev pub HasObject : ℕ → Known → Type 0
HasObject o k = IsPresent (state_of k) o

-- the object, if one is given
abbrev pub HasOptional : Option ℕ → Known → Type 0
HasOptional None k = Unit {0}
HasOptional (Some o) k = HasObject o k

-- something that may be known meets the condition
abbrev pub MayKnow : {S : Type 0} → (S → Facts) → S → (Known → Type 0) → Type 0
MayKnow facts s met = ∥ ((k : Known) × (facts s).knows k × met k) ∥₁

-- the thread looked at the handle in this stay, and found r
pub record HasLooked (h : Handle) (r : Found) (k : Known) : Type 0 where
  pub before : History
  pub since : History
  pub is : k.seen ≡ before ++ by k.thread (Look h r) ∷ since
  pub stays : AllByRecursion (λ a. a ≢ Gate Leave) (mine since k.thread)

-- at a moment of this stay so many words were used
pub record WasUsed (u : ℕ) (k : Known) : Type 0 where
  pub before : History
  pub since : History
  pub is : k.seen ≡ before ++ since
  pub used : (state before).used ≡ u
  pub within : (state before).role k.thread ≡ Within
  pub stays : AllByRecursion (λ a. a ≢ Gate Leave) (mine since k.thread)

-- A LOAD OF A SLOT shows what its parts say of the state then
abbrev pub ShowsSlot : ℕ → SlotParts → Known → Type 0
ShowsSlot i parts k = SaysOfSlot k.last (state_of k).refs (state_of k).given i parts

-- the slot is free, and this serial is its next
abbrev pub IsFreeSlot : ℕ → ℕ → Known → Type 0
IsFreeSlot i serial k = ShowsSlot i (Free serial) k

-- A LOAD OF THE GATE shows what its parts say of the state then
abbrev pub ShowsGate : GateParts → Known → Type 0
ShowsGate parts k = SaysOfGate k.config (state_of k).role parts

-- the pass knows the header of the object
abbrev pub KnowsHeader : ℕ → HeaderParts → Known → Type 0
KnowsHeader o h k = header_in o k.holdings.headers ≡ Some h

-- the pass has a range of its own at the place, with a word of this index
abbrev pub HasWord : ℕ → ℕ → Known → Type 0
HasWord place i k = i < length (words_at place k.holdings.ranges)

-- the word may be an element of an object of the kind
abbrev pub IsWordNow : Kind → ℕ → Known → Type 0
IsWordNow kind v k = IsWord (state_of k) kind v

-- the words that an object with this header would have: none, or those of the pass's own range at its place
abbrev pub words_for : HeaderParts → Known → List ℕ
words_for h k = cond (h.length == 0) [] (words_at h.place k.holdings.ranges)

-- they are so many as the header says, and words of its kind
pub record IsFilled (h : HeaderParts) (k : Known) : Type 0 where
  pub long : length (words_for h k) ≡ h.length
  pub words : AreWords (state_of k) h.kind (words_for h k)

-- what the pass holds once the object is published: its range no more
abbrev pub without_range_of : HeaderParts → Holdings → Holdings
without_range_of h g = cond (h.length == 0) g (with_range g h.place [])

-- WHAT A LOAD OF A HEADER SHOWS: the object that is present then, and its header
-- is known from now on, the one that was known before if any was; or that none is
pub record ShowsObject (o : ℕ) (h : HeaderParts) (k : Known) : Type 0 where
  pub contents : Contents
  pub is : (state_of k).objects o ≡ Some contents
  pub says : SaysOfHeader contents h

abbrev pub ShowsHeader : ℕ → Option HeaderParts → Known → Known → Type 0
ShowsHeader o None k k' = ((state_of k').objects o ≡ None) × keeps k k'
ShowsHeader o (Some h) k k' = ShowsObject o h k' × (k'.holdings ≡ with_header k.holdings o h)
    × ((g : HeaderParts) → header_in o k.holdings.headers ≡ Some g → g ≡ h)

-- what a load of the top shows: how many words are used then
abbrev pub ShowsUsed : ℕ → Known → Type 0
ShowsUsed u k = (state_of k).used ≡ u

-- what a reservation shows: a range of the pass's own, of so many words, where it had none before; and right behind
-- it that many more words are used than the number that the caller named, so that just before it that number was
abbrev pub ShowsRange : ℕ → ℕ → Result (Unit {0}) ℕ → Known → Known → Type 0
ShowsRange looked n (Ok _) k k' = (ws : List ℕ) × (length ws ≡ n) × (k'.holdings ≡ with_range k.holdings looked ws)
    × (words_at looked k.holdings.ranges ≡ []) × ShowsUsed (looked + n) k'
ShowsRange looked n (Err found) k k' = keeps k k'

-- what a store in a range of the pass's own shows
abbrev pub ShowsWord : ℕ → ℕ → ℕ → Known → Known → Type 0
ShowsWord place i v k k' = k'.holdings ≡ with_range k.holdings place (slice_set (words_at place k.holdings.ranges) i v)

-- WHAT AN EXCHANGE OF A HEADER SHOWS: the object is present; and where it is new, the range is no
-- more the pass's own, and the header, of an object of which the pass knew none, is known from now on
abbrev pub ShowsPublished : ℕ → HeaderParts → Bool → Known → Known → Type 0
ShowsPublished o h true k k' = HasObject o k' × (k'.holdings ≡ with_header (without_range_of h k.holdings) o h)
    × (header_in o k.holdings.headers ≡ None)
ShowsPublished o h false k k' = HasObject o k' × keeps k k'

-- no present object array names an absent object
abbrev pub IsClosedNow : Known → Type 0
IsClosedNow k = IsClosed (state_of k)

-- no move is unfinished
abbrev pub IsSettled : Known → Type 0
IsSettled k = k.holdings.moving ≡ None

-- the gate may be opened after a collection
abbrev pub CanReopen : Known → Type 0
CanReopen k = IsClosedNow k × IsSettled k

-- what an exchange of the gate shows: a collection begins with nothing held
abbrev pub ShowsBarred : Result (Unit {0}) ℕ → Known → Known → Type 0
ShowsBarred (Ok _) k k' = lets_go k k'
ShowsBarred (Err n) k k' = keeps k k'

-- what an exchange shows that announces a shut where the gate was open with this count:
-- where it is lost, the gate has other parts
abbrev pub ShowsAnnounced : ℕ → Result (Unit {0}) GateParts → Known → Known → Type 0
ShowsAnnounced looked (Ok _) k k' = lets_go k k'
ShowsAnnounced looked (Err found) k k' =
    (found ≢ record { count = looked; state = Open }) × ShowsGate found k' × keeps k k'

-- a lost claim: the index was occupied in between, and the word that was found stands there
abbrev pub LostClaim : ℕ → Result (Unit {0}) SlotParts → Known → Known → Type 0
LostClaim i (Ok _) k k' = Unit {0}
LostClaim i (Err found) k k' = Sometime (λ s. IsOccupied k.last s i) k.seen k'.seen × ShowsSlot i found k'

-- the frames agree with what was seen
abbrev pub Holds : Frames → Known → Type 0
Holds f k = Agree k.thread f k.seen

-- the thread itself did all that was seen
abbrev pub DidAll : Known → Type 0
DidAll k = AllByRecursion (λ e. e.thread ≡ k.thread) k.seen

-- no other thread ever steps: there is no room, or it has one thread
abbrev pub IsLone : Standing → Type 0
IsLone s = (s.room ≡ None) ⊎ (s.config.threads ≡ 1)

-- whatever may be known where there is no room, the thread itself did all of it: a law of the steps
abbrev pub AreLone : {S : Type 0} → (S → Facts) → Type 0
AreLone {S = S} facts = (s : S) (k : Known) → (facts s).stands.room ≡ None → (facts s).knows k → DidAll k

-- whatever may be known is of its pass: a law of the steps
abbrev pub AreOf : {S : Type 0} → (S → Facts) → Type 0
AreOf {S = S} facts = (s : S) (k : Known) → (facts s).knows k → IsOf (facts s).stands k

-- FOR WHATEVER WAS KNOWN of the old and meets the condition, something
-- is known of the new that was made of it so, and that shows this
abbrev pub Leads : {S : Type 0} → (S → Facts) → S → S → (Known → Type 0) → (Known → Known → Type 0)
    → (Known → Known → Type 0) → Type 0
Leads facts old new met made shows =
    (k : Known) → (facts old).knows k → met k → (k' : Known) × (facts new).knows k' × made k k' × shows k k'

-- THESE WORDS WERE READ IN TURN at elements of the object from an
-- index on, each by one step more, and the pass holds what it held
abbrev pub ReadsInTurn : ℕ → ℕ → List ℕ → Known → Known → Type 0
ReadsInTurn o i [] k k' = k' ≡ k
ReadsInTurn o i (v ∷ vs) k k' =
    (next : Known) × Goes k (Read o i v ∷ []) next × keeps k next × ReadsInTurn o (i + 1) vs next k'

module _ {S : Type 0} (facts : S → Facts) where
  -- ONE STEP WAS TAKEN, with acts that may depend on what was known:
  -- it leaves the pass standing so, leaves the hint as it was, and shows this
  pub record TookWith (old new : S) (acts : Known → List Act) (stood : Standing) (met : Known → Type 0)
      (shows : Known → Known → Type 0) : Type 0 where
    pub stands_is : (facts new).stands ≡ stood
    pub hint_is : (facts new).hint ≡ (facts old).hint
    pub goes : Leads facts old new met (λ k k'. Goes k (acts k) k') shows

  -- the same, with these acts whatever was known
  abbrev pub Took : S → S → List Act → (Known → Type 0) → (Known → Known → Type 0) → Type 0
  Took old new acts met shows = TookWith old new (λ k. acts) (standing_after (facts old).stands acts) met shows

  -- SEVERAL STEPS WERE TAKEN:
  -- they leave the pass standing so, leave the hint as it was, made this of what was known, and show this
  pub record Went (old new : S) (stood : Standing) (met : Known → Type 0)
      (made shows : Known → Known → Type 0) : Type 0 where
    pub stands_is : (facts new).stands ≡ stood
    pub hint_is : (facts new).hint ≡ (facts old).hint
    pub leads : Leads facts old new met made shows

  -- the pass is not fresh any more, and nothing else changed: what was known is that of
  -- what is known in which the thread has stored no local reference, if the pass was fresh
  pub record Spent (old new : S) : Type 0 where
    pub stands_is : (facts new).stands ≡ record ((facts old).stands) { fresh = false }
    pub hint_is : (facts new).hint ≡ (facts old).hint
    pub same : (k : Known)
        → (facts old).knows k ↔ (facts new).knows k × ((facts old).stands.fresh ≡ true → HasStoredNone k)

  -- the next search for a free slot begins at this index, and nothing else changed
  pub record Hinted (old new : S) (index : ℕ) : Type 0 where
    pub hint_is : (facts new).hint ≡ index
    pub stands_is : (facts new).stands ≡ (facts old).stands
    pub same : (k : Known) → (facts old).knows k ↔ (facts new).knows k

  -- A PART OF AN OBJECT WAS READ: words of its elements from an index on, a step for each,
  -- which leave the pass standing so; and these values are what the words are taken for
  pub record SawPart {V : Type 0} (old new : S) (o : ℕ) (h : HeaderParts) (start : ℕ) (taken : ℕ → V)
      (values : List V) : Type 0 where
    pub words : List ℕ
    pub are : values ≡ map taken words
    pub stands_is : (facts new).stands ≡ (facts old).stands
    pub hint_is : (facts new).hint ≡ (facts old).hint
    pub leads : Leads facts old new (KnowsHeader o h) (ReadsInTurn o start words) keeps
