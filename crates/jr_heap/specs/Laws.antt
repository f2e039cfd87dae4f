-- What holds of objects through a stay.
use Rattle.std.specs.Prelude.{◌≡◌, ◌≢◌, ℕ, Bool, Option, Some, Result, List, [], ◌∷◌, slice_get}
use Rattle.std.specs.List.{AllByRecursion}
use Rattle.jr_word.specs.declared.fault.Fault.{Fault}
use Rattle.jr_word.specs.declared.header.HeaderParts.{HeaderParts}
use Rattle.jr_word.specs.declared.kind.Kind.{Kind}
use Rattle.jr_model.specs.declared.event.Role.TheVariants.{Within}
use Rattle.jr_model.specs.declared.event.Act.{Act}
use Rattle.jr_model.specs.declared.event.Act.TheVariants.{Gate, Read, Write}
use Rattle.jr_model.specs.declared.event.GateAct.TheVariants.{Leave}
use Rattle.jr_model.specs.State.{Contents, State}
use Rattle.jr_model.specs.History.{PassView, role_of, Did}
use Rattle.jr_model.specs.Refusals.{Sometime}
use Rattle.jr_steps.specs.declared.known.Known.{Known}
use Rattle.jr_steps.specs.Knowing.{view, keeps, KnowsHeader, ShowsHeader, ShowsPublished, ShowsRange, ShowsWord}
use Rattle.jr_heap.specs.Heap.{Gains, FillsWith, Publishes, HoldsHeader, Learns, Relearns, LeavesObject}

-- while the pass is within and does not leave, and goes on knowing the header,
-- the object has its kind and length, whatever else the pass did and holds
abbrev pub HeadersHold : Type 0
HeadersHold =
    (k k' : Known) (acts : List Act) (o : ℕ) (h : HeaderParts) → Did (view k) (view k') acts → role_of (view k) ≡ Within
    → AllByRecursion (λ a. a ≢ Gate Leave) acts → KnowsHeader o h k' → HoldsHeader o h k → HoldsHeader o h k'

-- the headers that were known are known still
abbrev pub GoesOnKnowing : Known → Known → Type 0
GoesOnKnowing j k = (o : ℕ) (h : HeaderParts) → KnowsHeader o h j → KnowsHeader o h k

-- A STEP OF A STAY but the leave lets each header be known that was known: what each of them shows is one of these
pub record StepsKeepHeaders : Type 0 where
  pub kept : (j k : Known) → keeps j k → GoesOnKnowing j k
  pub loaded : (j k : Known) (o : ℕ) (found : Option HeaderParts) → ShowsHeader o found j k → GoesOnKnowing j k
  pub published : (j k : Known) (o : ℕ) (h : HeaderParts) (new : Bool) → ShowsPublished o h new j k → GoesOnKnowing j k
  pub reserved : (j k : Known) (looked n : ℕ) (answer : Result (Unit {0}) ℕ) → ShowsRange looked n answer j k
      → GoesOnKnowing j k
  pub stored : (j k : Known) (place i v : ℕ) → ShowsWord place i v j k → GoesOnKnowing j k

-- so does each call of the heap
pub record CallsKeepHeaders : Type 0 where
  pub reserved : (j k : Known) (n place : ℕ) → Gains n place j k → GoesOnKnowing j k
  pub filled : (j k : Known) (place : ℕ) (ws : List ℕ) → FillsWith place ws j k → GoesOnKnowing j k
  pub published : (j k : Known) (kind : Kind) (place n : ℕ) (answer : Result ℕ Fault)
      → Publishes kind place n answer j k → GoesOnKnowing j k
  pub learned : (j k : Known) (o : ℕ) (h : HeaderParts) → Learns o h j k → GoesOnKnowing j k
  pub looked : (j k : Known) (o : ℕ) → Relearns o j k → GoesOnKnowing j k
  pub left : (j k : Known) (o : ℕ) (h : HeaderParts) → LeavesObject o h j k → GoesOnKnowing j k

-- the object's list has v at the index
abbrev pub HasElement : ℕ → ℕ → ℕ → State → Type 0
HasElement o i v s = (x : Contents) × (s.objects o ≡ Some x) × (slice_get x.words i ≡ Some v)

-- what a read gave was the element at a moment of the call
abbrev pub ReadsElement : Type 0
ReadsElement =
    (old new : PassView) (o i v : ℕ) → Did old new (Read o i v ∷ []) → Sometime (HasElement o i v) old.seen new.seen

-- what a write wrote was the element at a moment of the call
abbrev pub WritesElement : Type 0
WritesElement =
    (old new : PassView) (o i v : ℕ) → Did old new (Write o i v ∷ []) → Sometime (HasElement o i v) old.seen new.seen
