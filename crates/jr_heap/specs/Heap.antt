-- What the calls of the heap do, for whatever was known.
use Rattle.std.specs.Prelude.{◌≡◌, ◌≢◌, ◌⊎◌, ◌==◌, ◌+◌, ◌-◌, ◌≤◌, ℕ, zero, suc, nat_lt, cond}
use Rattle.std.specs.Prelude.{Result, Ok, Err, IfOk, Some, None, List, [], length, replicate}
use Rattle.jr_word.specs.declared.fault.Fault.{Fault}
use Rattle.jr_word.specs.declared.fault.Fault.TheVariants.{SpaceFull, Raced}
use Rattle.jr_word.specs.declared.header.HeaderParts.{HeaderParts}
use Rattle.jr_word.specs.declared.kind.Kind.{Kind}
use Rattle.jr_word.specs.declared.kind.Kind.TheVariants.{Objects}
use Rattle.jr_model.specs.State.{Contents}
use Rattle.jr_model.specs.Frames.{Frames}
use Rattle.jr_model.specs.Calls.{Call, Ran, done}
use Rattle.jr_steps.specs.declared.known.Known.{Known}
use Rattle.jr_steps.specs.Holdings.{words_at, header_in, with_range, with_header}
use Rattle.jr_steps.specs.Knowing.{Facts, Leads, view, state_of, keeps, without_range_of}
use Rattle.jr_steps.specs.Knowing.{KnowsHeader, IsFilled, IsWordNow, ShowsObject, ShowsUsed, Takes}

module _ {S : Type 0} (facts : S → Facts) where
  -- A CALL WAS MADE in a stay, which leaves the hint as it was: for whatever was known and meets the
  -- condition, something is known from which the thread did what the call does, with this answer, and
  -- left the frames as they were; and it shows this. The call may name what was known and what is
  pub record Called {A : Type 0} (old new : S) (met : Known → Type 0) (call : Known → Known → Call A)
      (answer : Result A Fault) (shows : Known → Known → Type 0) : Type 0 where
    pub hint_is : (facts new).hint ≡ (facts old).hint
    pub ran : Leads facts old new met (λ k k'. (f : Frames) → Ran (view k) (view k') f f (call k k') answer) shows

-- what a call shows, and that it took so many steps
abbrev pub by_steps : ℕ → (Known → Known → Type 0) → Known → Known → Type 0
by_steps n shows j k = shows j k × Takes n j k

-- so many steps at the least, and so many at the most
pub record TakesBetween (least most : ℕ) (j k : Known) : Type 0 where
  pub count : ℕ
  pub low : least ≤ count
  pub high : count ≤ most
  pub takes : Takes count j k

-- what a call shows, and that it took so many steps at the least, and so many at the most
abbrev pub by_between : ℕ → ℕ → (Known → Known → Type 0) → Known → Known → Type 0
by_between least most shows j k = shows j k × TakesBetween least most j k

-- nothing that others could see
abbrev pub no_act : Call (Unit {0})
no_act = done tt

-- SPACE

-- the header of an object with the words of a range
abbrev pub header_of : Kind → ℕ → ℕ → HeaderParts
header_of kind place n = record { kind = kind; length = n; place = place }

-- the n words of the pass's own range at a place: none of an empty one
abbrev pub own_words : ℕ → ℕ → Known → List ℕ
own_words place n k = cond (n == 0) [] (words_at place k.holdings.ranges)

-- the n words at the place are the pass's own in this stay
abbrev pub IsOwn : ℕ → ℕ → Known → Type 0
IsOwn place n k = length (own_words place n k) ≡ n

-- they are, and each of them may be an element of the kind
abbrev pub IsReady : Kind → ℕ → ℕ → Known → Type 0
IsReady kind place n k = IsFilled (header_of kind place n) k

-- what a reservation of n words gives:
-- so many words of the pass's own at the place, where it had none, and just those below their end are used then
abbrev pub Gains : ℕ → ℕ → Known → Known → Type 0
Gains zero place j k = keeps j k
Gains (suc n) place j k = (ws : List ℕ) × (length ws ≡ suc n) × (k.holdings ≡ with_range j.holdings place ws)
    × (words_at place j.holdings.ranges ≡ []) × ShowsUsed (place + suc n) k

-- the refusal is none of a lost race
abbrev pub IsNotRaced : Fault → Type 0
IsNotRaced e = (looked found : ℕ) → e ≢ Raced looked found

-- a reservation of n words takes a look and an exchange, and none of no words
abbrev pub reserve_steps : ℕ → ℕ
reserve_steps zero = 0
reserve_steps (suc n) = 2

-- one that is refused takes the look, and the exchange where that was lost
abbrev pub refused_steps : Fault → ℕ
refused_steps (SpaceFull used) = 1
refused_steps _ = 2

-- what a filling changes: the words at the place are these then, and nothing else that the pass holds is other
pub record FillsWith (place : ℕ) (ws : List ℕ) (j k : Known) : Type 0 where
  pub words : own_words place (length ws) k ≡ ws
  pub headers : k.holdings.headers ≡ j.holdings.headers
  pub others : (p : ℕ) → (p ≢ place) ⊎ (length ws ≡ 0) → words_at p k.holdings.ranges ≡ words_at p j.holdings.ranges

-- the same with n words, each of which is v
abbrev pub Fills : ℕ → ℕ → ℕ → Known → Known → Type 0
Fills place n v = FillsWith place (replicate n v)

-- OBJECTS

-- the number of a turn of a look that begins behind `first` and goes round
abbrev pub number_at_turn : ℕ → ℕ → ℕ → ℕ
number_at_turn first turn objects = cond (nat_lt (first + turn) objects) (first + turn + 1) (first + turn - objects + 1)

-- what a publication shows: the object has the words of the range, which is the pass's own no more, and its header,
-- of an object of which the pass knew none, is known from now on; and a refused one takes nothing from the pass
abbrev pub Publishes : Kind → ℕ → ℕ → Result ℕ Fault → Known → Known → Type 0
Publishes kind place n (Ok o) j k =
    ((state_of k).objects o ≡ Some (record { kind = kind; words = own_words place n j }))
    × (k.holdings ≡ with_header (without_range_of (header_of kind place n) j.holdings) o (header_of kind place n))
    × (header_in o j.holdings.headers ≡ None)
Publishes kind place n (Err e) j k = keeps j k

-- a publication takes one exchange at the least, and one for each of n numbers where it is refused
abbrev pub publish_steps : ℕ → Result ℕ Fault → ℕ
publish_steps n (Ok o) = 1
publish_steps n (Err e) = n

-- the pass knows the header, and the present object has its kind and length
pub record HoldsHeader (o : ℕ) (h : HeaderParts) (k : Known) : Type 0 where
  pub known : KnowsHeader o h k
  pub shown : ShowsObject o h k

-- the object is present, and of the kind
abbrev pub HasKind : ℕ → Kind → Known → Type 0
HasKind o kind k = (x : Contents) × ((state_of k).objects o ≡ Some x) × (x.kind ≡ kind)

-- what a look at a header shows: the pass knows it from then on, and it is the one that it knew before, if any
abbrev pub Learns : ℕ → HeaderParts → Known → Known → Type 0
Learns o h j k = ShowsObject o h k × (k.holdings ≡ with_header j.holdings o h)
    × ((g : HeaderParts) → header_in o j.holdings.headers ≡ Some g → g ≡ h)

-- what a call at an element leaves: the object has this kind and length still, and the pass holds what it held
abbrev pub LeavesObject : ℕ → HeaderParts → Known → Known → Type 0
LeavesObject o h j k = ShowsObject o h k × keeps j k

-- the pass read the header of the object, beside what it holds
abbrev pub Relearns : ℕ → Known → Known → Type 0
Relearns o j k = (h : HeaderParts) × Learns o h j k

-- ELEMENTS

-- a call at an element whose header is known takes one operation, and none where it is refused
abbrev pub element_steps : {A : Type 0} → Result A Fault → ℕ
element_steps (Ok x) = 1
element_steps (Err e) = 0

-- a word of an object array is 0 or names a present object
abbrev pub MayBeNamed : Kind → ℕ → Known → Type 0
MayBeNamed kind v k = kind ≡ Objects → IsWordNow Objects v k

-- the same for the object's own kind
abbrev pub MayBeNamedIn : ℕ → ℕ → Known → Type 0
MayBeNamedIn o v k = (x : Contents) → (state_of k).objects o ≡ Some x → MayBeNamed x.kind v k

-- the element that was read is a word of the kind:
-- in an object array 0, or the number of an object that is present then
abbrev pub ReadsOfKind : Kind → Result ℕ Fault → Known → Type 0
ReadsOfKind kind answer k = IfOk answer (λ v. IsWordNow kind v k)

-- the same for the object's own kind
abbrev pub ShowsElementOf : ℕ → Result ℕ Fault → Known → Type 0
ShowsElementOf o answer k = (x : Contents) → (state_of k).objects o ≡ Some x → ReadsOfKind x.kind answer k
