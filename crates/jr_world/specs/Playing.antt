-- EACH CALL IS PLAYED by its program of steps, whatever other threads do between them.
use Rattle.std.specs.Prelude.{◌≡◌, ◌≢◌, ◌⊎◌, ◌+◌, ◌<◌, ◌≤◌, ℕ, suc, true, false, Option, Some, None}
use Rattle.std.specs.Prelude.{Result, Ok, Err, IfErr, List, map, length, slice_get, slice_index}
use Rattle.std.specs.List.{AllByRecursion}
use mathlib.Core.List.{IsPrefix}
use Rattle.jr_word.specs.declared.config.Config.{Config}
use Rattle.jr_word.specs.declared.fault.Fault.{Fault}
use Rattle.jr_word.specs.declared.fault.Fault.TheVariants.{Moved, Raced}
use Rattle.jr_word.specs.declared.handle.RefKind.TheVariants.{Local, Global, Weak}
use Rattle.jr_word.specs.declared.kind.Kind.{Kind}
use Rattle.jr_model.specs.declared.event.Act.{Act}
use Rattle.jr_model.specs.declared.event.Role.TheVariants.{Within}
use Rattle.jr_model.specs.State.{Contents}
use Rattle.jr_model.specs.Frames.{Frames, all_refs, is_held}
use Rattle.jr_model.specs.History.{History, IsLegal, PassView, mine, state}
use Rattle.jr_model.specs.Checks.{Word, Nothing, Parts, is_objects, is_of_kind}
use Rattle.jr_model.specs.Tests.{Tests, is_silent}
use Rattle.jr_model.specs.Calls.{Call, Ran, entered, opened}
use Rattle.jr_model.specs.Programs.{AnswerKind, AnswerOf, nothing, truth, number, object, object_kind, handle}
use Rattle.jr_model.specs.Programs.{perhaps, several, Which, none_known, call_of, work_of, Ending, Program, ends, names}
use Rattle.jr_model.specs.Programs.{names_both, wants, looks, tests, finds, refers, deletes, deletes_local, asks_room}
use Rattle.jr_model.specs.Programs.{pushes, pops_to}
use Rattle.jr_model.specs.Programs.{makes, fills, reads, reads_from, copies, writes, writes_to, writes_from}
use Rattle.jr_world.specs.World.{MeantOf, Ref, how_many, is_ref_of}
use Rattle.jr_world.specs.Births.{births}
use Rattle.jr_world.specs.Doing.{Doing, Noted, entered_in_steps, opened_in_steps, program_steps}
use Rattle.jr_world.specs.Plays.{Plays}
use Rattle.jr_world.specs.Fullness.{deletions}
use Rattle.one_order.specs.Orders.{Item}
use Rattle.one_order.specs.Orders.Item.{does as acting}

-- a reference that is handed in, and the number by which its name stands for it: 0 for NULL, and for a handle
-- one more than where it was born
abbrev pub WordIs : History → Word → ℕ → Type 0
WordIs h Nothing n = n ≡ 0
WordIs h (Parts g) (suc i) = (q : Option Ref) × (slice_get (births h).refs i ≡ Some (g, q))
WordIs h _ _ = ⊥

-- an object that stands, and where it was born
abbrev pub ObjectIs : History → ℕ → ℕ → Type 0
ObjectIs h o j = (x : Contents) × (slice_get (births h).objects j ≡ Some (o, Some x))

-- of both there is one, and they are so, or of both there is none
abbrev pub BothAre : {X Y : Type 0} → (X → Y → Type 0) → Option X → Option Y → Type 0
BothAre So None None = Unit {0}
BothAre So (Some x) (Some y) = So x y
BothAre So _ _ = ⊥

-- an answer, and what is meant by it
abbrev pub AnswerIs : History → (a : AnswerKind) → AnswerOf a → MeantOf a → Type 0
AnswerIs h nothing x y = Unit {0}
AnswerIs h truth x y = x ≡ y
AnswerIs h number x y = x ≡ y
AnswerIs h object x y = (x ≡ 0) ⊎ ObjectIs h x y
AnswerIs h object_kind x y = x ≡ y
AnswerIs h handle x y = WordIs h (Parts x) y.0
AnswerIs h (perhaps a) x y = BothAre (AnswerIs h a) x y
AnswerIs h (several number) x y = x ≡ y
AnswerIs h _ x y = ⊥

-- one refusal: of a reservation that was lost to another thread's, and of a gate at which others moved, the counts may
-- differ
abbrev pub SameFault : Fault → Fault → Type 0
SameFault (Raced looked found) (Raced noted now) = Unit {0}
SameFault (Moved looked found) (Moved noted now) = Unit {0}
SameFault e d = e ≡ d

abbrev pub AnsweredBy : (a : AnswerKind) → Result (AnswerOf a) Fault → History → Result (MeantOf a) Fault → Type 0
AnsweredBy a (Ok x) h (Ok y) = AnswerIs h a x y
AnsweredBy a (Err e) h (Err d) = SameFault e d
AnsweredBy a _ h _ = ⊥

-- WHAT IS ASKED OF A PROGRAM, so that the world tells what it does

-- places that are free have serials left, and all places have
abbrev pub FreeHaveSerials : ℕ → Frames → Type 0
FreeHaveSerials last f = (p : ℕ) → is_held (all_refs f) p ≡ false → slice_index f.given p ≤ last

abbrev pub AllHaveSerials : ℕ → Frames → Type 0
AllHaveSerials last f = (p : ℕ) → slice_index f.given p ≤ last

-- no test refused
abbrev pub HavePassed : Tests → Type 0
HavePassed ts = AllByRecursion (λ t. t.0 ≡ false) ts

module _ (last : ℕ) (f : Frames) (words : Which → Word) where
  -- of an ending at an object of this kind: a reference is deleted by the call of its kind, elements that name objects
  -- are neither read nor written as numbers, and where a place is asked for, serials are left
  abbrev pub EndsApt : Kind → {n : ℕ} {a : AnswerKind} → Ending n a → Type 0
  EndsApt kind (refers p) = FreeHaveSerials last f
  EndsApt kind (deletes k p) = (k ≢ Local) × (is_of_kind k (words p) ≡ true)
  EndsApt kind (deletes_local p) = is_of_kind Local (words p) ≡ true
  EndsApt kind (asks_room n) = FreeHaveSerials last f
  EndsApt kind (pushes n) = FreeHaveSerials last f
  EndsApt kind (pops_to p) = AllHaveSerials last f
  EndsApt kind (makes k ws) = FreeHaveSerials last f × (is_objects k ≡ false)
  EndsApt kind (fills k n None) = FreeHaveSerials last f
  EndsApt kind (fills k n (Some p)) = FreeHaveSerials last f × (is_objects k ≡ true)
  EndsApt kind (reads i) = is_objects kind ≡ false
  EndsApt kind (reads_from i n) = is_objects kind ≡ false
  EndsApt kind (copies n) = is_objects kind ≡ false
  EndsApt kind (writes i v) = is_objects kind ≡ false
  EndsApt kind (writes_to i p) = is_objects kind ≡ true
  EndsApt kind (writes_from i vs) = is_objects kind ≡ false
  EndsApt kind _ = Unit {0}

  -- of a program at such an object
  abbrev pub AptAt : Kind → {n : ℕ} {a : AnswerKind} → Program n a → Type 0
  AptAt kind (ends e) = EndsApt kind e
  AptAt kind (names p next) = AptAt kind next
  AptAt kind (names_both next) = AptAt kind next
  AptAt kind (wants p next) = (k : Kind) → AptAt k next
  AptAt kind (looks next) = (long : ℕ) → AptAt kind (next kind long)
  AptAt kind (tests ts silent next) = HavePassed ts → AptAt kind next
  AptAt kind (finds i next) = (is_objects kind ≡ true) × AptAt kind next

  -- of a whole program
  abbrev pub IsApt : {n : ℕ} {a : AnswerKind} → Program n a → Type 0
  IsApt p = (kind : Kind) → AptAt kind p

-- the moments of a call in a legal history of its room, which has more than enough serials
pub record LiesIn (c : Config) (last : ℕ) (whole : History) (old new : PassView) : Type 0 where
  pub room : new.config ≡ c
  pub serial : new.last ≡ last
  pub thread : new.thread ≡ old.thread
  pub small : old.thread < c.threads
  pub begins : IsPrefix new.seen whole
  pub legal : IsLegal c last whole
  pub serials : length (deletions whole) ≤ last

-- what a call notes at this moment
pub record IsNotedAt (moment : History) (noted : Noted) : Type 0 where
  pub stand : noted.standing ≡ how_many (is_ref_of Global) (map (λ e. e.1) (births moment).refs)
      + how_many (is_ref_of Weak) (map (λ e. e.1) (births moment).refs)
  pub made : noted.made ≡ length (births moment).refs
  pub used : noted.used ≡ (births moment).used

-- A MOMENT TO WHICH THE THREAD HAS COME with a pass: by then it has done what it did in all that the pass has seen.
-- There may be more events of others by then, or fewer
pub record HasComeTo (whole : History) (pass : PassView) (moment : History) : Type 0 where
  pub begins : IsPrefix moment whole
  pub own : mine moment pass.thread ≡ mine pass.seen pass.thread

-- a call that left the pass so has ended at this moment, to which its thread has come with it, and was answered so
abbrev pub EndsAnswered : History → PassView → (a : AnswerKind) → Result (AnswerOf a) Fault → History
    → Result (MeantOf a) Fault → Type 0
EndsAnswered whole new a answer later r = HasComeTo whole new later × AnsweredBy a answer later r

-- A CALL IS PLAYED whose work stands so to the gate, of the machine and by steps: from each moment to which its thread
-- has come before the call, to one to which it has come behind it
abbrev pub CallsPlay : ((A : Type 0) → Call A → Call A) → ((A : Type 0) → (Noted → Doing A) → Doing A) → Type 0
CallsPlay at_gate in_steps = (c : Config) (last : ℕ) (whole : History) (old new : PassView) (past : History)
    (f g : Frames) (n : ℕ) (a : AnswerKind) (p : Program n a) (words : Which → Word) (numbers : Which → ℕ)
    (answer : Result (AnswerOf a) Fault) (behind : List (Item Act)) → LiesIn c last whole old new
    → HasComeTo whole old past → ((w : Which) → WordIs past (words w) (numbers w)) → IsApt last f words p
    → (r : Ran old new f g (at_gate (AnswerOf a) (work_of c last old.thread (state new.seen) words p)) answer)
    → Plays c whole old.thread (EndsAnswered whole new a answer) g behind
    (in_steps (MeantOf a) (λ from. program_steps c from numbers p none_known 0)) past f (map acting r.acts)

-- A CALL WITH A STAY OF ITS OWN
abbrev pub EnteredPlays : Type 0
EnteredPlays = CallsPlay (λ A. entered) (λ A. entered_in_steps)

-- A CALL WITH A STAY THAT GOES ON where it isn't refused: the first level of a region
abbrev pub OpenedPlays : Type 0
OpenedPlays = CallsPlay (λ A. opened) (λ A. opened_in_steps)

-- A CALL IN A STAY THAT STANDS, as a further level of a region, or a program at an object of a level:
-- no refusal of it speaks of the room
abbrev pub StayedPlays : Type 0
StayedPlays = (c : Config) (last : ℕ) (whole : History) (old new : PassView) (past : History) (f g : Frames) (n : ℕ)
    (a : AnswerKind) (p : Program n a) (words : Which → Word) (numbers : Which → ℕ) (o j : ℕ) (from : Noted)
    (answer : Result (AnswerOf a) Fault) (behind : List (Item Act)) → LiesIn c last whole old new
    → HasComeTo whole old past → (state past).role old.thread ≡ Within → IsNotedAt past from
    → ((w : Which) → WordIs past (words w) (numbers w)) → IsApt last f words p → (o ≡ 0) ⊎ ObjectIs past o j
    → IfErr answer (λ e. is_silent e ≡ true)
    → (r : Ran old new f g (call_of c last old.thread (state new.seen) words p none_known o) answer)
    → Plays c whole old.thread (EndsAnswered whole new a answer) g behind
    (program_steps c from numbers p none_known j) past f (map acting r.acts)

-- the program is one that enters no gate: it asks for room for local references, or adds a frame
abbrev pub EntersNoGate : {n : ℕ} {a : AnswerKind} → Program n a → Type 0
EntersNoGate (ends (asks_room n)) = Unit {0}
EntersNoGate (ends (pushes n)) = Unit {0}
EntersNoGate _ = ⊥

-- A CALL OUTSIDE, which may be made at any moment
abbrev pub OutsidePlays : Type 0
OutsidePlays = (c : Config) (last : ℕ) (whole : History) (old new : PassView) (past : History) (f g : Frames) (n : ℕ)
    (a : AnswerKind) (p : Program n a) (words : Which → Word) (numbers : Which → ℕ) (from : Noted)
    (answer : Result (AnswerOf a) Fault) (behind : List (Item Act)) → LiesIn c last whole old new
    → HasComeTo whole old past → EntersNoGate p → IsApt last f words p
    → (r : Ran old new f g (work_of c last old.thread (state new.seen) words p) answer)
    → Plays c whole old.thread (EndsAnswered whole new a answer) g behind
    (program_steps c from numbers p none_known 0) past f (map acting r.acts)
