-- Which acts of an answered call make an array of ints, or write an element.
use Rattle.std.proofs.Common.{◌≡◌, inl, inr, ◌∙◌, ◌++◌, ◌+◌, ◌<◌, ◌||◌, ◌==◌, ℕ, zero, suc, nat_le, nat_lt}
use Rattle.std.proofs.Common.{Bool, true, false, not, cond, Err}
use Rattle.std.proofs.Common.{Option, Some, None, List, [], ◌∷◌, length, replicate, Ok, ap, refl, subst, sym}
use Rattle.std.proofs.lemmas.List.{append-nil}
use Rattle.std.specs.List.{AllByRecursion}
use Rattle.jr_word.specs.declared.config.Config.{Config}
use Rattle.jr_word.specs.declared.fault.Fault.{Fault}
use Rattle.jr_word.specs.declared.fault.Fault.TheVariants.{ObjectsFull}
use Rattle.jr_word.specs.declared.fault.Fault.TheVariants as fault
use Rattle.jr_word.specs.declared.handle.RefKind.{RefKind}
use Rattle.jr_word.specs.declared.kind.Kind.{Kind}
use Rattle.jr_word.specs.declared.kind.Kind.TheVariants.{Int}
use Rattle.jr_model.specs.declared.event.Act.{Act}
use Rattle.jr_model.specs.declared.event.Act.TheVariants.{Delete, DeleteStale, Gate, New, Read, Reserve, ReserveFull}
use Rattle.jr_model.specs.declared.event.Act.TheVariants.{ReserveLost, ShutBusy, Write}
use Rattle.jr_model.specs.declared.event.GateAct.TheVariants.{Cancel, Leave}
use Rattle.jr_model.specs.declared.event.Found.{Found}
use Rattle.jr_model.specs.declared.event.Found.TheVariants.{Stale}
use Rattle.jr_model.specs.declared.frames.LocalRef.{LocalRef}
use Rattle.jr_model.specs.declared.frames.TheConstants.{FRAMES}
use Rattle.jr_model.specs.State.{Contents, Handle, State}
use Rattle.jr_model.specs.Frames.{Frames, drop_all, free_places, last_frame, popped}
use Rattle.jr_model.specs.Calls.{Call, entered, opened, refuse_if, some_act, ◌>>=◌, ◌>>◌}
use Rattle.jr_model.specs.Checks.{Word, Parts, is_foreign, is_malformed, is_out_of_bounds}
use Rattle.jr_model.specs.Checks.{same_element}
use Rattle.jr_model.specs.Parts.{collect_announced, create, created, delete_at, delete_found, frame_left}
use Rattle.jr_model.specs.Parts.{frame_to_pop, new_frame, publish}
use Rattle.jr_model.specs.Parts.{reserve, take_frame, write}
use Rattle.jr_model.specs.References.{added, made, new_local, popping, removal, resolved, room_after, room_for, typing}
use Rattle.jr_model.specs.CollectionCalls.{collection_acts}
use Rattle.jr_model.specs.RefusedCalls.{ChangesNothing, is_harmless, may_precede}
use Rattle.jr_model.specs.Programs.{AnswerKind, Ending, Program, Which, at_both, call_of, compares, creates}
use Rattle.jr_model.specs.Programs.{deletes, ended}
use Rattle.jr_model.specs.Programs.{ends, fills, finds, gives_object, looks, makes, names, names_both, one, other}
use Rattle.jr_model.specs.Programs.{pops_to}
use Rattle.jr_model.specs.Programs.{pushes, set_known, tests, types, wants}
use Rattle.jr_model.specs.Programs.{at_object, handed_one, work_of}
use Rattle.jr_model.specs.CallPrograms.{get_tests, part_tests, region_get, set_array_region}
use Rattle.jr_model.specs.Tests.{Tests, tested}
use Rattle.jr_model.proofs.Composed.{Gives, Refusing, act_gives, at_most_gives, bind_gives, cond_gives, done_gives}
use Rattle.jr_model.proofs.Composed.{either_gives, entered_gives, framed_gives, object_gives, object_so, opened_gives}
use Rattle.jr_model.proofs.Composed.{refuse_gives, refuse_if_gives, some_act_gives, weaker_gives}
use Rattle.jr_model.proofs.Lawful.{AreHarmless, IsPrelude}
use Rattle.jr_model.proofs.Preludes.{announce_prelude, both_prelude, look_prelude, not_null_prelude}
use Rattle.jr_model.proofs.Preludes.{probes_prelude, resolved_prelude}
use Rattle.jr_model.proofs.Preludes.{room_prelude, shuts_prelude, type_prelude}
use Rattle.jr_model.proofs.ShownRefusals.{Purpose}

-- the act makes an array of ints, or writes an element
abbrev pub touches : Act → Bool
touches (New o k ws) = same_element Int k
touches (Write o i v) = true
touches _ = false

-- those acts of a list that do
abbrev pub touching : List Act → List Act
touching [] = []
touching (a ∷ acts) = cond (touches a) (a ∷ touching acts) (touching acts)

pub touching_append : (xs ys : List Act) → touching (xs ++ ys) ≡ touching xs ++ touching ys
touching_append [] ys = refl
touching_append (x ∷ xs) ys = go (touches x) (touching_append xs ys)
  where
    go : (b : Bool) → touching (xs ++ ys) ≡ touching xs ++ touching ys
        → cond b (x ∷ touching (xs ++ ys)) (touching (xs ++ ys)) ≡ cond b (x ∷ touching xs) (touching xs) ++ touching ys
    go true e = ap (λ l. x ∷ l) e
    go false e = e

untouched : (a : Act) → is_harmless a ≡ true → touches a ≡ false
untouched (New o k ws) h = absurd cc
untouched (Write o i v) h = absurd cc
untouched _ h = refl

-- one act less, which doesn't
pub none_first : (a : Act) (acts : List Act) → touches a ≡ false → touching acts ≡ [] → touching (a ∷ acts) ≡ []
none_first a acts is none = subst (λ b. cond b (a ∷ touching acts) (touching acts) ≡ []) (sym is) none

none_harmless : (acts : List Act) → AreHarmless acts → touching acts ≡ []
none_harmless [] h = refl
none_harmless (a ∷ acts) h = none_first a acts (untouched a h.0) (none_harmless acts h.1)

-- OF AN ANSWERED CALL these acts are so

abbrev Any : Refusing
Any old acts e new = Unit {0}

pub record Have (P : List Act → Type 0) (old : Frames) (acts : List Act) (new : Frames) : Type 0 where
  pub so : P (touching acts)

abbrev pub Touches : {A : Type 0} → (List Act → Type 0) → Call A → Type 0
Touches P call = Gives (Have P) Any call

-- none
abbrev pub HasNone : List Act → Type 0
HasNone l = l ≡ []

-- the making of one object, where that is an array of ints
abbrev pub MakesOne : Kind → List ℕ → List Act → Type 0
MakesOne k ws l = (o : ℕ) × (l ≡ touching (New o k ws ∷ []))

-- to announce is asked for too
abbrev asked : Purpose
asked = record { words = 0; announces = true }

prelude_none : {A : Type 0} {call : Call A} → IsPrelude asked call → Touches HasNone call
prelude_none = weaker_gives (λ f g xs q. record { so = none_harmless xs q.harmless }) (λ f g xs e q. tt)

module _ {P : List Act → Type 0} where
  -- behind a call of which none does
  behind : {A B : Type 0} {first : Call A} {next : A → Call B} → Touches HasNone first → ((x : A) → Touches P (next x))
      → Touches P (first >>= next)
  behind = bind_gives (record {
    joins = λ f g h xs ys p q.
        record { so = subst P (sym (touching_append xs ys ∙ ap (λ l. l ++ touching ys) p.so)) q.so };
    behind = λ f g h xs ys e p q. tt;
  })

  -- and before one
  before : {A B : Type 0} {first : Call A} {next : A → Call B} → Touches P first → ((x : A) → Touches HasNone (next x))
      → Touches P (first >>= next)
  before = bind_gives (record {
    joins = λ f g h xs ys p q. record {
      so = subst P
          (sym (touching_append xs ys ∙ (ap (λ l. touching xs ++ l) q.so ∙ append-nil (touching xs)))) p.so;
    };
    behind = λ f g h xs ys e p q. tt;
  })

  pub in_stay : {A : Type 0} {work : Call A} → Touches P work → Touches P (entered work)
  in_stay = entered_gives
      (λ f g xs q.
      record { so = subst P (sym (touching_append xs (Gate Leave ∷ []) ∙ append-nil (touching xs))) q.so })
      (λ f g xs e q. tt) (λ f. tt)

  pub in_region : {A : Type 0} {work : Call A} → Touches P work → Touches P (opened work)
  in_region = opened_gives (λ f g xs q. record { so = q.so }) (λ f g xs e q. tt) (λ f. tt)

  tested_so : {A : Type 0} (ts : Tests) {next : Call A} → Touches P next → Touches P (tested ts next)
  tested_so [] p = p
  tested_so ((b, e) ∷ ts) p =
      behind (refuse_if_gives b e (λ f. record { so = refl }) (λ is f. tt)) (λ x. tested_so ts p)

check : (b : Bool) (e : Fault) → Touches HasNone (refuse_if b e)
check b e = refuse_if_gives b e (λ f. record { so = refl }) (λ is f. tt)

-- a part that has just these acts
just : {A : Type 0} {call : Call A}
    → ((f g : Frames) (acts : List Act) (x : A) → call f acts (Ok x) g → touching acts ≡ []) → Touches HasNone call
just is = record { goes = λ f g acts x r. record { so = is f g acts x r }; fails = λ f g acts e r. tt }

reserve_none : (n : ℕ) → Touches HasNone (reserve n)
reserve_none zero = done_gives tt (λ f. record { so = refl })
reserve_none (suc n) = either_gives (act_gives (Reserve (suc n)) (λ f. record { so = refl })) (either_gives
    (behind (some_act_gives (ReserveFull (suc n)) (λ u f. record { so = refl })) (λ u.
    refuse_gives (fault.SpaceFull u) (λ f. tt)))
    (behind (some_act_gives {X = ℕ × ℕ} (λ l. ReserveLost (suc n) l.0 l.1) (λ l f. record { so = refl })) (λ l.
    refuse_gives (fault.Raced l.0 l.1) (λ f. tt))))

publish_one : (k : Kind) (ws : List ℕ) → Touches (MakesOne k ws) (publish k ws)
publish_one k ws =
    either_gives (some_act_gives (λ o. New o k ws) (λ o f. record { so = (o, refl) }))
    (refuse_gives fault.ObjectsFull (λ f. tt))

create_none : (slots : ℕ) (k : RefKind) (o : ℕ) → Touches HasNone (create slots k o)
create_none slots k o = at_most_gives (slots + slots) (behind (prelude_none probes_prelude) (λ x. either_gives
    (just (λ f g acts h r. subst (λ l. touching l ≡ []) (sym r.2) refl)) (refuse_gives fault.RowFull (λ f. tt))))

created_none : (slots : ℕ) (k : RefKind) (o : Option ℕ) → Touches HasNone (created slots k o)
created_none slots k None = done_gives None (λ f. record { so = refl })
created_none slots k (Some o) = behind (create_none slots k o) (λ h. done_gives (Some h) (λ f. record { so = refl }))

delete_found_none : (h : Handle) (r : Found) → Touches HasNone (delete_found h r)
delete_found_none h Stale = refuse_gives fault.Stale (λ f. tt)
delete_found_none h _ = either_gives (act_gives (Delete h) (λ f. record { so = refl }))
    (behind (act_gives (DeleteStale h) (λ f. record { so = refl })) (λ x. refuse_gives fault.Stale (λ f. tt)))

delete_none : (a : Word) → Touches HasNone (delete_at a)
delete_none (Parts h) = behind (prelude_none (look_prelude h)) (delete_found_none h)
delete_none _ = done_gives tt (λ f. record { so = refl })

drops_none : (refs : List LocalRef) → touching (drop_all refs) ≡ []
drops_none [] = refl
drops_none (r ∷ refs) = drops_none refs

take_none : Touches HasNone take_frame
take_none = just (λ f g acts x r. subst (λ l. touching l ≡ []) (sym r.0) (drops_none (last_frame f.frames)))

pub sweeps_none : (cleared : List Handle) (dropped : List ℕ) (used : ℕ)
    → touching (collection_acts cleared dropped used) ≡ []
sweeps_none (h ∷ cleared) dropped used = sweeps_none cleared dropped used
sweeps_none [] (o ∷ dropped) used = sweeps_none [] dropped used
sweeps_none [] [] used = refl

pub collected_none : (tries : ℕ) → Touches HasNone (collect_announced tries)
collected_none tries = behind (prelude_none (announce_prelude refl)) (λ x. either_gives
    (behind (prelude_none (shuts_prelude (λ n. n < tries))) (λ y.
    just (λ f g acts z r. subst (λ l. touching l ≡ []) (sym r.3) (sweeps_none r.0 r.1 r.2))))
    (behind (prelude_none (shuts_prelude (λ n. n + 1 ≡ tries))) (λ y.
    behind (some_act_gives ShutBusy (λ n f. record { so = refl })) (λ n.
    behind (act_gives (Gate Cancel) (λ f. record { so = refl })) (λ z. refuse_gives (fault.Busy n) (λ f. tt))))))

-- OF A REFUSED CALL none is, since it changed nothing
pub refused_none : {A : Type 0} {call : Call A} {old new : Frames} {acts : List Act} (e : Fault) → ChangesNothing call
    → call old acts (Err e) new → touching acts ≡ []
refused_none {old = old} {new = new} {acts = acts} e safe was = none acts (safe.acts old new acts e was)
  where
    one : (e : Fault) (a : Act) → may_precede e a ≡ true → touches a ≡ false
    one ObjectsFull (Reserve n) h = refl
    one ObjectsFull a h = untouched a h
    one e a h = untouched a h

    none : (acts : List Act) → AllByRecursion (λ a. may_precede e a ≡ true) acts → touching acts ≡ []
    none [] h = refl
    none (a ∷ acts) h = none_first a acts (one e a h.0) (none acts h.1)

module _ (c : Config) (last thread : ℕ) where
  room_none : (n : ℕ) → Touches HasNone (room_for c last thread n)
  room_none n = prelude_none (room_prelude c last thread n)

  resolved_none : (a : Word) → Touches HasNone (resolved c last thread a)
  resolved_none a = prelude_none (resolved_prelude c last thread a)

  added_none : (o : ℕ) → Touches HasNone (added c last thread o)
  added_none o = just (λ f g acts h r. subst (λ l. touching l ≡ []) (sym r.1) refl)

  made_one : (k : Kind) (ws : List ℕ) → Touches (MakesOne k ws) (made c last thread k ws)
  made_one k ws = behind (room_none 1) (λ x. behind (reserve_none (length ws)) (λ y.
      before (publish_one k ws) added_none))

  local_none : (o : Option ℕ) → Touches HasNone (new_local c last thread o)
  local_none None = done_gives None (λ f. record { so = refl })
  local_none (Some o) =
      behind (room_none 1) (λ x. behind (added_none o) (λ h. done_gives (Some h) (λ f. record { so = refl })))

  after_none : (o : Option ℕ) → Touches HasNone (room_after c last thread o)
  after_none None = done_gives tt (λ f. record { so = refl })
  after_none (Some o) =
      framed_gives (λ old. refuse_if (free_places last (popped old) == 0) fault.LocalsFull) (λ f. check _ _)

  popping_none : (a : Word)
      → Touches HasNone (frame_to_pop >> (resolved c last thread a >>= popping c last thread))
  popping_none a =
      behind (framed_gives (λ old. refuse_if (nat_lt (length old.frames) 2) fault.NoFrame) (λ f. check _ _)) (λ x.
      behind (resolved_none a) (λ y. behind (after_none y) (λ z. behind take_none (λ u. local_none y))))

  pushing_none : (n : ℕ) → Touches HasNone (frame_left >> (room_for c last thread n >> new_frame))
  pushing_none n =
      behind
      (framed_gives (λ old. refuse_if (nat_le FRAMES (length old.frames)) fault.LocalsFull) (λ f. check _ _)) (λ x.
      behind (room_none n) (λ y. just (λ f g acts z r. subst (λ l. touching l ≡ []) (sym r.0) refl)))

  removal_none : (k : RefKind) (a : Word) → Touches HasNone (removal c k a)
  removal_none k a =
      behind (check _ _) (λ x. behind (check _ _) (λ y. behind (check _ _) (λ z. delete_none a)))

  typing_none : (a : Word) → Touches HasNone (typing c thread a)
  typing_none a = cond_gives (is_malformed a || is_out_of_bounds c a || is_foreign thread a)
      (done_gives 0 (λ f. record { so = refl }))
      (prelude_none (type_prelude a))

-- WHAT AN ENDING does, of those that the two threads come to
abbrev pub EndTouches : {n : ℕ} {a : AnswerKind} → Ending n a → List Act → Type 0
EndTouches gives_object l = l ≡ []
EndTouches compares l = l ≡ []
EndTouches (types w) l = l ≡ []
EndTouches (creates k w) l = l ≡ []
EndTouches (deletes k w) l = l ≡ []
EndTouches (pushes n) l = l ≡ []
EndTouches (pops_to w) l = l ≡ []
EndTouches (makes k ws) l = MakesOne k ws l
EndTouches (fills k n None) l = MakesOne k (replicate n 0) l
EndTouches (fills k n (Some w)) l = (v : ℕ) × MakesOne k (replicate n v) l
EndTouches _ l = Unit {0}

-- and a program
abbrev pub ProgramTouches : {n : ℕ} {a : AnswerKind} → Program n a → List Act → Type 0
ProgramTouches (ends e) l = EndTouches e l
ProgramTouches (names w p) l = ProgramTouches p l
ProgramTouches (names_both p) l = ProgramTouches p l
ProgramTouches (wants w p) l = ProgramTouches p l
ProgramTouches (looks next) l = (k : Kind) × (n : ℕ) × ProgramTouches (next k n) l
ProgramTouches (tests ts silent p) l = ProgramTouches p l
ProgramTouches (finds i p) l = ProgramTouches p l

module _ (c : Config) (last thread : ℕ) (words : Which → Word) where
  ended_so : {n : ℕ} {a : AnswerKind} (e : Ending n a) (known : Which → Option ℕ) (o : ℕ)
      → Touches (EndTouches e) (ended c last thread words e known o)
  ended_so gives_object known o = done_gives o (λ f. record { so = refl })
  ended_so compares known o = done_gives _ (λ f. record { so = refl })
  ended_so (types w) known o = typing_none c last thread (words w)
  ended_so (creates k w) known o = created_none c.slots k (known w)
  ended_so (deletes k w) known o = removal_none c last thread k (words w)
  ended_so (pushes n) known o = pushing_none c last thread n
  ended_so (pops_to w) known o = popping_none c last thread (words w)
  ended_so (makes k ws) known o = made_one c last thread k ws
  ended_so (fills k n None) known o = made_one c last thread k (replicate n 0)
  ended_so (fills k n (Some w)) known o =
      weaker_gives (λ f g xs q. record { so = (_, q.so) }) (λ f g xs e q. q) (made_one c last thread k (replicate n _))
  ended_so _ known o = record { goes = λ f g acts x r. record { so = tt }; fails = λ f g acts e r. tt }

  module _ (s : State) where
    pub program_so : {n : ℕ} {a : AnswerKind} (p : Program n a) (known : Which → Option ℕ) (o : ℕ)
        → Touches (ProgramTouches p) (call_of c last thread s words p known o)
    program_so (ends e) known o = ended_so e known o
    program_so (names w p) known o =
        behind (resolved_none c last thread (words w)) (λ x. program_so p (set_known known w x) o)
    program_so (names_both p) known o = behind (prelude_none (both_prelude c last thread (words one) (words other)))
        (λ x. program_so p (at_both x.0 x.1) o)
    program_so (wants w p) known o = behind (prelude_none (not_null_prelude (known w))) (λ q. program_so p known q)
    program_so (looks next) known o = object_gives s o (λ k n.
        weaker_gives (λ f g xs q. record { so = (k, n, q.so) }) (λ f g xs e q. q) (program_so (next k n) known o))
    program_so (tests ts silent p) known o = tested_so ts (program_so p known o)
    program_so (finds i p) known o =
        behind (some_act_gives (Read o i) (λ v f. record { so = refl })) (λ v. program_so p (set_known known one _) o)

-- the object is an array of ints
pub record HasInts (p : ℕ) (s : State) : Type 0 where
  pub contents : Contents
  pub is : s.objects p ≡ Some contents
  pub ints : contents.kind ≡ Int

-- WHAT SETTING A REGION of an array of ints does: it writes into one
abbrev pub Fills : State → List Act → Type 0
Fills s l = (p : ℕ) × HasInts p s × (l ≡ Write p 0 10 ∷ Write p 1 20 ∷ Write p 2 30 ∷ [])

-- the kind passes a test for ints
is_int : (k : Kind) → not (same_element Int k) ≡ false → k ≡ Int
is_int Int e = refl
is_int _ e = absurd cc

-- a test passed, and then this was answered
checked : {A : Type 0} (b : Bool) (e : Fault) (next : Call A) (f g : Frames) (acts : List Act) (y : A)
    → (refuse_if b e >> next) f acts (Ok y) g → (b ≡ false) × next f acts (Ok y) g
checked true e next f g acts y (inl r) = absurd (let bad = r.5.1 in cc)
checked true e next f g acts y (inr r) = absurd (let bad = r.1 in cc)
checked false e next f g acts y (inl r) = (
  refl,
  subst (λ (z : Frames × List Act). next z.0 z.1 (Ok y) g)
      (λ i. (r.5.2 i, sym (r.4 ∙ ap (λ l. l ++ r.3) r.5.0) i)) r.6,
)
checked false e next f g acts y (inr r) = absurd (let bad = r.1 in cc)

-- and so did tests
tests_passed : {A : Type 0} (ts : Tests) (next : Call A) (f g : Frames) (acts : List Act) (y : A)
    → tested ts next f acts (Ok y) g → AllByRecursion (λ t. t.0 ≡ false) ts × next f acts (Ok y) g
tests_passed [] next f g acts y was = (tt, was)
tests_passed ((b, e) ∷ ts) next f g acts y was =
    let first = checked b e (tested ts next) f g acts y was in
    let rest = tests_passed ts next f g acts y first.1 in
    ((first.0, rest.0), rest.1)

pub fills_so : (c : Config) (last thread : ℕ) (s : State) (a : Word)
    → Touches (Fills s) (work_of c last thread s (handed_one a) (set_array_region Int 0 (10 ∷ 20 ∷ 30 ∷ [])))
fills_so c last thread s a =
    behind (resolved_none c last thread a) (λ x.
    behind (prelude_none (not_null_prelude x)) (λ p.
    object_so s p (λ k n. tested (part_tests Int 0 3 k n) (write p 0 (10 ∷ 20 ∷ 30 ∷ []))) (λ y is. record {
      goes = λ f g acts z r.
          let ts : Tests = part_tests Int 0 3 y.kind (length y.words) in
          let t = tests_passed ts (write p 0 (10 ∷ 20 ∷ 30 ∷ [])) f g acts z r in
          record { so = (p, record { contents = y; is = is; ints = is_int y.kind t.0.1.0 }, ap touching t.1.0) };
      fails = λ f g acts e r. tt;
    })))

-- WHAT READING AN ELEMENT in a region does, as one of an array of ints: it reads it there
pub ints_read : (c : Config) (last thread : ℕ) (s : State) (o v : ℕ) (f g : Frames) (acts : List Act)
    → at_object c last thread s o (region_get Int 1) f acts (Ok v) g → HasInts o s × (acts ≡ Read o 1 v ∷ [])
ints_read c last thread s o v f g acts was =
    let ts : Tests = get_tests Int 1 was.0.kind (length was.0.words) in
    let t = tests_passed ts (some_act (Read o 1)) f g acts v was.2 in (
      record { contents = was.0; is = was.1; ints = is_int was.0.kind t.0.0 },
      t.1.1 ∙ ap (λ z. Read o 1 z ∷ []) (let q = t.1.2 in cc),
    )
