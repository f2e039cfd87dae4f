-- What the two threads did, by which of their acts make an array of ints, or write an element.
use Rattle.std.proofs.Common.{◌≡◌, ◌∙◌, ◌++◌, ◌≤◌, ◌⊎◌, inl, inr, ℕ, Bool, List, [], ◌∷◌, Result, Ok, Err, ap, refl}
use Rattle.std.proofs.Common.{subst, sym}
use Rattle.std.specs.Int.{w32}
use mathlib.Core.List.{IsPrefix}
use Rattle.jr_word.specs.declared.config.Config.{Config}
use Rattle.jr_word.specs.declared.fault.Fault.{Fault}
use Rattle.jr_word.specs.declared.handle.RefKind.TheVariants.{Global, Weak}
use Rattle.jr_word.specs.declared.kind.Kind.TheVariants.{Int, Long}
use Rattle.jr_word.specs.Elem.{signed_of}
use Rattle.jr_model.specs.declared.event.Act.{Act}
use Rattle.jr_model.specs.declared.event.Act.TheVariants.{Read}
use Rattle.jr_model.specs.Calls.{Call}
use Rattle.jr_model.specs.Checks.{Word}
use Rattle.jr_model.specs.History.{Did, History, PassView, state}
use Rattle.jr_model.specs.AllCalls as calls
use Rattle.jr_model.specs.Programs.{handed_none, handed_one, none_known}
use Rattle.jr_model.specs.CallPrograms as programs
use Rattle.jr_model.specs.RefusedCalls.{ChangesNothing}
use Rattle.jr_model.proofs.EachCall.{refused_parts_change_nothing}
use Rattle.jr_model.proofs.Stays.{did_then}
use Rattle.jr_gate.specs.Performing.{IsMade, ThreadState}
use Rattle.jr_weak.specs.declared.collecting.Collected.{Collected}
use Rattle.jr_env.specs.Collections.{announced_collection}
use Rattle.jr_env.specs.Deeds.{call_apart, whole}
use Rattle.jr_env.specs.Remedies.{collection_in_turn, refused_once, served_now, tried_last}
use Rattle.jr_env.specs.Requests.{Request, asks, for_delete_reference, for_get_object_ref_type, for_is_same_object}
use Rattle.jr_env.specs.Requests.{for_new_array, for_new_object_array, for_new_plain, for_new_reference}
use Rattle.jr_env.specs.Requests.{for_pop_local_frame, gives, named, on_word, on_words, told_by}
use Rattle.first_room.specs.declared.TheConstants.{TRIES}
use Rattle.first_room.specs.declared.message.Found.{Found}
use Rattle.first_room.specs.declared.message.Handed.{Handed}
use Rattle.first_room.specs.declared.message.Found.TheVariants.{Shared, Visited}
use Rattle.first_room.specs.Calls.{HasPrepared, clearing, collecting_twice, making_own, preparing}
use Rattle.first_room.specs.Calls.{message_says, sharing, visiting}
use Rattle.first_room.proofs.Arrays.{filling}
use Rattle.first_room.proofs.Touching.{HasInts, ProgramTouches, Touches, collected_none}
use Rattle.first_room.proofs.Touching.{fills_so, in_region, in_stay, ints_read, program_so, refused_none}
use Rattle.first_room.proofs.Touching.{touching, touching_append}

-- A THREAD DID, of these acts, just these
pub record DidJust (l : List Act) (old new : PassView) : Type 0 where
  pub acts : List Act
  pub did : Did old new acts
  pub so : touching acts ≡ l

pub so_then : {l m : List Act} {a b c : PassView} → DidJust l a b → DidJust m b c → DidJust (l ++ m) a c
so_then {l} {m} p q = record {
  acts = p.acts ++ q.acts;
  did = did_then p.acts q.acts p.did q.did;
  so = touching_append p.acts q.acts ∙ (ap (λ x. x ++ touching q.acts) p.so ∙ ap (λ x. l ++ x) q.so);
}

same_end : {l : List Act} {a : PassView} {b c : ThreadState} → c ≡ b → DidJust l a b.pass → DidJust l a c.pass
same_end {l} {a} is = subst (λ (z : ThreadState). DidJust l a z.pass) (sym is)

-- what a deed was whose answer is no refusal
unrefused : {A B : Type 0} {y : B} {refused : Fault → Type 0}
    → A ⊎ ((e : Fault) × (◌≡◌ {A = Result B Fault} (Ok y) (Err e)) × refused e) → A
unrefused (inl done) = done
unrefused (inr r) = absurd (let bad = r.1 in cc)

-- a call that was answered
made_so : {A : Type 0} {P : List Act → Type 0} {silent : ℕ} {old new : ThreadState} {x : A} {call : Call A}
    → Touches P call → IsMade silent old new call (Ok x) → (l : List Act) × DidJust l old.pass new.pass × P l
made_so {old = old} {new = new} {x = x} t m =
    let h = t.goes old.frames new.frames m.ran.acts x m.ran.is in
    (touching m.ran.acts, record { acts = m.ran.acts; did = m.ran.did; so = refl }, h.so)

-- and one that was refused
refused_so : {A : Type 0} {silent : ℕ} {old new : ThreadState} {e : Fault} {call : Call A} → ChangesNothing call
    → IsMade silent old new call (Err e) → DidJust [] old.pass new.pass
refused_so {e = e} safe m = record { acts = m.ran.acts; did = m.ran.did; so = refused_none e safe m.ran.is }

-- WHAT A WHOLE CALL does, by its request
abbrev pub RequestTouches : {A : Type 0} → Request A → List Act → Type 0
RequestTouches (asks silent words p) l = ProgramTouches p l
RequestTouches (on_word w next) l = (a : Word) × RequestTouches (next a) l
RequestTouches (on_words v w next) l = (a b : Word) × RequestTouches (next a b) l
RequestTouches (gives form first) l = RequestTouches first l
RequestTouches (told_by form first) l = RequestTouches first l
RequestTouches (named name first) l = RequestTouches first l

whole_so : {A : Type 0} (request : Request A) (old new : ThreadState) (x : A) → whole request old (Ok x) new
    → (l : List Act) × DidJust l old.pass new.pass × RequestTouches request l
whole_so (asks silent words p) old new x was =
    let c = old.pass in
    made_so (in_stay (program_so c.config c.last c.thread words (state new.pass.seen) p none_known 0)) was.0
whole_so (on_word w next) old new x was = let z = whole_so (next was.0) old new x was.2 in (z.0, z.1, (was.0, z.2))
whole_so (on_words v w next) old new x was =
    let z = whole_so (next was.0 was.1) old new x was.4 in (z.0, z.1, (was.0, was.1, z.2))
whole_so (gives form first) old new x (inl was) =
    let z = whole_so first old was.1 was.0 was.2 in (z.0, same_end was.3.1 z.1, z.2)
whole_so (gives form first) old new x (inr was) = absurd (let bad = was.1 in cc)
whole_so (told_by form first) old new x was = whole_so first old new (form x) was
whole_so (named name first) old new x was = whole_so first old new x was

-- that it does nothing of the sort
quiet : {A : Type 0} (request : Request A) → ((l : List Act) → RequestTouches request l → l ≡ [])
    → (old new : ThreadState) (x : A) → whole request old (Ok x) new → DidJust [] old.pass new.pass
quiet request none old new x was = let z = whole_so request old new x was in
    subst (λ l. DidJust l old.pass new.pass) (none z.0 z.2) z.1

-- nor a call that enters no gate
pushed : (n : ℕ) {old new : ThreadState} → call_apart (programs.push_local_frame n) old (Ok tt) new
    → DidJust [] old.pass new.pass
pushed n {old} {new} was =
    let c = old.pass in
    let z = made_so (program_so c.config c.last c.thread handed_none (state new.pass.seen) (programs.push_local_frame n)
    none_known 0) was.0 in
    subst (λ l. DidJust l old.pass new.pass) z.2 z.1

-- nor collections
announced : (old new : ThreadState) (r : Result Collected Fault) → announced_collection TRIES old r new
    → DidJust [] old.pass new.pass
announced old new (Ok c) turn =
    let ran = turn.done.ran in
    record { acts = ran.acts; did = ran.did; so = ((collected_none TRIES).goes _ _ ran.acts _ ran.is).so }
announced old new (Err e) turn = refused_so (refused_parts_change_nothing old.pass.config old.pass.last
    old.pass.thread (state new.pass.seen) _ (calls.PartOf.collect_announced TRIES)) turn.made

in_turn : {more : ℕ} {old new : ThreadState} {r : Result Collected Fault} → collection_in_turn TRIES more old r new
    → DidJust [] old.pass new.pass
in_turn (served_now {old = old} {new = new} {x = x} turn) = announced old new (Ok x) turn
in_turn (refused_once {old = old} {mid = mid} {e = e} turn rest) =
    so_then (announced old mid (Err e) turn) (in_turn rest)
in_turn (tried_last {old = old} {new = new} {answer = answer} turn) = announced old new answer turn

-- THE FIRST THREAD HAD MADE AN ARRAY OF INTS, and then written into one, and done nothing else of the sort
pub record IsTraced (start stop : PassView) : Type 0 where
  pub o : ℕ
  pub p : ℕ
  pub filled : PassView
  pub fills : DidJust (filling o p) start filled
  pub ints : HasInts p (state filled.seen)
  pub ends : DidJust [] filled stop

pub traced : (old new : ThreadState) (x : ℕ × ℕ) → preparing old (Ok x) new → IsTraced old.pass new.pass
traced old new x d =
    let push = unrefused d in
    let lost = unrefused push.3 in
    let weak = unrefused lost.3 in
    let array = unrefused weak.3 in
    let set = unrefused array.3 in
    let global = unrefused set.3 in
    let popped = unrefused global.3 in
    let one = whole_so (for_new_array Int 3) weak.1 array.1 array.0 array.2 in
    let at = array.1.pass in
    let two = made_so (in_stay (fills_so at.config at.last at.thread (state set.1.pass.seen) set.2.0)) set.2.2.0 in
    let first = so_then (pushed 4 push.2) (so_then
    (quiet (for_new_array Long 4) (λ l t. t.1) push.1 lost.1 lost.0 lost.2)
    (quiet (for_new_reference Weak lost.0.0) (λ l t. t.1) lost.1 weak.1 weak.0 weak.2)) in
    record {
      o = one.2.0;
      p = two.2.0;
      filled = set.1.pass;
      fills = subst (λ l. DidJust l old.pass set.1.pass) (λ i. one.2.1 i ++ two.2.2 i)
          (so_then first (so_then one.1 two.1));
      ints = two.2.1;
      ends = same_end popped.3.1 (so_then
          (quiet (for_new_reference Global array.0.0) (λ l t. t.1) set.1 global.1 global.0 global.2)
          (quiet (for_pop_local_frame 0) (λ l t. t.1) global.1 popped.1 popped.0 popped.2));
    }

-- ALL THAT IT DID: it prepared, and then nothing of the sort; and a collection of it was refused, by one at least
pub record HasShared (y : Found) (start stop : PassView) : Type 0 where
  pub inside : ℕ
  pub cleared : Bool
  pub kind : ℕ
  pub is : y ≡ Shared inside cleared kind
  pub some : 1 ≤ inside
  pub mid : PassView
  pub traced : IsTraced start mid
  pub ends : DidJust [] mid stop

-- THE SECOND THREAD was handed the word, and read the second element of an array of ints
pub record HasVisited (y : Found) (sizes : Config) (start stop : PassView) : Type 0 where
  pub word : ℕ
  pub is : y ≡ Visited (signed_of w32 word)
  pub global : ℕ
  pub noted : History
  pub mid : PassView
  pub prepared : ∥ HasPrepared sizes global noted ∥₁
  pub begins : IsPrefix noted mid.seen
  pub learned : Did start mid []
  pub o : ℕ
  pub opened : PassView
  pub read : PassView
  pub first : DidJust [] mid opened
  pub reads : Did opened read (Read o 1 word ∷ [])
  pub ints : HasInts o (state read.seen)
  pub last : DidJust [] read stop

same_found : {y z : Found} → ◌≡◌ {A = Result Found Fault} (Ok y) (Ok z) → y ≡ z
same_found e = cc

pub has_shared : (old new : ThreadState) (y : Found) → sharing old (Ok y) new → HasShared y old.pass new.pass
has_shared old new y d =
    let words = unrefused d in
    let inside = unrefused words.3 in
    let found = unrefused inside.3 in
    let end = found.3 in
    let twice = collected words.1 inside.1 inside.0 inside.2 in
    record {
      inside = inside.0;
      cleared = found.0.0;
      kind = found.0.1;
      is = same_found end.0;
      some = twice.0;
      mid = words.1.pass;
      traced = traced old words.1 words.0 words.2;
      ends =
          same_end end.1 (so_then twice.1 (cleared inside.1 found.1 words.0.0 words.0.1 found.0 found.2));
    }
  where
    collected : (a b : ThreadState) (inside : ℕ) → collecting_twice a (Ok inside) b
        → (1 ≤ inside) × DidJust [] a.pass b.pass
    collected a b inside d =
        let out = unrefused d in
        let turn = unrefused out.3 in
        let k = out.2.2 in
        let told : inside ≡ k.count = let x = turn.3.0 in let y = out.2.1 in let z = k.busy in cc in (
          subst (λ i. 1 ≤ i) (sym told) k.some,
          same_end turn.3.1 (so_then (refused_so (refused_parts_change_nothing a.pass.config a.pass.last a.pass.thread
              (state out.1.pass.seen) _ calls.PartOf.collect) k.made) (in_turn turn.2.1)),
        )

    cleared : (b c : ThreadState) (weak global : ℕ) (found : Bool × ℕ) → clearing weak global b (Ok found) c
        → DidJust [] b.pass c.pass
    cleared b c weak global found z =
        let is = unrefused z in
        let deleted = unrefused is.3 in
        let kind = unrefused deleted.3 in
        same_end kind.3.1 (so_then (quiet (for_is_same_object weak 0) (λ l t. t.2) b is.1 is.0 is.2)
        (so_then (quiet (for_delete_reference Global global) (λ l t. t.1) is.1 deleted.1 deleted.0 deleted.2)
        (quiet (for_get_object_ref_type global) (λ l t. t.1) deleted.1 kind.1 kind.0 kind.2)))

pub has_visited : (old new : ThreadState) (y : Found) → visiting old (Ok y) new
    → HasVisited y old.pass.config old.pass new.pass
has_visited old new y d =
    let heard = unrefused d in
    let owned = unrefused heard.3 in
    let read = unrefused owned.3 in
    let opens = unrefused read.2 in
    let gets = unrefused opens.3 in
    let leaves = unrefused gets.3 in
    let before = owned.1.pass in
    let there = opens.1.pass in
    let behind = gets.1.pass in
    let first = made_so (in_region (program_so before.config before.last before.thread (handed_one opens.2.0)
    (state there.seen) (programs.get_array_critical 0) none_known 0)) opens.2.2 in
    let quiet_open = subst (λ l. DidJust l before there) first.2.2 first.1 in
    let value : gets.0 ≡ read.0 = same_word gets.0 read.0 (sym leaves.3.0) in
    let got = ints_read there.config there.last there.thread (state behind.seen) opens.0 gets.0 opens.1.frames
    gets.1.frames gets.2.ran.acts gets.2.ran.is in
    let taken = heard.2.2 in
    record {
      word = read.0;
      is = same_found read.3.0;
      global = heard.0;
      noted = taken.2;
      mid = heard.1.pass;
      prepared = subst (λ h. ∥ HasPrepared old.pass.config h taken.2 ∥₁) (same_word _ _ (sym heard.2.1))
          (subst (λ m. ∥ message_says m old.pass.config taken.2 ∥₁) (same_message taken.1) taken.3);
      begins = taken.4;
      learned = taken.5.did;
      o = opens.0;
      opened = there;
      read = behind;
      first = so_then (own heard.1 owned.1 owned.2) quiet_open;
      reads = subst (λ x. Did there behind (Read opens.0 1 x ∷ [])) value
          (subst (Did there behind) got.1 gets.2.ran.did);
      ints = got.0;
      last = same_end (read.3.1 ∙ leaves.3.1) (record {
        acts = leaves.2.ran.acts;
        did = leaves.2.ran.did;
        so = ap touching leaves.2.ran.is.0;
      });
    }
  where
    own : (a b : ThreadState) → making_own a (Ok tt) b → DidJust [] a.pass b.pass
    own a b z =
        let push = unrefused z in
        let object = unrefused push.3 in
        let array = unrefused object.3 in
        let popped = unrefused array.3 in
        same_end popped.3.1 (so_then (pushed 4 push.2) (so_then
        (quiet for_new_plain (λ l t. t.1) push.1 object.1 object.0 object.2) (so_then
        (quiet (for_new_object_array 2 object.0.0) (λ l t. t.1.1.1) object.1 array.1 array.0 array.2)
        (quiet (for_pop_local_frame 0) (λ l t. t.1) array.1 popped.1 popped.0 popped.2))))

    same_message : {m n : Handed} → ◌≡◌ {A = Result Handed Fault} (Ok m) (Ok n) → n ≡ m
    same_message e = cc

    same_word : (a b : ℕ) → ◌≡◌ {A = Result ℕ Fault} (Ok a) (Ok b) → a ≡ b
    same_word a b e = cc
