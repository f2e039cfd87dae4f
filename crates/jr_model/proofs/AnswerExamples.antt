-- The examples of calls.
use Rattle.std.proofs.Common.{◌≡◌, ℕ, not, nat_le, List, Result, Ok, Err}
use Rattle.std.proofs.Common.{Some, None, [], ◌∷◌, ◌++◌, inl, inr, refl, sym, ap, replicate, ◌∙◌}
use Rattle.std.proofs.lemmas.List.{append-nil}
use Rattle.jr_word.specs.declared.fault.Fault.{Fault}
use Rattle.jr_word.specs.declared.fault.Fault.TheVariants as fault
use Rattle.jr_word.specs.declared.kind.Kind.{Kind}
use Rattle.jr_word.specs.declared.kind.Kind.TheVariants.{Int, Text}
use Rattle.jr_model.specs.declared.event.Found.TheVariants.{Cleared}
use Rattle.jr_model.specs.declared.event.Act.{Act}
use Rattle.jr_model.specs.declared.event.Act.TheVariants.{Gate, Look, ReserveFull}
use Rattle.jr_model.specs.declared.event.GateAct.TheVariants.{Enter, Leave}
use Rattle.jr_word.specs.declared.handle.RefKind.TheVariants.{Global, Weak}
use Rattle.jr_model.specs.Frames.{Frames}
use Rattle.jr_model.specs.Checks.{Word, is_array, is_primitive, is_text, Nothing, Malformed, Parts, type_found}
use Rattle.jr_model.specs.References.{room_for, resolved, resolved_both}
use Rattle.jr_model.specs.Parts.{elements_get, elements_set, looked, not_null, reserve}
use Rattle.jr_model.specs.Programs.{AnswerKind, AnswerOf, Program, Which, at_both, handed_none, handed_one, work_of}
use Rattle.jr_model.specs.CallPrograms.{delete_reference, get_array_critical, get_array_length, get_object_ref_type}
use Rattle.jr_model.specs.CallPrograms.{get_string_critical, is_same_object, new_array, new_reference, pop_local_frame}
use Rattle.jr_model.specs.Calls.{Call, ◌>>=◌, ◌>>◌, decided, done, refuse, refuse_if, some_act, entered, for_object}
use Rattle.jr_model.specs.State.{Contents, opening}
use Rattle.jr_model.specs.declared.frames.TheConstants.{LEVELS}
use Rattle.jr_model.specs.Examples.{last_serial, w}
use Rattle.jr_model.specs.Maps.{sum_below}
use Rattle.jr_model.proofs.OwnActs.{IsAmong}
use Rattle.jr_model.proofs.Lawful.{in_stay}
use Rattle.jr_model.proofs.EachCall.{alike_work}
use Rattle.jr_model.specs.CallExamples.{quiet_room, fresh, LengthOfNothing, TypeOfNothing, CallsOnCleared, CallsOnNull}
use Rattle.jr_model.specs.CallExamples.{called, named, next_level, never_given, past_the_row, of_another, with_text}
use Rattle.jr_model.specs.CallExamples.{SecondLevel, CopiedElements, ArrayLacksSpace}

-- that a call may do this, as a search finds it
record Derives {A : Type 0} (call : Call A) (f : Frames) (acts : List Act) (r : Result A Fault)
    (g : Frames) : Type 0 where
  is : call f acts r g

of : {A : Type 0} (call : Call A) {f g : Frames} {acts : List Act} {r : Result A Fault} → Derives call f acts r g
    → call f acts r g
of call d = d.is

answers : {A : Type 0} {r : Result A Fault} {f : Frames} → Derives (decided r) f [] r f
answers = record { is = (refl, refl, refl) }

finds : {X : Type 0} {a : X → Act} {x : X} {f : Frames} → Derives (some_act a) f (a x ∷ []) (Ok x) f
finds {x = x} = record { is = (x, refl, refl, refl) }

-- a first call without an act, and then the rest
silent : {A B : Type 0} {first : Call A} {next : A → Call B} {f g : Frames} {acts : List Act} {r : Result B Fault}
    (x : A) → Derives first f [] (Ok x) f → Derives (next x) f acts r g → Derives (first >>= next) f acts r g
silent {f = f} {acts = acts} x d e = record { is = inl (x, f, [], acts, refl, d.is, e.is) }

-- a first call that has all acts, and then the rest
whole : {A B : Type 0} {first : Call A} {next : A → Call B} {f g : Frames} {acts : List Act} {r : Result B Fault}
    (x : A) → Derives first f acts (Ok x) f → Derives (next x) f [] r g → Derives (first >>= next) f acts r g
whole {f = f} {acts = acts} x d e = record { is = inl (x, f, acts, [], sym (append-nil acts), d.is, e.is) }

-- a first call that is refused
refused : {A B : Type 0} {e : Fault} {first : Call A} {next : A → Call B} {f g : Frames} {acts : List Act}
    → Derives first f acts (Err e) g → Derives (first >>= next) f acts (Err e) g
refused {e = e} d = record { is = inr (e, refl, d.is) }

-- what has no act, and then the rest
then_rest : {A B : Type 0} {x : A} {next : A → Call B} {f g : Frames} {acts : List Act} {r : Result B Fault}
    → Derives (next x) f acts r g → Derives (done x >>= next) f acts r g
then_rest {x = x} {f = f} {acts = acts} d = record { is = inl (x, f, [], acts, refl, (refl, refl, refl), d.is) }

-- a stay without an act
quiet : {A : Type 0} {work : Call A} {f g : Frames} {r : Result A Fault} → Derives work f [] r g
    → Derives (entered work) f (Gate Enter ∷ Gate Leave ∷ []) r g
quiet d = record { is = inr ([], refl, d.is) }

-- a stay with these acts
within : {A : Type 0} (work : Call A) {f g : Frames} {r : Result A Fault} (acts : List Act) → Derives work f acts r g
    → entered work f (Gate Enter ∷ acts ++ Gate Leave ∷ []) r g
within work acts d = inr (acts, refl, d.is)

ruleset derivations = (quiet, then_rest, refused, silent, whole, finds, answers)

null_resolved : Derives (resolved quiet_room last_serial 0 Nothing) fresh [] (Ok None) fresh
null_resolved = search derivations depth 12

abbrev work : {n : ℕ} {a : AnswerKind} → (Which → Word) → Program n a → Call (AnswerOf a)
work words p = work_of quiet_room last_serial 0 opening words p

abbrev length : Word → Call ℕ
length a = called (handed_one a) get_array_length

pub length_of_nothing : LengthOfNothing
length_of_nothing = record {
  null = within (work (handed_one Nothing) get_array_length) []
      (silent None null_resolved (refused answers));
  malformed = of (length Malformed) (search derivations depth 12);
  outside = of (length (Parts past_the_row)) (search derivations depth 12);
  unknown = of (length (Parts never_given)) (search derivations depth 12);
  foreign = of (length (Parts of_another)) (search derivations depth 12);
  barred = inl (refl, refl, refl);
}

pub type_of_nothing : TypeOfNothing
type_of_nothing = record {
  null = inr ([], refl, (refl, refl, refl));
  malformed = inr ([], refl, (refl, refl, refl));
  outside = inr ([], refl, (refl, refl, refl));
  unknown = inr ([], refl, (refl, refl, refl));
  foreign = inr ([], refl, (refl, refl, refl));
}

type_only : (n : ℕ) (g : Frames) → called (handed_one (Parts w)) get_object_ref_type fresh
    (Gate Enter ∷ Look w Cleared ∷ Gate Leave ∷ []) (Ok n) g → n ≡ 3
type_only n g (inl r) = absurd (let bad = r.1 in cc)
type_only n g (inr (inside, acts, inr q)) = absurd (let bad = q.1 in cc)
type_only n g (inr (inside, acts, inl q)) =
    let is : inside ≡ Look w q.5.0 ∷ [] = q.4 ∙ (ap (λ l. l ++ q.3) q.5.1 ∙ ap (λ l. Look w q.5.0 ∷ l) q.6.0) in
    let whole : Gate Enter ∷ Look w Cleared ∷ Gate Leave ∷ [] ≡ Gate Enter ∷ Look w q.5.0 ∷ Gate Leave ∷ [] =
    acts ∙ ap (λ l. Gate Enter ∷ l ++ Gate Leave ∷ []) is in
    let found : q.0 ≡ Cleared = let given = q.5.2 in cc in
    let answer : n ≡ type_found Weak q.0 = let gives = q.6.1 in cc in
    answer ∙ ap (type_found Weak) found

abbrev looks : List Act
looks = Look w Cleared ∷ []

pub calls_on_cleared : CallsOnCleared
calls_on_cleared = record {
  type = inr (looks, refl, inl (Cleared, fresh, looks, [], refl, (Cleared, refl, refl, refl), (refl, refl, refl)));
  type_only = type_only;
  same = within (work (at_both (Parts w) Nothing) is_same_object) looks (whole (None, None) both answers);
  global = within (work (handed_one (Parts w)) (new_reference Global)) looks (whole None found answers);
  other_kind = of (called (handed_one (Parts w)) (delete_reference Global)) (search derivations depth 12);
}
  where
    looked_up : Derives (looked (Parts w)) fresh looks (Ok None) fresh
    looked_up = whole Cleared finds answers

    found : Derives (resolved quiet_room last_serial 0 (Parts w)) fresh looks (Ok None) fresh
    found = then_rest (then_rest (then_rest looked_up))

    both : Derives (resolved_both quiet_room last_serial 0 (Parts w) Nothing) fresh looks (Ok (None, None)) fresh
    both = then_rest (then_rest (then_rest
        (then_rest (then_rest (then_rest (whole None looked_up (silent None answers answers)))))))

pub calls_on_null : CallsOnNull
calls_on_null = record {
  delete = of (called (handed_one Nothing) (delete_reference Weak)) (search derivations depth 12);
  pop = of (called (handed_one Nothing) pop_local_frame) (search derivations depth 12);
}

pub second_level : SecondLevel
second_level = record {
  nested = of (next_level (5 ∷ []) get_string_critical)
      (silent 3 (found (text_level 1) (then_rest (then_rest answers))) answers);
  full = of (next_level (replicate 16 5) get_string_critical)
      (refused (found (text_level 16) (then_rest (refused answers))));
  array = of (next_level (5 ∷ []) get_array_critical)
      (refused (found array_level (refused answers)));
  kind = (string, refl, (refl, refl, refl));
  long = (string, refl, (refl, refl, refl));
}
  where
    string : Contents
    string = record { kind = Text; words = 104 ∷ 105 ∷ [] }

    text_level : ℕ → ℕ → Kind → ℕ → Call ℕ
    text_level levels o k n = refuse_if (not (is_text k)) fault.WrongKind
        >> (refuse_if (nat_le LEVELS levels) fault.Size >> done o)

    array_level : ℕ → Kind → ℕ → Call ℕ
    array_level o k n = refuse_if (not (is_array k)) fault.NotArray
        >> (refuse_if (not (is_primitive k)) fault.WrongElement >> (refuse_if (nat_le LEVELS 1) fault.Size >> done o))

    resolves : Derives (resolved quiet_room last_serial 0 (Parts never_given)) named [] (Ok (Some 3)) named
    resolves = search derivations depth 12

    -- the reference is resolved without an act, and then this follows at the string
    found : {A : Type 0} {answer : Result A Fault} (next : ℕ → Kind → ℕ → Call A)
        → Derives (next 3 Text 2) named [] answer named → Derives (resolved quiet_room last_serial 0 (Parts never_given)
        >>= (λ x. not_null x >>= (λ o. for_object with_text o (next o)))) named [] answer named
    found next d = silent (Some 3) resolves (silent 3 answers (record { is = (string, refl, d.is) }))

pub copied_elements : CopiedElements
copied_elements = record {
  got = of (elements_get (7 ∷ 8 ∷ []) 1) (search derivations);
  got_past = of (elements_get (7 ∷ 8 ∷ []) 2) (search derivations);
  set = of (elements_set (7 ∷ 8 ∷ []) 0 9) (search derivations);
  set_past = of (elements_set (7 ∷ 8 ∷ []) 2 9) (search derivations);
  long = (refl, refl, refl);
}

refused_for : (u : ℕ) (g : Frames) (acts : List Act)
    → called handed_none (new_array Int 20) fresh acts (Err (fault.SpaceFull u)) g → IsAmong (ReserveFull 20 u) acts
refused_for u g acts r =
    ((in_stay (alike_work quiet_room last_serial 0 Int 20 0)).fails fresh g acts (fault.SpaceFull u) r).shown.0

nil_behind : (front : List Act) (a : Act) (rest : List Act) → ◌≡◌ {A = List Act} [] (front ++ a ∷ rest) → ⊥
nil_behind [] a rest is = cc
nil_behind (x ∷ front) a rest is = cc

found_among : (u : ℕ) (front rest : List Act)
    → Gate Enter ∷ ReserveFull 20 3 ∷ Gate Leave ∷ [] ≡ front ++ ReserveFull 20 u ∷ rest → u ≡ 3
found_among u [] rest is = absurd cc
found_among u (x ∷ []) rest is = cc
found_among u (x ∷ y ∷ []) rest is = absurd cc
found_among u (x ∷ y ∷ z ∷ front) rest is = absurd (nil_behind front (ReserveFull 20 u) rest cc)

none_among : (u : ℕ) (front rest : List Act) → Gate Enter ∷ Gate Leave ∷ [] ≡ front ++ ReserveFull 20 u ∷ rest → ⊥
none_among u [] rest is = cc
none_among u (x ∷ []) rest is = cc
none_among u (x ∷ y ∷ front) rest is = nil_behind front (ReserveFull 20 u) rest cc

pub array_lacks_space : ArrayLacksSpace
unfolding sum_below
array_lacks_space = record {
  refused = within (work handed_none (new_array Int 20)) (ReserveFull 20 3 ∷ [])
      (silent tt room (refused full));
  found_only = λ u g r. let a = refused_for u g _ r in found_among u a.0 a.1 a.2;
  asks_first = λ u g r. let a = refused_for u g _ r in none_among u a.0 a.1 a.2;
}
  where
    room : Derives (room_for quiet_room last_serial 0 1) fresh [] (Ok tt) fresh
    room = record { is = (refl, refl, refl) }

    full : Derives (reserve 20) fresh (ReserveFull 20 3 ∷ []) (Err (fault.SpaceFull 3)) fresh
    full = let d : Derives (some_act (ReserveFull 20) >>= (λ u. refuse {A = Unit {0}} (fault.SpaceFull u))) fresh
        (ReserveFull 20 3 ∷ []) (Err (fault.SpaceFull 3)) fresh = whole 3 finds answers in
        record { is = inr (inl d.is) }
