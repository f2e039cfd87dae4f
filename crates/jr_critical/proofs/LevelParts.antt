-- A part of the elements of a level's object is read or written, or not.
use Rattle.std.proofs.Common.{◌≡◌, ◌<◌, ◌+◌, ℕ, Bool, true, false, not, nat_lt, List, [], ◌∷◌, length}
use Rattle.std.proofs.Common.{Result, Ok, Err, refl, sym, ap, subst, ◌∙◌, arith}
use Rattle.std.proofs.lemmas.Result.{err_from_is_err_and}
use Rattle.std.specs.Result.{IsErrAnd}
use mathlib.Core.Logic.{∥∥₁_map}
use Rattle.jr_word.specs.declared.fault.Fault.{Fault}
use Rattle.jr_word.specs.declared.fault.Fault.TheVariants.{NotArray, Range, WrongElement}
use Rattle.jr_word.specs.declared.kind.Kind.{Kind}
use Rattle.jr_model.specs.declared.event.Role.TheVariants.{Within}
use Rattle.jr_model.specs.declared.event.Act.{Act}
use Rattle.jr_model.specs.Frames.{Frames}
use Rattle.jr_model.specs.Calls.{Call, for_object}
use Rattle.jr_model.specs.Checks.{is_read_as, is_text, same_element}
use Rattle.jr_model.specs.Parts.{write}
use Rattle.jr_model.specs.Tests.{AreSilent, Tests, refused_by, tested}
use Rattle.jr_model.proofs.Tests.{ran_stopped, ran_tested}
use Rattle.jr_steps.specs.declared.known.Known.{Known}
use Rattle.jr_steps.specs.Knowing.{AreOf, Facts, MayKnow, Standing, keeps}
use Rattle.jr_gate.specs.Performing.{Performed}
use Rattle.jr_gate.proofs.SameRoom.{as_before}
use Rattle.jr_gate.proofs.Spending.{made_of, spend_acts}
use Rattle.jr_heap.specs.Heap.{Called, HoldsHeader, LeavesObject, by_steps}
use Rattle.jr_heap.proofs.KnownHeaders.{steps_keep_headers}
use Rattle.jr_frames.specs.Table.{Table}
use Rattle.jr_frames.proofs.FoundObject.{ran_for}
use Rattle.jr_frames.proofs.FramesAgree.{holds_did}
use Rattle.jr_critical.specs.declared.level.Level.{Level}
use Rattle.jr_critical.specs.declared.levels.Levels.{Levels}
use Rattle.jr_critical.specs.Levels.{KnowsLevels, Stand, level_at, objects_of}
use Rattle.jr_critical.specs.LevelParts.{part_read, set_part_tests}
use Rattle.jr_critical.proofs.KnownLevels.{known_later}
use Rattle.jr_critical.proofs.Reaching.{h_of, held_at, o_of, reaches_not, same_kind_of, stand_still}
use Rattle.jr_critical.proofs.SparedActs.{AreSpared, write_spared}

is_refusal : {A : Type 0} {e : Fault} (answer : Result A Fault) → IsErrAnd answer (λ y. y ≡ e) → answer ≡ Err e
is_refusal answer given = let why = err_from_is_err_and answer given in why.1 ∙ ap (λ (v : Fault). Err v) why.2

-- a part was read, written or refused, by a call that tests
abbrev pub Reached : {S A : Type 0} → (S → Facts) → Levels → ℕ → S → S → Frames → (Kind → ℕ → Tests) → (ℕ → Call A)
    → Result A Fault → Type 0
Reached facts v level a b f ts call answer = Performed facts a b f f 0 (KnowsLevels v f)
    (λ s. for_object s (o_of v level) (λ l m. tested (ts l m) (call (o_of v level)))) answer
    (λ j k. keeps j k × KnowsLevels v f k)

module _ {S : Type 0} {facts : S → Facts} (fits : AreOf facts) (v : Levels) (level : ℕ)
    (inside : level < length (objects_of v)) {x : Level} (is : x ≡ level_at v level) where
  -- the header may be known
  pub may_hold : {a : S} {t : Table} → Stand facts v a t → MayKnow facts a (HoldsHeader x.object x.header)
  may_hold {a} s = subst (λ (l : Level). MayKnow facts a (HoldsHeader l.object l.header)) (sym is)
      (∥∥₁_map s.known (λ k. (k.0, k.1, held_at v level inside k.0 k.2.0)))

  -- the tests refuse, by no step
  pub refuses_part : {A : Type 0} (a : S) (f : Frames) (ts : Kind → ℕ → Tests) (call : ℕ → Call A) {e : Fault}
      (answer : Result A Fault) → IsErrAnd answer (λ y. y ≡ e)
      → AreSilent (ts (h_of v level).kind (h_of v level).length)
      → refused_by (ts x.header.kind x.header.length) ≡ Err e → Reached facts v level a a f ts call answer
  refuses_part a f ts call {e} answer given silent refused = subst (λ r. Reached facts v level a a f ts call r)
      (sym (is_refusal answer given)) (reaches_not fits v level inside a f
      (λ l m. tested (ts l m) (call (o_of v level))) (Err e) (λ p l.
      ran_stopped p f (ts (h_of v level).kind (h_of v level).length) (call (o_of v level)) silent
      (subst (λ (y : Level). refused_by (ts y.header.kind y.header.length) ≡ Err e) is refused) l))

  -- the steps at the elements
  module _ {A : Type 0} (n : ℕ) (call : ℕ → Call A) (answer : Result A Fault)
      (spared : (f : Frames) (o : ℕ) (acts : List Act) → call o f acts answer f → AreSpared n acts) {a b : S}
      (same : (facts b).stands ≡ (facts a).stands) (within : (facts a).stands.role ≡ Within)
      (called : Called facts a b (HoldsHeader x.object x.header) (λ j k. call x.object) answer
      (by_steps n (LeavesObject x.object x.header))) where
    there : Called facts a b (HoldsHeader (o_of v level) (h_of v level)) (λ j k. call (o_of v level)) answer
        (by_steps n (LeavesObject (o_of v level) (h_of v level)))
    there = subst (λ (l : Level). Called facts a b (HoldsHeader l.object l.header) (λ j k. call l.object) answer
        (by_steps n (LeavesObject l.object l.header))) is called

    -- for one thing that was known
    known_part : (f : Frames) (k : Known) (s : (facts a).knows k) (m : KnowsLevels v f k)
        → KnowsLevels v f (there.ran k s (held_at v level inside k m.0)).0
    known_part f k s m =
        let y = there.ran k s (held_at v level inside k m.0) in
        let r = y.2 f in
        let are = spared f (o_of v level) r.acts r.is in (
          known_later v.levels.items k y.0 r.acts r.did ((fits a k s).role ∙ within) are.stays
              (steps_keep_headers.kept k y.0 y.3.0.1) m.0,
          holds_did k y.0 f r.acts r.did are.spares m.1,
        )

    pub reaches_part : (f : Frames) (ts : Kind → ℕ → Tests) → refused_by (ts x.header.kind x.header.length) ≡ Ok tt
        → Reached facts v level a b f ts call answer
    reaches_part f ts passed = record {
      stands_is = as_before _ same;
      ran = λ k s m.
          let y = there.ran k s (held_at v level inside k m.0) in
          let r = y.2 f in
          let are = spared f (o_of v level) r.acts r.is in
          let long = are.long in
          let steps = y.3.1 in
          let known = known_part f k s m in (
            y.0,
            y.1,
            made_of (spend_acts f f 0 r.acts 0 (omega arith) r.did (omega arith)
                (ap (λ (z : Standing). z.fresh) same ∙ sym (are.fresh (facts a).stands.fresh)) (there.hint_is
                ∙ sym (are.hint k.config.slots (facts a).hint)))
                (ran_for y.0 (o_of v level) (h_of v level) (λ l m. tested (ts l m) (call (o_of v level)))
                (held_at v level inside y.0 known.0).shown
                (ran_tested (ts (h_of v level).kind (h_of v level).length) (call (o_of v level))
                (subst (λ (z : Level). refused_by (ts z.header.kind z.header.length) ≡ Ok tt) is passed) r)),
            (y.3.0.1, known),
          );
    }

    -- the levels stand still
    pub stand_part : {t : Table} → Stand facts v a t → Stand facts v b t
    stand_part {t} s = stand_still v same (∥∥₁_map s.known (λ k.
        let y = there.ran k.0 k.1 (held_at v level inside k.0 k.2.0) in
        (y.0, y.1, known_part t.frames k.0 k.1 k.2))) s

-- THE CALLS, of parts and of words

-- so many words that were written
pub all_written : (start : ℕ) (vs : List ℕ) (n : ℕ) → n ≡ length vs → (answer : Result (Unit {0}) Fault) (f : Frames)
    (o : ℕ) (acts : List Act) → write o start vs f acts answer f → AreSpared n acts
all_written start vs n many answer f o acts r =
    subst (λ m. AreSpared m acts) (sym many) (write_spared o start vs f f acts answer r)

-- a refusal is no answer, whatever words a call was to answer with
pub no_part : (e : Fault) (answer : Result (Unit {0}) Fault) (vs : List ℕ) → IsErrAnd answer (λ y. y ≡ e)
    → IsErrAnd (part_read answer vs) (λ y. y ≡ e)
no_part e (Ok x) vs given = absurd given
no_part e (Err d) vs given = given

-- the tests of the same kind, and of as many
pub same_tests : {X : Type 0} {x y : X} {answer : Result (Unit {0}) Fault} → x ≡ y → (ts : X → Tests)
    → refused_by (ts x) ≡ answer → refused_by (ts y) ≡ answer
same_tests {answer = answer} same ts refused = subst (λ z. refused_by (ts z) ≡ answer) same refused

-- what may be written is of the kind
pub written_kind : (k l : Kind) (start n m : ℕ) → refused_by (set_part_tests k start n l m) ≡ Ok tt
    → same_element k l ≡ true
written_kind k l start n m passed = go (is_text l) (is_read_as k l) refl refl passed
  where
    go : (t r : Bool) → is_text l ≡ t → is_read_as k l ≡ r
        → refused_by ((t, NotArray) ∷ (not r, WrongElement) ∷ (nat_lt m (start + n), Range) ∷ []) ≡ Ok tt
        → same_element k l ≡ true
    go true r text read bad = absurd cc
    go false false text read bad = absurd cc
    go false true text read good = same_kind_of k l text read
