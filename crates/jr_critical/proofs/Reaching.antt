-- Calls at an element of a level's object.
use Rattle.std.proofs.Common.{◌≡◌, ◌≢◌, ◌<◌, ℕ, true, false, length}
use Rattle.std.proofs.Common.{[], ◌∷◌, Result, Ok, refl, sym, ap, ◌∙◌}
use Rattle.std.proofs.Math.Logic.{∥∥₁_elim}
use Rattle.std.proofs.Props.{props}
use mathlib.Core.Logic.{∥∥₁_map}
use Rattle.jr_word.specs.declared.fault.Fault.{Fault}
use Rattle.jr_word.specs.declared.header.HeaderParts.{HeaderParts}
use Rattle.jr_word.specs.declared.kind.Kind.{Kind}
use Rattle.jr_word.specs.declared.kind.Kind.TheVariants as kind
use Rattle.jr_word.specs.Kind.{word_limit}
use Rattle.jr_model.specs.declared.event.Role.TheVariants.{Within}
use Rattle.jr_model.specs.declared.event.Act.{Act}
use Rattle.jr_model.specs.declared.event.Act.TheVariants.{Gate, Read, Write}
use Rattle.jr_model.specs.declared.event.GateAct.TheVariants.{Leave}
use Rattle.jr_model.specs.History.{PassView, IsLegal, Did}
use Rattle.jr_model.specs.Frames.{Frames}
use Rattle.jr_model.specs.Calls.{Call, Ran, act, for_object, some_act}
use Rattle.jr_model.specs.Checks.{is_read_as, is_text, same_element}
use Rattle.jr_model.specs.Tests.{tested}
use Rattle.jr_model.specs.CallPrograms.{get_tests, set_tests}
use Rattle.jr_model.proofs.Agreement.{spares_places}
use Rattle.jr_steps.specs.declared.known.Known.{Known}
use Rattle.jr_steps.specs.Knowing.{AreOf, Facts, MayKnow, Standing, keeps, view}
use Rattle.jr_steps.specs.Knowing.{state_of, standing_after, KnowsHeader, Took}
use Rattle.jr_steps.proofs.StepFacts.{goes_did}
use Rattle.jr_gate.specs.Performing.{Performed}
use Rattle.jr_gate.proofs.SameRoom.{as_before, nothing_changed}
use Rattle.jr_gate.proofs.Spending.{KeepsHint, made_of, spend_none, spend_step}
use Rattle.jr_heap.specs.Heap.{HoldsHeader}
use Rattle.jr_heap.proofs.Elements.{read_word}
use Rattle.jr_heap.proofs.KnownHeaders.{steps_keep_headers}
use Rattle.jr_heap.proofs.Parts.{read_below}
use Rattle.jr_heap.proofs.StayFacts.{object_later}
use Rattle.jr_frames.specs.Table.{Table}
use Rattle.jr_frames.proofs.FoundObject.{ran_for}
use Rattle.jr_frames.proofs.FramesAgree.{holds_did}
use Rattle.jr_critical.specs.declared.levels.Levels.{Levels}
use Rattle.jr_critical.specs.Levels.{AreKnown, KnowsLevels, Stand, TellsKind, TellsLength, level_at, objects_of}
use Rattle.jr_critical.proofs.KnownLevels.{is_level, known_at, known_later}

-- KIND AND LENGTH

pub tells_kind : (v : Levels) (i : ℕ) → i < length (objects_of v) → TellsKind v i (level_at v i).header.kind
tells_kind v i l c last t k f known =
    let x = (known_at v.levels.items i k (is_level v i l) known).shown in
    (x.contents, x.is, (refl, ap (λ (q : Kind). Ok q) (sym x.says.kind), refl))

pub tells_length : (v : Levels) (i : ℕ) → i < length (objects_of v) → TellsLength v i (level_at v i).header.length
tells_length v i l c last t k f known =
    let x = (known_at v.levels.items i k (is_level v i l) known).shown in
    (x.contents, x.is, (refl, ap (λ (n : ℕ). Ok n) (sym x.says.long), refl))

-- CHECKS

abbrev pub get_work : Kind → ℕ → ℕ → Kind → ℕ → Call ℕ
get_work k o i l n = tested (get_tests k i l n) (some_act (Read o i))

abbrev pub set_work : Kind → ℕ → ℕ → ℕ → Kind → ℕ → Call (Unit {0})
set_work k o i v l n = tested (set_tests k i l n) (act (Write o i v))

-- an object that is read as an element's kind, and is no string, has elements of that kind
pub same_kind_of : (k l : Kind) → is_text l ≡ false → is_read_as k l ≡ true → same_element k l ≡ true
same_kind_of kind.Char kind.Text t e = absurd cc
same_kind_of kind.Char kind.Char t e = e
same_kind_of kind.Char _ t e = absurd cc
same_kind_of _ l t e = e

-- THE STEPS

-- the level's object and its header
abbrev pub o_of : Levels → ℕ → ℕ
o_of v level = (level_at v level).object

abbrev pub h_of : Levels → ℕ → HeaderParts
h_of v level = (level_at v level).header

pub held_at : (v : Levels) (level : ℕ) → level < length (objects_of v) → (k : Known) → AreKnown v.levels.items k
    → HoldsHeader (o_of v level) (h_of v level) k
held_at v level inside k known = known_at v.levels.items level k (is_level v level inside) known

-- the levels stand, where the thread stands as before and knows their headers
pub stand_still : {S : Type 0} {facts : S → Facts} (v : Levels) {a b : S} {t : Table}
    → (facts b).stands ≡ (facts a).stands → MayKnow facts b (KnowsLevels v t.frames) → Stand facts v a t
    → Stand facts v b t
stand_still v now known s = record {
  stay = (s.stay.0 ∙ sym (ap (λ (z : Standing). z.thread) now), ap (λ (z : Standing). z.role) now ∙ s.stay.1);
  ready = record {
    role_is = ap (λ (z : Standing). z.role) now ∙ s.ready.role_is;
    spent = ap (λ (z : Standing). z.fresh) now ∙ s.ready.spent;
    own = record {
      owner = s.ready.own.owner ∙ sym (ap (λ (z : Standing). z.thread) now);
      last = s.ready.own.last ∙ sym (ap (λ (z : Standing). z.last) now);
      places = s.ready.own.places ∙ sym (ap (λ (z : Standing). z.config.locals) now);
      agrees = ∥∥₁_map known (λ k. (k.0, k.1, k.2.1));
    };
  };
  some = s.some;
  known = known;
}

module _ {S : Type 0} {facts : S → Facts} (fits : AreOf facts) (v : Levels) (level : ℕ) where
  module _ (inside : level < length (objects_of v)) where
    pub may_at : {a : S} {t : Table} → Stand facts v a t → MayKnow facts a (KnowsHeader (o_of v level) (h_of v level))
    may_at s = ∥∥₁_map s.known (λ k. (k.0, k.1, (held_at v level inside k.0 k.2.0).known))

    -- a refusal, by no step
    pub reaches_not : {A : Type 0} (a : S) (f : Frames) (next : Kind → ℕ → Call A) (answer : Result A Fault)
        → ((p : PassView) → IsLegal p.config p.last p.seen
        → Ran p p f f (next (h_of v level).kind (h_of v level).length) answer)
        → Performed facts a a f f 0 (KnowsLevels v f) (λ s. for_object s (o_of v level) next) answer (λ j k. keeps j k
        × KnowsLevels v f k)
    reaches_not a f next answer each = record {
      stands_is = nothing_changed;
      ran = λ k s m. let l = (fits a k s).legal in (
        k,
        s,
        made_of (spend_none (facts a) k f f l)
            (ran_for k (o_of v level) (h_of v level) next (held_at v level inside k m.0).shown (each (view k) l)),
        (refl, m),
      );
    }

    module _ {a b : S} {x : Act} {met : Known → Type 0}
        (meets : (k : Known) → HoldsHeader (o_of v level) (h_of v level) k → met k)
        (took : Took facts a b (x ∷ []) met keeps) (stays : x ≢ Gate Leave) (spares : spares_places x ≡ true)
        (same : standing_after (facts a).stands (x ∷ []) ≡ (facts a).stands)
        (within : (facts a).stands.role ≡ Within) where
      -- one step at an element, for one thing that was known
      known_reached : (f : Frames) (k : Known) (s : (facts a).knows k) (m : KnowsLevels v f k)
          → KnowsLevels v f (took.goes k s (meets k (held_at v level inside k m.0))).0
      known_reached f k s m =
          let y = took.goes k s (meets k (held_at v level inside k m.0)) in
          let d = goes_did y.2 in (
            known_later v.levels.items k y.0 (x ∷ []) d ((fits a k s).role ∙ within) (stays, tt)
                (steps_keep_headers.kept k y.0 y.3) m.0,
            holds_did k y.0 f (x ∷ []) d (spares, tt) m.1,
          )

      pub reaches : {A : Type 0} → KeepsHint x → (f : Frames) (next : Kind → ℕ → Call A) (answer : Result A Fault)
          → ((p q : PassView) → Did p q (x ∷ []) → Ran p q f f (next (h_of v level).kind (h_of v level).length) answer)
          → Performed facts a b f f 0 (KnowsLevels v f) (λ s. for_object s (o_of v level) next) answer (λ j k. keeps j k
          × KnowsLevels v f k)
      reaches hint f next answer each = record {
        stands_is = as_before _ (took.stands_is ∙ same);
        ran = λ k s m.
            let y = took.goes k s (meets k (held_at v level inside k m.0)) in
            let r = known_reached f k s m in (
              y.0,
              y.1,
              made_of (spend_step took hint k s (meets k (held_at v level inside k m.0)) f f)
                  (ran_for y.0 (o_of v level) (h_of v level) next (held_at v level inside y.0 r.0).shown
                  (each (view k) (view y.0) (goes_did y.2))),
              (y.3, r),
            );
      }

      -- the levels stand still
      pub stand_reached : {t : Table} → Stand facts v a t → Stand facts v b t
      stand_reached {t} s = stand_still v (took.stands_is ∙ same)
          (∥∥₁_map s.known (λ k. let y = took.goes k.0 k.1 (meets k.0 (held_at v level inside k.0 k.2.0)) in
          (y.0, y.1, known_reached t.frames k.0 k.1 k.2))) s

    -- the word that was read has the bits of the kind
    pub word_fits : {a b : S} {t : Table} (k : Kind) (i x : ℕ) → is_read_as k (h_of v level).kind ≡ true
        → Stand facts v a t
        → Took facts a b (Read (o_of v level) i x ∷ []) (KnowsHeader (o_of v level) (h_of v level)) keeps
        → x < word_limit k
    word_fits {a} k i x e s took = ∥∥₁_elim s.known (hlevel props) (λ z.
        let m = held_at v level inside z.0 z.2.0 in
        let y = took.goes z.0 z.1 m.known in
        let shown = object_later z.0 y.0 (Read (o_of v level) i x ∷ []) (goes_did y.2)
        ((fits a z.0 z.1).role ∙ s.ready.role_is) ((λ e. cc), tt) (o_of v level) (h_of v level) m.shown in
        read_below (state_of y.0) k (h_of v level).kind x e (read_word (o_of v level) i x (h_of v level) y.2 shown))
