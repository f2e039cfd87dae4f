-- Elements are read and written where the header of their object is known.
use Rattle.std.proofs.Common.{◌≡◌, ◌≢◌, ◌<◌, ◌≤◌, ◌||◌, ℕ, true, false, length}
use Rattle.std.proofs.Common.{Some, [], ◌∷◌, ◌++◌, Result, Ok, Err, refl, ap, ◌∙◌, subst, sym}
use mathlib.Core.Logic.{∥∥₁_map}
use Rattle.std.proofs.Math.Logic.{∥∥₁_elim}
use Rattle.std.proofs.Props.{props}
use Rattle.jr_word.specs.declared.fault.Fault.{Fault}
use Rattle.jr_word.specs.declared.fault.Fault.TheVariants.{NotArray, Range, Value}
use Rattle.jr_word.specs.declared.header.HeaderParts.{HeaderParts}
use Rattle.jr_word.specs.declared.kind.Kind.{Kind}
use Rattle.jr_model.specs.declared.event.Role.TheVariants.{Within}
use Rattle.jr_model.specs.declared.event.Act.{Act}
use Rattle.jr_model.specs.declared.event.Act.TheVariants.{Gate, Read, Write}
use Rattle.jr_model.specs.declared.event.GateAct.TheVariants.{Leave}
use Rattle.jr_model.specs.State.{State, IsWord}
use Rattle.jr_model.specs.History.{by, state, IsLegal, PassView}
use Rattle.jr_model.specs.Frames.{Frames}
use Rattle.jr_model.specs.Refusals.{Grounds}
use Rattle.jr_model.specs.Calls.{Call, act, for_object, some_act}
use Rattle.jr_model.specs.Tests.{Tests, refused_by, tested}
use Rattle.jr_model.proofs.Histories.{legal_push, state_push}
use Rattle.jr_model.proofs.Gates.{apart_state}
use Rattle.jr_model.proofs.Words.{elements_are_words}
use Rattle.jr_model.proofs.Stays.{did_nothing}
use Rattle.jr_model.proofs.Windows.{window_act, window_nothing}
use Rattle.jr_model.specs.Parts.{read_element, read_tests, write_element, write_tests}
use Rattle.jr_model.proofs.Tests.{tests_pass, tests_refuse}
use Rattle.jr_model.specs.Checks.{is_plain, is_text, is_value}
use Rattle.jr_steps.specs.declared.known.Known.{Known}
use Rattle.jr_steps.specs.Knowing.{AreOf, Facts, MayKnow, keeps, view, state_of}
use Rattle.jr_steps.specs.Knowing.{KnowsHeader, IsWordNow, ShowsObject, Goes, Took}
use Rattle.jr_steps.proofs.StepFacts.{goes_did}
use Rattle.jr_heap.specs.Heap.{Called, by_steps, HoldsHeader, LeavesObject, MayBeNamed, ReadsOfKind}
use Rattle.jr_heap.proofs.Calling.{no_step, called_by}
use Rattle.jr_heap.proofs.StayFacts.{kind_in, object_later, header_later}
use Rattle.jr_heap.proofs.Checks.{beyond, inside, word_is, value_is}

-- an element that was read is a word of its object's kind
pub read_word : {k k' : Known} (o i v : ℕ) (h : HeaderParts) → Goes k (Read o i v ∷ []) k' → ShowsObject o h k'
    → IsWordNow h.kind v k'
read_word {k} {k'} o i v h g shown =
    let before = k.seen ++ g.between in
    let e = by k.thread (Read o i v) in
    let legal = (legal_push k.config k.last before e).0 (subst (IsLegal k.config k.last) g.seen g.legal) in
    let needs = legal.1.1 in
    let same : state before ≡ state_of k' = sym (ap state g.seen ∙ state_push before e) in
    let there : Some needs.1 ≡ Some shown.contents = sym needs.2 ∙ (ap (λ (s : State). s.objects o) same ∙ shown.is) in
    let word : IsWord (state before) needs.1.kind v
    = elements_are_words k.config k.last before o needs.1 legal.0 needs.2
    (λ is t collects. (apart_state k.config k.last before legal.0).apart t k.thread collects needs.0) i v needs.3 in
    let kinds : needs.1.kind ≡ h.kind = ap kind_in there ∙ shown.says.kind in
    subst (λ s. IsWord s h.kind v) same (subst (λ kind. IsWord (state before) kind v) kinds word)

-- what a read leaves and shows
abbrev Finds : ℕ → HeaderParts → Result ℕ Fault → Known → Known → Type 0
Finds o h answer j k = LeavesObject o h j k × ReadsOfKind h.kind answer k

module _ {S : Type 0} {facts : S → Facts} (fits : AreOf facts) (o : ℕ) (h : HeaderParts) (i : ℕ) where
  -- a refusal by tests of the object, before any act
  refused : {A : Type 0} (a : S) (ts : Kind → ℕ → Tests) (next : Call A) (e : Fault) (met : Known → Type 0)
      (shows : Known → Known → Type 0) → ((k : Known) → LeavesObject o h k k → shows k k)
      → ((k : Known) → met k → HoldsHeader o h k) → ((p : PassView) → Grounds p.seen p e)
      → refused_by (ts h.kind h.length) ≡ Err e
      → Called facts a a met (λ j k. for_object (state_of k) o (λ l n. tested (ts l n) next)) (Err e) (by_steps 0 shows)
  refused a ts next e met shows leaves holds grounds is = called_by refl (λ k s m. let x = (holds k m).shown in (
    k,
    s,
    [],
    record {
      did = did_nothing (view k) (fits a k s).legal;
      is = λ f. (
        x.contents,
        x.is,
        tests_refuse (ts x.contents.kind (length x.contents.words)) next f
            (ap (λ l. refused_by (ts l (length x.contents.words))) x.says.kind
            ∙ (ap (λ n. refused_by (ts h.kind n)) x.says.long ∙ is)),
      );
      window = window_nothing (view k);
      grounds = grounds (view k);
      shows = (leaves k (x, refl), no_step k);
    },
  ))

  pub read_plain : (a : S) → is_plain h.kind ≡ true
      → Called facts a a (HoldsHeader o h) (λ j k. read_element (state_of k) o i) (Err NotArray) (by_steps 0
      (Finds o h (Err NotArray)))
  read_plain a plain = refused a (read_tests i) (some_act (Read o i)) NotArray (HoldsHeader o h)
      (Finds o h (Err NotArray)) (λ k l. (l, tt)) (λ k m. m) (λ p. tt) (rw plain refl)

  pub read_beyond : (a : S) → is_plain h.kind ≡ false → h.length ≤ i
      → Called facts a a (HoldsHeader o h) (λ j k. read_element (state_of k) o i) (Err Range) (by_steps 0
      (Finds o h (Err Range)))
  read_beyond a plain l = refused a (read_tests i) (some_act (Read o i)) Range (HoldsHeader o h)
      (Finds o h (Err Range)) (λ k l. (l, tt)) (λ k m. m) (λ p. tt) (rw (plain, beyond h.length i l) refl)

  pub read_found : {a b : S} (v : ℕ) → (facts a).stands.role ≡ Within → is_plain h.kind ≡ false → i < h.length
      → Took facts a b (Read o i v ∷ []) (KnowsHeader o h) keeps
      → Called facts a b (HoldsHeader o h) (λ j k. read_element (state_of k) o i) (Ok v) (by_steps 1 (Finds o h (Ok v)))
  read_found {a} v w plain l t = called_by t.hint_is (λ k s m.
      let g = t.goes k s m.known in
      let d = goes_did g.2 in
      let x = object_later k g.0 (Read o i v ∷ []) d ((fits a k s).role ∙ w) ((λ e. cc), tt) o h m.shown in
      let is : (f : Frames) → read_element (state_of g.0) o i f (Read o i v ∷ []) (Ok v) f = λ f. (
        x.contents,
        x.is,
        tests_pass (read_tests i x.contents.kind (length x.contents.words)) (some_act (Read o i)) f f
            (Read o i v ∷ []) (Ok v) (rw (x.says.kind, x.says.long, plain, inside h.length i l) refl)
            (v, refl, refl, refl),
      ) in (
        g.0,
        g.1,
        Read o i v ∷ [],
        record {
          did = d;
          is = is;
          window = window_act (Read o i v) d tt tt;
          grounds = tt;
          shows = (((x, g.3), read_word o i v h g.2 x), g.2.taken);
        },
      ))

  -- its word has the bits of the kind
  pub read_value : {a b : S} (v : ℕ) → (facts a).stands.role ≡ Within → MayKnow facts a (HoldsHeader o h)
      → Took facts a b (Read o i v ∷ []) (KnowsHeader o h) keeps → is_value h.kind v ≡ true
  read_value {a} v w may t = ∥∥₁_elim may (hlevel props) (λ k.
      let g = t.goes k.0 k.1 k.2.known in
      let x =
      object_later k.0 g.0 (Read o i v ∷ []) (goes_did g.2) ((fits a k.0 k.1).role ∙ w) ((λ e. cc), tt) o h k.2.shown in
      value_is (state_of g.0) h.kind v (read_word o i v h g.2 x))

-- what a write may be given: the header is known, and the word names no absent object
abbrev pub MayWrite : ℕ → HeaderParts → ℕ → Known → Type 0
MayWrite o h v k = HoldsHeader o h k × MayBeNamed h.kind v k

-- then the word may be an element of the object
pub may_write : {S : Type 0} (facts : S → Facts) (a : S) (o : ℕ) (h : HeaderParts) (v : ℕ) → is_value h.kind v ≡ true
    → MayKnow facts a (MayWrite o h v) → MayKnow facts a (λ k. KnowsHeader o h k × IsWordNow h.kind v k)
may_write facts a o h v good may =
    ∥∥₁_map may (λ k. (k.0, k.1, (k.2.0.known, word_is (state_of k.0) h.kind v good k.2.1)))

module _ {S : Type 0} {facts : S → Facts} (fits : AreOf facts) (o : ℕ) (h : HeaderParts) (i v : ℕ) where
  pub write_no_array : (a : S) → (is_plain h.kind || is_text h.kind) ≡ true
      → Called facts a a (MayWrite o h v) (λ j k. write_element (state_of k) o i v) (Err NotArray) (by_steps 0
      (LeavesObject o h))
  write_no_array a plain = refused fits o h i a (write_tests i v) (act (Write o i v)) NotArray (MayWrite o h v)
      (LeavesObject o h) (λ k l. l) (λ k m. m.0) (λ p. tt) (rw plain refl)

  pub write_beyond : (a : S) → (is_plain h.kind || is_text h.kind) ≡ false → h.length ≤ i
      → Called facts a a (MayWrite o h v) (λ j k. write_element (state_of k) o i v) (Err Range) (by_steps 0
      (LeavesObject o h))
  write_beyond a plain l = refused fits o h i a (write_tests i v) (act (Write o i v)) Range (MayWrite o h v)
      (LeavesObject o h) (λ k l. l) (λ k m. m.0) (λ p. tt) (rw (plain, beyond h.length i l) refl)

  pub write_value : (a : S) → (is_plain h.kind || is_text h.kind) ≡ false → i < h.length → is_value h.kind v ≡ false
      → Called facts a a (MayWrite o h v) (λ j k. write_element (state_of k) o i v) (Err Value) (by_steps 0
      (LeavesObject o h))
  write_value a plain l bad = refused fits o h i a (write_tests i v) (act (Write o i v)) Value (MayWrite o h v)
      (LeavesObject o h) (λ k l. l) (λ k m. m.0) (λ p. tt) (rw (plain, inside h.length i l, bad) refl)

  pub write_stored : {a b : S} → (facts a).stands.role ≡ Within → (is_plain h.kind || is_text h.kind) ≡ false
      → i < h.length → is_value h.kind v ≡ true
      → Took facts a b (Write o i v ∷ []) (λ k. KnowsHeader o h k × IsWordNow h.kind v k) keeps
      → Called facts a b (MayWrite o h v) (λ j k. write_element (state_of k) o i v) (Ok tt) (by_steps 1
      (LeavesObject o h))
  write_stored {a} w plain l good t = called_by t.hint_is (λ k s m.
      let g = t.goes k s (m.0.known, word_is (state_of k) h.kind v good m.1) in
      let d = goes_did g.2 in
      let x = object_later k g.0 (Write o i v ∷ []) d ((fits a k s).role ∙ w) ((λ e. cc), tt) o h m.0.shown in
      let is : (f : Frames) → write_element (state_of g.0) o i v f (Write o i v ∷ []) (Ok tt) f
      = λ f. (
        x.contents,
        x.is,
        tests_pass (write_tests i v x.contents.kind (length x.contents.words)) (act (Write o i v)) f f
            (Write o i v ∷ []) (Ok tt) (rw (x.says.kind, x.says.long, plain, inside h.length i l, good) refl)
            (refl, refl, refl),
      ) in (
        g.0,
        g.1,
        Write o i v ∷ [],
        record {
          did = d;
          is = is;
          window = window_act (Write o i v) d tt tt;
          grounds = tt;
          shows = ((x, g.3), g.2.taken);
        },
      ))

-- what may be known after a step at an element
module _ {S : Type 0} {facts : S → Facts} (fits : AreOf facts) (o : ℕ) (h : HeaderParts) {a b : S} {x : Act}
    {met : Known → Type 0} where
  pub still_holds : x ≢ Gate Leave → (facts a).stands.role ≡ Within → Took facts a b (x ∷ []) met keeps
      → MayKnow facts a (λ k. HoldsHeader o h k × met k) → MayKnow facts b (HoldsHeader o h)
  still_holds ne w t may = ∥∥₁_map may (λ k. let g = t.goes k.0 k.1 k.2.1 in
      (g.0, g.1, header_later k.0 g.0 (x ∷ []) (goes_did g.2) ((fits a k.0 k.1).role ∙ w) (ne, tt) o h g.3 k.2.0))
