-- An element of a level's object is read or written, or not.
use Rattle.std.proofs.Common.{◌≡◌, ◌<◌, ◌≤◌, ℕ, Bool, true, false, length, [], ◌∷◌, Ok, Err, refl, sym, ap, subst, ◌∙◌}
use mathlib.Core.Logic.{∥∥₁_map}
use Rattle.jr_word.specs.declared.fault.Fault.TheVariants.{NotArray, WrongElement, Range}
use Rattle.jr_word.specs.declared.kind.Kind.{Kind}
use Rattle.jr_word.specs.Kind.{word_limit}
use Rattle.jr_model.specs.declared.event.Role.TheVariants.{Within}
use Rattle.jr_model.specs.declared.event.Act.TheVariants.{Read, Write}
use Rattle.jr_model.specs.Frames.{Frames}
use Rattle.jr_model.specs.Calls.{act, for_object, some_act}
use Rattle.jr_model.specs.CallPrograms.{get_tests, set_tests}
use Rattle.jr_model.proofs.Runs.{ran_act, ran_some_act}
use Rattle.jr_model.proofs.Tests.{ran_stopped, ran_tested}
use Rattle.jr_model.specs.Checks.{is_read_as, is_text}
use Rattle.jr_steps.specs.declared.known.Known.{Known}
use Rattle.jr_steps.specs.Knowing.{AreOf, Facts, MayKnow, keeps, IsWordNow, KnowsHeader, Took}
use Rattle.jr_gate.specs.Performing.{Performed}
use Rattle.jr_heap.proofs.Parts.{stored_word}
use Rattle.jr_frames.specs.Table.{Table}
use Rattle.jr_critical.specs.declared.level.Level.{Level}
use Rattle.jr_critical.specs.declared.levels.Levels.{Levels}
use Rattle.jr_critical.specs.Levels.{KnowsLevels, Stand, level_at, objects_of}
use Rattle.jr_critical.proofs.LevelFound.{is_less, no_less}
use Rattle.jr_critical.proofs.Reaching.{get_work, h_of, may_at, o_of, reaches, reaches_not, same_kind_of, set_work}
use Rattle.jr_critical.proofs.Reaching.{stand_reached, word_fits}

module _ (v : Levels) (level : ℕ) {x : Level} (is : x ≡ level_at v level) where
  -- what is known of the level that was read, at the level itself
  read_as : {k kind : Kind} {b : Bool} → k ≡ kind → is_read_as k x.header.kind ≡ b
      → is_read_as kind (h_of v level).kind ≡ b
  read_as {k} same e = ap (λ z. is_read_as z (h_of v level).kind) (sym same)
      ∙ (ap (λ (l : Level). is_read_as k l.header.kind) (sym is) ∙ e)

  text_is : {b : Bool} → is_text x.header.kind ≡ b → is_text (h_of v level).kind ≡ b
  text_is e = ap (λ (l : Level). is_text l.header.kind) (sym is) ∙ e

  past : (i : ℕ) → x.header.length ≤ i → (h_of v level).length ≤ i
  past i l = subst (λ (y : Level). y.header.length ≤ i) is l

  there : (i : ℕ) → i < x.header.length → i < (h_of v level).length
  there i l = subst (λ (y : Level). i < y.header.length) is l

  -- the word may be stored
  may_store : {k kind : Kind} → k ≡ kind → (w word : ℕ) → w ≡ word → word < word_limit kind
      → is_text x.header.kind ≡ false → is_read_as k x.header.kind ≡ true → (j : Known)
      → IsWordNow (h_of v level).kind w j
  may_store {kind = kind} same w word one below none e j = stored_word kind (h_of v level).kind w word
      (same_kind_of kind (h_of v level).kind (text_is none) (read_as same e)) one below j

module _ {S : Type 0} {facts : S → Facts} (fits : AreOf facts) (v : Levels) (level : ℕ)
    (inside : level < length (objects_of v)) {x : Level} (is : x ≡ level_at v level) (i : ℕ) {k kind : Kind}
    (same : k ≡ kind) where
  pub may_reach : {a : S} {t : Table} → Stand facts v a t → MayKnow facts a (KnowsHeader x.object x.header)
  may_reach {a} s =
      subst (λ (l : Level). MayKnow facts a (KnowsHeader l.object l.header)) (sym is) (may_at fits v level inside s)

  module _ (a : S) (f : Frames) where
    pub gets_other : is_read_as k x.header.kind ≡ false → Performed facts a a f f 0 (KnowsLevels v f) (λ s. for_object s
        (o_of v level) (get_work kind (o_of v level) i)) (Err WrongElement) (λ j k. keeps j k × KnowsLevels v f k)
    gets_other e = reaches_not fits v level inside a f (get_work kind (o_of v level) i) (Err WrongElement) (λ p l.
        ran_stopped p f (get_tests kind i (h_of v level).kind (h_of v level).length) (some_act (Read (o_of v level) i))
        (refl, (refl, tt)) (rw (read_as v level is same e) refl) l)

    pub gets_past : is_read_as k x.header.kind ≡ true → x.header.length ≤ i
        → Performed facts a a f f 0 (KnowsLevels v f) (λ s.
        for_object s (o_of v level) (get_work kind (o_of v level) i)) (Err Range) (λ j k. keeps j k × KnowsLevels v f k)
    gets_past e far = reaches_not fits v level inside a f (get_work kind (o_of v level) i) (Err Range) (λ p l.
        ran_stopped p f (get_tests kind i (h_of v level).kind (h_of v level).length) (some_act (Read (o_of v level) i))
        (refl, (refl, tt))
        (rw (read_as v level is same e, no_less (h_of v level).length i (past v level is i far)) refl) l)

    module _ (w : ℕ) where
      pub sets_text : is_text x.header.kind ≡ true → Performed facts a a f f 0 (KnowsLevels v f) (λ s. for_object s
          (o_of v level) (set_work kind (o_of v level) i w)) (Err NotArray) (λ j k. keeps j k × KnowsLevels v f k)
      sets_text t = reaches_not fits v level inside a f (set_work kind (o_of v level) i w) (Err NotArray) (λ p l.
          ran_stopped p f (set_tests kind i (h_of v level).kind (h_of v level).length) (act (Write (o_of v level) i w))
          (refl, (refl, (refl, tt))) (rw (text_is v level is t) refl) l)

      pub sets_other : is_text x.header.kind ≡ false → is_read_as k x.header.kind ≡ false
          → Performed facts a a f f 0 (KnowsLevels v f) (λ s. for_object s (o_of v level)
          (set_work kind (o_of v level) i w)) (Err WrongElement) (λ j k. keeps j k × KnowsLevels v f k)
      sets_other t e = reaches_not fits v level inside a f (set_work kind (o_of v level) i w) (Err WrongElement) (λ p l.
          ran_stopped p f (set_tests kind i (h_of v level).kind (h_of v level).length) (act (Write (o_of v level) i w))
          (refl, (refl, (refl, tt))) (rw (text_is v level is t, read_as v level is same e) refl) l)

      pub sets_past : is_text x.header.kind ≡ false → is_read_as k x.header.kind ≡ true → x.header.length ≤ i
          → Performed facts a a f f 0 (KnowsLevels v f) (λ s. for_object s (o_of v level)
          (set_work kind (o_of v level) i w)) (Err Range) (λ j k. keeps j k × KnowsLevels v f k)
      sets_past t e far = reaches_not fits v level inside a f (set_work kind (o_of v level) i w) (Err Range) (λ p l.
          ran_stopped p f (set_tests kind i (h_of v level).kind (h_of v level).length) (act (Write (o_of v level) i w))
          (refl, (refl, (refl, tt))) (rw (
            text_is v level is t,
            read_as v level is same e,
            no_less (h_of v level).length i (past v level is i far),
          ) refl) l)

  module _ {a b : S} {w : ℕ}
      (took : Took facts a b (Read x.object i w ∷ []) (KnowsHeader x.object x.header) keeps) where
    read_there : Took facts a b (Read (o_of v level) i w ∷ []) (KnowsHeader (o_of v level) (h_of v level)) keeps
    read_there =
        subst (λ (l : Level). Took facts a b (Read l.object i w ∷ []) (KnowsHeader l.object l.header) keeps) is took

    pub gets : (f : Frames) (word : ℕ) → (facts a).stands.role ≡ Within → is_read_as k x.header.kind ≡ true
        → i < x.header.length → w ≡ word
        → Performed facts a b f f 0 (KnowsLevels v f) (λ s.
        for_object s (o_of v level) (get_work kind (o_of v level) i)) (Ok word) (λ j k. keeps j k × KnowsLevels v f k)
    gets f word within e near one = subst (λ n. Performed facts a b f f 0 (KnowsLevels v f) (λ s.
        for_object s (o_of v level) (get_work kind (o_of v level) i)) (Ok n) (λ j k. keeps j k × KnowsLevels v f k)) one
        (reaches fits v level inside (λ k m. m.known) read_there (λ e. cc) refl refl within (λ n i. refl) f
        (get_work kind (o_of v level) i) (Ok w)
        (λ p q d. ran_tested (get_tests kind i (h_of v level).kind (h_of v level).length)
        (some_act (Read (o_of v level) i))
        (rw (read_as v level is same e, is_less (h_of v level).length i (there v level is i near)) refl)
        (ran_some_act f (λ n. Read (o_of v level) i n) w tt tt d)))

    pub stand_got : {t : Table} → Stand facts v a t → Stand facts v b t
    stand_got s = stand_reached fits v level inside (λ k m. m.known) read_there (λ e. cc) refl refl s.ready.role_is s

    pub got_fits : {t : Table} → is_read_as k x.header.kind ≡ true → Stand facts v a t → w < word_limit kind
    got_fits e s = word_fits fits v level inside kind i w (read_as v level is same e) s read_there

  -- the word to be stored
  module _ (w word : ℕ) (one : w ≡ word) (below : word < word_limit kind) (none : is_text x.header.kind ≡ false)
      (e : is_read_as k x.header.kind ≡ true) where
    pub may_write : {a : S} {t : Table} → Stand facts v a t
        → MayKnow facts a (λ k. KnowsHeader x.object x.header k × IsWordNow x.header.kind w k)
    may_write {a} s =
        subst (λ (l : Level). MayKnow facts a (λ k. KnowsHeader l.object l.header k × IsWordNow l.header.kind w k))
        (sym is) (∥∥₁_map (may_at fits v level inside s) (λ k.
        (k.0, k.1, (k.2, may_store v level is same w word one below none e k.0))))

    module _ {a b : S} (took : Took facts a b (Write x.object i w ∷ [])
        (λ k. KnowsHeader x.object x.header k × IsWordNow x.header.kind w k) keeps) where
      written_there : Took facts a b (Write (o_of v level) i w ∷ [])
          (λ k. KnowsHeader (o_of v level) (h_of v level) k × IsWordNow (h_of v level).kind w k) keeps
      written_there = subst (λ (l : Level). Took facts a b (Write l.object i w ∷ [])
          (λ k. KnowsHeader l.object l.header k × IsWordNow l.header.kind w k) keeps) is took

      pub sets : (f : Frames) → (facts a).stands.role ≡ Within → i < x.header.length
          → Performed facts a b f f 0 (KnowsLevels v f) (λ s. for_object s (o_of v level)
          (set_work kind (o_of v level) i word)) (Ok tt) (λ j k. keeps j k × KnowsLevels v f k)
      sets f within near = subst (λ n. Performed facts a b f f 0 (KnowsLevels v f) (λ s. for_object s (o_of v level)
          (set_work kind (o_of v level) i n)) (Ok tt) (λ j k. keeps j k × KnowsLevels v f k)) one
          (reaches fits v level inside (λ k m. (m.known, may_store v level is same w word one below none e k))
          written_there (λ e. cc) refl refl within (λ n i. refl) f (set_work kind (o_of v level) i w) (Ok tt)
          (λ p q d.
          ran_tested (set_tests kind i (h_of v level).kind (h_of v level).length) (act (Write (o_of v level) i w))
          (rw (
            text_is v level is none,
            read_as v level is same e,
            is_less (h_of v level).length i (there v level is i near),
          ) refl)
          (ran_act f (Write (o_of v level) i w) tt tt d)))

      pub stand_set : {t : Table} → Stand facts v a t → Stand facts v b t
      stand_set s =
          stand_reached fits v level inside (λ k m. (m.known, may_store v level is same w word one below none e k))
          written_there (λ e. cc) refl refl s.ready.role_is s
