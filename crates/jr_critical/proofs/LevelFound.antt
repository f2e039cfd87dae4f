-- The object of a new level is found.
use Rattle.std.proofs.Common.{◌≡◌, ℕ, Bool, true, false, ◌<◌, ◌≤◌, nat_le}
use Rattle.std.proofs.Common.{Result, Ok, Err, refl, sym, ap, subst, ◌∙◌, arith}
use Rattle.std.proofs.lemmas.Bool.Decides.{nat_tests}
use Rattle.std.specs.Result.{IsErrAnd}
use Rattle.std.proofs.lemmas.Result.{err_from_is_err_and}
use Rattle.jr_word.specs.declared.fault.Fault.{Fault}
use Rattle.jr_word.specs.declared.fault.Fault.TheVariants.{WrongKind, NotArray, WrongElement, Size}
use Rattle.jr_word.specs.declared.header.HeaderParts.{HeaderParts}
use Rattle.jr_word.specs.declared.kind.Kind.{Kind}
use Rattle.jr_word.specs.declared.kind.Kind.TheVariants as kind
use Rattle.jr_model.specs.declared.frames.TheConstants.{LEVELS}
use Rattle.jr_model.specs.State.{State}
use Rattle.jr_model.specs.History.{PassView, IsLegal}
use Rattle.jr_model.specs.Frames.{Frames}
use Rattle.jr_model.specs.Calls.{Call, Ran, done, for_object, refuse_if, ◌>>=◌}
use Rattle.jr_model.specs.Checks.{Word}
use Rattle.jr_model.proofs.Runs.{ran_done}
use Rattle.jr_steps.specs.declared.known.Known.{Known}
use Rattle.jr_steps.specs.Knowing.{AreOf, Facts, view, state_of}
use Rattle.jr_gate.proofs.Spending.{made_of, spending}
use Rattle.jr_heap.specs.Heap.{Learns}
use Rattle.jr_heap.proofs.KnownHeaders.{steps_keep_headers, calls_keep_headers}
use Rattle.jr_frames.specs.Finding.{FindsBeside}
use Rattle.jr_frames.proofs.FoundObject.{ran_for, ran_found, ran_not_found}
use Rattle.jr_frames.proofs.Reading.{ran_refused, ran_passed}
use Rattle.jr_critical.specs.declared.level.Level.{Level}
use Rattle.jr_critical.specs.declared.level.Wanted.{Wanted}
use Rattle.jr_critical.specs.declared.level.Wanted.TheVariants.{Array, Text}
use Rattle.jr_critical.specs.Finding.{kind_answer, level_checks, level_work, object_found, FindsLevel, LearnsLevel}

-- a test of two numbers
pub no_less : (n i : ℕ) → n ≤ i → nat_le n i ≡ true
no_less n i l = grind (arith, nat_tests)

pub is_less : (n i : ℕ) → i < n → nat_le n i ≡ false
is_less n i l = grind (arith, nat_tests)

-- how the checks end: by the kind's, and then by whether there is room
abbrev pub answer_of : Result (Unit {0}) Fault → Bool → ℕ → Result ℕ Fault
answer_of (Err e) full o = Err e
answer_of (Ok u) true o = Err Size
answer_of (Ok u) false o = Ok o

abbrev pub level_answer : Wanted → Kind → ℕ → ℕ → Result ℕ Fault
level_answer wanted k n o = answer_of (kind_answer wanted k) (nat_le LEVELS n) o

module _ (v : PassView) (f : Frames) (l : IsLegal v.config v.last v.seen) where
  ran_room : (full : Bool) (o : ℕ) → Ran v v f f (refuse_if full Size >>= (λ u. done o)) (answer_of (Ok tt) full o)
  ran_room true o = ran_refused v f true Size (λ u. done o) refl tt l
  ran_room false o = ran_passed false Size (λ u. done o) refl (ran_done v f o l)

  abbrev room : ℕ → ℕ → Call ℕ
  room n o = refuse_if (nat_le LEVELS n) Size >>= (λ u. done o)

  abbrev elements : Bool → ℕ → ℕ → Call ℕ
  elements b n o = refuse_if b WrongElement >>= (λ u. room n o)

  ran_array : (n o : ℕ)
      → Ran v v f f (refuse_if false NotArray >>= (λ u. elements false n o)) (answer_of (Ok tt) (nat_le LEVELS n) o)
  ran_array n o = ran_passed false NotArray (λ u. elements false n o) refl
      (ran_passed false WrongElement (λ u. room n o) refl (ran_room (nat_le LEVELS n) o))

  ran_no_array : (b : Bool) (n o : ℕ) → Ran v v f f (refuse_if true NotArray >>= (λ u. elements b n o)) (Err NotArray)
  ran_no_array b n o = ran_refused v f true NotArray (λ u. elements b n o) refl tt l

  ran_no_text : (n o : ℕ) → Ran v v f f (refuse_if true WrongKind >>= (λ u. room n o)) (Err WrongKind)
  ran_no_text n o = ran_refused v f true WrongKind (λ u. room n o) refl tt l

  -- the checks take no step
  pub ran_level : (wanted : Wanted) (k : Kind) (n o : ℕ)
      → Ran v v f f (level_checks wanted k n o) (level_answer wanted k n o)
  ran_level Array kind.Plain n o = ran_no_array true n o
  ran_level Array kind.Text n o = ran_no_array true n o
  ran_level Array kind.Objects n o = ran_passed false NotArray (λ u. elements true n o) refl
      (ran_refused v f true WrongElement (λ u. room n o) refl tt l)
  ran_level Array _ n o = ran_array n o
  ran_level Text kind.Text n o = ran_passed false WrongKind (λ u. room n o) refl (ran_room (nat_le LEVELS n) o)
  ran_level Text _ n o = ran_no_text n o

-- what a new level asks at the object that a reference names
abbrev next_at : Wanted → ℕ → State → ℕ → Call ℕ
next_at wanted n s o = for_object s o (λ k m. level_checks wanted k n o)

module _ {S : Type 0} {facts : S → Facts} {a b : S} {f : Frames} (w : Word) (wanted : Wanted) (n : ℕ) where
  -- it names no object
  pub level_not_found : {e : Fault} (answer : Result Level Fault) → IsErrAnd answer (λ y. y ≡ e)
      → FindsBeside facts a b f w (Err e) → FindsLevel facts a b f wanted n w answer
  level_not_found {e} answer given p =
      let why = err_from_is_err_and answer given in
      subst (λ (z : Result Level Fault). FindsLevel facts a b f wanted n w z)
      (sym (why.1 ∙ ap (λ (y : Fault). Err y) why.2)) (record {
        stands_is = p.stands_is;
        ran = λ k s m. let x = p.ran k s m in (
          x.0,
          x.1,
          made_of (spending x.2) (ran_not_found (facts a).stands.config (facts a).stands.last (facts a).stands.thread w
              (state_of x.0) e (next_at wanted n (state_of x.0)) x.2.ran),
          (steps_keep_headers.kept k x.0 x.3.0, x.3.1),
        );
      })

  module _ (fits : AreOf facts) {o : ℕ} {h : HeaderParts} (p : FindsBeside facts a b f w (Ok (o, h))) where
    -- it names one, and the checks answer this
    level_checked : (answer : Result Level Fault) → object_found answer ≡ level_answer wanted h.kind n o
        → ((j k : Known) → Learns o h j k → LearnsLevel answer j k) → FindsLevel facts a b f wanted n w answer
    level_checked answer is learns = record {
      stands_is = p.stands_is;
      ran = λ k s m.
          let x = p.ran k s m in
          let ran = ran_for x.0 o h (λ q i. level_checks wanted q n o) x.3.0.0
          (ran_level (view x.0) f (fits b x.0 x.1).legal wanted h.kind n o) in
          let whole = ran_found (facts a).stands.config (facts a).stands.last (facts a).stands.thread w (state_of x.0) o
          h.length h.kind (next_at wanted n (state_of x.0)) x.2.ran ran in (
            x.0,
            x.1,
            made_of (spending x.2) (subst (λ (r : Result ℕ Fault). Ran (view k) (view x.0) f f (level_work wanted (facts
                a).stands.config (facts a).stands.last (facts a).stands.thread (state_of x.0) n w) r) (sym is) whole),
            (learns k x.0 x.3.0, x.3.1),
          );
    }

    pub level_found : kind_answer wanted h.kind ≡ Ok tt → nat_le LEVELS n ≡ false
        → FindsLevel facts a b f wanted n w (Ok (record { object = o; header = h }))
    level_found kinds room = level_checked (Ok (record { object = o; header = h }))
        (sym (ap (λ r. answer_of r (nat_le LEVELS n) o) kinds ∙ ap (λ b. answer_of (Ok tt) b o) room)) (λ j k l. l)

    pub level_too_many : kind_answer wanted h.kind ≡ Ok tt → nat_le LEVELS n ≡ true
        → FindsLevel facts a b f wanted n w (Err Size)
    level_too_many kinds full = level_checked (Err Size)
        (sym (ap (λ r. answer_of r (nat_le LEVELS n) o) kinds ∙ ap (λ b. answer_of (Ok tt) b o) full)) (λ j k l.
        calls_keep_headers.learned j k o h l)

    pub level_of_no_kind : {e : Fault} (answer : Result Level Fault) → IsErrAnd answer (λ y. y ≡ e)
        → kind_answer wanted h.kind ≡ Err e → FindsLevel facts a b f wanted n w answer
    level_of_no_kind {e} answer given kinds =
        let why = err_from_is_err_and answer given in
        subst (λ (z : Result Level Fault). FindsLevel facts a b f wanted n w z)
        (sym (why.1 ∙ ap (λ (y : Fault). Err y) why.2)) (level_checked (Err e)
        (sym (ap (λ r. answer_of r (nat_le LEVELS n) o) kinds)) (λ j k l. calls_keep_headers.learned j k o h l))
