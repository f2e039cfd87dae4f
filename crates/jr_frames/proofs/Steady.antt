-- Calls that name a state by the kinds and the lengths of its objects alone.
use Rattle.std.proofs.Common.{◌≡◌, ℕ, Option, Some, List, [], ◌∷◌, length, inl, inr, Result, sym, subst}
use Rattle.jr_word.specs.declared.config.Config.{Config}
use Rattle.jr_word.specs.declared.fault.Fault.{Fault}
use Rattle.jr_word.specs.declared.kind.Kind.{Kind}
use Rattle.jr_model.specs.State.{Contents, State}
use Rattle.jr_model.specs.declared.event.Act.{Act}
use Rattle.jr_model.specs.declared.event.Act.TheVariants.{Read}
use Rattle.jr_model.specs.Frames.{Frames}
use Rattle.jr_model.specs.Calls.{Call, for_object, refuse_if, some_act, ◌>>=◌}
use Rattle.jr_model.specs.Checks.{Word, object_of_word}
use Rattle.jr_model.specs.Tests.{Tests, tested}
use Rattle.jr_model.specs.Parts.{not_null}
use Rattle.jr_model.specs.References.{resolved, resolved_both}
use Rattle.jr_model.specs.Programs.{AnswerKind, Which, one, other, at_both, set_known, Program, ends, names}
use Rattle.jr_model.specs.Programs.{names_both, wants, looks, tests, finds, call_of}

-- each object that is present in the one state is present in the other, of the same kind and length
abbrev pub KeepsObjects : State → State → Type 0
KeepsObjects s s' = (o : ℕ) (x : Contents) → s.objects o ≡ Some x
    → (y : Contents) × (s'.objects o ≡ Some y) × (y.kind ≡ x.kind) × (length y.words ≡ length x.words)

-- what was a call for the one state is the same for each other that keeps its objects
abbrev pub IsSteady : {A : Type 0} → (State → Call A) → Type 0
IsSteady {A} call = (s s' : State) → KeepsObjects s s' → (f g : Frames) (acts : List Act) (answer : Result A Fault)
    → call s f acts answer g → call s' f acts answer g

-- a call that names no state
steady_same : {A : Type 0} (call : Call A) → IsSteady (λ s. call)
steady_same call s s' keeps f g acts answer is = is

-- what follows for the kind and the length of an object
steady_looks : {A : Type 0} (o : ℕ) (next : State → Kind → ℕ → Call A)
    → ((k : Kind) (n : ℕ) → IsSteady (λ s. next s k n)) → IsSteady (λ s. for_object s o (next s))
steady_looks o next each s s' keeps f g acts answer is =
    let y = keeps o is.0 is.1 in (
      y.0,
      y.1,
      subst (λ k. next s' k (length y.0.words) f acts answer g) (sym y.2)
          (subst (λ n. next s' is.0.kind n f acts answer g) (sym y.3)
          (each is.0.kind (length is.0.words) s s' keeps f g acts answer is.2)),
    )

-- one call and then the other
steady_then : {A B : Type 0} (first : State → Call A) (next : State → A → Call B) → IsSteady first
    → ((x : A) → IsSteady (λ s. next s x)) → IsSteady (λ s. first s >>= next s)
steady_then first next before each s s' keeps f g acts answer (inl y) =
    inl (y.0, y.1, y.2, y.3, y.4, before s s' keeps f y.1 y.2 _ y.5, each y.0 s s' keeps y.1 g y.3 answer y.6)
steady_then first next before each s s' keeps f g acts answer (inr y) = inr (y.0, y.1, before s s' keeps f g acts _ y.2)

-- what follows tests
steady_tested : {A : Type 0} (ts : Tests) (next : State → Call A) → IsSteady next → IsSteady (λ s. tested ts (next s))
steady_tested [] next each = each
steady_tested ((b, e) ∷ ts) next each = steady_then (λ s. refuse_if b e) (λ s u. tested ts (next s))
    (steady_same (refuse_if b e)) (λ u. steady_tested ts next each)

module _ (c : Config) (last t : ℕ) (words : Which → Word) where
  -- EACH PROGRAM names a state by the kinds and the lengths of its objects alone
  pub steady_program : {n : ℕ} {a : AnswerKind} (p : Program n a) (known : Which → Option ℕ) (o : ℕ)
      → IsSteady (λ s. call_of c last t s words p known o)
  steady_program (ends e) known o = steady_same _
  steady_program (names w p) known o = steady_then (λ s. resolved c last t (words w)) (λ s x.
      call_of c last t s words p (set_known known w x) o) (steady_same _) (λ x. steady_program p
      (set_known known w x) o)
  steady_program (names_both p) known o = steady_then (λ s. resolved_both c last t (words one) (words other)) (λ s x.
      call_of c last t s words p (at_both x.0 x.1) o) (steady_same _) (λ x. steady_program p (at_both x.0 x.1) o)
  steady_program (wants w p) known o = steady_then (λ s. not_null (known w)) (λ s q. call_of c last t s words p known q)
      (steady_same _) (λ q. steady_program p known q)
  steady_program (looks next) known o = steady_looks o (λ s k n. call_of c last t s words (next k n) known o) (λ k n.
      steady_program (next k n) known o)
  steady_program (tests ts silent p) known o =
      steady_tested ts (λ s. call_of c last t s words p known o) (steady_program p known o)
  steady_program (finds i p) known o = steady_then (λ s. some_act (Read o i)) (λ s v.
      call_of c last t s words p (set_known known one (object_of_word v)) o) (steady_same _) (λ v.
      steady_program p (set_known known one (object_of_word v)) o)
