-- A word is one thing: of two explanations that are so, each is the other.
use Rattle.std.proofs.Common.{◌≡◌, ◌≢◌, ℕ, Option, Some, None, refl, sym, ap, ◌∙◌}
use Rattle.jr_word.specs.declared.config.Config.{Config}
use Rattle.jr_word.specs.declared.handle.RefKind.{RefKind}
use Rattle.jr_word.specs.declared.kind.Kind.{Kind}
use Rattle.jr_word.specs.declared.kind.Kind.TheVariants.{Plain}
use Rattle.jr_model.specs.declared.event.Found.{Found}
use Rattle.jr_model.specs.declared.event.Found.TheVariants.{Object, Cleared, Stale}
use Rattle.jr_model.specs.State.{Contents, Handle, State}
use Rattle.jr_model.specs.Frames.{Frames}
use Rattle.jr_model.specs.Checks.{Word}
use Rattle.jr_frames.specs.declared.explaining.Explanation.{Explanation}
use Rattle.jr_frames.specs.declared.explaining.Explanation.TheVariants as explained
use Rattle.jr_frames.specs.Explaining.{IsExplained, SaysOfHandle, foreign, found_at, malformed, null, outside, own}

-- the object that was found
abbrev object_in : Found → ℕ
object_in (Object o) = o
object_in _ = 0

-- the kind of what is present
abbrev kind_in : Option Contents → Kind
kind_in (Some x) = x.kind
kind_in None = Plain

module _ (f : Frames) (s : State) (h : Handle) where
  -- two things can't be found at once
  two : {A : Type 0} (r q : Found) → r ≢ q → found_at f s h ≡ r → found_at f s h ≡ q → A
  two r q ne a b = absurd (ne (sym a ∙ b))

  object_stale : (o : ℕ) → Object o ≢ Stale
  object_stale o e = cc

  object_cleared : (o : ℕ) → Object o ≢ Cleared
  object_cleared o e = cc

  cleared_stale : Cleared ≢ Stale
  cleared_stale e = cc

  same_standing : (k l : RefKind) (x y : Option Kind) → k ≡ l → x ≡ y
      → explained.Standing k x ≡ explained.Standing l y
  same_standing k l x y a b = cc

  same_kinds : (o p : ℕ) (x y : Contents) → o ≡ p → s.objects o ≡ Some x → s.objects p ≡ Some y → x.kind ≡ y.kind
  same_kinds o p x y is a b = ap kind_in (sym a ∙ (ap s.objects is ∙ b))

  one : (e d : Explanation) → SaysOfHandle f s h e → SaysOfHandle f s h d → e ≡ d
  one (explained.Standing k (Some x)) (explained.Standing l (Some y)) p q =
      same_standing k l (Some x) (Some y) (p.0 ∙ sym q.0) (ap (λ z. Some z) (sym p.5
      ∙ (same_kinds p.1 q.1 p.3 q.3 (ap object_in (sym p.2 ∙ q.2)) p.4 q.4 ∙ q.5)))
  one (explained.Standing k (Some x)) (explained.Standing l None) p q =
      two (Object p.1) Cleared (object_cleared p.1) p.2 q.1
  one (explained.Standing k (Some x)) explained.OtherKind p q = two (Object p.1) Stale (object_stale p.1) p.2 q.0
  one (explained.Standing k (Some x)) explained.Gone p q = two (Object p.1) Stale (object_stale p.1) p.2 q.0.0
  one (explained.Standing k (Some x)) explained.NotGiven p q = two (Object p.1) Stale (object_stale p.1) p.2 q.0.0
  one (explained.Standing k None) (explained.Standing l (Some y)) p q =
      two (Object q.1) Cleared (object_cleared q.1) q.2 p.1
  one (explained.Standing k None) (explained.Standing l None) p q = same_standing k l None None (p.0 ∙ sym q.0) refl
  one (explained.Standing k None) explained.OtherKind p q = two Cleared Stale cleared_stale p.1 q.0
  one (explained.Standing k None) explained.Gone p q = two Cleared Stale cleared_stale p.1 q.0.0
  one (explained.Standing k None) explained.NotGiven p q = two Cleared Stale cleared_stale p.1 q.0.0
  one explained.OtherKind (explained.Standing l (Some y)) p q = two (Object q.1) Stale (object_stale q.1) q.2 p.0
  one explained.OtherKind (explained.Standing l None) p q = two Cleared Stale cleared_stale q.1 p.0
  one explained.OtherKind explained.OtherKind p q = refl
  one explained.OtherKind explained.Gone p q = absurd (p.4 (q.0.1 p.2 p.1 p.3))
  one explained.OtherKind explained.NotGiven p q = absurd (p.4 (q.0.1 p.2 p.1 p.3))
  one explained.Gone (explained.Standing l (Some y)) p q = two (Object q.1) Stale (object_stale q.1) q.2 p.0.0
  one explained.Gone (explained.Standing l None) p q = two Cleared Stale cleared_stale q.1 p.0.0
  one explained.Gone explained.OtherKind p q = absurd (q.4 (p.0.1 q.2 q.1 q.3))
  one explained.Gone explained.Gone p q = refl
  one explained.Gone explained.NotGiven p q = absurd (q.1 p.1)
  one explained.NotGiven (explained.Standing l (Some y)) p q = two (Object q.1) Stale (object_stale q.1) q.2 p.0.0
  one explained.NotGiven (explained.Standing l None) p q = two Cleared Stale cleared_stale q.1 p.0.0
  one explained.NotGiven explained.OtherKind p q = absurd (q.4 (p.0.1 q.2 q.1 q.3))
  one explained.NotGiven explained.Gone p q = absurd (p.1 q.1)
  one explained.NotGiven explained.NotGiven p q = refl
  one explained.Null d p q = absurd p
  one explained.Malformed d p q = absurd p
  one explained.Outside d p q = absurd p
  one explained.Foreign d p q = absurd p
  one _ explained.Null p q = absurd q
  one _ explained.Malformed p q = absurd q
  one _ explained.Outside p q = absurd q
  one _ explained.Foreign p q = absurd q

pub one_thing : (c : Config) (thread : ℕ) (f : Frames) (s : State) (a : Word) (e d : Explanation)
    → IsExplained c thread f s a e → IsExplained c thread f s a d → e ≡ d
one_thing c thread f s a e d null null = refl
one_thing c thread f s a e d malformed malformed = refl
one_thing c thread f s a e d (outside x) (outside y) = refl
one_thing c thread f s a e d (outside x) (foreign y z) = absurd (let both = sym x ∙ y in cc)
one_thing c thread f s a e d (outside x) (own y z w) = absurd (let both = sym x ∙ y in cc)
one_thing c thread f s a e d (foreign x z) (outside y) = absurd (let both = sym x ∙ y in cc)
one_thing c thread f s a e d (foreign x z) (foreign y w) = refl
one_thing c thread f s a e d (foreign x z) (own y v w) = absurd (let both = sym z ∙ v in cc)
one_thing c thread f s a e d (own x z w) (outside y) = absurd (let both = sym x ∙ y in cc)
one_thing c thread f s a e d (own x z w) (foreign y v) = absurd (let both = sym z ∙ v in cc)
one_thing c thread f s a e d (own {h} x z w) (own y v u) = one f s h e d w u
