-- What stays so in a stay.
use Rattle.std.proofs.Common.{◌≡◌, ◌≢◌, ℕ, List, Option, Some, None, IsSome}
use Rattle.std.proofs.Common.{refl, inl, inr, ⊎_elim, ap, subst, sym, ◌∙◌}
use Rattle.std.specs.List.{AllByRecursion}
use Rattle.jr_word.specs.declared.header.HeaderParts.{HeaderParts}
use Rattle.jr_word.specs.declared.kind.Kind.{Kind}
use Rattle.jr_word.specs.declared.kind.Kind.TheVariants.{Plain, Objects}
use Rattle.jr_model.specs.declared.event.Role.TheVariants.{Within}
use Rattle.jr_model.specs.declared.event.Act.{Act}
use Rattle.jr_model.specs.declared.event.Act.TheVariants.{Gate}
use Rattle.jr_model.specs.declared.event.GateAct.TheVariants.{Leave}
use Rattle.jr_model.specs.State.{Contents, State, IsWord}
use Rattle.jr_model.specs.History.{role_of, Did}
use Rattle.jr_model.proofs.Stays.{IsStill, still_did}
use Rattle.jr_steps.specs.declared.known.Known.{Known}
use Rattle.jr_steps.specs.Knowing.{view, state_of, HasObject, IsWordNow, ShowsObject}
use Rattle.jr_steps.specs.declared.known.Holdings.{Holdings}
use Rattle.jr_steps.specs.Holdings.{header_in}
use Rattle.jr_steps.proofs.StepFacts.{present_still}
use Rattle.jr_heap.specs.Heap.{HoldsHeader}

-- no act is a Leave
abbrev pub NoLeave : List Act → Type 0
NoLeave acts = AllByRecursion (λ a. a ≢ Gate Leave) acts

pub word_still : (s s' : State) → IsStill s s' → (kind : Kind) (v : ℕ) → IsWord s kind v → IsWord s' kind v
word_still s s' still Objects v w = ⊎_elim (λ e. inl e) (λ p. inr (present_still s s' v still p)) w
word_still s s' still _ v w = w

module _ (k k' : Known) (acts : List Act) (d : Did (view k) (view k') acts) (within : role_of (view k) ≡ Within)
    (stays : NoLeave acts) where
  pub still : IsStill (state_of k) (state_of k')
  still = still_did acts d within stays

  pub present_later : (o : ℕ) → HasObject o k → HasObject o k'
  present_later o p = present_still (state_of k) (state_of k') o still p

  pub word_later : (kind : Kind) (v : ℕ) → IsWordNow kind v k → IsWordNow kind v k'
  word_later kind v w = word_still (state_of k) (state_of k') still kind v w

  -- an object keeps its kind and length
  pub object_later : (o : ℕ) (h : HeaderParts) → ShowsObject o h k → ShowsObject o h k'
  object_later o h x =
      let y = still.objects o x.contents x.is in
      record { contents = y.0; is = y.1; says = record { kind = y.2 ∙ x.says.kind; long = y.3 ∙ x.says.long } }

  -- so does a header that is known, where the pass holds what it held
  pub header_later : (o : ℕ) (h : HeaderParts) → k'.holdings ≡ k.holdings → HoldsHeader o h k → HoldsHeader o h k'
  header_later o h e x =
      record { known = ap (λ (g : Holdings). header_in o g.headers) e ∙ x.known; shown = object_later o h x.shown }

pub shown_present : (o : ℕ) (h : HeaderParts) (k : Known) → ShowsObject o h k → HasObject o k
shown_present o h k x = subst (λ y. IsSome y) (sym x.is) refl

-- the kind of an object, Plain where there is none
abbrev pub kind_in : Option Contents → Kind
kind_in None = Plain
kind_in (Some x) = x.kind
