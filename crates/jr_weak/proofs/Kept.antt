-- What clearing and dropping leave: what is reached stays so.
use Rattle.std.proofs.Common.{◌≡◌, ℕ, Bool, Option, Some, None, [], ◌∷◌, List, sym, ap, subst, ◌∙◌, nat_eq}
use Rattle.jr_word.specs.declared.handle.RefKind.TheVariants.{Weak}
use Rattle.jr_model.specs.declared.event.Role.TheVariants.{Collecting}
use Rattle.jr_model.specs.declared.event.Found.{Found}
use Rattle.jr_model.specs.declared.event.Found.TheVariants.{Object, Cleared}
use Rattle.jr_model.specs.declared.event.Act.TheVariants.{Clear, Drop}
use Rattle.jr_model.specs.Maps.{update}
use Rattle.jr_model.specs.State.{Handle, same_handle, Contents, State, IsReached, HaveSameTables}
use Rattle.jr_model.specs.History.{role_of}
use Rattle.jr_model.proofs.Collections.{IsSameReach, reached_mono}
use Rattle.jr_model.proofs.Updates.{at_number, at_handle}
use Rattle.jr_steps.specs.declared.known.Known.{Known}
use Rattle.jr_steps.specs.Knowing.{Goes, view, state_of}
use Rattle.jr_steps.proofs.CollectorFacts.{goes_act}
use Rattle.jr_weak.specs.Marks.{IsExactly}

pub record ClearedFrom (h : Handle) (s s' : State) : Type 0 where
  pub refs : s'.refs ≡ update same_handle s.refs h Cleared
  pub locals : s'.locals ≡ s.locals
  pub objects : s'.objects ≡ s.objects

pub record DroppedFrom (o : ℕ) (s s' : State) : Type 0 where
  pub refs : s'.refs ≡ s.refs
  pub locals : s'.locals ≡ s.locals
  pub objects : s'.objects ≡ update nat_eq s.objects o None

pub cleared_from : {k k' : Known} (h : Handle) → Goes k (Clear h ∷ []) k' → role_of (view k) ≡ Collecting
    → ClearedFrom h (state_of k) (state_of k')
cleared_from h g collects = let z = goes_act g collects in record {
  refs = ap (λ (s : State). s.refs) z.2 ∙ ap (λ f. update same_handle f h Cleared) (z.1).refs;
  locals = ap (λ (s : State). s.locals) z.2 ∙ (z.1).locals;
  objects = ap (λ (s : State). s.objects) z.2 ∙ (z.1).objects;
}

pub dropped_from : {k k' : Known} (o : ℕ) → Goes k (Drop o ∷ []) k' → role_of (view k) ≡ Collecting
    → DroppedFrom o (state_of k) (state_of k')
dropped_from o g collects = let z = goes_act g collects in record {
  refs = ap (λ (s : State). s.refs) z.2 ∙ (z.1).refs;
  locals = ap (λ (s : State). s.locals) z.2 ∙ (z.1).locals;
  objects = ap (λ (s : State). s.objects) z.2 ∙ ap (λ (f : ℕ → Option Contents). update nat_eq f o None) (z.1).objects;
}

kept_cleared : (h : Handle) (s s' : State) → h.kind ≡ Weak → ClearedFrom h s s' → IsSameReach s s'
kept_cleared h s s' w c = record {
  forth = record {
    globals = λ g o k r. subst (λ (f : Handle → Found). f g ≡ Object o) (sym c.refs) (at_handle (λ x. x ≡ Object o)
        s.refs h g Cleared (λ e. let kinds = ap (λ (f : Handle). f.kind) e in absurd cc) (λ ne. r));
    locals = λ t p o r. ap (λ (f : ℕ → ℕ → Option ℕ). f t p) c.locals ∙ r;
    objects = λ o x z e. ap (λ (f : ℕ → Option Contents). f o) c.objects ∙ e;
  };
  back = record {
    globals = λ g o k r. at_handle (λ x. x ≡ Object o → s.refs g ≡ Object o) s.refs h g Cleared (λ e q. absurd cc)
        (λ ne q. q) (subst (λ (f : Handle → Found). f g ≡ Object o) c.refs r);
    locals = λ t p o r. ap (λ (f : ℕ → ℕ → Option ℕ). f t p) (sym c.locals) ∙ r;
    objects = λ o x z e. ap (λ (f : ℕ → Option Contents). f o) (sym c.objects) ∙ e;
  };
}

kept_dropped : (p : ℕ) (s s' : State) → ¬ (IsReached s p) → DroppedFrom p s s' → IsSameReach s s'
kept_dropped p s s' un c = record {
  forth = record {
    globals = λ g o k r. ap (λ (f : Handle → Found). f g) c.refs ∙ r;
    locals = λ t q o r. ap (λ (f : ℕ → ℕ → Option ℕ). f t q) c.locals ∙ r;
    objects = λ o x z e. subst (λ (f : ℕ → Option Contents). f o ≡ Some x) (sym c.objects) (at_number (λ y. y ≡ Some x)
        s.objects p o None (λ same. absurd (un (subst (λ j. IsReached s j) (sym same) z))) (λ ne. e));
  };
  back = record {
    globals = λ g o k r. ap (λ (f : Handle → Found). f g) (sym c.refs) ∙ r;
    locals = λ t q o r. ap (λ (f : ℕ → ℕ → Option ℕ). f t q) (sym c.locals) ∙ r;
    objects = λ o x z e. at_number (λ y. y ≡ Some x → s.objects o ≡ Some x) s.objects p o None (λ same r. absurd cc)
        (λ ne r. r) (subst (λ (f : ℕ → Option Contents). f o ≡ Some x) c.objects e);
  };
}

same_kept : (s s' : State) → HaveSameTables s s' → IsSameReach s s'
same_kept s s' same = record {
  forth = record {
    globals = λ g o k r. ap (λ (f : Handle → Found). f g) same.refs ∙ r;
    locals = λ t q o r. ap (λ (f : ℕ → ℕ → Option ℕ). f t q) same.locals ∙ r;
    objects = λ o x z e. ap (λ (f : ℕ → Option Contents). f o) same.objects ∙ e;
  };
  back = record {
    globals = λ g o k r. ap (λ (f : Handle → Found). f g) (sym same.refs) ∙ r;
    locals = λ t q o r. ap (λ (f : ℕ → ℕ → Option ℕ). f t q) (sym same.locals) ∙ r;
    objects = λ o x z e. ap (λ (f : ℕ → Option Contents). f o) (sym same.objects) ∙ e;
  };
}

exactly_on : (marks : List Bool) (s s' : State) → IsSameReach s s' → IsExactly marks s → IsExactly marks s'
exactly_on marks s s' same e o =
    ((λ m. reached_mono s s' same.forth ((e o).0 m)), (λ r. (e o).1 (reached_mono s' s same.back r)))

pub exactly_same : (marks : List Bool) (s s' : State) → HaveSameTables s s' → IsExactly marks s → IsExactly marks s'
exactly_same marks s s' same = exactly_on marks s s' (same_kept s s' same)

pub exactly_cleared : (marks : List Bool) (h : Handle) (s s' : State) → h.kind ≡ Weak → ClearedFrom h s s'
    → IsExactly marks s → IsExactly marks s'
exactly_cleared marks h s s' w c = exactly_on marks s s' (kept_cleared h s s' w c)

pub exactly_dropped : (marks : List Bool) (o : ℕ) (s s' : State) → ¬ (IsReached s o) → DroppedFrom o s s'
    → IsExactly marks s → IsExactly marks s'
exactly_dropped marks o s s' un c = exactly_on marks s s' (kept_dropped o s s' un c)
