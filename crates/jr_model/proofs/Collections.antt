-- What a collection keeps: what is reached stays reached, with its elements, and nothing else becomes reached.
use Rattle.std.proofs.Common.{◌≡◌, ℕ, Option, Some, None, IsSome, refl, sym, ap, subst, nat_eq}
use Rattle.jr_word.specs.declared.config.Config.{Config}
use Rattle.jr_word.specs.declared.handle.RefKind.TheVariants.{Global, Weak}
use Rattle.jr_model.specs.declared.event.Role.TheVariants.{Collecting}
use Rattle.jr_model.specs.declared.event.Found.TheVariants.{Object, Cleared}
use Rattle.jr_model.specs.declared.event.Act.{Act}
use Rattle.jr_model.specs.declared.event.Act.TheVariants.{Create, Delete, Clear, LocalPut}
use Rattle.jr_model.specs.declared.event.Act.TheVariants.{LocalDrop, New, Write, Drop}
use Rattle.jr_model.specs.Maps.{update}
use Rattle.jr_model.specs.State.{Handle, same_handle, Contents, State, IsPresent}
use Rattle.jr_model.specs.State.{IsReached, from_global, from_local, from_element}
use Rattle.jr_model.specs.Steps.{ActNeeds, act_after}
use Rattle.jr_model.proofs.Updates.{at_number, at_handle}
use Rattle.jr_model.proofs.Gates.{IsApart}

pub contents : (x : Option Contents) → IsSome x → (y : Contents) × (x ≡ Some y)
contents None p = absurd cc
contents (Some y) p = (y, refl)

-- s' has at least the roots of s, and what is reached in s stands in s' as it is
pub record IsKeptFrom (s s' : State) : Type 0 where
  pub globals : (h : Handle) (o : ℕ) → h.kind ≡ Global → s.refs h ≡ Object o → s'.refs h ≡ Object o
  pub locals : (t p o : ℕ) → s.locals t p ≡ Some o → s'.locals t p ≡ Some o
  pub objects : (o : ℕ) (x : Contents) → IsReached s o → s.objects o ≡ Some x → s'.objects o ≡ Some x

present_kept : (s s' : State) → IsKeptFrom s s' → (o : ℕ) → IsReached s o → IsPresent s o → IsPresent s' o
present_kept s s' k o r p = let x = contents (s.objects o) p in subst (λ y. IsSome y) (sym (k.objects o x.0 r x.1)) refl

pub reached_mono : (s s' : State) → IsKeptFrom s s' → {o : ℕ} → IsReached s o → IsReached s' o
reached_mono s s' k (from_global h g r p) =
    from_global h g (k.globals h _ g r) (present_kept s s' k _ (from_global h g r p) p)
reached_mono s s' k (from_local t q r p) =
    from_local t q (k.locals t q _ r) (present_kept s s' k _ (from_local t q r p) p)
reached_mono s s' k (from_element a i x r e kind at p) =
    from_element a i x (reached_mono s s' k r) (k.objects a x r e) kind at
    (present_kept s s' k _ (from_element a i x r e kind at p) p)

-- both ways
pub record IsSameReach (s s' : State) : Type 0 where
  pub forth : IsKeptFrom s s'
  pub back : IsKeptFrom s' s

kept_trans : (r s t : State) → IsKeptFrom r s → IsKeptFrom s t → IsKeptFrom r t
kept_trans r s t p q = record {
  globals = λ h o g e. q.globals h o g (p.globals h o g e);
  locals = λ u l o e. q.locals u l o (p.locals u l o e);
  objects = λ o x z e. q.objects o x (reached_mono r s p z) (p.objects o x z e);
}

pub same_trans : (r s t : State) → IsSameReach r s → IsSameReach s t → IsSameReach r t
same_trans r s t p q = record { forth = kept_trans r s t p.forth q.forth; back = kept_trans t s r q.back p.back }

clear_same : (s : State) (h : Handle) → h.kind ≡ Weak
    → IsSameReach s (record s { refs = update same_handle s.refs h Cleared })
clear_same s h w = record {
  forth = record {
    globals = λ g o k r. at_handle (λ x. x ≡ Object o) s.refs h g Cleared
        (λ e. let kinds = ap (λ (f : Handle). f.kind) e in absurd cc) (λ ne. r);
    locals = λ t p o r. r;
    objects = λ o x z e. e;
  };
  back = record {
    globals =
        λ g o k. at_handle (λ x. x ≡ Object o → s.refs g ≡ Object o) s.refs h g Cleared (λ e r. absurd cc) (λ ne r. r);
    locals = λ t p o r. r;
    objects = λ o x z e. e;
  };
}

drop_same : (s : State) (p : ℕ) → ¬ (IsReached s p)
    → IsSameReach s (record s { objects = update nat_eq s.objects p None })
drop_same s p un = record {
  forth = record {
    globals = λ h o g r. r;
    locals = λ t q o r. r;
    objects = λ o x z e. at_number (λ y. y ≡ Some x) s.objects p o None
        (λ same. absurd (un (subst (λ j. IsReached s j) (sym same) z))) (λ ne. e);
  };
  back = record {
    globals = λ h o g r. r;
    locals = λ t q o r. r;
    objects = λ o x z.
        at_number (λ y. y ≡ Some x → s.objects o ≡ Some x) s.objects p o None (λ same r. absurd cc) (λ ne r. r);
  };
}

module _ (c : Config) (last : ℕ) where
  pub same_reach_act : (t : ℕ) (s : State) (u : ℕ) (a : Act) → IsApart s.role → s.role t ≡ Collecting
      → ActNeeds c last s u a → IsSameReach s (act_after s u a)
  same_reach_act t s u (Clear h) i w n = clear_same s h n.1
  same_reach_act t s u (Drop p) i w n = drop_same s p n.2
  same_reach_act t s u (Create h o) i w n = absurd (i.apart t u w n.0)
  same_reach_act t s u (Delete h) i w n = absurd (i.apart t u w n.0)
  same_reach_act t s u (LocalPut p o) i w n = absurd (i.apart t u w n.0)
  same_reach_act t s u (LocalDrop p) i w n = absurd (i.apart t u w n.0)
  same_reach_act t s u (New o k ws) i w n = absurd (i.apart t u w n.0)
  same_reach_act t s u (Write o j v) i w n = absurd (i.apart t u w n.0)
  same_reach_act t s u _ i w n = record {
    forth = record { globals = λ h o g r. r; locals = λ v p o r. r; objects = λ o x r e. e };
    back = record { globals = λ h o g r. r; locals = λ v p o r. r; objects = λ o x r e. e };
  }
