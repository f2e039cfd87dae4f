-- What stands lies in the room: objects, local places and cleared references.
use Rattle.std.proofs.Common.{◌≡◌, ◌≤◌, ◌<◌, ℕ, Some, None, IsSome, refl, sym, subst, arith, nat_eq}
use Rattle.jr_word.specs.declared.config.Config.{Config}
use Rattle.jr_word.specs.declared.handle.RefKind.TheVariants.{Weak}
use Rattle.jr_model.specs.declared.event.Found.TheVariants.{Object, Cleared, Stale}
use Rattle.jr_model.specs.declared.event.Act.{Act}
use Rattle.jr_model.specs.declared.event.Act.TheVariants.{Create, Delete, Clear, LocalPut, LocalDrop, New, Write, Drop}
use Rattle.jr_model.specs.Maps.{update}
use Rattle.jr_model.specs.State.{Handle, State, opening, IsPresent}
use Rattle.jr_model.specs.Steps.{ActNeeds, act_after, written}
use Rattle.jr_model.specs.History.{History, state, IsLegal}
use Rattle.jr_model.specs.Laws.{PresentIsInRoom}
use Rattle.jr_model.proofs.Updates.{at_handle, at_number}
use Rattle.jr_model.proofs.Histories.{kept_from}

pub record IsInRoom (c : Config) (s : State) : Type 0 where
  pub objects : (o : ℕ) → IsPresent s o → (1 ≤ o) × (o ≤ c.objects)
  pub locals : (t p o : ℕ) → s.locals t p ≡ Some o → (t < c.threads) × (p < c.locals)
  pub cleared : (h : Handle) → s.refs h ≡ Cleared → h.kind ≡ Weak

module _ (c : Config) (last : ℕ) where
  pub in_room_act : (s : State) (t : ℕ) (a : Act) → t < c.threads → IsInRoom c s → ActNeeds c last s t a
      → IsInRoom c (act_after s t a)
  in_room_act s t (Create h o) l i n = record {
    objects = i.objects;
    locals = i.locals;
    cleared =
        λ g. at_handle (λ x. x ≡ Cleared → g.kind ≡ Weak) s.refs h g (Object o) (λ e q. absurd cc) (λ ne. i.cleared g);
  }
  in_room_act s t (Delete h) l i n = record {
    objects = i.objects;
    locals = i.locals;
    cleared = λ g. at_handle (λ x. x ≡ Cleared → g.kind ≡ Weak) s.refs h g Stale (λ e q. absurd cc) (λ ne. i.cleared g);
  }
  in_room_act s t (Clear h) l i n = record {
    objects = i.objects;
    locals = i.locals;
    cleared = λ g. at_handle (λ x. x ≡ Cleared → g.kind ≡ Weak) s.refs h g Cleared
        (λ e q. subst (λ (f : Handle). f.kind ≡ Weak) e n.1) (λ ne. i.cleared g);
  }
  in_room_act s t (LocalPut p o) l i n = record {
    objects = i.objects;
    locals = λ u q r. at_number (λ f. f q ≡ Some r → (u < c.threads) × (q < c.locals)) s.locals t u
        (update nat_eq (s.locals t) p (Some o))
        (λ e. at_number (λ x. x ≡ Some r → (u < c.threads) × (q < c.locals)) (s.locals t) p q (Some o)
        (λ e' h. let m = n.1 in (omega arith, omega arith))
        (λ ne h. let r = i.locals t q r h in (omega arith, r.1)))
        (λ ne. i.locals u q r);
    cleared = i.cleared;
  }
  in_room_act s t (LocalDrop p) l i n = record {
    objects = i.objects;
    locals = λ u q r. at_number (λ f. f q ≡ Some r → (u < c.threads) × (q < c.locals)) s.locals t u
        (update nat_eq (s.locals t) p None)
        (λ e. at_number (λ x. x ≡ Some r → (u < c.threads) × (q < c.locals)) (s.locals t) p q None
        (λ e' h. absurd cc)
        (λ ne h. let r = i.locals t q r h in (omega arith, r.1)))
        (λ ne. i.locals u q r);
    cleared = i.cleared;
  }
  in_room_act s t (New o k ws) l i n = record {
    objects = λ p.
        at_number (λ y. IsSome y → (1 ≤ p) × (p ≤ c.objects)) s.objects o p (Some (record { kind = k; words = ws }))
        (λ e h. let a = n.1 in let b = n.2 in (omega arith, omega arith))
        (λ ne. i.objects p);
    locals = i.locals;
    cleared = i.cleared;
  }
  in_room_act s t (Write o j v) l i n = record {
    objects = λ p. at_number (λ y. IsSome y → (1 ≤ p) × (p ≤ c.objects)) s.objects o p (written (s.objects o) j v)
        (λ e h. i.objects p (subst (λ q. IsPresent s q) e (subst (λ y. IsSome y) (sym n.2) refl)))
        (λ ne. i.objects p);
    locals = i.locals;
    cleared = i.cleared;
  }
  in_room_act s t (Drop o) l i n = record {
    objects = λ p.
        at_number (λ y. IsSome y → (1 ≤ p) × (p ≤ c.objects)) s.objects o p None (λ e h. absurd cc) (λ ne. i.objects p);
    locals = i.locals;
    cleared = i.cleared;
  }
  in_room_act s t _ l i n = record { objects = i.objects; locals = i.locals; cleared = i.cleared }

  pub in_room_opening : IsInRoom c opening
  in_room_opening = record { objects = λ o h. absurd cc; locals = λ t p o e. absurd cc; cleared = λ h e. absurd cc }

  -- what stands after a legal history lies in the room
  pub in_room : (es : History) → IsLegal c last es → IsInRoom c (state es)
  in_room es l =
      kept_from c last (IsInRoom c) (λ s e i n. in_room_act s e.thread e.act n.0 i n.1) opening es in_room_opening l

  pub present_is_in_room : PresentIsInRoom c last
  present_is_in_room es o l = (in_room es l).objects o
