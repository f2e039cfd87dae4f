-- The image after one word and the part of the state that it shows were changed.
use Rattle.std.proofs.Common.{◌≡◌, ◌≢◌, ⊎_elim, ◌+◌, ◌*◌, ◌<◌, ◌≤◌, ◌==◌, ℕ, Bool, true, false}
use Rattle.std.proofs.Common.{Option, List, length, get_or, slice_set, refl, sym, ap, subst}
use Rattle.std.proofs.Common.{◌∙◌, arith, nat_eq, length-set, get_or-set_same, get_or-set_other}
use Rattle.std.proofs.lemmas.Bool.{cases_lt}
use Rattle.std.proofs.lemmas.Nat.{mul-add-lt}
use Rattle.jr_word.specs.declared.config.Config.{Config}
use Rattle.jr_word.specs.declared.slot.SlotParts.{SlotParts}
use Rattle.jr_word.specs.declared.slot.SlotParts.TheVariants as slot
use Rattle.jr_word.specs.declared.handle.RefKind.TheVariants.{Global, Weak}
use Rattle.jr_model.specs.declared.event.Role.{Role}
use Rattle.jr_model.specs.declared.event.Found.{Found}
use Rattle.jr_model.specs.declared.event.Found.TheVariants.{Object}
use Rattle.jr_model.specs.Maps.{update}
use Rattle.jr_model.specs.State.{Handle, Contents, State}
use Rattle.jr_model.proofs.Updates.{eq_true, eq_false, at_number}
use Rattle.jr_steps.specs.Acts.{found_of, handle_of}
use Rattle.jr_steps.specs.declared.known.Holdings.{Holdings}
use Rattle.jr_steps.specs.declared.known.Move.{Move}
use mathlib.Core.Logic.{dite}
use native.Mathlib.Decide.{ℕ_discrete}
use Rattle.jr_rule.proofs.Spaces.{space_low, space_same, space_let_go, hold_here, hold_else}
use Rattle.jr_steps.specs.Holdings.{empty, hold}
use Rattle.jr_steps.specs.Says.{StandsAlone, StandsAs}
use Rattle.jr_rule.specs.Image.{gate_at, top_at, slot_at, local_at, header_at, element_at, MayHold, AreHeld}
use Rattle.jr_rule.specs.Image.{IsIn, IsSpace, IsGateOf, IsTopOf, IsSlotOf, IsLocalOf, IsHeaderOf, IsImage}

-- the local words lie below the headers
pub local_below : (c : Config) (t p : ℕ) → t < c.threads → p < c.locals
    → local_at c t p < 2 + c.slots + c.threads * c.locals
local_below c t p l m = let k = mul-add-lt t c.locals p c.threads l m in omega arith

-- two places have two words
local_apart : (c : Config) (t p u q : ℕ) → p < c.locals → q < c.locals → local_at c t p ≡ local_at c u q
    → (t ≡ u) × (p ≡ q)
local_apart c t p u q l m e = ⊎_elim
    (λ (z : t < u). let k = mul-add-lt t c.locals p u z l in absurd (omega arith))
    (λ (z : u ≤ t). ⊎_elim
    (λ (y : u < t). let k = mul-add-lt u c.locals q t y m in absurd (omega arith))
    (λ (y : t ≤ u). let same : t ≡ u = omega arith in let k = ap (λ x. x * c.locals) same in (same, omega arith))
    (cases_lt u t))
    (cases_lt t u)

-- what a slot's word says goes by the handles of its index
pub same_slot : (last i w : ℕ) (refs refs' : Handle → Found) (given given' : Handle → Bool)
    → ((g : Handle) → g.index ≡ i → (refs' g ≡ refs g) × (given' g ≡ given g)) → IsSlotOf last refs given i w
    → IsSlotOf last refs' given' i w
same_slot last i w refs refs' given given' same x = record {
  parts = x.parts;
  word = x.word;
  says = record {
    next = x.says.next;
    serials = record {
      below = λ n l. let h = x.says.serials.below n l in (h.0, h.1, h.2, (same h.0 h.1).1 ∙ h.3);
      above = λ h at l. (same h at).1 ∙ x.says.serials.above h at l;
    };
    stands = says x.parts x.says.stands;
  };
}
  where
    alone : (h : Handle) (r : Found) → h.index ≡ i → StandsAlone refs x.says.next h r
        → StandsAlone refs' x.says.next h r
    alone h r at y = record {
      latest = y.latest;
      found = (same h at).0 ∙ y.found;
      alone = λ g e ne. (same g (e ∙ at)).0 ∙ y.alone g e ne;
    }

    says : (p : SlotParts) → StandsAs last refs i x.says.next p → StandsAs last refs' i x.says.next p
    says (slot.Free n) y = (λ h at. (same h at).0 ∙ y.0 h at, y.1, y.2)
    says (slot.Retired n) y = (λ h at. (same h at).0 ∙ y.0 h at, y.1, y.2)
    says (slot.Global n o) y = alone (handle_of Global n i) (Object o) refl y
    says (slot.Weak n o) y = alone (handle_of Weak n i) (found_of o) refl y

-- who holds the same, or one something else that it may
pub held_by_role_same : (role : ℕ → Role) (moving : Option Move) (held held' : ℕ → Holdings)
    → ((u : ℕ) → held' u ≡ held u) → AreHeld role moving held → AreHeld role moving held'
held_by_role_same role moving held held' same a =
    record { each = λ u. subst (MayHold moving (role u)) (sym (same u)) (a.each u); still = a.still }

pub held_by_role_held : (role : ℕ → Role) (moving : Option Move) (held : ℕ → Holdings) (t : ℕ) (g : Holdings)
    → MayHold moving (role t) g → AreHeld role moving held → AreHeld role moving (hold held t g)
held_by_role_held role moving held t g may a = record {
  each = λ u. dite (ℕ_discrete u t)
      (λ e. subst (λ (z : ℕ × Holdings). MayHold moving (role z.0) z.1)
      (λ i. (sym e i, sym (ap (hold held t g) e ∙ hold_here held t g) i)) may)
      (λ ne. subst (MayHold moving (role u)) (sym (hold_else held t u g ne)) (a.each u));
  still = a.still;
}

module _ (c : Config) (last : ℕ) (words : List ℕ) (s : State) (held : ℕ → Holdings)
    (image : IsImage c last words s held) (n : ℕ) where
  -- another word stays
  other : (i j : ℕ) (P : ℕ → Type 0) → j ≢ i → P (get_or words j 0) → P (get_or (slice_set words i n) j 0)
  other i j P ne p = subst P (sym (get_or-set_other words i j n 0 ne)) p

  -- the word itself
  here : (i : ℕ) (P : ℕ → Type 0) → i < length words → P n → P (get_or (slice_set words i n) i 0)
  here i P l p = subst P (sym (get_or-set_same words i n 0 l)) p

  pub gate_set : (role : ℕ → Role) → AreHeld role image.moving held → IsGateOf c role n
      → IsImage c last (slice_set words gate_at n) (record s { role = role }) held
  gate_set role held_by_role g = let wide = image.wide in record {
    wide = length-set words gate_at n ∙ image.wide;
    gate = here 0 (IsGateOf c role) (omega arith) g;
    top = other 0 1 (IsTopOf s.used) (λ e. absurd (omega arith)) image.top;
    slot = λ i l. other 0 (slot_at i) (IsSlotOf last s.refs s.given i) (λ e. absurd (omega arith)) (image.slot i l);
    local = λ t p l m.
        other 0 (local_at c t p) (IsLocalOf (s.locals t p)) (λ e. absurd (omega arith)) (image.local t p l m);
    header =
        λ o l m. other 0 (header_at c o) (IsHeaderOf (s.objects o)) (λ e. absurd (omega arith)) (image.header o l m);
    moving = image.moving;
    held_by_role = held_by_role;
    space = space_low c words gate_at n (omega arith) s.objects (IsIn s.used) image.moving held image.space;
  }

  pub slot_set : (i : ℕ) (refs : Handle → Found) (given : Handle → Bool) → i < c.slots → IsSlotOf last refs given i n
      → ((g : Handle) → g.index ≢ i → (refs g ≡ s.refs g) × (given g ≡ s.given g))
      → IsImage c last (slice_set words (slot_at i) n) (record s { refs = refs; given = given }) held
  slot_set i refs given row x same = let wide = image.wide in record {
    wide = length-set words (slot_at i) n ∙ image.wide;
    gate = other (slot_at i) 0 (IsGateOf c s.role) (λ e. absurd (omega arith)) image.gate;
    top = other (slot_at i) 1 (IsTopOf s.used) (λ e. absurd (omega arith)) image.top;
    slot = λ j l. by_index j l (i == j) refl;
    local = λ t p l m.
        other (slot_at i) (local_at c t p) (IsLocalOf (s.locals t p)) (λ e. absurd (omega arith)) (image.local t p l m);
    header = λ o l m.
        other (slot_at i) (header_at c o) (IsHeaderOf (s.objects o)) (λ e. absurd (omega arith)) (image.header o l m);
    moving = image.moving;
    held_by_role = record { each = image.held_by_role.each; still = image.held_by_role.still };
    space = space_low c words (slot_at i) n (omega arith) s.objects (IsIn s.used) image.moving held image.space;
  }
    where
      by_index : (j : ℕ) → j < c.slots → (b : Bool) → (i == j) ≡ b
          → IsSlotOf last refs given j (get_or (slice_set words (slot_at i) n) (slot_at j) 0)
      by_index j l true e =
          let wide = image.wide in
          subst (λ k. IsSlotOf last refs given k (get_or (slice_set words (slot_at i) n) (slot_at k) 0)) (eq_true i j e)
          (here (slot_at i) (IsSlotOf last refs given i) (omega arith) x)
      by_index j l false e =
          let apart = eq_false i j e in
          other (slot_at i) (slot_at j) (IsSlotOf last refs given j) (λ z. apart (omega arith))
          (same_slot last j (get_or words (slot_at j) 0) s.refs refs s.given given
          (λ g at. same g (λ z. apart (sym z ∙ at))) (image.slot j l))

  pub local_set : (t p : ℕ) (o : Option ℕ) → t < c.threads → p < c.locals → IsLocalOf o n
      → IsImage c last (slice_set words (local_at c t p) n)
      (record s { locals = update nat_eq s.locals t (update nat_eq (s.locals t) p o) }) held
  local_set t p o row place x = let wide = image.wide in let below = local_below c t p row place in record {
    wide = length-set words (local_at c t p) n ∙ image.wide;
    gate = other (local_at c t p) 0 (IsGateOf c s.role) (λ e. absurd (omega arith)) image.gate;
    top = other (local_at c t p) 1 (IsTopOf s.used) (λ e. absurd (omega arith)) image.top;
    slot = λ i l. other (local_at c t p) (slot_at i) (IsSlotOf last s.refs s.given i) (λ e. absurd (omega arith))
        (image.slot i l);
    local = λ u q l m. at_number (λ f. IsLocalOf (f q) (get_or (slice_set words (local_at c t p) n) (local_at c u q) 0))
        s.locals t u (update nat_eq (s.locals t) p o)
        (λ e.
        at_number (λ r. IsLocalOf r (get_or (slice_set words (local_at c t p) n) (local_at c u q) 0)) (s.locals t) p q o
        (λ e'. subst (λ k. IsLocalOf o (get_or (slice_set words (local_at c t p) n) k 0)) (ap (λ k. local_at c k p) e
        ∙ ap (λ k. local_at c u k) e') (here (local_at c t p) (IsLocalOf o) (omega arith) x))
        (λ ne.
        subst (λ k. IsLocalOf (s.locals k q) (get_or (slice_set words (local_at c t p) n) (local_at c u q) 0)) (sym e)
        (other (local_at c t p) (local_at c u q) (IsLocalOf (s.locals u q))
        (λ z. ne (sym (local_apart c u q t p m place z).1)) (image.local u q l m))))
        (λ ne. other (local_at c t p) (local_at c u q) (IsLocalOf (s.locals u q))
        (λ z. ne (sym (local_apart c u q t p m place z).0)) (image.local u q l m));
    header = λ r l m. other (local_at c t p) (header_at c r) (IsHeaderOf (s.objects r)) (λ e. absurd (omega arith))
        (image.header r l m);
    moving = image.moving;
    held_by_role = record { each = image.held_by_role.each; still = image.held_by_role.still };
    space = space_low c words (local_at c t p) n (omega arith) s.objects (IsIn s.used) image.moving held image.space;
  }

  -- where the word of several parts changes, the space is the caller's to show
  pub top_set : (used : ℕ) (moving : Option Move) (held' : ℕ → Holdings) → AreHeld s.role moving held' → IsTopOf used n
      → IsSpace c (slice_set words top_at n) s.objects (IsIn used) moving held'
      → IsImage c last (slice_set words top_at n) (record s { used = used }) held'
  top_set used moving held' held_by_role x space = let wide = image.wide in record {
    wide = length-set words top_at n ∙ image.wide;
    gate = other 1 0 (IsGateOf c s.role) (λ e. absurd (omega arith)) image.gate;
    top = here 1 (IsTopOf used) (omega arith) x;
    slot = λ i l. other 1 (slot_at i) (IsSlotOf last s.refs s.given i) (λ e. absurd (omega arith)) (image.slot i l);
    local = λ t p l m.
        other 1 (local_at c t p) (IsLocalOf (s.locals t p)) (λ e. absurd (omega arith)) (image.local t p l m);
    header =
        λ o l m. other 1 (header_at c o) (IsHeaderOf (s.objects o)) (λ e. absurd (omega arith)) (image.header o l m);
    moving = moving;
    held_by_role = record { each = held_by_role.each; still = held_by_role.still };
    space = space;
  }

  pub header_set : (o : ℕ) (x : Option Contents) (moving : Option Move) (held' : ℕ → Holdings)
      → AreHeld s.role moving held' → 1 ≤ o → o ≤ c.objects → IsHeaderOf x n
      → IsSpace c (slice_set words (header_at c o) n) (update nat_eq s.objects o x) (IsIn s.used) moving held'
      → IsImage c last (slice_set words (header_at c o) n) (record s { objects = update nat_eq s.objects o x }) held'
  header_set o x moving held' held_by_role low high h space = let wide = image.wide in record {
    wide = length-set words (header_at c o) n ∙ image.wide;
    gate = other (header_at c o) 0 (IsGateOf c s.role) (λ e. absurd (omega arith)) image.gate;
    top = other (header_at c o) 1 (IsTopOf s.used) (λ e. absurd (omega arith)) image.top;
    slot = λ i l.
        other (header_at c o) (slot_at i) (IsSlotOf last s.refs s.given i) (λ e. absurd (omega arith)) (image.slot i l);
    local = λ t p l m. other (header_at c o) (local_at c t p) (IsLocalOf (s.locals t p))
        (λ e. let below = local_below c t p l m in absurd (omega arith)) (image.local t p l m);
    header = λ r l m.
        at_number (λ y. IsHeaderOf y (get_or (slice_set words (header_at c o) n) (header_at c r) 0)) s.objects o r x
        (λ e. subst (λ k. IsHeaderOf x (get_or (slice_set words (header_at c o) n) (header_at c k) 0)) e
        (here (header_at c o) (IsHeaderOf x) (omega arith) h))
        (λ ne.
        other (header_at c o) (header_at c r) (IsHeaderOf (s.objects r)) (λ z. ne (omega arith)) (image.header r l m));
    moving = moving;
    held_by_role = record { each = held_by_role.each; still = held_by_role.still };
    space = space;
  }

  -- a word of array space, where the objects keep their headers
  pub element_set : (x : ℕ) (objects : ℕ → Option Contents) (moving : Option Move) (held' : ℕ → Holdings)
      → AreHeld s.role moving held' → x < c.words → ((o w : ℕ) → IsHeaderOf (s.objects o) w → IsHeaderOf (objects o) w)
      → IsSpace c (slice_set words (element_at c x) n) objects (IsIn s.used) moving held'
      → IsImage c last (slice_set words (element_at c x) n) (record s { objects = objects }) held'
  element_set x objects moving held' held_by_role row same space = let wide = image.wide in record {
    wide = length-set words (element_at c x) n ∙ image.wide;
    gate = other (element_at c x) 0 (IsGateOf c s.role) (λ e. absurd (omega arith)) image.gate;
    top = other (element_at c x) 1 (IsTopOf s.used) (λ e. absurd (omega arith)) image.top;
    slot = λ i l. other (element_at c x) (slot_at i) (IsSlotOf last s.refs s.given i) (λ e. absurd (omega arith))
        (image.slot i l);
    local = λ t p l m. other (element_at c x) (local_at c t p) (IsLocalOf (s.locals t p))
        (λ e. let below = local_below c t p l m in absurd (omega arith)) (image.local t p l m);
    header = λ o l m. other (element_at c x) (header_at c o) (IsHeaderOf (objects o)) (λ e. absurd (omega arith))
        (same o (get_or words (header_at c o) 0) (image.header o l m));
    moving = moving;
    held_by_role = record { each = held_by_role.each; still = held_by_role.still };
    space = space;
  }

module _ (c : Config) (last : ℕ) (words : List ℕ) (s : State) (held : ℕ → Holdings)
    (image : IsImage c last words s held) where
  pub with_space : (moving : Option Move) (held' : ℕ → Holdings) → AreHeld s.role moving held'
      → IsSpace c words s.objects (IsIn s.used) moving held' → IsImage c last words s held'
  with_space moving held' held_by_role space = record {
    wide = image.wide;
    gate = image.gate;
    top = image.top;
    slot = image.slot;
    local = image.local;
    header = image.header;
    moving = moving;
    held_by_role = held_by_role;
    space = space;
  }

  -- who holds the same
  pub image_same : (held' : ℕ → Holdings) → ((u : ℕ) → held' u ≡ held u) → IsImage c last words s held'
  image_same held' same =
      with_space image.moving held' (held_by_role_same s.role image.moving held held' same image.held_by_role)
      (space_same c words s.objects (IsIn s.used) image.moving held image.space held' same)

  -- a thread holds nothing any more, where no move of its own is unfinished
  pub image_let_go : (t : ℕ) → MayHold image.moving (s.role t) empty → IsImage c last words s (hold held t empty)
  image_let_go t may = with_space image.moving (hold held t empty) (held_by_role_held s.role image.moving held t empty
      may image.held_by_role) (space_let_go c words s.objects (IsIn s.used) image.moving held image.space t)
