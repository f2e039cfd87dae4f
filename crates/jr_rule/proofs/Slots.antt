-- What the word of a slot tells, and the parts of references.
use Rattle.std.proofs.Common.{◌≡◌, ◌≢◌, ◌<◌, ℕ, Option, Some, None, refl, arith, ◌^◌, inl, inr, ⊎_elim}
use Rattle.std.proofs.Common.{◌↔◌, ◌≤◌, ◌==◌, Bool, true, false, cond, IsTrue, sym, ap, subst, ◌∙◌}
use Rattle.std.proofs.Props.{props}
use Rattle.jr_word.specs.declared.handle.RefKind.{RefKind}
use Rattle.jr_word.specs.declared.slot.SlotParts.{SlotParts}
use Rattle.jr_word.specs.Slot.{NamesObject, IsSlot, slot_word}
use Rattle.jr_word.specs.declared.config.Config.{Config}
use Rattle.jr_word.specs.declared.handle.RefKind.TheVariants.{Local, Global, Weak}
use Rattle.jr_word.specs.declared.slot.SlotParts.TheVariants as slot
use Rattle.jr_word.proofs.OneWord.{slot_word-injective}
use Rattle.jr_model.specs.declared.event.Found.{Found}
use Rattle.jr_model.specs.declared.event.Found.TheVariants.{Object, Cleared, Stale}
use Rattle.jr_model.specs.State.{Handle, State, same_kind, same_handle, IsOccupied}
use Rattle.jr_model.specs.History.{History, state, IsLegal}
use Rattle.jr_model.proofs.Updates.{and_left, and_right, kind_true, kind_self, eq_true}
use Rattle.jr_model.proofs.Updates.{eq_self, same_parts, handle_true, handle_false}
use Rattle.jr_model.proofs.References.{kept_state}
use Rattle.jr_model.proofs.Presence.{sound_state}
use Rattle.jr_model.proofs.InRoom.{in_room}
use Rattle.jr_steps.specs.declared.known.Known.{Known}
use Rattle.jr_steps.specs.Knowing.{IsFreeSlot, ShowsSlot, state_of}
use Rattle.jr_steps.specs.Acts.{found_of, is_its, reply, is_occupied, handle_of}
use Rattle.jr_steps.specs.Says.{StandsAlone, StandsAs, SaysOfSlot}
use Rattle.jr_rule.specs.Slots.{CanStand, IsReference}
use Rattle.jr_rule.specs.Image.{IsSlotOf}

-- the parts of a reference are those that a slot can have
pub names_object : (kind : RefKind) (n : ℕ) (o : Option ℕ) (p : SlotParts) → IsReference kind n o p
    → ((x : ℕ) → o ≡ Some x → 0 < x) → NamesObject p
names_object kind n o (slot.Free m) is some = absurd is
names_object kind n o (slot.Retired m) is some = absurd is
names_object kind n o (slot.Global m r) is some = some r is.2
names_object kind n o (slot.Weak m None) is some = tt
names_object kind n o (slot.Weak m (Some r)) is some = some r is.2

pub reference_fits : (kind : RefKind) (n : ℕ) (o : Option ℕ) (p : SlotParts) → IsReference kind n o p → n < 2 ^ 32
    → ((x : ℕ) → o ≡ Some x → (0 < x) × (x < 2 ^ 16)) → IsSlot p
reference_fits kind n o (slot.Free m) is l some = absurd is
reference_fits kind n o (slot.Retired m) is l some = absurd is
reference_fits kind n o (slot.Global m r) is l some = let x = some r is.2 in let e = is.1 in
    record { serial = omega arith; object = x.1; names = x.0 }
reference_fits kind n o (slot.Weak m None) is l some = let e = is.1 in
    record { serial = omega arith; object = omega arith; names = tt }
reference_fits kind n o (slot.Weak m (Some r)) is l some = let x = some r is.2 in let e = is.1 in
    record { serial = omega arith; object = x.1; names = x.0 }

-- each global or weak reference to an object has parts
pub some_reference : (kind : RefKind) (n o : ℕ) → kind ≢ Local → (p : SlotParts) × IsReference kind n (Some o) p
some_reference Local n o global = absurd (global refl)
some_reference Global n o global = (slot.Global n o, (refl, refl, refl))
some_reference Weak n o global = (slot.Weak n (Some o), (refl, refl, refl))

pub can_prop : (kind : RefKind) (o : Option ℕ) → IsProp (CanStand kind o)
can_prop Local o = hlevel props
can_prop Global None = hlevel props
can_prop Global (Some o) = hlevel props
can_prop Weak o = hlevel props

-- a handle of a slot is told by its kind and serial
pub handle_is : (h : Handle) (k : RefKind) (n i : ℕ) → k ≡ h.kind → n ≡ h.serial → h.index ≡ i → h.owner ≡ 0
    → handle_of k n i ≡ h
handle_is h k n i a b at owner = same_parts k h.kind n h.serial i h.index 0 h.owner a b (sym at) (sym owner)

-- the test whether a slot's reference is the handle's
its : (refs : Handle → Found) (next : ℕ) (h : Handle) (k : RefKind) (n i : ℕ) (r : Found) → h.index ≡ i → h.owner ≡ 0
    → StandsAlone refs next (handle_of k n i) r → cond (is_its h k n) r Stale ≡ refs h
its refs next h k n i r at owner y = go (is_its h k n) refl
  where
    go : (b : Bool) → is_its h k n ≡ b → cond b r Stale ≡ refs h
    go true e =
        let kind = kind_true k h.kind (and_left (same_kind k h.kind) (n == h.serial) e) in
        let serial = eq_true n h.serial (and_right (same_kind k h.kind) (n == h.serial) e) in
        sym y.found ∙ ap refs (handle_is h k n i kind serial at owner)
    go false e = sym (y.alone h at (λ z. let self : is_its h k n
        ≡ true = subst (λ (g : Handle). is_its g k n ≡ true) (sym z) (rw (kind_self k, eq_self n) refl) in cc))

pub found_there : (o : Option ℕ) → found_of o ≢ Stale
found_there None e = cc
found_there (Some o) e = cc

found_some : (o : Option ℕ) (x : ℕ) → found_of o ≡ Object x → o ≡ Some x
found_some None x e = absurd cc
found_some (Some y) x e = cc

found_same : (o p : Option ℕ) → found_of o ≡ found_of p → o ≡ p
found_same o None e = none o e
  where
    none : (q : Option ℕ) → found_of q ≡ Cleared → q ≡ None
    none None f = refl
    none (Some x) f = absurd cc
found_same o (Some x) e = found_some o x e

-- the one handle of an index that stands
only : (refs : Handle → Found) (next : ℕ) (g h : Handle) (r : Found) → h.index ≡ g.index → StandsAlone refs next g r
    → refs h ≢ Stale → g ≡ h
only refs next g h r at y there = go (same_handle g h) refl
  where
    go : (b : Bool) → same_handle g h ≡ b → g ≡ h
    go true e = handle_true g h e
    go false e = absurd (there (y.alone h at (λ z. handle_false g h e (sym z))))

module _ (last : ℕ) (refs : Handle → Found) (i next : ℕ) where
  reply_is : (h : Handle) → h.index ≡ i → h.owner ≡ 0 → (p : SlotParts) → StandsAs last refs i next p
      → reply h p ≡ refs h
  reply_is h at owner (slot.Free n) y = sym (y.0 h at)
  reply_is h at owner (slot.Retired n) y = sym (y.0 h at)
  reply_is h at owner (slot.Global n o) y = its refs next h Global n i (Object o) at owner y
  reply_is h at owner (slot.Weak n o) y = its refs next h Weak n i (found_of o) at owner y

  -- a handle that stands is the slot's reference
  pub reference_is : (h : Handle) (o : Option ℕ) → h.index ≡ i → refs h ≡ found_of o → (p : SlotParts)
      → StandsAs last refs i next p → IsReference h.kind h.serial o p
  reference_is h o at stands (slot.Free n) y = absurd (found_there o (sym stands ∙ y.0 h at))
  reference_is h o at stands (slot.Retired n) y = absurd (found_there o (sym stands ∙ y.0 h at))
  reference_is h o at stands (slot.Global n r) y =
      let e = only refs next (handle_of Global n i) h (Object r) at y (λ z. found_there o (sym stands ∙ z)) in (
        sym (ap (λ (g : Handle). g.kind) e),
        sym (ap (λ (g : Handle). g.serial) e),
        found_some o r (sym stands ∙ (ap refs (sym e) ∙ y.found)),
      )
  reference_is h o at stands (slot.Weak n r) y =
      let e = only refs next (handle_of Weak n i) h (found_of r) at y (λ z. found_there o (sym stands ∙ z)) in (
        sym (ap (λ (g : Handle). g.kind) e),
        sym (ap (λ (g : Handle). g.serial) e),
        found_same o r (sym stands ∙ (ap refs (sym e) ∙ y.found)),
      )

-- the slot's reference, as its word's parts say it
pub stands_in : (last : ℕ) (refs : Handle → Found) (i next : ℕ) (kind : RefKind) (n : ℕ) (o : Option ℕ) (p : SlotParts)
    → IsReference kind n o p → StandsAs last refs i next p → StandsAlone refs next (handle_of kind n i) (found_of o)
stands_in last refs i next kind n o (slot.Free m) is y = absurd is
stands_in last refs i next kind n o (slot.Retired m) is y = absurd is
stands_in last refs i next kind n o (slot.Global m r) is y =
    subst (λ (z : RefKind × ℕ × Option ℕ). StandsAlone refs next (handle_of z.0 z.1 i) (found_of z.2))
    (λ j. (sym is.0 j, sym is.1 j, sym is.2 j)) y
stands_in last refs i next kind n o (slot.Weak m r) is y =
    subst (λ (z : RefKind × ℕ × Option ℕ). StandsAlone refs next (handle_of z.0 z.1 i) (found_of z.2))
    (λ j. (sym is.0 j, sym is.1 j, sym is.2 j)) y

-- and back
pub says_in : (last : ℕ) (refs : Handle → Found) (i next : ℕ) (kind : RefKind) (n : ℕ) (o : Option ℕ) (p : SlotParts)
    → IsReference kind n o p → StandsAlone refs next (handle_of kind n i) (found_of o) → StandsAs last refs i next p
says_in last refs i next kind n o (slot.Free m) is y = absurd is
says_in last refs i next kind n o (slot.Retired m) is y = absurd is
says_in last refs i next kind n o (slot.Global m r) is y =
    subst (λ (z : RefKind × ℕ × Option ℕ). StandsAlone refs next (handle_of z.0 z.1 i) (found_of z.2))
    (λ j. (is.0 j, is.1 j, is.2 j)) y
says_in last refs i next kind n o (slot.Weak m r) is y =
    subst (λ (z : RefKind × ℕ × Option ℕ). StandsAlone refs next (handle_of z.0 z.1 i) (found_of z.2))
    (λ j. (is.0 j, is.1 j, is.2 j)) y

-- two readings of one reference are one
pub one_reference : (kind : RefKind) (n : ℕ) (o : Option ℕ) (p q : SlotParts) → IsReference kind n o p
    → IsReference kind n o q → p ≡ q
one_reference kind n o (slot.Global a x) (slot.Global b y) i j = let e = sym i.2 ∙ j.2 in let f = sym i.1 ∙ j.1 in cc
one_reference kind n o (slot.Weak a x) (slot.Weak b y) i j = let e = sym i.2 ∙ j.2 in let f = sym i.1 ∙ j.1 in cc
one_reference kind n o (slot.Global a x) (slot.Weak b y) i j = absurd (let e = sym i.0 ∙ j.0 in cc)
one_reference kind n o (slot.Weak a x) (slot.Global b y) i j = absurd (let e = sym i.0 ∙ j.0 in cc)
one_reference kind n o (slot.Free a) q i j = absurd i
one_reference kind n o (slot.Retired a) q i j = absurd i
one_reference kind n o (slot.Global a x) (slot.Free b) i j = absurd j
one_reference kind n o (slot.Global a x) (slot.Retired b) i j = absurd j
one_reference kind n o (slot.Weak a x) (slot.Free b) i j = absurd j
one_reference kind n o (slot.Weak a x) (slot.Retired b) i j = absurd j

-- what a look finds
pub looks : (last : ℕ) (refs : Handle → Found) (given : Handle → Bool) (i w : ℕ) (x : IsSlotOf last refs given i w)
    (h : Handle) → h.index ≡ i → h.owner ≡ 0 → reply h x.parts ≡ refs h
looks last refs given i w x h at owner = reply_is last refs i x.says.next h at owner x.parts x.says.stands

module _ (last : ℕ) (s : State) (i w : ℕ) (x : IsSlotOf last s.refs s.given i w) where
  -- whether the index is occupied
  pub probes : IsTrue (is_occupied x.parts) ↔ IsOccupied last s i
  probes = go x.parts x.says.stands
    where
      go : (p : SlotParts) → StandsAs last s.refs i x.says.next p → IsTrue (is_occupied p) ↔ IsOccupied last s i
      go (slot.Free n) y = (
        λ e. absurd cc,
        λ o. absurd (⊎_elim
            (λ (q : (h : Handle) × (h.index ≡ i) × (s.refs h ≢ Stale)). q.2 (y.0 q.0 q.1))
            (λ (q : (serial : ℕ) → serial ≤ last
            → (h : Handle) × (h.index ≡ i) × (h.serial ≡ serial) × (s.given h ≡ true)).
            let z = q x.says.next y.2 in
            let not = x.says.serials.above z.0 z.1 (let e = z.2 in omega arith) in
            let yes' = z.3 in cc)
            o),
      )
      go (slot.Retired n) y =
          (λ e. inr (λ serial l. x.says.serials.below serial (let far = y.2 in omega arith)), λ o. refl)
      go (slot.Global n o) y = (λ e. inl (handle_of Global n i, refl, λ z. let f = y.found in cc), λ q. refl)
      go (slot.Weak n o) y = (λ e. inl (handle_of Weak n i, refl, λ z. found_there o (sym y.found ∙ z)), λ q. refl)

module _ (c : Config) (last : ℕ) (log : History) (legal : IsLegal c last log) (few_serials : last < 2 ^ 32)
    (few_objects : c.objects < 2 ^ 16) where
  -- the parts of a slot are those that a slot can have
  pub slot_fits : (i w : ℕ) (x : IsSlotOf last (state log).refs (state log).given i w) → IsSlot x.parts
  slot_fits i w x = go x.parts x.says.stands
    where
      standing : (h : Handle) → (state log).refs h ≢ Stale → h.serial < 2 ^ 32
      standing h ne = let kept = kept_state c last log legal in let row = kept.in_row h (kept.was_given h ne) in
          let fits = row.3 in omega arith

      object : (h : Handle) (o : ℕ) → (state log).refs h ≡ Object o → (0 < o) × (o < 2 ^ 16)
      object h o e = let r = (in_room c last log legal).objects o ((sound_state c last log legal).named h o e) in
          (omega arith, omega arith)

      go : (p : SlotParts) → StandsAs last (state log).refs i x.says.next p → IsSlot p
      go (slot.Free n) y = let a = y.1 in let b = y.2 in
          record { serial = omega arith; object = omega arith; names = tt }
      go (slot.Retired n) y = let a = y.1 in record { serial = omega arith; object = omega arith; names = tt }
      go (slot.Global n o) y =
          let r = object (handle_of Global n i) o y.found in
          record { serial = standing (handle_of Global n i) (λ e. let f = y.found in cc); object = r.1; names = r.0 }
      go (slot.Weak n None) y = record {
        serial = standing (handle_of Weak n i) (λ e. found_there None (sym y.found ∙ e));
        object = omega arith;
        names = tt;
      }
      go (slot.Weak n (Some o)) y =
          let r = object (handle_of Weak n i) o y.found in
          record {
            serial = standing (handle_of Weak n i) (λ e. found_there (Some o) (sym y.found ∙ e));
            object = r.1;
            names = r.0;
          }

  -- the parts that were read are those of the image
  pub read_parts : (i w : ℕ) (x : IsSlotOf last (state log).refs (state log).given i w) (p : SlotParts) → IsSlot p
      → w ≡ slot_word p → x.parts ≡ p
  read_parts i w x p fits e = slot_word-injective x.parts p (slot_fits i w x) fits (sym x.word ∙ e)

-- the next serial of a free slot is one that a slot has
pub free_fits : (i serial : ℕ) (k : Known) → IsFreeSlot i serial k → serial ≤ k.last
free_fits i serial k free = let same = free.stands.1 in let below = free.stands.2 in omega arith

-- what a slot's word shows
pub shows_slot : (i w : ℕ) (s : State) (k : Known) (x : IsSlotOf k.last s.refs s.given i w) (p : SlotParts)
    → x.parts ≡ p → s ≡ state_of k → ShowsSlot i p k
shows_slot i w s k x p is same = subst (λ (z : State). SaysOfSlot k.last z.refs z.given i p) same
    (subst (SaysOfSlot k.last s.refs s.given i) is x.says)
