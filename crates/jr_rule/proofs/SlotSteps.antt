-- Legal steps at a slot, over any words and any history.
use Rattle.std.proofs.Common.{◌≡◌, ◌≢◌, ⊎_elim, ◌↔◌, IsTrue, ◌+◌, ◌^◌, ◌<◌, ◌≤◌, ◌==◌, ℕ}
use Rattle.std.proofs.Common.{Bool, true, false, nat_lt, if◌then◌else◌, Option, Some, List}
use Rattle.std.proofs.Common.{[], ◌∷◌, get_or, slice_set, refl, sym, ap, subst, ◌∙◌, arith}
use Rattle.std.proofs.lemmas.Bool.Decides.{nat_tests}
use Rattle.jr_word.specs.declared.config.Config.{Config}
use Rattle.jr_word.specs.declared.handle.RefKind.{RefKind}
use Rattle.jr_word.specs.declared.handle.RefKind.TheVariants.{Local}
use Rattle.jr_word.specs.declared.slot.SlotParts.{SlotParts}
use Rattle.jr_word.specs.declared.slot.SlotParts.TheVariants as slot
use Rattle.jr_word.specs.Slot.{slot_word, IsSlot}
use Rattle.jr_model.specs.declared.event.Role.TheVariants.{Within}
use Rattle.jr_model.specs.declared.event.Found.{Found}
use Rattle.jr_model.specs.declared.event.Found.TheVariants.{Object, Stale}
use Rattle.jr_model.specs.declared.event.Act.TheVariants.{Create, Probe, Delete, DeleteStale}
use Rattle.jr_model.specs.Maps.{update}
use Rattle.jr_model.specs.State.{Handle, same_handle, State, IsPresent, IsOccupied}
use Rattle.jr_model.specs.History.{History, state, IsLegal}
use Rattle.jr_model.proofs.Updates.{at_handle, at_handle_self, eq_true, eq_false}
use Rattle.jr_steps.specs.declared.loads.SlotLoad.{SlotLoad}
use Rattle.jr_steps.specs.declared.loads.SlotLoad.TheVariants as loads
use Rattle.jr_steps.specs.Acts.{found_of, reply, act_of_slot_load, SlotLoadFits, is_occupied, handle_of}
use Rattle.jr_steps.specs.declared.known.Holdings.{Holdings}
use Rattle.jr_steps.specs.Says.{AreGivenBelow, NoneStands, StandsAlone, StandsAs}
use Rattle.jr_rule.specs.Image.{slot_at, IsSlotOf, IsImage}
use Rattle.jr_rule.specs.Slots.{IsReference, parts_once_free}
use Rattle.jr_rule.proofs.LegalSteps.{LegalStep, one_legal}
use Rattle.jr_rule.proofs.Images.{slot_set}
use Rattle.jr_rule.proofs.Slots.{found_there, handle_is, looks, probes, read_parts}
use Rattle.jr_rule.proofs.Slots.{reference_is, stands_in, says_in, one_reference}
use Rattle.jr_rule.proofs.Looked.{IsLooked}

-- a new reference stands in a slot that was free
claimed_slot : (last : ℕ) (s : State) (i serial next : ℕ) (kind : RefKind) (o : ℕ) (p : SlotParts)
    → IsReference kind serial (Some o) p → serial ≡ next → NoneStands s.refs i → AreGivenBelow s.given i next
    → IsSlotOf last (update same_handle s.refs (handle_of kind serial i) (Object o))
    (update same_handle s.given (handle_of kind serial i) true) i (slot_word p)
claimed_slot last s i serial next kind o p is e none given =
    let h : Handle = handle_of kind serial i in
    let refs : Handle → Found = update same_handle s.refs h (Object o) in
    record {
      parts = p;
      word = refl;
      says = record {
        next = next + 1;
        serials = record {
          below = λ n l. by_serial n l (n == next) refl;
          above =
              λ g at l. at_handle (λ b. b ≡ false) s.given h g true (λ z. let same = ap (λ (f : Handle). f.serial) z in
              absurd (omega arith)) (λ ne. given.above g at (omega arith));
        };
        stands = says_in last refs i (next + 1) kind serial (Some o) p is record {
          latest = omega arith;
          found = at_handle_self s.refs h (Object o);
          alone =
              λ g at ne. at_handle (λ r. r ≡ Stale) s.refs h g (Object o) (λ z. absurd (ne (sym z))) (λ ne'. none g at);
        };
      };
    }
  where
    by_serial : (n : ℕ) → n < next + 1 → (b : Bool) → (n == next) ≡ b → (g : Handle) × (g.index ≡ i) × (g.serial ≡ n)
        × (update same_handle s.given (handle_of kind serial i) true g ≡ true)
    by_serial n l true t = (
      handle_of kind serial i,
      refl,
      e ∙ sym (eq_true n next t),
      at_handle_self s.given (handle_of kind serial i) true,
    )
    by_serial n l false t =
        let apart = eq_false n next t in
        let g = given.below n (omega arith) in
        (g.0, g.1, g.2, at_handle (λ b. b ≡ true) s.given (handle_of kind serial i) g.0 true (λ z. refl) (λ ne. g.3))

-- the slot of a reference that was deleted
freed_slot : (last : ℕ) (s : State) (h : Handle) (next : ℕ) (r : Found) → StandsAlone s.refs next h r
    → AreGivenBelow s.given h.index next
    → IsSlotOf last (update same_handle s.refs h Stale) s.given h.index (slot_word (parts_once_free last h.serial))
freed_slot last s h next r y given = record {
  parts = parts_once_free last h.serial;
  word = refl;
  says = record { next = next; serials = given; stands = go (nat_lt h.serial last) refl };
}
  where
    none : NoneStands (update same_handle s.refs h Stale) h.index
    none g at = at_handle (λ x. x ≡ Stale) s.refs h g Stale (λ e. refl) (λ ne. y.alone g at (λ z. ne (sym z)))

    go : (b : Bool) → nat_lt h.serial last ≡ b → StandsAs last (update same_handle s.refs h Stale) h.index next (if b
        then slot.Free (h.serial + 1) else slot.Retired last)
    go true e = let l : h.serial < last = grind (arith, nat_tests) in let n = y.latest in (none, n, omega arith)
    go false e = let l : last ≤ h.serial = grind (arith, nat_tests) in let n = y.latest in (none, refl, omega arith)

module _ (c : Config) (last : ℕ) (log : History) (t : ℕ) (words : List ℕ) (legal : IsLegal c last log)
    (held : ℕ → Holdings) (image : IsImage c last words (state log) held) (row : t < c.threads)
    (within : (state log).role t ≡ Within) where
  -- a load of a slot counts as what it is named
  pub sees : (i : ℕ) (name : SlotLoad) (p : SlotParts) (l : i < c.slots) → SlotLoadFits i name
      → (image.slot i l).parts ≡ p → LegalStep c last log t (act_of_slot_load i name p ∷ []) words held
  sees i loads.Meet p l fits e =
      one_legal c last log t words held legal (act_of_slot_load i loads.Meet p) (row, tt) image
  sees i (loads.Look h) p l fits e = one_legal c last log t words held legal (act_of_slot_load i (loads.Look h) p) (
    row,
    (
      within,
      sym (looks last (state log).refs (state log).given i (get_or words (slot_at i) 0) (image.slot i l) h fits.0
          fits.2) ∙ ap (reply h) e,
    ),
  ) image
  sees i loads.Probe p l fits e = one_legal c last log t words held legal (Probe i (is_occupied p)) (
    row,
    (
      within,
      subst (λ q. IsTrue (is_occupied q) ↔ IsOccupied last (state log) i) e
          (probes last (state log) i (get_or words (slot_at i) 0) (image.slot i l)),
    ),
  ) image

  module _ (few_serials : last < 2 ^ 32) (few_objects : c.objects < 2 ^ 16) where
    -- a claim of a free slot
    pub claims : (i serial : ℕ) (kind : RefKind) (o : ℕ) (p : SlotParts) → i < c.slots → serial < 2 ^ 32 → kind ≢ Local
        → IsReference kind serial (Some o) p → IsPresent (state log) o
        → get_or words (slot_at i) 0 ≡ slot_word (slot.Free serial)
        → LegalStep c last log t (Create (handle_of kind serial i) o ∷ []) (slice_set words (slot_at i) (slot_word p))
        held
    claims i serial kind o p l small global is present found =
        let s : State = state log in
        let h : Handle = handle_of kind serial i in
        let x = image.slot i l in
        let free : x.parts ≡ slot.Free serial =
        read_parts c last log legal few_serials few_objects i (get_or words (slot_at i) 0) x (slot.Free serial)
        (record { serial = small; object = omega arith; names = tt }) found in
        let says = subst (StandsAs last s.refs i x.says.next) free x.says.stands in
        let next = says.1 in
        let fits = says.2 in
        one_legal c last log t (slice_set words (slot_at i) (slot_word p)) held legal (Create h o) (
          row,
          (
            within,
            present,
            (global, refl, l, omega arith),
            says.0,
            λ g at same. x.says.serials.above g at (omega arith),
          ),
        )
        (slot_set c last words s held image (slot_word p) i (update same_handle s.refs h (Object o))
        (update same_handle s.given h true) l
        (claimed_slot last s i serial x.says.next kind o p is next says.0 x.says.serials)
        (λ g apart. (
          at_handle (λ r. r ≡ s.refs g) s.refs h g (Object o)
              (λ z. absurd (apart (sym (ap (λ (f : Handle). f.index) z)))) (λ ne. refl),
          at_handle (λ b. b ≡ s.given g) s.given h g true (λ z. absurd (apart (sym (ap (λ (f : Handle). f.index) z))))
              (λ ne. refl),
        )))

    -- a delete of a reference that still stands
    pub frees : (h : Handle) (o : Option ℕ) (p : SlotParts) → IsLooked c last h o (state log)
        → IsReference h.kind h.serial o p → IsSlot p → get_or words (slot_at h.index) 0 ≡ slot_word p
        → LegalStep c last log t (Delete h ∷ [])
        (slice_set words (slot_at h.index) (slot_word (parts_once_free last h.serial))) held
    frees h o p looked is fits found =
        let s : State = state log in
        let i : ℕ = h.index in
        let l = looked.row.2 in
        let x = image.slot i l in
        let read : x.parts ≡ p =
        read_parts c last log legal few_serials few_objects i (get_or words (slot_at i) 0) x p fits found in
        let named = stands_in last s.refs i x.says.next h.kind h.serial o p is
        (subst (StandsAs last s.refs i x.says.next) read x.says.stands) in
        let alone : StandsAlone s.refs x.says.next h (found_of o) =
        subst (λ g. StandsAlone s.refs x.says.next g (found_of o))
        (handle_is h h.kind h.serial i refl refl refl looked.row.1) named in
        one_legal c last log t (slice_set words (slot_at i) (slot_word (parts_once_free last h.serial))) held legal
        (Delete h)
        (row, (within, λ e. found_there o (sym alone.found ∙ e)))
        (slot_set c last words s held image (slot_word (parts_once_free last h.serial)) i
        (update same_handle s.refs h Stale) s.given l
        (freed_slot last s h x.says.next (found_of o) alone x.says.serials)
        (λ g apart. (
          at_handle (λ r. r ≡ s.refs g) s.refs h g Stale (λ z. absurd (apart (sym (ap (λ (f : Handle). f.index) z))))
              (λ ne. refl),
          refl,
        )))

    -- a delete that comes too late
    pub frees_late : (h : Handle) (o : Option ℕ) (p : SlotParts) → IsLooked c last h o (state log)
        → IsReference h.kind h.serial o p → get_or words (slot_at h.index) 0 ≢ slot_word p
        → LegalStep c last log t (DeleteStale h ∷ []) words held
    frees_late h o p looked is lost =
        let s : State = state log in
        let i : ℕ = h.index in
        let x = image.slot i looked.row.2 in
        let stale : s.refs h ≡ Stale = ⊎_elim
        (λ e. absurd (lost (x.word ∙ ap slot_word (one_reference h.kind h.serial o x.parts p
        (reference_is last s.refs i x.says.next h o refl e x.parts x.says.stands) is))))
        (λ e. e)
        looked.stands in
        one_legal c last log t words held legal (DeleteStale h) (row, (within, stale)) image
