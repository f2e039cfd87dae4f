-- What the steps of slots owe, wherever they find the row, and what a claim that is lost shows.
use Rattle.std.proofs.Common.{◌≡◌, ◌≢◌, ⊎_elim, ◌<◌, ◌≤◌, ℕ, true, false, ◌++◌, refl, sym}
use Rattle.std.proofs.Common.{ap, subst, ◌∙◌, arith, append_assoc, ◌⊎◌, inl, inr, ◌^◌}
use Rattle.std.proofs.Common.{Option, Some, Ok, Err, List, [], ◌∷◌, get_or, slice_set, eqb}
use Rattle.std.proofs.lemmas.Bool.{cases_lt}
use Rattle.std.proofs.Math.Logic.{∥∥₁_elim}
use Rattle.std.proofs.Props.{props}
use mathlib.Core.List.{IsPrefix}
use mathlib.Core.Logic.{dite, ∥∥₁_map}
use native.Mathlib.Decide.{ℕ_discrete}
use prog.Atomic.{either}
use Rattle.jr_word.specs.declared.config.Config.{Config}
use Rattle.jr_word.specs.declared.slot.SlotParts.{SlotParts}
use Rattle.jr_word.specs.declared.slot.SlotParts.TheVariants as slot
use Rattle.jr_word.specs.Slot.{slot_word}
use Rattle.jr_word.specs.declared.handle.RefKind.{RefKind}
use Rattle.jr_word.specs.declared.handle.RefKind.TheVariants.{Local}
use Rattle.jr_model.specs.State.{Handle, State, IsOccupied}
use Rattle.jr_model.specs.History.{History, state, state_from, IsLegal, IsLegalFrom, by, role_of}
use Rattle.jr_model.specs.Refusals.{Sometime}
use Rattle.jr_model.proofs.Histories.{legal_append, state_append, kept_from}
use Rattle.jr_model.proofs.References.{given_act, occupied_between}
use Rattle.jr_model.proofs.Moments.{sometime_last, prefix_self, sometime_wider}
use Rattle.jr_model.specs.declared.event.Role.TheVariants.{Within}
use Rattle.jr_model.specs.declared.event.Found.{Found}
use Rattle.jr_model.specs.declared.event.Found.TheVariants.{Object, Cleared, Stale}
use Rattle.jr_model.specs.declared.event.Act.{Act}
use Rattle.jr_model.specs.declared.event.Act.TheVariants.{Probe}
use Rattle.jr_steps.specs.declared.known.Known.{Known}
use Rattle.jr_steps.specs.Acts.{is_occupied, found_of, act_of_slot_load, SlotLoadFits, act_of_claim, act_of_free}
use Rattle.jr_steps.specs.Knowing.{IsFreeSlot, view, HasObject, HasLooked}
use Rattle.jr_steps.specs.Says.{StandsAs}
use Rattle.jr_steps.specs.declared.loads.SlotLoad.{SlotLoad}
use Rattle.jr_steps.specs.declared.loads.SlotLoad.TheVariants as loads
use Rattle.jr_rule.specs.Image.{IsSlotOf, slot_at}
use Rattle.jr_rule.specs.Rule.{IsSized, known_at, Owes}
use Rattle.jr_rule.specs.Slots.{IsReference, parts_once_free}
use Rattle.jr_rule.proofs.Slots.{probes, slot_fits, shows_slot, reference_fits, can_prop}
use Rattle.jr_rule.proofs.StillSo.{now, role_at, present_now, looked_later}
use Rattle.jr_rule.proofs.LegalSteps.{quiet, written, unwritten, won, lost}
use Rattle.jr_rule.proofs.Looked.{IsLooked, looked_at}
use Rattle.jr_rule.proofs.SlotSteps.{sees, claims, frees, frees_late}
use Rattle.jr_rule.proofs.Told.{SawSlot, Claimed, Freed}
use Rattle.jr_rule.proofs.ActEffects.{slot_load_state}

-- from one moment to a later one of a legal history
module _ (c : Config) (last : ℕ) (old new : History) (later : IsPrefix old new) (legal : IsLegal c last new) where
  between : IsLegalFrom c last (state old) later.0
  between = ((legal_append c last old later.0).0 (subst (IsLegal c last) (sym later.1) legal)).1

  end : state new ≡ state_from (state old) later.0
  end = ap state (sym later.1) ∙ state_append old later.0

  -- what was given stays so
  given_later : (h : Handle) → (state old).given h ≡ true → (state new).given h ≡ true
  given_later h e = subst (λ (s : State). s.given h ≡ true) (sym end) (kept_from c last (λ s. s.given h ≡ true)
      (λ s f i n. given_act c last h s f.thread f.act i) (state old) later.0 e between)

  -- where a handle was given since, its index was occupied
  given_since : (h : Handle) → (state old).given h ≡ false → (state new).given h ≡ true
      → Sometime (λ s. IsOccupied last s h.index) old new
  given_since h fresh there =
      let o =
      occupied_between c last h (state old) later.0 fresh (subst (λ (s : State). s.given h ≡ true) end there) between in
      record {
        moment = old ++ o.0;
        from = (o.0, refl);
        to = (o.1, append_assoc old o.0 o.1 ∙ (ap (λ l. old ++ l) (sym o.2) ∙ later.1));
        met = subst (λ s. IsOccupied last s h.index) (sym (state_append old o.0)) o.3;
      }

-- A CLAIM THAT IS LOST:
-- the slot was seen free with a serial, and does not have that word any more, so its index was occupied since
claim_lost : (k : Known) (log : History) → IsPrefix k.seen log → IsLegal k.config k.last log → (i serial w : ℕ)
    → IsFreeSlot i serial k → IsSlotOf k.last (state log).refs (state log).given i w → w ≢ slot_word (slot.Free serial)
    → Sometime (λ s. IsOccupied k.last s i) k.seen log
claim_lost k log later legal i serial w seen x lost = go x.parts refl x.says.stands
  where
    -- the serial that was seen was given since
    passed : serial < x.says.next → Sometime (λ s. IsOccupied k.last s i) k.seen log
    passed l =
        let g = x.says.serials.below serial l in
        subst (λ j. Sometime (λ s. IsOccupied k.last s j) k.seen log) g.1
        (given_since k.config k.last k.seen log later legal g.0
        (seen.serials.above g.0 g.1 (let e = g.2 in let f = seen.stands.1 in omega arith)) g.3)

    occupied : is_occupied x.parts ≡ true → Sometime (λ s. IsOccupied k.last s i) k.seen log
    occupied e = sometime_last later ((probes k.last (state log) i w x).0 e)

    behind : x.says.next < serial → ⊥
    behind l =
        let g = seen.serials.below x.says.next (let f = seen.stands.1 in omega arith) in
        let there = given_later k.config k.last k.seen log later legal g.0 g.3 in
        let not = x.says.serials.above g.0 g.1 (let e = g.2 in omega arith) in cc

    go : (p : SlotParts) → x.parts ≡ p → StandsAs k.last (state log).refs i x.says.next p
        → Sometime (λ s. IsOccupied k.last s i) k.seen log
    go (slot.Free n) is y = ⊎_elim passed
        (λ (z : x.says.next ≤ serial).
        absurd (⊎_elim behind (λ (v : serial ≤ x.says.next). let same : n ≡ serial = let e = y.1 in omega arith in
        lost (x.word ∙ (ap slot_word is ∙ ap (λ m. slot_word (slot.Free m)) same))) (cases_lt x.says.next serial)))
        (cases_lt serial x.says.next)
    go (slot.Retired n) is y =
        passed (let far = y.2 in let same = seen.stands.1 in let fits = seen.stands.2 in omega arith)
    go (slot.Global n o) is y = occupied (ap is_occupied is)
    go (slot.Weak n o) is y = occupied (ap is_occupied is)

-- the sizes bound what a slot's word has
pub few_objects : (c : Config) (last : ℕ) → IsSized c last → c.objects < 2 ^ 16
few_objects c last s = let o = s.limited.objects.1 in omega arith

-- what stands as it was found or is gone is one of the two
still_or_gone : (r s : Found) → ∥ ((r ≡ s) ⊎ (r ≡ Stale)) ∥₁ → (r ≡ s) ⊎ (r ≡ Stale)
still_or_gone Stale s h = inr refl
still_or_gone (Object o) s h = inl (∥∥₁_elim h (hlevel props) (λ q. ⊎_elim (λ e. e) (λ e. absurd cc) q))
still_or_gone Cleared s h = inl (∥∥₁_elim h (hlevel props) (λ q. ⊎_elim (λ e. e) (λ e. absurd cc) q))

looked_is : (c : Config) (last : ℕ) (h : Handle) (o : Option ℕ) (s : State)
    → ∥ IsLooked c last h o s ∥₁ → IsLooked c last h o s
looked_is c last h o s may = record {
  row = ∥∥₁_elim may (hlevel props) (λ q. q.row);
  can = ∥∥₁_elim may (can_prop h.kind o) (λ q. q.can);
  object = ∥∥₁_elim may (hlevel props) (λ q. q.object);
  stands = still_or_gone (s.refs h) (found_of o) (∥∥₁_map may (λ q. q.stands));
}

module _ (k : Known) (within : role_of (view k) ≡ Within) where
  pub sees_slot : (i : ℕ) (name : SlotLoad) → i < k.config.slots → SlotLoadFits i name
      → Owes k (slot_at i) (λ n. n) (SawSlot i name k)
  sees_slot i name l fits log words held f =
      let n : ℕ = get_or words (slot_at i) 0 in
      let x = f.image.slot i l in
      let acts : List Act = act_of_slot_load i name x.parts ∷ [] in
      let t = sees k.config k.last log k.thread words f.legal held f.image f.fits.row
      (role_at k log words held f ∙ within) i name x.parts l fits refl in
      quiet k log words held f (slice_set words (slot_at i) n) (SawSlot i name k n) acts
      (unwritten k log words held (slot_at i) t) (
        x.parts,
        slot_fits k.config k.last log f.legal (f.sized).serials (few_objects k.config k.last f.sized) i n x,
        x.word,
        refl,
        shows_slot i n (state log) (known_at k log acts k.holdings) x x.parts refl
            (sym (slot_load_state log k.thread i name x.parts)),
        refl,
      )

  pub claims_slot : (i serial : ℕ) (kind : RefKind) (o : ℕ) (p : SlotParts) → i < k.config.slots → serial ≤ k.last
      → kind ≢ Local → IsReference kind serial (Some o) p → HasObject o k
      → Owes k (slot_at i) (λ n. either (eqb n (slot_word (slot.Free serial))) (slot_word p) n) (Claimed i serial kind o
      k)
  claims_slot i serial kind o p l small global is present log words held f =
      let n : ℕ = get_or words (slot_at i) 0 in
      let free : ℕ = slot_word (slot.Free serial) in
      let x = f.image.slot i l in
      let inside = role_at k log words held f ∙ within in
      let few = (f.sized).serials in
      let objects = few_objects k.config k.last f.sized in
      let acts : List Act = act_of_claim i serial kind o (Err x.parts) ∷ [] in
      dite (ℕ_discrete n free)
      (λ here. quiet k log words held f (slice_set words (slot_at i) (either (eqb n free) (slot_word p) n))
      (Claimed i serial kind o k n) (act_of_claim i serial kind o (Ok tt) ∷ [])
      (written k log words held (slot_at i) (slot_word p) (either (eqb n free) (slot_word p) n)
      (won free (slot_word p) n here)
      (claims k.config k.last log k.thread words f.legal held f.image f.fits.row inside few objects i serial kind o p l
      (omega arith) global is (present_now k log words held f o within present) here))
      (λ e. refl, λ ne. absurd (ne here), refl))
      (λ other. quiet k log words held f (slice_set words (slot_at i) (either (eqb n free) (slot_word p) n))
      (Claimed i serial kind o k n) acts
      (written k log words held (slot_at i) n (either (eqb n free) (slot_word p) n) (lost free (slot_word p) n other)
      (unwritten k log words held (slot_at i) (sees k.config k.last log k.thread words f.legal held f.image f.fits.row
      inside i loads.Probe x.parts l tt refl))) (
        λ e. absurd (other e),
        λ ne. (
          x.parts,
          slot_fits k.config k.last log f.legal few objects i n x,
          x.word,
          refl,
          λ seen. (
            sometime_wider (prefix_self k.seen) (by k.thread (Probe i (is_occupied x.parts)) ∷ [], refl)
                (claim_lost k log f.fits.begins f.legal i serial n seen x other),
            shows_slot i n (state log) (known_at k log acts k.holdings) x x.parts refl
                (sym (slot_load_state log k.thread i loads.Probe x.parts)),
          ),
        ),
        refl,
      ))

  pub frees_slot : (h : Handle) (o : Option ℕ) (p : SlotParts) → IsReference h.kind h.serial o p
      → ∥ HasLooked h (found_of o) k ∥₁
      → Owes k (slot_at h.index) (λ n. either (eqb n (slot_word p)) (slot_word (parts_once_free k.last h.serial)) n)
      (Freed h (slot_word p) k)
  frees_slot h o p is may log words held f =
      let n : ℕ = get_or words (slot_at h.index) 0 in
      let w : ℕ = slot_word p in
      let new : ℕ = slot_word (parts_once_free k.last h.serial) in
      let inside = role_at k log words held f ∙ within in
      let few = (f.sized).serials in
      let objects = few_objects k.config k.last f.sized in
      let looked = looked_is k.config k.last h o (state log) (∥∥₁_map may (λ q. looked_at k.config k.last h o
      (now k log words held f) f.legal (looked_later k log words held f h (found_of o) q))) in
      let serial = looked.row.3 in
      let fits = reference_fits h.kind h.serial o p is (omega arith) (λ x e. let b = looked.object x e in let c = b.1 in
      (b.0, omega arith)) in
      dite (ℕ_discrete n w)
      (λ here. quiet k log words held f (slice_set words (slot_at h.index) (either (eqb n w) new n)) (Freed h w k n)
      (act_of_free h true ∷ [])
      (written k log words held (slot_at h.index) new (either (eqb n w) new n) (won w new n here)
      (frees k.config k.last log k.thread words f.legal held f.image f.fits.row inside few objects h o p looked is fits
      here))
      (λ e. refl, λ ne. absurd (ne here), refl))
      (λ other. quiet k log words held f (slice_set words (slot_at h.index) (either (eqb n w) new n)) (Freed h w k n)
      (act_of_free h false ∷ [])
      (written k log words held (slot_at h.index) n (either (eqb n w) new n) (lost w new n other)
      (unwritten k log words held (slot_at h.index) (frees_late k.config k.last log k.thread words f.legal held f.image
      f.fits.row inside few objects h o p looked is other)))
      (λ e. absurd (other e), λ ne. refl, refl))
