-- The references of an index are those that its slot says.
use Rattle.std.proofs.Common.{◌≡◌, ◌≢◌, ◌+◌, ◌≤◌, ◌&&◌, ◌||◌, ℕ, Bool, true, false, not}
use Rattle.std.proofs.Common.{Option, Some, None, [], refl, sym, ap, subst, ◌∙◌, arith}
use mathlib.Core.Logic.{dite}
use native.Mathlib.Decide.{ℕ_discrete}
use Rattle.jr_word.specs.declared.config.Config.{Config}
use Rattle.jr_word.specs.declared.handle.RefKind.{RefKind}
use Rattle.jr_word.specs.declared.handle.RefKind.TheVariants.{Local, Global, Weak}
use Rattle.jr_word.specs.declared.slot.SlotParts.{SlotParts}
use Rattle.jr_word.specs.declared.slot.SlotParts.TheVariants as slot
use Rattle.jr_model.specs.declared.event.Found.{Found}
use Rattle.jr_model.specs.declared.event.Found.TheVariants.{Object, Stale}
use Rattle.jr_model.specs.declared.event.Role.TheVariants.{Collecting}
use Rattle.jr_model.specs.Maps.{sum_below, count_below}
use Rattle.jr_model.specs.State.{Handle, State, HaveSameTables, is_there}
use Rattle.jr_model.specs.Steps.{IsInRow}
use Rattle.jr_model.proofs.Updates.{same_parts}
use Rattle.jr_model.specs.History.{History, state, IsLegal}
use Rattle.jr_model.proofs.Counts.{bit, count_all_false, count_single}
use Rattle.jr_model.proofs.References.{kept_state}
use Rattle.jr_steps.specs.declared.known.Known.{Known}
use Rattle.jr_steps.specs.declared.known.Holdings.{Holdings}
use Rattle.jr_steps.specs.Acts.{found_of, handle_of}
use Rattle.jr_steps.specs.Knowing.{Facts, Standing, AreOf, Took, anything, keeps, state_of, ShowsSlot}
use Rattle.jr_steps.specs.Says.{NoneStands, StandsAlone, StandsAs, SaysOfSlot}
use Rattle.jr_compact.proofs.Listed.{sum_more}
use Rattle.jr_census.specs.declared.slots.Slots.{Slots}
use Rattle.jr_census.specs.Counts.{AreFew, AreSlots, at_index, is_cleared, is_retired, last_of, with_slot}
use Rattle.jr_census.specs.Telling.{LoadsTell}
use Rattle.jr_census.proofs.Turns.{told_none, told_so, told_turn}

pub sum_zero_below : (f : ℕ → ℕ) → sum_below 0 f ≡ 0
unfolding sum_below
sum_zero_below f = refl

found_stands : (o : Option ℕ) → found_of o ≢ Stale
found_stands None e = cc
found_stands (Some o) e = cc

-- a reference of the kind stands in the slot so
abbrev pub in_slot : (Found → Bool) → RefKind → SlotParts → Bool
in_slot so Global (slot.Global n o) = so (Object o)
in_slot so Weak (slot.Weak n o) = so (found_of o)
in_slot so _ _ = false

module _ (c : Config) (last : ℕ) (log : History) (legal : IsLegal c last log) (i : ℕ) (so : Found → Bool)
    (stale : so Stale ≡ false) where
  abbrev refs : Handle → Found
  refs = (state log).refs

  abbrev here : RefKind → ℕ → Bool
  here kind n = so (refs (handle_of kind n i))

  -- the one reference of an index
  one : (kind : RefKind) (n next : ℕ) (r : Found) → r ≢ Stale → StandsAlone refs next (handle_of kind n i) r
      → at_index last so kind refs i ≡ bit (so r)
  one kind n next r stands y = go (so r) refl
    where
      others : (m : ℕ) → n ≢ m → here kind m ≡ false
      others m ne = ap so (y.alone (handle_of kind m i) refl (λ e. ne (sym (ap (λ (h : Handle). h.serial) e)))) ∙ stale

      go : (b : Bool) → so r ≡ b → at_index last so kind refs i ≡ bit b
      go true is =
          let kept = kept_state c last log legal in
          let fits =
          (kept.in_row (handle_of kind n i) (kept.was_given (handle_of kind n i) (λ e. stands (sym y.found ∙ e)))).3 in
          count_single (last + 1) (here kind) n (omega arith) (ap so y.found ∙ is) others
      go false is = count_all_false (last + 1) (here kind) (λ m l. dite (ℕ_discrete n m)
          (λ e. ap (λ z. so (refs (handle_of kind z i))) (sym e) ∙ (ap so y.found ∙ is))
          (λ ne. others m ne))

  other : (kind there : RefKind) (n next : ℕ) (r : Found) → kind ≢ there → StandsAlone refs next (handle_of there n i) r
      → at_index last so kind refs i ≡ 0
  other kind there n next r apart y = count_all_false (last + 1) (here kind) (λ m l.
      ap so (y.alone (handle_of kind m i) refl (λ e. apart (ap (λ (h : Handle). h.kind) e))) ∙ stale)

  none : (kind : RefKind) → NoneStands refs i → at_index last so kind refs i ≡ 0
  none kind y = count_all_false (last + 1) (here kind) (λ m l. ap so (y (handle_of kind m i) refl) ∙ stale)

  -- WHAT THE SLOT SAYS is what stands there
  pub at_slot : (kind : RefKind) (p : SlotParts) (next : ℕ) → StandsAs last refs i next p
      → at_index last so kind refs i ≡ bit (in_slot so kind p)
  at_slot kind (slot.Free n) next y = none kind y.0 ∙ nothing kind
    where
      nothing : (kind : RefKind) → 0 ≡ bit (in_slot so kind (slot.Free n))
      nothing Local = refl
      nothing Global = refl
      nothing Weak = refl
  at_slot kind (slot.Retired n) next y = none kind y.0 ∙ nothing kind
    where
      nothing : (kind : RefKind) → 0 ≡ bit (in_slot so kind (slot.Retired n))
      nothing Local = refl
      nothing Global = refl
      nothing Weak = refl
  at_slot Local (slot.Global n o) next y = other Local Global n next (Object o) (λ e. cc) y
  at_slot Global (slot.Global n o) next y = one Global n next (Object o) (λ e. cc) y
  at_slot Weak (slot.Global n o) next y = other Weak Global n next (Object o) (λ e. cc) y
  at_slot Local (slot.Weak n o) next y = other Local Weak n next (found_of o) (λ e. cc) y
  at_slot Global (slot.Weak n o) next y = other Global Weak n next (found_of o) (λ e. cc) y
  at_slot Weak (slot.Weak n o) next y = one Weak n next (found_of o) (found_stands o) y

  pub one_more : (kind : RefKind) (p : SlotParts) (next : ℕ) → StandsAs last refs i next p → (n : ℕ)
      → n ≡ sum_below i (at_index last so kind refs)
      → n + bit (in_slot so kind p) ≡ sum_below (i + 1) (at_index last so kind refs)
  one_more kind p next y n is = let slot = at_slot kind p next y in
      let more = sum_more i (at_index last so kind refs) in omega arith

-- whether a slot is retired
abbrev pub is_out : SlotParts → Bool
is_out (slot.Retired n) = true
is_out _ = false

none_given : (a b d e : Bool) → a ≡ false → b ≡ false → (a || b) && not (d || e) ≡ false
none_given false false d e p q = refl
none_given true b d e p q = absurd cc
none_given false true d e p q = absurd cc

one_there : (a b d e : Bool) → (d || e) ≡ true → (a || b) && not (d || e) ≡ false
one_there true b d e p = ap not p
one_there false true d e p = ap not p
one_there false false d e p = refl

all_ended : (a b d e : Bool) → (a || b) ≡ true → d ≡ false → e ≡ false → (a || b) && not (d || e) ≡ true
all_ended a b d e p q r = ap (λ (z : Bool × Bool × Bool). z.0 && not (z.1 || z.2)) (λ j. (p j, q j, r j))

or_right : (a b : Bool) → b ≡ true → (a || b) ≡ true
or_right true b e = refl
or_right false b e = e

or_left : (a b : Bool) → a ≡ true → (a || b) ≡ true
or_left true b e = refl
or_left false b e = absurd cc

module _ (c : Config) (last : ℕ) (log : History) (legal : IsLegal c last log) (i : ℕ) where
  abbrev was_given : RefKind → Bool
  was_given kind = (state log).given (last_of last kind i)

  abbrev is_standing : RefKind → Bool
  is_standing kind = is_there ((state log).refs (last_of last kind i))

  -- nothing of the last serial was given yet
  not_given : (p : SlotParts) (says : SaysOfSlot last (state log).refs (state log).given i p) → says.next ≤ last
      → is_retired last (state log) i ≡ false
  not_given p says more = none_given (was_given Global) (was_given Weak) (is_standing Global) (is_standing Weak)
      (says.serials.above (last_of last Global i) refl more) (says.serials.above (last_of last Weak i) refl more)

  -- a reference stands that has the last serial, or an earlier one
  still_used : (p : SlotParts) (says : SaysOfSlot last (state log).refs (state log).given i p) (n : ℕ)
      → n + 1 ≡ says.next → n ≤ last → (n ≡ last → (is_there ((state log).refs (last_of last Global i))
      || is_there ((state log).refs (last_of last Weak i))) ≡ true) → is_retired last (state log) i ≡ false
  still_used p says n next few there = dite (ℕ_discrete n last)
      (λ e. one_there (was_given Global) (was_given Weak) (is_standing Global) (is_standing Weak) (there e))
      (λ ne. not_given p says (omega arith))

  -- WHETHER THE INDEX IS RETIRED is what its slot says
  pub retired_slot : (p : SlotParts) → SaysOfSlot last (state log).refs (state log).given i p
      → is_retired last (state log) i ≡ is_out p
  retired_slot (slot.Free n) says = not_given (slot.Free n) says says.stands.2
  retired_slot (slot.Retired n) says = go (h.0).kind refl
    where
      h : (h : Handle) × (h.index ≡ i) × (h.serial ≡ last) × ((state log).given h ≡ true)
      h = says.serials.below last says.stands.2

      row : IsInRow c last h.0
      row = (kept_state c last log legal).in_row h.0 h.3

      is : (kind : RefKind) → (h.0).kind ≡ kind → (state log).given (last_of last kind i) ≡ true
      is kind e = ap (state log).given
          (sym (same_parts (h.0).kind kind (h.0).serial last (h.0).index i (h.0).owner 0 e h.2 h.1 row.1)) ∙ h.3

      over : ((state log).given (last_of last Global i) || (state log).given (last_of last Weak i)) ≡ true
          → is_retired last (state log) i ≡ true
      over e = all_ended (was_given Global) (was_given Weak) (is_standing Global) (is_standing Weak) e (ap is_there
          (says.stands.0 (last_of last Global i) refl)) (ap is_there (says.stands.0 (last_of last Weak i) refl))

      go : (kind : RefKind) → (h.0).kind ≡ kind → is_retired last (state log) i ≡ true
      go Local e = absurd (row.0 e)
      go Global e = over (or_left (was_given Global) (was_given Weak) (is Global e))
      go Weak e = over (or_right (was_given Global) (was_given Weak) (is Weak e))
  retired_slot (slot.Global n o) says = still_used (slot.Global n o) says n says.stands.latest
      (((kept_state c last log legal).in_row (handle_of Global n i) ((kept_state c last log legal).was_given
      (handle_of Global n i) (λ e. let z = sym says.stands.found ∙ e in cc))).3)
      (λ e. or_left (is_standing Global) (is_standing Weak)
      (ap (λ m. is_there ((state log).refs (last_of m Global i))) (sym e) ∙ ap is_there says.stands.found))
  retired_slot (slot.Weak n o) says = still_used (slot.Weak n o) says n says.stands.latest
      (((kept_state c last log legal).in_row (handle_of Weak n i) ((kept_state c last log legal).was_given
      (handle_of Weak n i) (λ e. found_stands o (sym says.stands.found ∙ e)))).3)
      (λ e. or_right (is_standing Global) (is_standing Weak) (ap (λ m. is_there ((state log).refs (last_of m Weak i)))
      (sym e) ∙ (ap is_there says.stands.found ∙ stands_there o)))
    where
      stands_there : (o : Option ℕ) → is_there (found_of o) ≡ true
      stands_there None = refl
      stands_there (Some r) = refl

module _ (c : Config) (last : ℕ) (log : History) (legal : IsLegal c last log) (i : ℕ) (x : Slots)
    (given : AreSlots i last (state log) x) where
  -- AND SO ARE THE COUNTS with one slot more
  pub counted_next : (p : SlotParts) → SaysOfSlot last (state log).refs (state log).given i p
      → AreSlots (i + 1) last (state log) (with_slot x p)
  counted_next p says = go p (more is_there refl Global p says.next says.stands x.globals given.globals)
      (more is_there refl Weak p says.next says.stands x.weaks given.weaks)
      (more is_cleared refl Weak p says.next says.stands x.cleared given.cleared) ended
    where
      more : (so : Found → Bool) → so Stale ≡ false → (kind : RefKind) (p : SlotParts) (next : ℕ)
          → StandsAs last (state log).refs i next p → (n : ℕ) → n ≡ sum_below i (at_index last so kind (state log).refs)
          → n + bit (in_slot so kind p) ≡ sum_below (i + 1) (at_index last so kind (state log).refs)
      more so stale kind p next y n is = one_more c last log legal i so stale kind p next y n is

      ended : x.retired + bit (is_out p) ≡ count_below (i + 1) (is_retired last (state log))
      ended = let here = ap bit (retired_slot c last log legal i p says) in
          let next = sum_more i (λ j. bit (is_retired last (state log) j)) in let was = given.retired in omega arith

      go : (p : SlotParts) → x.globals + bit (in_slot is_there Global p)
          ≡ sum_below (i + 1) (at_index last is_there Global (state log).refs)
          → x.weaks + bit (in_slot is_there Weak p) ≡ sum_below (i + 1) (at_index last is_there Weak (state log).refs)
          → x.cleared + bit (in_slot is_cleared Weak p)
          ≡ sum_below (i + 1) (at_index last is_cleared Weak (state log).refs)
          → x.retired + bit (is_out p) ≡ count_below (i + 1) (is_retired last (state log))
          → AreSlots (i + 1) last (state log) (with_slot x p)
      go (slot.Free n) a b d e = record {
        globals = omega (arith, a);
        weaks = omega (arith, b);
        cleared = omega (arith, d);
        retired = omega (arith, e);
      }
      go (slot.Retired n) a b d e =
          record { globals = omega (arith, a); weaks = omega (arith, b); cleared = omega (arith, d); retired = e }
      go (slot.Global n o) a b d e =
          record { globals = a; weaks = omega (arith, b); cleared = omega (arith, d); retired = omega (arith, e) }
      go (slot.Weak n None) a b d e =
          record { globals = omega (arith, a); weaks = b; cleared = d; retired = omega (arith, e) }
      go (slot.Weak n (Some o)) a b d e =
          record { globals = omega (arith, a); weaks = b; cleared = omega (arith, d); retired = omega (arith, e) }

pub few_next : (i : ℕ) (x : Slots) (p : SlotParts) → AreFew i x → AreFew (i + 1) (with_slot x p)
few_next i x (slot.Free n) f = let a = f.globals in let b = f.weaks in let d = f.cleared in let e = f.retired in
    record { globals = omega arith; weaks = omega arith; cleared = omega arith; retired = omega arith }
few_next i x (slot.Retired n) f = let a = f.globals in let b = f.weaks in let d = f.cleared in let e = f.retired in
    record { globals = omega arith; weaks = omega arith; cleared = omega arith; retired = omega arith }
few_next i x (slot.Global n o) f = let a = f.globals in let b = f.weaks in let d = f.cleared in let e = f.retired in
    record { globals = omega arith; weaks = omega arith; cleared = omega arith; retired = omega arith }
few_next i x (slot.Weak n None) f = let a = f.globals in let b = f.weaks in let d = f.cleared in let e = f.retired in
    record { globals = omega arith; weaks = omega arith; cleared = omega arith; retired = omega arith }
few_next i x (slot.Weak n (Some o)) f = let a = f.globals in let b = f.weaks in let d = f.cleared in let e =
    f.retired in record { globals = omega arith; weaks = omega arith; cleared = omega arith; retired = omega arith }

pub few_most : (i : ℕ) (x : Slots) → i ≤ 65535 → AreFew i x → AreFew 65535 x
few_most i x l f = let a = f.globals in let b = f.weaks in let d = f.cleared in let e = f.retired in
    record { globals = omega arith; weaks = omega arith; cleared = omega arith; retired = omega arith }

-- and of the same tables
pub slots_on : (n last : ℕ) (x : Slots) {s t : State} → HaveSameTables s t → AreSlots n last s x → AreSlots n last t x
slots_on n last x {s} {t} same w = record {
  globals = w.globals ∙ ap (λ (f : Handle → Found). sum_below n (at_index last is_there Global f)) (sym same.refs);
  weaks = w.weaks ∙ ap (λ (f : Handle → Found). sum_below n (at_index last is_there Weak f)) (sym same.refs);
  cleared = w.cleared ∙ ap (λ (f : Handle → Found). sum_below n (at_index last is_cleared Weak f)) (sym same.refs);
  retired = w.retired ∙ ap (λ (z : (Handle → Found) × (Handle → Bool)). count_below n
      (is_retired last (record s { refs = z.0; given = z.1 }))) (λ j. (sym same.refs j, sym same.given j));
}

-- the counts of the slots below i
abbrev pub SlotsBelow : ℕ → Slots → Known → Type 0
SlotsBelow i x k = AreSlots i k.last (state_of k) x

module _ {S : Type 0} {facts : S → Facts} (fits : AreOf facts) where
  pub slots_none : (a : S) (x : Slots) → x.globals ≡ 0 → x.weaks ≡ 0 → x.cleared ≡ 0 → x.retired ≡ 0
      → LoadsTell facts (λ j. 0) a a (SlotsBelow 0 x)
  slots_none a x g w d e = told_none fits a (λ k s. record {
    globals = g ∙ sym (sum_zero_below _);
    weaks = w ∙ sym (sum_zero_below _);
    cleared = d ∙ sym (sum_zero_below _);
    retired = e ∙ sym (sum_zero_below _);
  })

  pub slots_next : {a b c : S} (i : ℕ) (x x' : Slots) (p : SlotParts) → (facts a).stands.role ≡ Collecting
      → LoadsTell facts (λ j. i) a b (SlotsBelow i x) → Took facts b c [] anything (λ j k. ShowsSlot i p k × keeps j k)
      → x' ≡ with_slot x p → LoadsTell facts (λ j. i + 1) a c (SlotsBelow (i + 1) x')
  slots_next {a} {b} {c} i x x' p collects told t is =
      subst (λ z. LoadsTell facts (λ j. i + 1) a c (SlotsBelow (i + 1) z)) (sym is) (told_turn fits collects told t
      (λ k can h. tt) (λ k k' shown. ap (λ (g : Holdings). g.moving) shown.1) (λ k k' s same last was shown.
      counted_next k'.config k'.last k'.seen (fits c k' s).legal i x
      (subst (λ n. AreSlots i n (state_of k') x) (sym last) (slots_on i k.last x same was)) p shown.0))

  pub slots_all : {a b : S} (i : ℕ) (x : Slots) → i ≡ (facts a).stands.config.slots
      → LoadsTell facts (λ j. i) a b (SlotsBelow i x)
      → LoadsTell facts (λ j. j.config.slots) a b (λ k. AreSlots k.config.slots k.last (state_of k) x)
  slots_all {a} {b} i x end p = told_so fits (λ j. j.config.slots) (λ k s. let e = end
      ∙ sym (ap (λ (z : Config). z.slots) (fits a k s).config) in omega arith)
      (λ k s was. subst (λ n. AreSlots n k.last (state_of k) x) (end ∙ (sym (ap (λ (z : Standing). z.config.slots)
      p.stands_is) ∙ sym (ap (λ (z : Config). z.slots) (fits b k s).config))) was) p
