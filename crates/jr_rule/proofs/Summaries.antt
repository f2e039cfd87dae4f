-- What a row of words counts: references, objects and reserved space.
use Rattle.std.proofs.Common.{◌≡◌, ◌≢◌, ◌+◌, ◌<◌, ◌≤◌, ℕ, Bool, true, false, Option, Some, is_some}
use Rattle.std.proofs.Common.{IsSome, List, length, get_or, refl, sym, ap, subst, ◌∙◌, arith, add-one}
use Rattle.std.proofs.Math.Logic.{∥∥₁_elim}
use Rattle.std.proofs.Props.{props}
use Rattle.jr_word.specs.declared.config.Config.{Config}
use Rattle.jr_word.specs.declared.handle.RefKind.{RefKind}
use Rattle.jr_word.specs.declared.handle.RefKind.TheVariants.{Local, Global, Weak}
use Rattle.jr_word.specs.declared.slot.SlotParts.{SlotParts}
use Rattle.jr_word.specs.declared.slot.SlotParts.TheVariants as slot
use Rattle.jr_word.specs.declared.top.TopParts.{TopParts}
use Rattle.jr_word.specs.Config.{IsLimited, row_words}
use Rattle.jr_word.specs.Slot.{slot_word, IsSlot}
use Rattle.jr_word.specs.Top.{top_word, IsTop}
use Rattle.jr_model.specs.declared.event.Found.{Found}
use Rattle.jr_model.specs.declared.event.Found.TheVariants.{Object, Cleared, Stale}
use Rattle.jr_model.specs.declared.summary.Summary.{Summary}
use Rattle.jr_model.specs.Maps.{sum_below, count_below}
use Rattle.jr_model.specs.State.{Handle, State, is_there}
use Rattle.jr_model.specs.History.{History, state, IsLegal}
use Rattle.jr_model.proofs.Counts.{bit, count_all_false, count_single, not_true}
use Rattle.jr_model.proofs.Lengths.{lengths_fit}
use Rattle.jr_model.proofs.References.{kept_state}
use Rattle.jr_steps.specs.Acts.{found_of, handle_of}
use Rattle.jr_steps.specs.Says.{StandsAlone, StandsAs}
use Rattle.jr_rule.specs.Image.{slot_at, header_at, IsSlotOf, IsHeaderOf}
use Rattle.jr_rule.specs.RowHistories.{IsHistoryOf, HasHistory}
use Rattle.jr_rule.specs.Slots.{has_kind}
use Rattle.jr_model.proofs.InRoom.{in_room}
use Rattle.jr_rule.proofs.Readings.{is_read}
use Rattle.jr_rule.proofs.GateSteps.{bit_most}
use Rattle.jr_rule.proofs.Slots.{found_there, slot_fits}
use Rattle.jr_rule.proofs.Headers.{header_none, header_some}

pub sum_none : (f : ℕ → ℕ) → sum_below 0 f ≡ 0
unfolding sum_below
sum_none f = refl

sum_more : (n : ℕ) (f : ℕ → ℕ) → sum_below (n + 1) f ≡ sum_below n f + f n
unfolding sum_below
sum_more n f = rw add-one refl

there_true : (r : Found) → r ≢ Stale → is_there r ≡ true
there_true (Object o) ne = refl
there_true Cleared ne = refl
there_true Stale ne = absurd (ne refl)

-- whether a reference of the kind and serial stands at the index
abbrev pub there : (Handle → Found) → RefKind → ℕ → ℕ → Bool
there refs kind i n = is_there (refs (handle_of kind n i))

module _ (c : Config) (last : ℕ) (log : History) (legal : IsLegal c last log) (i : ℕ) where
  abbrev refs : Handle → Found
  refs = (state log).refs

  -- the kind and serial of the one reference of an index
  one : (kind : RefKind) (n next : ℕ) (r : Found) → r ≢ Stale → StandsAlone refs next (handle_of kind n i) r
      → count_below (last + 1) (there refs kind i) ≡ 1
  one kind n next r stands y =
      let here : refs (handle_of kind n i) ≢ Stale = λ e. stands (sym y.found ∙ e) in
      let kept = kept_state c last log legal in
      let fits = (kept.in_row (handle_of kind n i) (kept.was_given (handle_of kind n i) here)).3 in
      count_single (last + 1) (there refs kind i) n (omega arith) (there_true (refs (handle_of kind n i)) here)
      (λ m ne. ap is_there (y.alone (handle_of kind m i) refl (λ e. ne (sym (ap (λ (h : Handle). h.serial) e)))))

  none : (kind other : RefKind) (n next : ℕ) (r : Found) → kind ≢ other → StandsAlone refs next (handle_of other n i) r
      → count_below (last + 1) (there refs kind i) ≡ 0
  none kind other n next r apart y =
      count_all_false (last + 1) (there refs kind i) (λ m l.
      ap is_there (y.alone (handle_of kind m i) refl (λ e. apart (ap (λ (h : Handle). h.kind) e))))

  -- the references of a kind at an index are those that its slot's word says
  at_slot : (w : ℕ) (kind : RefKind) (x : IsSlotOf last refs (state log).given i w)
      → count_below (last + 1) (there refs kind i) ≡ bit (has_kind kind x.parts)
  at_slot w kind x = go kind x.parts x.says.stands
    where
      go : (k : RefKind) (p : SlotParts) → StandsAs last refs i x.says.next p
          → count_below (last + 1) (there refs k i) ≡ bit (has_kind k p)
      go Local (slot.Global n o) y = none Local Global n x.says.next (Object o) (λ e. cc) y
      go Local (slot.Weak n o) y = none Local Weak n x.says.next (found_of o) (λ e. cc) y
      go Global (slot.Global n o) y = one Global n x.says.next (Object o) (λ e. cc) y
      go Global (slot.Weak n o) y = none Global Weak n x.says.next (found_of o) (λ e. cc) y
      go Weak (slot.Global n o) y = none Weak Global n x.says.next (Object o) (λ e. cc) y
      go Weak (slot.Weak n o) y = one Weak n x.says.next (found_of o) (found_there o) y
      go Local (slot.Free n) y =
          count_all_false (last + 1) (there refs Local i) (λ m l. ap is_there (y.0 (handle_of Local m i) refl))
      go Local (slot.Retired n) y =
          count_all_false (last + 1) (there refs Local i) (λ m l. ap is_there (y.0 (handle_of Local m i) refl))
      go Global (slot.Free n) y =
          count_all_false (last + 1) (there refs Global i) (λ m l. ap is_there (y.0 (handle_of Global m i) refl))
      go Global (slot.Retired n) y =
          count_all_false (last + 1) (there refs Global i) (λ m l. ap is_there (y.0 (handle_of Global m i) refl))
      go Weak (slot.Free n) y =
          count_all_false (last + 1) (there refs Weak i) (λ m l. ap is_there (y.0 (handle_of Weak m i) refl))
      go Weak (slot.Retired n) y =
          count_all_false (last + 1) (there refs Weak i) (λ m l. ap is_there (y.0 (handle_of Weak m i) refl))

-- so many were counted, of at most so many
pub record IsCounted (c : Config) (words : List ℕ) (of : ℕ → State → ℕ) (count most : ℕ) : Type 0 where
  pub few : count ≤ most
  pub is : (last : ℕ) (log : History) → IsHistoryOf c words last log → count ≡ of last (state log)

-- the references of a kind at the indexes below n
abbrev pub references_below : RefKind → ℕ → ℕ → State → ℕ
references_below kind n last s = sum_below n (λ i. count_below (last + 1) (there s.refs kind i))

-- the objects below n
abbrev pub objects_below : ℕ → ℕ → State → ℕ
objects_below n last s = count_below n (λ o. is_some (s.objects o))

-- the parts of the slot's word are read
abbrev pub ReadsSlot : List ℕ → ℕ → Option SlotParts → Type 0
ReadsSlot words i r = (p : SlotParts) → IsSlot p → get_or words (slot_at i) 0 ≡ slot_word p → r ≡ Some p

-- the parts of the top are read
abbrev pub ReadsTop : List ℕ → Option TopParts → Type 0
ReadsTop words r = (p : TopParts) → IsTop p → get_or words 1 0 ≡ top_word p → r ≡ Some p

module _ (c : Config) (words : List ℕ) (limited : IsLimited c) where
  -- the row has all its words
  wide : HasHistory c words → row_words c ≤ length words
  wide has = ∥∥₁_elim has (hlevel props) (λ h. let w = h.2.image.wide in omega arith)

  pub slot_in : HasHistory c words → (i : ℕ) → i < c.slots → slot_at i < length words
  slot_in has i l = let w = wide has in omega arith

  pub header_in : HasHistory c words → (o : ℕ) → 1 ≤ o → o ≤ c.objects → header_at c o < length words
  header_in has o low high = let w = wide has in omega arith

  pub top_in : HasHistory c words → 1 < length words
  top_in has = let w = wide has in omega arith

  slot_parts : (last : ℕ) (log : History) → IsHistoryOf c words last log → (i : ℕ) → i < c.slots
      → IsSlotOf last (state log).refs (state log).given i (get_or words (slot_at i) 0)
  slot_parts last log h i l = h.image.slot i l

  slot_read : (last : ℕ) (log : History) (h : IsHistoryOf c words last log) (i : ℕ) (l : i < c.slots)
      (r : Option SlotParts) → ReadsSlot words i r → r ≡ Some (slot_parts last log h i l).parts
  slot_read last log h i l r reads =
      let x = slot_parts last log h i l in
      let few = limited.objects.1 in
      reads x.parts (slot_fits c last log h.legal h.few (omega arith) i (get_or words (slot_at i) 0) x) x.word

  -- a slot's word has a reading
  pub slot_some : HasHistory c words → (i : ℕ) (r : Option SlotParts) → i < c.slots → ReadsSlot words i r → IsSome r
  slot_some has i r l reads = ∥∥₁_elim has (hlevel props) (λ h. is_read r _ (slot_read h.0 h.1 h.2 i l r reads))

  pub one_more_slot : (kind : RefKind) (i count count' : ℕ) (p : SlotParts)
      → IsCounted c words (references_below kind i) count i → i < c.slots → ReadsSlot words i (Some p)
      → (b : Bool) → b ≡ has_kind kind p → count' ≡ count + bit b
      → IsCounted c words (references_below kind (i + 1)) count' (i + 1)
  one_more_slot kind i count count' p counted l reads b test next = record {
    few = let f = counted.few in let m = bit_most b in omega arith;
    is = λ last log h.
        let x = slot_parts last log h i l in
        let read : x.parts ≡ p = let e = slot_read last log h i l (Some p) reads in cc in
        let here =
        at_slot c last log h.legal i (get_or words (slot_at i) 0) kind x ∙ ap (λ q. bit (has_kind kind q)) read in
        let same = ap bit test in
        let more = sum_more i (λ j. count_below (last + 1) (there (state log).refs kind j)) in
        let was = counted.is last log h in omega arith;
  }

  -- number 0 is no object's
  pub no_object : IsCounted c words (objects_below 1) 0 0
  no_object = record {
    few = omega arith;
    is = λ last log h.
        let room = in_room c last log h.legal in
        sym (count_all_false 1 (λ o. is_some ((state log).objects o)) (λ o l.
        not_true (is_some ((state log).objects o)) (λ e. let r = (room.objects o e).0 in omega arith)));
  }

  pub one_more_object : (n count count' place w : ℕ) → IsCounted c words (objects_below (n + 1)) count n → n < c.objects
      → place ≡ header_at c (n + 1) → w ≡ get_or words place 0
      → (b : Bool) → (b ≡ true → w ≢ 0) → (b ≡ false → w ≡ 0) → count' ≡ count + bit b
      → IsCounted c words (objects_below (n + 1 + 1)) count' (n + 1)
  one_more_object n count count' place w counted l at found b some none next = record {
    few = let f = counted.few in let m = bit_most b in omega arith;
    is = λ last log h.
        let here = at_header last log h b refl in
        let more = sum_more (n + 1) (λ o. bit (is_some ((state log).objects o))) in
        let was = counted.is last log h in
        let same = ap bit here in omega arith;
  }
    where
      at_header : (last : ℕ) (log : History) → IsHistoryOf c words last log → (d : Bool) → b ≡ d
          → is_some ((state log).objects (n + 1)) ≡ b
      at_header last log h d e = go d e
        where
          header : IsHeaderOf ((state log).objects (n + 1)) w
          header = subst (IsHeaderOf ((state log).objects (n + 1))) (sym (found ∙ ap (λ j. get_or words j 0) at))
              (h.image.header (n + 1) (omega arith) (omega arith))

          go : (d : Bool) → b ≡ d → is_some ((state log).objects (n + 1)) ≡ b
          go true e = header_some ((state log).objects (n + 1)) w header (some e) ∙ sym e
          go false e = ap is_some (header_none ((state log).objects (n + 1)) w header (none e)) ∙ sym e

  -- the top says how many words are reserved
  top_read : (last : ℕ) (log : History) → IsHistoryOf c words last log → (r : Option TopParts) → ReadsTop words r
      → r ≡ Some (record { used = (state log).used })
  top_read last log h r reads =
      let fit = (lengths_fit c last log h.legal).1 in
      let few = limited.words in
      reads (record { used = (state log).used }) (record { used = omega arith }) h.image.top

  pub top_some : HasHistory c words → (r : Option TopParts) → ReadsTop words r → IsSome r
  top_some has r reads = ∥∥₁_elim has (hlevel props) (λ h. is_read r _ (top_read h.0 h.1 h.2 r reads))

  pub top_used : (p : TopParts) → ReadsTop words (Some p) → (last : ℕ) (log : History) → IsHistoryOf c words last log
      → p.used ≡ (state log).used
  top_used p reads last log h =
      let same : p ≡ record { used = (state log).used } = let e = top_read last log h (Some p) reads in cc in
      ap (λ (z : TopParts). z.used) same

pub same_summary : {globals globals' weaks weaks' live live' used used' : ℕ} → globals ≡ globals' → weaks ≡ weaks'
    → live ≡ live' → used ≡ used'
    → ◌≡◌ {A = Summary} (record { globals = globals; weaks = weaks; live = live; used = used })
    (record { globals = globals'; weaks = weaks'; live = live'; used = used' })
same_summary a b c d = λ j. record { globals = a j; weaks = b j; live = c j; used = d j }
