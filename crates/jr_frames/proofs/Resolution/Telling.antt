-- What one look tells of a handle, and what is said of a word by it.
use Rattle.std.proofs.Common.{◌≡◌, ◌≢◌, ⊎_elim, ◌<◌, ◌≤◌, ◌==◌, ℕ, Bool, true, false, cond}
use Rattle.std.proofs.Common.{nat_lt, nat_le, Option, Some, None, slice_index, refl, sym, ap, subst, ◌∙◌, arith}
use Rattle.std.proofs.lemmas.Bool.Decides.{nat_tests}
use Rattle.std.proofs.lemmas.Bool.{cases_lt}
use Rattle.jr_word.specs.declared.config.Config.{Config}
use Rattle.jr_word.specs.declared.handle.RefKind.{RefKind}
use Rattle.jr_word.specs.declared.handle.RefKind.TheVariants.{Global, Weak}
use Rattle.jr_word.specs.declared.slot.SlotParts.{SlotParts}
use Rattle.jr_word.specs.declared.slot.SlotParts.TheVariants as slot
use Rattle.jr_model.specs.declared.event.Found.{Found}
use Rattle.jr_model.specs.declared.event.Found.TheVariants.{Object, Cleared, Stale}
use Rattle.jr_model.specs.State.{Handle, State, same_kind}
use Rattle.jr_model.specs.Frames.{Frames, object_of}
use Rattle.jr_model.specs.Checks.{is_local}
use Rattle.jr_model.proofs.References.{IsKept}
use Rattle.jr_model.proofs.Updates.{eq_false, eq_true, kind_self, kind_true, same_parts}
use Rattle.jr_steps.specs.Acts.{found_of, handle_of}
use Rattle.jr_steps.specs.Says.{AreGivenBelow, SaysOfSlot, StandsAlone}
use Rattle.jr_frames.specs.declared.explaining.Told.TheVariants as told
use Rattle.jr_frames.specs.Explaining.{IsBeside, NoneStandsAt, SaysTold, WasGiven, by_place, found_local, in_room}
use Rattle.jr_frames.specs.Explaining.{found_at, told_by_place, told_by_slot, told_of_object, told_of_serial}

-- TESTS OF NUMBERS

lower : (m n : ℕ) → nat_lt m n ≡ true → m < n
lower m n e = grind (arith, nat_tests)

not_lower : (m n : ℕ) → nat_lt m n ≡ false → n ≤ m
not_lower m n e = grind (arith, nat_tests)

no_higher : (m n : ℕ) → nat_le m n ≡ true → m ≤ n
no_higher m n e = grind (arith, nat_tests)

higher : (m n : ℕ) → nat_le m n ≡ false → n < m
higher m n e = grind (arith, nat_tests)

between : (m n : ℕ) → m ≢ n → n ≤ m → n < m
between m n ne l = grind (arith, nat_tests)

found_stands : (z : Option ℕ) → found_of z ≢ Stale
found_stands (Some o) e = cc
found_stands None e = cc

-- A SLOT'S WORD
module _ (c : Config) (last : ℕ) (f : Frames) (s : State) (kept : IsKept c last s) (h : Handle)
    (shared : is_local h ≡ false) (whole : h.owner ≡ 0) where
  -- what stands at the handle is what the room has
  here : (r : Found) → s.refs h ≡ r → found_at f s h ≡ r
  here r e = ap (λ b. cond b (found_local (object_of f h)) (s.refs h)) shared ∙ e

  none_at : ((g : Handle) → IsBeside g h → s.refs g ≡ Stale) → NoneStandsAt f s h
  none_at none = (here Stale (none h (refl, refl)), λ g local. none g)

  module _ (next : ℕ) (serials : AreGivenBelow s.given h.index next)
      (none : (g : Handle) → IsBeside g h → s.refs g ≡ Stale) where
    was_given : h.serial < next → WasGiven f s h
    was_given low = let g = serials.below h.serial low in in_room shared g.0 (g.1, g.2) g.3

    was_not : next ≤ h.serial → WasGiven f s h → ⊥
    was_not high (by_place local l) = let e = sym shared ∙ local in absurd (cc)
    was_not high (in_room away g beside is) =
        let not_so = serials.above g beside.0 (subst (λ n. next ≤ n) (sym beside.1) high) in
        let e = sym not_so ∙ is in absurd (cc)

    told_serial : (b : Bool) → (b ≡ true → h.serial < next) → (b ≡ false → next ≤ h.serial)
        → SaysTold f s h (told_of_serial b)
    told_serial true low high = (none_at none, was_given (low refl))
    told_serial false low high = (none_at none, was_not (high refl))

  -- the handle of the reference that stands, by its parts
  is_it : (kind : RefKind) (serial : ℕ) → h.kind ≡ kind → h.serial ≡ serial → h ≡ handle_of kind serial h.index
  is_it kind serial k n = same_parts h.kind kind h.serial serial h.index h.index h.owner 0 k n refl whole

  module _ (next : ℕ) (serials : AreGivenBelow s.given h.index next) (kind : RefKind) (serial : ℕ) (object : Option ℕ)
      (alone : StandsAlone s.refs next (handle_of kind serial h.index) (found_of object)) where
    told_object : (z : Option ℕ) → s.refs h ≡ found_of z → SaysTold f s h (told_of_object z)
    told_object (Some o) e = here (Object o) e
    told_object None e = here Cleared e

    told_other : h.serial ≡ serial → (b : Bool) → same_kind kind h.kind ≡ b
        → SaysTold f s h (cond b (told_of_object object) told.OtherKind)
    told_other n true k =
        told_object object (ap s.refs (is_it kind serial (sym (kind_true kind h.kind k)) n) ∙ alone.found)
    told_other n false k = (
      here Stale (alone.alone h refl (λ e. let same = ap (λ (g : Handle). same_kind kind g.kind) e ∙ kind_self kind in
          let no = sym k ∙ same in absurd (cc))),
      shared,
      handle_of kind serial h.index,
      (refl, sym n),
      λ e. found_stands object (sym alone.found ∙ e),
    )

    told_reference : (b : Bool) → (h.serial == serial) ≡ b → SaysTold f s h (cond b
        (cond (same_kind kind h.kind) (told_of_object object) told.OtherKind) (told_of_serial (nat_lt h.serial serial)))
    told_reference true e = told_other (eq_true h.serial serial e) (same_kind kind h.kind) refl
    told_reference false e =
        let ne = eq_false h.serial serial e in
        let latest = alone.latest in
        told_serial next serials
        (λ g beside. alone.alone g beside.0 (λ is. ne (sym beside.1 ∙ ap (λ (x : Handle). x.serial) is)))
        (nat_lt h.serial serial)
        (λ t. let l = lower h.serial serial t in omega arith)
        (λ t. let l = between h.serial serial ne (not_lower h.serial serial t) in omega arith)

  -- WHAT A SLOT'S WORD TELLS OF A HANDLE is so, where it says what stands there
  pub slot_tells : (w : SlotParts) → SaysOfSlot last s.refs s.given h.index w → SaysTold f s h (told_by_slot h w)
  slot_tells (slot.Free serial) says =
      let is = says.stands.1 in
      told_serial says.next says.serials (λ g beside. says.stands.0 g beside.0) (nat_lt h.serial serial)
      (λ t. let l = lower h.serial serial t in omega arith) (λ t. let l = not_lower h.serial serial t in omega arith)
  slot_tells (slot.Retired serial) says =
      let is = says.stands.1 in
      let past = says.stands.2 in
      told_serial says.next says.serials (λ g beside. says.stands.0 g beside.0) (nat_le h.serial serial)
      (λ t. let l = no_higher h.serial serial t in omega arith)
      (λ t. ⊎_elim (λ (low : h.serial < says.next). absurd (
      let g = says.serials.below h.serial low in
      let within = (kept.in_row g.0 g.3).3 in
      let n = g.2 in
      let l = higher h.serial serial t in omega arith)) (λ (l : says.next ≤ h.serial). l)
      (cases_lt h.serial says.next))
  slot_tells (slot.Global serial o) says =
      told_reference says.next says.serials Global serial (Some o) says.stands (h.serial == serial) refl
  slot_tells (slot.Weak serial object) says =
      told_reference says.next says.serials Weak serial object says.stands (h.serial == serial) refl

-- WHAT THE FRAMES TELL OF A LOCAL HANDLE is so
pub place_tells : (f : Frames) (s : State) (h : Handle) → is_local h ≡ true → (z : Option ℕ) → z ≡ object_of f h
    → (b : Bool) → b ≡ nat_lt h.serial (slice_index f.given h.index) → SaysTold f s h (told_by_place z b)
place_tells f s h local z is b given = go z is b given
  where
    there : (y : Option ℕ) → y ≡ object_of f h → found_at f s h ≡ found_local y
    there y e = ap (λ c. cond c (found_local (object_of f h)) (s.refs h)) local ∙ ap found_local (sym e)

    none : None ≡ object_of f h → NoneStandsAt f s h
    none e = (there None e, λ g away. absurd (let no_local = sym local ∙ away in cc))

    was_not : nat_lt h.serial (slice_index f.given h.index) ≡ false → WasGiven f s h → ⊥
    was_not e (by_place here l) = let g = not_lower h.serial (slice_index f.given h.index) e in omega arith
    was_not e (in_room away g beside so) = absurd (let no_local = sym local ∙ away in cc)

    go : (y : Option ℕ) → y ≡ object_of f h → (c : Bool) → c ≡ nat_lt h.serial (slice_index f.given h.index)
        → SaysTold f s h (told_by_place y c)
    go (Some o) e c g = there (Some o) e
    go None e true g = (none e, by_place local (lower h.serial (slice_index f.given h.index) (sym g)))
    go None e false g = (none e, was_not (sym g))
