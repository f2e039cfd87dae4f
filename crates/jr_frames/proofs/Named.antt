-- The object that the table of places shows for a handle.
use Rattle.std.proofs.Common.{◌≡◌, ◌≢◌, ◌==◌, ◌&&◌, ◌+◌, ◌-◌, ◌<◌, ◌≤◌, ⊎_elim, ℕ, Bool, true, false, not}
use Rattle.std.proofs.Common.{cond, List, length, Some, None, IsSome, refl, sym, ap, subst, ◌∙◌, arith}
use Rattle.std.proofs.lemmas.List.{get_or_past}
use Rattle.std.proofs.lemmas.Bool.{cases_lt}
use Rattle.std.proofs.lemmas.Bool.Decides.{nat_tests}
use Rattle.jr_word.specs.declared.handle.RefKind.TheVariants.{Local}
use Rattle.jr_model.specs.State.{Handle, same_handle}
use Rattle.jr_model.specs.Frames.{object_of}
use Rattle.jr_model.proofs.Updates.{and_left, and_right, same_parts, handle_true, handle_self}
use Rattle.jr_frames.specs.declared.place.Place.{Place}
use Rattle.jr_frames.specs.declared.frames.Frames.TheInside.{Inside as Fields}
use Rattle.jr_frames.specs.Places.{given_of, unused, place_at, is_taken, ref_at}
use Rattle.jr_frames.specs.Arrangements.{table, IsTable}
use Rattle.jr_frames.proofs.Places.{object_of_handle}

pub not_zero : (n : ℕ) → n ≢ 0 → (n == 0) ≡ false
not_zero n ne = grind (arith, nat_tests)

some_true : (b : Bool) (o : ℕ) → IsSome (cond b (Some o) None) → b ≡ true
some_true true o s = refl
some_true false o s = absurd cc

-- no reference stands beyond the places
pub taken_index : (places : List Place) (p : ℕ) → is_taken places p ≡ true → p < length places
taken_index places p e = ⊎_elim (λ (l : p < length places). l)
    (λ (g : length places ≤ p). let none = get_or_past places p unused g in
    let no : false ≡ true = subst (λ (x : Place). not (x.object == 0) ≡ true) none e in absurd cc)
    (cases_lt p (length places))

module _ (a : Fields) (is : IsTable a) (h : Handle) where
  -- the handle stands, and it is the one that its place shows
  pub stands : IsSome (object_of (table a).frames h)
      → (is_taken a.places.items h.index ≡ true) × ((ref_at a.thread a.places.items h.index).handle ≡ h)
  stands some =
      let both = some_true _ _ (subst (λ o. IsSome o) (object_of_handle a is h) some) in
      (and_left _ _ both, handle_true _ h (and_right (is_taken a.places.items h.index) _ both))

  pub named_object : (place_at a.places.items h.index).object ≢ 0 → h.kind ≡ Local
      → h.serial + 1 ≡ given_of (place_at a.places.items h.index) → h.owner ≡ a.thread
      → object_of (table a).frames h ≡ Some (place_at a.places.items h.index).object
  named_object ne kind serial owner =
      let same : (ref_at a.thread a.places.items h.index).handle ≡ h =
      same_parts Local h.kind _ h.serial h.index h.index a.thread h.owner (sym kind) (omega arith) refl (sym owner) in
      object_of_handle a is h
      ∙ ap (λ b. cond (not b && same_handle (ref_at a.thread a.places.items h.index).handle h)
      (Some (place_at a.places.items h.index).object) None) (not_zero _ ne)
      ∙ ap (λ k. cond (same_handle k h) (Some (place_at a.places.items h.index).object) None) same
      ∙ ap (λ b. cond b (Some (place_at a.places.items h.index).object) None) (handle_self h)

  pub empty_object : (place_at a.places.items h.index).object ≡ 0 → object_of (table a).frames h ≡ None
  empty_object e =
      object_of_handle a is h
      ∙ ap (λ n. cond (not (n == 0) && same_handle (ref_at a.thread a.places.items h.index).handle h)
      (Some (place_at a.places.items h.index).object) None) e

  pub unnamed_object : ((h.kind ≡ Local) × (h.serial + 1 ≡ given_of (place_at a.places.items h.index))
      × (h.owner ≡ a.thread) → ⊥) → object_of (table a).frames h ≡ None
  unnamed_object other = object_of_handle a is h ∙ go _ refl
    where
      go : (b : Bool)
          → (is_taken a.places.items h.index && same_handle (ref_at a.thread a.places.items h.index).handle h) ≡ b
          → cond (is_taken a.places.items h.index && same_handle (ref_at a.thread a.places.items h.index).handle h)
          (Some (place_at a.places.items h.index).object) None ≡ None
      go true e =
          let same = handle_true _ h (and_right (is_taken a.places.items h.index) _ e) in
          let once : 1 ≤ given_of (place_at a.places.items h.index) = is.given h.index (and_left _ _ e) in
          let serial : given_of (place_at a.places.items h.index) - 1 ≡ h.serial = ap (λ (k : Handle). k.serial) same in
          absurd (other (sym (ap (λ (k : Handle). k.kind) same), omega arith, sym (ap (λ (k : Handle). k.owner) same)))
      go false e = ap (λ b. cond b (Some (place_at a.places.items h.index).object) None) e
