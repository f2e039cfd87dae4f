-- A reference is added to the table.
use Rattle.std.proofs.Common.{◌≡◌, ◌≢◌, ◌==◌, ◌&&◌, ◌+◌, ◌-◌, ◌<◌, ◌≤◌, ℕ, Bool, true}
use Rattle.std.proofs.Common.{false, not, if◌then◌else◌, nat_le, ◌∷◌, map, length}
use Rattle.std.proofs.Common.{slice_index, slice_set, refl, sym, ap, subst, ◌∙◌, arith}
use Rattle.std.proofs.lemmas.List.{length-map, get_or-set_same, get_or-set_other, map-set}
use Rattle.std.proofs.lemmas.Bool.Decides.{nat_tests}
use Rattle.std.proofs.Math.ListN.{get_or-map}
use Rattle.arrayvec.specs.ArrayVec.{ArrayVec}
use Rattle.jr_word.specs.declared.handle.RefKind.TheVariants.{Local}
use Rattle.jr_model.specs.declared.frames.LocalRef.{LocalRef}
use Rattle.jr_model.specs.State.{Handle}
use Rattle.jr_model.specs.Frames.{IsAdded, with_last}
use Rattle.jr_frames.specs.declared.place.Place.{Place}
use Rattle.jr_frames.specs.declared.frames.Frames.TheInside.{Inside as Fields}
use Rattle.jr_frames.specs.Table.{IsNext}
use Rattle.jr_frames.specs.Places.{given_of, unused, place_at, is_taken, ref_at}
use Rattle.linked_lists.specs.Lists.{times, without_number, with_end, Lists, all_numbers, lists_without, with_lists}
use Rattle.std.specs.List.{concat}
use Rattle.jr_frames.specs.Arrangements.{table, IsTable}
use Rattle.linked_lists.proofs.Times.{times_append, times_here, times_there, times_without_other}
use Rattle.linked_lists.proofs.Times.{times_without_self, length_without, map_without_none}
use Rattle.jr_frames.proofs.Showing.{map_with_end}
use Rattle.linked_lists.proofs.LastList.{length_with_end, times_with_end}
use Rattle.jr_frames.proofs.Places.{is_free_place}
use Rattle.jr_frames.proofs.Named.{not_zero}
use Rattle.jr_frames.proofs.Changing.{changed, shown, frames_other, frames_same}
use Rattle.jr_frames.proofs.Still.{still_shows}

abbrev bit : Bool → ℕ
bit b = if b then 1 else 0

free_facts : (taken : Bool) (n m : ℕ) → (not taken && nat_le n m) ≡ true → (taken ≡ false) × (n ≤ m)
free_facts true n m e = absurd cc
free_facts false n m e = (refl, grind (arith, nat_tests))

idle_there : (p n : ℕ) (b : Bool) → p < n → b ≡ true → (nat_le (p + 1) n && b) ≡ true
idle_there p n true l e = grind (arith, nat_tests)
idle_there p n false l e = absurd cc

module _ (a : Fields) (is : IsTable a) (h : Handle) (next : IsNext (table a) h) where
  pub next_index : h.index < length a.places.items
  next_index = let l = next.place in rw length-map at l

  pub next_free : (is_taken a.places.items h.index ≡ false) × (given_of (place_at a.places.items h.index) ≤ a.last)
  next_free = free_facts _ _ _ (sym (is_free_place a is a.last h.index) ∙ next.free)

  pub given_is : slice_index (table a).frames.given h.index ≡ given_of (place_at a.places.items h.index)
  given_is = get_or-map given_of a.places.items h.index unused

  pub once_free : times h.index a.order.free ≡ 1
  once_free = is.idle h.index ∙ ap (λ b. if b then 1 else 0) (idle_there h.index (length a.places.items) _ next_index
      (sym (is_free_place a is a.last h.index) ∙ next.free))

  pub not_standing : times h.index (concat a.order.lists) ≡ 0
  not_standing = is.once h.index ∙ ap (λ b. if b then 1 else 0) next_free.0

  pub in_order : 1 ≤ times h.index (all_numbers a.order)
  in_order = omega (arith, times_append h.index a.order.free (concat a.order.lists), once_free)

  pub some_free : 1 ≤ a.free
  some_free = omega (arith, length_without h.index a.order.free, once_free, is.count)

  -- the order once the place is the last of the newest frame
  abbrev pub order_added : Lists
  order_added = with_lists (lists_without a.order h.index)
      (with_end (map (without_number h.index) a.order.lists) h.index)

  lists_are : order_added.lists ≡ with_end a.order.lists h.index
  lists_are = ap (λ rs. with_end rs h.index) (map_without_none h.index a.order.lists not_standing)

  module _ (o : ℕ) (filled : Place) (given : given_of filled ≡ given_of (place_at a.places.items h.index) + 1)
      (object : filled.object ≡ o) (places : ArrayVec Place)
      (set : places.items ≡ slice_set a.places.items h.index filled) where
    not_idle_now : (b : Bool) (k : ℕ) (c : Bool) → (k == 0) ≡ false
        → ◌≡◌ {A = ℕ} (if b && (not (not (k == 0)) && c) then 1 else 0) 0
    not_idle_now true k c e = ap (λ d. bit (not (not d) && c)) e
    not_idle_now false k c e = refl

    times_now : (q : ℕ) → times q (concat order_added.lists) ≡ times q (h.index ∷ concat a.order.lists)
    times_now q = ap (λ rs. times q (concat rs)) lists_are ∙ times_with_end q h.index a.order.lists is.some_frame

    all_shown : o ≢ 0 → IsTable (changed a (a.free - 1) places order_added)
    all_shown some =
        let filled_some : (filled.object == 0) ≡ false = not_zero filled.object (λ e. some (sym object ∙ e)) in
        let low = next_free.1 in
        still_shows a is h.index next_index filled places set (a.free - 1) order_added refl
        (ap length lists_are ∙ length_with_end a.order.lists h.index) (λ e. omega arith) (omega arith)
        (times_now h.index ∙ (times_here h.index (concat a.order.lists) ∙ (ap (λ k. 1 + k) not_standing
        ∙ sym (ap (λ b. if not b then 1 else 0) filled_some))))
        (λ q ne. times_now q ∙ times_there q h.index (concat a.order.lists) (λ e. ne (sym e)))
        (times_without_self h.index a.order.free ∙ sym (not_idle_now (nat_le (h.index + 1) (length a.places.items))
        filled.object (nat_le (given_of filled) a.last) filled_some))
        (λ q ne. times_without_other h.index q ne a.order.free)
        (omega (arith, length_without h.index a.order.free, once_free, is.count))

    new_ref : ref_at a.thread places.items h.index ≡ record { handle = h; object = o }
    new_ref =
        let back : given_of (place_at a.places.items h.index) + 1 - 1 ≡ given_of (place_at a.places.items h.index) =
        omega arith in
        ap (λ ps. ref_at a.thread ps h.index) set
        ∙ ap (shown a.thread h.index) (get_or-set_same a.places.items h.index filled unused next_index)
        ∙ ap (λ k. of_handle (record { kind = Local; serial = k; index = h.index; owner = a.thread }) filled.object)
        (ap (λ k. k - 1) given ∙ back ∙ sym given_is)
        ∙ ap (of_handle (record {
          kind = Local;
          serial = slice_index (table a).frames.given h.index;
          index = h.index;
          owner = a.thread;
        })) object
        ∙ ap (λ k. of_handle k o) (sym next.handle)
      where
        of_handle : Handle → ℕ → LocalRef
        of_handle k object = record { handle = k; object = object }

    added_is : (n : ℕ) → IsAdded a.last a.thread (table a).frames (record { handle = h; object = o })
        (table (changed a n places order_added)).frames
    added_is n = record {
      place = next.place;
      free = next.free;
      handle = next.handle;
      new_is = frames_same _ _ _ _
          (ap (map (map (ref_at a.thread places.items))) lists_are
          ∙ map_with_end (ref_at a.thread places.items) a.order.lists h.index
          ∙ (ap (λ rs. with_last rs (ref_at a.thread places.items h.index))
          (frames_other a.thread a.places.items places.items h.index (λ q ne. ap (λ ps. place_at ps q) set
          ∙ get_or-set_other a.places.items h.index q filled unused ne) a.order.lists not_standing)
          ∙ ap (with_last (map (map (ref_at a.thread a.places.items)) a.order.lists)) new_ref))
          (ap (map given_of) set ∙ (map-set given_of a.places.items h.index filled
          ∙ (ap (λ k. slice_set (table a).frames.given h.index k) given
          ∙ ap (λ k. slice_set (table a).frames.given h.index (k + 1)) (sym given_is
          ∙ sym (ap (λ (k : Handle). k.serial) next.handle)))));
    }

    module _ (order : Lists) (order_is : order ≡ order_added) where
      pub added_shows : o ≢ 0 → IsTable (changed a (a.free - 1) places order)
      added_shows some = subst (λ l. IsTable (changed a (a.free - 1) places l)) (sym order_is) (all_shown some)

      pub is_added : (n : ℕ) → IsAdded a.last a.thread (table a).frames (record { handle = h; object = o })
          (table (changed a n places order)).frames
      is_added n = subst (λ l. IsAdded a.last a.thread (table a).frames (record { handle = h; object = o })
          (table (changed a n places l)).frames) (sym order_is) (added_is n)
