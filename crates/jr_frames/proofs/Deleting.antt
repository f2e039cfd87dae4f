-- A reference is deleted from the table.
use Rattle.std.proofs.Common.{◌≡◌, ◌≢◌, ◌==◌, ◌&&◌, ◌+◌, ◌<◌, ◌≤◌, ℕ, Bool, true, false}
use Rattle.std.proofs.Common.{not, cond, if◌then◌else◌, nat_le, IsSome, List, [], ◌∷◌, map}
use Rattle.std.proofs.Common.{filter, length, slice_set, refl, sym, ap, subst, ◌∙◌, arith}
use Rattle.std.proofs.lemmas.List.{length-map, get_or-set_other}
use Rattle.std.proofs.lemmas.Bool.Decides.{nat_tests}
use Rattle.std.proofs.Math.Seq.{map-set_same}
use Rattle.arrayvec.specs.ArrayVec.{ArrayVec}
use Rattle.jr_model.specs.declared.frames.LocalRef.{LocalRef}
use Rattle.jr_model.specs.State.{Handle, same_handle}
use Rattle.jr_model.specs.Frames.{object_of, without_local}
use Rattle.jr_model.proofs.Updates.{eq_true, handle_self}
use Rattle.jr_frames.specs.declared.place.Place.{Place}
use Rattle.jr_frames.specs.declared.frames.Frames.TheInside.{Inside as Fields}
use Rattle.jr_frames.specs.Places.{given_of, unused, place_at, is_taken, ref_at}
use Rattle.linked_lists.specs.Lists.{times, without_number, Lists, all_numbers, lists_without, with_free}
use Rattle.std.specs.List.{concat}
use Rattle.jr_frames.specs.Arrangements.{table, IsTable}
use Rattle.linked_lists.proofs.Times.{times_append, times_here, times_there, without_none, times_without_other}
use Rattle.linked_lists.proofs.Times.{times_without_self, concat_without}
use Rattle.jr_frames.proofs.Places.{index_differs}
use Rattle.jr_frames.proofs.Named.{stands, taken_index}
use Rattle.jr_frames.proofs.Changing.{changed, frames_other, frames_same}
use Rattle.jr_frames.proofs.Still.{still_shows}

-- a test of references keeps those of the places that a test of places keeps
map_kept : (show : ℕ → LocalRef) (x : ℕ) (keep passes : Bool) (ys : List ℕ) (rs : List LocalRef) → passes ≡ keep
    → map show ys ≡ rs → map show (cond keep (x ∷ ys) ys) ≡ cond passes (show x ∷ rs) rs
map_kept show x true passes ys rs e rest = ap (λ l. show x ∷ l) rest ∙ sym (ap (λ b. cond b (show x ∷ rs) rs) e)
map_kept show x false passes ys rs e rest = rest ∙ sym (ap (λ b. cond b (show x ∷ rs) rs) e)

filter_refs : (show : ℕ → LocalRef) (keep : ℕ → Bool) (passes : LocalRef → Bool) → ((q : ℕ) → passes (show q) ≡ keep q)
    → (xs : List ℕ) → map show (filter keep xs) ≡ filter passes (map show xs)
filter_refs show keep passes alike [] = refl
filter_refs show keep passes alike (x ∷ xs) = map_kept show x (keep x) (passes (show x)) (filter keep xs)
    (filter passes (map show xs)) (alike x) (filter_refs show keep passes alike xs)

frame_same : (r s : List LocalRef) (xs ys : List (List LocalRef)) → r ≡ s → xs ≡ ys → r ∷ xs ≡ s ∷ ys
frame_same r s xs ys e f = cc

filter_frames : (show : ℕ → LocalRef) (keep : ℕ → Bool) (passes : LocalRef → Bool)
    → ((q : ℕ) → passes (show q) ≡ keep q) → (rs : List (List ℕ))
    → map (map show) (map (filter keep) rs) ≡ map (filter passes) (map (map show) rs)
filter_frames show keep passes alike [] = refl
filter_frames show keep passes alike (xs ∷ rest) =
    frame_same _ _ _ _ (filter_refs show keep passes alike xs) (filter_frames show keep passes alike rest)

-- the place of a handle without its reference
abbrev pub emptied : Fields → ℕ → Place
emptied a p = record { low = (place_at a.places.items p).low; high = (place_at a.places.items p).high; object = 0 }

module _ (a : Fields) (is : IsTable a) (h : Handle) (some : IsSome (object_of (table a).frames h)) where
  pub standing_taken : is_taken a.places.items h.index ≡ true
  standing_taken = (stands a is h some).0

  pub standing_index : h.index < length a.places.items
  standing_index = taken_index a.places.items h.index standing_taken

  -- a reference has the handle where it is of the handle's place
  alike : (q : ℕ) → same_handle (ref_at a.thread a.places.items q).handle h ≡ (q == h.index)
  alike q = go (q == h.index) refl
    where
      go : (b : Bool) → (q == h.index) ≡ b → same_handle (ref_at a.thread a.places.items q).handle h ≡ b
      go true e = ap (λ i. same_handle (ref_at a.thread a.places.items i).handle h) (eq_true q h.index e)
          ∙ (ap (λ k. same_handle k h) (stands a is h some).1 ∙ handle_self h)
      go false e = index_differs _ (q == h.index) _ e

  -- the frames without the handle
  pub frames_without : (without_local (table a).frames h).frames
      ≡ map (map (ref_at a.thread a.places.items)) (map (without_number h.index) a.order.lists)
  frames_without = sym (filter_frames (ref_at a.thread a.places.items) (λ q. not (q == h.index))
      (λ r. not (same_handle r.handle h)) (λ q. ap not (alike q)) a.order.lists)

  pub standing_once : times h.index (concat a.order.lists) ≡ 1
  standing_once = is.once h.index ∙ ap (λ b. if b then 1 else 0) standing_taken

  taken_not_idle : (b t c : Bool) → t ≡ true → (b && (not t && c)) ≡ false
  taken_not_idle true true c e = refl
  taken_not_idle false true c e = refl
  taken_not_idle b false c e = absurd cc

  not_free : times h.index a.order.free ≡ 0
  not_free = is.idle h.index ∙ ap (λ b. if b then 1 else 0) (taken_not_idle
      (nat_le (h.index + 1) (length a.places.items)) (is_taken a.places.items h.index) _ standing_taken)

  pub in_order : 1 ≤ times h.index (all_numbers a.order)
  in_order = omega (arith, times_append h.index a.order.free (concat a.order.lists), standing_once)

  order_out : (q : ℕ) → times q (concat (map (without_number h.index) a.order.lists))
      ≡ times q (without_number h.index (concat a.order.lists))
  order_out q = ap (times q) (concat_without h.index a.order.lists)

  gone : times h.index (concat (map (without_number h.index) a.order.lists)) ≡ 0
  gone = order_out h.index ∙ times_without_self h.index (concat a.order.lists)

  spared : (q : ℕ) → q ≢ h.index
      → times q (concat (map (without_number h.index) a.order.lists)) ≡ times q (concat a.order.lists)
  spared q ne = order_out q ∙ times_without_other h.index q ne (concat a.order.lists)

  free_out : without_number h.index a.order.free ≡ a.order.free
  free_out = without_none h.index a.order.free not_free

  -- the order once the place is the first of the free ones
  abbrev pub order_freed : Lists
  order_freed = with_free (lists_without a.order h.index) (h.index ∷ without_number h.index a.order.free)

  module _ (places : ArrayVec Place) (set : places.items ≡ slice_set a.places.items h.index (emptied a h.index)) where
    -- the place was given its last handle, and is retired
    pub retired_shows : (order : Lists) → order ≡ lists_without a.order h.index
        → a.last < given_of (place_at a.places.items h.index) → IsTable (changed a a.free places order)
    retired_shows order is_out above = subst (λ l. IsTable (changed a a.free places l)) (sym is_out)
        (still_shows a is h.index standing_index (emptied a h.index) places set a.free
        (lists_without a.order h.index) refl (length-map a.order.lists (without_number h.index)) (λ e. absurd cc)
        (is.within h.index) gone spared
        (times_without_self h.index a.order.free
        ∙ sym (ap (λ b. if b then 1 else 0) (high (nat_le (h.index + 1) (length a.places.items))
        (given_of (place_at a.places.items h.index)) a.last above)))
        (λ q ne. times_without_other h.index q ne a.order.free) (is.count ∙ sym (ap length free_out)))
      where
        high : (b : Bool) (n m : ℕ) → m < n → (b && nat_le n m) ≡ false
        high true n m l = grind (arith, nat_tests)
        high false n m l = refl

    -- the place is free again
    pub freed_shows : (order : Lists) → order ≡ order_freed → given_of (place_at a.places.items h.index) ≤ a.last
        → IsTable (changed a (a.free + 1) places order)
    freed_shows order is_freed low = subst (λ l. IsTable (changed a (a.free + 1) places l)) (sym is_freed)
        (still_shows a is h.index standing_index (emptied a h.index) places set (a.free + 1) order_freed
        refl (length-map a.order.lists (without_number h.index)) (λ e. absurd cc) (is.within h.index) gone spared
        (times_here h.index _ ∙ (ap (λ n. 1 + n) (times_without_self h.index a.order.free)
        ∙ sym (ap (λ b. if b then 1 else 0) (there h.index (length a.places.items)
        (given_of (place_at a.places.items h.index)) a.last standing_index low))))
        (λ q ne. times_there q h.index _ (λ e. ne (sym e)) ∙ times_without_other h.index q ne a.order.free)
        (omega (arith, is.count, ap length free_out)))
      where
        there : (p k n m : ℕ) → p < k → n ≤ m → (nat_le (p + 1) k && nat_le n m) ≡ true
        there p k n m l low = grind (arith, nat_tests)

    pub is_deleted : (n : ℕ) (order : Lists) → order.lists ≡ map (without_number h.index) a.order.lists
        → (table (changed a n places order)).frames ≡ without_local (table a).frames h
    is_deleted n order are = frames_same _ _ _ _
        (ap (map (map (ref_at a.thread places.items))) are
        ∙ frames_other a.thread a.places.items places.items h.index (λ q ne. ap (λ ps. place_at ps q) set
        ∙ get_or-set_other a.places.items h.index q (emptied a h.index) unused ne)
        (map (without_number h.index) a.order.lists) gone
        ∙ sym frames_without)
        (ap (map given_of) set ∙ map-set_same given_of a.places.items h.index (emptied a h.index) unused refl)
