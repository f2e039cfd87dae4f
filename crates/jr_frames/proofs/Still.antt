-- A table stands after a change of one place and of the order.
use Rattle.std.proofs.Common.{◌≡◌, ◌≢◌, ◌==◌, ◌&&◌, ◌+◌, ◌<◌, ◌≤◌, ℕ, Bool, not, if◌then◌else◌}
use Rattle.std.proofs.Common.{nat_le, IsTrue, ◌∷◌, length, slice_set, sym, ap, subst, ◌∙◌, arith}
use Rattle.std.proofs.lemmas.List.{length-map, length-set}
use Rattle.std.specs.List.{concat}
use Rattle.arrayvec.specs.ArrayVec.{ArrayVec}
use Rattle.linked_lists.specs.Lists.{Lists, all_numbers, lists_without, times, without_number}
use Rattle.linked_lists.proofs.Times.{concat_without, times_without_self}
use Rattle.jr_frames.specs.declared.place.Place.{Place}
use Rattle.jr_frames.specs.declared.frames.Frames.TheInside.{Inside as Fields}
use Rattle.jr_frames.specs.Places.{given_of, place_at}
use Rattle.jr_frames.specs.Arrangements.{IsTable}
use Rattle.jr_frames.proofs.Changing.{changed, after_set}

-- a place of the table, with these parts, is there and free
abbrev pub is_idle_as : ℕ → ℕ → ℕ → Place → Bool
is_idle_as last places q y = nat_le (q + 1) places && (not (not (y.object == 0)) && nat_le (given_of y) last)

module _ (a : Fields) (is : IsTable a) (p : ℕ) (l : p < length a.places.items) (x : Place) (places : ArrayVec Place)
    (set : places.items ≡ slice_set a.places.items p x) where
  same_length : length a.places.items ≡ length places.items
  same_length = sym (ap length set ∙ length-set a.places.items p x)

  pub still_shows : (n : ℕ) (order : Lists) → order.numbers ≡ a.order.numbers
      → length order.lists ≡ length a.order.lists
      → (IsTrue (not (x.object == 0)) → 1 ≤ given_of x) → given_of x ≤ a.last + 1
      → times p (concat order.lists) ≡ (if not (x.object == 0) then 1 else 0)
      → ((q : ℕ) → q ≢ p → times q (concat order.lists) ≡ times q (concat a.order.lists))
      → times p order.free ≡ (if is_idle_as a.last (length a.places.items) p x then 1 else 0)
      → ((q : ℕ) → q ≢ p → times q order.free ≡ times q a.order.free)
      → n ≡ length order.free → IsTable (changed a n places order)
  still_shows n order numbers frames given within once others idle spared count = record {
    few = let e = is.few in rw (set, length-set) e;
    last_fits = is.last_fits;
    given = after_set (λ q y. IsTrue (not (y.object == 0)) → 1 ≤ given_of y) a.places.items places.items p x l set given
        (λ q ne. is.given q);
    within =
        after_set (λ q y. given_of y ≤ a.last + 1) a.places.items places.items p x l set within (λ q ne. is.within q);
    numbers = numbers ∙ (is.numbers ∙ same_length);
    some_frame = let s = is.some_frame in omega arith;
    few_frames = let s = is.few_frames in omega arith;
    once = after_set (λ q y. times q (concat order.lists) ≡ (if not (y.object == 0) then 1 else 0)) a.places.items
        places.items p x l set once (λ q ne. others q ne ∙ is.once q);
    idle = λ q.
        subst (λ k. times q order.free ≡ (if is_idle_as a.last k q (place_at places.items q) then 1 else 0)) same_length
        (after_set (λ r y. times r order.free ≡ (if is_idle_as a.last (length a.places.items) r y then 1 else 0))
        a.places.items places.items p x l set idle (λ r ne. spared r ne ∙ is.idle r) q);
    count = count;
  }

-- a place that was taken out of the order may be put in it
pub may_put : (a : Fields) → IsTable a → (p : ℕ) → p < length a.places.items → (order : Lists)
    → order ≡ lists_without a.order p
    → (p < order.numbers) × (times p (all_numbers order) ≡ 0) × (1 ≤ length order.lists)
may_put a is p low order e =
    subst (λ (l : Lists). (p < l.numbers) × (times p (all_numbers l) ≡ 0) × (1 ≤ length l.lists)) (sym e) (
      omega (arith, is.numbers),
      ap (times p) (concat_without p (a.order.free ∷ a.order.lists)) ∙ times_without_self p (all_numbers a.order),
      omega (arith, is.some_frame, length-map a.order.lists (without_number p)),
    )
