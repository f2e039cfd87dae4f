-- What the table shows at a place, and of a handle.
use Rattle.std.proofs.Common.{◌≡◌, ◌==◌, ◌&&◌, ◌||◌, ◌+◌, ℕ, Bool, true, false, not, cond, if◌then◌else◌}
use Rattle.std.proofs.Common.{nat_le, List, [], ◌∷◌, map, Option, Some, None, slice_index, refl, ap, ◌∙◌, arith}
use Rattle.std.specs.List.{list_any, concat}
use Rattle.std.proofs.Math.ListN.{get_or-map}
use Rattle.jr_model.specs.declared.frames.LocalRef.{LocalRef}
use Rattle.jr_model.specs.State.{Handle, same_handle}
use Rattle.jr_model.specs.Frames.{object_where, object_at, object_of, is_free}
use Rattle.jr_model.proofs.Updates.{eq_true, eq_self}
use Rattle.jr_frames.specs.declared.place.Place.{Place}
use Rattle.jr_frames.specs.declared.frames.Frames.TheInside.{Inside as Fields}
use Rattle.jr_frames.specs.Places.{given_of, unused, place_at, is_taken, ref_at}
use Rattle.linked_lists.specs.Lists.{times}
use Rattle.jr_frames.specs.Arrangements.{table, IsTable}
use Rattle.jr_frames.proofs.Showing.{joined_map}

-- the object at a place, none where no reference stands
abbrev pub object_in : Place → Option ℕ
object_in place = cond (place.object == 0) None (Some place.object)

listed_step : (same b any : Bool) (n : ℕ) → (if same then 1 else 0) + n ≡ (if b then 1 else 0)
    → ((d : Bool) → n ≡ (if d then 1 else 0) → any ≡ d) → (same || any) ≡ b
listed_step true true any n e rest = refl
listed_step true false any n e rest = absurd (omega arith)
listed_step false b any n e rest = rest b (omega arith)

-- a number that a list has once where b holds, and else never, is in it where b holds
pub listed : (p : ℕ) (xs : List ℕ) (b : Bool) → times p xs ≡ (if b then 1 else 0) → list_any (λ q. q == p) xs ≡ b
listed p [] true e = absurd (omega arith)
listed p [] false e = refl
listed p (x ∷ xs) b e = listed_step (x == p) b (list_any (λ q. q == p) xs) (times p xs) e (λ d f. listed p xs d f)

found_step : (same any b passes : Bool) (x o rest : Option ℕ) → rest ≡ cond (any && b) o None
    → (same ≡ false → passes ≡ false) → (same ≡ true → (passes ≡ b) × (x ≡ o))
    → cond passes x rest ≡ cond ((same || any) && b) o None
found_step true any true passes x o rest r miss hit = ap (λ c. cond c x rest) (hit refl).0 ∙ (hit refl).1
found_step true true false passes x o rest r miss hit = ap (λ c. cond c x rest) (hit refl).0 ∙ r
found_step true false false passes x o rest r miss hit = ap (λ c. cond c x rest) (hit refl).0 ∙ r
found_step false any b passes x o rest r miss hit = ap (λ c. cond c x rest) (miss refl) ∙ r

module _ (thread : ℕ) (places : List Place) where
  -- a test that the reference at p alone may pass, and does where b holds, finds its object
  found_object : (test : LocalRef → Bool) (p : ℕ) → ((q : ℕ) → (q == p) ≡ false → test (ref_at thread places q) ≡ false)
      → (xs : List ℕ) → object_where test (map (ref_at thread places) xs)
      ≡ cond (list_any (λ q. q == p) xs && test (ref_at thread places p)) (Some (place_at places p).object) None
  found_object test p others [] = refl
  found_object test p others (x ∷ xs) = found_step (x == p) (list_any (λ q. q == p) xs) (test (ref_at thread places p))
      (test (ref_at thread places x)) (Some (place_at places x).object) (Some (place_at places p).object)
      (object_where test (map (ref_at thread places) xs))
      (found_object test p others xs) (others x) (λ e. (
        ap (λ q. test (ref_at thread places q)) (eq_true x p e),
        ap (λ q. Some (place_at places q).object) (eq_true x p e),
      ))

  -- a place is among the references where it is listed
  pub any_ref : (p : ℕ) (xs : List ℕ)
      → list_any (λ r. r.handle.index == p) (map (ref_at thread places) xs) ≡ list_any (λ q. q == p) xs
  any_ref p [] = refl
  any_ref p (x ∷ xs) = ap (λ b. x == p || b) (any_ref p xs)

pub index_differs : (a b c : Bool) → b ≡ false → ((a && b) && c) ≡ false
index_differs true b c e = ap (λ d. d && c) e
index_differs false b c e = refl

object_step : (free here : Bool) (o : Option ℕ) → here ≡ true → cond (not free && here) o None ≡ cond free None o
object_step true here o e = refl
object_step false here o e = ap (λ b. cond b o None) e

module _ (a : Fields) (is : IsTable a) where
  listed_taken : (p : ℕ) → list_any (λ q. q == p) (concat a.order.lists) ≡ is_taken a.places.items p
  listed_taken p = listed p (concat a.order.lists) (is_taken a.places.items p) (is.once p)

  pub object_at_place : (p : ℕ) → object_at (table a).frames p ≡ object_in (place_at a.places.items p)
  object_at_place p =
      ap (object_where (λ r. r.handle.index == p)) (joined_map (ref_at a.thread a.places.items) a.order.lists)
      ∙ found_object a.thread a.places.items (λ r. r.handle.index == p) p (λ q e. e) (concat a.order.lists)
      ∙ ap (λ b. cond (b && (p == p)) (Some (place_at a.places.items p).object) None) (listed_taken p)
      ∙ object_step ((place_at a.places.items p).object == 0) (p == p) (Some (place_at a.places.items p).object)
      (eq_self p)

  pub object_of_handle : (h : Handle) → object_of (table a).frames h
      ≡ cond (is_taken a.places.items h.index && same_handle (ref_at a.thread a.places.items h.index).handle h)
      (Some (place_at a.places.items h.index).object) None
  object_of_handle h =
      ap (object_where (λ r. same_handle r.handle h)) (joined_map (ref_at a.thread a.places.items) a.order.lists)
      ∙ found_object a.thread a.places.items (λ r. same_handle r.handle h) h.index
      (λ q e. index_differs _ (q == h.index) _ e) (concat a.order.lists)
      ∙ ap (λ b. cond (b && same_handle (ref_at a.thread a.places.items h.index).handle h)
      (Some (place_at a.places.items h.index).object) None) (listed_taken h.index)

  pub is_free_place : (last p : ℕ) → is_free last (table a).frames p ≡ (not (is_taken a.places.items p)
      && nat_le (given_of (place_at a.places.items p)) last)
  is_free_place last p =
      ap (λ rs. not (list_any (λ r. r.handle.index == p) rs) && nat_le (slice_index (table a).frames.given p)
      last) (joined_map (ref_at a.thread a.places.items) a.order.lists)
      ∙ ap (λ b. not b && nat_le (slice_index (table a).frames.given p) last)
      (any_ref a.thread a.places.items p (concat a.order.lists) ∙ listed_taken p)
      ∙ ap (λ n. not (is_taken a.places.items p) && nat_le n last) (get_or-map given_of a.places.items p unused)
