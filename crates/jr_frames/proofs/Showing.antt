-- What is shown of places, and of the order that they stand in.
use Rattle.std.proofs.Common.{◌≡◌, ◌==◌, ◌&&◌, ◌+◌, ◌≤◌, ℕ, Bool, false}
use Rattle.std.proofs.Common.{nat_le, List, [], ◌∷◌, ◌++◌, map, length, refl, sym, ap, ◌∙◌, arith}
use Rattle.std.proofs.lemmas.List.{map-append}
use Rattle.std.proofs.lemmas.Bool.Decides.{nat_tests}
use Rattle.std.specs.List.{concat}
use Rattle.linked_lists.specs.Lists.{last_list, lists_before, with_end}
use Rattle.jr_model.specs.declared.frames.LocalRef.{LocalRef}
use Rattle.jr_model.specs.Frames.{joined, with_last, last_frame, frames_before}
use Rattle.jr_frames.specs.declared.place.Place.{Place}
use Rattle.jr_frames.specs.Places.{is_idle}

beyond : (q n : ℕ) (b : Bool) → n ≤ q → (nat_le (q + 1) n && b) ≡ false
beyond q n b l = grind (arith, nat_tests)

pub not_idle : (last : ℕ) (places : List Place) (q : ℕ) → length places ≤ q → is_idle last places q ≡ false
not_idle last places q l = beyond q (length places) _ l

-- REFERENCES of the order, where each place shows one

module _ (show : ℕ → LocalRef) where
  pub joined_map : (rs : List (List ℕ)) → joined (map (map show) rs) ≡ map show (concat rs)
  joined_map [] = refl
  joined_map (xs ∷ rest) = ap (λ l. map show xs ++ l) (joined_map rest) ∙ sym (map-append show xs (concat rest))

  pub map_with_end : (rs : List (List ℕ)) (p : ℕ)
      → map (map show) (with_end rs p) ≡ with_last (map (map show) rs) (show p)
  map_with_end [] p = refl
  map_with_end (x ∷ []) p = ap (λ l. l ∷ []) (map-append show x (p ∷ []))
  map_with_end (x ∷ y ∷ xs) p = ap (λ l. map show x ∷ l) (map_with_end (y ∷ xs) p)

  pub map_last : (rs : List (List ℕ)) → last_frame (map (map show) rs) ≡ map show (last_list rs)
  map_last [] = refl
  map_last (x ∷ []) = refl
  map_last (x ∷ y ∷ xs) = map_last (y ∷ xs)

  pub map_before : (rs : List (List ℕ)) → frames_before (map (map show) rs) ≡ map (map show) (lists_before rs)
  map_before [] = refl
  map_before (x ∷ []) = refl
  map_before (x ∷ y ∷ xs) = ap (λ l. map show x ∷ l) (map_before (y ∷ xs))
