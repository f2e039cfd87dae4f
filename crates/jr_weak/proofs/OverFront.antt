-- What is written over the front of a buffer.
use Rattle.std.proofs.Common.{◌≡◌, ℕ, zero, suc, List, [], ◌∷◌, ◌++◌, drop, length, slice_set, take, refl, sym, ap, ◌∙◌}
use Rattle.jr_weak.specs.Listing.{over_front}

take_none : {X : Type 0} (n : ℕ) → take {A = X} n [] ≡ []
take_none zero = refl
take_none (suc n) = refl

drop_none : {X : Type 0} (n : ℕ) → drop {A = X} n [] ≡ []
drop_none zero = refl
drop_none (suc n) = refl

-- nothing
pub over_none : {X : Type 0} (buffer : List X) → over_front buffer [] ≡ buffer
over_none buffer = ap (λ front. front ++ buffer) (take_none (length buffer))

-- one thing more is written behind the others, where there is room
pub over_more : {X : Type 0} (buffer xs : List X) (x : X)
    → over_front buffer (xs ++ x ∷ []) ≡ slice_set (over_front buffer xs) (length xs) x
over_more [] xs x =
    drop_none (length (xs ++ x ∷ [])) ∙ ap (λ l. slice_set l (length xs) x) (sym (drop_none (length xs)))
over_more (b ∷ bs) [] x = ap (λ front. x ∷ front ++ bs) (take_none (length bs))
over_more (b ∷ bs) (y ∷ ys) x = ap (λ l. y ∷ l) (over_more bs ys x)
