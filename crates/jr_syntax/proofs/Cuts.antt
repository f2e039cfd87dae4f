-- A list that is cut where a test passes.
use Rattle.std.proofs.Common.{◌≡◌, ℕ, ◌+◌, ◌<◌, Bool, true, false, cond, List, [], ◌∷◌}
use Rattle.std.proofs.Common.{length, take, drop, Option, Some, None, refl, arith, ltb}
use Rattle.std.specs.Prelude.{MatchOption, not, nat_eq, ◌-◌}
use Rattle.std.specs.List.{slice_split, onto_first, position, position_or_len}
use Rattle.std.proofs.lemmas.List.Splits.{slice_split_first, length-slice_split}
use Rattle.std.proofs.lemmas.Grind.{common_steps}
use Rattle.jr_syntax.specs.Line.{lines_of_pieces, lines_of}
use Rattle.std.proofs.lemmas.Bool.{ltb-true, ltb-false}

-- where no element passes
uncut : {X : Type 0} (p : X → Bool) (xs : List X) → length xs < position_or_len p xs + 1 → slice_split p xs ≡ xs ∷ []
uncut p [] h = refl
uncut p (x ∷ xs) h =
    let P : Bool → Type 0 = λ b. length xs + 1 < cond (not b) (1 + position_or_len p xs) 0 + 1
    → cond b ([] ∷ slice_split p xs) (onto_first x (slice_split p xs)) ≡ (x ∷ xs) ∷ [] in
    (elim (p x) as P [ true ↦ λ k. absurd (omega arith) | false ↦ λ k. rw (uncut p xs (omega arith)) refl ])
    (omega arith)

-- what position tells of the parts
pub cut_at : {X : Type 0} (p : X → Bool) (xs : List X) (d : X) (r : Option ℕ) → r ≡ position p xs
    → MatchOption r (slice_split p xs ≡ xs ∷ []) (λ i. (i < length xs)
    × (slice_split p xs ≡ take i xs ∷ slice_split p (drop (i + 1) xs)))
cut_at p xs d r e =
    let Goal : Option ℕ → Type 0 = λ o. MatchOption o (slice_split p xs ≡ xs ∷ []) (λ i. (i < length xs)
    × (slice_split p xs ≡ take i xs ∷ slice_split p (drop (i + 1) xs))) in
    let n = position_or_len p xs in
    let P : Bool → Type 0 = λ b. ltb n (length xs) ≡ b → Goal (cond b (Some n) None) in
    rw e ((elim (ltb n (length xs)) as P [
      | true ↦ λ t. (ltb-true _ _ t, slice_split_first p xs d (ltb-true _ _ t))
      | false ↦ λ t. let le = ltb-false _ _ t in uncut p xs (omega arith)
    ]) refl)

-- a part that a line feed ends is a whole line
lines_of_pieces_more : (x text : List ℕ) → lines_of_pieces (x ∷ slice_split (λ c. nat_eq c 10) text)
    ≡ (x, true) ∷ lines_of_pieces (slice_split (λ c. nat_eq c 10) text)
lines_of_pieces_more x text =
    let some = length-slice_split (λ c. nat_eq c 10) text in
    let P : List (List ℕ) → Type 0 = λ parts. 0 < length parts
    → lines_of_pieces (x ∷ parts) ≡ (x, true) ∷ lines_of_pieces parts in
    (elim (slice_split (λ c. nat_eq c 10) text) as P [ [] ↦ λ h. absurd (omega arith) | (y ∷ ys) ↦ λ h. refl ])
    (omega arith)

pub lines_of_more : (text x rest : List ℕ)
    → slice_split (λ c. nat_eq c 10) text ≡ x ∷ slice_split (λ c. nat_eq c 10) rest
    → lines_of text ≡ (x, true) ∷ lines_of rest
lines_of_more text x rest e = rw e (lines_of_pieces_more x rest)

-- where the text behind the line feed is written as a range
pub lines_of_cut : (text : List ℕ) (i : ℕ) → (i < length text)
    × (slice_split (λ c. nat_eq c 10) text ≡ take i text ∷ slice_split (λ c. nat_eq c 10) (drop (i + 1) text))
    → lines_of text ≡ (take i text, true) ∷ lines_of (take (length text - (i + 1)) (drop (i + 1) text))
lines_of_cut text i h =
    let all : take (length text - (i + 1)) (drop (i + 1) text) ≡ drop (i + 1) text = grind (arith, common_steps) in
    rw all (lines_of_more text (take i text) (drop (i + 1) text) h.1)
