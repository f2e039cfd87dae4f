-- The line of a string's units.
use Rattle.std.proofs.Common.{◌≡◌, ◌++◌, ◌∷◌, [], ℕ, List, map, ap, sym}
use Rattle.std.proofs.lemmas.List.{append-nil}
use Rattle.std.specs.Fmt.{decimal}
use Rattle.std.specs.List.{flat_map, join_with_byte}

-- units, a space before each
abbrev pub spaced_units : List ℕ → List ℕ
spaced_units units = flat_map (λ u. 32 ∷ decimal u) units

joined : (word : List ℕ) (units : List ℕ) → join_with_byte 32 (word ∷ map decimal units) ≡ word ++ spaced_units units
joined word [] = sym (append-nil word)
joined word (u ∷ units) = ap (λ rest. word ++ (32 ∷ rest)) (joined (decimal u) units)

-- two words, and units behind them
pub units_line : (word subject units : List ℕ)
    → word ++ (32 ∷ subject ++ spaced_units units) ≡ join_with_byte 32 (word ∷ subject ∷ map decimal units)
units_line word subject units = ap (λ rest. word ++ (32 ∷ rest)) (sym (joined subject units))
