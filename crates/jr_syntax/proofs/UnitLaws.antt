-- Units as they are read, word by word, and as they are written.
use Rattle.std.proofs.Common.{◌≡◌, ℕ, ◌+◌, ◌≤◌, Bool, true, List, [], ◌∷◌, ◌++◌, length, map, sym, ap}
use Rattle.std.specs.Prelude.{◌&&◌}
use Rattle.std.specs.List.{list_all, flat_map}
use Rattle.std.proofs.lemmas.List.{append-nil}
use Rattle.jr_syntax.specs.Number.{is_number, number_of_digits}
use Rattle.jr_syntax.specs.Line.{line}
use Rattle.jr_syntax.specs.Units.{unit, units}

-- what was read of some words, and what is left of them
pub record IsReading (all rest : List (List ℕ)) (us : List ℕ) (in_range : Bool) : Type 0 where
  pub few : length us ≤ 64
  pub counted : length all ≡ length us + length rest
  pub form : list_all is_number all ≡ list_all is_number rest
  pub range : units.in_range all ≡ (in_range && list_all unit.in_range rest)
  pub value : in_range ≡ true → units.value all ≡ us ++ map number_of_digits rest

-- a line of a word and of units, each with a space before it
pub spaced : (w : List ℕ) (us : List ℕ) → line (w ∷ map unit.spell us) ≡ w ++ flat_map (λ u. 32 ∷ unit.spell u) us
spaced w [] = sym (append-nil w)
spaced w (u ∷ us) = ap (λ (x : List ℕ). w ++ 32 ∷ x) (spaced (unit.spell u) us)
