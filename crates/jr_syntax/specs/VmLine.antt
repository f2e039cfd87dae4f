-- For the crate's own functions: the words of the first line.
use Rattle.std.specs.Prelude.{◌≡◌, ℕ, true, List, [], ◌∷◌, codes}
use Rattle.jr_syntax.specs.Number.{is_number}

-- the first line with these words for its sizes
abbrev pub vm_words : List ℕ → List ℕ → List ℕ → List ℕ → List ℕ → List (List ℕ)
vm_words a b c d e =
    codes "vm" ∷ codes "threads" ∷ a ∷ codes "slots" ∷ b ∷ codes "objects" ∷ c ∷ codes "words" ∷ d ∷ codes "locals" ∷ e
    ∷ []

-- These words are numbers.
pub record AreNumbers (a b c d e : List ℕ) : Type 0 where
  pub threads : is_number a ≡ true
  pub slots : is_number b ≡ true
  pub objects : is_number c ≡ true
  pub words : is_number d ≡ true
  pub locals : is_number e ≡ true
