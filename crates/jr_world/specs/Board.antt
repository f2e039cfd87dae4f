-- WHAT STANDS ON A BOARD: words, each with the name that it was posted under.
use Rattle.std.specs.Prelude.{◌≡◌, ℕ, cond, Option, Some, None, List, [], ◌∷◌}
use Rattle.std.specs.Str.{bytes_eq}

-- THE WORD UNDER A NAME: the first one, none where there is none
abbrev pub word_under : List (List ℕ × ℕ) → List ℕ → Option ℕ
word_under [] n = None
word_under (x ∷ xs) n = cond (bytes_eq n x.0) (Some x.1) (word_under xs n)

-- the word stands on the board, and is the first under its name
abbrev pub IsOnBoard : List (List ℕ × ℕ) → List ℕ → ℕ → Type 0
IsOnBoard board n w = word_under board n ≡ Some w
