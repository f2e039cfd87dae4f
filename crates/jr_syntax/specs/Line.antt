-- Lines and their words.
use Rattle.std.specs.Prelude.{ℕ, Bool, List, [], ◌∷◌, ◌==◌, length, true, false}
use Rattle.std.specs.Prelude.{Option, Some, None, if◌then◌else◌, zero, suc}
use Rattle.std.specs.List.{join_with_byte, slice_split}
use Rattle.std.specs.Borrow.{Bor}

-- a line of words, one space between two, without its line feed
abbrev pub line : List (List ℕ) → List ℕ
line words = join_with_byte 32 words

-- the words of a line: what stands between spaces
abbrev pub words_of : List ℕ → List (List ℕ)
words_of line = slice_split (λ c. c == 32) line

-- the k-th word, or nothing
abbrev pub word_at : List (List ℕ) → ℕ → List ℕ
word_at [] k = []
word_at (w ∷ ws) zero = w
word_at (w ∷ ws) (suc k) = word_at ws k

-- the words behind the first
abbrev pub behind : List (List ℕ) → List (List ℕ)
behind [] = []
behind (w ∷ ws) = ws

-- a line of a text, and whether its line feed stands behind it
abbrev pub Line : Type 0
Line = List ℕ × Bool

-- what stands between line feeds, as lines: what stands behind the last is a line only where it is not empty
abbrev pub lines_of_pieces : List (List ℕ) → List Line
lines_of_pieces [] = []
lines_of_pieces (x ∷ []) = if length x == 0 then [] else (x, false) ∷ []
lines_of_pieces (x ∷ y ∷ more) = (x, true) ∷ lines_of_pieces (y ∷ more)

-- the lines of a text
abbrev pub lines_of : List ℕ → List Line
lines_of text = lines_of_pieces (slice_split (λ c. c == 10) text)

-- the words of what is left of a line, if anything is
abbrev pub words_left : Option (Bor (List ℕ)) → List (List ℕ)
words_left None = []
words_left (Some line) = words_of line.now

-- the lines of what is left of a text, if anything is
abbrev pub lines_left : Option (Bor (List ℕ)) → List Line
lines_left None = []
lines_left (Some text) = lines_of text.now
