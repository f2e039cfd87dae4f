-- Modes: what becomes of copied elements.
use Rattle.std.specs.Prelude.{ℕ, Bool, true, ◌||◌, List, codes, if◌then◌else◌}
use Rattle.std.specs.Str.{bytes_eq}
use Rattle.jr_model.specs.declared.frames.Mode.{Mode}
use Rattle.jr_model.specs.declared.frames.Mode.TheVariants.{Copy, Commit, Abort}
use Rattle.jr_syntax.specs.Kind.{WordKind}

-- whether a word is one of a mode
abbrev pub is_mode_word : List ℕ → Bool
is_mode_word w = bytes_eq w (codes "copy") || bytes_eq w (codes "commit") || bytes_eq w (codes "abort")

-- the mode that such a word says
abbrev pub mode_of : List ℕ → Mode
mode_of w = if bytes_eq w (codes "copy") then Copy else (if bytes_eq w (codes "commit") then Commit else Abort)

-- the word of a mode
abbrev pub word_of_mode : Mode → List ℕ
word_of_mode Copy = codes "copy"
word_of_mode Commit = codes "commit"
word_of_mode Abort = codes "abort"

-- a MODE
abbrev pub mode : WordKind Mode
mode =
    record { has_form = is_mode_word; in_range = λ _. true; value = mode_of; spell = word_of_mode; is_good = λ _. true }
