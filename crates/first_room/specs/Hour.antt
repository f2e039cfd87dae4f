-- What the program writes, and what is so of it.
use Rattle.std.specs.Prelude.{◌≡◌, ◌≤◌, ℕ, pos, Bool, if◌then◌else◌, Option, Ok, List, [], ◌∷◌, ◌++◌, codes}
use Rattle.std.specs.Fmt.{decimal, signed_decimal}
use Rattle.std.specs.Io.KnownBytes.{Appends}
use Rattle.first_room.specs.declared.TheConstants.{SIZES}
use Rattle.first_room.specs.declared.message.Found.TheVariants.{Shared, Visited}
use Rattle.first_room.specs.declared.message.Report.{Report}
use Rattle.jr_threads.specs.Parts.{RanTogether}
use Rattle.first_room.specs.Calls.{has_found, story_of}

-- a yes or no
abbrev pub yes_or_no : Bool → List ℕ
yes_or_no b = if b then codes "true" else codes "false"

-- a line: words, and behind them what they tell of
abbrev pub told_line : List ℕ → List ℕ → List ℕ
told_line words told = words ++ (told ++ 10 ∷ [])

-- THE LINES of a report
abbrev pub report_lines : Report → List (List ℕ)
report_lines r =
    told_line (codes "a collection is refused: E14, inside: ") (decimal r.inside)
    ∷ told_line (codes "the second thread reads ") (signed_decimal r.read)
    ∷ told_line (codes "the weak reference is to null: ") (yes_or_no r.cleared)
    ∷ told_line (codes "the deleted reference has type ") (decimal r.kind)
    ∷ told_line (codes "global references left: ") (decimal r.left.globals)
    ∷ told_line (codes "weak references left: ") (decimal r.left.weaks)
    ∷ told_line (codes "objects left: ") (decimal r.left.live)
    ∷ told_line (codes "words left: ") (decimal r.left.used)
    ∷ []

-- its text: the lines, one after the other
abbrev pub report_text : List (List ℕ) → List ℕ
report_text [] = []
report_text (l ∷ ls) = l ++ report_text ls

-- THE REPORT IS TRUE: there is one legal history of the machine, of which each thread has its part, and did its story;
-- the numbers are what the threads found, the element that was read is the one that was written,
-- and what was left is what stands at the end
pub record IsTrueReport (r : Report) : Type 0 where
  pub ran : RanTogether has_found story_of SIZES 4294967295
      (Ok (Shared r.inside r.cleared r.kind) ∷ Ok (Visited r.read) ∷ []) r.left
  pub is_read : r.read ≡ pos 20
  pub some : 1 ≤ r.inside

-- WHAT IS WRITTEN is the text of a true report, and nothing else, where it is known
pub record IsWritten (old new : Option (List ℕ)) : Type 0 where
  pub report : Report
  pub is_true : IsTrueReport report
  pub text : Appends old new (report_text (report_lines report))
