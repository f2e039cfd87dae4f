-- THE FAULTS: the first line with a fault, and the first text of the table that fits it.
use Rattle.std.specs.Prelude.{ℕ, ◌+◌, Bool, ◌&&◌, not, List, [], ◌∷◌, ◌++◌, length, map, filter}
use Rattle.std.specs.Prelude.{Option, Some, None, nat_le, nat_lt, ◌==◌, codes, if◌then◌else◌}
use Rattle.std.specs.List.{list_all, list_any, flat_map}
use Rattle.std.specs.Option.{option_map_or}
use Rattle.std.specs.Str.{bytes_eq}
use Rattle.jr_word.specs.Config.{is_between}
use Rattle.jr_syntax.specs.declared.fault.Reason.{Reason}
use Rattle.jr_syntax.specs.declared.fault.Reason.TheVariants.{TooLong, EmptyInput, UnfinishedLine, NotAscii}
use Rattle.jr_syntax.specs.declared.fault.Reason.TheVariants.{VmLineExpected, ThreadLineExpected}
use Rattle.jr_syntax.specs.declared.fault.Reason.TheVariants.{TooManyThreads, NameUsedTwice, CommandExpected}
use Rattle.jr_syntax.specs.declared.fault.Reason.TheVariants.{NumberOutOfRange, PostedTwice}
use Rattle.jr_syntax.specs.Line.{Line, lines_of, words_of, word_at}
use Rattle.jr_syntax.specs.Command.{line_has_form, line_in_range, line_command}
use Rattle.jr_syntax.specs.Script.{vm, thread, posted, most_lines, most_bytes}

-- the text of a reason
abbrev pub reason_text : Reason → List ℕ
reason_text TooLong = codes "too long"
reason_text EmptyInput = codes "empty input"
reason_text UnfinishedLine = codes "unfinished line"
reason_text NotAscii = codes "not ASCII text"
reason_text VmLineExpected = codes "vm line expected"
reason_text ThreadLineExpected = codes "thread line expected"
reason_text TooManyThreads = codes "too many threads"
reason_text NameUsedTwice = codes "name used twice"
reason_text CommandExpected = codes "command expected"
reason_text NumberOutOfRange = codes "number out of range"
reason_text PostedTwice = codes "posted twice"

-- ---- what the lines before a line say

abbrev pub is_thread_line : List ℕ → Bool
is_thread_line l = thread.has_form (words_of l)

-- the second word of a line
abbrev pub second_word : List ℕ → List ℕ
second_word l = word_at (words_of l) 1

-- how many threads the first line says
abbrev pub threads_in : List (List ℕ) → ℕ
threads_in before = (vm.value (words_of (word_at before 0))).threads

-- the names of threads so far
abbrev pub names_in : List (List ℕ) → List (List ℕ)
names_in before = map second_word (filter is_thread_line before)

-- the names that a line posts: those that its command posts, where it is a command
abbrev pub posted_by : List ℕ → List (List ℕ)
posted_by l = option_map_or posted (line_command (words_of l)) []

-- the names that were posted so far
abbrev pub posts_in : List (List ℕ) → List (List ℕ)
posts_in before = flat_map posted_by before

-- whether one of some names stands among others
abbrev pub share : List (List ℕ) → List (List ℕ) → Bool
share names others = list_any (λ n. list_any (bytes_eq n) others) names

-- ---- the table

-- each text in its order, and whether it fits the line that stands behind these
abbrev pub fault_table : List (List ℕ) → Line → List (Reason × Bool)
fault_table before l =
    let number = length before + 1 in
    let ws = words_of l.0 in
    let is_first = number == 1 in
    let is_thread = not is_first && thread.has_form ws in
    let is_other = not is_first && not is_thread in
    (TooLong, nat_lt most_lines number)
    ∷ (UnfinishedLine, not l.1)
    ∷ (NotAscii, not (list_all (is_between 32 126) l.0))
    ∷ (VmLineExpected, is_first && not (vm.has_form ws))
    ∷ (ThreadLineExpected, number == 2 && not is_thread)
    ∷ (TooManyThreads, is_thread && nat_le (threads_in before) (length (names_in before)))
    ∷ (NameUsedTwice, is_thread && list_any (bytes_eq (word_at ws 1)) (names_in before))
    ∷ (CommandExpected, is_other && not (line_has_form ws))
    ∷ (NumberOutOfRange, if is_first then not (vm.in_range ws) else is_other && not (line_in_range ws))
    ∷ (PostedTwice, is_other && share (posted_by l.0) (posts_in before))
    ∷ []

-- the first that fits
abbrev pub first_fit : List (Reason × Bool) → Option Reason
first_fit [] = None
first_fit (row ∷ rows) = if row.1 then Some row.0 else first_fit rows

-- the fault of a line behind these
abbrev pub fault_of : List (List ℕ) → Line → Option Reason
fault_of before l = first_fit (fault_table before l)

-- the number and the fault of the first line with a fault, behind lines that have none; where no line has one, the
-- line after the last has it if a thread's part is missing
abbrev pub first_fault_behind : List (List ℕ) → List Line → Option (ℕ × Reason)
first_fault_behind before [] =
    if nat_lt (length (names_in before)) (threads_in before) then Some (length before + 1, ThreadLineExpected) else None
first_fault_behind before (l ∷ ls) =
    option_map_or (λ r. Some (length before + 1, r)) (fault_of before l) (first_fault_behind (before ++ l.0 ∷ []) ls)

-- the first fault of a text
abbrev pub first_fault : List ℕ → Option (ℕ × Reason)
first_fault text =
    if nat_lt most_bytes (length text) then Some (1, TooLong)
    else if length text == 0 then Some (1, EmptyInput) else first_fault_behind [] (lines_of text)
