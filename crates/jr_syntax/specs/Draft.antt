-- For the crate's own functions: a script as it is read, line by line.
use Rattle.std.specs.Prelude.{◌≡◌, ℕ, Bool, false, not, List, [], ◌∷◌, ◌++◌, length, Option, Some}
use Rattle.std.specs.Prelude.{None, is_none, Result, Ok, Err, nat_le, nat_lt, if◌then◌else◌}
use Rattle.std.specs.Option.{option_map, option_map_or}
use Rattle.std.specs.List.{list_all, list_any}
use Rattle.std.specs.Str.{bytes_eq}
use Rattle.jr_word.specs.Config.{is_between}
use Rattle.jr_syntax.specs.declared.command.Command.{Command}
use Rattle.jr_syntax.specs.declared.fault.Reason.{Reason}
use Rattle.jr_syntax.specs.declared.fault.Reason.TheVariants.{TooLong, UnfinishedLine, NotAscii, VmLineExpected}
use Rattle.jr_syntax.specs.declared.fault.Reason.TheVariants.{ThreadLineExpected, TooManyThreads, NameUsedTwice}
use Rattle.jr_syntax.specs.declared.fault.Reason.TheVariants.{CommandExpected, NumberOutOfRange, PostedTwice}
use Rattle.jr_syntax.specs.declared.fault.ScriptFault.{ScriptFault}
use Rattle.jr_syntax.specs.declared.fault.ScriptFault.TheVariants as script_faults
use Rattle.jr_syntax.specs.declared.draft.LineFault.{LineFault}
use Rattle.jr_syntax.specs.declared.draft.LineFault.TheVariants as faults
use Rattle.jr_syntax.specs.declared.draft.Draft.{Draft}
use Rattle.jr_syntax.specs.declared.thread.ThreadPart.{ThreadPart}
use Rattle.jr_syntax.specs.Line.{Line, words_of}
use Rattle.jr_syntax.specs.Command.{line_has_form, line_in_range, line_command}
use Rattle.jr_syntax.specs.Script.{vm, thread, names_of, posted, posts_of, most_lines}
use Rattle.jr_syntax.specs.Faults.{first_fit, share}

abbrev pub last_part : Option ThreadPart → List ThreadPart
last_part None = []
last_part (Some p) = p ∷ []

-- the parts so far
abbrev pub parts_of : Draft → List ThreadPart
parts_of d = d.whole ++ last_part d.last

-- What a line of the table's rows gave: the first that fits, or where none fits what then holds.
abbrev pub Gave : List (Reason × Bool) → Result (Unit {0}) LineFault → Type 0 → Type 0
Gave rows (Ok _) P = (first_fit rows ≡ None) × P
Gave rows (Err (faults.Fault r)) P = first_fit rows ≡ Some r
Gave rows (Err faults.Memory) P = Unit {0}

-- The same, where the value is known.
abbrev pub GaveSome : {X : Type 0} → List (Reason × Bool) → Result X Reason → Option X → Type 0
GaveSome rows (Ok x) o = (first_fit rows ≡ None) × (o ≡ Some x)
GaveSome rows (Err r) o = first_fit rows ≡ Some r

-- the table for the first line
abbrev pub first_rows : Line → List (Reason × Bool)
first_rows l =
    (UnfinishedLine, not l.1)
    ∷ (NotAscii, not (list_all (is_between 32 126) l.0))
    ∷ (VmLineExpected, not (vm.has_form (words_of l.0)))
    ∷ (NumberOutOfRange, not (vm.in_range (words_of l.0)))
    ∷ []

-- the table for a thread line behind what was read
abbrev pub thread_rows : Draft → List ℕ → List (Reason × Bool)
thread_rows d word =
    (TooManyThreads, nat_le d.config.threads (length (parts_of d)))
    ∷ (NameUsedTwice, list_any (bytes_eq word) (names_of (parts_of d))) ∷ []

-- the table for another line behind what was read
abbrev pub command_rows : Draft → List (List ℕ) → List (Reason × Bool)
command_rows d ws =
    (ThreadLineExpected, is_none d.last) ∷ (CommandExpected, not (line_has_form ws))
    ∷ (NumberOutOfRange, not (line_in_range ws))
    ∷ (PostedTwice, share (option_map_or posted (line_command ws) []) (posts_of (parts_of d))) ∷ []

-- the table for a line behind the first, by what was read
abbrev pub rows : ℕ → Draft → Line → List (Reason × Bool)
rows number d l =
    (TooLong, nat_lt most_lines number)
    ∷ (UnfinishedLine, not l.1)
    ∷ (NotAscii, not (list_all (is_between 32 126) l.0))
    ∷ (if thread.has_form (words_of l.0) then thread_rows d (thread.value (words_of l.0))
    else command_rows d (words_of l.0))

-- one more command in the last part
abbrev pub with_command : List ThreadPart → Command → List ThreadPart
with_command [] c = []
with_command (p ∷ []) c = record { name = p.name; commands = p.commands ++ c ∷ [] } ∷ []
with_command (p ∷ q ∷ ps) c = p ∷ with_command (q ∷ ps) c

-- a part with no commands yet
abbrev pub begun : List ℕ → ThreadPart
begun word = record { name = word; commands = [] }

-- What a thread line did.
abbrev pub ReadsThreadLine : Draft → List ℕ → Result (Unit {0}) LineFault → Draft → Type 0
ReadsThreadLine old word result new =
    Gave (thread_rows old word) result ((new.config ≡ old.config) × (parts_of new ≡ parts_of old ++ begun word ∷ [])
    × (is_none new.last ≡ false))

-- What a command's line did.
abbrev pub Adds : Draft → List (List ℕ) → Result (Unit {0}) LineFault → Draft → Type 0
Adds old ws result new =
    Gave (command_rows old ws) result ((new.config ≡ old.config)
    × (Some (parts_of new) ≡ option_map (with_command (parts_of old)) (line_command ws)) × (is_none new.last ≡ false))

-- What a line without a fault adds.
abbrev pub Grown : Draft → List ℕ → Draft → Type 0
Grown old l new =
    (new.config ≡ old.config)
    × (Some (parts_of new)
    ≡ (if thread.has_form (words_of l) then Some (parts_of old ++ begun (thread.value (words_of l)) ∷ [])
    else option_map (with_command (parts_of old)) (line_command (words_of l))))
    × (is_none new.last ≡ false)

-- the fault of a line, at its number
abbrev pub fault_at : ℕ → LineFault → ScriptFault
fault_at n (faults.Fault r) = script_faults.At n r
fault_at n faults.Memory = script_faults.Memory
