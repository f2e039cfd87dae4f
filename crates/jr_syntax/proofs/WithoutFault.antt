-- A text without a fault is the text of a script.
use Rattle.std.proofs.Common.{◌≡◌, ℕ, ◌+◌, ◌≤◌, Bool, true, false, List, [], ◌∷◌, ◌++◌, length}
use Rattle.std.proofs.Common.{Option, Some, None, refl, sym, ap, ◌∙◌, arith, ltb, leb, eqb}
use Rattle.std.specs.Prelude.{is_none, if◌then◌else◌}
use Rattle.std.specs.Option.{option_map, option_map_or}
use Rattle.std.proofs.lemmas.Bool.{false≢true, le-leb, ltb-false}
use Rattle.std.proofs.lemmas.List.{length-map}
use Rattle.jr_syntax.specs.declared.fault.Reason.{Reason}
use Rattle.jr_syntax.specs.declared.fault.Reason.TheVariants.{TooLong, EmptyInput, ThreadLineExpected}
use Rattle.jr_syntax.specs.declared.draft.Draft.{Draft}
use Rattle.jr_syntax.specs.declared.command.Command.{Command}
use Rattle.jr_syntax.specs.declared.verb.Verb.{Verb}
use Rattle.jr_syntax.specs.declared.thread.ThreadPart.{ThreadPart}
use Rattle.jr_syntax.specs.declared.script.Script.{Script}
use Rattle.jr_syntax.specs.Line.{Line, lines_of, words_of}
use Rattle.jr_syntax.specs.Command.{behind_verb, verb_of, line_has_form, line_in_range, line_command}
use Rattle.jr_syntax.specs.Script.{vm, thread, posted, posts_of, script_lines, IsScript, text_of}
use Rattle.jr_syntax.specs.Faults.{first_fit, first_fault_behind, first_fault, threads_in, names_in, share}
use Rattle.jr_syntax.specs.Draft.{parts_of, last_part, rows, first_rows, command_rows, with_command, begun, Grown}
use Rattle.jr_syntax.proofs.PartLaws.{with_command_last}
use Rattle.jr_syntax.proofs.Rows.{command_rows_none, rows_none}
use Rattle.jr_syntax.proofs.Reading.{IsRead, fault_here, next_line, script_read}
use Rattle.jr_syntax.proofs.Reading.{first_read, no_lines, some_lines, table_first}

-- ---- a line without a fault has a script's next line

-- what a line that has the form of a command is
some_command : (o : Option Verb) (ws : List (List ℕ)) → option_map_or (λ v. (behind_verb v).has_form ws) o false ≡ true
    → (c : Command) × (option_map (λ v. (behind_verb v).value ws) o ≡ Some c)
some_command None ws form = absurd (false≢true form)
some_command (Some v) ws form = ((behind_verb v).value ws, refl)

command_there : (ws : List (List ℕ)) → line_has_form ws ≡ true → (c : Command) × (line_command ws ≡ Some c)
unfolding line_has_form line_command
command_there [] form = absurd (false≢true form)
command_there (w ∷ ws) form = some_command (verb_of w) ws form

-- one more command in the part that has begun
command_added : (d : Draft) (l : List ℕ) (c : Command) (o : Option ThreadPart) → d.last ≡ o → is_none o ≡ false
    → thread.has_form (words_of l) ≡ false → line_command (words_of l) ≡ Some c → (new : Draft) × Grown d l new
command_added d l c None last some plain found = absurd (false≢true (sym some))
command_added d l c (Some p) last some plain found =
    let q : ThreadPart = record { name = p.name; commands = p.commands ++ c ∷ [] } in
    let grown : with_command (parts_of d) c ≡ d.whole ++ q ∷ [] =
    ap (λ (o : Option ThreadPart). with_command (d.whole ++ last_part o) c) last ∙ with_command_last d.whole p c in (
      record { config = d.config; whole = d.whole; last = Some q },
      (refl, rw (plain, found) (ap (λ (ps : List ThreadPart). Some ps) (sym grown)), refl),
    )

line_added : (number : ℕ) (d : Draft) (l : Line) (t : Bool) → thread.has_form (words_of l.0) ≡ t
    → first_fit (rows number d l) ≡ None → (new : Draft) × Grown d l.0 new
line_added number d l true form none = (
  record { config = d.config; whole = parts_of d; last = Some (begun (thread.value (words_of l.0))) },
  (refl, rw form refl, refl),
)
line_added number d l false form none =
    let ws = words_of l.0 in
    let here : first_fit (command_rows d ws) ≡ None = sym (rw form refl) ∙ (rows_none number d l none).2 in
    let a = command_rows_none (is_none d.last) (line_has_form ws) (line_in_range ws)
    (share (option_map_or posted (line_command ws) []) (posts_of (parts_of d))) here in
    let c = command_there ws a.1 in
    command_added d l.0 c.0 d.last refl a.0 form c.1

-- ---- one line after the other

abbrev IsOfScript : List ℕ → Type 0
IsOfScript text = (s : Script) × IsScript s × (text ≡ text_of s)

-- whether a text ends too soon
ends_whole : {X : Type 0} (x : X) (b : Bool) → (if b then Some x else None) ≡ None → b ≡ false
ends_whole x true none = absurd cc
ends_whole x false none = refl

-- where no thread's part is missing, the lines are a script's
all_there : (text : List ℕ) (number : ℕ) (d : Draft) → IsRead text number d [] → length text ≤ 65536
    → first_fault text ≡ None → IsOfScript text
all_there text number d h short none =
    let before = script_lines d.config (parts_of d) in
    let f = h.follows in
    let ended : first_fault_behind before [] ≡ None = sym h.fault ∙ none in
    let all : threads_in before ≤ length (names_in before) = ltb-false _ _
    (ends_whole (length before + 1, ThreadLineExpected) (ltb (length (names_in before)) (threads_in before)) ended) in
    let named : length (names_in before) ≡ length (parts_of d) =
    ap (λ (ns : List (List ℕ)). length ns) f.names ∙ length-map (parts_of d) (λ p. p.name) in
    let enough : leb d.config.threads (length (parts_of d)) ≡ true =
    le-leb _ _ (omega (arith, all, named, f.threads)) in
    let read = script_read text number d h short enough in
    (record { config = d.config; threads = parts_of d }, read.0, read.1)

-- a line more, where neither it nor what follows has a fault
line_there : (text : List ℕ) (number : ℕ) (d : Draft) (l : Line) (ls : List Line) (o : Option Reason)
    → IsRead text number d (l ∷ ls) → first_fit (rows (number + 1) d l) ≡ o → first_fault text ≡ None
    → (new : Draft) × IsRead text (number + 1) new ls
line_there text number d l ls (Some r) h fits none =
    absurd (let z : Some (number + 1, r) ≡ None = sym (fault_here text number d l ls r h fits) ∙ none in cc)
line_there text number d l ls None h fits none =
    let x = line_added (number + 1) d l (thread.has_form (words_of l.0)) refl fits in
    (x.0, next_line text number d x.0 l ls h fits x.1)

lines_there : (text : List ℕ) (number : ℕ) (d : Draft) (ls : List Line) → IsRead text number d ls → length text ≤ 65536
    → first_fault text ≡ None → IsOfScript text
lines_there text number d [] h short none = all_there text number d h short none
lines_there text number d (l ∷ ls) h short none =
    let x = line_there text number d l ls (first_fit (rows (number + 1) d l)) h refl none in
    lines_there text (number + 1) x.0 ls x.1 short none

-- ---- the first line

first_there : (text : List ℕ) (l : Line) (ls : List Line) (o : Option Reason) → length text ≤ 65536
    → lines_of text ≡ l ∷ ls → first_fit (first_rows l) ≡ o → first_fault text ≡ None → IsOfScript text
first_there text l ls (Some r) short e fits none =
    let fault : first_fault text ≡ Some (1, r) = some_lines text l ls short e
    ∙ ap (λ (o : Option Reason). option_map_or (λ q. Some (1, q)) o (first_fault_behind (l.0 ∷ []) ls)) (table_first l
    ∙ fits) in
    absurd (let z : Some (1, r) ≡ None = sym fault ∙ none in cc)
first_there text l ls None short e fits none =
    let d : Draft = record { config = vm.value (words_of l.0); whole = []; last = None } in
    lines_there text 1 d ls (first_read text l ls d short e fits refl refl refl) short none

some_there : (text : List ℕ) (ls : List Line) → length text ≤ 65536 → lines_of text ≡ ls → first_fault text ≡ None
    → IsOfScript text
some_there text [] short e none = absurd (let z : Some (1, EmptyInput) ≡ None = sym (no_lines text e) ∙ none in cc)
some_there text (l ∷ ls) short e none = first_there text l ls (first_fit (first_rows l)) short e refl none

-- a text that is too long has a fault
short_enough : (b : Bool) (rest : Option (ℕ × Reason)) → (if b then Some (1, TooLong) else rest) ≡ None → b ≡ false
short_enough true rest none = absurd cc
short_enough false rest none = refl

-- A TEXT WITHOUT A FAULT IS A SCRIPT'S
pub without_fault : (text : List ℕ) → first_fault text ≡ None → (s : Script) × IsScript s × (text ≡ text_of s)
without_fault text none =
    let short : length text ≤ 65536 = ltb-false _ _ (short_enough (ltb 65536 (length text))
    (if eqb (length text) 0 then Some (1, EmptyInput) else first_fault_behind [] (lines_of text)) none) in
    some_there text (lines_of text) short refl none
