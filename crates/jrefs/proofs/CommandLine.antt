-- What the command line takes.
use Rattle.std.proofs.Common.{◌≡◌, List, ℕ, Bool, Option, Some, None, refl, true, false, codes, []}
use Rattle.std.proofs.Common.{◌∷◌, ◌==◌, ◌&&◌, nat_le, length, ap, ◌∙◌, option_map, arith, sym, subst}
use Rattle.std.specs.Prelude.{option_and_then, if◌then◌else◌}
use Rattle.std.specs.List.{list_all}
use Rattle.std.specs.Char.{is_ascii_hexdigit}
use Rattle.std.specs.Str.Parse.{digits_value}
use Rattle.std.proofs.lemmas.Bool.{and_parts}
use Rattle.std.proofs.lemmas.Bool.Decides.{nat_tests}
use Rattle.clap.specs.Words.{App, HasMatchesOf, is_simple, takes, subcommand_of}
use Rattle.clap.specs.Words.{subcommand_rows_of, first_of, Text, Row}
use Rattle.clap.specs.declared.parser.matches.ArgMatches.{ArgMatches}
use Rattle.clap.proofs.OnLiterals.{clap_on_literals}
use Rattle.jrefs.specs.declared.request.Request.{Request}
use Rattle.jrefs.specs.declared.request.Request.TheVariants.{Run, Check, Word, Widen}
use Rattle.jrefs.specs.Describe.{hex_value}
use Rattle.jrefs.specs.Act.{Answers, AnswersWords}
use Rattle.jrefs.specs.Request.{command_line, asked_for, request_found, request_of_command, hex_found, Asks}

is_simple_line : is_simple command_line ≡ true
unfolding clap_on_literals
is_simple_line = refl

run_is_taken : takes command_line (codes "run" ∷ []) ≡ true
unfolding clap_on_literals
run_is_taken = refl

run_is_found : asked_for (codes "run" ∷ []) ≡ Some Run
unfolding clap_on_literals
run_is_found = refl

check_is_taken : takes command_line (codes "check" ∷ []) ≡ true
unfolding clap_on_literals
check_is_taken = refl

check_is_found : asked_for (codes "check" ∷ []) ≡ Some Check
unfolding clap_on_literals
check_is_found = refl

abbrev argument_of : Option (Text × List Row) → Option (Text × Option Text)
argument_of = option_map (λ p. (p.0, first_of (codes "hex") p.1))

-- a command of this name reads one word:
-- a text that does not begin with a hyphen is its argument, and a word's digits ask for this
record ReadsWord (name : Text) (ask : ℕ → Request) : Type 0 where
  taken : (b : ℕ) (bs : List ℕ) → (b == 45) ≡ false → takes command_line (name ∷ (b ∷ bs) ∷ []) ≡ true
  found : (b : ℕ) (bs : List ℕ) → (b == 45) ≡ false
      → argument_of (subcommand_of command_line (name ∷ (b ∷ bs) ∷ [])) ≡ Some (name, Some (b ∷ bs))
  asks : (argument : Option Text) → request_of_command name argument ≡ option_map ask (hex_found argument)

word_reads : ReadsWord (codes "word") Word
unfolding clap_on_literals
word_reads = record {
  taken = λ b bs plain. rw (plain, plain) refl;
  found = λ b bs plain. rw (plain, plain) refl;
  asks = λ argument. refl;
}

widen_reads : ReadsWord (codes "widen") Widen
unfolding clap_on_literals
widen_reads = record {
  taken = λ b bs plain. rw (plain, plain) refl;
  found = λ b bs plain. rw (plain, plain) refl;
  asks = λ argument. refl;
}

request_by_argument : (o : Option (Text × List Row))
    → request_found o ≡ option_and_then (λ c. request_of_command c.0 c.1) (argument_of o)
request_by_argument None = refl
request_by_argument (Some c) = refl

-- ---- the digits of a word

is_true : (t : Bool) (v w : ℕ) → (if t then Some v else None) ≡ Some w → t ≡ true
is_true true v w e = refl
is_true false v w e = cc

no_hyphen : (b : ℕ) → is_ascii_hexdigit b ≡ true → (b == 45) ≡ false
no_hyphen b is = grind (arith, nat_tests)

begins_plainly : (b : ℕ) (bs : List ℕ) (w : ℕ) → hex_value (b ∷ bs) ≡ Some w → (b == 45) ≡ false
begins_plainly b bs w e =
    let text = b ∷ bs in
    let digits = list_all is_ascii_hexdigit text in
    let all = is_true (nat_le 1 (length text) && (nat_le (length text) 16 && digits)) (digits_value 16 text) w e in
    let short = (and_parts (nat_le 1 (length text)) (nat_le (length text) 16 && digits) all).1 in
    let are = (and_parts (nat_le (length text) 16) digits short).1 in
    no_hyphen b (and_parts (is_ascii_hexdigit b) (list_all is_ascii_hexdigit bs) are).0

module _ {name : Text} {ask : ℕ → Request} (reads : ReadsWord name ask) where
  digits_are_taken : (digits : Text) (w : ℕ) → hex_value digits ≡ Some w
      → takes command_line (name ∷ digits ∷ []) ≡ true
  digits_are_taken [] w e = cc
  digits_are_taken (b ∷ bs) w e = reads.taken b bs (begins_plainly b bs w e)

  digits_are_found : (digits : Text) (w : ℕ) → hex_value digits ≡ Some w → asked_for (name ∷ digits ∷ []) ≡ Some (ask w)
  digits_are_found [] w e = cc
  digits_are_found (b ∷ bs) w e =
      request_by_argument (subcommand_of command_line (name ∷ (b ∷ bs) ∷ []))
      ∙ ap (option_and_then (λ c. request_of_command c.0 c.1)) (reads.found b bs (begins_plainly b bs w e))
      ∙ reads.asks (Some (b ∷ bs))
      ∙ ap (option_map ask) e

-- ---- requests

-- a request is taken, and is found
asks_taken : (r : Request) (words : List Text) → Asks r words → takes command_line words ≡ true
asks_taken Run words asks = ap (takes command_line) asks ∙ run_is_taken
asks_taken Check words asks = ap (takes command_line) asks ∙ check_is_taken
asks_taken (Word w) words asks = ap (takes command_line) asks.2 ∙ digits_are_taken word_reads asks.0 w asks.1
asks_taken (Widen w) words asks = ap (takes command_line) asks.2 ∙ digits_are_taken widen_reads asks.0 w asks.1

pub asks_found : (r : Request) (words : List Text) → Asks r words → asked_for words ≡ Some r
asks_found Run words asks = ap asked_for asks ∙ run_is_found
asks_found Check words asks = ap asked_for asks ∙ check_is_found
asks_found (Word w) words asks = ap asked_for asks.2 ∙ digits_are_found word_reads asks.0 w asks.1
asks_found (Widen w) words asks = ap asked_for asks.2 ∙ digits_are_found widen_reads asks.0 w asks.1

pub takes_request : (line : App) (words : List Text) (r : Request) → line ≡ command_line → Asks r words
    → takes line words ≡ true
takes_request line words r same asks = ap (λ (a : App). takes a words) same ∙ asks_taken r words asks

pub finds_request : (line : App) (words : List Text) (m : ArgMatches) (r : Request) → line ≡ command_line → Asks r words
    → HasMatchesOf line words m → request_found (subcommand_rows_of m) ≡ Some r
finds_request line words m r same asks has =
    ap request_found ((has (ap is_simple same ∙ is_simple_line)).1 ∙ ap (λ (a : App). subcommand_of a words) same)
    ∙ asks_found r words asks

-- what was answered is what was asked for
pub answers_request : (words : List Text) (known old new : Option (List ℕ)) (r : Request)
    → AnswersWords words known old new → Asks r words → Answers r known old new
answers_request words known old new r done asks =
    let found : Some done.0 ≡ Some r = sym done.1 ∙ asks_found r words asks in
    let same : done.0 ≡ r = cc in
    subst (λ (q : Request). Answers q known old new) same done.2
