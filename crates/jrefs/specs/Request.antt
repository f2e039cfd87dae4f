-- The program's command line.
use Rattle.std.specs.Prelude.{◌≡◌, ◌≢◌, ◌⊎◌, ℕ, true, false, List, [], ◌∷◌, Option, Some}
use Rattle.std.specs.Prelude.{None, ⊤, codes, if◌then◌else◌, option_and_then, option_map}
use Rattle.std.specs.Str.{bytes_eq}
use Rattle.clap.specs.declared.builder.command.Command.{Command}
use Rattle.clap.specs.declared.builder.command.Command.TheViews.{out-Command}
use Rattle.clap.specs.Words.{App, app_of, Row, Rule, Shape, Text, first_of, new_app}
use Rattle.clap.specs.Words.{new_rule, subcommand_of, fault_of, with_subcommand}
use Rattle.clap.specs.Simple.{on_top, new_shape}
use Rattle.jrefs.specs.declared.request.Request.{Request}
use Rattle.jrefs.specs.declared.request.Request.TheVariants.{Run, Check, Word, Widen}
use Rattle.jrefs.specs.Describe.{hex_value}

-- `jrefs`, which takes its words without a name before them, and wants a command
abbrev pub own_app : App
own_app = on_top (λ s. record s { no_binary_name = true; subcommand_required = true }) (new_app (codes "jrefs"))

-- the one argument of `word` and of `widen`
abbrev pub hex : Rule
hex = record (new_rule (codes "hex")) { required = true }

-- a command of this name that takes a word in hexadecimal digits
abbrev pub hex_command : Text → Shape
hex_command name = record (new_shape name) { rules = hex ∷ [] }

-- it was made: the others get no argument from it
pub record IsHexCommand (name : Text) (c : Command) : Type 0 where
  pub shape : (app_of c).top ≡ hex_command name
  pub no_globals : (out-Command c).has_globals ≡ false

-- its command line: `run`, `check`, `word HEX` or `widen HEX`
abbrev pub command_line : App
command_line = with_subcommand (with_subcommand (with_subcommand (with_subcommand own_app (new_shape (codes "run")))
    (new_shape (codes "check"))) (hex_command (codes "word"))) (hex_command (codes "widen"))

-- the word that an argument says, if it says one
abbrev pub hex_found : Option Text → Option ℕ
hex_found argument = option_and_then hex_value argument

-- the request of a command with this name and this argument, if that is one
abbrev pub request_of_command : Text → Option Text → Option Request
request_of_command name argument =
    if bytes_eq name (codes "run") then Some Run
    else if bytes_eq name (codes "check") then Some Check
    else if bytes_eq name (codes "word") then option_map Word (hex_found argument)
    else option_map Widen (hex_found argument)

-- the request that was found
abbrev pub request_found : Option (Text × List Row) → Option Request
request_found found = option_and_then (λ c. request_of_command c.0 (first_of (codes "hex") c.1)) found

-- the request that the command line finds in words
abbrev pub asked_for : List Text → Option Request
asked_for words = request_found (subcommand_of command_line words)

-- the words ask for nothing: the command line has a fault for them, or finds no request in them
abbrev pub AskNothing : List Text → Type 0
AskNothing words = (fault_of command_line words ≢ []) ⊎ (asked_for words ≡ None)

-- the request is about a script, which is there to be read
abbrev pub AsksOfScript : Request → Type 0
AsksOfScript (Word w) = ⊥
AsksOfScript (Widen w) = ⊥
AsksOfScript _ = ⊤

-- the words are `run`, or `check`, or `word HEX` or `widen HEX` where HEX is a word in hexadecimal digits
abbrev pub Asks : Request → List Text → Type 0
Asks Run words = words ≡ codes "run" ∷ []
Asks Check words = words ≡ codes "check" ∷ []
Asks (Word w) words = (digits : Text) × (hex_value digits ≡ Some w) × (words ≡ codes "word" ∷ digits ∷ [])
Asks (Widen w) words = (digits : Text) × (hex_value digits ≡ Some w) × (words ≡ codes "widen" ∷ digits ∷ [])
