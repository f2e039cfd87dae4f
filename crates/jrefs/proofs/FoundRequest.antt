-- The request that was found, by the command's name and its argument.
use Rattle.std.proofs.Common.{◌≡◌, ◌≢◌, List, Option, Some, None, codes, Bool}
use Rattle.std.proofs.Common.{true, false, ap, ap₂, sym, refl, ◌∙◌, option_map}
use Rattle.std.specs.Str.{bytes_eq}
use Rattle.std.proofs.lemmas.Slice.Eq.{bytes_eq-Decides}
use Rattle.clap.specs.Words.{Text, Row, first_value, found_of, rows_of, subcommand_name_of, subcommand_rows_of}
use Rattle.clap.specs.declared.parser.matches.ArgMatches.{ArgMatches}
use Rattle.clap.specs.declared.parser.matches.ArgMatches.TheViews.{out-ArgMatches}
use Rattle.clap.proofs.WalkLemmas.{first_value-rows}
use Rattle.jrefs.specs.declared.request.Request.TheVariants.{Word, Widen}
use Rattle.jrefs.specs.Request.{request_found, request_of_command, hex_found}

option_map-twice : {A B C : Type 0} (f : B → C) (g : A → B) (o : Option A)
    → option_map f (option_map g o) ≡ option_map (λ x. f (g x)) o
option_map-twice f g None = refl
option_map-twice f g (Some x) = refl

-- the name of the command that was found
name_is : (m : ArgMatches) → option_map (λ p. p.0) (subcommand_rows_of m) ≡ subcommand_name_of m
name_is m = option_map-twice (λ p. p.0) _ (out-ArgMatches m).subcommand

pair_is : (o : Option (Text × List Row)) (name : Text) (rows : List Row) → option_map (λ p. p.0) o ≡ Some name
    → option_map (λ p. p.1) o ≡ Some rows → o ≡ Some (name, rows)
pair_is None name rows e f = cc
pair_is (Some p) name rows e f =
    let first : p.0 ≡ name = cc in
    let second : p.1 ≡ rows = cc in
    ap₂ (λ (x : Text) (y : List Row). Some (x, y)) first second

refuted : (t : Bool) → (t ≡ true → ⊥) → t ≡ false
refuted false never = refl
refuted true never = absurd (never refl)

-- the request of the command that was found, by its name and its argument
pub command_found : (m inner : ArgMatches) (name : Text) → Some name ≡ subcommand_name_of m
    → Some (rows_of (found_of inner)) ≡ option_map (λ p. p.1) (subcommand_rows_of m)
    → request_found (subcommand_rows_of m) ≡ request_of_command name (first_value (found_of inner) (codes "hex"))
command_found m inner name named rows =
    ap request_found (pair_is (subcommand_rows_of m) name (rows_of (found_of inner)) (name_is m ∙ sym named) (sym rows))
    ∙ ap (request_of_command name) (sym (first_value-rows (found_of inner) (codes "hex")))

unequal : (x y : Text) → x ≢ y → bytes_eq x y ≡ false
unequal x y apart = refuted (bytes_eq x y) (λ e. apart ((bytes_eq-Decides x y).0 e))

-- `word` asks for the word that its argument says
pub asks_word : (name : Text) (t : Option Text) → name ≡ codes "word"
    → request_of_command name t ≡ option_map Word (hex_found t)
asks_word name t e = ap (λ (n : Text). request_of_command n t) e

-- a command of another name than the others asks to widen that word
pub asks_widen : (name : Text) (t : Option Text) → name ≢ codes "run" → name ≢ codes "check" → name ≢ codes "word"
    → request_of_command name t ≡ option_map Widen (hex_found t)
asks_widen name t a b c =
    rw (unequal name (codes "run") a, unequal name (codes "check") b, unequal name (codes "word") c) refl
