-- The request by its command's name, and the word that the argument says, if it says one.
use Rattle.std.proofs.Common.{◌∙◌, ap, codes, sym, option_map}
use Rattle.clap.specs.Words.{first_value, found_of}
use Rattle.jrefs.specs.declared.request.Request.TheVariants.{Word, Widen}
use Rattle.jrefs.proofs.FoundRequest.{command_found, asks_word, asks_widen}
use Rattle.jrefs.proofs.request.found.Goals as goal

pub returns-in_err-digits_of-in-word : goal.returns-in_err-digits_of-in-word
returns-in_err-digits_of-in-word c =
    let found = command_found c.args.matches.now c.in_ok-name.inner.now c.in_ok-name.name.now c.in_ok-name.ensures.name
    c.in_ok-name.ensures.rows in
    c.from_residual-in_err-digits_of-in-word.ensures
    ∙ sym (found ∙ asks_word c.in_ok-name.name.now (first_value (found_of c.in_ok-name.inner.now) (codes "hex"))
    c.in-word.is ∙ ap (option_map Word) (sym c.in_err-digits_of-in-word.ensures))

pub returns-in_err-digits_of-in_default : goal.returns-in_err-digits_of-in_default
returns-in_err-digits_of-in_default c =
    let found = command_found c.args.matches.now c.in_ok-name.inner.now c.in_ok-name.name.now c.in_ok-name.ensures.name
    c.in_ok-name.ensures.rows in
    c.from_residual-in_err-digits_of-in_default.ensures
    ∙ sym (found ∙ asks_widen c.in_ok-name.name.now (first_value (found_of c.in_ok-name.inner.now) (codes "hex"))
    c.in_default.not-run c.in_default.not-check c.in_default.not-word
    ∙ ap (option_map Widen) (sym c.in_err-digits_of-in_default.ensures))

pub returns-in_ok-digits_of-in-word : goal.returns-in_ok-digits_of-in-word
returns-in_ok-digits_of-in-word c =
    let found = command_found c.args.matches.now c.in_ok-name.inner.now c.in_ok-name.name.now c.in_ok-name.ensures.name
    c.in_ok-name.ensures.rows in
    sym (found ∙ asks_word c.in_ok-name.name.now (first_value (found_of c.in_ok-name.inner.now) (codes "hex"))
    c.in-word.is ∙ ap (option_map Word) (sym c.in_ok-digits_of-in-word.ensures))

pub returns-in_ok-digits_of-in_default : goal.returns-in_ok-digits_of-in_default
returns-in_ok-digits_of-in_default c =
    let found = command_found c.args.matches.now c.in_ok-name.inner.now c.in_ok-name.name.now c.in_ok-name.ensures.name
    c.in_ok-name.ensures.rows in
    sym (found ∙ asks_widen c.in_ok-name.name.now (first_value (found_of c.in_ok-name.inner.now) (codes "hex"))
    c.in_default.not-run c.in_default.not-check c.in_default.not-word
    ∙ ap (option_map Widen) (sym c.in_ok-digits_of-in_default.ensures))
