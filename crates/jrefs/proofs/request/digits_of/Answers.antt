-- The word that the argument says, if it says one.
use Rattle.std.proofs.Common.{◌∙◌, ap, sym, option_map}
use Rattle.jrefs.specs.Request.{hex_found}
use Rattle.jrefs.proofs.request.digits_of.Goals as goal

pub returns-in_err-get_str : goal.returns-in_err-get_str
returns-in_err-get_str c = c.from_residual.ensures
    ∙ sym (ap hex_found (sym c.get_str.ensures ∙ ap (option_map (λ s. s.now)) c.in_err-get_str.was))

pub returns : goal.returns
returns c = c.word_of_hex.ensures
    ∙ sym (ap hex_found (sym c.get_str.ensures ∙ ap (option_map (λ s. s.now)) c.in_ok-get_str.was))
