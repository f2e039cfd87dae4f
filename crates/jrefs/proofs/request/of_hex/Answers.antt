-- A command with one argument.
use Rattle.std.proofs.Common.{rules, ap, ap₂, ◌≡◌, ◌∙◌}
use Rattle.std.proofs.lemmas.Result.{IfOk-weaker}
use Rattle.clap.specs.Words.{App, rule_of, with_rule}
use Rattle.jrefs.specs.Request.{hex}
use Rattle.jrefs.proofs.request.of_hex.Goals as goal

pub returns : goal.returns
returns c =
    let hex_is : rule_of c.required-hex.result ≡ hex = search rules in
    IfOk-weaker c.arg.result _ _ (λ r adds. record {
      shape = ap (λ (a : App). a.top) (adds.shape (search rules) ∙ ap₂ with_rule c.new-2.ensures.app hex_is);
      no_globals = search rules;
    }) c.arg.ensures
