-- The command line, command by command.
use Rattle.std.proofs.Common.{rules, ap, ap₂, codes, ◌≡◌, ◌∙◌}
use Rattle.std.proofs.lemmas.Result.{IfOk-weaker}
use Rattle.clap.specs.Words.{App, app_of, with_subcommand}
use Rattle.clap.specs.Simple.{new_shape}
use Rattle.jrefs.specs.Request.{own_app, hex_command}
use Rattle.jrefs.proofs.request.command.Goals as goal

pub returns : goal.returns
returns c =
    let top = λ (a : App). a.top in
    let alone_is : app_of c.subcommand_required.result ≡ own_app = search rules in
    let run_is : app_of c.in_ok-subcommand.field-0 ≡ with_subcommand own_app (new_shape (codes "run")) =
    c.in_ok-subcommand.ensures.shape (search rules) ∙ ap₂ with_subcommand alone_is (ap top c.new-2.ensures.app) in
    let check_is : app_of c.in_ok-subcommand-2.field-0
    ≡ with_subcommand (with_subcommand own_app (new_shape (codes "run"))) (new_shape (codes "check")) =
    c.in_ok-subcommand-2.ensures.shape (search rules) ∙ ap₂ with_subcommand run_is (ap top c.new-3.ensures.app) in
    let word_is : app_of c.in_ok-subcommand-3.field-0
    ≡ with_subcommand (with_subcommand (with_subcommand own_app (new_shape (codes "run"))) (new_shape (codes "check")))
    (hex_command (codes "word")) = c.in_ok-subcommand-3.ensures.shape c.in_ok-word.ensures.no_globals
    ∙ ap₂ with_subcommand check_is c.in_ok-word.ensures.shape in
    IfOk-weaker c.subcommand-4.result _ _ (λ r adds. adds.shape c.in_ok-widen.ensures.no_globals
    ∙ ap₂ with_subcommand word_is c.in_ok-widen.ensures.shape) c.subcommand-4.ensures
