use Rattle.std.proofs.Common.{rules, ◌∙◌}
use Rattle.jr_word.proofs.Limits.{limited}
use Rattle.jr_rule.specs.Rule.{IsSized}
use Rattle.jr_rule.proofs.Zeros.{all_zero, zeros_wide, opening_image}
use Rattle.jr_rule.proofs.Seats.{opens}
use Rattle.jr_rule.proofs.row.Row.open.Goals as goal

pub of_words-requires : goal.of_words-requires
of_words-requires c =
    let words = c.as_slice.result.now in
    let items = c.as_slice.ensures.value ∙ c.in_ok-words.ensures.items_if_clones_equal (λ y e. e) in
    let sized : IsSized c.args.config c.args.last = let limits = c.requires in
    record { limits = limits; limited = limited c.args.config limits; serials = search rules } in
    opens c.args.config c.args.last words sized (opening_image c.args.config c.args.last words
    (all_zero words c.row_words.result items) (zeros_wide words c.row_words.result items ∙ c.row_words.ensures))
