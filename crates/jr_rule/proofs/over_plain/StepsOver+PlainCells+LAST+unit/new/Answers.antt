use Rattle.std.proofs.Common.{◌<◌, ◌∙◌, rules}
use Rattle.jr_rule.proofs.PlainWords.{opened_standing, opened_alone}
use Rattle.jr_rule.proofs.Zeros.{all_zero, zeros_wide, depicts_unseen}
use Rattle.jr_rule.proofs.over_plain.StepsOver+PlainCells+LAST+unit.new.Goals as goal

pub invariant_of-result : goal.invariant_of-result
invariant_of-result g c =
    let words = c.in-Ok.words.items in
    let items = c.in-Ok.ensures.items_if_clones_equal (λ y e. e) in
    let some : 0 < c.args.config.slots = search rules in
    record {
      at = tt;
      stands = opened_standing c.args.config g.row.LAST words (depicts_unseen c.args.config g.row.LAST words
          (all_zero words c.row_words.result items) (zeros_wide words c.row_words.result items ∙ c.row_words.ensures))
          some;
    }

pub returns-clause-opened : goal.returns-clause-opened
returns-clause-opened g c =
    let words = c.in-Ok.words.items in
    let items = c.in-Ok.ensures.items_if_clones_equal (λ y e. e) in
    opened_alone c.args.config g.row.LAST words (depicts_unseen c.args.config g.row.LAST words
    (all_zero words c.row_words.result items) (zeros_wide words c.row_words.result items ∙ c.row_words.ensures))
