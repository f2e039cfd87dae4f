use Rattle.std.proofs.Common.{◌+◌, ◌<◌, ◌∙◌, length, true, false, sym, ap, subst, arith}
use Rattle.jr_model.specs.History.{state}
use Rattle.jr_rule.proofs.Summaries.{objects_below, header_in, no_object, one_more_object}
use Rattle.jr_rule.proofs.summing.objects.Goals as goal
use Rattle.jr_rule.proofs.summing.objects.Goals.{then-word-ne0, else-word-ne0}

pub loop-before-init : goal.loop-before-init
loop-before-init g c = no_object c.args.config.now (g.W.RowWords.words c.args.row.now) c.requires.limited

pub word-requires : goal.word-requires
word-requires g c =
    subst (λ j. j < length (g.W.RowWords.words c.args.row.now)) (sym c.header_at.ensures)
    (header_in c.args.config.now (g.W.RowWords.words c.args.row.now) c.requires.limited c.requires.history
    (c.loop-before.before + 1) (omega arith) (omega arith))

pub loop-before-preserved : goal.loop-before-preserved
loop-before-preserved g c =
    let one = one_more_object c.args.config.now (g.W.RowWords.words c.args.row.now) c.requires.limited
    c.loop-before.before c.loop-before.count c.if-word-ne0.count c.header_at.result c.word.result
    c.loop-before.invariant (omega arith)
    c.header_at.ensures c.word.ensures in
    elim c.if-word-ne0.branch [
      | then-word-ne0 w ↦ one true (λ e. w.if-word-ne0.true) (λ e. absurd cc) w.count-is
      | else-word-ne0 w ↦ one false (λ e. absurd cc) (λ e. w.if-word-ne0.false) (let is = w.count-is in omega arith)
    ]

pub returns : goal.returns
returns g c last log h =
    c.loop-before.invariant.is last log h
    ∙ ap (λ n. objects_below (n + 1) last (state log)) (let l = c.loop-before.auto.before-end in
    let past = c.loop-before-test.false in omega arith)
