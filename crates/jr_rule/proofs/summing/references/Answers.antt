use Rattle.std.proofs.Common.{◌<◌, ◌∙◌, length, get_or, true, false, sym, ap, subst, arith}
use Rattle.jr_model.specs.History.{state}
use Rattle.jr_rule.proofs.Summaries.{references_below, sum_none, slot_in, slot_some, one_more_slot}
use Rattle.jr_rule.proofs.summing.references.Goals as goal
use Rattle.jr_rule.proofs.summing.references.Goals.{then-is_reference, else-is_reference}

pub loop-index-init : goal.loop-index-init
loop-index-init g c = record { few = omega arith; is = λ last log h. sym (sum_none _) }

pub word-word-requires : goal.word-word-requires
word-word-requires g c =
    subst (λ j. j < length (g.W.RowWords.words c.args.row.now)) (sym c.slot_at.ensures)
    (slot_in c.args.config.now (g.W.RowWords.words c.args.row.now) c.requires.limited c.requires.history
    c.loop-index.index (omega arith))

pub unwrap-requires : goal.unwrap-requires
unwrap-requires g c =
    slot_some c.args.config.now (g.W.RowWords.words c.args.row.now) c.requires.limited c.requires.history
    c.loop-index.index c.parts.result (omega arith)
    (λ p fits is. c.parts.ensures.complete p fits (c.word-word.ensures
    ∙ (ap (λ j. get_or (g.W.RowWords.words c.args.row.now) j 0) c.slot_at.ensures ∙ is)))

pub loop-index-preserved : goal.loop-index-preserved
loop-index-preserved g c =
    let one = one_more_slot c.args.config.now (g.W.RowWords.words c.args.row.now) c.requires.limited c.args.kind
    c.loop-index.index c.loop-index.count c.if-is_reference.count c.unwrap.result c.loop-index.invariant (omega arith)
    (λ p fits is. sym c.unwrap.ensures ∙ c.parts.ensures.complete p fits (c.word-word.ensures
    ∙ (ap (λ j. get_or (g.W.RowWords.words c.args.row.now) j 0) c.slot_at.ensures ∙ is))) in
    elim c.if-is_reference.branch [
      | then-is_reference w ↦ one true (sym w.if-is_reference.true ∙ c.is_reference.ensures) w.count-is
      | else-is_reference w ↦ one false (sym w.if-is_reference.false ∙ c.is_reference.ensures) (let is = w.count-is in
          omega arith)
    ]

pub returns : goal.returns
returns g c last log h =
    c.loop-index.invariant.is last log h
    ∙ ap (λ n. references_below c.args.kind n last (state log)) (let l = c.loop-index.auto.index-end in
    let past = c.loop-index-test.false in omega arith)
