use Rattle.std.proofs.Common.{◌∙◌, sym}
use Rattle.jr_rule.proofs.Summaries.{top_in, top_some, top_used, same_summary}
use Rattle.jr_rule.proofs.summing.summary.Goals as goal

pub word-requires : goal.word-requires
word-requires g c = top_in c.args.config.now (g.W.RowWords.words c.args.row.now) c.requires.limited c.requires.history

pub unwrap-top-requires : goal.unwrap-top-requires
unwrap-top-requires g c =
    top_some c.args.config.now (g.W.RowWords.words c.args.row.now) c.requires.limited c.requires.history c.parts.result
    (λ p fits is. c.parts.ensures.complete p fits (c.word.ensures ∙ is))

pub returns : goal.returns
returns g c last log h =
    let used = top_used c.args.config.now (g.W.RowWords.words c.args.row.now) c.requires.limited c.unwrap-top.result
    (λ p fits is. sym c.unwrap-top.ensures ∙ c.parts.ensures.complete p fits (c.word.ensures ∙ is)) last log h in
    same_summary (c.references.ensures last log h) (c.references-2.ensures last log h) (c.objects.ensures last log h)
    used
