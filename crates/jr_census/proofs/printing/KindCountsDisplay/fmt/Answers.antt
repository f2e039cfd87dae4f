use Rattle.std.proofs.Common.{take, [], ap, sym, ◌∙◌, rules}
use Rattle.std.proofs.Output.{has_written_append, has_written_of_eq}
use Rattle.std.proofs.lemmas.List.{flat_map_more, take_more}
use Rattle.jr_word.specs.declared.kind.Kind.TheVariants.{Plain}
use Rattle.jr_census.specs.Counts.{count_of}
use Rattle.jr_census.specs.Printed.{all_kinds, kinds_text, several}
use Rattle.jr_census.proofs.printing.KindCountsDisplay.fmt.Goals as goal

pub loop-kind-preserved : goal.loop-kind-preserved
loop-kind-preserved g c plain =
    let counts = c.args.self.now in
    let text = flat_map_more (λ kind. several kind (count_of counts kind)) [] (take c.loop-kind.kind-index all_kinds) _
    ∙ ap (kinds_text counts) (sym (take_more all_kinds c.loop-kind.kind-index Plain c.loop-kind-test.true)) in
    has_written_of_eq _ _ _ _ _ text (has_written_append _ _ _ _ _ _ (c.loop-kind.invariant plain) (search rules))
