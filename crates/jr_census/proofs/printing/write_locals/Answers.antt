use Rattle.std.proofs.Common.{rules}
use Rattle.std.proofs.Output.{has_written_append, has_written_of_eq}
use Rattle.jr_census.proofs.Lines.{locals_more}
use Rattle.jr_census.proofs.printing.write_locals.Goals as goal

pub loop-thread-preserved : goal.loop-thread-preserved
loop-thread-preserved g c plain =
    has_written_of_eq _ _ _ _ _ (locals_more c.args.counts.now c.loop-thread.thread)
    (has_written_append _ _ _ _ _ _ (c.loop-thread.invariant plain) (search rules))
