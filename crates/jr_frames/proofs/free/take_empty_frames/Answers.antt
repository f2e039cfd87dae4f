use Rattle.std.proofs.Common.{sym, ◌∙◌, rules}
use Rattle.jr_model.proofs.Updates.{eq_true}
use Rattle.jr_frames.proofs.DroppingAll.{freed_begins, freed_last, freed_owner, freed_ends, freed_fewer, freed_shorter}
use Rattle.jr_frames.proofs.free.take_empty_frames.Goals as goal

pub loop-frames-init : goal.loop-frames-init
loop-frames-init c = freed_begins c.args.frames.now c.requires

pub pop_empty-requires-clause-empty : goal.pop_empty-requires-clause-empty
pop_empty-requires-clause-empty c = freed_last c.loop-frames.invariant (search rules)

pub loop-frames-smaller : goal.loop-frames-smaller
loop-frames-smaller c = freed_shorter c.loop-frames.frames c.pop_empty.new.self c.pop_empty.ensures (search rules)

pub loop-frames-preserved : goal.loop-frames-preserved
loop-frames-preserved c = freed_fewer c.args.frames.now c.loop-frames.frames c.pop_empty.new.self
    c.loop-frames.invariant c.pop_empty.ensures (search rules)

pub returns-clause-freed : goal.returns-clause-freed
returns-clause-freed c = freed_ends c.loop-frames.invariant (eq_true _ 1 (sym c.is_base.ensures ∙ (cc)))

pub returns-clause-same : goal.returns-clause-same
returns-clause-same c = freed_owner c.loop-frames.invariant
