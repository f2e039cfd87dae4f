use Rattle.std.specs.Prelude.{◌+◌}
use Rattle.jr_compact.proofs.Slides.{SlidTo}
use Rattle.jr_compact.proofs.sliding.slide.Given as goal

abbrev pub invariant-loop-index : goal.invariant-loop-index
invariant-loop-index g l =
    SlidTo g.S.Steps.facts l.fn.object l.fn.header l.fn.place l.fn.steps l.steps (l.index + l.index) l.index
