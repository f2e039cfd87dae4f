use Rattle.std.proofs.Common.{◌+◌, arith}
use Rattle.jr_compact.proofs.Counting.{saw_most}
use Rattle.jr_compact.proofs.Slides.{next_there, next_movable, slid_more, slid_within, placeable, slid_all}
use Rattle.jr_compact.proofs.sliding.slide.Goals as goal

pub scan_element-word-requires-clause-there : goal.scan_element-word-requires-clause-there
scan_element-word-requires-clause-there g c = next_there g.met.S.Steps.fits c.args.object c.args.header c.args.place
    c.loop-index.invariant c.loop-index-test.true c.requires.can

pub move_element-requires-clause-can : goal.move_element-requires-clause-can
move_element-requires-clause-can g c = next_movable g.met.S.Steps.fits c.args.object c.args.header c.args.place
    c.loop-index.invariant c.requires.role c.loop-index-test.true c.scan_element-word.ensures c.requires.can

pub loop-index-preserved : goal.loop-index-preserved
loop-index-preserved g c = slid_within g.met.S.Steps.fits c.args.object c.args.header c.args.place
    (slid_more g.met.S.Steps.fits c.args.object c.args.header c.args.place c.loop-index.invariant c.requires.role
    c.loop-index-test.true c.scan_element-word.ensures c.move_element.ensures)
    (c.loop-index.index + 1 + (c.loop-index.index + 1)) (omega arith)

pub set_header-requires-clause-can : goal.set_header-requires-clause-can
set_header-requires-clause-can g c =
    let a = c.loop-index.auto.index-end in
    let b = c.loop-index-test.false in
    placeable g.met.S.Steps.fits c.args.object c.args.header c.args.place c.loop-index.invariant (omega arith)
    c.requires.can

pub returns : goal.returns
returns g c =
    let a = c.loop-index.auto.index-end in
    let b = c.loop-index-test.false in
    saw_most (λ j. c.args.header.length + c.args.header.length + 1) (λ j. omega arith) (slid_all g.met.S.Steps.fits
    c.args.object c.args.header c.args.place c.loop-index.invariant (omega arith) c.set_header.ensures)
