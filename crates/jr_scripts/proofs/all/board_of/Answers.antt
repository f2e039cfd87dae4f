use Rattle.std.proofs.Common.{[], rules, sym, subst}
use Rattle.jr_scripts.specs.PostedNames.{AddsPosted}
use Rattle.jr_scripts.proofs.NamedCells.{adds_none, adds_part}
use Rattle.jr_scripts.proofs.all.board_of.Goals as goal

pub loop-part-init : goal.loop-part-init
loop-part-init g c = subst (AddsPosted [] []) (sym c.new-board.ensures) (adds_none [] [])

pub loop-part-preserved : goal.loop-part-preserved
loop-part-preserved g c =
    let adds : AddsPosted c.part-item.result.commands c.loop-part.board.numbers.entries c.add.new.self.numbers.entries =
    search rules in
    adds_part c.args.parts.now c.loop-part.part-index c.part-item.result [] _ _ c.loop-part-test.true c.part-item.is
    c.loop-part.invariant adds
