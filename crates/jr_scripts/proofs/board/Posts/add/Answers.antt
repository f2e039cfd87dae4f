use Rattle.std.proofs.Common.{[], rules}
use Rattle.jr_scripts.proofs.NamedCells.{adds_more, adds_none}
use Rattle.jr_scripts.proofs.board.Posts.add.Goals as goal

pub loop-command-init : goal.loop-command-init
loop-command-init g c = adds_none [] c.args.self.now.numbers.entries

pub loop-command-preserved : goal.loop-command-preserved
loop-command-preserved g c = adds_more c.args.commands.now c.loop-command.command-index c.command-item.result _ _ _
    c.loop-command-test.true c.command-item.is c.loop-command.invariant (search rules)
