use Rattle.std.proofs.Common.{rules}
use Rattle.jr_scripts.proofs.NamedCells.{adds_one}
use Rattle.jr_scripts.proofs.board.Posts.add_command.Goals as goal

pub returns-in_ok-insert : goal.returns-in_ok-insert
returns-in_ok-insert g c = adds_one c.args.command.now c.in-OnName-Post-default.name c.len-number.result
    c.args.self.now.numbers.entries c.insert.new.self.entries (search rules) (search rules)
