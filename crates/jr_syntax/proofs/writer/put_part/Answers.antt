use Rattle.std.proofs.Common.{rules, append_assoc}
use Rattle.jr_syntax.proofs.PrintLaws.{command_lines}
use Rattle.jr_syntax.proofs.writer.put_part.Goals as goal

pub returns : goal.returns
returns c = let e = command_lines c.args.part.now.commands in search (rules, append_assoc)
