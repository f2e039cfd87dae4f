use Rattle.std.proofs.Common.{rules, append_assoc}
use Rattle.jr_syntax.proofs.UnitLaws.{spaced}
use Rattle.jr_syntax.proofs.text.put_named_units.Goals as goal

pub returns : goal.returns
returns c = let e = spaced c.args.name.now c.args.units.now in search (rules, append_assoc)
