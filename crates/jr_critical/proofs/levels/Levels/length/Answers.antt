use Rattle.std.proofs.Common.{sym, subst}
use Rattle.jr_critical.specs.declared.level.Level.{Level}
use Rattle.jr_critical.specs.Levels.{TellsLength}
use Rattle.jr_critical.proofs.Reaching.{tells_length}
use Rattle.jr_critical.proofs.levels.Levels.length.Goals as goal

pub returns : goal.returns
returns c = subst (λ (l : Level). TellsLength c.args.self.now c.args.level l.header.length) (sym c.level.ensures)
    (tells_length c.args.self.now c.args.level c.requires)
