use Rattle.std.proofs.Common.{sym, subst}
use Rattle.jr_critical.specs.declared.level.Level.{Level}
use Rattle.jr_critical.specs.Levels.{TellsKind}
use Rattle.jr_critical.proofs.Reaching.{tells_kind}
use Rattle.jr_critical.proofs.levels.Levels.kind.Goals as goal

pub returns : goal.returns
returns c = subst (λ (l : Level). TellsKind c.args.self.now c.args.level l.header.kind) (sym c.level.ensures)
    (tells_kind c.args.self.now c.args.level c.requires)
