use Rattle.jr_rule.specs.Passes.{known_of}
use Rattle.jr_owned.proofs.Collected.{collected_closes, collected_left}
use Rattle.jr_owned.proofs.collecting.close_with.Goals as goal

pub returns-in-Ok-clause-ok : goal.returns-in-Ok-clause-ok
returns-in-Ok-clause-ok c =
    collected_closes (known_of c.args.pass) (known_of c.in-Ok.pass) c.in-Ok.ensures.ok c.close.result c.close.ensures.ok

pub returns-in-Ok-clause-err : goal.returns-in-Ok-clause-err
returns-in-Ok-clause-err c =
    collected_left _ c.args.room c.args.pass c.in-Ok.pass c.in-Ok.ensures.ok c.close.result c.close.ensures.err
