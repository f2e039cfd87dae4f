use Rattle.std.proofs.Common.{Err}
use Rattle.jr_owned.proofs.Pools.{did_lent, freed_lent, idle_lent}
use Rattle.jr_owned.proofs.pool.AttachedOver.detach.Goals as goal

pub returns-in-Err-clause-held : goal.returns-in-Err-clause-held
returns-in-Err-clause-held g c = did_lent c.args.self.env.value c.deref_mut.result.now c.retry.new.self c.args.patience
    c.retry.result (Err c.in-Err.fault) c.deref_mut.ensures.value c.in-Err.is c.retry.ensures

pub parked-requires : goal.parked-requires
parked-requires g c = idle_lent c.args.self.env.value c.deref_mut.result.now c.retry.new.self c.args.patience
    c.retry.result c.deref_mut.ensures.value c.in_default.is c.retry.ensures

pub returns-clause-freed : goal.returns-clause-freed
returns-clause-freed g c = freed_lent c.args.self.env.value c.deref_mut.result.now c.retry.new.self c.args.patience
    c.retry.result c.deref_mut.ensures.value c.in_default.is c.retry.ensures
