use Rattle.std.specs.Prelude.{◌≡◌}
use Rattle.jr_env.specs.LentStays.{env_in}
use Rattle.luthrady.proofs.Batching.{AreMadeTo}
use Rattle.luthrady.proofs.batches.make_all.Given as goal

abbrev pub invariant-loop-index : goal.invariant-loop-index
invariant-loop-index g l = AreMadeTo l.fn.stay l.stay l.fn.calls l.calls l.index
    × ((env_in l.stay).ghost_name ≡ (env_in l.fn.stay).ghost_name)
