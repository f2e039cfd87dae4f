use Rattle.jr_threads.proofs.Passes.{is_back}
use Rattle.jr_threads.proofs.native.run_thread.Goals as goal

pub returns : goal.returns
returns g c = record {
  back = is_back c.args.room.now c.args.pass c.run_at.result.pass c.requires.site c.run_at.ensures.back.0
      c.run_at.ensures.back.1;
  came = c.run_at.ensures.came;
}
