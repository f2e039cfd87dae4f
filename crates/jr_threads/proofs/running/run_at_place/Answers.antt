use Rattle.std.proofs.Common.{rules, refl}
use Rattle.jr_threads.proofs.running.run_at_place.Goals as goal

pub returns : goal.returns
returns g c = record {
  pass = c.in-Some.pass;
  was = search rules;
  ended = c.run_thread.result;
  is = refl;
  ran = c.run_thread.ensures;
}
