use Rattle.jr_rule.specs.Passes.{known_of}
use Rattle.jr_threads.proofs.native.run_thread.Given as goal

abbrev pub ghosts-run_at : goal.ghosts-run_at
ghosts-run_at g a = record { number = (known_of a.pass).thread }
