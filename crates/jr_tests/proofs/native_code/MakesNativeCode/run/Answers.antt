use Rattle.jr_threads.proofs.Coming.{does_replied}
use Rattle.jr_tests.proofs.native_code.MakesNativeCode.run.Goals as goal

pub returns : goal.returns
returns g c = record { deed = λ told. does_replied c.new_plain.ensures }
