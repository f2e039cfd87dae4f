use Rattle.jr_scripts.proofs.Apart.AsAlone.{print_as_alone}
use Rattle.jr_scripts.proofs.laws.threads_apart_print_as_alone.Goals as goal

pub returns : goal.returns
returns c = print_as_alone
