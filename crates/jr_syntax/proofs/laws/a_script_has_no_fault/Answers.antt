use Rattle.jr_syntax.proofs.Texts.{no_fault}
use Rattle.jr_syntax.proofs.laws.a_script_has_no_fault.Goals as goal

pub returns : goal.returns
returns c = no_fault
