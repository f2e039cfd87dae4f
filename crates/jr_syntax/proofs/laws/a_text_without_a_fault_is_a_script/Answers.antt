use Rattle.jr_syntax.proofs.WithoutFault.{without_fault}
use Rattle.jr_syntax.proofs.laws.a_text_without_a_fault_is_a_script.Goals as goal

pub returns : goal.returns
returns c = without_fault
