use Rattle.jr_syntax.proofs.Texts.{one_script}
use Rattle.jr_syntax.proofs.laws.a_text_has_one_script.Goals as goal

pub returns : goal.returns
returns c = one_script
