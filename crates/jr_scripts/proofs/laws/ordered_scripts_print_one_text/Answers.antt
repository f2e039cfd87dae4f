use Rattle.jr_scripts.proofs.OneRow.OneText.{print_one_text}
use Rattle.jr_scripts.proofs.laws.ordered_scripts_print_one_text.Goals as goal

pub returns : goal.returns
returns c = print_one_text
