use Rattle.jr_frames.proofs.Resolution.OneExplanation.{one_thing}
use Rattle.jr_frames.proofs.laws.a_word_is_one_thing.Goals as goal

pub returns : goal.returns
returns c = one_thing
