use Rattle.jr_model.specs.Checks.{Nothing}
use Rattle.jr_env.specs.UsedWords.{AreUsed}
use Rattle.jr_env.proofs.ExplainedWords.{seen_inside}
use Rattle.jr_env.proofs.env.Env.make_seeing.Goals as goal

pub returns-clause-made : goal.returns-clause-made
returns-clause-made g c = record {
  begun = c.enter_stay.new.self;
  left = c.make_inside-answer.new.self;
  seen = c.used_within-used.new.self;
  enters = c.in_ok-inside.ensures.tried;
  call = c.make_inside-answer.ensures.call;
  looks = seen_inside g.met.S.Steps.fits AreUsed c.make_inside-answer.new.self c.used_within-used.new.self Nothing
      c.used_within-used.result c.used_within-used.ensures.frames c.used_within-used.ensures.call
      c.used_within-used.ensures.on;
  leaves = c.leave_stay.ensures.call;
  one_stay = c.leave_stay.ensures.one;
  frames = c.leave_stay.ensures.frames;
  outside = c.leave_stay.ensures.outside;
}
