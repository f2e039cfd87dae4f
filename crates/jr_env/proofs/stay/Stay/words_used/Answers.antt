use Rattle.std.proofs.Common.{rules}
use Rattle.jr_model.specs.Checks.{Nothing}
use Rattle.jr_env.specs.UsedWords.{AreUsed}
use Rattle.jr_env.proofs.ExplainedWords.{seen_inside}
use Rattle.jr_env.proofs.stay.Stay.words_used.Goals as goal

pub returns : goal.returns
returns g c = record {
  same_reference = search rules;
  call = seen_inside g.met.S.Steps.fits AreUsed c.args.self.now.env.now c.used_within.new.self Nothing
      c.used_within.result c.used_within.ensures.frames c.used_within.ensures.call c.used_within.ensures.on;
}
