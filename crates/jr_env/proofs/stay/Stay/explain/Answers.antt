use Rattle.std.proofs.Common.{rules}
use Rattle.jr_frames.specs.Reading.{word_of}
use Rattle.jr_env.proofs.ExplainedWords.{reads_inside, seen_inside}
use Rattle.jr_env.specs.Words.{explanation_of}
use Rattle.jr_env.proofs.stay.Stay.explain.Goals as goal

pub returns : goal.returns
returns g c = record {
  same_reference = search rules;
  call = reads_inside c.args.self.now.env.now c.explain_within.new.self c.args.handle.0 (word_of c.of-target.result)
      c.explain_within.result c.of-target.ensures.reads (seen_inside g.met.S.Steps.fits
      (explanation_of (word_of c.of-target.result)) c.args.self.now.env.now c.explain_within.new.self
      (word_of c.of-target.result) c.explain_within.result c.explain_within.ensures.frames c.explain_within.ensures.call
      c.explain_within.ensures.on);
}
