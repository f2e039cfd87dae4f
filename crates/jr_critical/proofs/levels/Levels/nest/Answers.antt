use Rattle.std.proofs.Common.{refl, Err, Ok}
use Rattle.jr_frames.specs.Reading.{word_of}
use Rattle.jr_critical.proofs.Nesting.{nests, nests_not, ready_still, stand_more, stand_unchanged}
use Rattle.jr_critical.proofs.levels.Levels.nest.Goals as goal

pub invariant_of-held : goal.invariant_of-held
invariant_of-held g c = record {
  own = (ready_still g.met.S.Steps.fits c.requires c.args.wanted (word_of c.of-target.result) c.len-count.ensures.value
      c.find_level.result c.find_level.ensures.call).own;
}

pub returns-in_err-level-clause-call : goal.returns-in_err-level-clause-call
returns-in_err-level-clause-call g c = (
  word_of c.of-target.result,
  c.of-target.ensures.reads,
  nests_not g.met.S.Steps.fits c.requires c.args.wanted (word_of c.of-target.result) c.len-count.ensures.value
      (Err c.in_err-level.field-0.0) c.in_err-level.ensures.call refl c.from_residual.result c.from_residual.ensures.1,
)

pub returns-in_err-level-clause-stand : goal.returns-in_err-level-clause-stand
returns-in_err-level-clause-stand g c =
    stand_unchanged g.met.S.Steps.fits c.requires c.args.wanted (word_of c.of-target.result) c.len-count.ensures.value
    (Err c.in_err-level.field-0.0) c.in_err-level.ensures.call refl

pub returns-clause-call : goal.returns-clause-call
returns-clause-call g c = (
  word_of c.of-target.result,
  c.of-target.ensures.reads,
  nests g.met.S.Steps.fits c.requires c.args.wanted (word_of c.of-target.result) c.len-count.ensures.value
      (Ok c.in_ok-level.level) c.in_ok-level.ensures.call refl
      (record { inside = c.args.self.now.inside; levels = c.push.new.self }) c.push.ensures.items,
)

pub returns-clause-stand : goal.returns-clause-stand
returns-clause-stand g c =
    stand_more g.met.S.Steps.fits c.requires c.args.wanted (word_of c.of-target.result) c.len-count.ensures.value
    (Ok c.in_ok-level.level) c.in_ok-level.ensures.call refl
    (record { inside = c.args.self.now.inside; levels = c.push.new.self }) c.push.ensures.items refl
