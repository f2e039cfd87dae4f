use Rattle.std.proofs.Common.{Err}
use Rattle.jr_frames.specs.Reading.{word_of}
use Rattle.jr_critical.proofs.OpenedWithin.{one_within, opens_within, own_refused}
use Rattle.jr_critical.proofs.OpenedWithin.{ready_still, refuses_within, stands_within}
use Rattle.jr_critical.proofs.levels.open_within.Goals as goal

pub invariant_of-held : goal.invariant_of-held
invariant_of-held g c = record {
  own = (ready_still c.args.wanted (word_of c.of-target.result) c.requires.ready c.find_level.result
      c.find_level.ensures.call).own;
}

pub returns-in-Ok-clause-call : goal.returns-in-Ok-clause-call
returns-in-Ok-clause-call g c = (
  word_of c.of-target.result,
  c.of-target.ensures.reads,
  opens_within c.args.wanted (word_of c.of-target.result) c.requires.ready c.in-Ok.ensures.call c.first.result
      c.first.ensures.levels,
)

pub returns-in-Ok-clause-ok : goal.returns-in-Ok-clause-ok
returns-in-Ok-clause-ok g c = (
  stands_within c.args.wanted (word_of c.of-target.result) c.requires.ready c.in-Ok.ensures.call c.first.result
      c.first.ensures.levels c.args.inside c.requires.stay c.first.ensures.inside,
  one_within c.args.wanted (word_of c.of-target.result) c.requires.ready c.in-Ok.ensures.call c.first.result
      c.first.ensures.levels,
)

pub returns-in-Err-clause-call : goal.returns-in-Err-clause-call
returns-in-Err-clause-call g c = (
  word_of c.of-target.result,
  c.of-target.ensures.reads,
  refuses_within c.args.wanted (word_of c.of-target.result) c.requires.ready c.in-Err.ensures.call,
)

pub returns-in-Err-clause-err : goal.returns-in-Err-clause-err
returns-in-Err-clause-err g c = (
  own_refused c.args.wanted (word_of c.of-target.result) c.requires.ready c.in-Err.ensures.call c.args.inside
      c.requires.stay,
  ready_still c.args.wanted (word_of c.of-target.result) c.requires.ready (Err _) c.in-Err.ensures.call,
)
