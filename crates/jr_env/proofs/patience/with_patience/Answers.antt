use Rattle.std.proofs.Common.{rules, arith, of_calls}
use Rattle.jr_env.proofs.MadeAgain.{tries_from_first, tries_settled, tries_once_more, tries_the_last}
use Rattle.jr_env.proofs.patience.with_patience.Goals as goal

pub loop-init : goal.loop-init
loop-init g c = (search of_calls, λ answer last t. tries_from_first c.args.patience.more t)

pub returns-in-Ok : goal.returns-in-Ok
returns-in-Ok g c =
    (c.body.new.self, c.loop.invariant.1 _ _ (tries_settled c.in-Ok.is (search of_calls) (search rules)))

pub returns-then-not-is_for_later : goal.returns-then-not-is_for_later
returns-then-not-is_for_later g c =
    (c.body.new.self, c.loop.invariant.1 _ _ (tries_settled c.in-Err.is (search of_calls) (search rules)))

pub loop-preserved : goal.loop-preserved
loop-preserved g c = (
  search of_calls,
  λ answer last t. c.loop.invariant.1 _ _ (tries_once_more c.body.result c.args.patience.more c.loop.counter
      (omega arith) (search of_calls) (search (rules, c.in-Err.is)) t),
)

pub returns : goal.returns
returns g c = (
  c.body-2.new.self,
  c.loop.invariant.1 _ _ (tries_the_last c.args.patience.more c.loop.counter (omega arith) (search of_calls)),
)
