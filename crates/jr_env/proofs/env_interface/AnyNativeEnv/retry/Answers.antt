use Rattle.jr_env.proofs.TellingCalls.{told_as}
use Rattle.jr_env.proofs.env_interface.AnyNativeEnv.retry.Goals as goal

pub returns : goal.returns
returns g c = record {
  left = c.try_again-answer.new.caller;
  tries = c.try_again-answer.ensures;
  span = _;
  asks = c.handed.ensures.span;
  tells = told_as g.N.TellsRefusals.told c.try_again-answer.new.caller c.tell_refusal.new.caller
      c.try_again-answer.result _ c.name.ensures c.handed.ensures.words c.tell_refusal.ensures;
}
