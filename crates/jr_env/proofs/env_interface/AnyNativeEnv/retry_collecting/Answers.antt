use Rattle.jr_env.proofs.TellingCalls.{told_as}
use Rattle.jr_env.proofs.env_interface.AnyNativeEnv.retry_collecting.Goals as goal

pub returns-clause-call : goal.returns-clause-call
returns-clause-call g c = record {
  left = c.try_collecting-answer.new.caller;
  tries = c.try_collecting-answer.ensures.call;
  span = _;
  asks = c.handed.ensures.span;
  tells = told_as g.N.TellsRefusals.told c.try_collecting-answer.new.caller c.tell_refusal.new.caller
      c.try_collecting-answer.result _ c.name.ensures c.handed.ensures.words c.tell_refusal.ensures;
}
