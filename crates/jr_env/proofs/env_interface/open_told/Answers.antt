use Rattle.std.proofs.Common.{None, subst}
use Rattle.jr_critical.specs.Levels.{StandOver}
use Rattle.jr_env.specs.Requests.{handed_words}
use Rattle.jr_env.specs.TellingCalls.{RefusalTold}
use Rattle.jr_env.proofs.TellingCalls.{told_as, told_ok}
use Rattle.jr_env.proofs.env_interface.open_told.Goals as goal

pub returns-clause-opens : goal.returns-clause-opens
returns-clause-opens g c = record {
  left = c.open_beneath-answer.new.caller;
  opens = c.open_beneath-answer.ensures.tried;
  tells = told_as g.N.TellsRefusals.told c.open_beneath-answer.new.caller c.tell_refusal.new.caller
      c.open_beneath-answer.result None c.call.ensures c.handed.ensures.words
      (subst (λ span. RefusalTold g.N.TellsRefusals.told c.open_beneath-answer.new.caller c.tell_refusal.new.caller
      c.call.result.now (handed_words c.handed.result) span c.open_beneath-answer.result) c.handed.ensures.span
      c.tell_refusal.ensures);
}

pub returns-clause-stand : goal.returns-clause-stand
returns-clause-stand g c = told_ok g.N.TellsRefusals.told (λ v m. StandOver v (g.N.OverEnv.env_in m).held)
    c.open_beneath-answer.new.caller c.tell_refusal.new.caller c.open_beneath-answer.result _ _ _
    c.open_beneath-answer.ensures.stand c.tell_refusal.ensures
