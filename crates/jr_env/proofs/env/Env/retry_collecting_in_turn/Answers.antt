use Rattle.std.proofs.Common.{rules, refl, sym, ap, ◌∙◌}
use Rattle.jr_word.specs.declared.config.Config.{Config}
use Rattle.jr_env.proofs.EnvCalls.{same_room}
use Rattle.jr_env.proofs.MadeAgain.{was_served, was_refused, was_collected, was_kept_out}
use Rattle.jr_env.proofs.env.Env.retry_collecting_in_turn.Goals as goal

pub returns-in-Ok-clause-call : goal.returns-in-Ok-clause-call
returns-in-Ok-clause-call g c fits = was_served c.args.patience.more c.in-Ok.ensures refl

pub returns-then-not-is_short_of_room-clause-call : goal.returns-then-not-is_short_of_room-clause-call
returns-then-not-is_short_of_room-clause-call g c fits =
    was_refused c.args.patience.more c.in-Err.refused c.in-Err.ensures (search rules)

pub returns-in-Ok-collect_in_turn-clause-call : goal.returns-in-Ok-collect_in_turn-clause-call
returns-in-Ok-collect_in_turn-clause-call g c fits =
    was_collected c.args.patience.more _ c.in-Err.refused c.in-Err.ensures (search rules)
    (c.in-Ok-collect_in_turn.ensures.call (fits ∙ sym (ap (λ (z : Config). z.objects) (same_room c.in-Err.ensures))))
    c.retry-in-Ok-collect_in_turn.ensures

pub returns-in-Err-collect_in_turn-clause-call : goal.returns-in-Err-collect_in_turn-clause-call
returns-in-Err-collect_in_turn-clause-call g c fits =
    was_kept_out c.args.patience.more _ c.in-Err.refused c.in-Err.ensures (search rules)
    (c.in-Err-collect_in_turn.ensures.call (fits ∙ sym (ap (λ (z : Config). z.objects) (same_room c.in-Err.ensures))))
