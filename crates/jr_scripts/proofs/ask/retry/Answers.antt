use Rattle.std.proofs.Common.{◌≡◌, rules, of_calls, refl}
use Rattle.jr_scripts.proofs.Retries.{does_tried}
use Rattle.jr_scripts.proofs.ask.retry.Goals as goal

pub returns : goal.returns
returns g c = does_tried (λ x. x.1.held.steps) (λ x. x.1.held.frames.frames) (λ x. x.0.0.now ≡ c.args.call)
    (λ x y r s o. search (rules, of_calls)) refl c.requires c.in_turns.ensures.1
