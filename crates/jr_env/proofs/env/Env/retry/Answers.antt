use Rattle.std.proofs.Common.{◌≡◌, rules, of_calls, refl}
use Rattle.jr_env.proofs.MadeAgain.{does_again}
use Rattle.jr_env.proofs.env.Env.retry.Goals as goal

pub returns : goal.returns
returns g c = does_again (λ x. x.1.held.steps) (λ x. x.1.held.frames.frames) (λ x. x.0.0.now ≡ c.args.call)
    (λ x y r s o. search (rules, of_calls)) refl c.with_patience.ensures.1
