use Rattle.std.proofs.Common.{◌≡◌, rules, of_calls, refl}
use Rattle.jr_env.proofs.MadeAgain.{tries_by}
use Rattle.jr_env.proofs.retrying_over.try_again.Goals as goal

pub returns : goal.returns
returns g c = tries_by (λ x. x.1) (λ x. x.0.0.now ≡ c.args.call) (λ x y r k o. search (rules, of_calls)) refl
    c.with_patience.ensures.1
