use Rattle.std.proofs.Common.{◌≡◌, rules, of_calls, refl}
use Rattle.jr_env.proofs.MadeAgain.{tries_by, tries_last}
use Rattle.jr_env.proofs.levels_beside.retry_open.Goals as goal

pub returns-clause-tried : goal.returns-clause-tried
returns-clause-tried g c =
    tries_by (λ x. x.1) (λ x. x.0.0.now ≡ c.args.first) (λ x y r k o. search (rules, of_calls)) refl
    c.with_patience.ensures.1

pub returns-clause-stand : goal.returns-clause-stand
returns-clause-stand g c = let last = tries_last c.with_patience.ensures.1 in search (rules, of_calls)
