use Rattle.std.proofs.Common.{rules, of_calls}
use Rattle.jr_elements.specs.Copies.{answer_in}
use Rattle.jr_env.specs.Retried.{TriesToStay}
use Rattle.jr_env.proofs.MadeAgain.{tries_by, tries_formed, tries_last}
use Rattle.jr_env.proofs.env.Env.retry_enter_stay.Goals as goal

pub returns-clause-tried : goal.returns-clause-tried
returns-clause-tried g c = tries_formed (λ i. tt) (λ p q r o. o)
    (tries_by {two = λ old r new. TriesToStay old (answer_in (λ i. tt) r) new} (λ x. x.1) (λ x. Unit {0})
    (λ x y r k o. (search (rules, of_calls), tt)) tt c.with_patience.ensures.1)

pub returns-clause-own : goal.returns-clause-own
returns-clause-own g c = let last = tries_last c.with_patience.ensures.1 in search (rules, of_calls)
