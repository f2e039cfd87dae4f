use Rattle.jr_census.specs.Taking.{IsCensusOf, counting_steps}
use Rattle.jr_census.proofs.Takes.{census_on, takes_act_by_act, takes_announced}
use Rattle.jr_census.proofs.taking.take_census_announced.Goals as goal

pub returns-clause-ok : goal.returns-clause-ok
returns-clause-ok g c = takes_announced g.S.Steps.facts counting_steps
    (λ k last s. IsCensusOf k last s c.count.result) (λ k last s t same told.
    census_on k last c.count.result same told) c.requires.outside c.in_ok-shut.ensures.ok c.count.ensures.all

pub returns-clause-counted : goal.returns-clause-counted
returns-clause-counted g c = takes_act_by_act g.S.Steps.facts counting_steps
    (λ k last s. IsCensusOf k last s c.count.result) c.in_ok-shut.ensures.ok c.count.ensures.all
