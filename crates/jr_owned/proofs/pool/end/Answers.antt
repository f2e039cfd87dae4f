use Rattle.jr_owned.specs.Owners.{owner_of}
use Rattle.jr_owned.proofs.Pools.{if_closed, if_left, left_at}
use Rattle.jr_owned.proofs.pool.end.Goals as goal

pub returns-clause-closed : goal.returns-clause-closed
returns-clause-closed g c = if_closed (λ s d. record {
  owner = owner_of c.of_any_site-steps.result;
  site_is = c.of_any_site-steps.ensures.site;
  closes = d;
}) c.close_owned.result
    c.close_owned.ensures.closed

pub returns-clause-left : goal.returns-clause-left
returns-clause-left g c = if_left (λ l d. left_at g.Q.Site.room (owner_of c.of_any_site-steps.result) _ l
    c.of_any_site-steps.ensures.site d) c.close_owned.result c.close_owned.ensures.left
