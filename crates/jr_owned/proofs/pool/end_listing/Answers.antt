use Rattle.std.proofs.Common.{◌∙◌, Some, ap, sym}
use Rattle.jr_owned.specs.Owners.{owner_of}
use Rattle.jr_owned.proofs.Pools.{if_closed, if_left, left_listing_at}
use Rattle.jr_owned.proofs.pool.end_listing.Goals as goal

pub returns-clause-closed : goal.returns-clause-closed
returns-clause-closed g c = if_closed (λ r d. record {
  owner = owner_of c.of_any_site-steps.result;
  site_is = c.of_any_site-steps.ensures.site;
  closes = d;
}) c.close_collected_listing.result
    c.close_collected_listing.ensures.closed

pub returns-clause-left : goal.returns-clause-left
returns-clause-left g c = if_left (λ l d. left_listing_at g.Q.Site.room (owner_of c.of_any_site-steps.result) _ _ l
    (ap (λ t. Some t) (sym c.of_any_site-steps.result.at.table) ∙ c.of_any_site-steps.ensures.site) d)
    c.close_collected_listing.result c.close_collected_listing.ensures.left
