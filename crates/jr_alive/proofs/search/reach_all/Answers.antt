use Rattle.jr_alive.proofs.search.reach_all.Goals as goal

pub reach_globals-requires-clause-stands : goal.reach_globals-requires-clause-stands
reach_globals-requires-clause-stands c = c.in_ok-reached.ensures.stands c.args.without
