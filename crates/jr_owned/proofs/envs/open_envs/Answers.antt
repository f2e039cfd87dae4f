use Rattle.jr_owned.proofs.envs.open_envs.Goals as goal

pub returns-clause-opened : goal.returns-clause-opened
returns-clause-opened c = record {
  owners = c.in_ok-owners.owners.items;
  opened = c.in_ok-owners.ensures.opened;
  each = c.in-Ok.ensures;
}
