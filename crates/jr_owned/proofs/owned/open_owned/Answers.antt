use Rattle.jr_owned.proofs.Owners.{owners_opened}
use Rattle.jr_owned.proofs.owned.open_owned.Goals as goal

pub returns-clause-opened : goal.returns-clause-opened
returns-clause-opened c = owners_opened c.args.config c.in_ok-room.room c.in-Ok.owners.items c.in_ok-room.passes.items
    c.in_ok-room.ensures.opened c.in-Ok.ensures.room c.in-Ok.ensures.passes
