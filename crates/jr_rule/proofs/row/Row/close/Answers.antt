use Rattle.jr_rule.proofs.Ended.{ends_one}
use Rattle.jr_rule.proofs.SeatStepped.{seated}
use Rattle.jr_rule.proofs.row.Row.close.Goals as goal

pub end-requires : goal.end-requires
end-requires c = let p = c.args.pass in record {
  room = c.requires.row;
  seated = seated p.seat.me p.held.alone;
  first = (c.requires.config, c.requires.last);
}

pub returns : goal.returns
returns c = ends_one c.end.ensures
