use Rattle.std.proofs.Common.{rules, ap}
use Rattle.jr_rule.specs.Rule.{SeatState, stepping_pass}
use Rattle.jr_rule.proofs.Seats.{deals}
use Rattle.jr_rule.proofs.row.RoomCells.meet_cells.Goals as goal

pub split_seat-pass-requires : goal.split_seat-pass-requires
split_seat-pass-requires g c = (
  search rules,
  search rules,
  deals _ _ _ _ (stepping_pass c.args.other.now.seat.me) _ (ap (λ (m : SeatState). m.0) c.requires.alone),
)
