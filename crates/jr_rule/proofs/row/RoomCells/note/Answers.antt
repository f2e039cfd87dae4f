use Rattle.std.proofs.Common.{rules, ap}
use Rattle.jr_rule.specs.Rule.{SeatState, stepping_pass}
use Rattle.jr_rule.proofs.Seats.{jots}
use Rattle.jr_rule.proofs.row.RoomCells.note.Goals as goal

pub split_seat-requires : goal.split_seat-requires
split_seat-requires g c = (
  search rules,
  search rules,
  jots _ _ _ _ (stepping_pass c.args.self.now.seat.me) _ (ap (λ (m : SeatState). m.0) c.requires.there.alone),
)
