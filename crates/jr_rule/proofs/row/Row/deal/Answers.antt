use Rattle.std.proofs.Common.{rules, [], ap}
use Rattle.jr_steps.specs.Holdings.{empty}
use Rattle.jr_rule.specs.Rule.{known, SeatState}
use Rattle.jr_rule.proofs.Seats.{deals}
use Rattle.jr_rule.proofs.row.Row.deal.Goals as goal

pub split_seat-dealt-requires : goal.split_seat-dealt-requires
split_seat-dealt-requires c = (
  search rules,
  search rules,
  deals _ _ _ _ (known c.args.self.now.config c.args.self.now.last c.args.thread [] empty 0) _
      (ap (λ (m : SeatState). m.0) c.requires.first),
)
