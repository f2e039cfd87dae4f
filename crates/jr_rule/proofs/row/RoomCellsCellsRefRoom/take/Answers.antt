use Rattle.std.proofs.Common.{◌+◌, ◌-◌, ◌%◌, ◌^◌, sym}
use Rattle.jr_rule.proofs.RuleKept.{plays}
use Rattle.jr_rule.proofs.SeatStepped.{seated, place_here, owes_here, same_joints, seat_next, seat_stepped, seat_went}
use Rattle.jr_rule.proofs.row.RoomCellsCellsRefRoom.take.Goals as goal

pub fetch_sub-requires : goal.fetch_sub-requires
fetch_sub-requires g c =
    let s = c.args.self.now in
    let at = c.requires.there in (
      at.table,
      place_here at c.args.place.now.row.words c.requires.owed,
      plays _ _ _ _ _ _ _ (seated s.seat.me at.alone) _ (λ n. (n + (2 ^ 64 - c.args.less)) % 2 ^ 64) (λ n. n)
          g.T.StepKind.told (owes_here s.seat.me c.requires.owed),
    )

pub returns-clause-there : goal.returns-clause-there
returns-clause-there g c = seat_next c.fetch_sub.ensures.2 c.fetch_sub.ensures.0 c.requires.there

pub returns-clause-step : goal.returns-clause-step
returns-clause-step g c = seat_stepped c.fetch_sub.ensures.2 c.fetch_sub.ensures.0

pub returns-clause-seen : goal.returns-clause-seen
returns-clause-seen g c = seat_went c.fetch_sub.ensures.2 c.requires.owed.may

pub returns-clause-counted : goal.returns-clause-counted
returns-clause-counted g c = sym (same_joints c.fetch_sub.ensures.2)
