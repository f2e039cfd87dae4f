use Rattle.std.proofs.Common.{eqb, sym}
use prog.Atomic.{either}
use Rattle.jr_rule.proofs.RuleKept.{plays}
use Rattle.jr_rule.proofs.SeatStepped.{seated, place_here, owes_here, same_joints, seat_next, seat_stepped, seat_went}
use Rattle.jr_rule.proofs.row.RoomCellsCellsRefRoom.exchange.Goals as goal

pub compare_exchange-requires : goal.compare_exchange-requires
compare_exchange-requires g c =
    let s = c.args.self.now in
    let at = c.requires.there in (
      at.table,
      place_here at c.args.place.now.row.words c.requires.owed,
      plays _ _ _ _ _ _ _ (seated s.seat.me at.alone) _ (λ n. either (eqb n c.args.old) c.args.new n) (λ n. n)
          g.T.StepKind.told (owes_here s.seat.me c.requires.owed),
    )

pub returns-clause-there : goal.returns-clause-there
returns-clause-there g c = seat_next c.compare_exchange.ensures.2 c.compare_exchange.ensures.0 c.requires.there

pub returns-clause-step : goal.returns-clause-step
returns-clause-step g c = seat_stepped c.compare_exchange.ensures.2 c.compare_exchange.ensures.0

pub returns-clause-seen : goal.returns-clause-seen
returns-clause-seen g c = seat_went c.compare_exchange.ensures.2 c.requires.owed.may

pub returns-clause-counted : goal.returns-clause-counted
returns-clause-counted g c = sym (same_joints c.compare_exchange.ensures.2)
