use Rattle.std.proofs.Common.{[], rules, ap}
use Rattle.jr_rule.specs.Rule.{LookedBy, SeatState}
use Rattle.jr_rule.proofs.GateOwed.{learns}
use Rattle.jr_rule.proofs.Meeting.{looked_once, told_noted, with_note}
use Rattle.jr_rule.proofs.RuleKept.{plays}
use Rattle.jr_rule.proofs.Seats.{gathers}
use Rattle.jr_rule.proofs.row.RoomCells.learn.Goals as goal

pub join_seat-requires : goal.join_seat-requires
join_seat-requires g c =
    (search rules, search rules, ap (λ (m : SeatState). m.1) c.requires.note, search rules, gathers _ _ _ _ _ _)

pub load-requires : goal.load-requires
load-requires g c =
    let s = c.args.self.now in
    let m = c.join_seat.new.seat.me in (
      search rules,
      search rules,
      plays _ _ _ _ _ _ _ (with_note s.seat.me c.args.note.me m c.requires.there.alone c.requires.note
          c.join_seat.ensures.2) _ (λ n. n) (λ n. n) (LookedBy []) (learns _),
    )

pub returns-clause-looked : goal.returns-clause-looked
returns-clause-looked g c =
    let s = c.args.self.now.seat.me in
    let m = c.join_seat.new.seat.me in
    let here = with_note s c.args.note.me m c.requires.there.alone c.requires.note c.join_seat.ensures.2 in (
      c.load.result,
      told_noted s c.args.note.me m c.requires.there.alone here c.load.result c.load.new.seat.me c.load.ensures.2,
    )

pub returns-clause-counted : goal.returns-clause-counted
returns-clause-counted g c =
    let s = c.args.self.now.seat.me in
    let m = c.join_seat.new.seat.me in
    let here = with_note s c.args.note.me m c.requires.there.alone c.requires.note c.join_seat.ensures.2 in
    looked_once s c.args.note.me m c.requires.there.alone here c.load.result c.load.new.seat.me c.load.ensures.2
