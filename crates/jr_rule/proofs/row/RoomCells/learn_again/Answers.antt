use Rattle.std.proofs.Common.{◌≡◌, ◌+◌, [], rules, ap, arith}
use Rattle.jr_rule.specs.Rule.{LookedBy, SeatState, joints_at, noted_pass, stepping_pass}
use Rattle.jr_rule.proofs.GateOwed.{learns}
use Rattle.jr_rule.proofs.Meeting.{learned, looked_once, past_note, told_noted, with_note}
use Rattle.jr_rule.proofs.RuleKept.{plays}
use Rattle.jr_rule.proofs.Seats.{gathers, leaves_again}
use Rattle.jr_rule.proofs.row.RoomCells.learn_again.Goals as goal

pub join_seat-requires : goal.join_seat-requires
join_seat-requires g c =
    (search rules, search rules, ap (λ (m : SeatState). m.1) c.requires.note, search rules, gathers _ _ _ _ _ _)

pub split_seat-again-requires : goal.split_seat-again-requires
split_seat-again-requires g c =
    let s = c.args.self.now.seat.me in
    let n = c.args.note.me in
    let m = c.join_seat.new.seat.me in (
      search rules,
      search rules,
      leaves_again _ _ _ _ (stepping_pass s) (noted_pass n) [] [] (ap (λ (z : SeatState). z.0)
          (with_note s n m c.requires.there.alone c.requires.note c.join_seat.ensures.2)),
    )

pub load-requires : goal.load-requires
load-requires g c =
    let s = c.args.self.now.seat.me in
    let n = c.args.note.me in
    let m = c.join_seat.new.seat.me in
    let cut = c.split_seat-again.new.seat.me in (
      search rules,
      search rules,
      plays _ _ _ _ _ _ _ (past_note s n m c.requires.there.alone c.requires.note c.join_seat.ensures.2 cut
          c.split_seat-again.ensures.2) _ (λ x. x) (λ x. x) (LookedBy []) (learns _),
    )

pub returns-clause-looked : goal.returns-clause-looked
returns-clause-looked g c =
    let s = c.args.self.now.seat.me in
    let n = c.args.note.me in
    let m = c.join_seat.new.seat.me in
    let cut = c.split_seat-again.new.seat.me in
    let there = c.requires.there.alone in
    let here = past_note s n m there c.requires.note c.join_seat.ensures.2 cut c.split_seat-again.ensures.2 in
    (c.load.result, told_noted s n cut there here c.load.result c.load.new.seat.me c.load.ensures.2)

pub returns-clause-learned : goal.returns-clause-learned
returns-clause-learned g c =
    let s = c.args.self.now.seat.me in
    let n = c.args.note.me in
    let m = c.join_seat.new.seat.me in
    let cut = c.split_seat-again.new.seat.me in
    let there = c.requires.there.alone in
    let here = past_note s n m there c.requires.note c.join_seat.ensures.2 cut c.split_seat-again.ensures.2 in
    learned s n cut there here c.load.result c.load.new.seat.me c.load.ensures.2

pub returns-clause-counted : goal.returns-clause-counted
returns-clause-counted g c =
    let s = c.args.self.now.seat.me in
    let n = c.args.note.me in
    let m = c.join_seat.new.seat.me in
    let cut = c.split_seat-again.new.seat.me in
    let there = c.requires.there.alone in
    let here = past_note s n m there c.requires.note c.join_seat.ensures.2 cut c.split_seat-again.ensures.2 in
    let is : joints_at c.load.new.seat.me ≡ joints_at s + joints_at n + 1 + 1 =
    looked_once s n cut there here c.load.result c.load.new.seat.me c.load.ensures.2 in omega arith
