use Rattle.std.proofs.Common.{[], ◌∷◌, rules, ap}
use Rattle.jr_model.specs.declared.event.Act.TheVariants.{Meet}
use Rattle.jr_rule.specs.Rule.{LookedBy, SeatState, others_of}
use Rattle.jr_rule.proofs.GateOwed.{meets}
use Rattle.jr_rule.proofs.Meeting.{met_twice, seated_both, told_alone}
use Rattle.jr_rule.proofs.RuleKept.{plays}
use Rattle.jr_rule.proofs.Seats.{gathers, parts}
use Rattle.jr_rule.proofs.row.RoomCells.meet.Goals as goal

pub join_seat-requires : goal.join_seat-requires
join_seat-requires g c =
    (search rules, search rules, ap (λ (m : SeatState). m.1) c.requires.alone, search rules, gathers _ _ _ _ _ _)

pub load-requires : goal.load-requires
load-requires g c =
    let s = c.args.self.now in
    let m = c.join_seat.new.seat.me in
    let seated =
    seated_both s.seat.me c.args.other.me m c.requires.there.alone c.requires.alone c.join_seat.ensures.2 in
    (search rules, search rules, plays _ _ _ _ _ _ _ seated _ (λ n. n) (λ n. n) (LookedBy (Meet ∷ [])) (meets _))

pub split_seat-requires : goal.split_seat-requires
split_seat-requires g c =
    let t = c.load.ensures.2 in (
      search rules,
      search rules,
      parts _ _ _ _ t.new (others_of c.join_seat.new.seat.me.0.passes) (ap (λ (m : SeatState). m.0) t.is),
    )

pub returns-clause-looked : goal.returns-clause-looked
returns-clause-looked g c =
    let s = c.args.self.now.seat.me in
    let m = c.join_seat.new.seat.me in (
      c.load.result,
      told_alone s c.args.other.me m c.requires.there.alone c.requires.alone c.join_seat.ensures.2 c.load.result
          c.load.new.seat.me c.load.ensures.2 c.split_seat.new.seat.me c.split_seat.ensures.2,
    )

pub returns-clause-counted : goal.returns-clause-counted
returns-clause-counted g c =
    let s = c.args.self.now.seat.me in
    met_twice s c.args.other.me c.join_seat.new.seat.me c.requires.there.alone c.requires.alone c.join_seat.ensures.2
    c.load.result c.load.new.seat.me c.load.ensures.2 c.split_seat.new.seat.me c.split_seat.ensures.2
