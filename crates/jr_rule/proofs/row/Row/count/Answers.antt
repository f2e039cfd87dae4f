use Rattle.std.proofs.Common.{rules, ap}
use Rattle.jr_steps.specs.declared.loads.GateLoad.TheVariants as gate
use Rattle.jr_rule.specs.Rule.{CountedBy, SeatState}
use Rattle.jr_rule.proofs.GateOwed.{sees_gate}
use Rattle.jr_rule.proofs.Parted.{beside_is, counts_so}
use Rattle.jr_rule.proofs.Readings.{is_read, read_once}
use Rattle.jr_rule.proofs.RuleKept.{plays}
use Rattle.jr_rule.proofs.Seats.{gathers}
use Rattle.jr_rule.proofs.row.Row.count.Goals as goal

pub join_seat-requires : goal.join_seat-requires
join_seat-requires c =
    (search rules, search rules, ap (λ (m : SeatState). m.1) c.requires.rest, search rules, gathers _ _ _ _ _ _)

pub load-found-requires : goal.load-found-requires
load-found-requires c =
    let beside = beside_is c.args.first.now.me c.args.rest.me c.join_seat.new.seat.me c.requires.first c.requires.rest
    c.join_seat.ensures.2 in
    (search rules, search rules, plays _ _ _ _ _ _ _ beside _ (λ n. n) (λ n. n) CountedBy (sees_gate _ gate.Meet tt))

pub unwrap-requires : goal.unwrap-requires
unwrap-requires c =
    let s = c.load-found.ensures.2.says in
    is_read c.parts.result s.0 (c.parts.ensures.complete s.0 s.1 s.2)

pub returns-clause-counts : goal.returns-clause-counts
returns-clause-counts c =
    let beside = beside_is c.args.first.now.me c.args.rest.me c.join_seat.new.seat.me c.requires.first c.requires.rest
    c.join_seat.ensures.2 in
    counts_so c.join_seat.new.seat.me _ c.load-found.new.seat.me c.load-found.result c.all_counted.result
    c.unwrap.result beside c.load-found.ensures.2
    (λ p fits word. read_once c.parts.result p c.unwrap.result (c.parts.ensures.complete p fits word) c.unwrap.ensures)
    c.all_counted.ensures
