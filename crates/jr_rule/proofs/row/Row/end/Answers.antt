use Rattle.std.proofs.Common.{ap}
use Rattle.std.specs.Slots.{slots_items}
use Rattle.jr_rule.specs.Rule.{SeatState, stepping_pass, others_of}
use Rattle.jr_rule.proofs.Ended.{kept_shows, ends_all}
use Rattle.jr_rule.proofs.row.Row.end.Goals as goal

pub summary-summary-requires-clause-history : goal.summary-summary-requires-clause-history
summary-summary-requires-clause-history c =
    let room = c.args.self in
    let end = c.close_with.ensures.values.2 in
    kept_shows room.config room.last room.table.shared.key end.0 (slots_items c.close_with.result.words) room.key
    end.1.0 end.2

pub returns : goal.returns
returns c =
    let room = c.args.self in
    let m = c.args.seat.me in
    let end = c.close_with.ensures.values.2 in
    ends_all room.config room.last room.table.shared.key end.0 (slots_items c.close_with.result.words) _ m.0
    (stepping_pass m) (others_of m.0.passes) c.summary-summary.result
    room.key end.1.0 end.2 end.1.1 (ap (λ (z : SeatState). z.0) c.requires.seated) c.requires.first.0 c.requires.first.1
    c.summary-summary.ensures
