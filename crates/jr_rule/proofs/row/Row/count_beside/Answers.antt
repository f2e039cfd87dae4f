use Rattle.std.proofs.Common.{◌≡◌, ◌+◌, rules, [], ap, map, subst, ◌∙◌}
use Rattle.std.proofs.lemmas.Result.{IfErr-weaker, IfOk-weaker}
use Rattle.jr_rule.specs.Parting.{no_seat}
use Rattle.jr_rule.specs.Passes.{gathered, known_of}
use Rattle.jr_rule.specs.Rule.{HasCounted, SeatState, crowd_of, stepping_pass}
use Rattle.jr_rule.proofs.Parted.{crowd_cut}
use Rattle.jr_rule.proofs.Seats.{parts}
use Rattle.jr_rule.proofs.row.Row.count_beside.Goals as goal

pub split_seat-none-requires : goal.split_seat-none-requires
split_seat-none-requires c = (
  search rules,
  search rules,
  parts _ _ _ _ (stepping_pass c.args.seat.me) [] (ap (λ (m : SeatState). m.0) c.requires.first),
)

same_crowd : (c : goal.After-count_all) → crowd_of (gathered c.args.others.items) c.split_seat-none.new.seat.me
    (map known_of c.args.others.items) c.split_seat-none.result.me
    ≡ crowd_of (gathered c.args.others.items + 1) c.args.seat.me (map known_of c.args.others.items) no_seat
same_crowd c = let split = c.split_seat-none.ensures in
    crowd_cut c.args.seat.me _ _ (gathered c.args.others.items) _ c.requires.first split.2 split.4

pub returns-clause-ok : goal.returns-clause-ok
returns-clause-ok c = IfOk-weaker c.count_all.result _ _
    (λ s h. (h.0 ∙ c.split_seat-none.ensures.0, subst (λ z. HasCounted z s.me 0) (same_crowd c) h.1))
    c.count_all.ensures.ok

pub returns-clause-err : goal.returns-clause-err
returns-clause-err c = IfErr-weaker c.count_all.result _ _ (λ p h. record {
  room = h.room ∙ c.split_seat-none.ensures.0;
  together = h.together;
  counts = subst (λ z. HasCounted z h.together p.inside) (same_crowd c) h.counts;
  alone = h.alone;
  some = h.some;
  same_others = h.same_others;
  dealt = h.dealt;
}) c.count_all.ensures.err
