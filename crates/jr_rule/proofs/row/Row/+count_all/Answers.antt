use Rattle.std.proofs.Common.{◌≡◌, ◌+◌, ◌++◌, ◌∷◌, List, [], option_to_list, map, rules, sym, ap, subst, ◌∙◌}
use Rattle.std.specs.List.{All}
use Rattle.std.proofs.lemmas.List.Elements.{All-append, All-cons, All-nil}
use Rattle.jr_steps.specs.declared.known.Known.{Known}
use Rattle.jr_rule.specs.declared.pass.Pass.{Pass}
use Rattle.jr_rule.specs.Passes.{joints_of, known_of, stands_of}
use Rattle.jr_rule.specs.Rule.{HasCounted, SeatState, joints_at, stepping_pass, view_of, without_first}
use Rattle.jr_rule.proofs.Parted.{at_last, more_stand, passes_more, same_crowd, still_crowd}
use Rattle.jr_rule.proofs.Seats.{deals, gathers, parts}
use Rattle.jr_rule.proofs.row.Row.+count_all.Goals as goal

pub split_seat-rest-requires : goal.split_seat-rest-requires
split_seat-rest-requires t c = let k = c.count-inside.ensures.counts in
    (search rules, search rules, parts _ _ _ _ (k.tells).new _ (ap (λ (m : SeatState). m.0) k.tells.is))

pub join_seat-requires : goal.join_seat-requires
join_seat-requires t c =
    let at = (at_last c.args.self.now c.args.others.items c.pop.new.self.items c.pop.result c.in-Some.pass
    c.pop.ensures.items c.in-Some.is c.requires.others).1 in (
      at.row,
      c.requires.same ∙ c.requires.room,
      ap (λ (m : SeatState). m.1) c.requires.rest,
      search rules,
      gathers _ _ _ _ _ _,
    )

pub count_all-requires : goal.count_all-requires
count_all-requires t c =
    let at = at_last c.args.self.now c.args.others.items c.pop.new.self.items c.pop.result c.in-Some.pass
    c.pop.ensures.items c.in-Some.is c.requires.others in (
      search rules,
      (
        c.requires.room,
        (
          c.join_seat.ensures.0 ∙ (at.1.row ∙ sym c.requires.room),
          (
            c.requires.first,
            (
              still_crowd c.in-Some.pass c.join_seat.new.seat.me c.args.rest.me c.join_seat.ensures.2 c.requires.rest,
              at.0,
            ),
          ),
        ),
      ),
    )

pub returns-in-Ok-clause-ok : goal.returns-in-Ok-clause-ok
returns-in-Ok-clause-ok t c =
    let p = c.in-Some.pass in
    let h = c.in-Ok.ensures.ok in
    let is : c.args.others.items ≡ c.pop.new.self.items ++ p ∷ [] =
    c.pop.ensures.items ∙ ap (λ o. c.pop.new.self.items ++ option_to_list o) c.in-Some.is in (
      h.0,
      subst (λ (z : SeatState). HasCounted z c.in-Ok.joined.me 0) (same_crowd p c.join_seat.new.seat.me c.args.rest.me
          c.join_seat.ensures.2 c.args.first.me c.args.others.items c.pop.new.self.items is) h.1,
    )

pub split_seat-seat-requires : goal.split_seat-seat-requires
split_seat-seat-requires t c =
    let p = c.in-Some.pass in
    let h = c.in-Err.ensures.err in
    let at = (at_last c.args.self.now c.args.others.items c.pop.new.self.items c.pop.result p c.pop.ensures.items
    c.in-Some.is c.requires.others).1 in
    let e = h.same_rest.1 ∙ ap (λ (l : List Known). (view_of l, []))
    (passes_more p c.join_seat.new.seat.me c.args.rest.me c.join_seat.ensures.2) in (
      h.same_rest.0 ∙ (c.join_seat.ensures.0 ∙ at.row),
      search rules,
      deals _ _ _ _ (known_of p) _ (ap (λ (m : SeatState). m.0) e),
    )

pub returns-in-Err-clause-err : goal.returns-in-Err-clause-err
returns-in-Err-clause-err t c =
    let p = c.in-Some.pass in
    let h = c.in-Err.ensures.err in
    let xs = c.args.others.items in
    let init = c.pop.new.self.items in
    let s = c.join_seat.new.seat.me in
    let rest = c.args.rest.me in
    let joined = c.join_seat.ensures.2 in
    let at = (at_last c.args.self.now xs init c.pop.result p c.pop.ensures.items c.in-Some.is c.requires.others).1 in
    let is : xs ≡ init ++ p ∷ [] = c.pop.ensures.items ∙ ap (λ o. init ++ option_to_list o) c.in-Some.is in
    let e = h.same_rest.1 ∙ ap (λ (l : List Known). (view_of l, [])) (passes_more p s rest joined) in
    let one = λ (q : Pass). joints_of q ≡ 1 in
    let split = c.split_seat-seat.ensures in
    let table = split.3 ∙ (h.same_rest.0 ∙ c.join_seat.ensures.0) in
    let knows = ap stepping_pass split.4 ∙ ap stepping_pass e in record {
      room = h.room;
      together = h.together;
      counts = subst (λ (z : SeatState). HasCounted z h.together c.in-Err.parted.inside)
          (same_crowd p s rest joined c.args.first.me xs init is) h.counts;
      alone = h.alone;
      some = h.some;
      same_rest = (
        split.0 ∙ (h.same_rest.0 ∙ (c.join_seat.ensures.0 ∙ (at.row ∙ sym (c.requires.same ∙ c.requires.room)))),
        split.2 ∙ ap (λ (m : SeatState). (without_first m.0, m.1)) e,
      );
      same_others = ap (map stands_of) c.push_reserved.ensures.items
          ∙ more_stand xs init c.in-Err.parted.others.items p _ is h.same_others (λ i.
          record { room = table i; knows = knows i; thread = p.thread; role = p.role; fresh = p.fresh; hint = p.hint });
      dealt = subst (All one) (sym c.push_reserved.ensures.items)
          (All-append one c.in-Err.parted.others.items (_ ∷ []) h.dealt
          (All-cons one _ [] (ap joints_at split.4 ∙ ap (λ (m : SeatState). joints_at m + 1) e) (All-nil one)));
      len_is = c.push_reserved.ensures.len ∙ (ap (λ n. n + 1) h.len_is ∙ c.in-Some.ensures.cases);
      capacity_is = c.push_reserved.ensures.capacity ∙ (h.capacity_is ∙ c.pop.ensures.capacity);
    }
