use Rattle.std.proofs.Common.{◌≡◌, map, refl, sym, ap, subst, ◌∙◌}
use Rattle.std.proofs.lemmas.List.{append-nil}
use Rattle.std.specs.List.{AllByRecursion}
use Rattle.jr_model.specs.State.{not_outside}
use Rattle.jr_steps.specs.declared.known.Known.{Known}
use Rattle.jr_steps.specs.Knowing.{state_of}
use Rattle.jr_rule.specs.Parting.{no_seat}
use Rattle.jr_rule.specs.declared.row.RoomCells.{RoomCells}
use Rattle.jr_rule.specs.Passes.{gathered, holder_of, known_of, EndsAll, IsSeenIn}
use Rattle.jr_rule.specs.Rule.{stepping_pass}
use Rattle.jr_rule.proofs.Gathered.{exactly}
use Rattle.jr_rule.proofs.LookTaken.{look_stands, look_took}
use Rattle.jr_rule.proofs.Parted.{all_at, all_seen, and_three, counted_seated, looked_alone, met_goes}
use Rattle.jr_rule.proofs.Parted.{nobody_counted, others_are, parted_joints, seat_of, some_not_none}
use Rattle.jr_rule.proofs.PassOver.{held_of_standing, standing_of_held, stays_of}
use Rattle.jr_rule.proofs.SeatStepped.{counted_seat, seat_next}
use Rattle.jr_rule.proofs.room.Room.close_all.Goals as goal

pub end-requires : goal.end-requires
end-requires g c =
    let p = c.args.pass in
    let ks = map known_of c.args.others.items in
    let counts = (c.in-Ok.ensures.ok).1 in
    let goes = met_goes _ p.seat.me no_seat c.in-Ok.seat.me ks 0 counts in record {
      room = (c.in-Ok.ensures.ok).0 ∙ c.requires.pass.row;
      seated = counted_seated _ p.seat.me no_seat c.in-Ok.seat.me ks 0 counts;
      first = (goes.config ∙ c.requires.pass.config, goes.last ∙ c.requires.pass.last);
    }

pub returns-in-Ok-clause-ok : goal.returns-in-Ok-clause-ok
returns-in-Ok-clause-ok g c =
    let p = c.args.pass in
    let ks = map known_of c.args.others.items in
    let m = c.in-Ok.seat.me in
    let counts = (c.in-Ok.ensures.ok).1 in
    let goes = met_goes _ p.seat.me no_seat m ks 0 counts in record {
      met = stepping_pass m;
      goes = goes;
      nobody = ap (λ d. not_outside d (state_of (stepping_pass m))) (sym goes.config) ∙ sym counts.is;
      ends = subst (λ ls. EndsAll (stepping_pass m) ls c.end.result)
          (others_are _ p.seat.me no_seat m ks 0 counts ∙ append-nil ks) c.end.ensures;
    }

pub returns-in-Ok-clause-seen : goal.returns-in-Ok-clause-seen
returns-in-Ok-clause-seen g c =
    let all = returns-in-Ok-clause-ok g c in
    let ends = all.ends in record {
      met = all.met;
      goes = all.goes;
      whole = ends.whole;
      legal = ends.legal;
      lawful = ends.lawful;
      each = (ends.first, ends.others);
      alone = ends.alone;
    }

pub returns-in-Ok-clause-exact : goal.returns-in-Ok-clause-exact
returns-in-Ok-clause-exact g c all =
    exactly (known_of c.args.pass) (map known_of c.args.others.items) c.end.result (returns-in-Ok-clause-ok g c) all

pub invariant_of-pass-in-Err : goal.invariant_of-pass-in-Err
invariant_of-pass-in-Err g c =
    let p = c.args.pass in
    let h = c.in-Err.ensures.err in
    let told = looked_alone _ p.seat.me no_seat h.together (map known_of c.args.others.items) c.in-Err.parted.inside
    h.counts p.held.alone c.in-Err.parted.first.me h.alone in
    let x : RoomCells = record { seat = c.in-Err.parted.first; thread = p.thread } in
    let at = seat_next told h.room (counted_seat (seat_of c.args.self.row p c.requires.pass)) in
    record {
      held = held_of_standing at
          (look_stands (holder_of p) x h.room (h.counts.found, told) refl refl (standing_of_held p.held));
    }

pub returns-in-Err-clause-err : goal.returns-in-Err-clause-err
returns-in-Err-clause-err g c =
    let p = c.args.pass in
    let others = c.args.others.items in
    let ks = map known_of others in
    let inside = c.in-Err.parted.inside in
    let h = c.in-Err.ensures.err in
    let told =
    looked_alone _ p.seat.me no_seat h.together ks inside h.counts p.held.alone c.in-Err.parted.first.me h.alone in
    let x : RoomCells = record { seat = c.in-Err.parted.first; thread = p.thread } in
    let took = look_took (holder_of p) x h.room (h.counts.found, told) refl refl in
    let first : stepping_pass c.in-Err.parted.first.me ≡ stepping_pass h.together = ap stepping_pass h.alone in
    let seen = all_seen _ p.seat.me no_seat h.together ks inside h.counts refl in
    let goes = met_goes _ p.seat.me no_seat h.together ks inside h.counts in record {
      left = record {
        count = inside;
        fault = refl;
        some = h.some;
        is = h.counts.is ∙ ap (λ (k : Known). not_outside k.config (state_of k)) (sym first);
        same = refl;
        of_room = stays_of c.args.self.row p _ took c.requires.pass;
        took = took;
      };
      same_others = h.same_others;
      of_room = all_at c.args.self.row others c.in-Err.parted.others.items h.same_others c.requires.others;
      seen = subst (λ (k : Known). AllByRecursion (IsSeenIn k.seen) ks) (sym first) seen;
      counted = and_three _ _ (gathered others)
          (parted_joints _ p.seat.me no_seat h.together ks inside h.counts c.in-Err.parted.first.me h.alone);
      dealt = h.dealt;
      somebody = λ each out. some_not_none inside h.some (h.counts.is
          ∙ (ap (λ d. not_outside d (state_of (stepping_pass h.together))) (goes.config ∙ c.requires.pass.config)
          ∙ nobody_counted c.args.self.row.config p others (stepping_pass h.together) goes seen each out));
    }
