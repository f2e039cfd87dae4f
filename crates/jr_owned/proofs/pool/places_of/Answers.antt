use Rattle.std.proofs.Common.{◌≡◌, ◌++◌, ◌∷◌, [], ◌∙◌, ap, arith, length, rules, subst, sym}
use Rattle.std.specs.Arc.{arc_value}
use Rattle.std.specs.List.{All}
use Rattle.std.proofs.lemmas.List.{length_push}
use Rattle.std.proofs.lemmas.List.Elements.{All-head, All-rest, All-same}
use Rattle.jr_rule.specs.declared.pass.Pass.{Pass}
use Rattle.jr_rule.specs.declared.room.Room.{Room}
use Rattle.jr_rule.specs.Passes.{IsOpened}
use Rattle.jr_owned.proofs.pool.places_of.Goals as goal

pub loop-pass-init : goal.loop-pass-init
loop-pass-init g c =
    let opens = λ (p : Pass). IsOpened c.args.room.row p in
    let own : arc_value c.in_ok-room.room ≡ c.args.room = search rules in
    let all : c.into_iter-pass-iterator.result.rest.items ≡ c.args.passes.items = search rules in (
      own,
      (
        All-same opens c.into_iter-pass-iterator.result.rest.items c.args.passes.items all c.requires.opened,
        (
            let none : length c.in_ok-places.places.items ≡ 0 = search rules in
            let same = ap (λ xs. length xs) all in
            omega arith
            ),
      ),
    )

pub place_of-requires-clause-opened : goal.place_of-requires-clause-opened
place_of-requires-clause-opened g c =
    let opens = λ (p : Pass). IsOpened c.args.room.row p in
    let more : c.loop-pass.pass-iterator.rest.items ≡ c.in-Some.pass ∷ c.next.new.self.rest.items = search rules in
    let same : arc_value c.in_ok-shared.shared ≡ c.args.room = search rules in
    subst (λ (r : Room 4294967295). IsOpened r.row c.in-Some.pass) (sym same)
    (All-head opens c.in-Some.pass c.next.new.self.rest.items (subst (All opens) more c.loop-pass.invariant.1.0))

pub loop-pass-preserved : goal.loop-pass-preserved
loop-pass-preserved g c =
    let opens = λ (p : Pass). IsOpened c.args.room.row p in
    let more : c.loop-pass.pass-iterator.rest.items ≡ c.in-Some.pass ∷ c.next.new.self.rest.items = search rules in
    let is : c.push.new.self.items ≡ c.loop-pass.places.items ++ c.in_ok-place.place ∷ [] = search rules in (
      c.loop-pass.invariant.0,
      (
        All-rest opens c.in-Some.pass c.next.new.self.rest.items c.loop-pass.pass-iterator.rest.items more
            c.loop-pass.invariant.1.0,
        (let longer = ap (λ xs. length xs) is ∙ length_push c.loop-pass.places.items c.in_ok-place.place in
            let shorter = ap (λ xs. length xs) more in let was = c.loop-pass.invariant.1.1 in omega arith),
      ),
    )

pub returns : goal.returns
returns g c =
    let none : length c.loop-pass.pass-iterator.rest.items ≡ 0 = search rules in
    let was = c.loop-pass.invariant.1.1 in omega arith
