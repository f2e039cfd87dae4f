use Rattle.std.proofs.Common.{◌≡◌, ◌≤◌, ◌++◌, ◌∷◌, [], ◌∙◌, ap, append-nil, arith, length, map, rules, subst, sym}
use Rattle.std.proofs.Common.{Some, IfSome}
use Rattle.std.specs.Arc.{arc_value}
use Rattle.std.specs.List.{All}
use Rattle.std.specs.Option.{option_to_list}
use Rattle.std.proofs.lemmas.List.{nil_from_length}
use Rattle.std.proofs.lemmas.List.Elements.{All-head, All-nil, All-pop, All-push, All-rest, All-same}
use Rattle.jr_rule.specs.declared.pass.Pass.{Pass}
use Rattle.jr_rule.specs.declared.room.Room.{Room}
use Rattle.jr_rule.specs.Passes.{IsOpened}
use Rattle.jr_owned.proofs.Owners.{fewer, one_more}
use Rattle.jr_owned.proofs.code.start_each.Goals as goal

pub loop-pass-init : goal.loop-pass-init
loop-pass-init g c =
    let own : arc_value c.in-Ok-Ok-Ok-Ok.room ≡ c.args.room = search rules in
    let mine : arc_value c.in-Ok-Ok-Ok-Ok.code ≡ c.args.code = search rules in
    let all : c.into_iter-pass-iterator.result.rest.items ≡ c.pop.new.self.items = search rules in
    let none : c.reserve.new.self.items ≡ [] = search rules in
    let holds : length c.args.passes.items ≤ c.reserve.new.self.cap = search rules in
    let opens = λ (p : Pass). IsOpened c.args.room.row p in
    let parts : c.args.passes.items ≡ c.pop.new.self.items ++ option_to_list c.pop.result = search rules in
    let opened = All-pop opens c.args.passes.items c.pop.new.self.items c.pop.result parts c.requires.opened in
    let whole : c.args.passes.items ≡ c.pop.new.self.items ++ c.in-Some.last ∷ []
    = parts ∙ ap (λ r. c.pop.new.self.items ++ option_to_list r) c.in-Some.is in (
      own,
      (
        mine,
        (
          All-same opens c.into_iter-pass-iterator.result.rest.items c.pop.new.self.items all opened.0,
          (
            subst (λ r. IfSome r opens) c.in-Some.is opened.1,
            (
              ap
                  (λ hs. map (λ h. h.promise.pass.value) hs
                  ++ (c.into_iter-pass-iterator.result.rest.items ++ c.in-Some.last ∷ []))
                  none ∙ (ap (λ ps. ps ++ c.in-Some.last ∷ []) all ∙ sym whole),
              (
                All-same (λ h. h.promise.code.value ≡ c.args.code) c.reserve.new.self.items [] none
                    (All-nil (λ h. h.promise.code.value ≡ c.args.code)),
                holds,
              ),
            ),
          ),
        ),
      ),
    )

pub start_beside-requires-clause-opened : goal.start_beside-requires-clause-opened
start_beside-requires-clause-opened g c κs within =
    let opens = λ (p : Pass). IsOpened c.args.room.row p in
    let more : c.loop-pass.pass-iterator.rest.items ≡ c.in-Some-pass.pass ∷ c.next.new.self.rest.items = search rules in
    subst (λ (r : Room 4294967295). IsOpened r.row c.in-Some-pass.pass) (sym c.loop-pass.invariant.0)
    (All-head opens c.in-Some-pass.pass c.next.new.self.rest.items (subst (All opens) more c.loop-pass.invariant.1.1.0))

pub start_beside-requires-clause-site : goal.start_beside-requires-clause-site
start_beside-requires-clause-site g c κs within =
    subst (λ (r : Room 4294967295). Some r.row.table.shared.table_id ≡ g.Q.Site.room) (sym c.loop-pass.invariant.0)
    c.requires.site

pub start-requires-clause-opened : goal.start-requires-clause-opened
start-requires-clause-opened g c κs within =
    subst (λ (r : Room 4294967295). IsOpened r.row c.in-Some.last) (sym c.loop-pass.invariant.0)
    c.loop-pass.invariant.1.1.1.0

pub start-requires-clause-site : goal.start-requires-clause-site
start-requires-clause-site g c κs within =
    subst (λ (r : Room 4294967295). Some r.row.table.shared.table_id ≡ g.Q.Site.room) (sym c.loop-pass.invariant.0)
    c.requires.site

pub push_reserved-requires : goal.push_reserved-requires
push_reserved-requires g c =
    let more : c.loop-pass.pass-iterator.rest.items ≡ c.in-Some-pass.pass ∷ c.next.new.self.rest.items = search rules in
    let long : c.loop-pass.threads.len ≡ length c.loop-pass.threads.items = search rules in
    let few = fewer (λ h. h.promise.pass.value) c.loop-pass.threads.items c.in-Some-pass.pass
    (c.loop-pass.pass-iterator.rest.items ++ c.in-Some.last ∷ []) (c.next.new.self.rest.items ++ c.in-Some.last ∷ [])
    c.args.passes.items c.loop-pass.threads.cap (ap (λ ps. ps ++ c.in-Some.last ∷ []) more)
    c.loop-pass.invariant.1.1.1.1.0 c.loop-pass.invariant.1.1.1.1.1.1 in omega arith

pub push_reserved-requires-2 : goal.push_reserved-requires-2
push_reserved-requires-2 g c =
    let over : length c.loop-pass.pass-iterator.rest.items ≡ 0 = search rules in
    let none = nil_from_length c.loop-pass.pass-iterator.rest.items over in
    let long : c.loop-pass.threads.len ≡ length c.loop-pass.threads.items = search rules in
    let few = fewer (λ h. h.promise.pass.value) c.loop-pass.threads.items c.in-Some.last
    (c.loop-pass.pass-iterator.rest.items ++ c.in-Some.last ∷ []) [] c.args.passes.items c.loop-pass.threads.cap
    (ap (λ ps. ps ++ c.in-Some.last ∷ []) none) c.loop-pass.invariant.1.1.1.1.0 c.loop-pass.invariant.1.1.1.1.1.1
    in omega arith

pub loop-pass-preserved : goal.loop-pass-preserved
loop-pass-preserved g c =
    let more : c.loop-pass.pass-iterator.rest.items ≡ c.in-Some-pass.pass ∷ c.next.new.self.rest.items = search rules in
    let is : c.push_reserved.new.self.items ≡ c.loop-pass.threads.items ++ c.in-Ok.thread ∷ [] = search rules in (
      c.loop-pass.invariant.0,
      (
        c.loop-pass.invariant.1.0,
        (
          All-rest (λ (p : Pass). IsOpened c.args.room.row p) c.in-Some-pass.pass c.next.new.self.rest.items
              c.loop-pass.pass-iterator.rest.items more c.loop-pass.invariant.1.1.0,
          (
            c.loop-pass.invariant.1.1.1.0,
            (
              one_more (λ h. h.promise.pass.value) c.loop-pass.threads.items c.push_reserved.new.self.items
                  c.in-Ok.thread c.in-Some-pass.pass (c.loop-pass.pass-iterator.rest.items ++ c.in-Some.last ∷ [])
                  (c.next.new.self.rest.items ++ c.in-Some.last ∷ []) c.args.passes.items is c.in-Ok.ensures.pass
                  (ap (λ ps. ps ++ c.in-Some.last ∷ []) more) c.loop-pass.invariant.1.1.1.1.0,
              (
                All-same (λ h. h.promise.code.value ≡ c.args.code) c.push_reserved.new.self.items
                    (c.loop-pass.threads.items ++ c.in-Ok.thread ∷ []) is
                    (All-push (λ h. h.promise.code.value ≡ c.args.code) c.loop-pass.threads.items c.in-Ok.thread
                    c.loop-pass.invariant.1.1.1.1.1.0 (c.in-Ok.ensures.code ∙ c.loop-pass.invariant.1.0)),
                (let same : c.push_reserved.new.self.cap ≡ c.loop-pass.threads.cap = c.push_reserved.ensures.capacity in
                    let was = c.loop-pass.invariant.1.1.1.1.1.1 in omega arith),
              ),
            ),
          ),
        ),
      ),
    )

pub returns-clause-passes : goal.returns-clause-passes
returns-clause-passes g c =
    let over : length c.loop-pass.pass-iterator.rest.items ≡ 0 = search rules in
    let none = nil_from_length c.loop-pass.pass-iterator.rest.items over in
    let is : c.push_reserved-2.new.self.items ≡ c.loop-pass.threads.items ++ c.in-Ok-start.thread ∷ [] = search rules in
    sym (append-nil (map (λ h. h.promise.pass.value) c.push_reserved-2.new.self.items))
    ∙ one_more (λ h. h.promise.pass.value) c.loop-pass.threads.items c.push_reserved-2.new.self.items
    c.in-Ok-start.thread c.in-Some.last (c.loop-pass.pass-iterator.rest.items ++ c.in-Some.last ∷ []) []
    c.args.passes.items is c.in-Ok-start.ensures.pass (ap (λ ps. ps ++ c.in-Some.last ∷ []) none)
    c.loop-pass.invariant.1.1.1.1.0

pub returns-clause-codes : goal.returns-clause-codes
returns-clause-codes g c =
    let is : c.push_reserved-2.new.self.items ≡ c.loop-pass.threads.items ++ c.in-Ok-start.thread ∷ [] = search rules in
    All-same (λ h. h.promise.code.value ≡ c.args.code) c.push_reserved-2.new.self.items
    (c.loop-pass.threads.items ++ c.in-Ok-start.thread ∷ []) is
    (All-push (λ h. h.promise.code.value ≡ c.args.code) c.loop-pass.threads.items c.in-Ok-start.thread
    c.loop-pass.invariant.1.1.1.1.1.0 (c.in-Ok-start.ensures.code ∙ c.loop-pass.invariant.1.0))
