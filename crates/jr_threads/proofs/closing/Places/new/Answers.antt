use Rattle.std.proofs.Common.{◌≡◌, ◌++◌, ◌∷◌, ◌∙◌, ap, arith, length, map, rules, sym}
use Rattle.std.proofs.lemmas.List.{length_push}
use Rattle.jr_threads.specs.Sites.{waiting_at}
use Rattle.jr_threads.proofs.Places.{as_many, none_on, one_on, some_rest, wait_more}
use Rattle.jr_threads.proofs.closing.Places.new.Goals as goal

pub push_reserved-requires : goal.push_reserved-requires
push_reserved-requires g c =
    let i = c.loop-pass.invariant in
    let more : c.loop-pass.pass-iterator.rest.items ≡ c.in-Some.pass ∷ c.next.new.self.rest.items = search rules in
    let less = some_rest c.args.passes.items c.loop-pass.yielded c.next.new.self.rest.items c.in-Some.pass (i.all
    ∙ ap (λ l. c.loop-pass.yielded ++ l) more) in
    let all : length c.args.passes.items ≡ c.len-count.result = search rules in
    let count = i.count in
    let room = i.room in
    omega arith

pub loop-pass-preserved : goal.loop-pass-preserved
loop-pass-preserved g c =
    let i = c.loop-pass.invariant in
    let more : c.loop-pass.pass-iterator.rest.items ≡ c.in-Some.pass ∷ c.next.new.self.rest.items = search rules in
    record {
      all = one_on c.args.passes.items c.loop-pass.yielded c.loop-pass.pass-iterator.rest.items
          c.next.new.self.rest.items c.in-Some.pass i.all more;
      threads = wait_more c.loop-pass.yielded c.in-Some.pass c.loop-pass.threads.items c.push_reserved.new.self.items
          i.threads c.push_reserved.ensures.items;
      count = (let p = c.push_reserved.ensures.len in let q = length_push c.loop-pass.yielded c.in-Some.pass in
          let r = i.count in omega arith);
      room = c.push_reserved.ensures.capacity ∙ i.room;
    }

pub returns : goal.returns
returns g c =
    let i = c.loop-pass.invariant in
    let none : length c.loop-pass.pass-iterator.rest.items ≡ 0 = search rules in
    let all = none_on c.args.passes.items c.loop-pass.yielded c.loop-pass.pass-iterator.rest.items i.all none in
    let count : length c.args.passes.items ≡ c.len-count.result = search rules in
    let many = as_many c.loop-pass.yielded c.loop-pass.threads.items i.threads in
    let same = ap (λ l. length l) all in
    record {
      threads = i.threads ∙ ap (λ l. map waiting_at l) (sym all);
      room = record {
        no_answers = c.in_ok-answers.ensures.items;
        no_passes = c.in_ok-left.ensures.items;
        for_answers = (let room = c.in_ok-answers.ensures.exact in omega arith);
        for_passes = (let room = c.in_ok-left.ensures.exact in omega arith);
      };
    }
