use Rattle.std.proofs.Common.{◌≡◌, ◌++◌, ◌∷◌, ◌∙◌, ap, arith, length, vec_capacity, rules}
use Rattle.std.proofs.lemmas.List.{length_push}
use Rattle.jr_threads.proofs.Places.{answers_more, one_on, passes_more, some_rest, still_room}
use Rattle.jr_threads.proofs.closing.Places.parted.Goals as goal

pub push_reserved-requires : goal.push_reserved-requires
push_reserved-requires g c =
    let i = c.loop-place.invariant in
    let more : c.loop-place.place-iterator.rest.items ≡ c.in-Some.place ∷ c.next.new.self.rest.items = search rules in
    let less = some_rest c.args.self.threads.items c.loop-place.yielded c.next.new.self.rest.items c.in-Some.place
    (i.all ∙ ap (λ l. c.loop-place.yielded ++ l) more) in
    let count = i.answered in
    let room = i.for_answers in
    omega arith

pub push_reserved-requires-in-loop-place : goal.push_reserved-requires-in-loop-place
push_reserved-requires-in-loop-place g c =
    let i = c.loop-place.invariant in
    let more : c.loop-place.place-iterator.rest.items ≡ c.in-Some.place ∷ c.next.new.self.rest.items = search rules in
    let less = some_rest c.args.self.threads.items c.loop-place.yielded c.next.new.self.rest.items c.in-Some.place
    (i.all ∙ ap (λ l. c.loop-place.yielded ++ l) more) in
    let count = i.passed in
    let room = i.for_passes in
    omega arith

pub loop-place-preserved : goal.loop-place-preserved
loop-place-preserved g c =
    let i = c.loop-place.invariant in
    let more : c.loop-place.place-iterator.rest.items ≡ c.in-Some.place ∷ c.next.new.self.rest.items = search rules in
    let long = length_push c.loop-place.yielded c.in-Some.place in
    record {
      all = one_on c.args.self.threads.items c.loop-place.yielded c.loop-place.place-iterator.rest.items
          c.next.new.self.rest.items c.in-Some.place i.all more;
      answers = answers_more c.loop-place.yielded c.in-Some.place c.in-Some-ended.field-0 c.in-Some-ended.is
          c.loop-place.answers.items c.push_reserved.new.self.items i.answers (search rules);
      passes = passes_more c.loop-place.yielded c.in-Some.place c.in-Some-ended.field-0 c.in-Some-ended.is
          c.loop-place.passes.items c.push_reserved-in-loop-place.new.self.items i.passes (search rules);
      answered = (let p = c.push_reserved.ensures.len in let r = i.answered in omega arith);
      passed = (let p = c.push_reserved-in-loop-place.ensures.len in let r = i.passed in omega arith);
      for_answers = still_room (length c.args.self.threads.items) (vec_capacity c.loop-place.answers)
          (vec_capacity c.push_reserved.new.self) c.push_reserved.ensures.capacity i.for_answers;
      for_passes = still_room (length c.args.self.threads.items) (vec_capacity c.loop-place.passes) (vec_capacity
          c.push_reserved-in-loop-place.new.self) c.push_reserved-in-loop-place.ensures.capacity i.for_passes;
    }

pub loop-place-preserved-in-Some-ended : goal.loop-place-preserved-in-Some-ended
loop-place-preserved-in-Some-ended g c =
    let i = c.loop-place.invariant in
    let more : c.loop-place.place-iterator.rest.items ≡ c.in-Some.place ∷ c.next.new.self.rest.items = search rules in
    let long = length_push c.loop-place.yielded c.in-Some.place in
    record {
      all = one_on c.args.self.threads.items c.loop-place.yielded c.loop-place.place-iterator.rest.items
          c.next.new.self.rest.items c.in-Some.place i.all more;
      answers = answers_more c.loop-place.yielded c.in-Some.place c.in-Some-ended.field-0 c.in-Some-ended.is
          c.loop-place.answers.items c.push_reserved.new.self.items i.answers (search rules);
      passes = passes_more c.loop-place.yielded c.in-Some.place c.in-Some-ended.field-0 c.in-Some-ended.is
          c.loop-place.passes.items c.push_reserved-in-loop-place.new.self.items i.passes (search rules);
      answered = (let p = c.push_reserved.ensures.len in let r = i.answered in omega arith);
      passed = (let p = c.push_reserved-in-loop-place.ensures.len in let r = i.passed in omega arith);
      for_answers = still_room (length c.args.self.threads.items) (vec_capacity c.loop-place.answers)
          (vec_capacity c.push_reserved.new.self) c.push_reserved.ensures.capacity i.for_answers;
      for_passes = still_room (length c.args.self.threads.items) (vec_capacity c.loop-place.passes) (vec_capacity
          c.push_reserved-in-loop-place.new.self) c.push_reserved-in-loop-place.ensures.capacity i.for_passes;
    }
