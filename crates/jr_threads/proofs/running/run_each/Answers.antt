use Rattle.std.proofs.Common.{◌≡◌, ◌≤◌, ◌∙◌, All, ap, drop, length, rules, subst, sym, vec_capacity}
use Rattle.std.proofs.lemmas.List.{take_at}
use Rattle.std.proofs.lemmas.Slice.Zip.{AllZip-long}
use Rattle.jr_threads.specs.Sites.{answers_in, ended_in, passes_in, ThreadRan, PlacesRan, HasStopped, IsWaiting}
use Rattle.jr_threads.proofs.Passes.{some_left, taken}
use Rattle.jr_threads.proofs.Places.{all_over, all_ran, all_wait}
use Rattle.jr_threads.proofs.running.run_each.Goals as goal

pub run_threads-requires-clause-wait : goal.run_threads-requires-clause-wait
run_threads-requires-clause-wait g c κs lives =
    let same = c.deref_mut.ensures.value ∙ c.in-Ok.ensures.threads in
    subst (λ l. All (λ p. IsWaiting c.args.room.now.row p) l) (sym same)
    (all_wait c.args.room.now.row c.args.passes.items c.requires.opened.each)

pub parted-answers-requires-clause-over : goal.parted-answers-requires-clause-over
parted-answers-requires-clause-over g c =
    let new = c.run_threads.new.places in
    let size : length new ≡ c.in-Ok.places.threads.len = search rules in
    let same = take_at new (drop (length new) c.in-Ok.places.threads.items) c.in-Ok.places.threads.len size in
    subst (λ l. All (λ p. HasStopped p) l) (sym same) (all_over g.N.NativeCode.tells
    (g.N.NativeCode.deed c.args.native.now) c.args.room.now.row c.deref_mut.result.now new c.run_threads.ensures)

pub parted-answers-requires-clause-room : goal.parted-answers-requires-clause-room
parted-answers-requires-clause-room g c =
    let new = c.run_threads.new.places in
    let size : length new ≡ c.in-Ok.places.threads.len = search rules in
    let same = take_at new (drop (length new) c.in-Ok.places.threads.items) c.in-Ok.places.threads.len size in
    let long : length c.in-Ok.places.threads.items ≡ length new = search rules in
    let room = c.in-Ok.ensures.room in
    record {
      no_answers = room.no_answers;
      no_passes = room.no_passes;
      for_answers =
          subst (λ n. n ≤ vec_capacity c.in-Ok.places.answers) (long ∙ ap (λ l. length l) (sym same)) room.for_answers;
      for_passes =
          subst (λ n. n ≤ vec_capacity c.in-Ok.places.passes) (long ∙ ap (λ l. length l) (sym same)) room.for_passes;
    }

pub remove-first-requires : goal.remove-first-requires
remove-first-requires g c =
    let r = c.args.room.now.row in
    let ps = c.args.passes.items in
    let tells = g.N.NativeCode.tells in
    let deed = g.N.NativeCode.deed c.args.native.now in
    let new = c.run_threads.new.places in
    let size : length new ≡ c.in-Ok.places.threads.len = search rules in
    let same = take_at new (drop (length new) c.in-Ok.places.threads.items) c.in-Ok.places.threads.len size in
    let ran = all_ran tells deed r ps new (subst (λ l. PlacesRan tells deed r l new)
    (c.deref_mut.ensures.value ∙ c.in-Ok.ensures.threads) c.run_threads.ensures) in
    let left = c.parted-answers.ensures.passes ∙ ap (λ l. passes_in (ended_in l)) same in
    let many = AllZip-long (ThreadRan tells deed r) ps (ended_in new) ran in
    let some = some_left ps (ended_in new) c.parted-answers.result.1.items left many c.requires.some in
    search rules

pub returns-clause-run : goal.returns-clause-run
returns-clause-run g c =
    let r = c.args.room.now.row in
    let ps = c.args.passes.items in
    let tells = g.N.NativeCode.tells in
    let deed = g.N.NativeCode.deed c.args.native.now in
    let new = c.run_threads.new.places in
    let size : length new ≡ c.in-Ok.places.threads.len = search rules in
    let same = take_at new (drop (length new) c.in-Ok.places.threads.items) c.in-Ok.places.threads.len size in
    let ran = all_ran tells deed r ps new (subst (λ l. PlacesRan tells deed r l new)
    (c.deref_mut.ensures.value ∙ c.in-Ok.ensures.threads) c.run_threads.ensures) in
    let left = c.parted-answers.ensures.passes ∙ ap (λ l. passes_in (ended_in l)) same in
    let many = AllZip-long (ThreadRan tells deed r) ps (ended_in new) ran in
    let some = some_left ps (ended_in new) c.parted-answers.result.1.items left many c.requires.some in
    let is = taken c.parted-answers.result.1.items c.remove-first.new.self.items c.remove-first.result some
    c.remove-first.ensures.value c.remove-first.ensures.items in
    record {
      ended = ended_in new;
      ran = ran;
      answers = c.parted-answers.ensures.answers ∙ ap (λ l. answers_in (ended_in l)) same;
      passes = sym is ∙ left;
    }
