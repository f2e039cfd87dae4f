use Rattle.std.proofs.Common.{◌≡◌, ◌++◌, [], ◌∷◌, rules}
use Rattle.std.proofs.lemmas.List.Elements.{All-push, All-rest, All-same}
use Rattle.jr_scripts.specs.Jobs.{IsFor}
use Rattle.jr_scripts.proofs.JobHandles.{Thread, all_done, all_over, given_more, taken}
use Rattle.jr_scripts.proofs.starting.run_jobs.Goals as goal

pub loop-alloc-preserved : goal.loop-alloc-preserved
loop-alloc-preserved g c =
    let more : c.push_reserved.new.self.items ≡ c.loop-alloc.handles.items ++ c.in-Some.handle ∷ [] = search rules in
    let is = taken c.loop-alloc.jobs.items c.remove-job.new.self.items c.remove-job.result (search rules)
    c.remove-job.ensures.value c.remove-job.ensures.items in
    record {
      all = given_more c.loop-alloc.handles.items c.push_reserved.new.self.items c.in-Some.handle
          c.loop-alloc.jobs.items c.remove-job.new.self.items c.args.jobs.items c.remove-job.result more is
          c.in-Some.ensures.given c.loop-alloc.invariant.all;
      at = All-rest (IsFor c.args.room.now.row) c.remove-job.result c.remove-job.new.self.items c.loop-alloc.jobs.items
          is c.loop-alloc.invariant.at;
      over = All-same (λ (h : Thread _). h.promise.board.now ≡ c.args.board.now) _ _ more
          (All-push (λ (h : Thread _). h.promise.board.now ≡ c.args.board.now) c.loop-alloc.handles.items
          c.in-Some.handle c.loop-alloc.invariant.over c.in-Some.ensures.over);
    }

pub returns-in-Ok : goal.returns-in-Ok
returns-in-Ok g c = record {
  each = all_done _ (λ p r h. h.0) c.loop-alloc.handles.items c.in-Ok.runs.items c.loop-alloc.jobs.items _ _
      (search rules) (search rules) c.in-Ok.ensures.each (search rules) c.loop-alloc.invariant.all;
  over = all_over _ (λ p r h. h.1) c.args.board.now c.loop-alloc.handles.items c.in-Ok.runs.items _ (search rules)
      (search rules) c.in-Ok.ensures.each c.loop-alloc.invariant.over;
}
