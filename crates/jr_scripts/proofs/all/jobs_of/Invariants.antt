use Rattle.std.proofs.Common.{◌≡◌, ◌+◌, ◌++◌, List, drop, length}
use Rattle.jr_scripts.specs.declared.part.Job.{Job}
use Rattle.jr_scripts.specs.AllRuns.{lines_of_parts}
use Rattle.jr_scripts.specs.Jobs.{AreJobsOf}
use Rattle.jr_scripts.proofs.all.jobs_of.Given as goal

-- a pass is left for each part that is left, and the lines so far and theirs are all lines;
-- and whatever jobs the rest of the parts are, with the rest of the passes: those so far and they are the jobs of all
abbrev pub invariant-loop-part : goal.invariant-loop-part
invariant-loop-part l = record {
  each : length l.passes.items + l.part-index ≡ length l.parts;
  lines : l.line + lines_of_parts (drop l.part-index l.parts) ≡ 2 + lines_of_parts l.parts;
  jobs : (js : List Job) → AreJobsOf l.turns l.line l.passes.items (drop l.part-index l.parts) js
      → AreJobsOf l.turns 2 l.fn.passes.items l.parts (l.jobs.items ++ js);
}
