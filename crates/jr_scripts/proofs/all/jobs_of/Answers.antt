use Rattle.std.proofs.Common.{◌≡◌, ◌≤◌, length, rules, arith}
use Rattle.jr_scripts.proofs.JobHandles.{none_left}
use Rattle.jr_scripts.proofs.JobLists.{jobs_end}
use Rattle.jr_scripts.proofs.all.jobs_of.Goals as goal

pub returns-clause-ok : goal.returns-clause-ok
returns-clause-ok c =
    let all : length c.args.parts.now ≤ c.loop-part.part-index = search rules in
    let each = c.loop-part.invariant.each in
    let none : length c.loop-part.passes.items ≡ 0 = omega arith in
    jobs_end c.args.turns c.loop-part.line c.loop-part.part-index c.loop-part.passes.items c.args.passes.items
    c.args.parts.now c.loop-part.jobs.items (none_left c.loop-part.passes.items none) all c.loop-part.invariant.jobs
