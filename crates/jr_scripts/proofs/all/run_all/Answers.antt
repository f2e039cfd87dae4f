use Rattle.std.proofs.Common.{◌≡◌, ◌++◌, rules}
use Rattle.jr_scripts.specs.AllRuns.{IsRunOfAll}
use Rattle.jr_scripts.proofs.LoneRun.{lone_run}
use Rattle.jr_scripts.proofs.TogetherRun.AllMean.{all_mean}
use Rattle.jr_scripts.proofs.all.run_all.Goals as goal

pub returns-clause-ok : goal.returns-clause-ok
returns-clause-ok g c =
    let text = c.in_ok-text.text.items in
    let grew : c.extend_from_slice.new.self.items ≡ c.args.out.now.items ++ text = search rules in
    let run : IsRunOfAll c.args.turns 4294967295 c.args.script.now text = c.in_ok-text.ensures.ok in
    record {
      text = text;
      grew = grew;
      run = run;
      means = all_mean c.args.turns 4294967295 c.args.script.now text run;
      alone = lone_run c.args.turns 4294967295 c.args.script.now c.args.out.now.items c.extend_from_slice.new.self.items
          text grew run;
    }
