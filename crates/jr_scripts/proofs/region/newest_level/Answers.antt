use Rattle.std.proofs.Common.{rules, ◌∙◌, ◌≡◌, get_or, true, false}
use Rattle.std.specs.Str.{bytes_eq}
use Rattle.jr_scripts.proofs.NewestLevels.{newest_found, newest_kept}
use Rattle.jr_scripts.proofs.region.newest_level.Goals.{then-eq, else-eq}
use Rattle.jr_scripts.proofs.region.newest_level.Goals as goal

pub loop-i-preserved : goal.loop-i-preserved
loop-i-preserved c =
    let here : get_or c.args.names.now.items c.loop-i.i c.level-item.result ≡ c.level-item.result = search rules in
    elim c.if-eq.branch [
      | then-eq w ↦ (let is : bytes_eq c.level-item.result c.args.name.now ≡ true = search rules in w.found-is
          ∙ newest_found c.args.names.now.items c.loop-i.i c.level-item.result c.args.name.now (search rules) here is)
      | else-eq w ↦ (let is : bytes_eq c.level-item.result c.args.name.now ≡ false = search rules in
          w.found-is ∙ newest_kept c.args.names.now.items c.loop-i.i c.level-item.result c.args.name.now (search rules)
          here c.loop-i.found is c.loop-i.invariant)
    ]
