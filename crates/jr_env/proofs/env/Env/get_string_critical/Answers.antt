use Rattle.std.proofs.Common.{◌≡◌, ap, refl, rules, sym}
use mathlib.Core.Option.{some}
use Rattle.jr_model.specs.CallPrograms.{get_string_critical}
use Rattle.jr_critical.specs.Levels.{opened_by}
use Rattle.jr_env.specs.Criticals.{env_of, WasOpened}
use Rattle.jr_env.proofs.StandingRegions.{since_over}
use Rattle.jr_env.proofs.env.Env.get_string_critical.Goals as goal

pub returns : goal.returns
returns g c =
    let same : (env_of c.over.result).ghost_name ≡ c.args.self.ghost_name = search rules in
    let opened : WasOpened c.args.self.now c.over.result c.args.string.0 (opened_by (get_string_critical 0)) =
    search rules in (
      (ap some (sym same), (λ w. refl), tt),
      record {
        rests = tt;
        same_reference = same;
        opened = opened;
        region = λ out. since_over c.args.self.now.held _ c.in_ok-levels.levels c.over.result c.over.ensures.env
            c.over.ensures.levels (c.in_ok-levels.ensures.region out);
      },
    )
