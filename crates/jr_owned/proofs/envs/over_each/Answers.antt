use Rattle.std.proofs.Common.{◌≡◌, ◌++◌, ◌∷◌, [], rules}
use Rattle.jr_owned.proofs.Owners.{env_more}
use Rattle.jr_owned.proofs.envs.over_each.Goals as goal

pub loop-steps-preserved : goal.loop-steps-preserved
loop-steps-preserved g c =
    let is : c.push.new.self.items ≡ c.loop-steps.envs.items ++ c.env_over.result ∷ [] = search rules in
    env_more c.loop-steps.yielded c.loop-steps.envs.items c.push.new.self.items c.in-Some.steps c.env_over.result is
    c.loop-steps.invariant c.env_over.ensures
