use Rattle.jr_owned.proofs.envs.env_over.Goals as goal

pub returns : goal.returns
returns g c =
    record { spent = c.in-Ok.ensures.steps; outside = c.in-Ok.ensures.outside; frames = c.in-Ok.ensures.frames }
