use Rattle.luthrady.proofs.Pooling.{in_limits_met, opened_few, opened_idle}
use Rattle.luthrady.proofs.attaching.open_room.Goals as goal

-- src/attaching.rt
pub invariant_of-place-clause-idle : goal.invariant_of-place-clause-idle
invariant_of-place-clause-idle c = opened_idle _ _ c.in_ok-envs.ensures.opened

pub invariant_of-place-clause-few : goal.invariant_of-place-clause-few
invariant_of-place-clause-few c =
    opened_few _ _ c.in_ok-envs.ensures.opened (in_limits_met _ _ _ c.open_envs.ensures.size c.in_ok-envs.was)
