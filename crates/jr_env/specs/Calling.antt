-- For the crate's own functions: how the thread of an env stands when a call begins.
use Rattle.std.specs.Prelude.{◌≡◌, ◌≢◌, false}
use Rattle.jr_model.specs.declared.event.Role.TheVariants.{Knocking, Announcing, Collecting}
use Rattle.jr_steps.specs.Knowing.{Standing}

-- IT CAN MAKE A CALL: its pass is not fresh, and it is neither on its way in, nor announcing
-- that it will collect, nor collecting. So it is outside, or within in a region's stay
pub record CanCall (s : Standing) : Type 0 where
  pub spent : s.fresh ≡ false
  pub not_knocking : s.role ≢ Knocking
  pub not_announcing : s.role ≢ Announcing
  pub not_collecting : s.role ≢ Collecting
