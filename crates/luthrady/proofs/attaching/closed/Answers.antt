use Rattle.std.proofs.Common.{refl, subst}
use Rattle.std.specs.Arc.{arc_value}
use Rattle.jr_owned.specs.Owners.{IsLeftByOwner, owner_of}
use Rattle.luthrady.proofs.attaching.closed.Goals as goal

-- src/attaching.rt
pub returns-in-Err-clause-left : goal.returns-in-Err-clause-left
returns-in-Err-clause-left c out = (
  c.in-Err.left,
  refl,
  subst (λ s. IsLeftByOwner (arc_value s.cells.room) (owner_of s) c.in-Err.left)
      (c.into_pass.ensures.steps out) c.in-Err.ensures.left,
)
