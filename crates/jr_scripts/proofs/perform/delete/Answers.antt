use Rattle.std.proofs.Common.{inl, inr}
use Rattle.jr_model.specs.Checks.{Nothing}
use Rattle.jr_env.proofs.Carrying.{did_more}
use Rattle.jr_scripts.proofs.CommandDeeds.{does_delete}
use Rattle.jr_scripts.proofs.perform.delete.Goals as goal

pub returns-in-Local : goal.returns-in-Local
returns-in-Local g c = does_delete _ _ c.in-Parts.parts _ c.in-Parts.ensures.reads c.in-Local.is c.ask-in-Local.ensures

pub returns-in-Global : goal.returns-in-Global
returns-in-Global g c =
    does_delete _ _ c.in-Parts.parts _ c.in-Parts.ensures.reads c.in-Global.is c.ask-in-Global.ensures

pub returns-in-Weak : goal.returns-in-Weak
returns-in-Weak g c = does_delete _ _ c.in-Parts.parts _ c.in-Parts.ensures.reads c.in-Weak.is c.ask-in-Weak.ensures

pub returns-in-Null : goal.returns-in-Null
returns-in-Null g c = did_more (λ p q d.
    elim d [
      | inl x ↦ inl (x.0, x.1, (Nothing, c.in-Null.ensures.reads, x.2), x.3)
      | inr y ↦ inr (y.0, y.1, (Nothing, c.in-Null.ensures.reads, y.2))
    ]) c.ask.ensures
