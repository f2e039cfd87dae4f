use Rattle.std.proofs.Common.{sym, subst, ap, ◌∙◌, Option, Ok, refl, rules}
use Rattle.std.specs.Global.{Box}
use Rattle.luthrady.specs.declared.held.Native.{Native}
use Rattle.luthrady.specs.Places.{absence, ready_in}
use Rattle.luthrady.specs.Telling.{CountsLocals}
use Rattle.luthrady.proofs.ThroughPointers.{as_it_was, stood, tells_nothing}
use Rattle.luthrady.proofs.telling.local_counts.Goals as goal

-- src/telling.rt
pub returns-in-Critical : goal.returns-in-Critical
returns-in-Critical c =
    let is = sym c.is_env.ensures.value ∙ c.if-not-is_env.false in
    tells_nothing _ _ _ _ is c.is_env.ensures.unchanged c.env_of.ensures.value c.in-Critical.is refl

pub returns-in-Detached : goal.returns-in-Detached
returns-in-Detached c =
    let is = sym c.is_env.ensures.value ∙ c.if-not-is_env.false in
    tells_nothing _ _ _ _ is c.is_env.ensures.unchanged c.env_of.ensures.value c.in-Detached.is refl

pub returns-in-Ready : goal.returns-in-Ready
returns-in-Ready c =
    let is = sym c.is_env.ensures.value ∙ c.if-not-is_env.false in
    let same = c.is_env.ensures.unchanged in
    let lent = c.env_of.ensures.value in (
      as_it_was _ _ _ same lent,
      subst (λ (o : Option (Box Native)). CountsLocals (absence c.args.handle.now) o (Ok c.counted_by.result))
          (sym (stood _ _ _ _ is same lent (ap ready_in c.in-Ready.is))) (search rules),
    )
