use Rattle.std.proofs.Common.{IfErr, arith, refl, subst, sym}
use Rattle.std.proofs.lemmas.List.Elements.{All-push, All-same}
use Rattle.jr_owned.specs.Pools.{IsIdle}
use Rattle.jr_env.specs.Envs.{IsOutside}
use Rattle.luthrady.specs.declared.held.Native.{Native}
use Rattle.luthrady.specs.Threads.{LeavesSome, WasClosedBy}
use Rattle.luthrady.proofs.Pooling.{ends_beside, ends_last, let_go}
use Rattle.luthrady.proofs.held.Opened.take_back.Goals as goal

-- src/attaching.rt
pub invariant_of-self-clause-idle : goal.invariant_of-self-clause-idle
invariant_of-self-clause-idle c =
    let idle = subst (λ (n : Native). IsIdle n.env) (sym c.into_inner-env.ensures) c.requires.idle in
    All-same (λ e. IsIdle e) _ _ c.push_reserved.ensures.items
    (All-push (λ e. IsIdle e) c.args.self.now.envs.items c.into_inner-env.result.env c.args.self.now.idle idle)

pub returns-then-self-ne0 : goal.returns-then-self-ne0
returns-then-self-ne0 c =
    let some = c.requires.attached in
    (omega arith, refl, refl, let_go _ _ _ _ c.if-not-self.false refl (ends_beside _ _ c.if-self-ne0.true))

pub returns : goal.returns
returns c =
    let some = c.requires.attached in
    let closes = subst (λ (n : Native). IsOutside n.env → WasClosedBy n c.closed.result) c.into_inner-env.ensures
    c.closed.ensures.closed in
    let leaves = subst (λ (n : Native). IsOutside n.env → IfErr c.closed.result (λ e. LeavesSome n.env.held.steps e))
    c.into_inner-env.ensures c.closed.ensures.left in (
      omega arith,
      refl,
      refl,
      let_go _ _ _ _ c.if-not-self.false refl
          (ends_last _ _ _ c.if-self-ne0.false (closes c.requires.idle.outside)
          (leaves c.requires.idle.outside)),
    )
