use Rattle.std.proofs.Common.{◌≡◌, [], ◌∷◌, ◌++◌, Some, refl, subst, sym}
use Rattle.std.proofs.lemmas.List.Elements.{All-pop}
use Rattle.jr_owned.specs.Pools.{IsIdle}
use Rattle.luthrady.proofs.held.Opened.attach.Goals as goal

-- src/attaching.rt
pub returns-in-Ok : goal.returns-in-Ok
returns-in-Ok c =
    let old = c.args.self.now in
    let left = c.pop.new.self.items in
    let placed = c.in-Ok.ensures.placed in
    let all = All-pop (λ e. IsIdle e) old.envs.items left (Some c.in-Some.env) c.in-Some.ensures.items old.idle in (
      placed.0,
      placed.1,
      subst (λ e. IsIdle e) (sym placed.2) all.1,
      subst (λ e. old.envs.items ≡ left ++ e ∷ []) (sym placed.2) c.in-Some.ensures.items,
      refl,
      refl,
      refl,
    )
