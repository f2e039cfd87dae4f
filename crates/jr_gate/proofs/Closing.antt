-- What a step that shuts the gate shows, and one that is refused it.
use Rattle.std.proofs.Common.{◌≤◌, ℕ, [], ◌∷◌, ◌++◌, ap, subst}
use Rattle.std.proofs.Math.Bridge.{le_prop}
use Rattle.std.proofs.Math.Logic.{∥∥₁_elim, ∥∥₁_map}
use Rattle.jr_model.specs.declared.event.Act.TheVariants.{Gate, ShutBusy}
use Rattle.jr_model.specs.declared.event.GateAct.TheVariants.{Shut}
use Rattle.jr_model.specs.History.{by, IsLegal}
use Rattle.jr_model.proofs.Histories.{legal_push}
use Rattle.jr_steps.specs.declared.known.Holdings.{Holdings}
use Rattle.jr_steps.specs.declared.known.Known.{Known}
use Rattle.jr_steps.proofs.StepFacts.{shut_closed}
use Rattle.jr_steps.specs.Knowing.{Facts, anything, keeps, lets_go, Goes, IsClosedNow, CanReopen, MayKnow, Took}

-- who is refused a shut was told of one thread at least
counted : {k k' : Known} (n : ℕ) → Goes k (ShutBusy n ∷ []) k' → 1 ≤ n
counted {k} {k'} n g =
    let legal = (legal_push k.config k.last (k.seen ++ g.between) (by k.thread (ShutBusy n))).0
    (subst (IsLegal k.config k.last) g.seen g.legal) in
    legal.1.1.2

module _ {S : Type 0} {facts : S → Facts} {old new : S} (some : MayKnow facts old anything) where
  pub busy_counts : (n : ℕ) → Took facts old new (ShutBusy n ∷ []) anything keeps → 1 ≤ n
  busy_counts n t =
      let each : ((k : Known) × (facts old).knows k × anything k) → 1 ≤ n = λ k. counted n (t.goes k.0 k.1 tt).2 in
      ∥∥₁_elim some le_prop each

  pub shut_closes : Took facts old new (Gate Shut ∷ []) anything lets_go → MayKnow facts new CanReopen
  shut_closes t = ∥∥₁_map some (λ k. let g = t.goes k.0 k.1 tt in
      (g.0, g.1, (shut_closed g.2, ap (λ (z : Holdings). z.moving) g.3)))

module _ {S : Type 0} {facts : S → Facts} {old new : S} where
  pub shut_shows : Took facts old new (Gate Shut ∷ []) anything lets_go
      → Took facts old new (Gate Shut ∷ []) anything (λ j k. IsClosedNow k × lets_go j k)
  shut_shows t = record {
    stands_is = t.stands_is;
    hint_is = t.hint_is;
    goes = λ k s m. let g = t.goes k s m in (g.0, g.1, g.2, (shut_closed g.2, g.3));
  }
