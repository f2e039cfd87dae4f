-- Envs that are idle: those that were opened, and one whose local references were freed.
use Rattle.std.proofs.Common.{◌≡◌, ⊎_elim, ℕ, Bool, List, [], ◌∷◌, Result, Ok, Err}
use Rattle.std.proofs.Common.{sym, ap, ◌∙◌, subst, Option, Some, None, IfOk, IfErr, IfSome}
use Rattle.std.proofs.Math.Logic.{∥∥₁_elim}
use Rattle.std.proofs.Props.{props}
use Rattle.atomic_table.specs.Seated.{TableId}
use Rattle.jr_word.specs.declared.fault.Fault.{Fault}
use Rattle.jr_word.specs.declared.fault.Fault.TheVariants.{Barred}
use Rattle.jr_model.specs.declared.event.Act.{Act}
use Rattle.jr_model.specs.Frames.{Frames}
use Rattle.jr_model.specs.Calls.{entered}
use Rattle.jr_model.specs.References.{freeing}
use Rattle.jr_steps.specs.declared.steps.Steps.{Ghosts}
use Rattle.jr_steps.specs.Knowing.{Standing}
use Rattle.jr_rule.specs.declared.closing.Left.{Left}
use Rattle.jr_rule.specs.declared.room.Room.{Room}
use Rattle.jr_rule.specs.Passes.{Holder}
use Rattle.jr_env.specs.declared.env.Env.{Env}
use Rattle.jr_env.specs.declared.patience.Patience.{Patience}
use Rattle.jr_env.specs.Deeds.{free_locals}
use Rattle.jr_env.specs.Envs.{Does}
use Rattle.jr_env.specs.Tries.{made_again}
use Rattle.jr_env.proofs.EnvCalls.{outside_or}
use Rattle.jr_env.proofs.MadeAgain.{tries_last}
use Rattle.jr_owned.specs.Listing.{IsLeftListing, IsLeftListingAt}
use Rattle.jr_owned.specs.Owners.{IsEnvOver, IsLeftByOwner, IsLeftCollecting}
use Rattle.jr_owned.specs.Pools.{FreesLocals, IsIdle, IsLeftAt, IsLeftCollectingAt}

freed_frames : (old new : Frames) (acts : List Act) → entered freeing old acts (Ok tt) new → new.frames ≡ [] ∷ []
freed_frames old new acts d = ⊎_elim
    (λ x. let no : ◌≡◌ {A = Result (Unit {0}) Fault} (Ok tt) (Err Barred) = x.1 in absurd cc)
    (λ x. ap (λ (f : Frames). f.frames) x.2.2) d

module _ {S : Type 0} {G : Ghosts S} where
  idle_freed : (old new : Env S G) (waits : Bool) (n : ℕ) → Does old new (made_again waits n free_locals) (Ok tt)
      → IsIdle new
  idle_freed old new waits n d = record {
    outside = d.outside;
    frames = ∥∥₁_elim old.held.own.agrees (hlevel props) (λ k. ⊎_elim
        (λ out. let x = (d.does out).did k.0 k.1 k.2 in
        let last = tries_last x.3 in
        freed_frames last.0.frames new.held.frames.frames last.1.0.ran.acts last.1.0.ran.is)
        (λ no. let x = (d.left no).did k.0 k.1 k.2 in
        let last = tries_last x.3.2 in
        freed_frames last.0.frames new.held.frames.frames last.1.0.ran.acts last.1.0.ran.is)
        (outside_or (G.facts old.held.steps).stands.role));
  }

  -- what the tries did of an env that was lent to them
  pub did_lent : (own lent new : Env S G) (p : Patience) (once answer : Result (Unit {0}) Fault) → lent ≡ own
      → once ≡ answer → Does lent new (made_again p.waits_for_room p.more free_locals) once
      → Does own new (made_again p.waits_for_room p.more free_locals) answer
  did_lent own lent new p once answer same is d =
      subst (λ (e : Env S G). Does e new (made_again p.waits_for_room p.more free_locals) answer) same
      (subst (λ r. Does lent new (made_again p.waits_for_room p.more free_locals) r) is d)

  -- once its local references were freed it is idle
  pub idle_lent : (own lent new : Env S G) (p : Patience) (once : Result (Unit {0}) Fault) → lent ≡ own → once ≡ Ok tt
      → Does lent new (made_again p.waits_for_room p.more free_locals) once → IsIdle new
  idle_lent own lent new p once same is d =
      idle_freed own new p.waits_for_room p.more (did_lent own lent new p once (Ok tt) same is d)

  pub freed_lent : (own lent new : Env S G) (p : Patience) (once : Result (Unit {0}) Fault) → lent ≡ own
      → once ≡ Ok tt → Does lent new (made_again p.waits_for_room p.more free_locals) once → FreesLocals own p
  freed_lent own lent new p once same is d = record {
    left = new;
    freed = did_lent own lent new p once (Ok tt) same is d;
    idle = idle_lent own lent new p once same is d;
  }

  -- an env over fresh steps is idle
  pub idle_over : (s : S) (env : Env S G) → IsEnvOver s env → IsIdle env
  idle_over s env over =
      record { outside = over.outside; frames = ap (λ (f : Frames). f.frames) over.frames }

-- what holds of each summary, and of each room that was not closed
pub if_closed : {X L : Type 0} {W V : X → Type 0} → ((x : X) → W x → V x) → (r : Result (Option X) L)
    → IfOk r (λ o. IfSome o W) → IfOk r (λ o. IfSome o V)
if_closed f (Ok (Some s)) w = f s w
if_closed f (Ok None) w = tt
if_closed f (Err l) w = tt

pub if_left : {X L : Type 0} {W V : L → Type 0} → ((l : L) → W l → V l) → (r : Result (Option X) L) → IfErr r W
    → IfErr r V
if_left f (Ok o) w = tt
if_left f (Err l) w = f l w

-- an owner of the site's room was its last
pub left_at : (site : Option TableId) (owner : Holder) (r : Room 4294967295) (l : Left 4294967295)
    → Some owner.seat.table_id ≡ site → IsLeftByOwner r owner l → IsLeftAt site l
left_at site owner r l at d = record {
  site_is = ap (λ (z : Room 4294967295). Some z.row.table.shared.table_id) d.same
      ∙ (ap (λ t. Some t) (sym d.of_room.row) ∙ (ap (λ (s : Standing). s.room) d.took.stands_is ∙ at));
  owner = owner;
  left = subst (λ (z : Room 4294967295). IsLeftByOwner z owner l) (sym d.same) d;
}

-- and where he was to collect first
pub left_collecting_at : (site : Option TableId) (owner : Holder) (fits : ℕ) (r : Room 4294967295) (l : Left 4294967295)
    → Some r.row.table.shared.table_id ≡ site → IsLeftCollecting fits r owner l → IsLeftCollectingAt site fits l
left_collecting_at site owner fits r l at d = record {
  site_is = ap (λ (z : Room 4294967295). Some z.row.table.shared.table_id) d.same ∙ at;
  owner = owner;
  left = subst (λ (z : Room 4294967295). IsLeftCollecting fits z owner l) (sym d.same) d;
}

-- and where he was to take a dump, too
pub left_listing_at : (site : Option TableId) (owner : Holder) (fits : ℕ) (r : Room 4294967295) (l : Left 4294967295)
    → Some r.row.table.shared.table_id ≡ site → IsLeftListing fits r owner l → IsLeftListingAt site fits l
left_listing_at site owner fits r l at d = record {
  site_is = ap (λ (z : Room 4294967295). Some z.row.table.shared.table_id) d.same ∙ at;
  owner = owner;
  left = subst (λ (z : Room 4294967295). IsLeftListing fits z owner l) (sym d.same) d;
}
