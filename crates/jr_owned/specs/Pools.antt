-- A pool of envs, for threads that come and go.
use Rattle.std.specs.Prelude.{◌≡◌, ℕ, Option, Some, [], ◌∷◌, Ok}
use Rattle.atomic_table.specs.Seated.{TableId}
use Rattle.jr_model.specs.declared.summary.Summary.{Summary}
use Rattle.jr_steps.specs.declared.steps.Steps.{Ghosts}
use Rattle.jr_rule.specs.declared.closing.Left.{Left}
use Rattle.jr_rule.specs.Passes.{Closes, Holder}
use Rattle.jr_rule.specs.Rule.{stepping_pass}
use Rattle.jr_env.specs.declared.env.Env.{Env}
use Rattle.jr_env.specs.declared.patience.Patience.{Patience}
use Rattle.jr_env.specs.Deeds.{free_locals}
use Rattle.jr_env.specs.Envs.{Does, IsOutside}
use Rattle.jr_env.specs.Tries.{made_again}
use Rattle.jr_threads.specs.Closing.{ClosesCollected}
use Rattle.jr_owned.specs.Owners.{IsLeftByOwner, IsLeftCollecting}

-- AN ENV IS IDLE: its thread stands outside, and has no local reference, in one base frame
pub record IsIdle {S : Type 0} {G : Ghosts S} (env : Env S G) : Type 0 where
  pub outside : IsOutside env
  pub frames : env.held.frames.frames.frames ≡ [] ∷ []

-- ALL LOCAL REFERENCES WERE FREED, within the patience, and the env that was left is idle
pub record FreesLocals {S : Type 0} {G : Ghosts S} (env : Env S G) (p : Patience) : Type 0 where
  pub left : Env S G
  pub freed : Does env left (made_again p.waits_for_room p.more free_locals) (Ok tt)
  pub idle : IsIdle left

-- THE SITE'S ROOM IS CLOSED, by an owner of it
pub record ClosesAt (site : Option TableId) (s : Summary) : Type 0 where
  pub owner : Holder
  pub site_is : Some owner.seat.table_id ≡ site
  pub closes : Closes (stepping_pass owner.seat.me) s

-- THE SITE'S ROOM WAS NOT CLOSED by its last owner: it is handed back as it was
pub record IsLeftAt (site : Option TableId) (l : Left 4294967295) : Type 0 where
  pub site_is : Some l.room.row.table.shared.table_id ≡ site
  pub owner : Holder
  pub left : IsLeftByOwner l.room owner l

-- THE SITE'S ROOM IS CLOSED, by an owner of it who had collected
pub record ClosesCollectedAt (site : Option TableId) (s : Summary) : Type 0 where
  pub owner : Holder
  pub site_is : Some owner.seat.table_id ≡ site
  pub closes : ClosesCollected (stepping_pass owner.seat.me) s

-- THE SITE'S ROOM WAS NOT CLOSED by its last owner, who was to collect first, with a marker for so many objects
pub record IsLeftCollectingAt (site : Option TableId) (fits : ℕ) (l : Left 4294967295) : Type 0 where
  pub site_is : Some l.room.row.table.shared.table_id ≡ site
  pub owner : Holder
  pub left : IsLeftCollecting fits l.room owner l
