-- What a critical region of an env is, and what the calls that open and end it leave, as a value that
-- borrows the env (`Region`) or as levels beside it (`HasEntered`). That its calls make one region of
-- the machine, undisturbed up to its end, the clauses of each say by the words of `StandingRegions`.
use Rattle.std.specs.Prelude.{◌≡◌, ◌<◌, ◌≤◌, ℕ, Option, None, Result, Ok, Err, IfErr, length}
use Rattle.std.specs.Borrow.{Fml, MutBor, RattleType, RestsIfErr, RestsIfNone}
use Rattle.jr_word.specs.declared.config.Config.{Config}
use Rattle.jr_word.specs.declared.fault.Fault.{Fault}
use Rattle.jr_word.specs.declared.fault.Fault.TheVariants.{Stale}
use Rattle.jr_model.specs.declared.event.Role.TheVariants.{Within}
use Rattle.jr_model.specs.State.{State}
use Rattle.jr_model.specs.Calls.{Call}
use Rattle.jr_model.specs.Checks.{Word}
use Rattle.jr_frames.specs.declared.held.Held.{Held}
use Rattle.jr_frames.specs.Table.{Table}
use Rattle.jr_steps.specs.declared.steps.Steps as steps
use Rattle.jr_critical.specs.declared.levels.Levels.{Levels}
use Rattle.jr_critical.specs.Levels.{objects_of, GivesUpAllOver, GivesUpLastOver, LeavesBefore, Opens, OpensOver}
use Rattle.jr_critical.specs.Levels.{StandOver}
use Rattle.jr_env.specs.declared.env.Env.{Env}
use Rattle.jr_env.specs.contracts.env.Env as env
use Rattle.jr_env.specs.declared.critical_region.Region.{Region}
use Rattle.jr_env.specs.Envs.{IsOutside}
use Rattle.jr_env.specs.OpenStays.{BehindExit}
use Rattle.jr_env.specs.StandingRegions.{EndsUndisturbed}

module _ {S : Type 0} {G : steps.Ghosts S} where
  -- the env that a region borrows
  abbrev pub env_of : Region S G → MutBor (Env S G)
  env_of r = r.env

  -- its levels
  abbrev pub levels_of : Region S G → Levels
  levels_of r = r.levels

  -- the steps and frames that its env holds
  abbrev pub held_of : Region S G → Held S G
  held_of r = r.env.now.held

  -- its steps
  abbrev pub steps_of : Region S G → S
  steps_of r = (held_of r).steps

  -- its frames
  abbrev pub frames_of : Region S G → Table
  frames_of r = (held_of r).frames

  -- A REGION WAS OPENED by this call, from outside: there is one level, of the object that the call found;
  -- and the thread is within, and the frames are as they were
  pub record WasOpened (old : Env S G) (r : Region S G) (w : ℕ)
      (call : Config → ℕ → ℕ → State → Word → Call ℕ) : Type 0 where
    pub opens : IsOutside old → OpensOver old.held (held_of r) w call (Ok (levels_of r))
    pub left : BehindExit old.held (λ mid.
        Opens G.facts mid (steps_of r) old.held.frames.frames w call (Ok (levels_of r)))
    pub one : length (objects_of (levels_of r)) ≡ 1
    pub frames : frames_of r ≡ old.held.frames
    pub within : (G.facts (steps_of r)).stands.role ≡ Within

  -- THESE LEVELS WERE ENTERED by this call, from outside: there is one, of the object that the call found;
  -- and they stand over the env, whose thread is within, and the frames are as they were
  pub record HasEntered (old new : Env S G) (v : Levels) (w : ℕ)
      (call : Config → ℕ → ℕ → State → Word → Call ℕ) : Type 0 where
    pub opens : IsOutside old → OpensOver old.held new.held w call (Ok v)
    pub left : BehindExit old.held (λ mid. Opens G.facts mid new.held.steps old.held.frames.frames w call (Ok v))
    pub one : length (objects_of v) ≡ 1
    pub frames : new.held.frames ≡ old.held.frames
    pub stand : StandOver v new.held

  -- NO REGION WAS OPENED by this call, but it was refused for this, from outside;
  -- and afterwards the thread stands outside, with the frames as they were
  pub record WasRefused (old new : Env S G) (w : ℕ) (call : Config → ℕ → ℕ → State → Word → Call ℕ)
      (e : Fault) : Type 0 where
    pub refuses : IsOutside old → OpensOver old.held new.held w call (Err e)
    pub left : BehindExit old.held (λ mid. Opens G.facts mid new.held.steps old.held.frames.frames w call (Err e))
    pub frames : new.held.frames ≡ old.held.frames
    pub outside : IsOutside new

  -- A CALL AT THE LEVEL OF THIS NUMBER did this, if the level stands;
  -- and if it does not, the call was refused with E2, and the env is as it was
  pub record AtLevel {A : Type 0} (old new : Region S G) (level : ℕ) (answer : Result A Fault)
      (call : Type 0) : Type 0 where
    pub missing : length (objects_of (levels_of old)) ≤ level
        → (answer ≡ Err Stale) × ((env_of new).now ≡ (env_of old).now)
    pub did : level < length (objects_of (levels_of old)) → call

  -- THE REGION ENDED with its only level: its thread left the gate and stands outside,
  -- with the frames as they were, and no collection disturbed the region since its entry
  pub record HasEnded (r : Region S G) (new : Env S G) : Type 0 where
    pub call : GivesUpLastOver (held_of r) new.held (levels_of r) None
    pub last : LeavesBefore (levels_of r) None
    pub undisturbed : EndsUndisturbed (held_of r) new.held (levels_of r)
    pub frames : new.held.frames ≡ frames_of r
    pub outside : IsOutside new

  -- THE REGION ENDED with all its levels, and the env was handed back to who lent it: its thread left the gate and
  -- stands outside, with the frames as they were, and no collection disturbed the region since its entry
  pub record EndedWhole (r : Region S G) (lent : MutBor (Env S G)) : Type 0 where
    pub same_reference : lent.ghost_name ≡ (env_of r).ghost_name
    pub call : GivesUpAllOver (held_of r) lent.now.held (levels_of r)
    pub undisturbed : EndsUndisturbed (held_of r) lent.now.held (levels_of r)
    pub frames : lent.now.held.frames ≡ frames_of r
    pub outside : IsOutside lent.now

module _ (S : RattleType) (G : steps.Ghosts S.Denot) where
  -- who lent the env gets it back at the region's end; where none was opened, at once, as the refusal left it
  abbrev pub rests_in : ℕ → (Config → ℕ → ℕ → State → Word → Call ℕ) → MutBor (Env S.Denot G)
      → Result (Region S.Denot G) Fault → Fml
  rests_in w call old result = RestsIfErr (env.the_row S G) old (λ r. r.env.ghost_name) result (λ new.
      IfErr result (λ e. WasRefused old.now new w call e))

  -- who lent the env gets it back at the end of the region that is left;
  -- where none is, at once, as the region's end left it
  abbrev pub rests_in_left : Region S.Denot G → Option (Region S.Denot G) → Fml
  rests_in_left r result = RestsIfNone (env.the_row S G) r.env (λ left. left.env.ghost_name) result (HasEnded r)
