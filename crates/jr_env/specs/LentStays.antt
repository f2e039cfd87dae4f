-- What a stay of an env is, as a value that borrows the env, and what its calls did.
-- That it is one stay of the machine, with no collection in it, the clauses say by the words of `OpenStays`.
use Rattle.std.specs.Prelude.{◌≡◌, Result, Ok, Err, IfErr}
use Rattle.std.specs.Borrow.{Fml, MutBor, RattleType, RestsIfErr}
use Rattle.jr_word.specs.declared.fault.Fault.{Fault}
use Rattle.jr_word.specs.declared.fault.Fault.TheVariants.{Barred}
use Rattle.jr_model.specs.declared.event.Role.TheVariants.{Within}
use Rattle.jr_frames.specs.declared.held.Held.{Held}
use Rattle.jr_frames.specs.Table.{Table}
use Rattle.jr_steps.specs.declared.steps.Steps as steps
use Rattle.jr_env.specs.declared.env.Env.{Env}
use Rattle.jr_env.specs.contracts.env.Env as env
use Rattle.jr_env.specs.declared.stay.Stay.{Stay}
use Rattle.jr_env.specs.Deeds.{Deed}
use Rattle.jr_env.specs.Envs.{IsOutside, WasDone}
use Rattle.jr_env.specs.OpenStays.{BehindExit, Enters, EntersOver, StaysOn, StaysSince}

module _ {S : Type 0} {G : steps.Ghosts S} where
  -- the env that a stay borrows
  abbrev pub env_in : Stay S G → MutBor (Env S G)
  env_in r = r.env

  -- the steps and frames that its env holds
  abbrev pub held_in : Stay S G → Held S G
  held_in r = r.env.now.held

  -- its frames
  abbrev pub frames_in : Stay S G → Table
  frames_in r = (held_in r).frames

  -- A STAY WAS ENTERED, from outside; and the thread is within, and the frames are as they were
  pub record WasEntered (old new : Env S G) : Type 0 where
    pub enters : IsOutside old → EntersOver old.held new.held (Ok tt)
    pub left : BehindExit old.held (λ mid. Enters G.facts mid new.held.steps old.held.frames.frames (Ok tt))
    pub since : IsOutside old → StaysSince old.held new.held
    pub frames : new.held.frames ≡ old.held.frames
    pub within : (G.facts new.held.steps).stands.role ≡ Within

  -- NO STAY WAS ENTERED: the entry was refused by E13, from outside;
  -- and afterwards the thread stands outside, with the frames as they were
  pub record WasBarred (old new : Env S G) (e : Fault) : Type 0 where
    pub fault : e ≡ Barred
    pub enters : IsOutside old → EntersOver old.held new.held (Err e)
    pub left : BehindExit old.held (λ mid. Enters G.facts mid new.held.steps old.held.frames.frames (Err e))
    pub frames : new.held.frames ≡ old.held.frames
    pub outside : IsOutside new

  -- the deed was done in a stay, which goes on
  pub record DoesInside {A : Type 0} (old new : Env S G) (deed : Deed A) (answer : Result A Fault) : Type 0 where
    pub did : WasDone old new deed answer
    pub on : StaysOn old.held new.held

  -- THE STAY'S CALL DID THE DEED, with this answer, and the stay goes on, over the same env
  pub record DoesWithin {A : Type 0} (old new : Stay S G) (deed : Deed A) (answer : Result A Fault) : Type 0 where
    pub same_reference : (env_in new).ghost_name ≡ (env_in old).ghost_name
    pub call : DoesInside (env_in old).now (env_in new).now deed answer

module _ (S : RattleType) (G : steps.Ghosts S.Denot) where
  -- who lent the env gets it back at the stay's end; where none was entered, at once, as the refusal left it
  abbrev pub rests_within : MutBor (Env S.Denot G) → Result (Stay S.Denot G) Fault → Fml
  rests_within old result = RestsIfErr (env.the_row S G) old (λ r. r.env.ghost_name) result (λ new.
      IfErr result (λ e. WasBarred old.now new e))
