-- A critical region that is opened in a stay:
-- it has the stay's end from then on, and gives it back where its levels are given up alone.
use Rattle.std.specs.Prelude.{◌≡◌, ℕ, Ok, Err, length}
use Rattle.jr_word.specs.declared.config.Config.{Config}
use Rattle.jr_word.specs.declared.fault.Fault.{Fault}
use Rattle.jr_model.specs.State.{State}
use Rattle.jr_model.specs.Calls.{Call}
use Rattle.jr_model.specs.Checks.{Word}
use Rattle.jr_frames.specs.declared.held.Held.{Held}
use Rattle.jr_steps.specs.declared.steps.Steps.{Ghosts}
use Rattle.jr_critical.specs.declared.levels.Levels.{Levels}
use Rattle.jr_critical.specs.Levels.{objects_of, OpensWithinOver}
use Rattle.jr_env.specs.declared.critical_region.Region.{Region}
use Rattle.jr_env.specs.declared.stay.Stay.{Stay}
use Rattle.jr_env.specs.Criticals.{frames_of, held_of, levels_of}
use Rattle.jr_env.specs.LentStays.{frames_in, held_in}
use Rattle.jr_env.specs.OpenStays.{StaysOn, StaysSince}
use Rattle.jr_env.specs.StandingRegions.{StandsSince}

module _ {S : Type 0} {G : Ghosts S} where
  -- THE STAY GOES ON WITH THESE LEVELS by this call: since whatever moment the stay stood, a region with them stands
  abbrev pub StaysWith : Held S G → Held S G → Levels → Type 0
  StaysWith old new v = (begun : Held S G) → StaysSince begun old → StandsSince begun new v

  -- THE STAY GOES ON WITHOUT THE LEVELS by this call: since whatever moment a region with them stood, the stay stands
  abbrev pub StaysWithout : Held S G → Held S G → Levels → Type 0
  StaysWithout old new v = (begun : Held S G) → StandsSince begun old v → StaysSince begun new

  -- A REGION WAS OPENED IN A STAY by this call: there is one level, of the object that the call found;
  -- the stay goes on with it, and the frames are as they were
  pub record WasOpenedIn (old : Stay S G) (r : Region S G) (w : ℕ)
      (call : Config → ℕ → ℕ → State → Word → Call ℕ) : Type 0 where
    pub opens : OpensWithinOver (held_in old) (held_of r) w call (Ok (levels_of r))
    pub one : length (objects_of (levels_of r)) ≡ 1
    pub on : StaysWith (held_in old) (held_of r) (levels_of r)
    pub frames : frames_of r ≡ frames_in old

  -- NO REGION WAS OPENED IN A STAY by this call, but it was refused for this;
  -- the stay goes on, and the frames are as they were
  pub record WasNotOpenedIn (old new : Stay S G) (w : ℕ) (call : Config → ℕ → ℕ → State → Word → Call ℕ)
      (e : Fault) : Type 0 where
    pub refuses : OpensWithinOver (held_in old) (held_in new) w call (Err e)
    pub on : StaysOn (held_in old) (held_in new)
    pub frames : frames_in new ≡ frames_in old
