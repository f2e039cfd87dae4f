-- A critical region from the moment before its opening on, for whatever was known then:
-- its thread entered and has not left, and no step of a collection comes.
use Rattle.std.specs.Prelude.{[], ◌∷◌}
use Rattle.jr_model.specs.declared.event.Act.TheVariants.{Gate}
use Rattle.jr_model.specs.declared.event.GateAct.TheVariants.{Leave}
use Rattle.jr_model.specs.History.{by}
use Rattle.jr_model.specs.OpenStays.{HasStayed, IsOneStay}
use Rattle.jr_steps.specs.declared.steps.Steps.{Ghosts}
use Rattle.jr_steps.specs.Knowing.{view, Holds, Leads}
use Rattle.jr_frames.specs.declared.held.Held.{Held}
use Rattle.jr_critical.specs.declared.levels.Levels.{Levels}
use Rattle.jr_critical.specs.Levels.{KnowsLevels}

module _ {S : Type 0} {G : Ghosts S} where
  -- A REGION WITH THESE LEVELS STANDS SINCE THEN: whatever was known at the beginning leads to something known
  -- now between which its thread entered, and has not left. So all that was seen since its entry is one stay,
  -- and no event in it, of whatever thread, is a step of a collection. The header of each level is known
  abbrev pub StandsSince : Held S G → Held S G → Levels → Type 0
  StandsSince begun new v = Leads G.facts begun.steps new.steps (Holds begun.frames.frames)
      (λ j k. HasStayed (view j) (view k)) (λ j k. IsOneStay (view j) (view k) [] × KnowsLevels v new.frames.frames k)

  -- THE REGION GOES ON by this call, from these levels to those: since whatever moment it stood, it stands
  abbrev pub StandsOn : Held S G → Held S G → Levels → Levels → Type 0
  StandsOn old new v w = (begun : Held S G) → StandsSince begun old v → StandsSince begun new w

  -- NO COLLECTION DISTURBED what lies since then: whatever was known at the beginning leads to
  -- something known now between which the thread entered, and left by the last event that was seen;
  -- all between is one stay, and no event in it, of whatever thread, is a step of a collection
  abbrev pub WasUndisturbed : Held S G → Held S G → Type 0
  WasUndisturbed begun new = Leads G.facts begun.steps new.steps (Holds begun.frames.frames)
      (λ j k. IsOneStay (view j) (view k) (by j.thread (Gate Leave) ∷ [])) (λ j k. Holds new.frames.frames k)

  -- THE REGION WITH THESE LEVELS ENDED UNDISTURBED by this call: since whatever moment it stood, up to its exit
  abbrev pub EndsUndisturbed : Held S G → Held S G → Levels → Type 0
  EndsUndisturbed old new v = (begun : Held S G) → StandsSince begun old v → WasUndisturbed begun new
