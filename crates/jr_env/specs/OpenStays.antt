-- A stay that goes on from call to call, from the moment before its entry on, for whatever was known then:
-- its thread entered and has not left, and no step of a collection comes.
use Rattle.std.specs.Prelude.{◌≢◌, Result, Ok, Err, []}
use Rattle.jr_word.specs.declared.fault.Fault.{Fault}
use Rattle.jr_model.specs.declared.event.Role.{Role}
use Rattle.jr_model.specs.declared.event.Role.TheVariants.{Outside, Within}
use Rattle.jr_model.specs.Frames.{Frames}
use Rattle.jr_model.specs.Parts.{enter, leave}
use Rattle.jr_model.specs.OpenStays.{HasStayed, IsOneStay}
use Rattle.jr_steps.specs.declared.steps.Steps.{Ghosts}
use Rattle.jr_steps.specs.declared.known.Known.{Known}
use Rattle.jr_steps.specs.Knowing.{Facts, view, keeps, lets_go, Holds, Leads}
use Rattle.jr_gate.specs.Performing.{IsAsBefore, IsMade, thread_state}
use Rattle.jr_frames.specs.declared.held.Held.{Held}
use Rattle.jr_env.specs.StandingRegions.{WasUndisturbed}

-- where the thread stands behind an entry: within, and outside where it was refused
abbrev pub role_entered : Result (Unit {0}) Fault → Role
role_entered (Ok _) = Within
role_entered (Err e) = Outside

-- the pass holds what it held, and nothing where the entry was refused
abbrev pub HoldsEntered : Result (Unit {0}) Fault → Known → Known → Type 0
HoldsEntered (Ok _) j k = keeps j k
HoldsEntered (Err e) j k = lets_go j k

module _ {S : Type 0} (facts : S → Facts) where
  -- THE GATE WAS ENTERED, or the entry was refused:
  -- for whatever was known something is known from which the thread did just that, by no operation beside its acts
  pub record Enters (old new : S) (f : Frames) (answer : Result (Unit {0}) Fault) : Type 0 where
    pub stands_is : IsAsBefore (record ((facts old).stands) { role = role_entered answer }) (facts new).stands
    pub ran : Leads facts old new (Holds f)
        (λ k k'. IsMade 0 (thread_state (facts old) k f) (thread_state (facts new) k' f) enter answer) (λ j k.
        HoldsEntered answer j k × Holds f k)

  -- THE GATE WAS LEFT, by one operation: the pass holds nothing any more
  pub record Leaves (old new : S) (f : Frames) : Type 0 where
    pub stands_is : IsAsBefore (record ((facts old).stands) { role = Outside }) (facts new).stands
    pub ran : Leads facts old new (Holds f)
        (λ k k'. IsMade 0 (thread_state (facts old) k f) (thread_state (facts new) k' f) leave (Ok tt)) (λ j k.
        lets_go j k × Holds f k)

module _ {S : Type 0} {G : Ghosts S} where
  -- the gate was entered, or the entry was refused
  abbrev pub EntersOver : Held S G → Held S G → Result (Unit {0}) Fault → Type 0
  EntersOver old new answer = Enters G.facts old.steps new.steps old.frames.frames answer

  -- the gate was left
  abbrev pub LeavesOver : Held S G → Held S G → Type 0
  LeavesOver old new = Leaves G.facts old.steps new.steps old.frames.frames

  -- where the thread stood in a stay that a region left, it made the exit, and from behind that this was done
  abbrev pub BehindExit : Held S G → (S → Type 0) → Type 0
  BehindExit old done =
      (G.facts old.steps).stands.role ≢ Outside → (mid : S) × Leaves G.facts old.steps mid old.frames.frames × done mid

  -- A STAY STANDS SINCE THEN: whatever was known at the beginning leads to something known
  -- now between which its thread entered, and has not left. So all that was seen since its
  -- entry is one stay, and no event in it, of whatever thread, is a step of a collection
  abbrev pub StaysSince : Held S G → Held S G → Type 0
  StaysSince begun new = Leads G.facts begun.steps new.steps (Holds begun.frames.frames)
      (λ j k. HasStayed (view j) (view k)) (λ j k. IsOneStay (view j) (view k) [] × Holds new.frames.frames k)

  -- THE STAY GOES ON by this call: since whatever moment it stood, it stands
  abbrev pub StaysOn : Held S G → Held S G → Type 0
  StaysOn old new = (begun : Held S G) → StaysSince begun old → StaysSince begun new

  -- THE STAY ENDED by this call with no collection in it: since whatever moment it stood, up to its exit
  abbrev pub EndsAsOneStay : Held S G → Held S G → Type 0
  EndsAsOneStay old new = (begun : Held S G) → StaysSince begun old → WasUndisturbed begun new
