-- What a call under stress did.
use Rattle.std.specs.Prelude.{◌≡◌, ℕ, Bool, true, false, Option, Some, None, Result, Ok, Err}
use Rattle.rand_pcg.specs.Pcg.{pcg32}
use Rattle.jr_word.specs.declared.config.Config.{Config}
use Rattle.jr_word.specs.declared.fault.Fault.{Fault}
use Rattle.jr_word.specs.declared.fault.Fault.TheVariants.{Size}
use Rattle.jr_steps.specs.declared.steps.Steps.{Ghosts}
use Rattle.jr_weak.specs.declared.collecting.Collected.{Collected}
use Rattle.jr_weak.specs.Markers.{room_of}
use Rattle.jr_env.specs.declared.checked.Checked.{Checked}
use Rattle.jr_env.specs.declared.demand.Demand.{Demand}
use Rattle.jr_env.specs.declared.env.Env.{Env}
use Rattle.jr_env.specs.Collections.{collection}
use Rattle.jr_env.specs.Envs.{Does}
use Rattle.jr_stressed.specs.declared.stressed.Stressed.{Stressed}
use Rattle.jr_stressed.specs.Drawing.{next_turns}
use Rattle.jr_stressed.specs.Refusals.{MachineLists, collects_at, refusal_drawn}

-- an env collected with a marker for a room of so many objects: it made a collection, or was refused,
-- where the marker fits its room; and where it doesn't, that was refused, and nothing was done
pub record CollectsWhereItFits {S : Type 0} {G : Ghosts S} (room : ℕ) (old new : Env S G)
    (answer : Result Collected Fault) : Type 0 where
  pub call : room ≡ (G.facts old.held.steps).stands.config.objects → Does old new collection answer
  pub size : ¬ (room ≡ (G.facts old.held.steps).stands.config.objects) → (answer ≡ Err Size) × (new ≡ old)

-- a checked caller collected: the one beneath did, and the watcher was told nothing
pub record CollectsUnwatched {N W : Type 0} (collected : N → N → Result Collected Fault → Type 0)
    (old new : Checked N W) (answer : Result Collected Fault) : Type 0 where
  pub same_reference : new.caller.ghost_name ≡ old.caller.ghost_name
  pub watcher : new.watcher ≡ old.watcher
  pub same_name : new.name ≡ old.name
  pub call : collected old.caller.now new.caller.now answer

-- how a call goes on by the refusal that was drawn for it, if any
abbrev pub drawn_answer : Option Fault → Result (Unit {0}) Fault
drawn_answer None = Ok tt
drawn_answer (Some e) = Err e

module _ {N : Type 0} where
  -- the caller beneath did this, and the stress stands as it stood
  pub record Beneath (did : N → N → Type 0) (old new : Stressed N) : Type 0 where
    pub same_reference : new.caller.ghost_name ≡ old.caller.ghost_name
    pub plan : new.plan ≡ old.plan
    pub marker : new.marker ≡ old.marker
    pub turns : new.turns ≡ old.turns
    pub does : did old.caller.now new.caller.now

  -- with another caller beneath
  abbrev pub over_caller : Stressed N → N → Stressed N
  over_caller s n = record s { caller = record s.caller { now = n } }

module _ {N : Type 0} (collected : ℕ → N → N → Result Collected Fault → Type 0) where
  -- where its turn has come the caller collected, whatever came of it, and else nothing was done
  abbrev pub CollectsFirst : Bool → ℕ → N → N → Type 0
  CollectsFirst true room old new = (answer : Result Collected Fault) × collected room old new answer
  CollectsFirst false room old new = new ≡ old

  -- THE TURN OF A CALL CAME: a word was drawn for it, and the caller collected where that has its turn
  pub record HasItsTurn (old new : Stressed N) : Type 0 where
    pub same_reference : new.caller.ghost_name ≡ old.caller.ghost_name
    pub plan : new.plan ≡ old.plan
    pub room : room_of new.marker ≡ room_of old.marker
    pub turns : new.turns ≡ next_turns old.turns
    pub collects : CollectsFirst (collects_at old.plan.collects_each new.turns.calls) (room_of old.marker)
        old.caller.now new.caller.now

  -- a call behind its turn, which is not refused
  pub record BehindItsTurn (did : N → N → Type 0) (old new : Stressed N) : Type 0 where
    pub mid : Stressed N
    pub turn : HasItsTurn old mid
    pub call : Beneath did mid new

module _ {N : Type 0} (collected : ℕ → N → N → Result Collected Fault → Type 0) (sizes : N → Config) where
  -- A CALL THAT ASKS FOR THIS WAS BEGUN: its turn came, and it goes on, or is refused, as the word says
  pub record WasBegun (old new : Stressed N) (demand : Demand) (answer : Result (Unit {0}) Fault) : Type 0 where
    pub turn : HasItsTurn collected old new
    pub goes_on : answer
        ≡ drawn_answer (refusal_drawn old.plan (sizes new.caller.now) demand (pcg32 old.turns.draws).0)

  -- what was done behind the beginning: what the caller beneath does, or nothing,
  -- and the answer is a refusal that the machine lists
  abbrev pub GoesOn : {A : Type 0} → (N → N → Result A Fault → Type 0) → Stressed N → Stressed N → Demand
      → Result A Fault → Result (Unit {0}) Fault → Type 0
  GoesOn does mid new demand answer (Ok _) = Beneath (λ a b. does a b answer) mid new
  GoesOn does mid new demand answer (Err e) =
      (answer ≡ Err e) × (new ≡ mid) × MachineLists (sizes mid.caller.now) demand e

  -- THIS WAS DONE UNDER STRESS: behind a collection, where that has its turn, the answer is that of the caller beneath;
  -- or it is a refusal that the machine lists of what asks for this, and nothing else was done
  pub record WasStressed {A : Type 0} (does : N → N → Result A Fault → Type 0) (asks : Demand → Type 0)
      (old new : Stressed N) (answer : Result A Fault) : Type 0 where
    pub mid : Stressed N
    pub demand : Demand
    pub asked : asks demand
    pub begun : Result (Unit {0}) Fault
    pub begins : WasBegun old mid demand begun
    pub goes_on : GoesOn does mid new demand answer begun
