-- Steps of a thread that owns its room together with others.
use Rattle.std.specs.Prelude.{◌≡◌, ◌⊎◌, ◌≤◌, ℕ, true, List, [], ◌∷◌, map}
use Rattle.std.specs.Arc.{arc_value}
use Rattle.std.specs.List.{All, AllZip}
use Rattle.jr_word.specs.declared.config.Config.{Config}
use Rattle.jr_word.specs.declared.fault.Fault.TheVariants.{LeftInside}
use Rattle.jr_model.specs.declared.event.Act.TheVariants.{Meet}
use Rattle.jr_model.specs.declared.event.Role.TheVariants.{Outside}
use Rattle.jr_model.specs.State.{not_outside}
use Rattle.jr_model.specs.Frames.{fresh_frames}
use Rattle.jr_steps.specs.declared.steps.Steps.{Ghosts as StepsGhosts}
use Rattle.jr_steps.specs.Holdings.{empty}
use Rattle.jr_steps.specs.Knowing.{anything, keeps, state_of, view, Spent, Took}
use Rattle.jr_rule.specs.declared.cells.Cells.{Ghosts}
use Rattle.jr_rule.specs.declared.closing.Left.{Left}
use Rattle.jr_rule.specs.declared.over.StepsOver.{StepsOver}
use Rattle.jr_rule.specs.declared.room.Room.{Room}
use Rattle.jr_rule.specs.Passes.{Holder, facts_of, holder_of, known_of, numbers_below, IsAt}
use Rattle.jr_rule.specs.Rule.{known, stepping_pass}
use Rattle.jr_threads.specs.Closing.{HasSweptAll, IsNotCollected}
use Rattle.jr_env.specs.declared.env.Env.{Env}
use Rattle.jr_env.specs.Envs.{IsOutside}
use Rattle.jr_rule.specs.declared.owned_cells.OwnedCells.{OwnedCells}

-- the steps of a pass are made of what it is made of
abbrev pub owner_of : {P : Type 0} {G : Ghosts (OwnedCells 4294967295) P} → StepsOver (OwnedCells 4294967295) P G
    → Holder
owner_of s =
    record { seat = s.cells.cells.seat; thread = s.cells.cells.thread; role = s.role; fresh = s.fresh; hint = s.hint }

-- all of these own the one room
abbrev pub AreOfRoom : {P : Type 0} {G : Ghosts (OwnedCells 4294967295) P} → Room 4294967295
    → List (StepsOver (OwnedCells 4294967295) P G) → Type 0
AreOfRoom r ss = All (λ s. arc_value s.cells.room ≡ r) ss

-- THE STEPS OF AN OWNER AS THEY WERE OPENED: of the room, outside, fresh, and the thread has seen nothing yet
pub record IsOwnerOpened {P : Type 0} {G : Ghosts (OwnedCells 4294967295) P} (r : Room 4294967295)
    (s : StepsOver (OwnedCells 4294967295) P G) : Type 0 where
  pub room : arc_value s.cells.room ≡ r
  pub knows : stepping_pass s.cells.cells.seat.me ≡ known r.row.config r.row.last s.cells.cells.thread [] empty 0
  pub role : s.role ≡ Outside
  pub fresh : s.fresh ≡ true
  pub hint : s.hint ≡ 0

-- A ROOM WAS OPENED, of these sizes, for owners:
-- all own that one room, and there is one for each thread, from thread 0 upward
pub record AreOwnersOpened {P : Type 0} {G : Ghosts (OwnedCells 4294967295) P} (c : Config)
    (ss : List (StepsOver (OwnedCells 4294967295) P G)) : Type 0 where
  pub room : Room 4294967295
  pub sizes : room.row.config ≡ c
  pub threads : map (λ s. s.cells.cells.thread) ss ≡ numbers_below c.threads
  pub each : All (IsOwnerOpened room) ss

-- THE ENV OVER STEPS: outside, in one base frame, and with what the thread knew; the steps are spent
pub record IsEnvOver {S : Type 0} {G : StepsGhosts S} (s : S) (env : Env S G) : Type 0 where
  pub spent : Spent G.facts s env.held.steps
  pub outside : IsOutside env
  pub frames : env.held.frames.frames ≡ fresh_frames (G.facts s).stands.config.locals

-- A ROOM WAS OPENED, of these sizes, for envs: one over the steps of each owner
pub record AreEnvsOpened {P : Type 0} {G : Ghosts (OwnedCells 4294967295) P}
    {H : StepsGhosts (StepsOver (OwnedCells 4294967295) P G)} (c : Config)
    (envs : List (Env (StepsOver (OwnedCells 4294967295) P G) H)) : Type 0 where
  pub owners : List (StepsOver (OwnedCells 4294967295) P G)
  pub opened : AreOwnersOpened c owners
  pub each : AllZip IsEnvOver owners envs

-- A ROOM WAS NOT CLOSED by its last owner, who found so many threads inside, knocking, announcing or collecting:
-- the room is as it was, and the pass is the owner's with this look
pub record IsLeftByOwner (r : Room 4294967295) (h : Holder) (l : Left 4294967295) : Type 0 where
  pub count : ℕ
  pub fault : l.fault ≡ LeftInside count
  pub some : 1 ≤ count
  pub is : count ≡ not_outside (known_of l.pass).config (state_of (known_of l.pass))
  pub same : l.room ≡ r
  pub of_room : IsAt r.row l.pass
  pub took : Took facts_of h (holder_of l.pass) (Meet ∷ []) anything keeps

-- A ROOM WAS NOT CLOSED by its last owner, who was to collect first with a marker for so many objects:
-- the room is as it was. He did not collect, or he did, and found threads inside then
pub record IsLeftCollecting (fits : ℕ) (r : Room 4294967295) (h : Holder) (l : Left 4294967295) : Type 0 where
  pub same : l.room ≡ r
  pub of_room : IsAt r.row l.pass
  pub why : IsNotCollected fits r.row.config.objects h (holder_of l.pass) l.fault
      ⊎ ((swept : Holder) × HasSweptAll (view (stepping_pass h.seat.me)) (view (stepping_pass swept.seat.me))
      × IsLeftByOwner r swept l)
