-- What holds from an announcement that the gate will be shut to its end.
use Rattle.std.specs.Prelude.{◌≡◌, ◌≢◌, ◌⊎◌, ◌↔◌, ℕ, true, List, [], ◌∷◌, ◌++◌}
use Rattle.std.specs.List.{AllByRecursion}
use Rattle.jr_word.specs.declared.config.Config.{Config}
use Rattle.jr_model.specs.declared.event.Role.TheVariants.{Within, Knocking}
use Rattle.jr_model.specs.declared.event.Act.{Act}
use Rattle.jr_model.specs.declared.event.Act.TheVariants.{Gate, ShutBusy}
use Rattle.jr_model.specs.declared.event.GateAct.{GateAct}
use Rattle.jr_model.specs.declared.event.GateAct.TheVariants.{Enter, Leave, Announce, Cancel, Reopen}
use Rattle.jr_model.specs.Maps.{count_below}
use Rattle.jr_model.specs.State.{is_inside}
use Rattle.jr_model.specs.History.{History, by, state, mine, IsLegal, PassView}

-- AN ANNOUNCEMENT of t: from an Announce of t on, at most to its next Cancel or Reopen
pub record IsAnnouncement (t : ℕ) (whole : History) (before inside rest : History) : Type 0 where
  pub parts : whole ≡ before ++ by t (Gate Announce) ∷ inside ++ rest
  pub stands : AllByRecursion (λ e. (e ≢ by t (Gate Cancel)) × (e ≢ by t (Gate Reopen))) inside

-- a thread u is in the way of an announcement of t at a moment of it:
-- it was within when t announced and has not left since, or it knocks at that moment
abbrev pub IsInTheWay : ℕ → ℕ → History → History → Type 0
IsInTheWay t u before inside =
    (((state before).role u ≡ Within) × AllByRecursion (λ e. e ≢ by u (Gate Leave)) inside)
    ⊎ ((state (before ++ by t (Gate Announce) ∷ inside)).role u ≡ Knocking)

-- SO MANY ARE IN THE WAY of it then: so many threads are within or knock, and these are just those that are in the way
pub record AreInTheWay (threads t : ℕ) (before inside : History) (n : ℕ) : Type 0 where
  pub counted : n ≡ count_below threads (λ u. is_inside ((state (before ++ by t (Gate Announce) ∷ inside)).role u))
  pub each : (u : ℕ)
      → is_inside ((state (before ++ by t (Gate Announce) ∷ inside)).role u) ≡ true ↔ IsInTheWay t u before inside

-- AN ANNOUNCEMENT AND ITS END, which is the last event that a pass has seen: between them its thread did these
-- acts, nobody entered, who was within only left, and each shut that was refused counted just those in the way
pub record AnnouncedUntil (new : PassView) (acts : List Act) (end : GateAct) : Type 0 where
  pub before : History
  pub inside : History
  pub stands : IsAnnouncement new.thread new.seen before inside (by new.thread (Gate end) ∷ [])
  pub own : mine inside new.thread ≡ acts
  pub nobody_enters : AllByRecursion (λ e. e.act ≢ Gate Enter) inside
  pub only_leave : (earlier since : History) (u : ℕ) → inside ≡ earlier ++ since
      → (state (before ++ by new.thread (Gate Announce) ∷ earlier ++ since)).role u ≡ Within
      → ((state (before ++ by new.thread (Gate Announce) ∷ earlier)).role u ≡ Within)
      × AllByRecursion (λ e. e ≢ by u (Gate Leave)) since
  pub counts : (earlier since : History) (n : ℕ) → inside ≡ earlier ++ by new.thread (ShutBusy n) ∷ since
      → AreInTheWay new.config.threads new.thread before earlier n

-- NOBODY ENTERS while an announcement stands
abbrev pub NobodyEnters : Config → ℕ → Type 0
NobodyEnters c last = (t : ℕ) (es before inside rest : History) → IsLegal c last es
    → IsAnnouncement t es before inside rest → AllByRecursion (λ e. e.act ≢ Gate Enter) inside

-- WHO IS WITHIN ONLY LEAVES:
-- whoever is within at a moment of an announcement was so at each earlier one, in the same stay
abbrev pub WithinOnlyLeave : Config → ℕ → Type 0
WithinOnlyLeave c last = (t u : ℕ) (es before earlier since rest : History) → IsLegal c last es
    → IsAnnouncement t es before (earlier ++ since) rest
    → (state (before ++ by t (Gate Announce) ∷ earlier ++ since)).role u ≡ Within
    → ((state (before ++ by t (Gate Announce) ∷ earlier)).role u ≡ Within)
    × AllByRecursion (λ e. e ≢ by u (Gate Leave)) since

-- A REFUSED SHUT of the announcer counts just those in the way:
-- who was within at the announcement and has not left since, and who knocks
abbrev pub AnnouncerCounts : Config → ℕ → Type 0
AnnouncerCounts c last = (t n : ℕ) (es before inside rest : History) → IsLegal c last es
    → IsAnnouncement t es before inside (by t (ShutBusy n) ∷ rest) → AreInTheWay c.threads t before inside n
