-- For this crate and those above: the tries to shut a gate that was announced to be shut.
use Rattle.std.specs.Prelude.{◌≡◌, ◌<◌, ◌≤◌, ◌+◌, ℕ, List, [], ◌∷◌, ◌++◌, map, length}
use Rattle.jr_word.specs.declared.config.Config.{Config}
use Rattle.jr_word.specs.declared.fault.Fault.{Fault}
use Rattle.jr_word.specs.declared.fault.Fault.TheVariants.{Busy}
use Rattle.jr_model.specs.declared.event.Act.{Act}
use Rattle.jr_model.specs.declared.event.Act.TheVariants.{Gate, Meet, ShutBusy}
use Rattle.jr_model.specs.declared.event.GateAct.TheVariants.{Announce, Cancel, Reopen, Shut}
use Rattle.jr_model.specs.CollectionCalls.{announcing_acts}
use Rattle.jr_model.specs.History.{Did}
use Rattle.jr_steps.specs.Knowing.{Facts, Went, Took, Takes, anything, keeps, lets_go, standing_after, view}
use Rattle.jr_steps.specs.Knowing.{CanReopen, IsClosedNow}
use Rattle.jr_gate.specs.Acting.{ActedTo}
use Rattle.jr_gate.specs.Announcing.{AnnouncesInTwo}
use Rattle.jr_compact.specs.Counting.{TakesWithin}

module _ {S : Type 0} (facts : S → Facts) where
  -- so many tries were refused, with these counts, and nothing else was done
  pub record RefusedTries (old new : S) (refused : List ℕ) : Type 0 where
    pub went : Went facts old new (facts old).stands anything (λ j k. Did (view j) (view k) (map ShutBusy refused))
        (λ j k. keeps j k × Takes (length refused) j k)

  -- THE GATE WAS SHUT after fewer refused tries than these
  pub record ShutsAfter (old new : S) (tries : ℕ) : Type 0 where
    pub refused : List ℕ
    pub few : length refused < tries
    pub shutting : S
    pub waited : RefusedTries old shutting refused
    pub shut : Took facts shutting new (Gate Shut ∷ []) anything (λ j k. IsClosedNow k × lets_go j k)

  -- THE GATE WAS ANNOUNCED TO BE SHUT, and was, after fewer refused tries than these
  pub record ShutsAnnounced (old new : S) (tries : ℕ) : Type 0 where
    pub announcing : S
    pub announced : ActedTo facts old announcing (Meet ∷ Gate Announce ∷ []) anything AnnouncesInTwo
    pub after : ShutsAfter announcing new tries

  -- UP TO ITS SHUT AN ANNOUNCED CALL TOOK ONE OPERATION FOR EACH ACT, and no other: there are steps of the thread right
  -- behind the shut, after fewer refused tries than these, which took just so many. From there on the call took no
  -- more operations than so many, by the sizes of the room, and opened the gate by the last of its acts
  pub record ShutsActByAct (old new : S) (tries : ℕ) (most : Config → ℕ) : Type 0 where
    pub refused : List ℕ
    pub few : length refused < tries
    pub shutting : S
    pub shut : Went facts old shutting (standing_after (facts old).stands (Gate Shut ∷ [])) anything
        (λ j k. Did (view j) (view k) (announcing_acts refused ++ Gate Shut ∷ []))
        (λ j k. CanReopen k × Takes (length (announcing_acts refused) + 1) j k)
    pub rest : Went facts shutting new (standing_after (facts shutting).stands (Gate Reopen ∷ [])) CanReopen
        (λ j k. (acts : List Act) × Did (view j) (view k) (acts ++ Gate Reopen ∷ []))
        (λ j k. TakesWithin (most j.config) j k)

  -- ALL TRIES WERE REFUSED, the last with this count, and the announcement was taken back
  pub record CancelsAfter (old new : S) (tries : ℕ) (e : Fault) : Type 0 where
    pub refused : List ℕ
    pub count : ℕ
    pub busy : e ≡ Busy count
    pub some : 1 ≤ count
    pub all : length refused + 1 ≡ tries
    pub cancelling : S
    pub waited : RefusedTries old cancelling (refused ++ count ∷ [])
    pub cancelled : Took facts cancelling new (Gate Cancel ∷ []) anything lets_go
