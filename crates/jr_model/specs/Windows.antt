-- Between which moments a call lies: its own stay, where it goes in and out at the gate.
use Rattle.std.specs.Prelude.{◌≡◌, List, [], ◌∷◌, ◌++◌}
use mathlib.Core.List.{IsPrefix}
use Rattle.jr_model.specs.declared.event.Role.TheVariants.{Outside}
use Rattle.jr_model.specs.declared.event.Act.{Act}
use Rattle.jr_model.specs.declared.event.Act.TheVariants.{Gate}
use Rattle.jr_model.specs.Steps.{FromRole, role_behind}
use Rattle.jr_model.specs.History.{History, by, mine, PassView, role_of, Did}

-- the moment right behind the thread's next own event, which has this act
pub record IsBehind (old : PassView) (a : Act) (moment : History) : Type 0 where
  pub between : History
  pub others : mine between old.thread ≡ []
  pub is : moment ≡ (old.seen ++ between) ++ by old.thread a ∷ []

-- the last event that was seen is the thread's own, and has this act
pub record IsLastSeen (new : PassView) (a : Act) : Type 0 where
  pub before : History
  pub is : new.seen ≡ before ++ by new.thread a ∷ []

-- a call whose first act takes its thread from outside begins right behind that act
abbrev pub BeginsWith : PassView → Act → History → Type 0
BeginsWith old (Gate a) begun = FromRole a Outside → IsBehind old (Gate a) begun
BeginsWith old _ begun = Unit {0}

abbrev pub Begins : PassView → List Act → History → Type 0
Begins old [] begun = Unit {0}
Begins old (a ∷ acts) begun = BeginsWith old a begun

-- a call whose last act takes its thread outside ends with that act: nothing behind it is seen
abbrev pub EndsWith : PassView → Act → Type 0
EndsWith new (Gate a) = role_behind a ≡ Outside → IsLastSeen new (Gate a)
EndsWith new _ = Unit {0}

-- a call without an act of a thread that is outside sees nothing
abbrev pub Ends : PassView → PassView → List Act → Type 0
Ends old new [] = role_of new ≡ Outside → new.seen ≡ old.seen
Ends old new (a ∷ []) = EndsWith new a
Ends old new (a ∷ b ∷ acts) = Ends old new (b ∷ acts)

-- THE WINDOW OF A CALL with these acts: it begins behind its own entry, and ends with its own exit.
-- A call within a stay begins at a moment since the step before it, and ends with what it has seen
pub record IsWindow (old new : PassView) (acts : List Act) (begun : History) : Type 0 where
  pub from : IsPrefix old.seen begun
  pub to : IsPrefix begun new.seen
  pub first : Begins old acts begun
  pub last : Ends old new acts

-- the thread took this one act, and its event is the last that is seen
pub record Stepped (old new : PassView) (a : Act) : Type 0 where
  pub did : Did old new (a ∷ [])
  pub behind : IsBehind old a new.seen
