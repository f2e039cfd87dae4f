-- A stay that stands: what its thread did since its entry, and what lies between.
use Rattle.std.specs.Prelude.{◌≡◌, ◌≢◌, false, List, [], ◌∷◌, ◌++◌}
use Rattle.std.specs.List.{AllByRecursion}
use mathlib.Core.List.{IsPrefix}
use Rattle.jr_model.specs.declared.event.Act.{Act}
use Rattle.jr_model.specs.declared.event.Act.TheVariants.{Gate}
use Rattle.jr_model.specs.declared.event.GateAct.TheVariants.{Enter, Leave}
use Rattle.jr_model.specs.History.{History, PassView, Did, IsStay, by, is_collection_step, mine}
use Rattle.jr_model.specs.Windows.{Stepped}

-- none of the acts is an exit
abbrev pub NoneLeaves : List Act → Type 0
NoneLeaves acts = AllByRecursion (λ a. a ≢ Gate Leave) acts

-- THE THREAD ENTERED, and has not left since
pub record HasStayed (old new : PassView) : Type 0 where
  pub acts : List Act
  pub did : Did old new (Gate Enter ∷ acts)
  pub stays : NoneLeaves acts

-- what was seen since is one stay of the thread, behind what was seen before and what others did, up to what is left;
-- and no event in it, of whatever thread, is a step of a collection
pub record IsOneStay (old new : PassView) (left : History) : Type 0 where
  pub before : History
  pub inside : History
  pub stay : IsStay old.thread new.seen before inside left
  pub begins : IsPrefix old.seen before
  pub own : mine before old.thread ≡ mine old.seen old.thread
  pub clear : AllByRecursion (λ e. is_collection_step e.act ≡ false) inside

-- a stay that stands has had its thread's acts and no others:
-- it goes on with what the thread does, as long as none of that is an exit
abbrev pub GoesOnWithItsActs : Type 0
GoesOnWithItsActs = (old mid new : PassView) (stayed : HasStayed old mid) (acts : List Act) → Did mid new acts
    → NoneLeaves acts → (now : HasStayed old new) × (now.acts ≡ stayed.acts ++ acts)

-- while a stay stands, no collection step has come since its entry
abbrev pub NoCollectionInOpenStay : Type 0
NoCollectionInOpenStay = (old new : PassView) → HasStayed old new → IsOneStay old new []

-- none comes up to its exit
abbrev pub NoCollectionUpToExit : Type 0
NoCollectionUpToExit = (old mid new : PassView) → HasStayed old mid → Stepped mid new (Gate Leave)
    → IsOneStay old new (by old.thread (Gate Leave) ∷ [])
