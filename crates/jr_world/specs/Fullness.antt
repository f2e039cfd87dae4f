-- WHAT A FULL ROW SAYS: where each index was occupied at some moment of a window, how many global and weak references
-- there were, of those that stood as it began and those that any thread created within it.
use Rattle.std.specs.Prelude.{◌≡◌, ◌+◌, ◌<◌, ◌≤◌, ◌&&◌, ℕ, Bool, not, Option, is_some, List, [], ◌∷◌, ◌++◌}
use Rattle.std.specs.Prelude.{drop, length}
use Rattle.jr_word.specs.declared.config.Config.{Config}
use Rattle.jr_word.specs.declared.handle.RefKind.TheVariants.{Global, Weak}
use Rattle.jr_model.specs.declared.event.Act.{Act}
use Rattle.jr_model.specs.declared.event.Act.TheVariants.{Create, Delete, Gate}
use Rattle.jr_model.specs.declared.event.GateAct.TheVariants.{Leave}
use Rattle.jr_model.specs.State.{Handle, State, IsOccupied, references}
use Rattle.jr_model.specs.Checks.{is_local}
use Rattle.jr_model.specs.Steps.{Needs}
use Rattle.jr_model.specs.History.{History, IsLegal, PassView, by, state}
use Rattle.jr_model.specs.Refusals.{RowWasFull, Sometime}
use Rattle.jr_world.specs.World.{Ref, how_many}
use Rattle.jr_world.specs.Births.{Births, births, IsAs}

abbrev pub created_by : Act → List Handle
created_by (Create h o) = h ∷ []
created_by _ = []

abbrev pub deleted_by : Act → List Handle
deleted_by (Delete h) = h ∷ []
deleted_by _ = []

-- the global and weak references that were created, by whichever thread
abbrev pub creations : History → List Handle
creations [] = []
creations (e ∷ es) = created_by e.act ++ creations es

-- and those that were deleted
abbrev pub deletions : History → List Handle
deletions [] = []
deletions (e ∷ es) = deleted_by e.act ++ deletions es

-- how many global and weak references stand
abbrev pub row_references : Config → ℕ → State → ℕ
row_references c last s = references c last Global s + references c last Weak s

-- WHERE EACH INDEX WAS OCCUPIED at some moment of a window, as many references stood at its beginning or were
-- created within it as there are slots; no more were deleted than an index has serials, less one
abbrev pub WindowsAreFull : Type 0
WindowsAreFull = (c : Config) (last : ℕ) (begun since : History) → IsLegal c last (begun ++ since)
    → length (deletions (begun ++ since)) ≤ last
    → ((i : ℕ) → i < c.slots → Sometime (λ s. IsOccupied last s i) begun (begun ++ since))
    → c.slots ≤ row_references c last (state begun) + length (creations since)

-- so it is of a call that is refused because the row was full
abbrev pub RefusedForAWindow : Type 0
RefusedForAWindow = (begun since : History) (new : PassView) → new.seen ≡ begun ++ since
    → IsLegal new.config new.last new.seen → length (deletions new.seen) ≤ new.last → RowWasFull begun new
    → new.config.slots ≤ row_references new.config new.last (state begun) + length (creations since)

-- and of the part of it that ends right before its exit, which creates and deletes nothing
abbrev pub FullBeforeExit : Type 0
FullBeforeExit = (begun mid : History) (new : PassView)
    → new.seen ≡ (begun ++ mid) ++ by new.thread (Gate Leave) ∷ []
    → IsLegal new.config new.last new.seen → length (deletions new.seen) ≤ new.last → RowWasFull begun new
    → new.config.slots ≤ row_references new.config new.last (state begun) + length (creations mid)

-- without a bound of the deletions this would be said, and it is not so: an index whose serials are used up is
-- occupied, and no reference stands there
abbrev pub FullWithoutTheBound : Type 0
FullWithoutTheBound = (c : Config) (last : ℕ) (begun since : History) → IsLegal c last (begun ++ since)
    → ((i : ℕ) → i < c.slots → Sometime (λ s. IsOccupied last s i) begun (begun ++ since))
    → c.slots ≤ row_references c last (state begun) + length (creations since)

abbrev pub NotFullWithoutTheBound : Type 0
NotFullWithoutTheBound = ¬ FullWithoutTheBound

-- BY WHAT WAS BORN: a reference that is not local, and one that stands
abbrev pub is_of_row : Handle × Option Ref → Bool
is_of_row e = not (is_local e.0)

abbrev pub stands_in_row : Handle × Option Ref → Bool
stands_in_row e = is_some e.1 && is_of_row e

-- how many of those that were born stand and are not local
abbrev pub row_births : Births → ℕ
row_births b = how_many stands_in_row b.refs

-- how many that are not local were born since then, whether they stand or not
abbrev pub row_births_since : Births → Births → ℕ
row_births_since old new = how_many is_of_row (drop (length old.refs) new.refs)

-- as many references stand in the row as were born and stand
abbrev pub RowIsBorn : Type 0
RowIsBorn = (c : Config) (last : ℕ) (es : History) → IsLegal c last es → IsAs (births es) (state es)
    → row_references c last (state es) ≡ row_births (births es)

-- as many were created as were born
abbrev pub CreationsAreBorn : Type 0
CreationsAreBorn = (c : Config) (last : ℕ) (begun since : History) → IsLegal c last (begun ++ since)
    → length (creations since) ≡ row_births_since (births begun) (births (begun ++ since))

-- BEFORE THE EXIT of a call that is refused because the row was full, as many as there are slots stood as it began
-- or were born in it
abbrev pub BirthsFillTheRow : Type 0
BirthsFillTheRow = (begun mid : History) (new : PassView)
    → new.seen ≡ (begun ++ mid) ++ by new.thread (Gate Leave) ∷ []
    → IsLegal new.config new.last new.seen → length (deletions new.seen) ≤ new.last → RowWasFull begun new
    → IsAs (births begun) (state begun)
    → new.config.slots ≤ row_births (births begun) + row_births_since (births begun) (births (begun ++ mid))

-- WHERE A REFERENCE IS CREATED, fewer stand than there are slots
abbrev pub CreationsHaveRoom : Type 0
CreationsHaveRoom = (c : Config) (last t o : ℕ) (h : Handle) (es : History) → IsLegal c last es
    → IsAs (births es) (state es) → Needs c last (state es) (by t (Create h o)) → row_births (births es) < c.slots
