-- TESTS OF A CALL before its acts, each with its refusal.
use Rattle.std.specs.Prelude.{◌≡◌, Bool, true, false, cond, Result, Ok, Err, List, [], ◌∷◌}
use Rattle.std.specs.List.{AllByRecursion}
use Rattle.jr_word.specs.declared.fault.Fault.{Fault}
use Rattle.jr_word.specs.declared.fault.Fault.TheVariants.{Barred, Busy, Moved, ObjectsFull, Raced, RowFull, SpaceFull}
use Rattle.jr_model.specs.Calls.{Call, refuse_if, ◌>>◌}

-- the first that holds refuses
abbrev pub Tests : Type 0
Tests = List (Bool × Fault)

-- whether they refuse, and for what
abbrev pub refused_by : Tests → Result (Unit {0}) Fault
refused_by [] = Ok tt
refused_by ((b, e) ∷ ts) = cond b (Err e) (refused_by ts)

-- a refusal that says nothing of the room that all threads share
abbrev pub is_silent : Fault → Bool
is_silent RowFull = false
is_silent ObjectsFull = false
is_silent (SpaceFull used) = false
is_silent (Raced looked found) = false
is_silent Barred = false
is_silent (Busy n) = false
is_silent (Moved looked found) = false
is_silent _ = true

-- none of their refusals does
abbrev pub AreSilent : Tests → Type 0
AreSilent ts = AllByRecursion (λ t. is_silent t.1 ≡ true) ts

-- what follows tests
abbrev pub tested : {A : Type 0} → Tests → Call A → Call A
tested [] next = next
tested ((b, e) ∷ ts) next = refuse_if b e >> tested ts next
