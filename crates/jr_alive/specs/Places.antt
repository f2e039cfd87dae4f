-- What slots and local places name.
use Rattle.std.specs.Prelude.{◌==◌, ℕ, if◌then◌else◌, Option, Some, None}
use Rattle.jr_word.specs.declared.handle.RefKind.{RefKind}
use Rattle.jr_word.specs.declared.handle.RefKind.TheVariants.{Global, Weak}
use Rattle.jr_word.specs.declared.local.LocalParts.{LocalParts}
use Rattle.jr_word.specs.declared.local.LocalParts.TheVariants as local
use Rattle.jr_word.specs.declared.slot.SlotParts.{SlotParts}
use Rattle.jr_word.specs.declared.slot.SlotParts.TheVariants as slot

-- the object that a global or weak reference of the serial names, by what its slot has
abbrev pub in_slot : RefKind → ℕ → SlotParts → Option ℕ
in_slot Global n (slot.Global m o) = if m == n then Some o else None
in_slot Weak n (slot.Weak m o) = if m == n then o else None
in_slot _ _ _ = None

-- the object that a local reference names, by what its place has
abbrev pub in_place : LocalParts → Option ℕ
in_place local.Free = None
in_place (local.Object o) = Some o
