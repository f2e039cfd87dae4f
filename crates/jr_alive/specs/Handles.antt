-- Which object a handle names in a dump, and the handle of a root.
use Rattle.std.specs.Prelude.{◌+◌, ◌*◌, ℕ, if◌then◌else◌, nat_lt, Option, Some, None, slice_index_or}
use Rattle.jr_word.specs.declared.handle.Handle.{Handle}
use Rattle.jr_word.specs.declared.handle.HandleParts.{HandleParts}
use Rattle.jr_word.specs.declared.handle.RefKind.{RefKind}
use Rattle.jr_word.specs.declared.handle.RefKind.TheVariants as kind
use Rattle.jr_word.specs.declared.local.LocalParts.{LocalParts}
use Rattle.jr_word.specs.declared.local.LocalParts.TheVariants as local
use Rattle.jr_word.specs.declared.slot.SlotParts.{SlotParts}
use Rattle.jr_word.specs.declared.slot.SlotParts.TheVariants as slot
use Rattle.jr_word.specs.Handle.{handle_word}
use Rattle.jr_alive.specs.declared.dump.Dump.{Dump}
use Rattle.jr_alive.specs.declared.search.Root.{Root}
use Rattle.jr_alive.specs.declared.search.Root.TheVariants.{Global, Local}
use Rattle.jr_alive.specs.Places.{in_place, in_slot}

-- what a slot has
abbrev pub noted_slot : Dump → ℕ → SlotParts
noted_slot d i = slice_index_or d.slots.items i (slot.Free 0)

-- what a thread's place has
abbrev pub noted_local : Dump → ℕ → ℕ → LocalParts
noted_local d t p = if nat_lt p d.places then slice_index_or d.locals.items (t * d.places + p) local.Free
    else local.Free

-- the object that a handle names, by its kind
abbrev pub named_as : RefKind → Dump → HandleParts → Option ℕ
named_as kind.Local d p = in_place (noted_local d p.owner p.index)
named_as k d p = in_slot k p.serial (noted_slot d p.index)

-- THE OBJECT THAT A HANDLE NAMES in the dump
abbrev pub object_named : Dump → HandleParts → Option ℕ
object_named d p = named_as p.kind d p

-- the handle of a global reference that is a root
abbrev pub root_handle : Root → Option Handle
root_handle (Global i serial) =
    Some (record { 0 = handle_word (record { kind = kind.Global; serial = serial; index = i; owner = 0 }) })
root_handle (Local t p) = None
