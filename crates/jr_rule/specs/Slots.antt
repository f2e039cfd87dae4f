-- For the crate's own functions: the parts of a slot's word, as the steps make and read them.
use Rattle.std.specs.Prelude.{◌≡◌, ℕ, ◌+◌, nat_lt, if◌then◌else◌, Option, Some, None, Bool, true, false}
use Rattle.jr_word.specs.declared.handle.RefKind.{RefKind}
use Rattle.jr_word.specs.declared.handle.RefKind.TheVariants.{Local, Global, Weak}
use Rattle.jr_word.specs.declared.slot.SlotParts.{SlotParts}
use Rattle.jr_word.specs.declared.slot.SlotParts.TheVariants as slot

-- a global or a weak reference, of which only the weak one can be without an object
abbrev pub CanStand : RefKind → Option ℕ → Type 0
CanStand Local o = ⊥
CanStand Global None = ⊥
CanStand _ o = Unit {0}

-- the parts of a slot's word are those of this reference
abbrev pub IsReference : RefKind → ℕ → Option ℕ → SlotParts → Type 0
IsReference kind serial o (slot.Global n object) = (kind ≡ Global) × (serial ≡ n) × (o ≡ Some object)
IsReference kind serial o (slot.Weak n object) = (kind ≡ Weak) × (serial ≡ n) × (o ≡ object)
IsReference kind serial o _ = ⊥

-- the parts of a slot's word are those of a reference of the kind
abbrev pub has_kind : RefKind → SlotParts → Bool
has_kind Global (slot.Global n o) = true
has_kind Weak (slot.Weak n o) = true
has_kind _ _ = false

-- the parts of a slot's word once its reference of the serial is deleted:
-- free with the next serial, but retired at the last
abbrev pub parts_once_free : ℕ → ℕ → SlotParts
parts_once_free last serial = if nat_lt serial last then slot.Free (serial + 1) else slot.Retired last
