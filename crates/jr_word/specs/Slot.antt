-- The word of a slot.
use Rattle.std.specs.Prelude.{ℕ, ◌≡◌, ◌+◌, ◌*◌, ◌^◌, ◌<◌, ⊤, Some, None, unwrap_or}
use Rattle.jr_word.specs.declared.slot.SlotParts.{SlotParts}
use Rattle.jr_word.specs.declared.slot.SlotParts.TheVariants.{Free, Retired, Global, Weak}

-- the number of a slot's state
abbrev pub slot_state : SlotParts → ℕ
slot_state (Free serial) = 0
slot_state (Retired serial) = 1
slot_state (Global serial object) = 2
slot_state (Weak serial object) = 3

-- the serial of a slot's reference, or of its next one
abbrev pub slot_serial : SlotParts → ℕ
slot_serial (Free serial) = serial
slot_serial (Retired serial) = serial
slot_serial (Global serial object) = serial
slot_serial (Weak serial object) = serial

-- the number of a slot's object, 0 where it has none
abbrev pub slot_object : SlotParts → ℕ
slot_object (Free serial) = 0
slot_object (Retired serial) = 0
slot_object (Global serial object) = object
slot_object (Weak serial object) = unwrap_or object 0

-- objects are numbered from 1
abbrev pub NamesObject : SlotParts → Type 0
NamesObject (Free serial) = ⊤
NamesObject (Retired serial) = ⊤
NamesObject (Global serial object) = 0 < object
NamesObject (Weak serial None) = ⊤
NamesObject (Weak serial (Some object)) = 0 < object

-- the parts that a slot can have
pub record IsSlot (p : SlotParts) : Type 0 where
  pub serial : slot_serial p < 2 ^ 32
  pub object : slot_object p < 2 ^ 16
  pub names : NamesObject p

-- THE WORD of a slot: bits 0 to 1 its state, 2 to 33 its serial, 34 to 49 its object
abbrev pub slot_word : SlotParts → ℕ
slot_word p = slot_state p + 4 * slot_serial p + 2 ^ 34 * slot_object p

-- a number that is the word of some slot
abbrev pub IsSlotWord : ℕ → Type 0
IsSlotWord n = (p : SlotParts) × IsSlot p × (n ≡ slot_word p)
