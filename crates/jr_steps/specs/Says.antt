-- WHAT THE PARTS OF A WORD SAY of the machine's state.
-- The rule of the row says it of each word, and a load shows it of the word that it found.
use Rattle.std.specs.Prelude.{◌≡◌, ◌≢◌, ◌↔◌, ◌+◌, ◌<◌, ◌≤◌, ◌==◌, ◌&&◌, nat_lt, cond}
use Rattle.std.specs.Prelude.{ℕ, Bool, true, false, Option, Some, None, length}
use Rattle.jr_word.specs.declared.config.Config.{Config}
use Rattle.jr_word.specs.declared.gate.GateParts.{GateParts}
use Rattle.jr_word.specs.declared.gate.GateState.TheVariants.{Announced, Shut}
use Rattle.jr_word.specs.declared.handle.RefKind.TheVariants.{Global, Weak}
use Rattle.jr_word.specs.declared.header.HeaderParts.{HeaderParts}
use Rattle.jr_word.specs.declared.local.LocalParts.{LocalParts}
use Rattle.jr_word.specs.declared.local.LocalParts.TheVariants as local
use Rattle.jr_word.specs.declared.slot.SlotParts.{SlotParts}
use Rattle.jr_word.specs.declared.slot.SlotParts.TheVariants as slot
use Rattle.jr_model.specs.declared.event.Role.{Role}
use Rattle.jr_model.specs.declared.event.Role.TheVariants.{Announcing, Collecting}
use Rattle.jr_model.specs.declared.event.Found.{Found}
use Rattle.jr_model.specs.declared.event.Found.TheVariants.{Object, Stale}
use Rattle.jr_model.specs.Maps.{count_below}
use Rattle.jr_model.specs.State.{Handle, Contents, is_inside}
use Rattle.jr_steps.specs.declared.known.Move.{Move}
use Rattle.jr_steps.specs.Acts.{found_of, handle_of}

-- THE GATE counts the threads within or knocking, is shut exactly where one
-- is collecting, and announced to be exactly where one has announced it
pub record SaysOfGate (c : Config) (role : ℕ → Role) (parts : GateParts) : Type 0 where
  pub count : parts.count ≡ count_below c.threads (λ t. is_inside (role t))
  pub shut : (parts.state ≡ Shut) ↔ ((t : ℕ) × (role t ≡ Collecting))
  pub announced : (parts.state ≡ Announced) ↔ ((t : ℕ) × (role t ≡ Announcing))

-- the serials given at the index are those below `next`
pub record AreGivenBelow (given : Handle → Bool) (i next : ℕ) : Type 0 where
  pub below : (n : ℕ) → n < next → (h : Handle) × (h.index ≡ i) × (h.serial ≡ n) × (given h ≡ true)
  pub above : (h : Handle) → h.index ≡ i → next ≤ h.serial → given h ≡ false

-- no reference of the index stands
abbrev pub NoneStands : (Handle → Found) → ℕ → Type 0
NoneStands refs i = (h : Handle) → h.index ≡ i → refs h ≡ Stale

-- the handle, the last that was given at its index, stands with this object or cleared, and no other of the index does
pub record StandsAlone (refs : Handle → Found) (next : ℕ) (h : Handle) (r : Found) : Type 0 where
  pub latest : h.serial + 1 ≡ next
  pub found : refs h ≡ r
  pub alone : (g : Handle) → g.index ≡ h.index → g ≢ h → refs g ≡ Stale

-- what stands at an index, by the parts of its slot, where `next` is its next serial
abbrev pub StandsAs : ℕ → (Handle → Found) → ℕ → ℕ → SlotParts → Type 0
StandsAs last refs i next (slot.Free serial) = NoneStands refs i × (serial ≡ next) × (next ≤ last)
StandsAs last refs i next (slot.Retired serial) = NoneStands refs i × (serial ≡ last) × (last < next)
StandsAs last refs i next (slot.Global serial o) = StandsAlone refs next (handle_of Global serial i) (Object o)
StandsAs last refs i next (slot.Weak serial o) = StandsAlone refs next (handle_of Weak serial i) (found_of o)

-- THE SLOT of an index has the kind, serial and object of the reference that stands there;
-- else it is free with the next serial, or retired
pub record SaysOfSlot (last : ℕ) (refs : Handle → Found) (given : Handle → Bool) (i : ℕ)
    (parts : SlotParts) : Type 0 where
  pub next : ℕ
  pub serials : AreGivenBelow given i next
  pub stands : StandsAs last refs i next parts

-- THE LOCAL WORD of a place is its object, if one stands there
abbrev pub local_parts : Option ℕ → LocalParts
local_parts None = local.Free
local_parts (Some o) = local.Object o

-- THE HEADER of an object has its kind and its length
pub record SaysOfHeader (x : Contents) (parts : HeaderParts) : Type 0 where
  pub kind : x.kind ≡ parts.kind
  pub long : length x.words ≡ parts.length

-- where element j of an object stands whose header says the place p:
-- those that an unfinished move has done stand at its new place
abbrev pub element_spot : Option Move → ℕ → ℕ → ℕ → ℕ
element_spot None o p j = p + j
element_spot (Some m) o p j = cond ((m.object == o) && nat_lt j m.done) (m.place + j) (p + j)
