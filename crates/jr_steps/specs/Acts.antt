-- The acts of steps, by what they found.
use Rattle.std.specs.Prelude.{◌≡◌, ◌≢◌, ℕ, ◌+◌, if◌then◌else◌, ◌==◌, ◌&&◌, nat_lt, cond, Bool}
use Rattle.std.specs.Prelude.{true, false, Option, Some, None, Result, Ok, Err, List, [], ◌∷◌}
use Rattle.jr_word.specs.declared.handle.RefKind.{RefKind}
use Rattle.jr_word.specs.declared.handle.RefKind.TheVariants.{Local, Global, Weak}
use Rattle.jr_word.specs.declared.gate.GateParts.{GateParts}
use Rattle.jr_word.specs.declared.gate.GateState.{GateState}
use Rattle.jr_word.specs.declared.gate.GateState.TheVariants.{Open}
use Rattle.jr_word.specs.declared.kind.Kind.{Kind}
use Rattle.jr_word.specs.declared.slot.SlotParts.{SlotParts}
use Rattle.jr_word.specs.declared.slot.SlotParts.TheVariants as slot
use Rattle.jr_model.specs.declared.event.Role.{Role}
use Rattle.jr_model.specs.declared.event.Role.TheVariants.{Outside, Knocking}
use Rattle.jr_model.specs.declared.event.Found.{Found}
use Rattle.jr_model.specs.declared.event.Found.TheVariants.{Object, Cleared, Stale}
use Rattle.jr_model.specs.declared.event.Act.{Act}
use Rattle.jr_model.specs.declared.event.Act.TheVariants.{Gate, ShutBusy, Meet, Create, Look, Probe}
use Rattle.jr_model.specs.declared.event.Act.TheVariants.{Delete, DeleteStale, LocalPut, LocalDrop}
use Rattle.jr_model.specs.declared.event.Act.TheVariants.{New, Reserve, ReserveFull, ReserveLost}
use Rattle.jr_model.specs.declared.event.GateAct.TheVariants.{Enter, Knock, Leave, Withdraw, Announce, Shut}
use Rattle.jr_model.specs.State.{Handle, same_kind}
use Rattle.jr_steps.specs.declared.loads.SlotLoad.{SlotLoad}
use Rattle.jr_steps.specs.declared.loads.SlotLoad.TheVariants as loads
use Rattle.jr_steps.specs.declared.loads.TopLoad.{TopLoad}
use Rattle.jr_steps.specs.declared.loads.TopLoad.TheVariants as top
use Rattle.jr_steps.specs.declared.loads.GateLoad.{GateLoad}
use Rattle.jr_steps.specs.declared.loads.GateLoad.TheVariants as gate

-- an entry, by whether the gate was open
abbrev pub act_of_entry : Bool → Act
act_of_entry true = Gate Enter
act_of_entry false = Gate Knock

-- how a thread of this role goes out
abbrev pub act_of_exit : Role → Act
act_of_exit Knocking = Gate Withdraw
act_of_exit _ = Gate Leave

-- the exchange of an open, empty gate for a shut one:
-- where it is lost, so many other threads are inside, knocking, announcing or collecting
abbrev pub act_of_bar : Result (Unit {0}) ℕ → Act
act_of_bar (Ok _) = Gate Shut
act_of_bar (Err n) = ShutBusy n

-- whether a gate in this state lets nobody in
abbrev pub is_closed : GateState → Bool
is_closed Open = false
is_closed _ = true

-- the threads that the gate's word counts, and the one that keeps it closed
abbrev pub all_counted : GateParts → ℕ
all_counted p = p.count + (if is_closed p.state then 1 else 0)

-- the same, but the thread that shuts the gate from this state: who has announced it is not counted
abbrev pub others_counted : GateState → GateParts → ℕ
others_counted Open p = all_counted p
others_counted _ p = p.count

-- a load of the gate: where it is closed, it may count as a refusal to shut it
abbrev pub act_of_gate_load : GateLoad → GateParts → Act
act_of_gate_load gate.Busy p = (if is_closed p.state then ShutBusy (all_counted p) else Meet)
act_of_gate_load gate.Meet p = Meet

-- the exchange of an open gate for one that is announced to be shut:
-- where it is lost, the gate was closed, or another thread went in or out
abbrev pub act_of_announcement : Result (Unit {0}) GateParts → Act
act_of_announcement (Ok _) = Gate Announce
act_of_announcement (Err p) = act_of_gate_load gate.Busy p

-- only who is outside is refused the gate
abbrev pub GateLoadFits : Role → GateLoad → Type 0
GateLoadFits role gate.Busy = role ≡ Outside
GateLoadFits role gate.Meet = Unit {0}

-- the object of a reference that stands, none where it is cleared
abbrev pub found_of : Option ℕ → Found
found_of (Some o) = Object o
found_of None = Cleared

-- the reference in a slot has this kind and serial: is it the handle's?
abbrev pub is_its : Handle → RefKind → ℕ → Bool
is_its h kind serial = same_kind kind h.kind && (serial == h.serial)

-- what a slot's word says of a handle of its index
abbrev pub reply : Handle → SlotParts → Found
reply h (slot.Global serial o) = cond (is_its h Global serial) (Object o) Stale
reply h (slot.Weak serial o) = cond (is_its h Weak serial) (found_of o) Stale
reply h _ = Stale

-- the word is not free: a reference stands there, or each serial was given
abbrev pub is_occupied : SlotParts → Bool
is_occupied (slot.Free serial) = false
is_occupied _ = true

-- a load of the slot at an index that found the word
abbrev pub act_of_slot_load : ℕ → SlotLoad → SlotParts → Act
act_of_slot_load i (loads.Look h) w = Look h (reply h w)
act_of_slot_load i loads.Probe w = Probe i (is_occupied w)
act_of_slot_load i loads.Meet w = Meet

-- a handle is looked up in its own slot
abbrev pub SlotLoadFits : ℕ → SlotLoad → Type 0
SlotLoadFits i (loads.Look h) = (h.index ≡ i) × (h.kind ≢ Local) × (h.owner ≡ 0)
SlotLoadFits i _ = Unit {0}

-- the handle of a slot
abbrev pub handle_of : RefKind → ℕ → ℕ → Handle
handle_of kind serial i = record { kind = kind; serial = serial; index = i; owner = 0 }

-- the exchange of a free slot for a reference
abbrev pub act_of_claim : ℕ → ℕ → RefKind → ℕ → Result (Unit {0}) SlotParts → Act
act_of_claim i serial kind o (Ok _) = Create (handle_of kind serial i) o
act_of_claim i serial kind o (Err found) = Probe i (is_occupied found)

-- the exchange of a reference for a free slot
abbrev pub act_of_free : Handle → Bool → Act
act_of_free h true = Delete h
act_of_free h false = DeleteStale h

-- the store of an object, or of none, at a place
abbrev pub act_of_put : ℕ → Option ℕ → Act
act_of_put p None = LocalDrop p
act_of_put p (Some o) = LocalPut p o

-- the exchange of an absent header for that of an object with these words
abbrev pub acts_of_publication : ℕ → Kind → List ℕ → Bool → List Act
acts_of_publication o kind ws true = New o kind ws ∷ []
acts_of_publication o kind ws false = []

-- a load of the top that found so many words used, in a room of so many
abbrev pub acts_of_top_load : ℕ → TopLoad → ℕ → List Act
acts_of_top_load words top.Look u = []
acts_of_top_load words (top.Full n) u = cond (nat_lt words (u + n)) (ReserveFull n u ∷ []) []

-- the exchange of a top that was looked at for one with so many more words
abbrev pub act_of_reservation : ℕ → ℕ → Result (Unit {0}) ℕ → Act
act_of_reservation looked n (Ok _) = Reserve n
act_of_reservation looked n (Err found) = ReserveLost n looked found
