-- THE STEPS: what each needs, and what it changes. What is not named stays.
use Rattle.std.specs.Prelude.{◌≡◌, ◌≢◌, ◌⊎◌, ◌↔◌, ◌+◌, ◌<◌, ◌≤◌, ℕ, true, false, IsTrue}
use Rattle.std.specs.Prelude.{Option, Some, None, length, slice_get, slice_set, nat_eq}
use Rattle.jr_word.specs.declared.config.Config.{Config}
use Rattle.jr_word.specs.declared.handle.RefKind.TheVariants.{Local, Weak}
use Rattle.jr_word.specs.declared.kind.Kind.TheVariants.{Text}
use Rattle.jr_model.specs.declared.event.Role.{Role}
use Rattle.jr_model.specs.declared.event.Role.TheVariants.{Outside, Within, Knocking, Announcing, Collecting}
use Rattle.jr_model.specs.declared.event.Found.TheVariants.{Object, Cleared, Stale}
use Rattle.jr_model.specs.declared.event.Event.{Event}
use Rattle.jr_model.specs.declared.event.Act.{Act}
use Rattle.jr_model.specs.declared.event.Act.TheVariants.{Gate, ShutBusy, Create, Look, Probe, Delete, DeleteStale}
use Rattle.jr_model.specs.declared.event.Act.TheVariants.{Clear, LocalPut, LocalDrop, Reserve, ReserveFull}
use Rattle.jr_model.specs.declared.event.Act.TheVariants.{ReserveLost, New, Read, Write, Drop, Settle, Meet}
use Rattle.jr_model.specs.declared.event.GateAct.{GateAct}
use Rattle.jr_model.specs.declared.event.GateAct.TheVariants.{Enter, Knock, Leave, Withdraw}
use Rattle.jr_model.specs.declared.event.GateAct.TheVariants.{Announce, Cancel, Shut, Reopen}
use Rattle.jr_model.specs.Maps.{update}
use Rattle.jr_model.specs.State.{Handle, same_handle, Contents, State, IsPresent, NobodyCloses, SomebodyCloses}
use Rattle.jr_model.specs.State.{AreOthers, present_words, IsWord, AreWords, IsClosed, IsReached, IsOccupied}

-- a handle that can be created: global or weak, of no owner, with an index and a serial of the room
abbrev pub IsInRow : Config → ℕ → Handle → Type 0
IsInRow c last h = (h.kind ≢ Local) × (h.owner ≡ 0) × (h.index < c.slots) × (h.serial ≤ last)

-- who may shut the gate is outside, or has announced that it will
abbrev pub MayShut : Role → Type 0
MayShut r = (r ≡ Outside) ⊎ (r ≡ Announcing)

-- THE ACTS AT THE GATE: from which role a thread goes by each
abbrev pub FromRole : GateAct → Role → Type 0
FromRole Enter r = r ≡ Outside
FromRole Knock r = r ≡ Outside
FromRole Leave r = r ≡ Within
FromRole Withdraw r = r ≡ Knocking
FromRole Announce r = r ≡ Outside
FromRole Cancel r = r ≡ Announcing
FromRole Shut r = MayShut r
FromRole Reopen r = r ≡ Collecting

-- and to which
abbrev pub role_behind : GateAct → Role
role_behind Enter = Within
role_behind Knock = Knocking
role_behind Announce = Announcing
role_behind Shut = Collecting
role_behind _ = Outside

-- what each needs beside that role
abbrev pub GateNeeds : State → ℕ → GateAct → Type 0
GateNeeds s t Enter = NobodyCloses s
GateNeeds s t Knock = SomebodyCloses s
GateNeeds s t Announce = NobodyCloses s
GateNeeds s t Shut = (u : ℕ) → u ≢ t → s.role u ≡ Outside
GateNeeds s t Reopen = IsClosed s
GateNeeds s t _ = Unit {0}

-- what the act of thread t needs of the state
abbrev pub ActNeeds : Config → ℕ → State → ℕ → Act → Type 0
ActNeeds c last s t (Gate a) = FromRole a (s.role t) × GateNeeds s t a
ActNeeds c last s t (ShutBusy n) = MayShut (s.role t) × AreOthers c s t n × (1 ≤ n)
ActNeeds c last s t (Create h o) =
    (s.role t ≡ Within) × IsPresent s o × IsInRow c last h
    × ((g : Handle) → g.index ≡ h.index → s.refs g ≡ Stale)
    × ((g : Handle) → g.index ≡ h.index → g.serial ≡ h.serial → s.given g ≡ false)
ActNeeds c last s t (Look h r) = (s.role t ≡ Within) × (s.refs h ≡ r)
ActNeeds c last s t (Probe i b) = (s.role t ≡ Within) × (IsTrue b ↔ IsOccupied last s i)
ActNeeds c last s t (Delete h) = (s.role t ≡ Within) × (s.refs h ≢ Stale)
ActNeeds c last s t (DeleteStale h) = (s.role t ≡ Within) × (s.refs h ≡ Stale)
ActNeeds c last s t (Clear h) =
    (s.role t ≡ Collecting) × (h.kind ≡ Weak) × (o : ℕ) × (s.refs h ≡ Object o) × ¬ (IsReached s o)
ActNeeds c last s t (LocalPut p o) = (s.role t ≡ Within) × (p < c.locals) × IsPresent s o
ActNeeds c last s t (LocalDrop p) = (s.role t ≡ Within) × (p < c.locals)
ActNeeds c last s t (Reserve n) = (s.role t ≡ Within) × (s.used + n ≤ c.words)
ActNeeds c last s t (ReserveFull n u) = (s.role t ≡ Within) × (u ≡ s.used) × (c.words < u + n)
ActNeeds c last s t (ReserveLost n l f) = (s.role t ≡ Within) × (f ≡ s.used) × (f ≢ l)
ActNeeds c last s t (New o k ws) = (s.role t ≡ Within) × (1 ≤ o) × (o ≤ c.objects) × (s.objects o ≡ None)
    × AreWords s k ws × (present_words c s + length ws ≤ s.used)
ActNeeds c last s t (Read o i v) =
    (s.role t ≡ Within) × (x : Contents) × (s.objects o ≡ Some x) × (slice_get x.words i ≡ Some v)
ActNeeds c last s t (Write o i v) = (s.role t ≡ Within) × (x : Contents) × (s.objects o ≡ Some x) × (x.kind ≢ Text)
    × (i < length x.words) × IsWord s x.kind v
ActNeeds c last s t (Drop o) =
    (s.role t ≡ Collecting) × IsPresent s o × ¬ (IsReached s o) × ((h : Handle) → h.kind ≡ Weak → s.refs h ≢ Object o)
ActNeeds c last s t (Settle u) = (s.role t ≡ Collecting) × (u ≡ present_words c s)
ActNeeds c last s t Meet = Unit {0}

-- what the event needs: its thread is one of the room, and its act has what it needs
abbrev pub Needs : Config → ℕ → State → Event → Type 0
Needs c last s e = (e.thread < c.threads) × ActNeeds c last s e.thread e.act

-- an object after v is written as its element i
abbrev pub written : Option Contents → ℕ → ℕ → Option Contents
written None i v = None
written (Some x) i v = Some (record { kind = x.kind; words = slice_set x.words i v })

-- the state after the act of thread t
abbrev pub act_after : State → ℕ → Act → State
act_after s t (Gate a) = record s { role = update nat_eq s.role t (role_behind a) }
act_after s t (Create h o) =
    record s { refs = update same_handle s.refs h (Object o); given = update same_handle s.given h true }
act_after s t (Delete h) = record s { refs = update same_handle s.refs h Stale }
act_after s t (Clear h) = record s { refs = update same_handle s.refs h Cleared }
act_after s t (LocalPut p o) = record s { locals = update nat_eq s.locals t (update nat_eq (s.locals t) p (Some o)) }
act_after s t (LocalDrop p) = record s { locals = update nat_eq s.locals t (update nat_eq (s.locals t) p None) }
act_after s t (Reserve n) = record s { used = s.used + n }
act_after s t (New o k ws) = record s { objects = update nat_eq s.objects o (Some (record { kind = k; words = ws })) }
act_after s t (Write o i v) = record s { objects = update nat_eq s.objects o (written (s.objects o) i v) }
act_after s t (Drop o) = record s { objects = update nat_eq s.objects o None }
act_after s t (Settle u) = record s { used = u }
-- no other act changes anything
act_after s t _ = s

-- the state after the event
abbrev pub after : State → Event → State
after s e = act_after s e.thread e.act

-- A STEP: the event leads from s to s'
abbrev pub Step : Config → ℕ → State → Event → State → Type 0
Step c last s e s' = Needs c last s e × (s' ≡ after s e)
