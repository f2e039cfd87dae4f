-- THE MACHINE, RUN:
-- whether an event may come, by tests of what stands within the room's bounds and of the handles that were given.
use Rattle.std.specs.Prelude.{◌↔◌, ◌+◌, ◌==◌, ◌&&◌, ◌||◌, ◌^◌, ℕ, zero, suc, min, Bool, true}
use Rattle.std.specs.Prelude.{false, IsTrue, not, if◌then◌else◌, nat_eq, nat_lt, nat_le}
use Rattle.std.specs.Prelude.{Option, Some, None, is_some, List, [], ◌∷◌, length, slice_get}
use Rattle.std.specs.List.{filter, list_any, list_all}
use Rattle.jr_word.specs.declared.config.Config.{Config}
use Rattle.jr_word.specs.declared.handle.RefKind.TheVariants.{Local, Global, Weak}
use Rattle.jr_word.specs.declared.kind.Kind.{Kind}
use Rattle.jr_word.specs.declared.kind.Kind.TheVariants.{Plain, Boolean, Byte, Char, Short, Int, Long, Objects, Text}
use Rattle.jr_model.specs.declared.event.Role.{Role}
use Rattle.jr_model.specs.declared.event.Role.TheVariants.{Outside, Within, Knocking, Announcing, Collecting}
use Rattle.jr_model.specs.declared.event.Found.{Found}
use Rattle.jr_model.specs.declared.event.Found.TheVariants.{Object, Cleared, Stale}
use Rattle.jr_model.specs.declared.event.Event.{Event}
use Rattle.jr_model.specs.declared.event.Act.{Act}
use Rattle.jr_model.specs.declared.event.Act.TheVariants.{Gate, ShutBusy, Create, Look, Probe, Delete, DeleteStale}
use Rattle.jr_model.specs.declared.event.Act.TheVariants.{Clear, LocalPut, LocalDrop, Reserve, ReserveFull}
use Rattle.jr_model.specs.declared.event.Act.TheVariants.{ReserveLost, New, Read, Write, Drop, Settle, Meet}
use Rattle.jr_model.specs.declared.event.GateAct.{GateAct}
use Rattle.jr_model.specs.declared.event.GateAct.TheVariants.{Enter, Knock, Leave, Withdraw}
use Rattle.jr_model.specs.declared.event.GateAct.TheVariants.{Announce, Cancel, Shut, Reopen}
use Rattle.jr_model.specs.State.{Handle, same_kind, Contents, State, opening, is_barring}
use Rattle.jr_model.specs.State.{is_outside, is_there, not_outside, present_words}
use Rattle.jr_model.specs.Checks.{is_objects, is_text}
use Rattle.jr_model.specs.Steps.{Needs, after}
use Rattle.jr_model.specs.History.{History, state, IsLegal}

-- the numbers below n
abbrev pub below : ℕ → List ℕ
below zero = []
below (suc n) = n ∷ below n

-- both roles are one
abbrev pub same_role : Role → Role → Bool
same_role Outside Outside = true
same_role Within Within = true
same_role Knocking Knocking = true
same_role Announcing Announcing = true
same_role Collecting Collecting = true
same_role _ _ = false

-- both looks found the same
abbrev pub same_found : Found → Found → Bool
same_found (Object o) (Object p) = o == p
same_found Cleared Cleared = true
same_found Stale Stale = true
same_found _ _ = false

abbrev pub same_answer : Bool → Bool → Bool
same_answer true b = b
same_answer false b = not b

-- v stands there
abbrev pub is_word_there : Option ℕ → ℕ → Bool
is_word_there None v = false
is_word_there (Some w) v = w == v

-- v may be an element of an object of the kind
abbrev pub is_word : State → Kind → ℕ → Bool
is_word s Plain v = false
is_word s Boolean v = nat_lt v 2
is_word s Byte v = nat_lt v (2 ^ 8)
is_word s Char v = nat_lt v (2 ^ 16)
is_word s Short v = nat_lt v (2 ^ 16)
is_word s Int v = nat_lt v (2 ^ 32)
is_word s Long v = nat_lt v (2 ^ 64)
is_word s Objects v = (v == 0) || is_some (s.objects v)
is_word s Text v = nat_lt v (2 ^ 16)

-- THE GATE

-- who may shut the gate is outside, or has announced that it will
abbrev pub may_shut : Role → Bool
may_shut r = same_role r Outside || same_role r Announcing

-- from which role a thread goes by each act
abbrev pub from_role : GateAct → Role → Bool
from_role Enter r = same_role r Outside
from_role Knock r = same_role r Outside
from_role Leave r = same_role r Within
from_role Withdraw r = same_role r Knocking
from_role Announce r = same_role r Outside
from_role Cancel r = same_role r Announcing
from_role Shut r = may_shut r
from_role Reopen r = same_role r Collecting

-- a thread of the room keeps the gate closed
abbrev pub somebody_closes : Config → State → Bool
somebody_closes c s = list_any (λ t. is_barring (s.role t)) (below c.threads)

-- what stands there has only 0 and present objects, where it is an object array
abbrev pub is_closed_at : State → Option Contents → Bool
is_closed_at s None = true
is_closed_at s (Some x) = not (is_objects x.kind) || list_all (is_word s Objects) x.words

-- what each act at the gate needs beside its role
abbrev pub gate_may : Config → State → ℕ → GateAct → Bool
gate_may c s t Enter = not (somebody_closes c s)
gate_may c s t Knock = somebody_closes c s
gate_may c s t Announce = not (somebody_closes c s)
gate_may c s t Shut = list_all (λ u. (u == t) || is_outside (s.role u)) (below c.threads)
gate_may c s t Reopen = list_all (λ o. is_closed_at s (s.objects o)) (below (c.objects + 1))
gate_may c s t _ = true

-- WHAT IS REACHED

-- a global reference names the object, or a local one of any thread
abbrev pub is_root : Config → List Handle → State → ℕ → Bool
is_root c given s o =
    list_any (λ (h : Handle). same_kind h.kind Global && same_found (s.refs h) (Object o)) given
    || list_any (λ t. list_any (λ p. is_word_there (s.locals t p) o) (below c.locals)) (below c.threads)

-- what stands there is an object array with this element
abbrev pub has_element : Option Contents → ℕ → Bool
has_element None o = false
has_element (Some x) o = is_objects x.kind && list_any (nat_eq o) x.words

-- the present objects that are among these, or elements of one of them
abbrev pub grown : Config → State → List ℕ → List ℕ
grown c s os =
    filter (λ o. is_some (s.objects o) && (list_any (nat_eq o) os || list_any (λ a. has_element (s.objects a) o) os))
    (below (c.objects + 1))

-- the objects that are reached through at most so many others
unfoldable pub reached_within : Config → List Handle → State → ℕ → List ℕ
reached_within c given s zero = filter (λ o. is_some (s.objects o) && is_root c given s o) (below (c.objects + 1))
reached_within c given s (suc n) = grown c s (reached_within c given s n)

-- the object is reached. A way through more objects than the room has comes by one of them twice
abbrev pub is_reached : Config → List Handle → State → ℕ → Bool
is_reached c given s o = list_any (nat_eq o) (reached_within c given s (c.objects + 1))

-- SLOTS

-- a handle that can be created
abbrev pub is_in_row : Config → ℕ → Handle → Bool
is_in_row c last h = not (same_kind h.kind Local) && (h.owner == 0) && nat_lt h.index c.slots && nat_le h.serial last

-- a handle of the index and the serial was given
abbrev pub is_given : List Handle → ℕ → ℕ → Bool
is_given given i n = list_any (λ (h : Handle). (h.index == i) && (h.serial == n)) given

-- a reference of the index stands
abbrev pub is_standing : List Handle → State → ℕ → Bool
is_standing given s i = list_any (λ (h : Handle). (h.index == i) && is_there (s.refs h)) given

-- nothing can be created at the index. So many handles leave one of as many serials and one more ungiven
abbrev pub is_index_taken : ℕ → List Handle → State → ℕ → Bool
is_index_taken last given s i =
    is_standing given s i || list_all (is_given given i) (below (min (last + 1) (length given + 1)))

-- OBJECTS

-- what stands there has the word at the element
abbrev pub has_word : Option Contents → ℕ → ℕ → Bool
has_word None i v = false
has_word (Some x) i v = is_word_there (slice_get x.words i) v

-- and may have it there
abbrev pub takes_word : State → Option Contents → ℕ → ℕ → Bool
takes_word s None i v = false
takes_word s (Some x) i v = not (is_text x.kind) && nat_lt i (length x.words) && is_word s x.kind v

-- what a cleared reference named is not reached
abbrev pub is_lost : Config → List Handle → State → Found → Bool
is_lost c given s (Object o) = not (is_reached c given s o)
is_lost c given s _ = false

-- the reference is weak, and names the object
abbrev pub is_weak_to : State → ℕ → Handle → Bool
is_weak_to s o h = same_kind h.kind Weak && same_found (s.refs h) (Object o)

-- WHETHER THE ACT OF THREAD t MAY COME, where these handles were given
abbrev pub act_may : Config → ℕ → List Handle → State → ℕ → Act → Bool
act_may c last given s t (Gate a) = from_role a (s.role t) && gate_may c s t a
act_may c last given s t (ShutBusy n) =
    may_shut (s.role t) && (not_outside c s == n + (if is_outside (s.role t) then 0 else 1)) && nat_le 1 n
act_may c last given s t (Create h o) =
    same_role (s.role t) Within && is_some (s.objects o) && is_in_row c last h
    && not (is_standing given s h.index) && not (is_given given h.index h.serial)
act_may c last given s t (Look h r) = same_role (s.role t) Within && same_found (s.refs h) r
act_may c last given s t (Probe i b) = same_role (s.role t) Within && same_answer b (is_index_taken last given s i)
act_may c last given s t (Delete h) = same_role (s.role t) Within && is_there (s.refs h)
act_may c last given s t (DeleteStale h) = same_role (s.role t) Within && not (is_there (s.refs h))
act_may c last given s t (Clear h) =
    same_role (s.role t) Collecting && same_kind h.kind Weak && is_lost c given s (s.refs h)
act_may c last given s t (LocalPut p o) = same_role (s.role t) Within && nat_lt p c.locals && is_some (s.objects o)
act_may c last given s t (LocalDrop p) = same_role (s.role t) Within && nat_lt p c.locals
act_may c last given s t (Reserve n) = same_role (s.role t) Within && nat_le (s.used + n) c.words
act_may c last given s t (ReserveFull n u) = same_role (s.role t) Within && (u == s.used) && nat_lt c.words (u + n)
act_may c last given s t (ReserveLost n l f) = same_role (s.role t) Within && (f == s.used) && not (f == l)
act_may c last given s t (New o k ws) =
    same_role (s.role t) Within && nat_le 1 o && nat_le o c.objects && not (is_some (s.objects o))
    && (list_all (is_word s k) ws && nat_le (present_words c s + length ws) s.used)
act_may c last given s t (Read o i v) = same_role (s.role t) Within && has_word (s.objects o) i v
act_may c last given s t (Write o i v) = same_role (s.role t) Within && takes_word s (s.objects o) i v
act_may c last given s t (Drop o) =
    same_role (s.role t) Collecting && is_some (s.objects o)
    && not (is_reached c given s o) && not (list_any (is_weak_to s o) given)
act_may c last given s t (Settle u) = same_role (s.role t) Collecting && (u == present_words c s)
act_may c last given s t Meet = true

-- whether the event may come
abbrev pub may : Config → ℕ → List Handle → State → Event → Bool
may c last given s e = nat_lt e.thread c.threads && act_may c last given s e.thread e.act

-- the handles that were given after the act
abbrev pub given_after : List Handle → Act → List Handle
given_after given (Create h o) = h ∷ given
given_after given _ = given

-- the handles that were given after the events
abbrev pub given_from : List Handle → History → List Handle
given_from given [] = given
given_from given (e ∷ es) = given_from (given_after given e.act) es

-- whether the events may come, one after the other, from s
abbrev pub may_from : Config → ℕ → List Handle → State → History → Bool
may_from c last given s [] = true
may_from c last given s (e ∷ es) = may c last given s e && may_from c last (given_after given e.act) (after s e) es

-- whether the history is legal
abbrev pub is_legal : Config → ℕ → History → Bool
is_legal c last es = may_from c last [] opening es

-- the test of a history tells whether it is legal
abbrev pub LegalIsDecided : Config → ℕ → Type 0
LegalIsDecided c last = (es : History) → IsTrue (is_legal c last es) ↔ IsLegal c last es

-- and behind a legal history the test of an event tells whether it has what it needs
abbrev pub EventIsDecided : Config → ℕ → Type 0
EventIsDecided c last = (es : History) (e : Event) → IsLegal c last es
    → IsTrue (may c last (given_from [] es) (state es) e) ↔ Needs c last (state es) e
