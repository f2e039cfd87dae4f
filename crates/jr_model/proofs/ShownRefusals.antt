-- What the acts of a call show of its refusal.
use Rattle.std.proofs.Common.{◌≡◌, ℕ, Bool, true, false, Option, Some, None, List, [], ◌∷◌, ◌++◌, refl, sym, ap, ◌∙◌}
use Rattle.std.proofs.Common.{append_assoc}
use Rattle.std.specs.List.{AllByRecursion}
use Rattle.jr_word.specs.declared.fault.Fault.{Fault}
use Rattle.jr_word.specs.declared.fault.Fault.TheVariants.{SpaceFull, Raced, Barred, Busy, Moved}
use Rattle.jr_model.specs.declared.event.Act.{Act}
use Rattle.jr_model.specs.declared.event.Act.TheVariants.{Gate, ShutBusy, ReserveFull, ReserveLost}
use Rattle.jr_model.specs.declared.event.GateAct.TheVariants.{Knock}
use Rattle.jr_model.specs.Tests.{is_silent}
use Rattle.jr_model.proofs.Exactly.{append_all}
use Rattle.jr_model.proofs.OwnActs.{IsAmong}

-- what a call is after: so many words of space, and whether it announces a collection
pub record Purpose : Type 0 where
  pub words : ℕ
  pub announces : Bool

-- so many words, and nothing announced
abbrev pub words_alone : ℕ → Purpose
words_alone n = record { words = n; announces = false }

-- the act that such a call is refused at, where there is just one such
abbrev pub refused_at : Purpose → Fault → Option Act
refused_at asked (SpaceFull used) = Some (ReserveFull asked.words used)
refused_at asked Barred = Some (Gate Knock)
refused_at asked (Busy n) = Some (ShutBusy n)
refused_at asked _ = None

-- that act, where there is one, is among the acts
abbrev pub HasAct : Option Act → List Act → Type 0
HasAct None acts = Unit {0}
HasAct (Some a) acts = IsAmong a acts

-- where the act loses a reservation, that is of so many words
abbrev pub LosesOnly : Option ℕ → Act → Type 0
LosesOnly lost (ReserveLost n l f) = lost ≡ Some n
LosesOnly lost _ = Unit {0}

abbrev pub LoseOnly : Option ℕ → List Act → Type 0
LoseOnly lost acts = AllByRecursion (LosesOnly lost) acts

-- a reservation is lost where that is the refusal, and it is the one that was asked for
abbrev pub lost_at : Purpose → Fault → Option ℕ
lost_at asked (Raced l f) = Some asked.words
lost_at asked _ = None

-- no call but one that announces finds that the gate has moved
abbrev pub FindsMoved : Purpose → Fault → Type 0
FindsMoved asked (Moved l f) = asked.announces ≡ true
FindsMoved asked _ = Unit {0}

-- the acts show the refusal
abbrev pub IsShown : Purpose → Fault → List Act → Type 0
IsShown asked e acts = HasAct (refused_at asked e) acts × LoseOnly (lost_at asked e) acts × FindsMoved asked e

-- no act shows such a refusal, and any call may have it
abbrev pub is_unshown : Fault → Bool
is_unshown (SpaceFull used) = false
is_unshown Barred = false
is_unshown (Busy n) = false
is_unshown (Moved l f) = false
is_unshown _ = true

-- who says nothing of the room is not shown
pub silent_unshown : (e : Fault) → is_silent e ≡ true → is_unshown e ≡ true
silent_unshown (SpaceFull used) is = absurd cc
silent_unshown Barred is = absurd cc
silent_unshown (Busy n) is = absurd cc
silent_unshown (Moved l f) is = absurd cc
silent_unshown _ is = refl

pub unshown_is : (asked : Purpose) (e : Fault) → is_unshown e ≡ true → IsShown asked e []
unshown_is asked (SpaceFull used) is = absurd cc
unshown_is asked Barred is = absurd cc
unshown_is asked (Busy n) is = absurd cc
unshown_is asked (Moved l f) is = absurd cc
unshown_is asked _ is = (tt, tt, tt)

-- who loses none loses no others
lost_one : (lost : Option ℕ) (a : Act) → LosesOnly None a → LosesOnly lost a
lost_one lost (ReserveLost n l f) none = absurd cc
lost_one lost _ none = tt

lost_none : (lost : Option ℕ) (acts : List Act) → LoseOnly None acts → LoseOnly lost acts
lost_none lost [] none = tt
lost_none lost (a ∷ acts) none = (lost_one lost a none.0, lost_none lost acts none.1)

has_behind : (a : Option Act) (front acts : List Act) → HasAct a acts → HasAct a (front ++ acts)
has_behind None front acts h = tt
has_behind (Some a) front acts h =
    (front ++ h.0, h.1, ap (λ l. front ++ l) h.2 ∙ sym (append_assoc front h.0 (a ∷ h.1)))

has_before : (a : Option Act) (acts rest : List Act) → HasAct a acts → HasAct a (acts ++ rest)
has_before None acts rest h = tt
has_before (Some a) acts rest h = (h.0, h.1 ++ rest, ap (λ l. l ++ rest) h.2 ∙ append_assoc h.0 (a ∷ h.1) rest)

pub shown_behind : (asked : Purpose) (e : Fault) (front acts : List Act) → LoseOnly None front → IsShown asked e acts
    → IsShown asked e (front ++ acts)
shown_behind asked e front acts l h = (
  has_behind (refused_at asked e) front acts h.0,
  append_all (LosesOnly (lost_at asked e)) front acts (lost_none (lost_at asked e) front l) h.1,
  h.2,
)

pub shown_before : (asked : Purpose) (e : Fault) (acts rest : List Act) → LoseOnly None rest → IsShown asked e acts
    → IsShown asked e (acts ++ rest)
shown_before asked e acts rest l h = (
  has_before (refused_at asked e) acts rest h.0,
  append_all (LosesOnly (lost_at asked e)) acts rest h.1 (lost_none (lost_at asked e) rest l),
  h.2,
)
