-- What a room gives, and what it tells when it closes.
use Rattle.std.specs.Prelude.{◌≡◌, ◌+◌, ◌≤◌, ℕ, List, [], ◌∷◌, Some, map}
use Rattle.std.specs.List.{All, AllByRecursion}
use mathlib.Core.List.{IsPrefix}
use Rattle.jr_word.specs.declared.config.Config.{Config}
use Rattle.jr_word.specs.declared.fault.Fault.TheVariants.{LeftInside}
use Rattle.jr_model.specs.declared.event.Act.TheVariants.{Meet}
use Rattle.jr_model.specs.declared.event.Role.TheVariants.{Outside}
use Rattle.jr_model.specs.State.{not_outside}
use Rattle.jr_model.specs.History.{History}
use Rattle.jr_rule.specs.declared.closing.Left.{Left}
use Rattle.jr_rule.specs.declared.closing_all.AllLeft.{AllLeft}
use Rattle.jr_rule.specs.declared.note.Note.{Note}
use Rattle.jr_rule.specs.declared.pass.Pass.{Pass}
use Rattle.jr_rule.specs.declared.pinned_note.PinnedNote.{PinnedNote}
use Rattle.jr_rule.specs.declared.room.Room.{Room}
use Rattle.jr_steps.specs.declared.known.Known.{Known}
use Rattle.jr_steps.specs.Knowing.{anything, keeps, state_of, Goes, Took}
use Rattle.jr_rule.specs.declared.cells.Cells.{Ghosts}
use Rattle.jr_rule.specs.declared.over.StepsOver.{StepsOver}
use Rattle.jr_rule.specs.declared.row.RoomCells.{RoomCells}
use Rattle.jr_rule.specs.Passes.{Holder, facts_of, gathered, holder_of, joints_of, known_of, stands_of}
use Rattle.jr_rule.specs.Passes.{HasEachPass, IsAt, IsSeenIn, AreOpened}
use Rattle.jr_rule.specs.Rule.{joints_at, noted_pass, stepping_pass}

-- THE PASS IS ONE OF THE ROOM'S OWN
abbrev pub IsOfRoom : {LAST : ℕ} → Room LAST → Pass → Type 0
IsOfRoom r p = IsAt r.row p

-- the steps of a pass are made of what it is made of
abbrev pub holder_over : {P : Type 0} {G : Ghosts RoomCells P} → StepsOver RoomCells P G → Holder
holder_over s = record { seat = s.cells.seat; thread = s.cells.thread; role = s.role; fresh = s.fresh; hint = s.hint }

-- THE COUNT OF JOINS AND PARTINGS of seats that steps have, each of which is a load of the gate. An operation on a word
-- leaves it as it is (`counted` of `Cells`), and a step's body is over any cells, so that it has such operations alone.
-- Who joins another takes over its count. A seat without a pass has none, and can't be cut
abbrev pub joints_over : {P : Type 0} {G : Ghosts RoomCells P} → StepsOver RoomCells P G → ℕ
joints_over s = joints_at s.cells.seat.me

-- BOTH STEP IN ONE ROOM, by their standing
abbrev pub AreInOneRoom : {P Q : Type 0} {G : Ghosts RoomCells P} {H : Ghosts RoomCells Q} → StepsOver RoomCells P G
    → StepsOver RoomCells Q H → Type 0
AreInOneRoom s t = (facts_of (holder_over s)).stands.room ≡ (facts_of (holder_over t)).stands.room

-- THE STEPS ARE AS THEY WERE, but for their count of joins and partings: in the same room, of the same
-- thread, which stands as it did, knows what it knew, and begins its next search where it would have
pub record AreAsBefore {P : Type 0} {G : Ghosts RoomCells P} (old new : StepsOver RoomCells P G) : Type 0 where
  pub place : new.place ≡ old.place
  pub room : new.cells.seat.table_id ≡ old.cells.seat.table_id
  pub knows : stepping_pass new.cells.seat.me ≡ stepping_pass old.cells.seat.me
  pub thread : new.cells.thread ≡ old.cells.thread
  pub role : new.role ≡ old.role
  pub fresh : new.fresh ≡ old.fresh
  pub hint : new.hint ≡ old.hint

-- THE NOTE IS OF THE ROOM in which one steps, by the standing
abbrev pub IsNoteThere : {P : Type 0} {G : Ghosts RoomCells P} → StepsOver RoomCells P G → Note → Type 0
IsNoteThere s n = (facts_of (holder_over s)).stands.room ≡ Some n.seat.table_id

-- what the note says was seen
abbrev pub seen_by_note : Note → History
seen_by_note n = (noted_pass n.seat.me).seen

-- the count of joins and partings that the note has
abbrev pub joints_of_note : Note → ℕ
joints_of_note n = joints_at n.seat.me

-- A NOTE WAS MADE: it says all that the thread has seen
abbrev pub WasNoted : {P : Type 0} {G : Ghosts RoomCells P} → StepsOver RoomCells P G → Note → Type 0
WasNoted s n = seen_by_note n ≡ (stepping_pass s.cells.seat.me).seen

-- ALL THAT THE NOTE SAYS WAS SEEN
abbrev pub Learned : {P : Type 0} {G : Ghosts RoomCells P} → Note → StepsOver RoomCells P G → Type 0
Learned n s = IsPrefix (seen_by_note n) (stepping_pass s.cells.seat.me).seen

-- THE PINNED NOTE IS OF THE ROOM in which one steps, by the standing
abbrev pub IsPinnedThere : {P : Type 0} {G : Ghosts RoomCells P} → StepsOver RoomCells P G → PinnedNote → Type 0
IsPinnedThere s p = (facts_of (holder_over s)).stands.room ≡ Some p.perch.table_id

-- what the pinned note says was seen
abbrev pub seen_by_pinned : PinnedNote → History
seen_by_pinned p = (noted_pass (p.perch.view, [])).seen

-- the count that the pinned note has. A perch hands out the view that it was made with: so its exchanges are in
-- no count. Who learns it has the count of its join, and of the parting by which the note leaves again
abbrev pub joints_of_pinned : PinnedNote → ℕ
joints_of_pinned p = p.perch.view.joints

-- A NOTE WAS PINNED: it says what it said, is of the room that it was of, and has the count that it had
pub record IsPinned (n : Note) (p : PinnedNote) : Type 0 where
  pub room : p.perch.table_id ≡ n.seat.table_id
  pub seen : seen_by_pinned p ≡ seen_by_note n
  pub counted : joints_of_pinned p ≡ joints_of_note n

-- a pinned note was made: it says all that the thread has seen
abbrev pub WasPinned : {P : Type 0} {G : Ghosts RoomCells P} → StepsOver RoomCells P G → PinnedNote → Type 0
WasPinned s p = seen_by_pinned p ≡ (stepping_pass s.cells.seat.me).seen

-- ALL THAT THE PINNED NOTE SAYS WAS SEEN
abbrev pub LearnedPinned : {P : Type 0} {G : Ghosts RoomCells P} → PinnedNote → StepsOver RoomCells P G → Type 0
LearnedPinned p s = IsPrefix (seen_by_pinned p) (stepping_pass s.cells.seat.me).seen

-- a room as it was opened, with its passes
abbrev pub IsOpening : (LAST : ℕ) → Config → Room LAST → List Pass → Type 0
IsOpening LAST c r passes = AreOpened c LAST r.row passes

-- A ROOM IS NOT CLOSED: the pass found so many threads inside, knocking,
-- announcing or collecting, and has the room back, and itself with this look
pub record IsLeft {LAST : ℕ} (r : Room LAST) (p : Pass) (l : Left LAST) : Type 0 where
  pub count : ℕ
  pub fault : l.fault ≡ LeftInside count
  pub some : 1 ≤ count
  pub is : count ≡ not_outside (known_of l.pass).config (state_of (known_of l.pass))
  pub same : l.room ≡ r
  pub of_room : IsAt r.row l.pass
  pub took : Took facts_of (holder_of p) (holder_of l.pass) (Meet ∷ []) anything keeps

-- A ROOM IS NOT CLOSED WITH ALL THESE PASSES, of which the first looked at the gate: the others stand as they
-- did and are of the room; what the look saw begins with all that each of them has seen, and has no more of
-- their events; and where each thread of the room has its pass among all these, some pass is not outside.
-- The first has the count of all then, with a join for each other and three joins and partings more; and
-- each other has the one parting by which it left again
pub record AreLeft {LAST : ℕ} (r : Room LAST) (p : Pass) (others : List Pass) (l : AllLeft LAST) : Type 0 where
  pub left : IsLeft r p l.left
  pub same_others : map stands_of l.others.items ≡ map stands_of others
  pub of_room : All (λ q. IsAt r.row q) l.others.items
  pub seen : AllByRecursion (IsSeenIn (known_of l.left.pass).seen) (map known_of others)
  pub somebody : HasEachPass r.row.config (map known_of (p ∷ others))
      → ¬ (AllByRecursion (λ q. q.role ≡ Outside) (p ∷ others))
  pub counted : joints_of l.left.pass ≡ joints_of p + gathered others + 3
  pub dealt : All (λ q. joints_of q ≡ 1) l.others.items

-- THE PASS LOOKED AT THE GATE: it knows what it had, what others did since, and its
-- look, and that so many threads are inside, knocking, announcing or collecting
pub record CountsInside (k k' : Known) (count : ℕ) : Type 0 where
  pub goes : Goes k (Meet ∷ []) k'
  pub is : count ≡ not_outside k'.config (state_of k')
