-- ONE HISTORY OF A ROOM, at each moment of its table, and its order, which is that of the table's operations.
use Rattle.std.specs.Prelude.{◌≡◌, ◌⊎◌, ℕ, List, [], ◌∷◌, ◌++◌, map, slice_set}
use Rattle.std.specs.List.{AllByRecursion}
use mathlib.Core.List.{IsPrefix}
use mathlib.Core.Option.{Option, some}
use lib.ListN.{get_elem?}
use Rattle.atomic_table.specs.Table.{Act as Taking, Step, stepped, opening}
use Rattle.jr_word.specs.declared.config.Config.{Config}
use Rattle.jr_model.specs.declared.event.Act.{Act}
use Rattle.jr_model.specs.declared.event.Event.{Event}
use Rattle.jr_model.specs.History.{History, by, IsLegal}
use Rattle.jr_model.specs.Laws.{KeepsTheLaws}
use Rattle.jr_steps.specs.declared.known.Known.{Known}
use Rattle.jr_steps.specs.Knowing.{Goes}
use Rattle.jr_rule.specs.declared.room.Room.{Room}
use Rattle.jr_rule.specs.declared.rule.View.{View}
use Rattle.jr_rule.specs.declared.cells.StepKind.{Ghosts}
use Rattle.jr_rule.specs.contracts.rule.MeetingPlayUnitView.TheImpl.{ghosts as meeting}
use Rattle.jr_rule.specs.contracts.rule.LearningPlayUnitView.TheImpl.{ghosts as learning}
use Rattle.jr_rule.specs.contracts.rule.CountingPlayUnitView.TheImpl.{ghosts as counting}
use Rattle.jr_rule.specs.contracts.rule.DealSplitView.TheImpl.{ghosts as deal}
use Rattle.jr_rule.specs.contracts.rule.LeaveFirstSplitView.TheImpl.{ghosts as leave_first}
use Rattle.jr_rule.specs.contracts.rule.JotSplitView.TheImpl.{ghosts as jot}
use Rattle.jr_rule.specs.contracts.rule.AgainSplitView.TheImpl.{ghosts as again}
use Rattle.jr_rule.specs.contracts.rule.GatherJoinView.TheImpl.{ghosts as gather}
use Rattle.jr_rule.specs.contracts.rule.RuleTableRuleUnitViewSizes.TheImpl.{ghosts as rule}
use Rattle.jr_rule.specs.Passes.{IsSeenIn}
use Rattle.jr_rule.specs.Rule.{Row, SeatState, Tells}

-- A MOMENT OF A ROOM: its table's own rule holds of the row, as the kit keeps it between any two operations
abbrev pub IsMoment : {LAST : ℕ} → Room LAST → Row → Type 0
IsMoment room r = rule.holds room.row.table.shared.key r

-- each of a seat's passes has seen a beginning of the history, with all events of its own; so has each of its notes
abbrev pub IsSeenAt : History → View → Type 0
IsSeenAt log v = AllByRecursion (IsSeenIn log) v.passes × AllByRecursion (λ n. IsPrefix n.seen log) v.notes

-- THE HISTORY AT A MOMENT: it is legal, keeps the laws, and is seen so at each seat; and no other one is
pub record IsHistoryAt (c : Config) (last : ℕ) (r : Row) (log : History) : Type 0 where
  pub legal : IsLegal c last log
  pub lawful : KeepsTheLaws log
  pub seen : AllByRecursion (IsSeenAt log) r.views
  pub only : (es : History) → IsLegal c last es → AllByRecursion (IsSeenAt es) r.views → es ≡ log

abbrev pub IsHistory : {LAST : ℕ} → Room LAST → Row → History → Type 0
IsHistory {LAST} room r log = IsHistoryAt room.row.config LAST r log

abbrev pub HaveOneHistory : Type 0
HaveOneHistory = (last : ℕ) (room : Room last) (r : Row) → IsMoment room r → (log : History) × IsHistory room r log

-- a seat's passes are cut in two so
abbrev pub Parts : View → View → View → Type 0
Parts v left right = (left.passes ++ right.passes ≡ v.passes) ⊎ (right.passes ++ left.passes ≡ v.passes)

-- WHAT AN OPERATION MAKES OF A ROW, in the kit's words, with the events that it adds. A word is changed or read, and
-- of the seat that did so the first pass has then done these acts, behind all that it had seen and what others did
-- since; or no word changes, and a seat's passes are cut in two, or two seats' joined; or there is a new seat
pub data Becomes (r : Row) : History → Row → Type 0 where
  steps : (i n id : ℕ) (taken : List (ℕ × Unit {0})) (a : Taking (Unit {0})) (v w : View) (k k' : Known)
      (ks : List Known) (acts : List Act) → get_elem? r.views id ≡ some v → v.passes ≡ k ∷ ks → w.passes ≡ k' ∷ ks
      → Goes k acts k' → Becomes r (map (by k.thread) acts) (stepped r i n id taken w a)
  cuts : (id : ℕ) (v left right : View) → get_elem? r.views id ≡ some v → Parts v left right
      → Becomes r [] (record r { views = slice_set r.views id left ++ right ∷ [] })
  joins : (id other : ℕ) (v w both none : View) → get_elem? r.views id ≡ some v
      → get_elem? (slice_set r.views id both) other ≡ some w → both.passes ≡ v.passes ++ w.passes → none.passes ≡ []
      → Becomes r [] (record r { views = slice_set (slice_set r.views id both) other none })
  enters : (words : List ℕ) (homes : List (Option (Unit {0}))) (w : View)
      → Becomes r [] (record { words = words; homes = homes; views = r.views ++ w ∷ [] })

-- A RUN OF A ROOM from one moment to a later one, operation by operation, with the events that they add in their order
pub data Run (last : ℕ) (room : Room last) (r : Row) : History → Row → Type 0 where
  begins : IsMoment room r → Run last room r [] r
  goes_on : (es fs : History) (s s' : Row) → Run last room r es s → Becomes s fs s' → IsMoment room s'
      → Run last room r (es ++ fs) s'

-- where the room is opened nothing has happened
abbrev pub OpensWithNothing : Type 0
OpensWithNothing = (last : ℕ) (room : Room last) (words : List ℕ) →
    let r : Row = opening words [] (rule.first room.row.table.shared.key) in IsMoment room r → IsHistory room r []

-- THE ORDER OF THE HISTORY IS THE ORDER OF THE OPERATIONS:
-- along a run the history grows at its end, by the events of the operations as they come
abbrev pub GoesByOperations : Type 0
GoesByOperations = (last : ℕ) (room : Room last) (r s : Row) (es log : History) → Run last room r es s
    → IsHistory room r log → IsHistory room s (log ++ es)

-- WHO TOOK THE LAST EVENT HAS SEEN THE WHOLE: it stands behind all that anybody has seen
abbrev pub StandsBehindAll : Type 0
StandsBehindAll = (last : ℕ) (room : Room last) (r : Row) (es : History) (e : Event) → IsHistory room r (es ++ e ∷ [])
    → AllByRecursion (λ v. AllByRecursion (λ k. k.thread ≡ e.thread → k.seen ≡ es ++ e ∷ []) v.passes) r.views

-- WHAT A KIND OF STEP TELLS OF A SEAT with a pass is what such an operation makes of the row
abbrev pub TellsOfOperations : (Step (Unit {0}) → SeatState → ℕ → SeatState → Type 0) → Type 0
TellsOfOperations tells = (r : Row) (s : Step (Unit {0})) (n id found : ℕ) (a : Taking (Unit {0})) (m m' : SeatState)
    (k : Known) (ks : List Known) → get_elem? r.views id ≡ some m.0 → m.0.passes ≡ k ∷ ks → tells s m found m'
    → (acts : List Act) × Becomes r (map (by k.thread) acts) (stepped r s.word n id m.1 m'.0 a)

-- what the seats of a room tell at an operation: at a step of a kind, a meeting, a note that is learned, and a closing
abbrev pub AllTellOfOperations : {T : Type 0} → Ghosts T → Type 0
AllTellOfOperations kind = TellsOfOperations (λ s m n m'. Tells kind.told m n m') × TellsOfOperations meeting.then
    × TellsOfOperations learning.then × TellsOfOperations counting.then

-- how its seats are cut in two, and joined
abbrev pub AllPart : Type 0
AllPart = ((v : View) (k : Known) (ks : List Known) → v.passes ≡ k ∷ ks → Parts v (deal.left v) (deal.right v)
    × Parts v (leave_first.left v) (leave_first.right v) × Parts v (jot.left v) (jot.right v)
    × Parts v (again.left v) (again.right v))
    × ((v w : View) → (gather.both v w).passes ≡ v.passes ++ w.passes) × (gather.spent.passes ≡ [])
