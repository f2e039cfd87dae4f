-- A look at the gate beside another's pass, or beside a note, is a step of the pass that looks.
use Rattle.std.specs.Arc.{arc_value}
use Rattle.std.proofs.Common.{◌≡◌, ℕ, Option, Some, List, refl, sym, ap, ◌∙◌}
use Rattle.atomic_table.specs.Seated.{TableId}
use Rattle.jr_word.specs.declared.config.Config.{Config}
use Rattle.jr_model.specs.declared.event.Act.{Act}
use Rattle.jr_model.specs.History.{role_from}
use Rattle.jr_steps.specs.Knowing.{Goes, Took, anything, fresh_from, keeps}
use Rattle.jr_rule.specs.declared.cells.Cells.{Ghosts}
use Rattle.jr_rule.specs.declared.over.StepsOver.{StepsOver}
use Rattle.jr_rule.specs.declared.room.Room.{Room}
use Rattle.jr_rule.specs.declared.owned_cells.OwnedCells.{OwnedCells}
use Rattle.jr_rule.specs.declared.row.RoomCells.{RoomCells}
use Rattle.jr_rule.specs.Cells.{HasStepped, InRole, IsStanding, Sight}
use Rattle.jr_rule.specs.CellLaws.{some_of}
use Rattle.jr_rule.specs.Passes.{Holder, facts_of}
use Rattle.jr_rule.specs.Rule.{LookedBy, LooksBy, stepping_pass}
use Rattle.jr_rule.specs.Sights.{sight_of_seat}
use Rattle.jr_rule.specs.OwnedSites.{IsOwnedIn}
use Rattle.jr_rule.specs.Sites.{IsAtThread, IsSeatedIn}
use Rattle.jr_rule.proofs.SeatStepped.{seat_stepped, seat_went}
use Rattle.jr_rule.proofs.StepTaken.{Leaves, Reads, may_any, leads_next, leaves, standing_next, its_acts}
use Rattle.jr_rule.proofs.Told.{plainly}

-- an owner's steps are made of what a pass is made of
abbrev pub owner_over : {LAST : ℕ} {P : Type 0} {G : Ghosts (OwnedCells LAST) P} → StepsOver (OwnedCells LAST) P G
    → Holder
owner_over s = record {
  seat = s.cells.cells.seat;
  thread = s.cells.cells.thread;
  role = s.role;
  fresh = s.fresh;
  hint = s.hint;
}

-- the cells that the holder stepped by are these afterwards; the acts change neither its role nor whether it is fresh
module _ {acts : List Act} (h : Holder) (x : RoomCells) (table : x.seat.table_id ≡ h.seat.table_id)
    (looked : LooksBy acts h.seat.me x.seat.me)
    (same_role : h.role ≡ role_from h.role acts) (same_fresh : h.fresh ≡ fresh_from h.fresh acts) where
  abbrev before : Sight
  before = sight_of_seat h.seat.table_id h.seat.me

  abbrev behind : Sight
  behind = sight_of_seat x.seat.table_id x.seat.me

  stepped : HasStepped before behind (InRole h.role anything) (LookedBy acts) looked.0
  stepped = seat_stepped looked.1 table

  reads : Reads before h.role anything (LookedBy acts) looked.0 (λ k. acts) keeps
  reads = plainly (λ k k' done u. u)

  left : Leaves before h.role anything (LookedBy acts) looked.0 h.role h.role h.fresh h.fresh
  left = leaves reads (λ k. same_role) (λ k. same_fresh)

  -- the thread stands as it must
  pub look_stands : IsStanding before h.role h.fresh h.hint → IsStanding behind h.role h.fresh h.hint
  look_stands s = standing_next stepped left refl s (some_of before h.role h.fresh h.hint s)

  -- the step was taken
  pub look_took : Took facts_of h (record h { seat = x.seat; thread = x.thread }) acts anything keeps
  look_took = record {
    stands_is = λ i. record (stepped.first i) { role = same_role i; fresh = same_fresh i };
    hint_is = refl;
    goes = leads_next stepped left refl reads;
  }

  -- and what the pass has seen is what this made of what it had
  pub look_went : IsStanding before h.role h.fresh h.hint
      → Goes (stepping_pass h.seat.me) acts (stepping_pass x.seat.me)
  look_went s = seat_went looked.1 (may_any before refl s) acts (its_acts reads)

-- cells at their site are there still, as long as they are of the same thread and room
pub thread_next : {LAST : ℕ} {site : Option TableId} {sizes : Config} {thread : ℕ} {s x : RoomCells} {room : Room LAST}
    → IsAtThread site sizes thread s room → IsSeatedIn x room
    → (x.thread ≡ s.thread) × (x.seat.table_id ≡ s.seat.table_id) → IsAtThread site sizes thread x room
thread_next at there same = record {
  there = there;
  room_is = ap Some same.1 ∙ at.room_is;
  sizes_are = there.config ∙ (sym at.there.config ∙ at.sizes_are);
  own = there.thread_is ∙ (same.0 ∙ (sym at.there.thread_is ∙ at.own));
}

-- an owner's cells at their site are there still, as long as the seat is one of the same room
pub owned_next : {LAST : ℕ} {site : Option TableId} {s : OwnedCells LAST} {x : RoomCells} → IsOwnedIn site s
    → IsSeatedIn x (arc_value s.room) → x.seat.table_id ≡ s.cells.seat.table_id
    → IsOwnedIn site (record { cells = x; room = s.room })
owned_next at there same = record { there = there; room_is = ap Some same ∙ at.room_is }
