-- That a seat is at its site is one fact, and the words there are sound:
-- the impls cite these, and there is nothing to believe.
use Rattle.std.specs.Prelude.{ℕ, Option}
use Rattle.std.proofs.Props.{props}
use Rattle.atomic_table.specs.Seated.{TableId}
use Rattle.jr_word.specs.declared.config.Config.{Config}
use Rattle.jr_rule.specs.declared.row.RoomCells.{RoomCells}
use Rattle.jr_rule.specs.declared.room.Room.{Room}
use Rattle.jr_rule.specs.Cells.{AreSoundWords}
use Rattle.jr_rule.specs.CellLaws.{seat_sound}
use Rattle.jr_rule.specs.Sights.{sight_of_seat}
use Rattle.jr_rule.specs.Sites.{IsAtThread}

module _ {LAST : ℕ} {site : Option TableId} {sizes : Config} {thread : ℕ} {s : RoomCells} {room : Room LAST} where
  pub thread_one : IsProp (IsAtThread site sizes thread s room)
  thread_one = hlevel props

  pub thread_sound : IsAtThread site sizes thread s room → AreSoundWords (sight_of_seat s.seat.table_id s.seat.me)
  thread_sound at = seat_sound at.there
