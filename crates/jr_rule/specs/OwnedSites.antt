-- Of which room an owner's cells are, by their type.
use Rattle.std.specs.Prelude.{◌≡◌, ℕ, Option, Some}
use Rattle.std.specs.Arc.{arc_value}
use Rattle.atomic_table.specs.Seated.{TableId}
use Rattle.jr_rule.specs.declared.owned_cells.OwnedCells.{OwnedCells}
use Rattle.jr_rule.specs.declared.cells.Cells.{Ghosts}
use Rattle.jr_rule.specs.declared.over.StepsOver.{StepsOver}
use Rattle.jr_rule.specs.Rule.{joints_at}
use Rattle.jr_rule.specs.Sites.{IsSeatedIn}

-- THE SEAT IS ONE OF THE CELLS' OWN ROOM, and the room is the site's
pub record IsOwnedIn {LAST : ℕ} (site : Option TableId) (s : OwnedCells LAST) : Type 0 where
  pub there : IsSeatedIn s.cells (arc_value s.room)
  pub room_is : Some s.cells.seat.table_id ≡ site

-- the count of joins and partings of seats that an owner's steps have (`joints_over`)
abbrev pub joints_owned : {LAST : ℕ} {P : Type 0} {G : Ghosts (OwnedCells LAST) P} → StepsOver (OwnedCells LAST) P G → ℕ
joints_owned s = joints_at s.cells.cells.seat.me
