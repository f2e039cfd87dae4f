-- That an owner's cells are at their site is one fact, and their words are sound:
-- the impl cites these, and there is nothing to believe.
use Rattle.std.specs.Prelude.{ℕ, Option}
use Rattle.std.proofs.Props.{props}
use Rattle.atomic_table.specs.Seated.{TableId}
use Rattle.jr_rule.specs.declared.owned_cells.OwnedCells.{OwnedCells}
use Rattle.jr_rule.specs.Cells.{AreSoundWords}
use Rattle.jr_rule.specs.CellLaws.{seat_sound}
use Rattle.jr_rule.specs.OwnedSites.{IsOwnedIn}
use Rattle.jr_rule.specs.Sights.{sight_of_seat}

module _ {LAST : ℕ} {site : Option TableId} {s : OwnedCells LAST} where
  pub owned_one : IsProp (IsOwnedIn site s)
  owned_one = hlevel props

  pub owned_sound : IsOwnedIn site s → AreSoundWords (sight_of_seat s.cells.seat.table_id s.cells.seat.me)
  owned_sound at = seat_sound at.there
