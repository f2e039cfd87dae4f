use Rattle.std.proofs.Common.{◌≡◌, map, take}
use Rattle.jr_weak.specs.Listing.{over_front}
use Rattle.luthrady.proofs.rows.write_rows.Given as goal

-- those before the place are written
abbrev pub invariant-loop-place : goal.invariant-loop-place
invariant-loop-place g l = l.rows ≡ over_front l.fn.rows (map g.R.RowOf.form (take l.place l.notes))
