use Rattle.std.proofs.Common.{◌∙◌, ap}
use Rattle.luthrady.proofs.WrittenRows.{row_more}
use Rattle.luthrady.proofs.rows.write_rows.Goals as goal

-- src/rows.rt
pub loop-place-preserved : goal.loop-place-preserved
loop-place-preserved g c = row_more g.R.RowOf.form _ _ _ _ _ c.index-notes-place.result _ c.loop-place-test.true
    c.loop-place.invariant (c.row_of.ensures ∙ ap g.R.RowOf.form c.index-notes-place.is) c.write_row.ensures
