use Rattle.std.proofs.Common.{Some}
use Rattle.jr_threads.proofs.running.run_native_listing.Given as goal

abbrev pub ghosts-run_listing_in : goal.ghosts-run_listing_in
ghosts-run_listing_in g a =
    record { room = Some a.opened.0.row.table.shared.table_id; sizes = a.opened.0.row.config }
