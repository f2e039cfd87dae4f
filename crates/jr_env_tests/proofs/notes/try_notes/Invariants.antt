use Rattle.std.proofs.Common.{Some}
use Rattle.jr_rule.specs.Passes.{known_of}
use Rattle.jr_env_tests.proofs.notes.try_notes.Given as goal

abbrev pub ghosts-try_in_site-Q-Site : goal.ghosts-try_in_site-Q-Site
ghosts-try_in_site-Q-Site g a =
    record { room = Some a.room.now.row.table.shared.table_id; sizes = a.room.now.row.config }

abbrev pub ghosts-try_in_site-T-ThreadNumber : goal.ghosts-try_in_site-T-ThreadNumber
ghosts-try_in_site-T-ThreadNumber g a = record { number = (known_of a.first).thread }

abbrev pub ghosts-try_in_site-U-ThreadNumber : goal.ghosts-try_in_site-U-ThreadNumber
ghosts-try_in_site-U-ThreadNumber g a = record { number = (known_of a.second).thread }
