use Rattle.std.proofs.Common.{Some}
use Rattle.jr_rule.specs.Passes.{known_of}
use Rattle.jr_bench.proofs.round.work_one.Given as goal

abbrev pub ghosts-work_at-Q-Site : goal.ghosts-work_at-Q-Site
ghosts-work_at-Q-Site g a = record { room = Some a.room.now.row.table.shared.table_id; sizes = a.room.now.row.config }

abbrev pub ghosts-work_at-T-ThreadNumber : goal.ghosts-work_at-T-ThreadNumber
ghosts-work_at-T-ThreadNumber g a = record { number = (known_of a.pass).thread }
