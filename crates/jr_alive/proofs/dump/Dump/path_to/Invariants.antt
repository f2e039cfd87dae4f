use Rattle.jr_alive.specs.Searching.{depth_of}
use Rattle.jr_alive.proofs.Walked.{Walking}
use Rattle.jr_alive.proofs.dump.Dump.path_to.Given as goal

abbrev pub invariant-loop-origin : goal.invariant-loop-origin
invariant-loop-origin l = Walking l.self 0 l.reached.entries.items l.object l.at l.edges.items

abbrev pub decreases-loop-origin : goal.decreases-loop-origin
decreases-loop-origin l = depth_of l.reached.entries.items l.at
