-- Each further run is one fewer that is left.
use Rattle.jr_interleavings.proofs.explore.Exploring.+play_runs.Given as goal

abbrev pub decreases-play_runs : goal.decreases-play_runs
decreases-play_runs g l = l.left
