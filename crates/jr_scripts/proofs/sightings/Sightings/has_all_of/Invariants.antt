use Rattle.std.proofs.Common.{◌≡◌, ◌<◌, ℕ, Some, None, get_or}
use Rattle.jr_scripts.specs.NotedWords.{posted_in}
use Rattle.jr_scripts.proofs.sightings.Sightings.has_all_of.Given as goal

abbrev pub invariant-loop-number : goal.invariant-loop-number
invariant-loop-number g l = (i : ℕ) (p : _) → i < l.number → posted_in (get_or l.other.notes.items i None) ≡ Some p
    → posted_in (get_or l.self.notes.items i None) ≡ Some p
