use Rattle.jr_scripts.specs.NotedWords.{IsBlank}
use Rattle.jr_scripts.proofs.sightings.blank.Given as goal

abbrev pub invariant-loop : goal.invariant-loop
invariant-loop g l = IsBlank l.notes.items
