use Rattle.std.specs.Prelude.{◌≤◌, take}
use Rattle.jr_compact.specs.Compacting.{CanCompact}
use Rattle.jr_compact.specs.Counting.{SawWithin}
use Rattle.jr_compact.proofs.Noted.{IsNotedTo}
use Rattle.jr_compact.proofs.compacting.note.Given as goal

abbrev pub invariant-loop-object : goal.invariant-loop-object
invariant-loop-object g l = (l.count ≤ l.object-index) × SawWithin g.S.Steps.facts (λ j. l.object-index) l.fn.steps
    l.steps (CanCompact l.fn.present) (IsNotedTo l.fn.present l.object-index (take l.count l.noted))
