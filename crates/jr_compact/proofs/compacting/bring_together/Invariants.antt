use Rattle.std.specs.Prelude.{◌≡◌, ◌+◌, take}
use Rattle.jr_compact.specs.Counting.{SawWithin}
use Rattle.jr_compact.specs.Noting.{noted_words, AreNoted}
use Rattle.jr_compact.proofs.Together.{IsBrought}
use Rattle.jr_compact.proofs.compacting.bring_together.Given as goal

abbrev pub invariant-loop-entry : goal.invariant-loop-entry
invariant-loop-entry g l = (l.next ≡ noted_words (take l.entry-index l.fn.entries))
    × SawWithin g.S.Steps.facts (λ j. l.next + l.next + l.next) l.fn.steps l.steps (AreNoted l.fn.entries) (λ j k.
    IsBrought l.fn.entries l.entry-index l.next k)
