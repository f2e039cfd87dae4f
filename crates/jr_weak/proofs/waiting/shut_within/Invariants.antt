use Rattle.std.proofs.Common.{◌≡◌, ◌+◌, ℕ, List, length}
use Rattle.jr_gate.specs.Stays.{IsOwnAnnouncement}
use Rattle.jr_weak.specs.Waiting.{RefusedTries}
use Rattle.jr_weak.proofs.waiting.shut_within.Given as goal

abbrev pub invariant-loop-try : goal.invariant-loop-try
invariant-loop-try g l = IsOwnAnnouncement l.announced (g.S.Steps.facts l.steps).stands
    × ((refused : List ℕ) × (length refused + 1 ≡ l._try) × RefusedTries g.S.Steps.facts l.fn.steps l.steps refused)
