-- The commands so far and those of the parts that are left are all.
use Rattle.std.proofs.Common.{◌≡◌, ◌+◌, drop}
use Rattle.jrefs.specs.Check.{commands_in}
use Rattle.jrefs.proofs.check.commands_in.Given as goal

abbrev pub invariant-loop-part : goal.invariant-loop-part
invariant-loop-part l = l.count + commands_in (drop l.part-index l.threads) ≡ commands_in l.threads
