use Rattle.std.proofs.Common.{◌≡◌, ◌+◌, ◌<◌, ◌^◌, drop}
use Rattle.jr_scripts.specs.AllRuns.{lines_of_parts}
use Rattle.jr_scripts.proofs.runnable.are_numbered.Given as goal

-- the lines so far, and those of the parts that are left, are all lines
abbrev pub invariant-loop-part : goal.invariant-loop-part
invariant-loop-part l = record {
  all : l.line + lines_of_parts (drop l.part-index l.parts) ≡ 2 + lines_of_parts l.parts;
  fits : l.line < 2 ^ 64;
}
