use Rattle.std.proofs.Common.{◌≡◌, ◌∷◌, ◌++◌, [], take}
use Rattle.std.specs.List.{flat_map}
use Rattle.jr_syntax.specs.Line.{line}
use Rattle.jr_syntax.specs.Script.{vm, part_lines}
use Rattle.jr_syntax.proofs.writer.written.Given as goal

abbrev pub invariant-loop-part : goal.invariant-loop-part
invariant-loop-part l =
    l.out.items ≡ (line (vm.spell l.script.config) ++ 10 ∷ [])
    ++ flat_map (λ p. flat_map (λ k. k ++ 10 ∷ []) (part_lines p)) (take l.part-index l.script.threads)
