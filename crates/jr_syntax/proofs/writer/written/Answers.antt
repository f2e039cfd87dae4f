use Rattle.std.proofs.Common.{◌++◌, ◌∷◌, [], ◌≡◌, List, ℕ, take, length, ap, sym, ◌∙◌, arith}
use Rattle.std.specs.List.{flat_map}
use Rattle.std.proofs.lemmas.List.{take_all}
use Rattle.jr_syntax.specs.declared.thread.ThreadPart.{ThreadPart}
use Rattle.jr_syntax.specs.Line.{line}
use Rattle.jr_syntax.specs.Script.{vm, part_lines}
use Rattle.jr_syntax.proofs.PrintLaws.{parts_lines}
use Rattle.jr_syntax.proofs.writer.written.Goals as goal

pub returns : goal.returns
returns c =
    let ps = c.args.script.now.threads in
    let full : take c.loop-part.part-index ps ≡ ps =
    take_all c.loop-part.part-index ps (omega (arith, ap length c.as_slice-part-items.ensures)) in
    let lines = λ (p : ThreadPart). flat_map (λ l. l ++ 10 ∷ []) (part_lines p) in
    c.loop-part.invariant ∙ ap (λ (x : List ℕ). (line (vm.spell c.args.script.now.config) ++ 10 ∷ []) ++ x)
    (ap (flat_map lines) full ∙ sym (parts_lines ps))
