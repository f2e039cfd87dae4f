-- How many commands the threads of a script have.
use Rattle.std.proofs.Common.{◌≡◌, ◌+◌, ◌≤◌, List, [], ◌∷◌, length, arith}
use Rattle.std.specs.List.{flat_map}
use Rattle.std.proofs.lemmas.List.{length-append, length-map}
use Rattle.std.proofs.lemmas.Bool.{leb-true}
use Rattle.jr_syntax.specs.declared.script.Script.{Script}
use Rattle.jr_syntax.specs.declared.thread.ThreadPart.{ThreadPart}
use Rattle.jr_syntax.specs.Line.{line}
use Rattle.jr_syntax.specs.Script.{IsScript, part_lines}
use Rattle.jr_syntax.specs.Command.{words_of_command}
use Rattle.jrefs.specs.Check.{commands_in}

-- each command has a line
within_lines : (parts : List ThreadPart) → commands_in parts ≤ length (flat_map part_lines parts)
within_lines [] = omega arith
within_lines (p ∷ ps) =
    let lines : length (part_lines p) ≡ length p.commands + 1 =
    omega (arith, length-map p.commands (λ c. line (words_of_command c))) in
    omega (arith, within_lines ps, length-append (part_lines p) (flat_map part_lines ps))

-- so a script has no more than lines
pub few_commands : (s : Script) → IsScript s → commands_in s.threads ≤ 4096
few_commands s is = omega (arith, within_lines s.threads, leb-true _ _ is.lines)
