use Rattle.std.proofs.Common.{◌≡◌, ◌∷◌, ◌++◌, [], take}
use Rattle.std.specs.List.{flat_map}
use Rattle.jr_syntax.specs.Line.{line}
use Rattle.jr_syntax.specs.Command.{words_of_command}
use Rattle.jr_syntax.proofs.writer.put_commands.Given as goal

abbrev pub invariant-loop-command : goal.invariant-loop-command
invariant-loop-command l =
    l.out.items
    ≡ l.fn.out.items ++ flat_map (λ c. line (words_of_command c) ++ 10 ∷ []) (take l.command-index l.commands)
