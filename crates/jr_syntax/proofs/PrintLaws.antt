-- What is written of a script, line by line.
use Rattle.std.proofs.Common.{◌≡◌, ℕ, List, [], ◌∷◌, ◌++◌, map, refl, ap, ◌∙◌}
use Rattle.std.specs.List.{flat_map}
use Rattle.std.proofs.lemmas.Grind.{flat_map-append}
use Rattle.jr_syntax.specs.declared.command.Command.{Command}
use Rattle.jr_syntax.specs.declared.thread.ThreadPart.{ThreadPart}
use Rattle.jr_syntax.specs.Line.{line}
use Rattle.jr_syntax.specs.Command.{words_of_command}
use Rattle.jr_syntax.specs.Script.{part_lines}

-- lines of commands
pub command_lines : (cs : List Command) → flat_map (λ l. l ++ 10 ∷ []) (map (λ c. line (words_of_command c)) cs)
    ≡ flat_map (λ c. line (words_of_command c) ++ 10 ∷ []) cs
command_lines [] = refl
command_lines (c ∷ cs) = ap (λ (x : List ℕ). (line (words_of_command c) ++ 10 ∷ []) ++ x) (command_lines cs)

-- lines of parts
pub parts_lines : (ps : List ThreadPart) → flat_map (λ l. l ++ 10 ∷ []) (flat_map part_lines ps)
    ≡ flat_map (λ p. flat_map (λ l. l ++ 10 ∷ []) (part_lines p)) ps
parts_lines [] = refl
parts_lines (p ∷ ps) =
    flat_map-append (λ l. l ++ 10 ∷ []) (part_lines p) (flat_map part_lines ps)
    ∙ ap (λ (x : List ℕ). flat_map (λ l. l ++ 10 ∷ []) (part_lines p) ++ x) (parts_lines ps)
