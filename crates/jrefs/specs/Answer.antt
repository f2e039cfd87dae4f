-- What the program answers to the text of a script.
use Rattle.std.specs.Prelude.{◌≡◌, ℕ, List, [], Some}
use Rattle.jr_syntax.specs.declared.script.Script.{Script}
use Rattle.jr_syntax.specs.Script.{IsScript, text_of}
use Rattle.jr_syntax.specs.Faults.{first_fault}
use Rattle.jr_scripts.specs.AllRuns.{RunsAll}
use Rattle.jrefs.specs.declared.trouble.Trouble.{Trouble}
use Rattle.jrefs.specs.declared.trouble.Trouble.TheVariants as troubles

-- FROM BYTES TO BYTES: the input is the text of a script, and the output is explained by a run of that script
abbrev pub IsAnswer : ℕ → ℕ → List ℕ → List ℕ → Type 0
IsAnswer turns last input output = (s : Script) × IsScript s × (input ≡ text_of s) × RunsAll turns last s [] output

-- an input without an answer: a script's fault is the first of the text, and else memory was refused
abbrev pub IsRefused : List ℕ → Trouble → Type 0
IsRefused input (troubles.Script line reason) = first_fault input ≡ Some (line, reason)
IsRefused input troubles.Memory = Unit {0}
IsRefused input _ = ⊥
