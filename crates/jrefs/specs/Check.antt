-- What `jrefs check` prints.
use Rattle.std.specs.Prelude.{◌≡◌, ℕ, ◌+◌, List, [], ◌∷◌, ◌++◌, length, codes}
use Rattle.std.specs.Fmt.{decimal}
use Rattle.jr_syntax.specs.declared.script.Script.{Script}
use Rattle.jr_syntax.specs.declared.thread.ThreadPart.{ThreadPart}
use Rattle.jr_syntax.specs.Script.{IsScript, text_of}

-- how many commands the threads have together
abbrev pub commands_in : List ThreadPart → ℕ
commands_in [] = 0
commands_in (p ∷ ps) = length p.commands + commands_in ps

-- the line of a script: `ok threads N commands M`
abbrev pub check_line : Script → List ℕ
check_line s = codes "ok threads " ++ decimal (length s.threads) ++ codes " commands "
    ++ decimal (commands_in s.threads) ++ 10 ∷ []

-- the input is the text of a script, and the output is its line
abbrev pub IsCheck : List ℕ → List ℕ → Type 0
IsCheck input output = (s : Script) × IsScript s × (input ≡ text_of s) × (output ≡ check_line s)
