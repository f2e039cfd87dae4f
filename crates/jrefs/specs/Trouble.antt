-- Exit statuses, and what is told of a trouble.
use Rattle.std.specs.Prelude.{ℕ, List, [], ◌∷◌, ◌++◌, codes}
use Rattle.std.specs.Fmt.{decimal}
use Rattle.jr_syntax.specs.declared.fault.ScriptFault.{ScriptFault}
use Rattle.jr_syntax.specs.declared.fault.ScriptFault.TheVariants as faults
use Rattle.jr_syntax.specs.Faults.{reason_text}
use Rattle.jrefs.specs.declared.trouble.Trouble.{Trouble}
use Rattle.jrefs.specs.declared.trouble.Trouble.TheVariants.{Script, Usage, Memory, Input, Output}

-- the exit status of each trouble
abbrev pub status_of : Trouble → ℕ
status_of (Script line reason) = 1
status_of Usage = 2
status_of Memory = 3
status_of Input = 4
status_of Output = 4

-- its text
abbrev pub trouble_text : Trouble → List ℕ
trouble_text (Script line reason) = codes "script fault at line " ++ decimal line ++ codes ": " ++ reason_text reason
trouble_text Usage = codes "usage: jrefs run | check | word HEX | widen HEX"
trouble_text Memory = codes "out of memory"
trouble_text Input = codes "input fault"
trouble_text Output = codes "output fault"

-- the line that tells of it
abbrev pub trouble_line : Trouble → List ℕ
trouble_line t = trouble_text t ++ 10 ∷ []

-- the trouble that a text's fault is
abbrev pub trouble_of : ScriptFault → Trouble
trouble_of (faults.At line reason) = Script line reason
trouble_of faults.Memory = Memory
