-- What reading a text gives.
use Rattle.std.specs.Prelude.{◌≡◌, ℕ, List, Some, Result, Ok, Err}
use Rattle.jr_syntax.specs.declared.fault.ScriptFault.{ScriptFault}
use Rattle.jr_syntax.specs.declared.fault.ScriptFault.TheVariants as faults
use Rattle.jr_syntax.specs.declared.script.Script.{Script}
use Rattle.jr_syntax.specs.Faults.{first_fault}

-- a fault is the first of the text; want of memory says nothing of it
abbrev pub IsFaultOf : List ℕ → ScriptFault → Type 0
IsFaultOf text (faults.At n r) = first_fault text ≡ Some (n, r)
IsFaultOf text faults.Memory = Unit {0}

-- a text was read as this script, unless memory ran out
abbrev pub ReadsAs : Script → Result Script ScriptFault → Type 0
ReadsAs s (Ok t) = t ≡ s
ReadsAs s (Err (faults.At n r)) = ⊥
ReadsAs s (Err faults.Memory) = Unit {0}
