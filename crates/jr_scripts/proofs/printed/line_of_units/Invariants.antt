use Rattle.std.proofs.Common.{◌≡◌, ◌∷◌, ◌++◌, take}
use Rattle.jr_scripts.proofs.UnitLines.{spaced_units}
use Rattle.jr_scripts.proofs.printed.line_of_units.Given as goal

abbrev pub invariant-loop-unit : goal.invariant-loop-unit
invariant-loop-unit l = l.text.items ≡ l.fn.word ++ (32 ∷ l.fn.subject ++ spaced_units (take l.unit-index l.units))
