use Rattle.std.proofs.Common.{◌≡◌, ◌∷◌, ◌++◌, take}
use Rattle.std.specs.List.{flat_map}
use Rattle.jr_syntax.specs.Units.{unit}
use Rattle.jr_syntax.proofs.text.put_units.Given as goal

abbrev pub invariant-loop-unit : goal.invariant-loop-unit
invariant-loop-unit l = l.out.items ≡ l.fn.out.items ++ flat_map (λ u. 32 ∷ unit.spell u) (take l.unit-index l.units)
