use Rattle.std.proofs.Common.{w64}
use Rattle.std.proofs.lemmas.Int.{to_z-of_z}
use Rattle.jr_scripts.specs.declared.number.NumberKind.TheVariants as number
use Rattle.jr_env.proofs.Carrying.{did_residual}
use Rattle.jr_scripts.proofs.Within.{did_write, did_write_not}
use Rattle.jr_scripts.proofs.commands.regions.write_at.Goals as goal

pub returns-in_err-of-clause-does : goal.returns-in_err-of-clause-does
returns-in_err-of-clause-does g c =
    did_residual c.in_err-of.field-0.0 c.from_residual.result c.from_residual.ensures.1
    (did_write_not g.S.Steps.facts g.met.S.Steps.fits c.args.level c.args.index c.kind.result c.requires.stand
    c.kind.ensures c.args.number c.in_err-of.field-0.0 c.in_err-of.ensures.err)

pub returns-in-Boolean-clause-does : goal.returns-in-Boolean-clause-does
returns-in-Boolean-clause-does g c = did_write g.S.Steps.facts g.met.S.Steps.fits c.args.level c.args.index
    c.kind.result c.requires.stand c.kind.ensures c.args.number _ c.in_ok-of.field-0 number.Boolean
    c.in_ok-of.ensures.ok c.in-Boolean.is (to_z-of_z w64 c.args.number c.ranges.number) c.write_as.ensures.does

pub returns-in-Byte-clause-does : goal.returns-in-Byte-clause-does
returns-in-Byte-clause-does g c = did_write g.S.Steps.facts g.met.S.Steps.fits c.args.level c.args.index c.kind.result
    c.requires.stand c.kind.ensures c.args.number _ c.in_ok-of.field-0 number.Byte c.in_ok-of.ensures.ok c.in-Byte.is
    (to_z-of_z w64 c.args.number c.ranges.number) c.write_as-in-Byte.ensures.does

pub returns-in-Char-clause-does : goal.returns-in-Char-clause-does
returns-in-Char-clause-does g c = did_write g.S.Steps.facts g.met.S.Steps.fits c.args.level c.args.index c.kind.result
    c.requires.stand c.kind.ensures c.args.number _ c.in_ok-of.field-0 number.Char c.in_ok-of.ensures.ok c.in-Char.is
    (to_z-of_z w64 c.args.number c.ranges.number) c.write_as-in-Char.ensures.does

pub returns-in-Short-clause-does : goal.returns-in-Short-clause-does
returns-in-Short-clause-does g c = did_write g.S.Steps.facts g.met.S.Steps.fits c.args.level c.args.index c.kind.result
    c.requires.stand c.kind.ensures c.args.number _ c.in_ok-of.field-0 number.Short c.in_ok-of.ensures.ok c.in-Short.is
    (to_z-of_z w64 c.args.number c.ranges.number) c.write_as-in-Short.ensures.does

pub returns-in-Int-clause-does : goal.returns-in-Int-clause-does
returns-in-Int-clause-does g c = did_write g.S.Steps.facts g.met.S.Steps.fits c.args.level c.args.index c.kind.result
    c.requires.stand c.kind.ensures c.args.number _ c.in_ok-of.field-0 number.Int c.in_ok-of.ensures.ok c.in-Int.is
    (to_z-of_z w64 c.args.number c.ranges.number) c.write_as-in-Int.ensures.does

pub returns-in-Long-clause-does : goal.returns-in-Long-clause-does
returns-in-Long-clause-does g c = did_write g.S.Steps.facts g.met.S.Steps.fits c.args.level c.args.index c.kind.result
    c.requires.stand c.kind.ensures c.args.number _ c.in_ok-of.field-0 number.Long c.in_ok-of.ensures.ok c.in-Long.is
    (to_z-of_z w64 c.args.number c.ranges.number) c.write_as-in-Long.ensures.does
