use Rattle.std.proofs.Common.{◌++◌, [], ◌∷◌, codes, rules}
use Rattle.std.specs.Fmt.{HasWritten, decimal}
use Rattle.std.proofs.Output.{has_written_append}
use Rattle.jr_census.specs.Printed.{whole_line, weaks_text}
use Rattle.jr_census.proofs.printing.write_slots.Goals as goal

pub returns : goal.returns
returns g c plain ok =
    let x = c.args.slots in
    let globals : HasWritten g.W.Write.write_str_gives c.args.f.now
    (whole_line (codes "global references: " ++ decimal x.globals)) c.writeln.new.self = search rules in
    let weaks : HasWritten g.W.Write.write_str_gives c.writeln.new.self
    (weaks_text x.weaks x.cleared) c.write_weaks.new.f = search rules in
    let ended : HasWritten g.W.Write.write_str_gives c.write_weaks.new.f
    (10 ∷ []) c.write_str.new.self = search rules in
    let retired : HasWritten g.W.Write.write_str_gives c.write_str.new.self
    (whole_line (codes "retired slots: " ++ decimal x.retired)) c.writeln-2.new.self = search rules in
    has_written_append _ _ _ _ _ _
    (has_written_append _ _ _ _ _ _ globals (has_written_append _ _ _ _ _ _ weaks ended)) retired
