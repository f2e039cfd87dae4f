use Rattle.std.proofs.Common.{◌++◌, codes, rules}
use Rattle.std.specs.Fmt.{HasWritten}
use Rattle.std.proofs.Output.{has_written_append}
use Rattle.jr_census.specs.Printed.{whole_line, locals_text, objects_text, slots_text, words_text}
use Rattle.jr_census.proofs.printing.CensusDisplay.fmt.Goals as goal

pub returns-clause-writes : goal.returns-clause-writes
returns-clause-writes g c plain ok =
    let x = c.args.self.now in
    let slots : HasWritten g.W.Write.write_str_gives c.args.f.now
    (slots_text x.slots) c.write_slots.new.f = search rules in
    let locals : HasWritten g.W.Write.write_str_gives c.write_slots.new.f
    (locals_text x.locals 64) c.write_locals.new.f = search rules in
    let objects : HasWritten g.W.Write.write_str_gives c.write_locals.new.f
    (whole_line (codes "objects: " ++ objects_text x.objects)) c.writeln.new.self = search rules in
    let unreached : HasWritten g.W.Write.write_str_gives c.writeln.new.self
    (whole_line (codes "unreached: " ++ objects_text x.unreached)) c.writeln-2.new.self = search rules in
    let words : HasWritten g.W.Write.write_str_gives c.writeln-2.new.self
    (codes "words used: " ++ words_text x.words) c.write.new.self = search rules in
    let lines = has_written_append _ _ _ _ _ _ (has_written_append _ _ _ _ _ _ slots locals) objects in
    has_written_append _ _ _ _ _ _ (has_written_append _ _ _ _ _ _ lines unreached) words
