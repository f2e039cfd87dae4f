use Rattle.std.proofs.Common.{◌≡◌, ◌++◌, ◌∙◌, [], ap, chars, map-id, rules, sym}
use Rattle.std.proofs.lemmas.Iterator.{YieldsList-from_chars}
use Rattle.std.proofs.lemmas.Iterator.Consumers.{YieldsList-end}
use Rattle.std.proofs.lemmas.List.{flat_map_more}
use Rattle.std.proofs.lemmas.Str.{encodes-chars}
use Rattle.std.proofs.Math.Utf8.{encodes}
use Rattle.std.specs.Char.Escape.{encode_utf16}
use Rattle.jr_elements.proofs.texts.utf16_of.Goals as goal

pub loop-c-preserved : goal.loop-c-preserved
loop-c-preserved c =
    let grown : c.extend_from_slice.new.self.items ≡ c.loop-c.units.items ++ c.encode_utf16.result.now = search rules in
    let value = c.encode_utf16.ensures.value in
    let was = c.loop-c.invariant in
    let more = flat_map_more encode_utf16 [] c.loop-c.yielded c.in-Some.c in
    cc

pub returns-clause-units : goal.returns-clause-units
returns-clause-units c =
    let text = c.args.text.now in
    let from = YieldsList-from_chars text c.utf8.text cc in
    let end = YieldsList-end from c.loop-c.yielded _ c.loop-c.yielded_by _ _ c.in-None.is c.next.ensures.steps in
    let all : c.loop-c.yielded ≡ chars text = sym (map-id c.loop-c.yielded) ∙ end.0 in
    (c.loop-c.yielded, c.loop-c.invariant, sym (ap encodes all ∙ encodes-chars text c.utf8.text))
