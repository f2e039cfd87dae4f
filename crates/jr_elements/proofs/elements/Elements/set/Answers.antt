use Rattle.std.proofs.Common.{◌<◌, Ok, length, map, rules, slice_set, subst}
use Rattle.jr_model.specs.Parts.{elements_set}
use Rattle.jr_elements.specs.Copies.{AnswersAs}
use Rattle.jr_elements.proofs.Buffers.{sets_word}
use Rattle.jr_elements.proofs.elements.Elements.set.Goals as goal

pub returns-clause-call : goal.returns-clause-call
returns-clause-call g c =
    let items = c.self.inside.items.items in
    let within : c.args.index < length items = search rules in
    let word = g.E.Elem.word_of in
    subst (λ xs. AnswersAs (elements_set (map word xs) c.args.index (word c.args.value))
    (Ok (map word (slice_set items c.args.index c.args.value)))) c.self.view_is
    (sets_word word items c.args.index c.args.value within)
