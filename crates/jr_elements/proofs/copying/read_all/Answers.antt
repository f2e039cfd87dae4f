use Rattle.std.proofs.Common.{◌≡◌, ◌++◌, ◌∙◌, length, take, drop, ap}
use Rattle.std.proofs.lemmas.List.{take_at}
use Rattle.jr_elements.proofs.CopiedParts.{copies_read, copies_nothing}
use Rattle.jr_elements.proofs.copying.read_all.Goals as goal

pub returns-in_default-clause-call : goal.returns-in_default-clause-call
returns-in_default-clause-call g c = copies_nothing g.met.S.Steps.fits c.args.object c.args.header c.args.header.length
    c.args.steps.now (λ none. let no = c.in_default.ensures.none none in cc)

pub returns-clause-call : goal.returns-clause-call
returns-clause-call g c =
    let es = c.read_part.new.elements in
    let rest = drop (length c.read_part.new.elements) c.in-Ok.items.items in
    let long : length c.as_mut_slice.result.now ≡ c.args.header.length =
    ap (λ xs. length xs) c.as_mut_slice.ensures.value ∙ c.in-Ok.ensures.size in
    let size : length c.read_part.new.elements ≡ c.in-Ok.items.len =
    c.read_part.ensures.size ∙ c.as_mut_slice.ensures.len in
    copies_read g.met.S.Steps.fits c.args.object c.args.header g.E.Elem.word_of c.args.header.length
    (length c.as_mut_slice.result.now) (take c.in-Ok.items.len (es ++ rest)) es c.args.steps.now c.read_part.new.steps
    long (take_at es rest c.in-Ok.items.len size) c.read_part.ensures.call
