use Rattle.std.proofs.Common.{length, map, Ok}
use Rattle.jr_model.specs.CallPrograms.{get_array_region, part_tests}
use Rattle.jr_frames.specs.Reading.{word_of}
use Rattle.jr_env.specs.Deeds.{read_answer}
use Rattle.jr_env.proofs.ArrayParts.{no_words, reads_part}
use Rattle.jr_env.proofs.AtObjects.{finds_nothing, passes_there, refuses_there, same_tests}
use Rattle.jr_env.proofs.calls.array_parts.read_into.Goals as goal

pub returns-in_err-object-clause-call : goal.returns-in_err-object-clause-call
returns-in_err-object-clause-call g c =
    let ws = map g.E.Elem.word_of c.args.elements.now in
    finds_nothing (word_of c.of-array.result) c.of-array.ensures.reads
    (get_array_region g.E.Elem.KIND c.args.start (length c.args.elements.now)) (read_answer c.from_residual.result ws)
    (no_words _ c.from_residual.result ws c.from_residual.ensures.1) c.in_err-object.ensures.call

pub returns-in_err-has_part-clause-call : goal.returns-in_err-has_part-clause-call
returns-in_err-has_part-clause-call g c =
    let ws = map g.E.Elem.word_of c.args.elements.now in
    let n = length c.args.elements.now in
    let h = c.in_ok-object.header in
    refuses_there (word_of c.of-array.result) c.of-array.ensures.reads
    (get_array_region g.E.Elem.KIND c.args.start n) g.met.S.Steps.fits c.in_ok-object.ensures.call
    (read_answer c.from_residual-in_err-has_part.result ws)
    (no_words _ c.from_residual-in_err-has_part.result ws c.from_residual-in_err-has_part.ensures.1)
    c.requires.ready.role_is
    (same_tests c.KIND.ensures (λ k. part_tests k c.args.start n h.kind h.length) c.in_err-has_part.ensures)

pub returns-clause-call : goal.returns-clause-call
returns-clause-call g c =
    let n = length c.args.elements.now in
    let h = c.in_ok-object.header in
    passes_there (word_of c.of-array.result) c.of-array.ensures.reads (get_array_region g.E.Elem.KIND c.args.start n)
    g.met.S.Steps.fits c.in_ok-object.ensures.call c.requires.ready.role_is
    (same_tests c.KIND.ensures (λ k. part_tests k c.args.start n h.kind h.length) c.in_ok-has_part.ensures)
    (reads_part c.read_part.ensures.stands c.args.start n (Ok (map g.E.Elem.word_of c.read_part.new.elements))
    c.read_part.ensures.call)
