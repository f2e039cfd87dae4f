use Rattle.std.proofs.Common.{◌==◌, not, [], ◌∷◌, Err, length, map, refl, sym, ◌∙◌}
use Rattle.std.proofs.lemmas.List.{length-map}
use Rattle.jr_word.specs.declared.fault.Fault.TheVariants.{Range}
use Rattle.jr_model.specs.CallPrograms.{kind_tests, release_array_elements}
use Rattle.jr_frames.specs.Reading.{word_of}
use Rattle.jr_env.proofs.ArrayParts.{writes_part}
use Rattle.jr_env.proofs.AtObjects.{finds_nothing, first_pass, first_refuse, passes_there, refuses_there, same_tests}
use Rattle.jr_env.proofs.WholeCopies.{other_length, same_length}
use Rattle.jr_env.proofs.calls.copies.CopyBackNativeCall.work.Goals as goal

pub returns-in_err-object-clause-call : goal.returns-in_err-object-clause-call
returns-in_err-object-clause-call g c =
    finds_nothing (word_of c.of-array.result) c.of-array.ensures.reads
    (release_array_elements g.E.Elem.KIND (map g.E.Elem.word_of c.args.self.elements.now)) c.from_residual.result
    c.from_residual.ensures.1 c.in_err-object.ensures.call

pub returns-in_err-has_elements-clause-call : goal.returns-in_err-has_elements-clause-call
returns-in_err-has_elements-clause-call g c =
    let h = c.in_ok-object.header in
    let ws = map g.E.Elem.word_of c.args.self.elements.now in
    refuses_there (word_of c.of-array.result) c.of-array.ensures.reads (release_array_elements g.E.Elem.KIND ws)
    g.met.S.Steps.fits c.in_ok-object.ensures.call c.from_residual-in_err-has_elements.result
    c.from_residual-in_err-has_elements.ensures.1 c.requires.ready.role_is
    (first_refuse (kind_tests g.E.Elem.KIND h.kind) ((not (h.length == length ws), Range) ∷ [])
    (same_tests c.KIND.ensures (λ k. kind_tests k h.kind) c.in_err-has_elements.ensures))

pub returns-then-header-length-clause-call : goal.returns-then-header-length-clause-call
returns-then-header-length-clause-call g c =
    let h = c.in_ok-object.header in
    let ws = map g.E.Elem.word_of c.args.self.elements.now in
    let long = length-map c.args.self.elements.now g.E.Elem.word_of in
    refuses_there (word_of c.of-array.result) c.of-array.ensures.reads (release_array_elements g.E.Elem.KIND ws)
    g.met.S.Steps.fits c.in_ok-object.ensures.call (Err Range) refl c.requires.ready.role_is
    (first_pass (kind_tests g.E.Elem.KIND h.kind) ((not (h.length == length ws), Range) ∷ [])
    (same_tests c.KIND.ensures (λ k. kind_tests k h.kind) c.in_ok-has_elements.ensures)
    (rw (other_length h.length (length ws) (λ e. c.if-header-length.true (e ∙ (long ∙ sym c.length.ensures.number))))
    refl))

pub returns-clause-call : goal.returns-clause-call
returns-clause-call g c =
    let h = c.in_ok-object.header in
    let ws = map g.E.Elem.word_of c.args.self.elements.now in
    let long = length-map c.args.self.elements.now g.E.Elem.word_of in
    passes_there (word_of c.of-array.result) c.of-array.ensures.reads (release_array_elements g.E.Elem.KIND ws)
    g.met.S.Steps.fits c.in_ok-object.ensures.call c.requires.ready.role_is
    (first_pass (kind_tests g.E.Elem.KIND h.kind) ((not (h.length == length ws), Range) ∷ [])
    (same_tests c.KIND.ensures (λ k. kind_tests k h.kind) c.in_ok-has_elements.ensures)
    (rw (same_length h.length (length ws) (c.if-header-length.false ∙ (c.length.ensures.number ∙ sym long))) refl))
    (writes_part c.put_back.ensures.stands 0 ws (length c.args.self.elements.now) (sym long) c.put_back.ensures.call)
