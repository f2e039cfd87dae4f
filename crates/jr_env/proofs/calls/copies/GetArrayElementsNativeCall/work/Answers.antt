use Rattle.std.proofs.Common.{[], Err, Ok, ap, map}
use Rattle.jr_model.specs.CallPrograms.{get_array_elements, kind_tests}
use Rattle.jr_elements.specs.Copies.{answer_in}
use Rattle.jr_frames.specs.Reading.{word_of}
use Rattle.jr_env.proofs.AtObjects.{finds_nothing, passes_there, refuses_there, same_tests}
use Rattle.jr_env.proofs.Served.{answered_as, kept_is, kept_refusal}
use Rattle.jr_env.proofs.WholeCopies.{copies_all}
use Rattle.jr_env.proofs.calls.copies.GetArrayElementsNativeCall.work.Goals as goal

pub returns-in_err-object-clause-call : goal.returns-in_err-object-clause-call
returns-in_err-object-clause-call g c = finds_nothing (word_of c.of-array.result) c.of-array.ensures.reads
    (get_array_elements g.E.Elem.KIND) (answer_in (map g.E.Elem.word_of) c.from_residual.result)
    (kept_is _ (map g.E.Elem.word_of) c.from_residual.result c.from_residual.ensures.1) c.in_err-object.ensures.call

pub returns-in_err-has_elements-clause-call : goal.returns-in_err-has_elements-clause-call
returns-in_err-has_elements-clause-call g c =
    let h = c.in_ok-object.header in
    refuses_there (word_of c.of-array.result) c.of-array.ensures.reads (get_array_elements g.E.Elem.KIND)
    g.met.S.Steps.fits c.in_ok-object.ensures.call
    (answer_in (map g.E.Elem.word_of) c.from_residual-in_err-has_elements.result)
    (kept_is _ (map g.E.Elem.word_of) c.from_residual-in_err-has_elements.result
    c.from_residual-in_err-has_elements.ensures.1) c.requires.ready.role_is
    (same_tests c.KIND.ensures (λ k. kind_tests k h.kind) c.in_err-has_elements.ensures)

pub returns-in_err-items-clause-call : goal.returns-in_err-items-clause-call
returns-in_err-items-clause-call g c =
    let h = c.in_ok-object.header in
    passes_there (word_of c.of-array.result) c.of-array.ensures.reads (get_array_elements g.E.Elem.KIND)
    g.met.S.Steps.fits c.in_ok-object.ensures.call c.requires.ready.role_is
    (same_tests c.KIND.ensures (λ k. kind_tests k h.kind) c.in_ok-has_elements.ensures)
    (answered_as (kept_refusal (map g.E.Elem.word_of) c.from_residual-in_err-items.result
    c.from_residual-in_err-items.ensures.1)
    (copies_all (λ (u : Unit {0}). []) (Err _) c.in_err-items.ensures.stands c.in_err-items.ensures.call))

pub returns-clause-call : goal.returns-clause-call
returns-clause-call g c =
    let h = c.in_ok-object.header in
    passes_there (word_of c.of-array.result) c.of-array.ensures.reads (get_array_elements g.E.Elem.KIND)
    g.met.S.Steps.fits c.in_ok-object.ensures.call c.requires.ready.role_is
    (same_tests c.KIND.ensures (λ k. kind_tests k h.kind) c.in_ok-has_elements.ensures)
    (answered_as (ap (λ xs. Ok (map g.E.Elem.word_of xs)) c.elements_of.ensures)
    (copies_all (map g.E.Elem.word_of) (Ok c.in_ok-items.items.items) c.in_ok-items.ensures.stands
    c.in_ok-items.ensures.call))
