use Rattle.std.proofs.Common.{length, map, sym}
use Rattle.std.proofs.lemmas.List.{length-map}
use Rattle.jr_model.specs.CallPrograms.{part_tests, set_array_region}
use Rattle.jr_frames.specs.Reading.{word_of}
use Rattle.jr_env.proofs.ArrayParts.{writes_part}
use Rattle.jr_env.proofs.AtObjects.{finds_nothing, passes_there, refuses_there, same_tests}
use Rattle.jr_env.proofs.calls.array_parts.SetArrayRegionNativeCall.work.Goals as goal

pub returns-in_err-object-clause-call : goal.returns-in_err-object-clause-call
returns-in_err-object-clause-call g c =
    finds_nothing (word_of c.of-array.result) c.of-array.ensures.reads
    (set_array_region g.E.Elem.KIND c.args.self.1 (map g.E.Elem.word_of c.args.self.2.now)) c.from_residual.result
    c.from_residual.ensures.1 c.in_err-object.ensures.call

pub returns-in_err-has_part-clause-call : goal.returns-in_err-has_part-clause-call
returns-in_err-has_part-clause-call g c =
    let h = c.in_ok-object.header in
    let ws = map g.E.Elem.word_of c.args.self.2.now in
    refuses_there (word_of c.of-array.result) c.of-array.ensures.reads
    (set_array_region g.E.Elem.KIND c.args.self.1 ws) g.met.S.Steps.fits c.in_ok-object.ensures.call
    c.from_residual-in_err-has_part.result c.from_residual-in_err-has_part.ensures.1 c.requires.ready.role_is
    (same_tests (sym (length-map c.args.self.2.now g.E.Elem.word_of)) (λ n.
    part_tests g.E.Elem.KIND c.args.self.1 n h.kind h.length)
    (same_tests c.KIND.ensures (λ k. part_tests k c.args.self.1 (length c.args.self.2.now) h.kind h.length)
    c.in_err-has_part.ensures))

pub returns-clause-call : goal.returns-clause-call
returns-clause-call g c =
    let h = c.in_ok-object.header in
    let ws = map g.E.Elem.word_of c.args.self.2.now in
    let long = sym (length-map c.args.self.2.now g.E.Elem.word_of) in
    passes_there (word_of c.of-array.result) c.of-array.ensures.reads
    (set_array_region g.E.Elem.KIND c.args.self.1 ws) g.met.S.Steps.fits c.in_ok-object.ensures.call
    c.requires.ready.role_is
    (same_tests long (λ n. part_tests g.E.Elem.KIND c.args.self.1 n h.kind h.length)
    (same_tests c.KIND.ensures (λ k. part_tests k c.args.self.1 (length c.args.self.2.now) h.kind h.length)
    c.in_ok-has_part.ensures))
    (writes_part c.write_part.ensures.stands c.args.self.1 ws (length c.args.self.2.now) long c.write_part.ensures.call)
