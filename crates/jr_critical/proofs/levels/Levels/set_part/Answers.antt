use Rattle.std.proofs.Common.{Ok, Err, length, map, refl, sym}
use Rattle.std.proofs.lemmas.List.{length-map}
use Rattle.jr_model.specs.Parts.{write}
use Rattle.jr_critical.specs.LevelParts.{set_part_tests}
use Rattle.jr_critical.proofs.LevelParts.{all_written, may_hold, reaches_part, refuses_part, same_tests, stand_part}
use Rattle.jr_critical.proofs.LevelParts.{written_kind}
use Rattle.jr_critical.proofs.levels.Levels.set_part.Goals as goal

pub returns-in_err-has_part_to_write-clause-call : goal.returns-in_err-has_part_to_write-clause-call
returns-in_err-has_part_to_write-clause-call g c =
    let h = c.level-object.result.header in
    let ws = map g.E.Elem.word_of c.args.elements.now in
    refuses_part g.met.S.Steps.fits c.args.self.now c.args.level c.requires.level c.level-object.ensures
    c.args.held.now.steps c.args.held.now.frames.frames (set_part_tests g.E.Elem.KIND c.args.start (length ws))
    (λ o. write o c.args.start ws) c.from_residual.result c.from_residual.ensures.1 (refl, (refl, (refl, tt)))
    (same_tests {answer = Err c.in_err-has_part_to_write.field-0.0}
    (sym (length-map c.args.elements.now g.E.Elem.word_of)) (λ n.
    set_part_tests g.E.Elem.KIND c.args.start n h.kind h.length)
    (same_tests {answer = Err c.in_err-has_part_to_write.field-0.0} c.KIND.ensures (λ k.
    set_part_tests k c.args.start (length c.args.elements.now) h.kind h.length) c.in_err-has_part_to_write.ensures))

pub write_part-requires-clause-known : goal.write_part-requires-clause-known
write_part-requires-clause-known g c =
    may_hold g.met.S.Steps.fits c.args.self.now c.args.level c.requires.level c.level-object.ensures c.requires.stand

pub write_part-requires-clause-kind : goal.write_part-requires-clause-kind
write_part-requires-clause-kind g c =
    let h = c.level-object.result.header in
    written_kind g.E.Elem.KIND h.kind c.args.start (length c.args.elements.now) h.length
    (same_tests {answer = Ok tt} c.KIND.ensures (λ k.
    set_part_tests k c.args.start (length c.args.elements.now) h.kind h.length) c.in_ok-has_part_to_write.ensures)

pub returns-clause-call : goal.returns-clause-call
returns-clause-call g c =
    let h = c.level-object.result.header in
    let ws = map g.E.Elem.word_of c.args.elements.now in
    let n = length c.args.elements.now in
    let long = sym (length-map c.args.elements.now g.E.Elem.word_of) in
    reaches_part g.met.S.Steps.fits c.args.self.now c.args.level c.requires.level c.level-object.ensures n
    (λ o. write o c.args.start ws) (Ok tt) (all_written c.args.start ws n long (Ok tt)) c.write_part.ensures.stands
    c.requires.stand.ready.role_is c.write_part.ensures.call c.args.held.now.frames.frames
    (set_part_tests g.E.Elem.KIND c.args.start (length ws))
    (same_tests {answer = Ok tt} long (λ n. set_part_tests g.E.Elem.KIND c.args.start n h.kind h.length)
    (same_tests {answer = Ok tt} c.KIND.ensures (λ k. set_part_tests k c.args.start n h.kind h.length)
    c.in_ok-has_part_to_write.ensures))

pub invariant_of-held : goal.invariant_of-held
invariant_of-held g c =
    let ws = map g.E.Elem.word_of c.args.elements.now in
    let n = length c.args.elements.now in
    let long = sym (length-map c.args.elements.now g.E.Elem.word_of) in
    record {
      own = (stand_part g.met.S.Steps.fits c.args.self.now c.args.level c.requires.level c.level-object.ensures n
          (λ o. write o c.args.start ws) (Ok tt) (all_written c.args.start ws n long (Ok tt))
          c.write_part.ensures.stands c.requires.stand.ready.role_is c.write_part.ensures.call
          c.requires.stand).ready.own;
    }

pub returns-clause-stand : goal.returns-clause-stand
returns-clause-stand g c =
    let ws = map g.E.Elem.word_of c.args.elements.now in
    let n = length c.args.elements.now in
    let long = sym (length-map c.args.elements.now g.E.Elem.word_of) in
    stand_part g.met.S.Steps.fits c.args.self.now c.args.level c.requires.level c.level-object.ensures n
    (λ o. write o c.args.start ws) (Ok tt) (all_written c.args.start ws n long (Ok tt)) c.write_part.ensures.stands
    c.requires.stand.ready.role_is c.write_part.ensures.call c.requires.stand
