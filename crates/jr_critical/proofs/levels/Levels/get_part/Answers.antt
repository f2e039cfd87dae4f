use Rattle.std.proofs.Common.{Ok, Err, length, map, refl}
use Rattle.jr_model.specs.Parts.{read}
use Rattle.jr_critical.specs.LevelParts.{get_part_tests, part_read}
use Rattle.jr_critical.proofs.LevelParts.{may_hold, no_part, reaches_part, refuses_part, same_tests, stand_part}
use Rattle.jr_critical.proofs.SparedActs.{read_spared}
use Rattle.jr_critical.proofs.levels.Levels.get_part.Goals as goal

pub returns-in_err-has_part-clause-call : goal.returns-in_err-has_part-clause-call
returns-in_err-has_part-clause-call g c =
    let n = length c.args.elements.now in
    let h = c.level-object.result.header in
    let ws = map g.E.Elem.word_of c.args.elements.now in
    refuses_part g.met.S.Steps.fits c.args.self.now c.args.level c.requires.level c.level-object.ensures
    c.args.held.now.steps c.args.held.now.frames.frames (get_part_tests g.E.Elem.KIND c.args.start n)
    (λ o. read o c.args.start n) (part_read c.from_residual.result ws)
    (no_part _ c.from_residual.result ws c.from_residual.ensures.1) (refl, (refl, tt))
    (same_tests {answer = Err c.in_err-has_part.field-0.0} c.KIND.ensures (λ k.
    get_part_tests k c.args.start n h.kind h.length) c.in_err-has_part.ensures)

pub read_part-requires-clause-known : goal.read_part-requires-clause-known
read_part-requires-clause-known g c =
    may_hold g.met.S.Steps.fits c.args.self.now c.args.level c.requires.level c.level-object.ensures c.requires.stand

pub returns-clause-call : goal.returns-clause-call
returns-clause-call g c =
    let n = length c.args.elements.now in
    let h = c.level-object.result.header in
    let answer = part_read (Ok tt) (map g.E.Elem.word_of c.read_part.new.elements) in
    reaches_part g.met.S.Steps.fits c.args.self.now c.args.level c.requires.level c.level-object.ensures n
    (λ o. read o c.args.start n) answer (λ f o acts. read_spared o c.args.start n f f acts answer)
    c.read_part.ensures.stands c.requires.stand.ready.role_is c.read_part.ensures.call
    c.args.held.now.frames.frames (get_part_tests g.E.Elem.KIND c.args.start n)
    (same_tests {answer = Ok tt} c.KIND.ensures (λ k. get_part_tests k c.args.start n h.kind h.length)
    c.in_ok-has_part.ensures)

pub invariant_of-held : goal.invariant_of-held
invariant_of-held g c =
    let n = length c.args.elements.now in
    let answer = part_read (Ok tt) (map g.E.Elem.word_of c.read_part.new.elements) in
    record {
      own = (stand_part g.met.S.Steps.fits c.args.self.now c.args.level c.requires.level c.level-object.ensures n
          (λ o. read o c.args.start n) answer (λ f o acts. read_spared o c.args.start n f f acts answer)
          c.read_part.ensures.stands c.requires.stand.ready.role_is c.read_part.ensures.call
          c.requires.stand).ready.own;
    }

pub returns-clause-stand : goal.returns-clause-stand
returns-clause-stand g c =
    let n = length c.args.elements.now in
    let answer = part_read (Ok tt) (map g.E.Elem.word_of c.read_part.new.elements) in
    stand_part g.met.S.Steps.fits c.args.self.now c.args.level c.requires.level c.level-object.ensures n
    (λ o. read o c.args.start n) answer (λ f o acts. read_spared o c.args.start n f f acts answer)
    c.read_part.ensures.stands c.requires.stand.ready.role_is c.read_part.ensures.call c.requires.stand
