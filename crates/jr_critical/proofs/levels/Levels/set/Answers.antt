use Rattle.std.proofs.Common.{refl, sym, ◌∙◌}
use Rattle.jr_critical.proofs.LevelElements.{may_write, sets, sets_other, sets_past, sets_text, stand_set}
use Rattle.jr_critical.proofs.levels.Levels.set.Goals as goal

pub returns-then-is_text-clause-call : goal.returns-then-is_text-clause-call
returns-then-is_text-clause-call g c =
    sets_text g.met.S.Steps.fits c.args.self.now c.args.level c.requires.level c.level-object.ensures c.args.index refl
    c.args.held.now.steps c.args.held.now.frames.frames (g.E.Elem.word_of c.args.value) (sym c.is_text.ensures
    ∙ c.if-is_text.true)

pub returns-then-not-is_read_as-clause-call : goal.returns-then-not-is_read_as-clause-call
returns-then-not-is_read_as-clause-call g c =
    sets_other g.met.S.Steps.fits c.args.self.now c.args.level c.requires.level c.level-object.ensures c.args.index
    c.KIND.ensures c.args.held.now.steps c.args.held.now.frames.frames (g.E.Elem.word_of c.args.value)
    (sym c.is_text.ensures ∙ c.if-is_text.false) (sym c.is_read_as.ensures ∙ c.if-not-is_read_as.true)

pub returns-then-header-index-clause-call : goal.returns-then-header-index-clause-call
returns-then-header-index-clause-call g c =
    sets_past g.met.S.Steps.fits c.args.self.now c.args.level c.requires.level c.level-object.ensures c.args.index
    c.KIND.ensures c.args.held.now.steps c.args.held.now.frames.frames (g.E.Elem.word_of c.args.value)
    (sym c.is_text.ensures ∙ c.if-is_text.false) (sym c.is_read_as.ensures ∙ c.if-not-is_read_as.false)
    c.if-header-index.true

pub put_element-requires-clause-known : goal.put_element-requires-clause-known
put_element-requires-clause-known g c =
    may_write g.met.S.Steps.fits c.args.self.now c.args.level c.requires.level c.level-object.ensures c.args.index
    c.KIND.ensures c.to_word-word.result (g.E.Elem.word_of c.args.value) c.to_word-word.ensures.word
    (g.met.E.Elem.laws.writes_below c.args.value c.to_word-word.ensures.fits)
    (sym c.is_text.ensures ∙ c.if-is_text.false) (sym c.is_read_as.ensures ∙ c.if-not-is_read_as.false) c.requires.stand

pub invariant_of-held : goal.invariant_of-held
invariant_of-held g c = record {
  own = (stand_set g.met.S.Steps.fits c.args.self.now c.args.level c.requires.level c.level-object.ensures c.args.index
      c.KIND.ensures c.to_word-word.result (g.E.Elem.word_of c.args.value) c.to_word-word.ensures.word
      (g.met.E.Elem.laws.writes_below c.args.value c.to_word-word.ensures.fits)
      (sym c.is_text.ensures ∙ c.if-is_text.false) (sym c.is_read_as.ensures ∙ c.if-not-is_read_as.false)
      c.put_element.ensures c.requires.stand).ready.own;
}

pub returns-clause-call : goal.returns-clause-call
returns-clause-call g c =
    sets g.met.S.Steps.fits c.args.self.now c.args.level c.requires.level c.level-object.ensures c.args.index
    c.KIND.ensures c.to_word-word.result (g.E.Elem.word_of c.args.value) c.to_word-word.ensures.word
    (g.met.E.Elem.laws.writes_below c.args.value c.to_word-word.ensures.fits)
    (sym c.is_text.ensures ∙ c.if-is_text.false) (sym c.is_read_as.ensures ∙ c.if-not-is_read_as.false)
    c.put_element.ensures c.args.held.now.frames.frames c.requires.stand.ready.role_is c.if-header-index.false

pub returns-clause-stand : goal.returns-clause-stand
returns-clause-stand g c =
    stand_set g.met.S.Steps.fits c.args.self.now c.args.level c.requires.level c.level-object.ensures c.args.index
    c.KIND.ensures c.to_word-word.result (g.E.Elem.word_of c.args.value) c.to_word-word.ensures.word
    (g.met.E.Elem.laws.writes_below c.args.value c.to_word-word.ensures.fits) (sym c.is_text.ensures
    ∙ c.if-is_text.false) (sym c.is_read_as.ensures ∙ c.if-not-is_read_as.false) c.put_element.ensures c.requires.stand
