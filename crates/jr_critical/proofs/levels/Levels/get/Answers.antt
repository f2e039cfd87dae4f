use Rattle.std.proofs.Common.{IsSome, sym, subst, ◌∙◌}
use Rattle.jr_critical.proofs.LevelElements.{gets, gets_other, gets_past, got_fits, may_reach, stand_got}
use Rattle.jr_critical.proofs.levels.Levels.get.Goals as goal

pub returns-then-not-is_read_as-clause-call : goal.returns-then-not-is_read_as-clause-call
returns-then-not-is_read_as-clause-call g c =
    gets_other g.met.S.Steps.fits c.args.self.now c.args.level c.requires.level c.level-object.ensures c.args.index
    c.KIND.ensures c.args.held.now.steps c.args.held.now.frames.frames (sym c.is_read_as.ensures
    ∙ c.if-not-is_read_as.true)

pub returns-then-header-index-clause-call : goal.returns-then-header-index-clause-call
returns-then-header-index-clause-call g c =
    gets_past g.met.S.Steps.fits c.args.self.now c.args.level c.requires.level c.level-object.ensures c.args.index
    c.KIND.ensures c.args.held.now.steps c.args.held.now.frames.frames
    (sym c.is_read_as.ensures ∙ c.if-not-is_read_as.false) c.if-header-index.true

pub see_element-word-requires-clause-known : goal.see_element-word-requires-clause-known
see_element-word-requires-clause-known g c = may_reach g.met.S.Steps.fits c.args.self.now c.args.level c.requires.level
    c.level-object.ensures c.args.index c.KIND.ensures c.requires.stand

pub invariant_of-held : goal.invariant_of-held
invariant_of-held g c = record {
  own = (stand_got g.met.S.Steps.fits c.args.self.now c.args.level c.requires.level c.level-object.ensures c.args.index
      c.KIND.ensures c.see_element-word.ensures c.requires.stand).ready.own;
}

pub unwrap-requires : goal.unwrap-requires
unwrap-requires g c = subst (λ r. IsSome r) (sym c.from_word.ensures)
    (g.met.E.Elem.laws.reads_below c.see_element-word.result
    (got_fits g.met.S.Steps.fits c.args.self.now c.args.level c.requires.level c.level-object.ensures c.args.index
    c.KIND.ensures c.see_element-word.ensures (sym c.is_read_as.ensures ∙ c.if-not-is_read_as.false) c.requires.stand))

pub returns-clause-call : goal.returns-clause-call
returns-clause-call g c =
    gets g.met.S.Steps.fits c.args.self.now c.args.level c.requires.level c.level-object.ensures c.args.index
    c.KIND.ensures c.see_element-word.ensures c.args.held.now.frames.frames (g.E.Elem.word_of c.unwrap.result)
    c.requires.stand.ready.role_is (sym c.is_read_as.ensures ∙ c.if-not-is_read_as.false) c.if-header-index.false
    (g.met.E.Elem.laws.reads_own c.see_element-word.result c.unwrap.result
    (sym c.from_word.ensures ∙ c.unwrap.ensures)).1

pub returns-clause-stand : goal.returns-clause-stand
returns-clause-stand g c = stand_got g.met.S.Steps.fits c.args.self.now c.args.level c.requires.level
    c.level-object.ensures c.args.index c.KIND.ensures c.see_element-word.ensures c.requires.stand
