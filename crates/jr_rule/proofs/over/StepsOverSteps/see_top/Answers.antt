use Rattle.std.proofs.Common.{rules, refl}
use Rattle.jr_rule.proofs.ActEffects.{top_load_role, top_load_fresh}
use Rattle.jr_rule.proofs.HeapOwed.{sees_top}
use Rattle.jr_rule.proofs.Told.{top_load, top_look_leaves, top_word_read}
use Rattle.jr_rule.proofs.StepTaken.{known_any, known_in, owing, stood, took}
use Rattle.jr_rule.proofs.over.StepsOverSteps.see_top.Goals as goal

pub load-found-requires-clause-owed : goal.load-found-requires-clause-owed
load-found-requires-clause-owed g c = let s = c.args.self.now in owing s c.requires (known_any s) (search rules) (λ k
    among role m. sees_top k role c.args.name)

pub invariant_of-self : goal.invariant_of-self
invariant_of-self g c = let s = c.args.self.now in stood s c.requires (known_any s)
    c.load-found.ensures.there c.load-found.ensures.step (top_look_leaves c.args.name)

pub unwrap-requires : goal.unwrap-requires
unwrap-requires g c = let s = c.args.self.now in
    top_word_read c.load-found.ensures.step (known_in s c.requires (known_any s))
    (λ k k' done t. (t.0, t.1, t.2)) c.parts.result c.parts.ensures.complete

pub returns : goal.returns
returns g c =
    let s = c.args.self.now in
    let words = (g.C.Cells.sight s.cells).first.config.words in
    let u = c.unwrap.result.used in
    took s _ c.load-found.ensures.step refl c.requires _ (top_load _ c.parts.ensures.complete _ c.unwrap.ensures
    c.args.name) (top_load_role words c.args.name u s.role) (top_load_fresh words c.args.name u s.fresh)
