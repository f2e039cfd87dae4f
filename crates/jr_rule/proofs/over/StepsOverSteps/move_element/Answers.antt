use Rattle.std.proofs.Common.{◌+◌, refl}
use Rattle.jr_rule.proofs.CollectOwed.{moves_element}
use Rattle.jr_rule.proofs.FromMayKnow.{move_few, move_is}
use Rattle.jr_rule.proofs.Told.{plainly}
use Rattle.jr_rule.proofs.StepTaken.{known_in, leaves, stood, took}
use Rattle.jr_rule.specs.Over.{facts_over as facts}
use Rattle.jr_rule.proofs.StepTaken.AtPlaces.{element_owed}
use Rattle.jr_rule.proofs.over.StepsOverSteps.move_element.Goals as goal

pub element_at-at-requires-clause-index : goal.element_at-at-requires-clause-index
element_at-at-requires-clause-index g c = let s = c.args.self.now in
    move_few facts (λ s k h. h.1) s c.args.object c.args.header c.args.place c.args.index c.args.word c.requires.can

pub store-requires-clause-owed : goal.store-requires-clause-owed
store-requires-clause-owed g c =
    let s = c.args.self.now in
    element_owed (c.args.place + c.args.index) c.element_at-at.ensures
    (move_few facts (λ s k h. h.1) s c.args.object c.args.header c.args.place c.args.index c.args.word c.requires.can)
    (known_in s c.requires.role c.requires.can)
    (λ k role m. moves_element k role c.args.object c.args.header c.args.place c.args.index c.args.word
    c.requires.index (move_is k c.args.object c.args.header c.args.place c.args.index c.args.word m))

pub invariant_of-self : goal.invariant_of-self
invariant_of-self g c = let s = c.args.self.now in stood s c.requires.role c.requires.can
    c.store.ensures.there c.store.ensures.step (leaves (plainly (λ k k' done t. t)) (λ k. refl) (λ k. refl))

pub returns : goal.returns
returns g c = let s = c.args.self.now in
    took s _ c.store.ensures.step refl c.requires.role _ (plainly (λ k k' done t. t)) refl refl
