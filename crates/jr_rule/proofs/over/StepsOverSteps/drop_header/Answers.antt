use Rattle.std.proofs.Common.{refl, ap, ◌∙◌}
use Rattle.jr_rule.specs.Image.{header_at}
use Rattle.jr_rule.proofs.CollectOwed.{drops_header}
use Rattle.jr_rule.proofs.Told.{plainly}
use Rattle.jr_rule.proofs.FromMayKnow.{drop_is}
use Rattle.jr_rule.proofs.StepTaken.{known_in, leaves, stood, took}
use Rattle.jr_rule.proofs.StepTaken.AtPlaces.{header_owed}
use Rattle.jr_rule.proofs.over.StepsOverSteps.drop_header.Goals as goal

pub store-requires-clause-owed : goal.store-requires-clause-owed
store-requires-clause-owed g c =
    let s = c.args.self.now in
    let z = g.C.Cells.sight s.cells in
    let o = c.args.object in
    header_owed o (c.header_at-at.ensures ∙ ap (header_at z.first.config) c.from.ensures) c.requires.number
    (known_in s c.requires.role c.requires.can)
    (λ k role few m. drops_header k role o c.requires.number.0 few (drop_is k o m))

pub invariant_of-self : goal.invariant_of-self
invariant_of-self g c = let s = c.args.self.now in stood s c.requires.role c.requires.can
    c.store.ensures.there c.store.ensures.step (leaves (plainly (λ k k' done t. t)) (λ k. refl) (λ k. refl))

pub returns : goal.returns
returns g c = let s = c.args.self.now in
    took s _ c.store.ensures.step refl c.requires.role _ (plainly (λ k k' done t. t)) refl refl
