use Rattle.std.proofs.Common.{◌+◌, refl}
use Rattle.jr_rule.proofs.HeapOwed.{puts_own}
use Rattle.std.proofs.Math.Logic.{∥∥₁_elim}
use Rattle.std.proofs.Props.{props}
use Rattle.jr_rule.proofs.FromMayKnow.{own_few}
use Rattle.jr_rule.proofs.Told.{plainly}
use Rattle.jr_rule.proofs.StepTaken.{known_in, leaves, stood, took}
use Rattle.jr_rule.proofs.StepTaken.AtPlaces.{element_owed}
use Rattle.jr_rule.proofs.over.StepsOverSteps.put_reserved.Goals as goal

pub element_at-at-requires-clause-index : goal.element_at-at-requires-clause-index
element_at-at-requires-clause-index g c = let s = c.args.self.now in
    own_few (g.met.C.Cells.sound s.cells s.place s.at) (known_in s c.requires.role c.requires.own) c.args.place
    c.args.index (λ k h. h)

pub store-requires-clause-owed : goal.store-requires-clause-owed
store-requires-clause-owed g c =
    let s = c.args.self.now in
    let may = known_in s c.requires.role c.requires.own in
    element_owed (c.args.place + c.args.index) c.element_at-at.ensures
    (own_few (g.met.C.Cells.sound s.cells s.place s.at) may c.args.place c.args.index (λ k h. h)) may (λ k role m.
    puts_own k role c.args.place c.args.index c.args.word (∥∥₁_elim m (hlevel props) (λ q. q)))

pub invariant_of-self : goal.invariant_of-self
invariant_of-self g c = let s = c.args.self.now in stood s c.requires.role c.requires.own
    c.store.ensures.there c.store.ensures.step (leaves (plainly (λ k k' done t. t)) (λ k. refl) (λ k. refl))

pub returns : goal.returns
returns g c = let s = c.args.self.now in
    took s _ c.store.ensures.step refl c.requires.role _ (plainly (λ k k' done t. t)) refl refl
