use Rattle.std.proofs.Common.{◌+◌, refl}
use Rattle.jr_rule.proofs.HeapOwed.{puts_element}
use mathlib.Core.Logic.{∥∥₁_map}
use Rattle.std.proofs.Math.Logic.{∥∥₁_elim}
use Rattle.std.proofs.Props.{props}
use Rattle.jr_rule.proofs.FromMayKnow.{known_few}
use Rattle.jr_rule.proofs.Told.{plainly}
use Rattle.jr_rule.proofs.StepTaken.{known_in, leaves, stood, took}
use Rattle.jr_rule.proofs.StepTaken.AtPlaces.{element_owed}
use Rattle.jr_rule.proofs.over.StepsOverSteps.put_element.Goals as goal

pub element_at-at-requires-clause-index : goal.element_at-at-requires-clause-index
element_at-at-requires-clause-index g c = let s = c.args.self.now in
    known_few (g.met.C.Cells.sound s.cells s.place s.at) (known_in s c.requires.role c.requires.known) c.args.object
    c.args.header c.args.index (λ k h. h.0) c.requires.index

pub store-requires-clause-owed : goal.store-requires-clause-owed
store-requires-clause-owed g c =
    let s = c.args.self.now in
    let may = known_in s c.requires.role c.requires.known in
    element_owed (c.args.header.place + c.args.index) c.element_at-at.ensures
    (known_few (g.met.C.Cells.sound s.cells s.place s.at) may c.args.object c.args.header c.args.index (λ k h. h.0)
    c.requires.index) may (λ k role m.
    puts_element k role c.args.object c.args.header (∥∥₁_elim m (hlevel props) (λ q. q.0)) c.args.index
    c.requires.index c.args.word c.requires.kind (∥∥₁_map m (λ q. q.1)))

pub invariant_of-self : goal.invariant_of-self
invariant_of-self g c = let s = c.args.self.now in stood s c.requires.role c.requires.known
    c.store.ensures.there c.store.ensures.step (leaves (plainly (λ k k' done t. t)) (λ k. refl) (λ k. refl))

pub returns : goal.returns
returns g c = let s = c.args.self.now in
    took s _ c.store.ensures.step refl c.requires.role _ (plainly (λ k k' done t. t)) refl refl
