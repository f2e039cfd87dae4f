use Rattle.std.proofs.Common.{rules, refl, sym}
use Rattle.jr_rule.proofs.CollectOwed.{settles_top, below_is}
use Rattle.jr_rule.proofs.Told.{SettledTop, plainly}
use Rattle.jr_rule.proofs.StepTaken.{leaves, owing, stood, store_at, took}
use Rattle.jr_rule.proofs.over.StepsOverSteps.set_top.Goals as goal

pub store-requires-clause-owed : goal.store-requires-clause-owed
store-requires-clause-owed g c =
    let s = c.args.self.now in
    owing s c.requires.role c.requires.can (search rules) (λ k among role m.
    store_at k (SettledTop c.args.used k) refl (sym c.top_word-new.ensures)
    (settles_top k role c.args.used (below_is c.args.used k m)))

pub invariant_of-self : goal.invariant_of-self
invariant_of-self g c = let s = c.args.self.now in stood s c.requires.role c.requires.can
    c.store.ensures.there c.store.ensures.step (leaves (plainly (λ k k' done t. t)) (λ k. refl) (λ k. refl))

pub returns : goal.returns
returns g c = let s = c.args.self.now in
    took s _ c.store.ensures.step refl c.requires.role _ (plainly (λ k k' done t. t)) refl refl
