use Rattle.std.proofs.Common.{◌≡◌, ◌<◌, ℕ, refl, sym, ap, subst, ◌∙◌}
use Rattle.jr_word.specs.declared.config.Config.{Config}
use Rattle.jr_word.specs.Local.{local_word, IsLocalPlace}
use Rattle.jr_steps.specs.Says.{local_parts}
use Rattle.jr_rule.specs.Image.{local_at}
use Rattle.jr_rule.proofs.ActEffects.{putting_role, putting_spends}
use Rattle.jr_rule.proofs.FromMayKnow.{optional_few}
use Rattle.jr_rule.proofs.LocalSteps.{place_fits}
use Rattle.jr_rule.proofs.StepTaken.{leaves, local_in, owing, stood, store_at, took}
use Rattle.jr_rule.proofs.PlaceOwed.{optional_is, puts_local}
use Rattle.jr_rule.proofs.Told.{putting, Put}
use Rattle.jr_rule.specs.Over.{facts_over as facts}
use Rattle.jr_rule.proofs.over.StepsOverSteps.put_local.Goals as goal

pub pack-new-requires : goal.pack-new-requires
pack-new-requires g c =
    let s = c.args.self.now in
    subst (λ q. IsLocalPlace q) (sym c.local_parts.ensures) (place_fits c.args.object (optional_few facts (λ s k h. h.1)
    s c.args.object c.requires.object (g.met.C.Cells.sound s.cells s.place s.at).sized.limited.objects.1))

pub store-requires-clause-owed : goal.store-requires-clause-owed
store-requires-clause-owed g c =
    let s = c.args.self.now in
    let i = c.args.place in
    let o = c.args.object in
    let new : local_word (local_parts o) ≡ c.pack-new.result.0 =
    sym (c.pack-new.ensures ∙ ap local_word c.local_parts.ensures) in
    let z = g.C.Cells.sight s.cells in
    let here : c.local_at-at.result ≡ local_at z.first.config z.first.thread i = c.local_at-at.ensures
    ∙ ap (λ (x : Config × ℕ). local_at x.0 x.1 i) (λ j. (c.config-config.ensures j, c.thread-own.ensures j)) in
    owing s c.requires.role c.requires.object
    (local_in z.first.config z.first.thread i here (g.met.C.Cells.sound s.cells s.place s.at).row c.requires.place)
    (λ k among role m.
    let at : local_at k.config k.thread i ≡ c.local_at-at.result =
    ap (λ (x : Config × ℕ). local_at x.0 x.1 i) (λ j. (among.config j, among.thread j)) ∙ sym here in
    store_at k (Put i o k) at new (puts_local k role i o
    (subst (λ (z : Config). i < z.locals) (sym among.config) c.requires.place) (optional_is o k m)))

pub invariant_of-self : goal.invariant_of-self
invariant_of-self g c = let s = c.args.self.now in stood s c.requires.role c.requires.object
    c.store.ensures.there c.store.ensures.step (leaves (putting c.args.place c.args.object) (λ k. putting_role
    c.args.place c.args.object s.role) (λ k. putting_spends c.args.place c.args.object s.fresh))

pub returns : goal.returns
returns g c =
    let s = c.args.self.now in
    took s _ c.store.ensures.step refl c.requires.role _ (putting c.args.place c.args.object)
    (putting_role c.args.place c.args.object s.role) (putting_spends c.args.place c.args.object s.fresh)
