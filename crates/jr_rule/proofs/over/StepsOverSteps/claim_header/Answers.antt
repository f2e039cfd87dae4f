use Rattle.std.proofs.Common.{refl, sym, ap, ◌∙◌, ◌==◌}
use Rattle.jr_steps.specs.Knowing.{words_for}
use Rattle.jr_rule.specs.Image.{header_at}
use Rattle.jr_rule.proofs.ActEffects.{publishing_role, publishing_fresh}
use Rattle.jr_rule.proofs.HeapOwed.{publishes_header}
use Rattle.jr_rule.proofs.Told.{publishing, Published}
use Rattle.jr_rule.proofs.StepTaken.{exchange_at, known_in, leaves, stood, took_with}
use Rattle.jr_rule.proofs.StepTaken.AtPlaces.{header_owed}
use Rattle.jr_rule.proofs.over.StepsOverSteps.claim_header.Goals as goal

pub exchange-found-requires-clause-owed : goal.exchange-found-requires-clause-owed
exchange-found-requires-clause-owed g c =
    let s = c.args.self.now in
    let h = c.args.header in
    let z = g.C.Cells.sight s.cells in
    let o = c.args.object in
    header_owed o (c.header_at-at.ensures ∙ ap (header_at z.first.config) c.from.ensures) c.requires.number
    (known_in s c.requires.role c.requires.filled)
    (λ k role few m. exchange_at k (Published o h k) refl refl (sym c.pack-new.ensures)
    (publishes_header k role o h c.requires.number.0 few c.requires.header m))

pub invariant_of-self : goal.invariant_of-self
invariant_of-self g c =
    let s = c.args.self.now in
    let o = c.args.object in
    let h = c.args.header in
    let n = c.exchange-found.result in
    stood s c.requires.role c.requires.filled c.exchange-found.ensures.there
    c.exchange-found.ensures.step (leaves (publishing o h)
    (λ k. publishing_role o h.kind (words_for h k) (n == 0) s.role)
    (λ k. publishing_fresh o h.kind (words_for h k) (n == 0) s.fresh))

pub returns : goal.returns
returns g c =
    let s = c.args.self.now in
    let o = c.args.object in
    let h = c.args.header in
    let n = c.exchange-found.result in
    took_with s _ c.exchange-found.ensures.step refl c.requires.role (publishing o h) refl refl
    (λ k. publishing_role o h.kind (words_for h k) (n == 0) s.role) (λ k.
    publishing_fresh o h.kind (words_for h k) (n == 0) s.fresh)
