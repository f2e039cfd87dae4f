use Rattle.std.proofs.Common.{◌≡◌, rules, refl, sym, ap, subst, ◌∙◌, ◌==◌}
use Rattle.jr_word.specs.Slot.{slot_word}
use Rattle.jr_rule.specs.Slots.{parts_once_free}
use Rattle.jr_rule.proofs.ActEffects.{freeing_role, freeing_fresh}
use Rattle.jr_rule.proofs.FromMayKnow.{looked_can, looked_object}
use Rattle.jr_rule.proofs.StepTaken.{exchange_at, its_acts, leaves, owing, stood, took}
use Rattle.jr_rule.proofs.SlotOwed.{frees_slot}
use Rattle.jr_rule.proofs.Told.{freeing, Freed}
use Rattle.jr_rule.proofs.Slots.{names_object}
use Rattle.jr_rule.specs.Over.{facts_over as facts}
use Rattle.jr_rule.proofs.over.StepsOverSteps.free.Goals as goal

pub reference-requires : goal.reference-requires
reference-requires g c = looked_can facts (λ s k h. h.1) c.args.self.now c.args.handle c.args.object c.requires.looked

pub pack-looked-requires : goal.pack-looked-requires
pack-looked-requires g c =
    names_object c.args.handle.kind c.args.handle.serial c.args.object c.reference.result c.reference.ensures
    (looked_object facts (λ s k h. h.1) c.args.self.now c.args.handle c.args.object c.requires.looked)

pub exchange-found-requires-clause-owed : goal.exchange-found-requires-clause-owed
exchange-found-requires-clause-owed g c =
    let s = c.args.self.now in
    let h = c.args.handle in
    owing s c.requires.role c.requires.looked (search rules) (λ k among role m.
    let free : slot_word (parts_once_free k.last h.serial) ≡ c.pack-freed.result.0 =
    ap (λ n. slot_word (parts_once_free n h.serial)) (among.last ∙ sym c.last.ensures)
    ∙ sym (c.pack-freed.ensures ∙ ap slot_word c.freed_slot.ensures) in
    subst (λ w. Rattle.jr_rule.specs.Rule.Owes k c.slot_at-at.result (λ n.
    prog.Atomic.either (Rattle.std.proofs.Common.eqb n c.pack-looked.result.0) c.pack-freed.result.0 n) (Freed h w k))
    (sym c.pack-looked.ensures)
    (exchange_at k (Freed h (slot_word c.reference.result) k) (sym c.slot_at-at.ensures) (sym c.pack-looked.ensures)
    free (frees_slot k role h c.args.object c.reference.result c.reference.ensures m)))

pub invariant_of-self : goal.invariant_of-self
invariant_of-self g c =
    let s = c.args.self.now in
    let h = c.args.handle in
    let n = c.exchange-found.result in
    let x = c.pack-looked.result.0 in
    stood s c.requires.role c.requires.looked c.exchange-found.ensures.there
    c.exchange-found.ensures.step
    (leaves (freeing h c.args.object x) (λ k. freeing_role h (n == x) s.role) (λ k. freeing_fresh h (n == x) s.fresh))

pub returns-clause-step : goal.returns-clause-step
returns-clause-step g c =
    let s = c.args.self.now in
    let h = c.args.handle in
    let n = c.exchange-found.result in
    let x = c.pack-looked.result.0 in
    took s _ c.exchange-found.ensures.step refl c.requires.role _ (freeing h c.args.object x)
    (freeing_role h (n == x) s.role) (freeing_fresh h (n == x) s.fresh)

pub returns-clause-seen : goal.returns-clause-seen
returns-clause-seen g c =
    let s = c.args.self.now in
    let h = c.args.handle in
    let n = c.exchange-found.result in
    let x = c.pack-looked.result.0 in
    c.exchange-found.ensures.seen _ (its_acts (freeing h c.args.object x))
