use Rattle.std.proofs.Common.{rules, refl, sym, subst, ◌<◌}
use Rattle.jr_word.specs.declared.config.Config.{Config}
use Rattle.jr_rule.proofs.ActEffects.{slot_load_role, slot_load_fresh}
use Rattle.jr_rule.proofs.Readings.{one_slot, found_so}
use Rattle.jr_rule.proofs.StepTaken.{its_acts, known_any, known_in, load_at, owing, stood, took}
use Rattle.jr_rule.proofs.SlotOwed.{sees_slot}
use Rattle.jr_rule.proofs.Told.{slot_load, slot_look_leaves, SawSlot}
use Rattle.jr_rule.proofs.over.StepsOverSteps.see_slot.Goals as goal

pub load-found-requires-clause-owed : goal.load-found-requires-clause-owed
load-found-requires-clause-owed g c =
    let s = c.args.self.now in
    let i = c.args.index in
    owing s c.requires.role (known_any s) (search rules) (λ k among role m.
    load_at k (SawSlot i c.args.name k) (sym c.slot_at-at.ensures) (sees_slot k role i c.args.name
    (subst (λ (z : Config). i < z.slots) (sym among.config) c.requires.row) c.requires.fits))

pub invariant_of-self : goal.invariant_of-self
invariant_of-self g c = let s = c.args.self.now in stood s c.requires.role (known_any s)
    c.load-found.ensures.there c.load-found.ensures.step (slot_look_leaves c.args.index c.args.name)

pub of_word-requires : goal.of_word-requires
of_word-requires g c = let s = c.args.self.now in one_slot (found_so c.load-found.ensures.step
    (known_in s c.requires.role (known_any s)) (λ k k' done t. (t.0, t.1, t.2)))

pub returns-clause-step : goal.returns-clause-step
returns-clause-step g c =
    let s = c.args.self.now in
    let i = c.args.index in
    let name = c.args.name in
    let q = c.of_word.result in
    took s _ c.load-found.ensures.step refl c.requires.role _ (slot_load i name q c.of_word.ensures)
    (slot_load_role i name q s.role) (slot_load_fresh i name q s.fresh)

pub returns-clause-seen : goal.returns-clause-seen
returns-clause-seen g c =
    let s = c.args.self.now in
    let i = c.args.index in
    let name = c.args.name in
    let q = c.of_word.result in
    c.load-found.ensures.seen _ (its_acts (slot_load i name q c.of_word.ensures))
