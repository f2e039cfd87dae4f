use Rattle.std.proofs.Common.{rules, refl, sym, subst, ◌<◌}
use Rattle.jr_word.specs.declared.config.Config.{Config}
use Rattle.jr_rule.proofs.CollectOwed.{scans_slot}
use Rattle.jr_rule.proofs.Told.{slot_scan, slot_scan_leaves, ScannedSlot}
use Rattle.jr_rule.proofs.Readings.{one_slot, found_so}
use Rattle.jr_rule.proofs.StepTaken.{known_any, known_in, load_at, owing, stood, took}
use Rattle.jr_rule.proofs.over.StepsOverSteps.scan_slot.Goals as goal

pub load-found-requires-clause-owed : goal.load-found-requires-clause-owed
load-found-requires-clause-owed g c =
    let s = c.args.self.now in
    let i = c.args.index in
    owing s c.requires.role (known_any s) (search rules) (λ k among role m.
    load_at k (ScannedSlot i k) (sym c.slot_at-at.ensures)
    (scans_slot k role i (subst (λ (z : Config). i < z.slots) (sym among.config) c.requires.row)))

pub invariant_of-self : goal.invariant_of-self
invariant_of-self g c = let s = c.args.self.now in stood s c.requires.role (known_any s)
    c.load-found.ensures.there c.load-found.ensures.step (slot_scan_leaves c.args.index)

pub of_word-requires : goal.of_word-requires
of_word-requires g c = let s = c.args.self.now in
    one_slot (found_so c.load-found.ensures.step (known_in s c.requires.role (known_any s)) (λ k k' done t.
    (t.0, t.1, t.2)))

pub returns : goal.returns
returns g c = let s = c.args.self.now in took s _ c.load-found.ensures.step refl c.requires.role _
    (slot_scan c.args.index c.of_word.result c.of_word.ensures) refl refl
