use Rattle.std.proofs.Common.{refl}
use Rattle.jr_rule.proofs.StepTaken.{known_within, part_over, part_standing}
use Rattle.jr_rule.proofs.over.StepsOverSteps.see_part.Goals as goal

pub load_part-requires-clause-known : goal.load_part-requires-clause-known
load_part-requires-clause-known g c =
    let s = c.args.self.now in known_within (g.C.Cells.sight s.cells) c.requires.role c.requires.known

pub invariant_of-self : goal.invariant_of-self
invariant_of-self g c =
    let s = c.args.self.now in
    let t = c.load_part.ensures in
    record {
      at = t.there;
      stands = part_standing g.C.Cells.sight t.steps c.requires.role s.stands c.requires.known;
    }

pub returns-clause-steps : goal.returns-clause-steps
returns-clause-steps g c = part_over c.args.self.now _ c.requires.role c.load_part.ensures.steps refl refl refl
