use Rattle.std.proofs.Common.{◌≡◌, ◌⊎◌, refl, sym, ap, subst, ◌∙◌}
use Rattle.jr_model.specs.declared.event.Role.{Role}
use Rattle.jr_model.specs.declared.event.Role.TheVariants.{Within, Collecting}
use Rattle.jr_rule.specs.Image.{header_at}
use Rattle.jr_rule.proofs.HeapOwed.{loads_header, header_or_zero}
use Rattle.jr_rule.proofs.Told.{header_load, header_look_leaves}
use Rattle.jr_rule.proofs.Readings.{one_header, found_so}
use Rattle.jr_rule.proofs.StepTaken.{known_any, known_in, stood, took}
use Rattle.jr_rule.proofs.StepTaken.AtPlaces.{header_owed}
use Rattle.jr_rule.proofs.over.StepsOver.header_of.Goals as goal

pub load-found-requires-clause-owed : goal.load-found-requires-clause-owed
load-found-requires-clause-owed g c =
    let s = c.args.self.now in
    let z = g.C.Cells.sight s.cells in
    header_owed c.args.object (c.header_at-at.ensures ∙ ap (header_at z.first.config) c.from.ensures) c.requires.number
    (known_in s refl (known_any s)) (λ k role few m. loads_header k
    (subst (λ (r : Role). (r ≡ Within) ⊎ (r ≡ Collecting)) (sym role) c.requires.role) c.args.object c.requires.number.0
    few)

pub invariant_of-self : goal.invariant_of-self
invariant_of-self g c = let s = c.args.self.now in stood s refl (known_any s)
    c.load-found.ensures.there c.load-found.ensures.step (header_look_leaves c.args.object)

pub of_word-requires : goal.of_word-requires
of_word-requires g c = let s = c.args.self.now in
    one_header (found_so c.load-found.ensures.step (known_in s refl (known_any s))
    (λ k k' done t. header_or_zero t.0 c.load-found.result t.1))

pub returns : goal.returns
returns g c =
    let s = c.args.self.now in
    took s _ c.load-found.ensures.step refl refl _
    (header_load c.args.object c.of_word.result c.of_word.ensures.none c.of_word.ensures.header) refl refl
