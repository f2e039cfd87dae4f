use Rattle.std.proofs.Common.{◌≡◌, ◌∙◌, ◌≤◌, ◌++◌, ◌∷◌, [], length, ap, rules}
use Rattle.std.proofs.lemmas.List.{take_all}
use Rattle.jr_scripts.proofs.UnitLines.{spaced_units, units_line}
use Rattle.jr_scripts.proofs.printed.line_of_units.Goals as goal

pub returns : goal.returns
returns c =
    let pushed : c.push.new.self.items ≡ c.loop-unit.text.items ++ 10 ∷ [] = search rules in
    let past : length c.args.units.now ≤ c.loop-unit.unit-index = search rules in
    pushed
    ∙ ap (λ l. l ++ 10 ∷ []) (c.loop-unit.invariant
    ∙ (ap (λ us. c.args.word.now ++ (32 ∷ c.args.subject.now ++ spaced_units us)) (take_all c.loop-unit.unit-index
    c.args.units.now past) ∙ units_line c.args.word.now c.args.subject.now c.args.units.now))
