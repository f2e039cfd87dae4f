use Rattle.std.proofs.Common.{◌≡◌, ◌+◌, ◌∙◌, ℕ, List, length, option_to_list, sym, ap, subst, arith}
use Rattle.jr_word.specs.declared.config.Config.{Config}
use Rattle.jr_weak.specs.Markers.{marks_of}
use Rattle.jr_weak.proofs.Sweeping.{told_at}
use Rattle.jr_weak.proofs.Drops.{DropsTo, drops_none, drops_may, drops_next, drops_all}
use Rattle.jr_weak.proofs.marker.Marker.drop_unreached.Goals as goal
use Rattle.jr_weak.proofs.marker.Marker.drop_unreached.Goals.{in-Some, in_default}

pub loop-index-init : goal.loop-index-init
loop-index-init g c =
    (drops_none g.met.S.Steps.fits (marks_of c.args.self.now) c.args.steps.now c.args.numbers.now, omega arith)

pub drop_number-requires-clause-can : goal.drop_number-requires-clause-can
drop_number-requires-clause-can g c =
    drops_may g.met.S.Steps.fits (marks_of c.args.self.now) c.requires.cleared c.loop-index.invariant.0

pub returns : goal.returns
returns g c =
    let a = c.loop-index.auto.index-end in
    let b = c.loop-index-test.false in
    let s = ap (λ (z : Config). z.objects) c.config-objects.ensures in
    drops_all g.met.S.Steps.fits (marks_of c.args.self.now) c.loop-index.index (omega arith) c.loop-index.invariant.0

pub loop-index-preserved : goal.loop-index-preserved
loop-index-preserved g c =
    let marks = marks_of c.args.self.now in
    let p = c.loop-index.invariant in
    let l = p.1 in
    let count = c.loop-index.dropped in
    let numbers : List ℕ = c.loop-index.numbers in
    let next : (n : ℕ) (b : List ℕ) → n ≡ count + length (option_to_list c.drop_number.result)
    → b ≡ told_at numbers count c.drop_number.result
    → DropsTo g.S.Steps.facts marks (c.loop-index.index + 1) c.args.steps.now c.drop_number.new.steps n
    c.args.numbers.now b =
    λ n b is told. subst (λ (z : ℕ × List ℕ). DropsTo g.S.Steps.facts marks (c.loop-index.index + 1)
    c.args.steps.now c.drop_number.new.steps z.0 c.args.numbers.now z.1) (λ i. (sym is i, sym told i))
    (drops_next g.met.S.Steps.fits marks c.loop-index.index c.drop_number.result p.0 c.drop_number.ensures) in
    elim c.match-drop_number.branch [
      | in-Some w ↦
          let e = w.dropped-is in (
            next _ _ (e ∙ ap (λ r. count + length (option_to_list r)) (sym w.in-Some.is))
                (w.numbers-is ∙ (w.write_at.ensures ∙ ap (told_at numbers count) (sym w.in-Some.is))),
            omega arith,
          )
      | in_default w ↦
          let e = w.dropped-is in
          let none : count ≡ count + 0 = omega arith in (
            next _ _ (e ∙ (none ∙ ap (λ r. count + length (option_to_list r)) (sym w.in_default.is)))
                (w.numbers-is ∙ ap (told_at numbers count) (sym w.in_default.is)),
            omega arith,
          )
    ]
