use Rattle.std.proofs.Common.{◌≡◌, ◌+◌, ◌∙◌, ℕ, List, length, option_to_list, sym, ap, subst, arith}
use Rattle.jr_word.specs.declared.handle.Handle.{Handle as NativeHandle}
use Rattle.jr_word.specs.declared.config.Config.{Config}
use Rattle.jr_weak.specs.Markers.{marks_of}
use Rattle.jr_weak.proofs.Sweeping.{told_at}
use Rattle.jr_weak.proofs.Sweeps.{ClearsTo, clears_none, clears_may, clears_next, clears_all}
use Rattle.jr_weak.proofs.marker.Marker.clear_weak.Goals as goal
use Rattle.jr_weak.proofs.marker.Marker.clear_weak.Goals.{in-Some, in_default}

pub loop-index-init : goal.loop-index-init
loop-index-init g c =
    (clears_none g.met.S.Steps.fits (marks_of c.args.self.now) c.args.steps.now c.args.handles.now, omega arith)

pub clear_slot-requires-clause-marked : goal.clear_slot-requires-clause-marked
clear_slot-requires-clause-marked g c =
    clears_may g.met.S.Steps.fits (marks_of c.args.self.now) c.requires.marked c.loop-index.invariant.0

pub returns : goal.returns
returns g c =
    let a = c.loop-index.auto.index-end in
    let b = c.loop-index-test.false in
    let s = ap (λ (z : Config). z.slots) c.config-slots.ensures in
    clears_all g.met.S.Steps.fits (marks_of c.args.self.now) c.loop-index.index (omega arith) c.loop-index.invariant.0

pub loop-index-preserved : goal.loop-index-preserved
loop-index-preserved g c =
    let marks = marks_of c.args.self.now in
    let p = c.loop-index.invariant in
    let l = p.1 in
    let count = c.loop-index.cleared in
    let handles : List NativeHandle = c.loop-index.handles in
    let next : (n : ℕ) (b : List NativeHandle) → n ≡ count + length (option_to_list c.clear_slot.result)
    → b ≡ told_at handles count c.clear_slot.result
    → ClearsTo g.S.Steps.facts marks (c.loop-index.index + 1) c.args.steps.now c.clear_slot.new.steps n
    c.args.handles.now b =
    λ n b is told. subst (λ (z : ℕ × List NativeHandle). ClearsTo g.S.Steps.facts marks (c.loop-index.index + 1)
    c.args.steps.now c.clear_slot.new.steps z.0 c.args.handles.now z.1) (λ i. (sym is i, sym told i))
    (clears_next g.met.S.Steps.fits marks c.loop-index.index c.clear_slot.result p.0 c.clear_slot.ensures) in
    elim c.match-clear_slot.branch [
      | in-Some w ↦
          let e = w.cleared-is in (
            next _ _ (e ∙ ap (λ r. count + length (option_to_list r)) (sym w.in-Some.is))
                (w.handles-is ∙ (w.write_at.ensures ∙ ap (told_at handles count) (sym w.in-Some.is))),
            omega arith,
          )
      | in_default w ↦
          let e = w.cleared-is in
          let none : count ≡ count + 0 = omega arith in (
            next _ _ (e ∙ (none ∙ ap (λ r. count + length (option_to_list r)) (sym w.in_default.is)))
                (w.handles-is ∙ ap (told_at handles count) (sym w.in_default.is)),
            omega arith,
          )
    ]
