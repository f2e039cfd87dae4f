use Rattle.std.proofs.Common.{◌+◌, ◌∙◌, get_or, refl, sym, ap, arith}
use Rattle.std.proofs.lemmas.List.Sums.{sum_by_more}
use Rattle.jr_steps.specs.Knowing.{Standing}
use Rattle.jr_compact.proofs.Together.{length_at}
use Rattle.jr_compact.proofs.Bringing.{missing, brought_none, noted_number, good_below}
use Rattle.jr_compact.proofs.Bringing.{fits_below, bringable, brought_more, brought_all}
use Rattle.jr_compact.proofs.compacting.bring_together.Goals as goal

pub loop-entry-init : goal.loop-entry-init
loop-entry-init g c = let T = g.met.S.Steps in
    (refl, brought_none g.S.Steps.facts T.fits T.in_space c.args.entries.now c.requires.sorted c.args.steps.now)

pub bring_down-requires-clause-role : goal.bring_down-requires-clause-role
bring_down-requires-clause-role g c =
    ap (λ (s : Standing). s.role) (c.loop-entry.invariant.1).stands_is ∙ c.requires.role

pub bring_down-requires-clause-number : goal.bring_down-requires-clause-number
bring_down-requires-clause-number g c =
    let T = g.met.S.Steps in
    let n = noted_number g.S.Steps.facts T.fits T.in_space c.args.entries.now c.requires.sorted c.args.steps.now
    c.loop-entry.entry-index missing c.loop-entry-test.true c.requires.noted in
    let e = ap (λ (s : Standing). s.config.objects) (c.loop-entry.invariant.1).stands_is in
    (n.0, let m = n.1 in omega arith)

pub bring_down-requires-clause-header : goal.bring_down-requires-clause-header
bring_down-requires-clause-header g c =
    let T = g.met.S.Steps in
    good_below g.S.Steps.facts T.fits T.in_space c.args.entries.now c.requires.sorted c.args.steps.now
    c.loop-entry.entry-index missing c.loop-entry-test.true c.requires.noted c.loop-entry.next c.loop-entry.invariant.0

pub bring_down-requires-clause-can : goal.bring_down-requires-clause-can
bring_down-requires-clause-can g c =
    let T = g.met.S.Steps in
    bringable g.S.Steps.facts T.fits T.in_space c.args.entries.now c.requires.sorted c.args.steps.now
    c.loop-entry.entry-index missing c.loop-entry-test.true c.requires.noted c.loop-entry.next c.loop-entry.invariant.0
    c.requires.role c.loop-entry.invariant.1

pub overflow_add-next : goal.overflow_add-next
overflow_add-next g c =
    let T = g.met.S.Steps in
    let most = fits_below g.S.Steps.facts T.fits T.in_space c.args.entries.now c.requires.sorted c.args.steps.now
    c.loop-entry.entry-index missing c.loop-entry-test.true c.requires.noted c.loop-entry.next
    c.loop-entry.invariant.0 in
    omega arith

pub loop-entry-preserved : goal.loop-entry-preserved
loop-entry-preserved g c =
    let T = g.met.S.Steps in (
      ap (λ n. n + length_at (get_or c.args.entries.now c.loop-entry.entry-index missing)) c.loop-entry.invariant.0
          ∙ sym (sum_by_more length_at c.args.entries.now c.loop-entry.entry-index missing c.loop-entry-test.true),
      brought_more g.S.Steps.facts T.fits T.in_space c.args.entries.now c.requires.sorted c.args.steps.now
          c.loop-entry.entry-index missing c.loop-entry-test.true c.requires.noted c.loop-entry.next
          c.loop-entry.invariant.0 c.requires.role c.loop-entry.invariant.1 c.bring_down.ensures,
    )

pub returns : goal.returns
returns g c =
    let T = g.met.S.Steps in
    let end = c.loop-entry.auto.entry-index-end in
    let test = c.loop-entry-test.false in
    brought_all g.S.Steps.facts T.fits T.in_space c.args.entries.now c.requires.sorted c.args.steps.now
    c.loop-entry.entry-index c.loop-entry.next (omega arith) c.loop-entry.invariant.0 c.requires.role
    c.loop-entry.invariant.1
