use Rattle.std.proofs.Common.{replicate, subst, sym, ◌∙◌}
use Rattle.std.proofs.lemmas.List.{length-replicate}
use mathlib.Core.Logic.{∥∥₁_map}
use Rattle.jr_model.specs.State.{AreWords}
use Rattle.jr_steps.specs.Knowing.{state_of, IsWordNow, MayKnow}
use Rattle.jr_heap.specs.Heap.{IsReady}
use Rattle.jr_heap.specs.Ranges.{place_of, size_of}
use Rattle.jr_env.specs.Works.{Refers}
use Rattle.jr_env.proofs.NewArray.{all_words, may_refer, still_ready, makes_array, makes_no_array}
use Rattle.jr_env.proofs.NewArray.{makes_no_reference, makes_met, won_long, lost_long, filled_each}
use Rattle.jr_env.proofs.calls.arrays.make_array.Goals as goal

pub returns-in_default-clause-call : goal.returns-in_default-clause-call
returns-in_default-clause-call g c = makes_no_reference g.met.S.Steps.fits c.args.kind
    (replicate c.args.length c.args.word) (IsWordNow c.args.kind c.args.word) c.requires.ready c.in_default.ensures.none

pub returns-in_err-range-clause-call : goal.returns-in_err-range-clause-call
returns-in_err-range-clause-call g c =
    let kind = c.args.kind in
    let ws = replicate c.args.length c.args.word in
    makes_met (λ k. AreWords (state_of k) kind ws) (IsWordNow kind c.args.word) (λ k m.
    all_words kind c.args.length c.args.word k m)
    (makes_no_array kind ws c.from_residual.result c.from_residual.ensures.1 c.requires.ready c.in-Some.ensures.some
    c.in_err-range.ensures.stands
    (lost_long g.S.Steps.facts c.args.steps.now c.reserve.new.steps (replicate c.args.length c.args.word)
    (length-replicate c.args.length c.args.word ∙ sym c.from.ensures) _ c.in_err-range.ensures.err))

pub refer-requires-clause-ready : goal.refer-requires-clause-ready
refer-requires-clause-ready g c =
    let facts = g.S.Steps.facts in
    let range = c.in_ok-range.range in
    let long = length-replicate c.args.length c.args.word ∙ sym c.from.ensures in
    still_ready g.met.S.Steps.fits c.requires.ready.role_is c.args.kind c.in_ok-range.ensures.stands
    c.fill.ensures.stands
    (won_long facts c.args.steps.now c.reserve.new.steps (replicate c.args.length c.args.word) long (place_of range)
    (size_of range) c.in_ok-range.ensures.ok)
    (filled_each facts c.reserve.new.steps c.fill.new.steps c.args.length c.args.word (place_of range) (size_of range)
    (c.in_ok-range.ensures.ok.0 ∙ c.from.ensures) c.fill.ensures.call) c.requires.ready

pub refer-requires-clause-filled : goal.refer-requires-clause-filled
refer-requires-clause-filled g c =
    let facts = g.S.Steps.facts in
    let range = c.in_ok-range.range in
    let long = length-replicate c.args.length c.args.word ∙ sym c.from.ensures in
    let may = ∥∥₁_map c.requires.word (λ k. (k.0, k.1, all_words c.args.kind c.args.length c.args.word k.0 k.2)) in
    subst (λ m. MayKnow facts c.fill.new.steps (IsReady c.args.kind (place_of range) m)) (long
    ∙ sym c.in_ok-range.ensures.ok.0)
    (may_refer g.met.S.Steps.fits c.requires.ready.role_is c.args.kind c.in_ok-range.ensures.stands
    c.fill.ensures.stands
    (won_long facts c.args.steps.now c.reserve.new.steps (replicate c.args.length c.args.word) long (place_of range)
    (size_of range) c.in_ok-range.ensures.ok)
    (filled_each facts c.reserve.new.steps c.fill.new.steps c.args.length c.args.word (place_of range) (size_of range)
    (c.in_ok-range.ensures.ok.0 ∙ c.from.ensures) c.fill.ensures.call) may)

pub returns-clause-call : goal.returns-clause-call
returns-clause-call g c =
    let facts = g.S.Steps.facts in
    let range = c.in_ok-range.range in
    let kind = c.args.kind in
    let ws = replicate c.args.length c.args.word in
    let long = length-replicate c.args.length c.args.word ∙ sym c.from.ensures in
    makes_met (λ k. AreWords (state_of k) kind ws) (IsWordNow kind c.args.word) (λ k m.
    all_words kind c.args.length c.args.word k m)
    (makes_array g.met.S.Steps.fits c.requires.ready.role_is kind c.in_ok-range.ensures.stands c.fill.ensures.stands
    (won_long facts c.args.steps.now c.reserve.new.steps (replicate c.args.length c.args.word) long (place_of range)
    (size_of range) c.in_ok-range.ensures.ok)
    (filled_each facts c.reserve.new.steps c.fill.new.steps c.args.length c.args.word (place_of range) (size_of range)
    (c.in_ok-range.ensures.ok.0 ∙ c.from.ensures) c.fill.ensures.call) c.requires.ready c.in-Some.ensures.some
    (subst (λ m. Refers facts c.fill.new.steps c.refer.new.steps c.args.frames.now.frames c.refer.new.frames.frames kind
    (place_of range) m ws c.refer.result) (c.in_ok-range.ensures.ok.0 ∙ sym long) (c.refer.ensures.call ws)))
