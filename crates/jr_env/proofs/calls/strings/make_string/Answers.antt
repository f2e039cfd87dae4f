use Rattle.std.proofs.Common.{subst, sym, ◌∙◌}
use Rattle.jr_word.specs.declared.kind.Kind.TheVariants.{Text}
use Rattle.jr_model.specs.State.{AreWords}
use Rattle.jr_steps.specs.Knowing.{anything, state_of}
use Rattle.jr_heap.specs.Ranges.{place_of, size_of}
use Rattle.jr_heap.proofs.Filling.{units_are_words}
use Rattle.jr_env.specs.Works.{Refers}
use Rattle.jr_env.proofs.NewArray.{still_ready, makes_array, makes_no_array, makes_no_reference}
use Rattle.jr_env.proofs.NewArray.{makes_met, won_long, lost_long, filled_long}
use Rattle.jr_env.proofs.calls.strings.make_string.Goals as goal

pub returns-in_default-clause-call : goal.returns-in_default-clause-call
returns-in_default-clause-call g c =
    makes_no_reference g.met.S.Steps.fits Text c.args.units.now anything c.requires.ready c.in_default.ensures.none

pub returns-in_err-range-clause-call : goal.returns-in_err-range-clause-call
returns-in_err-range-clause-call g c =
    let ws = c.args.units.now in
    makes_met (λ k. AreWords (state_of k) Text ws) anything (λ k m. units_are_words (state_of k) ws c.type_inv.units)
    (makes_no_array Text ws c.from_residual.result c.from_residual.ensures.1 c.requires.ready c.in-Some.ensures.some
    c.in_err-range.ensures.stands
    (lost_long g.S.Steps.facts c.args.steps.now c.reserve.new.steps ws (sym c.count.ensures) _
    c.in_err-range.ensures.err))

pub fill_from-requires-clause-long : goal.fill_from-requires-clause-long
fill_from-requires-clause-long g c = sym (c.in_ok-range.ensures.ok.0 ∙ c.count.ensures)

pub refer-requires-clause-ready : goal.refer-requires-clause-ready
refer-requires-clause-ready g c =
    let facts = g.S.Steps.facts in
    let range = c.in_ok-range.range in
    let ws = c.args.units.now in
    let long = sym c.count.ensures in
    still_ready g.met.S.Steps.fits c.requires.ready.role_is Text c.in_ok-range.ensures.stands c.fill_from.ensures.stands
    (won_long facts c.args.steps.now c.reserve.new.steps ws long (place_of range) (size_of range)
    c.in_ok-range.ensures.ok)
    (filled_long facts c.reserve.new.steps c.fill_from.new.steps ws long (place_of range) (size_of range)
    c.in_ok-range.ensures.ok.0 c.fill_from.ensures.call) c.requires.ready

pub returns-clause-call : goal.returns-clause-call
returns-clause-call g c =
    let facts = g.S.Steps.facts in
    let range = c.in_ok-range.range in
    let ws = c.args.units.now in
    let long = sym c.count.ensures in
    makes_met (λ k. AreWords (state_of k) Text ws) anything (λ k m. units_are_words (state_of k) ws c.type_inv.units)
    (makes_array g.met.S.Steps.fits c.requires.ready.role_is Text c.in_ok-range.ensures.stands
    c.fill_from.ensures.stands
    (won_long facts c.args.steps.now c.reserve.new.steps ws long (place_of range) (size_of range)
    c.in_ok-range.ensures.ok)
    (filled_long facts c.reserve.new.steps c.fill_from.new.steps ws long (place_of range) (size_of range)
    c.in_ok-range.ensures.ok.0 c.fill_from.ensures.call) c.requires.ready c.in-Some.ensures.some
    (subst (λ m. Refers facts c.fill_from.new.steps c.refer.new.steps c.args.frames.now.frames c.refer.new.frames.frames
    Text (place_of range) m ws c.refer.result) (c.in_ok-range.ensures.ok.0 ∙ sym long) (c.refer.ensures.call ws)))
