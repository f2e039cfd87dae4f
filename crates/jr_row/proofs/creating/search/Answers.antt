use Rattle.std.proofs.Common.{◌≡◌, ◌∙◌, arith, refl, rules}
use mathlib.Core.Logic.{∥∥₁_map}
use Rattle.jr_model.specs.declared.event.Role.TheVariants.{Within}
use Rattle.jr_row.proofs.SlotSearch.{searched_lost, searched_none, searched_seen, searched_some, searched_then}
use Rattle.jr_row.proofs.SlotSearch.{searched_won, took_present}
use Rattle.jr_row.proofs.creating.search.Goals as goal

pub loop-slot-init : goal.loop-slot-init
loop-slot-init g c = (searched_none g.met.S.Steps.fits c.args.kind c.args.object c.args.first, refl)

pub claim-requires-clause-looked : goal.claim-requires-clause-looked
claim-requires-clause-looked g c =
    let role : (g.S.Steps.facts c.loop-slot.steps).stands.role ≡ Within = search rules in
    ∥∥₁_map c.requires.object (λ k.
    let q = c.loop-slot.invariant.0.did k.0 k.1 k.2 in
    let r = took_present g.met.S.Steps.fits c.in-Free.ensures role (λ e. cc) c.args.object q.0 q.1 tt q.2 in
    (r.0, r.1, (r.2, r.4.0)))

pub loop-slot-preserved-in_default : goal.loop-slot-preserved-in_default
loop-slot-preserved-in_default g c = (
  searched_then c.loop-slot.invariant.0 (searched_seen g.met.S.Steps.fits c.loop-slot.slot c.see_slot.result
      c.args.kind c.args.object c.in_default.not-Free c.see_slot.ensures (search rules)),
  c.see_slot.ensures.hint_is ∙ c.loop-slot.invariant.1,
)

pub returns-in-Ok-clause-searched : goal.returns-in-Ok-clause-searched
returns-in-Ok-clause-searched g c = searched_some c.args.last (omega arith) (searched_then c.loop-slot.invariant.0
    (searched_won g.met.S.Steps.fits c.loop-slot.slot c.in-Free.serial c.args.kind c.args.object c.in-Free.ensures
    c.in-Ok.ensures (search rules)))

pub returns-in-Ok-clause-hint : goal.returns-in-Ok-clause-hint
returns-in-Ok-clause-hint g c =
    c.in-Ok.ensures.hint_is ∙ (c.in-Free.ensures.hint_is ∙ c.loop-slot.invariant.1)

pub loop-slot-preserved : goal.loop-slot-preserved
loop-slot-preserved g c = (
  searched_then c.loop-slot.invariant.0 (searched_lost g.met.S.Steps.fits c.loop-slot.slot c.in-Free.serial c.args.kind
      c.args.object c.in_default-claim.field-0 c.in-Free.ensures c.in_default-claim.ensures (search rules)),
  c.in_default-claim.ensures.hint_is ∙ (c.in-Free.ensures.hint_is ∙ c.loop-slot.invariant.1),
)
