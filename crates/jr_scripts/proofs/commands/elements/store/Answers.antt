use Rattle.std.proofs.Common.{◌≡◌, Ok, Err, refl, subst, w64}
use Rattle.std.proofs.lemmas.Int.{to_z-of_z}
use Rattle.jr_scripts.specs.Commands.{storing_as}
use Rattle.jr_scripts.specs.Numbers.{has_numbers, word_of_number, kind_numbered, word_of_element}
use Rattle.jr_env.specs.Deeds.{decided, ◌>>◌}
use Rattle.jr_env.proofs.Carrying.{did_decline, did_refused, did_residual, does_then}
use Rattle.jr_scripts.proofs.CommandDeeds.{does_store, does_refuse_number}
use Rattle.jr_scripts.proofs.commands.elements.store.Goals as goal

pub returns : goal.returns
returns g c =
    let word = subst
    (λ v. word_of_number (kind_numbered c.in_ok-numbered.numbered) v ≡ Ok (word_of_element c.in_ok-element.element))
    (to_z-of_z w64 c.args.number c.ranges.number) c.in_ok-element.ensures.word in
    does_store c.args.turns c.args.array.0 c.args.index c.args.number c.in_ok-kind.kind c.in_ok-numbered.numbered
    c.in_ok-element.element c.in_ok-numbered.ensures.ok c.in_ok-element.ensures.kind word c.in_ok-kind.ensures
    c.store_as.ensures

pub returns-in_err-element : goal.returns-in_err-element
returns-in_err-element g c =
    let refused = c.in_err-element.field-0.0 in
    let word = subst (λ v. word_of_number (kind_numbered c.in_ok-numbered.numbered) v ≡ Err refused)
    (to_z-of_z w64 c.args.number c.ranges.number) c.in_err-element.ensures.err in
    did_residual refused c.from_residual-in_err-element.result c.from_residual-in_err-element.ensures.1
    (does_refuse_number c.args.turns c.args.array.0 c.args.index c.args.number c.in_ok-kind.kind
    c.in_ok-numbered.numbered refused c.in_ok-numbered.ensures.ok word c.in_ok-kind.ensures)

pub returns-in_err-kind : goal.returns-in_err-kind
returns-in_err-kind g c = did_residual c.in_err-kind.field-0.0 c.from_residual.result c.from_residual.ensures.1
    (did_refused
    (λ k. decided (has_numbers k) >> storing_as c.args.turns c.args.array.0 c.args.index c.args.number k)
    c.in_err-kind.field-0.0 c.in_err-kind.ensures)

pub returns-in_err-numbered : goal.returns-in_err-numbered
returns-in_err-numbered g c = did_residual c.in_err-numbered.field-0.0 c.from_residual-in_err-numbered.result
    c.from_residual-in_err-numbered.ensures.1
    (does_then (λ k. decided (has_numbers k) >> storing_as c.args.turns c.args.array.0 c.args.index c.args.number k)
    c.in_ok-kind.ensures
    (did_decline (λ _. storing_as c.args.turns c.args.array.0 c.args.index c.args.number c.in_ok-kind.kind) refl
    (λ k m. m) c.in_err-numbered.ensures.err))
