use Rattle.std.proofs.Common.{◌∙◌, ap, w64}
use Rattle.std.proofs.lemmas.Int.{to_z-of_z}
use Rattle.jr_elements.specs.Copies.{answer_in}
use Rattle.jr_scripts.specs.Names.{putting, binding}
use Rattle.jr_scripts.proofs.CopyDeeds.{done_of, refused_of}
use Rattle.jr_scripts.proofs.commands.copies.put.Goals as goal

pub returns-in_err-put-clause-answer : goal.returns-in_err-put-clause-answer
returns-in_err-put-clause-answer c =
    refused_of (putting c.args.index c.args.number (binding c.args.names.now c.args.name.now)) c.in_err-put.field-0.0
    c.from_residual.result
    (c.in_err-put.ensures.answer
    ∙ ap (λ z. answer_in (λ _. tt) (putting c.args.index z (binding c.args.names.now c.args.name.now)))
    (to_z-of_z w64 c.args.number c.ranges.number)) c.from_residual.ensures.1

pub returns-clause-answer : goal.returns-clause-answer
returns-clause-answer c =
    done_of (putting c.args.index c.args.number (binding c.args.names.now c.args.name.now))
    (c.in_ok-put.ensures.answer ∙ ap (λ z. answer_in (λ _. tt)
    (putting c.args.index z (binding c.args.names.now c.args.name.now))) (to_z-of_z w64 c.args.number c.ranges.number))
