use Rattle.std.proofs.Common.{◌≡◌, ap, rules, sym, ◌∙◌, to_z, of_z, w64}
use Rattle.jr_syntax.specs.declared.command.Command.TheVariants.{PutAt}
use Rattle.jr_elements.specs.Copies.{answer_in}
use Rattle.jr_scripts.specs.declared.reply.Reply.TheVariants as replies
use Rattle.jr_scripts.specs.Names.{putting, binding}
use Rattle.jr_scripts.specs.Text.{buffers_after}
use Rattle.jr_scripts.specs.Advancing.{answer_without_call, put_by}
use Rattle.jr_scripts.proofs.perform.without_call.Goals as goal

pub returns-in-PutAt-clause-answer : goal.returns-in-PutAt-clause-answer
returns-in-PutAt-clause-answer c =
    let back : to_z w64 (of_z w64 c.in-PutAt.value) ≡ c.in-PutAt.value = search rules in
    c.put_by.ensures.answer
    ∙ (ap (λ z. put_by c.in-PutAt.verb
    (answer_in (λ _. replies.Done) (putting c.in-PutAt.index z (binding c.args.names.now c.in-PutAt.name)))) back
    ∙ ap (answer_without_call c.args.names.now) (sym c.in-PutAt.is))

pub returns-in-PutAt-clause-names : goal.returns-in-PutAt-clause-names
returns-in-PutAt-clause-names c =
    let back : to_z w64 (of_z w64 c.in-PutAt.value) ≡ c.in-PutAt.value = search rules in
    c.put_by.ensures.names
    ∙ (ap (λ z.
    buffers_after (PutAt c.in-PutAt.verb c.in-PutAt.name c.in-PutAt.index z) c.put_by.result c.args.names.now) back
    ∙ ap (λ d. buffers_after d c.put_by.result c.args.names.now) (sym c.in-PutAt.is))
