use Rattle.std.proofs.Common.{◌+◌, nat_lt, [], ◌∷◌, refl, sym, ◌∙◌}
use Rattle.jr_word.specs.declared.fault.Fault.TheVariants.{Range}
use Rattle.jr_model.specs.CallPrograms.{kind_tests}
use Rattle.jr_env.proofs.AtObjects.{first_pass, first_refuse}
use Rattle.jr_env.proofs.Served.{refused_is}
use Rattle.jr_env.proofs.calls.array_parts.has_part.Goals as goal

pub returns-in_err-has_elements : goal.returns-in_err-has_elements
returns-in_err-has_elements c =
    first_refuse (kind_tests c.args.kind c.args.header.kind)
    ((nat_lt c.args.header.length (c.args.start + c.args.count), Range) ∷ []) c.in_err-has_elements.ensures
    ∙ sym (refused_is c.from_residual.result c.from_residual.ensures.1)

pub returns-then-lies_past : goal.returns-then-lies_past
returns-then-lies_past c =
    first_pass (kind_tests c.args.kind c.args.header.kind)
    ((nat_lt c.args.header.length (c.args.start + c.args.count), Range) ∷ []) c.in_ok-has_elements.ensures
    (rw (sym c.lies_past.ensures ∙ c.if-lies_past.true) refl)

pub returns : goal.returns
returns c =
    first_pass (kind_tests c.args.kind c.args.header.kind)
    ((nat_lt c.args.header.length (c.args.start + c.args.count), Range) ∷ []) c.in_ok-has_elements.ensures
    (rw (sym c.lies_past.ensures ∙ c.if-lies_past.false) refl)
