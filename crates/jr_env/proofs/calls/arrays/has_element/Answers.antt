use Rattle.std.proofs.Common.{refl, sym, ◌∙◌, arith}
use Rattle.jr_env.proofs.ObjectElementChecks.{near, too_far}
use Rattle.jr_env.proofs.calls.arrays.has_element.Goals as goal

pub returns-then-not-is_array : goal.returns-then-not-is_array
returns-then-not-is_array c = rw (sym c.is_array.ensures ∙ c.if-not-is_array.true) refl

pub returns-then-not-is_objects : goal.returns-then-not-is_objects
returns-then-not-is_objects c =
    rw (sym c.is_array.ensures ∙ c.if-not-is_array.false, sym c.is_objects.ensures ∙ c.if-not-is_objects.true) refl

pub returns-then-header-index : goal.returns-then-header-index
returns-then-header-index c = rw (
  sym c.is_array.ensures ∙ c.if-not-is_array.false,
  sym c.is_objects.ensures ∙ c.if-not-is_objects.false,
  too_far c.args.header.length c.args.index c.if-header-index.true,
) refl

pub returns : goal.returns
returns c = rw (
  sym c.is_array.ensures ∙ c.if-not-is_array.false,
  sym c.is_objects.ensures ∙ c.if-not-is_objects.false,
  near c.args.header.length c.args.index (let l = c.if-header-index.false in omega arith),
) refl
