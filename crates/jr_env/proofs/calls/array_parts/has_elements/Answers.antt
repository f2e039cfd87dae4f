use Rattle.std.proofs.Common.{refl, sym, ◌∙◌}
use Rattle.jr_env.proofs.calls.array_parts.has_elements.Goals as goal

pub returns-then-not-is_array : goal.returns-then-not-is_array
returns-then-not-is_array c = rw (sym c.is_array.ensures ∙ c.if-not-is_array.true) refl

pub returns-then-not-same_element : goal.returns-then-not-same_element
returns-then-not-same_element c =
    rw (sym c.is_array.ensures ∙ c.if-not-is_array.false, sym c.same_element.ensures ∙ c.if-not-same_element.true) refl

pub returns : goal.returns
returns c =
    rw (sym c.is_array.ensures ∙ c.if-not-is_array.false, sym c.same_element.ensures ∙ c.if-not-same_element.false) refl
