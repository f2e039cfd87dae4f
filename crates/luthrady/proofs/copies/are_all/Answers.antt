use Rattle.std.proofs.Common.{◌∙◌, ap, sym}
use Rattle.luthrady.specs.InRegions.{so_many_or_refused}
use Rattle.luthrady.proofs.AllElements.{of_other_kind, of_the_kind, one_number, two_numbers}
use Rattle.luthrady.proofs.copies.are_all.Goals as goal

-- src/copies.rt
pub returns-then-code : goal.returns-then-code
returns-then-code c = (
  c.kind.result,
  c.kind.ensures,
  of_other_kind _ _ _
      (two_numbers _ _ (λ e. c.if-code.true (c.code.ensures ∙ e ∙ sym c.code-2.ensures))),
)

pub returns-then-length-count : goal.returns-then-length-count
returns-then-length-count c = (
  c.kind.result,
  c.kind.ensures,
  of_the_kind _ _ _ _ _ (one_number _ _ (sym c.code.ensures ∙ c.if-code.false ∙ c.code-2.ensures)) c.length.ensures
      (ap so_many_or_refused (sym (two_numbers _ _ c.if-length-count.true))),
)

pub returns : goal.returns
returns c = (
  c.kind.result,
  c.kind.ensures,
  of_the_kind _ _ _ _ _ (one_number _ _ (sym c.code.ensures ∙ c.if-code.false ∙ c.code-2.ensures)) c.length.ensures
      (ap so_many_or_refused (sym (one_number _ _ c.if-length-count.false))),
)
