use Rattle.std.proofs.Common.{sym, ◌∙◌, arith}
use mathlib.Core.Logic.{∥∥₁_map}
use Rattle.jr_steps.specs.Knowing.{state_of}
use Rattle.jr_heap.proofs.Checks.{word_is}
use Rattle.jr_heap.proofs.Elements.{write_no_array, write_beyond, write_value, write_stored, may_write, still_holds}
use Rattle.jr_heap.proofs.element.write_element.Goals as goal

pub returns-then-is_constant-clause-call : goal.returns-then-is_constant-clause-call
returns-then-is_constant-clause-call g c = write_no_array g.met.S.Steps.fits c.args.object c.args.header c.args.index
    c.args.word c.args.steps.now (sym c.is_constant.ensures ∙ c.if-is_constant.true)

pub returns-then-is_constant-clause-known : goal.returns-then-is_constant-clause-known
returns-then-is_constant-clause-known g c = ∥∥₁_map c.requires.known (λ k. (k.0, k.1, k.2.0))

pub returns-then-header-index-clause-call : goal.returns-then-header-index-clause-call
returns-then-header-index-clause-call g c =
    write_beyond g.met.S.Steps.fits c.args.object c.args.header c.args.index c.args.word c.args.steps.now
    (sym c.is_constant.ensures ∙ c.if-is_constant.false) c.if-header-index.true

pub returns-then-header-index-clause-known : goal.returns-then-header-index-clause-known
returns-then-header-index-clause-known g c = ∥∥₁_map c.requires.known (λ k. (k.0, k.1, k.2.0))

pub returns-then-not-is_value-clause-call : goal.returns-then-not-is_value-clause-call
returns-then-not-is_value-clause-call g c =
    write_value g.met.S.Steps.fits c.args.object c.args.header c.args.index c.args.word c.args.steps.now
    (sym c.is_constant.ensures ∙ c.if-is_constant.false)
    (let l = c.if-header-index.false in omega arith) (sym c.is_value.ensures ∙ c.if-not-is_value.true)

pub returns-then-not-is_value-clause-known : goal.returns-then-not-is_value-clause-known
returns-then-not-is_value-clause-known g c = ∥∥₁_map c.requires.known (λ k. (k.0, k.1, k.2.0))

pub put_element-requires-clause-known : goal.put_element-requires-clause-known
put_element-requires-clause-known g c = may_write g.S.Steps.facts _ c.args.object c.args.header c.args.word
    (sym c.is_value.ensures ∙ c.if-not-is_value.false) c.requires.known

pub returns-clause-call : goal.returns-clause-call
returns-clause-call g c =
    write_stored g.met.S.Steps.fits c.args.object c.args.header c.args.index c.args.word c.requires.role
    (sym c.is_constant.ensures ∙ c.if-is_constant.false)
    (let l = c.if-header-index.false in omega arith) (sym c.is_value.ensures ∙ c.if-not-is_value.false)
    c.put_element.ensures

pub returns-clause-known : goal.returns-clause-known
returns-clause-known g c =
    still_holds g.met.S.Steps.fits c.args.object c.args.header (λ e. cc) c.requires.role c.put_element.ensures
    (∥∥₁_map c.requires.known (λ k. (
      k.0,
      k.1,
      (
        k.2.0,
        (
          k.2.0.known,
          word_is (state_of k.0) c.args.header.kind c.args.word (sym c.is_value.ensures ∙ c.if-not-is_value.false)
              k.2.1,
        ),
      ),
    )))
