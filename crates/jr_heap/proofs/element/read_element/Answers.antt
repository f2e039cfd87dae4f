use Rattle.std.proofs.Common.{sym, ◌∙◌, arith}
use mathlib.Core.Logic.{∥∥₁_map}
use Rattle.jr_heap.proofs.Elements.{read_plain, read_beyond, read_found, read_value, still_holds}
use Rattle.jr_heap.proofs.element.read_element.Goals as goal

pub returns-then-is_plain-clause-call : goal.returns-then-is_plain-clause-call
returns-then-is_plain-clause-call g c = read_plain g.met.S.Steps.fits c.args.object c.args.header c.args.index
    c.args.steps.now (sym c.is_plain.ensures ∙ c.if-is_plain.true)

pub returns-then-index-header-clause-call : goal.returns-then-index-header-clause-call
returns-then-index-header-clause-call g c = read_beyond g.met.S.Steps.fits c.args.object c.args.header c.args.index
    c.args.steps.now (sym c.is_plain.ensures ∙ c.if-is_plain.false) c.if-index-header.true

pub see_element-requires-clause-known : goal.see_element-requires-clause-known
see_element-requires-clause-known g c = ∥∥₁_map c.requires.known (λ k. (k.0, k.1, k.2.known))

pub returns-clause-call : goal.returns-clause-call
returns-clause-call g c =
    read_found g.met.S.Steps.fits c.args.object c.args.header c.args.index c.see_element.result c.requires.role
    (sym c.is_plain.ensures ∙ c.if-is_plain.false)
    (let l = c.if-index-header.false in omega arith) c.see_element.ensures

pub returns-clause-value : goal.returns-clause-value
returns-clause-value g c = read_value g.met.S.Steps.fits c.args.object c.args.header c.args.index c.see_element.result
    c.requires.role c.requires.known c.see_element.ensures

pub returns-clause-known : goal.returns-clause-known
returns-clause-known g c = still_holds g.met.S.Steps.fits c.args.object c.args.header (λ e. cc) c.requires.role
    c.see_element.ensures (∥∥₁_map c.requires.known (λ k. (k.0, k.1, (k.2, k.2.known))))
