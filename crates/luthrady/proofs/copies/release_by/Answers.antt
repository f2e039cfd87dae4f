use Rattle.std.proofs.Common.{◌≢◌, Ok, map, rules, subst, sym}
use Rattle.jr_model.specs.declared.frames.Mode.TheVariants.{Abort}
use Rattle.luthrady.specs.Copies.{ReleasesBy}
use Rattle.luthrady.proofs.AllElements.{let_alone, released}
use Rattle.luthrady.proofs.copies.release_by.Goals as goal

-- src/copies.rt
pub returns-then-not-copies_back-clause-call : goal.returns-then-not-copies_back-clause-call
returns-then-not-copies_back-clause-call g c =
    let env = c.args.native.now.env in
    let words = map g.E.Elem.word_of c.args.elements.now in
    subst (λ m. ReleasesBy m g.E.Elem.KIND env env c.args.array.0 words (Ok tt)) (sym c.in-Some.is)
    (let_alone c.in-Some.mode g.E.Elem.KIND env c.args.array.0 words (λ writes.
    let copies = c.copies_back.ensures.1 writes in let not = c.if-not-copies_back.true in cc))

pub returns-clause-call : goal.returns-clause-call
returns-clause-call g c =
    let writes : c.in-Some.mode ≢ Abort = search rules in
    let old = c.args.native.now.env in
    let new = c.copy_back_in.new.env in
    let words = map g.E.Elem.word_of c.args.elements.now in
    subst (λ m. ReleasesBy m g.E.Elem.KIND old new c.args.array.0 words c.copy_back_in.result) (sym c.in-Some.is)
    (released c.in-Some.mode g.E.Elem.KIND old new c.args.array.0 words c.copy_back_in.result writes
    c.copy_back_in.ensures)
