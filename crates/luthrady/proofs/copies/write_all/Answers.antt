use Rattle.std.proofs.Common.{refl, sym}
use Rattle.std.proofs.lemmas.List.{length-map}
use Rattle.luthrady.proofs.AllElements.{written_none, written_these}
use Rattle.luthrady.proofs.OwnRegions.{handed}
use Rattle.luthrady.proofs.copies.write_all.Goals as goal

-- src/copies.rt
pub returns-in_err-are_all-clause-call : goal.returns-in_err-are_all-clause-call
returns-in_err-are_all-clause-call g c = written_none _ _ _ _ _ _ _ _ _ c.KIND.ensures
    (sym (length-map c.args.elements.now g.E.Elem.word_of)) c.in_err-are_all.ensures
    (handed _ _ c.from_residual.ensures.1) refl

pub returns-clause-call : goal.returns-clause-call
returns-clause-call g c = written_these _ _ _ _ _ _ _ _ c.KIND.ensures
    (sym (length-map c.args.elements.now g.E.Elem.word_of)) c.in_ok-are_all.ensures c.set_part.ensures.call
