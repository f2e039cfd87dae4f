-- The output was written, or cut off.
use Rattle.std.proofs.Common.{List, ℕ, map}
use Rattle.std.specs.Borrow.{Bor}
use Rattle.jrefs.proofs.Ending.{written_answers, cut_off_leaves}
use Rattle.jrefs.proofs.act.carried_out.Goals as goal

pub returns-clause-ok : goal.returns-clause-ok
returns-clause-ok g c =
    let words = map {A = Bor (List ℕ)} {B = List ℕ} (λ w. w.now) c.args.words.now in
    let known = g.R.Read.remaining c.args.reader.now in
    let old = g.W.Write.contents c.args.writer.now in
    let new = g.W.Write.contents c.write_out.new.writer in
    written_answers words known old new c.in_ok-output.output.items _ c.write_out.result c.deref.ensures.value
    c.in_ok-output.ensures.ok c.write_out.ensures.ok

pub returns-clause-err : goal.returns-clause-err
returns-clause-err g c = cut_off_leaves _ _ _ _ _ _ _ c.write_out.result c.deref.ensures.value c.in_ok-output.ensures.ok
    c.write_out.ensures.cut_off c.write_out.ensures.err
