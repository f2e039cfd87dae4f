-- A request is found in its words, so it is the one that was answered; a text with a fault is not, and a script is by
-- what it means.
use Rattle.std.proofs.Common.{List, ℕ, IfSome, IsSome, arith, map, subst, sym}
use Rattle.std.specs.Borrow.{Bor}
use Rattle.jr_syntax.specs.Faults.{first_fault}
use Rattle.jrefs.proofs.CommandLine.{answers_request}
use Rattle.jrefs.proofs.Ending.{IsFaulty, faulty_not_answered, faulty_stopped}
use Rattle.jrefs.specs.declared.request.Request.TheVariants.{Run}
use Rattle.jrefs.specs.Meant.{WritesWhatIsMeant}
use Rattle.jrefs.proofs.Meant.{answer_writes, failure_writes}
use Rattle.jrefs.proofs.act.act.Goals as goal

pub returns-in-Ok-clause-taken : goal.returns-in-Ok-clause-taken
returns-in-Ok-clause-taken g c =
    λ r asks. (λ e. absurd (omega arith), λ e. answers_request _ _ _ _ r c.in-Ok.ensures.ok asks)

pub returns-in-Ok-clause-faulty : goal.returns-in-Ok-clause-faulty
returns-in-Ok-clause-faulty g c = λ r asks of_script. faulty_not_answered _ _ _ _ r asks of_script c.in-Ok.ensures.ok

pub returns-in-Err-clause-faulty : goal.returns-in-Err-clause-faulty
returns-in-Err-clause-faulty g c = λ r asks of_script.
    let known = g.R.Read.remaining c.args.reader.now in
    let old = g.W.Write.contents c.args.writer.now in
    let new = g.W.Write.contents c.carried_out.new.writer in
    subst (λ (n : ℕ). IfSome known (λ text. IsSome (first_fault text) → IsFaulty n old new)) (sym c.tell.ensures.status)
    (faulty_stopped c.in-Err.trouble _ known _ old new r asks of_script (c.in-Err.ensures.taken r asks)
    c.in-Err.ensures.err)

pub returns-in-Ok-clause-means : goal.returns-in-Ok-clause-means
returns-in-Ok-clause-means g c = answer_writes _ _ _ _ c.in-Ok.ensures.ok

pub returns-in-Err-clause-means : goal.returns-in-Err-clause-means
returns-in-Err-clause-means g c =
    let words = map {A = Bor (List ℕ)} {B = List ℕ} (λ w. w.now) c.args.words.now in
    let known = g.R.Read.remaining c.args.reader.now in
    let old = g.W.Write.contents c.args.writer.now in
    let new = g.W.Write.contents c.carried_out.new.writer in
    subst (WritesWhatIsMeant words known old new) (sym c.tell.ensures.status)
    (failure_writes c.in-Err.trouble words known _ old new (λ run. c.in-Err.ensures.taken Run run) c.in-Err.ensures.err)
