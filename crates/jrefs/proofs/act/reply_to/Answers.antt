-- What was read is within the limit, so its answer is one to all that was there.
use Rattle.std.proofs.Common.{◌≡◌, List, ℕ, take, IfOk, IfErr, IfSome, subst, sym}
use Rattle.std.proofs.lemmas.Result.{IfOk-weaker, IfErr-weaker}
use Rattle.jrefs.specs.declared.request.Request.{Request}
use Rattle.jrefs.specs.declared.request.Request.TheVariants.{Run, Check}
use Rattle.jrefs.specs.Act.{IsOutput, Stops}
use Rattle.jrefs.proofs.ReadBytes.{answer_is_output, check_is_output, word_is_output, widened_is_output, fault_stops}
use Rattle.jrefs.proofs.act.reply_to.Goals as goal

pub returns-in_ok-input-in-Run-clause-ok : goal.returns-in_ok-input-in-Run-clause-ok
returns-in_ok-input-in-Run-clause-ok g c =
    let known = g.R.Read.remaining c.args.reader.now in
    let read = subst (λ (text : List ℕ). IfSome known (λ bytes. text ≡ take 65537 bytes)) (sym c.deref.ensures.value)
    c.in_ok-input-in-Run.ensures.ok in
    subst (λ (r : Request). IfOk c.answer_of.result (λ output. IsOutput r known output.items)) (sym c.in-Run.is)
    (IfOk-weaker c.answer_of.result _ _
    (λ output answer. answer_is_output known c.deref.result.now output.items read answer) c.answer_of.ensures.answer)

pub returns-in_ok-input-in-Run-clause-err : goal.returns-in_ok-input-in-Run-clause-err
returns-in_ok-input-in-Run-clause-err g c =
    let known = g.R.Read.remaining c.args.reader.now in
    let read = subst (λ (text : List ℕ). IfSome known (λ bytes. text ≡ take 65537 bytes)) (sym c.deref.ensures.value)
    c.in_ok-input-in-Run.ensures.ok in
    let left = g.R.Read.remaining c.input_of.new.reader in
    subst (λ (r : Request). IfErr c.answer_of.result (λ t. Stops t r known left)) (sym c.in-Run.is)
    (IfErr-weaker c.answer_of.result _ _ (λ t refused. fault_stops known left Run c.deref.result.now t tt read refused)
    c.answer_of.ensures.refused)

pub returns-in_ok-input-in-Check-clause-ok : goal.returns-in_ok-input-in-Check-clause-ok
returns-in_ok-input-in-Check-clause-ok g c =
    let known = g.R.Read.remaining c.args.reader.now in
    let read = subst (λ (text : List ℕ). IfSome known (λ bytes. text ≡ take 65537 bytes))
    (sym c.deref-in-Check.ensures.value) c.in_ok-input-in-Check.ensures.ok in
    subst (λ (r : Request). IfOk c.check_of.result (λ output. IsOutput r known output.items)) (sym c.in-Check.is)
    (IfOk-weaker c.check_of.result _ _ (λ output checked.
    check_is_output known c.deref-in-Check.result.now output.items read checked) c.check_of.ensures.checked)

pub returns-in_ok-input-in-Check-clause-err : goal.returns-in_ok-input-in-Check-clause-err
returns-in_ok-input-in-Check-clause-err g c =
    let known = g.R.Read.remaining c.args.reader.now in
    let read = subst (λ (text : List ℕ). IfSome known (λ bytes. text ≡ take 65537 bytes))
    (sym c.deref-in-Check.ensures.value) c.in_ok-input-in-Check.ensures.ok in
    let left = g.R.Read.remaining c.input_of-in-Check.new.reader in
    subst (λ (r : Request). IfErr c.check_of.result (λ t. Stops t r known left)) (sym c.in-Check.is)
    (IfErr-weaker c.check_of.result _ _ (λ t refused.
    fault_stops known left Check c.deref-in-Check.result.now t tt read refused) c.check_of.ensures.refused)

pub returns-in-Word-clause-ok : goal.returns-in-Word-clause-ok
returns-in-Word-clause-ok g c =
    let known = g.R.Read.remaining c.args.reader.now in
    subst (λ (r : Request). IfOk c.line_of_word.result (λ output. IsOutput r known output.items)) (sym c.in-Word.is)
    (IfOk-weaker c.line_of_word.result _ _ (λ output says. word_is_output known c.in-Word.word output.items says)
    c.line_of_word.ensures.ok)

pub returns-in-Widen-clause-ok : goal.returns-in-Widen-clause-ok
returns-in-Widen-clause-ok g c =
    let known = g.R.Read.remaining c.args.reader.now in
    subst (λ (r : Request). IfOk c.line_of_widened.result (λ output. IsOutput r known output.items)) (sym c.in-Widen.is)
    (IfOk-weaker c.line_of_widened.result _ _ (λ output says. widened_is_output known c.in-Widen.word output.items says)
    c.line_of_widened.ensures.ok)
