-- A word is 0, a handle's, or neither.
use Rattle.std.proofs.Common.{◌≡◌, ◌≢◌, subst, sym, rules}
use Rattle.std.proofs.lemmas.Bool.{eqb-false}
use Rattle.std.proofs.lemmas.Result.{IfOk-weaker}
use Rattle.jr_word.specs.declared.handle.HandleParts.{HandleParts}
use Rattle.jr_word.specs.Handle.{handle_word, IsHandle}
use Rattle.jexplain.specs.Word.{TellsWord, null, no_handle, handle}
use Rattle.jexplain.proofs.word.told.Goals as goal

pub returns-then-eq : goal.returns-then-eq
returns-then-eq c =
    let zero : c.args.word ≡ 0 = search rules in
    IfOk-weaker c.format.result _ _ (λ text same. subst (TellsWord c.args.word) (sym same) (null zero))
    c.format.ensures.ok

pub returns-in-Some : goal.returns-in-Some
returns-in-Some c =
    let sound = c.in-Some.ensures.sound in
    IfOk-weaker c.told_parts.result _ _
    (λ text same. subst (TellsWord c.args.word) (sym same) (handle c.in-Some.parts sound.0 sound.1))
    c.told_parts.ensures

pub returns-in-None : goal.returns-in-None
returns-in-None c =
    let apart : c.args.word ≢ 0 = eqb-false c.args.word 0 (sym c.if-eq.ensures) in
    let none : (h : HandleParts) → IsHandle h
    → c.args.word ≢ handle_word h = λ h is same. let e = c.in-None.ensures.complete h is same in cc in
    IfOk-weaker c.told_no_handle.result _ _
    (λ text same. subst (TellsWord c.args.word) (sym same) (no_handle apart none))
    c.told_no_handle.ensures
