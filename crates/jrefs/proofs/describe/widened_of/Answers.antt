-- A word of the earlier layout is 0, a handle's, or neither.
use Rattle.std.proofs.Common.{◌≡◌, None, rules, subst, sym}
use Rattle.std.proofs.lemmas.Result.{IfOk-weaker}
use Rattle.jr_word.specs.Narrow.{Widens}
use Rattle.jrefs.specs.Describe.{SaysWidened}
use Rattle.jrefs.proofs.Widened.{says_null, says_word, says_invalid}
use Rattle.jrefs.proofs.describe.widened_of.Goals as goal

pub returns-in-Some-eq0 : goal.returns-in-Some-eq0
returns-in-Some-eq0 c =
    let null =
    says_null c.args.word (subst (Widens c.args.word) c.in-Some-eq0.field-0-test c.in-Some-eq0.ensures.sound) in
    IfOk-weaker c.format.result _ _ (λ text same. subst (SaysWidened c.args.word) (sym same) null) c.format.ensures.ok

pub returns-in-Some : goal.returns-in-Some
returns-in-Some c =
    let word = says_word c.args.word c.in-Some.wide c.in-Some.wide-test.1 c.in-Some.ensures.sound in
    IfOk-weaker c.digits_line.result _ _ (λ text same. subst (SaysWidened c.args.word) (sym same) word)
    c.digits_line.ensures

pub returns-in_default : goal.returns-in_default
returns-in_default c =
    let none : c.widen.result ≡ None = search rules in
    let invalid = says_invalid c.args.word c.widen.result none c.widen.ensures.complete in
    IfOk-weaker c.format-in_default.result _ _ (λ text same. subst (SaysWidened c.args.word) (sym same) invalid)
    c.format-in_default.ensures.ok
