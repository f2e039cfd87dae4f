use Rattle.std.proofs.Common.{sym, ap, ◌∙◌}
use Rattle.jr_word.specs.Config.{in_limits}
use Rattle.jr_syntax.proofs.VmLaws.{vm_read, vm_out}
use Rattle.jr_syntax.proofs.vm_line.config_of.Goals as goal

pub returns-in_default-sizes : goal.returns-in_default-sizes
returns-in_default-sizes c =
    let w = c.in-Some.words in
    vm_out c.args.words w.threads.now w.slots.now w.objects.now w.words.now w.locals.now c.in-Some.ensures.some
    c.in-Some.ensures.numbers c.in_default-sizes.ensures

pub returns-then-not-in_limits : goal.returns-then-not-in_limits
returns-then-not-in_limits c =
    let w = c.in-Some.words in
    vm_out c.args.words w.threads.now w.slots.now w.objects.now w.words.now w.locals.now c.in-Some.ensures.some
    c.in-Some.ensures.numbers (ap in_limits (sym c.in-Some-sizes.ensures) ∙ sym c.in_limits.ensures
    ∙ c.if-not-in_limits.true)

pub returns : goal.returns
returns c =
    let w = c.in-Some.words in
    vm_read c.args.words w.threads.now w.slots.now w.objects.now w.words.now w.locals.now c.in-Some-sizes.config
    c.in-Some.ensures.some c.in-Some.ensures.numbers c.in-Some-sizes.ensures (sym c.in_limits.ensures
    ∙ c.if-not-in_limits.false)
