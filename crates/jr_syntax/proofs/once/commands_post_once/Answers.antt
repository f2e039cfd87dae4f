use Rattle.std.proofs.Common.{◌∙◌, ◌+◌, ◌-◌, refl, sym, take, drop, length, arith}
use Rattle.jr_syntax.proofs.PostsOnce.{all_behind, all_once, once_more, posted_twice}
use Rattle.jr_syntax.proofs.once.commands_post_once.Goals as goal

pub loop-i-init : goal.loop-i-init
loop-i-init c = refl

pub loop-i-preserved : goal.loop-i-preserved
loop-i-preserved c = once_more c.args.commands.now c.loop-i.i c.args.later.now c.index-commands-i.result
    (take (length c.args.commands.now - (c.loop-i.i + 1)) (drop (c.loop-i.i + 1) c.args.commands.now)) (omega arith)
    (sym c.index-commands-i.is) (all_behind c.args.commands.now (c.loop-i.i + 1)) c.loop-i.invariant
    (sym c.is_posted_again.ensures ∙ c.if-is_posted_again.false)

pub returns-then-is_posted_again-clause-twice : goal.returns-then-is_posted_again-clause-twice
returns-then-is_posted_again-clause-twice c u =
    posted_twice c.args.commands.now c.loop-i.i c.args.later.now c.index-commands-i.result
    (take (length c.args.commands.now - (c.loop-i.i + 1)) (drop (c.loop-i.i + 1) c.args.commands.now)) (omega arith)
    (sym c.index-commands-i.is) (all_behind c.args.commands.now (c.loop-i.i + 1)) c.loop-i.invariant
    (sym c.is_posted_again.ensures ∙ c.if-is_posted_again.true)

pub returns-clause-once : goal.returns-clause-once
returns-clause-once c u = all_once c.args.commands.now c.loop-i.i c.args.later.now (omega arith) c.loop-i.invariant
