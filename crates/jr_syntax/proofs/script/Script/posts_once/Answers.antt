use Rattle.std.proofs.Common.{◌≡◌, List, ◌∙◌, ◌+◌, ◌-◌, refl, sym, ap, take, drop, length, arith, rules, false, true}
use Rattle.jr_syntax.specs.Script.{all_apart, posts_of}
use Rattle.jr_syntax.specs.declared.thread.ThreadPart.{ThreadPart}
use Rattle.jr_syntax.proofs.PostsOnce.{all_behind, part_once, part_twice, parts_once}
use Rattle.jr_syntax.proofs.script.Script.posts_once.Goals as goal

pub loop-i-init : goal.loop-i-init
loop-i-init c = refl

pub loop-i-preserved : goal.loop-i-preserved
loop-i-preserved c = part_once c.as_slice-parts.result.now c.loop-i.i c.index-parts-i.result
    (take (length c.as_slice-parts.result.now - (c.loop-i.i + 1)) (drop (c.loop-i.i + 1) c.as_slice-parts.result.now))
    (omega arith) (sym c.index-parts-i.is) (all_behind c.as_slice-parts.result.now (c.loop-i.i + 1)) c.loop-i.invariant
    (search rules)

pub returns-then-not-commands_post_once : goal.returns-then-not-commands_post_once
returns-then-not-commands_post_once c =
    let twice : all_apart (posts_of c.as_slice-parts.result.now) ≡ false =
    part_twice c.as_slice-parts.result.now c.loop-i.i c.index-parts-i.result
    (take (length c.as_slice-parts.result.now - (c.loop-i.i + 1)) (drop (c.loop-i.i + 1) c.as_slice-parts.result.now))
    (omega arith) (sym c.index-parts-i.is) (all_behind c.as_slice-parts.result.now (c.loop-i.i + 1)) c.loop-i.invariant
    (search rules) in
    sym twice ∙ ap (λ (ps : List ThreadPart). all_apart (posts_of ps)) c.as_slice-parts.ensures

pub returns : goal.returns
returns c =
    let once : all_apart (posts_of c.as_slice-parts.result.now) ≡ true =
    parts_once c.as_slice-parts.result.now c.loop-i.i (omega arith) c.loop-i.invariant in
    sym once ∙ ap (λ (ps : List ThreadPart). all_apart (posts_of ps)) c.as_slice-parts.ensures
