use Rattle.std.proofs.Common.{◌≡◌, ◌<◌, None, is_some, length, slice_index_or, sym, ap, ◌∙◌, arith}
use Rattle.std.proofs.lemmas.List.{get_or_read}
use Rattle.jr_alive.proofs.Present.{present_none, present_skip, present_take}
use Rattle.jr_alive.proofs.dump.Dump.present.Goals as goal
use Rattle.jr_alive.proofs.dump.Dump.present.Goals.{then-is_some+in_ok-push, else-is_some}

pub loop-index-init : goal.loop-index-init
loop-index-init c = c.new-numbers.ensures.items ∙ sym (present_none c.args.self.now)

pub loop-index-preserved : goal.loop-index-preserved
loop-index-preserved c =
    let d = c.args.self.now in
    let n = c.loop-index.index in
    let long = d.headers.ok.0 in
    let there : n < length d.headers.items =
    let l = c.len-index-end.ensures in let t = c.loop-index-test.true in omega arith in
    let read : c.index.result.now ≡ slice_index_or d.headers.items n None =
    get_or_read d.headers.items n c.index.result.now there c.index.ensures None in
    let is = ap is_some (sym read) ∙ sym c.is_some.ensures in
    elim c.if-is_some.branch [
      | then-is_some+in_ok-push w ↦ ap (λ v. v.items) w.numbers-is ∙ (w.in_ok-push.ensures.items
          ∙ present_take d n c.loop-index.numbers.items c.loop-index.invariant (is ∙ w.if-is_some.true))
      | else-is_some w ↦ ap (λ v. v.items) w.numbers-is
          ∙ present_skip d n c.loop-index.numbers.items c.loop-index.invariant (is ∙ w.if-is_some.false)
    ]
