use Rattle.std.proofs.Common.{rules, ◌≡◌, suc, ap, ◌∙◌, arith}
use Rattle.jr_frames.specs.Places.{given_of, place_at}
use Rattle.jr_frames.proofs.Giving.{left_at, left_none, here_times, here_found, here_goes_on, here_smaller, in_order}
use Rattle.jr_frames.proofs.frame_walk.any_gives_again.Goals as goal

pub bounds-deref-from : goal.bounds-deref-from
bounds-deref-from c = rw (c.from.ensures, c.deref.ensures.0)
    (c.requires.low c.in-Some.place (here_times (left_at c.loop-next.invariant c.in-Some.place c.in-Some.is)))

pub returns-then-given-from : goal.returns-then-given-from
returns-then-given-from c = here_found (left_at c.loop-next.invariant c.in-Some.place c.in-Some.is)
    (let n : c.given.result ≡ given_of (place_at c.args.places.now.items c.in-Some.place) = c.given.ensures
    ∙ (ap (λ ps. given_of (place_at ps c.from.result)) c.deref.ensures.0
    ∙ ap (λ k. given_of (place_at c.args.places.now.items k)) c.from.ensures) in
    let last = c.from-in-Some.ensures in let less = c.if-given-from.true in omega arith)

pub after-next-requires : goal.after-next-requires
after-next-requires c =
    let here = left_at c.loop-next.invariant c.in-Some.place c.in-Some.is in
    let stands = in_order c.args.order.now _ c.args.frame c.in-Some.place c.requires (here_times here) in
    search rules

pub loop-next-smaller : goal.loop-next-smaller
loop-next-smaller c =
    let here = left_at c.loop-next.invariant c.in-Some.place c.in-Some.is in
    here_smaller here c.requires.once c.loop-next.next c.after-next.result c.in-Some.is
    (c.after-next.ensures (suc c.args.frame) here.done here.rest here.parts)

pub loop-next-preserved : goal.loop-next-preserved
loop-next-preserved c =
    let here = left_at c.loop-next.invariant c.in-Some.place c.in-Some.is in
    here_goes_on here
    (let n : c.given.result ≡ given_of (place_at c.args.places.now.items c.in-Some.place) = c.given.ensures
    ∙ (ap (λ ps. given_of (place_at ps c.from.result)) c.deref.ensures.0
    ∙ ap (λ k. given_of (place_at c.args.places.now.items k)) c.from.ensures) in
    let last = c.from-in-Some.ensures in let more = c.if-given-from.false in omega arith)
    (c.after-next.ensures (suc c.args.frame) here.done here.rest here.parts)

pub returns : goal.returns
returns c = left_none c.loop-next.invariant c.in_default.is
