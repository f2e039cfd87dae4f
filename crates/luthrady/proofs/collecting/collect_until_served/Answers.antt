-- A collection that is announced until it gets its turn: as the env's own, but for the yields.
use Rattle.std.proofs.Common.{◌∙◌, sym, ap, refl, arith}
use Rattle.jr_word.specs.declared.config.Config.{Config}
use Rattle.jr_weak.specs.Listing.{ListsTell}
use Rattle.jr_env.specs.Listings.{listed_announced}
use Rattle.jr_env.proofs.EnvCalls.{does_more, same_room}
use Rattle.jr_env.proofs.Remedies.{all_left, lists_same, refused_at, served_at, tried_at}
use Rattle.luthrady.proofs.collecting.collect_until_served.Goals as goal

pub loop-init : goal.loop-init
loop-init g c = (
  refl,
  (refl, refl),
  λ fits. (fits, λ marks hs ns answer last after t. does_more (λ p q x. all_left c.args.more x) t),
)

pub loop-preserved : goal.loop-preserved
loop-preserved g c =
    let so = c.loop.invariant in (
      c.in-Err.ensures.kept ∙ so.0,
      (c.in-Err.ensures.unlisted.0 ∙ so.1.0, c.in-Err.ensures.unlisted.1 ∙ so.1.1),
      λ fits.
          let was = so.2 fits in
          let call = c.in-Err.ensures.call was.0 in (
            c.in-Err.ensures.room ∙ was.0 ∙ sym (ap (λ (z : Config). z.objects) (same_room call)),
            λ marks hs ns answer last after t. was.1 marks hs ns answer last after
                (refused_at c.args.more c.loop.counter (omega arith) (does_more {two = listed_announced c.args.tries
                marks (ListsTell c.args.handles.now c.args.numbers.now hs ns)} (λ p q x. x) call) t),
          ),
    )

pub returns-in-Ok-clause-call : goal.returns-in-Ok-clause-call
returns-in-Ok-clause-call g c fits =
    let so = c.loop.invariant in
    let was = so.2 fits in
    was.1 _ _ _ _ _ _ (served_at _ (lists_same c.args.tries _ _ _ _ so.1.0 so.1.1 (c.in-Ok.ensures.call was.0)))

pub returns-clause-call : goal.returns-clause-call
returns-clause-call g c fits =
    let so = c.loop.invariant in
    let was = so.2 fits in
    was.1 _ _ _ _ _ _ (tried_at c.args.more c.loop.counter (omega arith)
    (lists_same c.args.tries _ _ _ _ so.1.0 so.1.1 (c.collect_announced_listing-2.ensures.call was.0)))
