use Rattle.std.proofs.Common.{◌∙◌, sym, ap, refl, rules, arith}
use Rattle.jr_word.specs.declared.config.Config.{Config}
use Rattle.jr_weak.specs.Listing.{ListsTell}
use Rattle.jr_env.specs.Listings.{listed_announced}
use Rattle.jr_env.proofs.EnvCalls.{does_more, same_room}
use Rattle.jr_env.proofs.Remedies.{all_left, lists_same, not_of_size, refused_at, served_at, tried_at}
use Rattle.jr_env.proofs.env.Env.collect_in_turn_listing.Goals as goal

pub loop-init : goal.loop-init
loop-init g c = (
  search rules,
  refl,
  refl,
  (refl, refl),
  λ marks hs ns answer last after t. does_more (λ p q x. all_left c.args.patience.more x) t,
)

pub loop-preserved : goal.loop-preserved
loop-preserved g c =
    let so = c.loop.invariant in
    let call = c.in-Err.ensures.call so.0 in (
      c.in-Err.ensures.room ∙ so.0 ∙ sym (ap (λ (z : Config). z.objects) (same_room call)),
      c.in-Err.ensures.kept ∙ so.1,
      same_room call ∙ so.2,
      (c.in-Err.ensures.unlisted.0 ∙ so.3.0, c.in-Err.ensures.unlisted.1 ∙ so.3.1),
      λ marks hs ns answer last after t. so.4 marks hs ns answer last after
          (refused_at c.args.patience.more c.loop.counter (omega arith) (does_more {two = listed_announced c.args.tries
          marks (ListsTell c.args.handles.now c.args.numbers.now hs ns)} (λ p q x. x) call) t),
    )

pub returns-in-Ok-clause-call : goal.returns-in-Ok-clause-call
returns-in-Ok-clause-call g c fits =
    let so = c.loop.invariant in
    so.4 _ _ _ _ _ _ (served_at _ (lists_same c.args.tries _ _ _ _ so.3.0 so.3.1 (c.in-Ok.ensures.call so.0)))

pub returns-clause-call : goal.returns-clause-call
returns-clause-call g c fits =
    let so = c.loop.invariant in
    so.4 _ _ _ _ _ _ (tried_at c.args.patience.more c.loop.counter (omega arith)
    (lists_same c.args.tries _ _ _ _ so.3.0 so.3.1 (c.collect_announced_listing-2.ensures.call so.0)))

pub returns-clause-size : goal.returns-clause-size
returns-clause-size g c =
    let so = c.loop.invariant in (
      λ is. absurd (not_of_size c.collect_announced_listing-2.result
          (c.collect_announced_listing-2.ensures.refused so.0) is),
      λ no. absurd (no (search rules)),
    )
