use Rattle.std.proofs.Common.{rules, ◌≡◌, ◌<◌, ◌^◌, ◌++◌, ◌∷◌, [], arith, ap, ◌∙◌, replicate}
use Rattle.linked_lists.specs.Lists.{Lists, count_up, with_lists}
use Rattle.jr_frames.specs.Places.{unused}
use Rattle.jr_frames.proofs.FreshTable.{fresh_shows, is_fresh}
use Rattle.jr_frames.proofs.frames.Frames.new.Goals as goal

pub new-order-requires : goal.new-order-requires
new-order-requires c = let few = c.requires in search rules

places_are : (c : goal.After-push-2) → c.loop.places.items ≡ replicate c.args.config.now.locals unused
places_are c = let all : c.loop.counter ≡ c.args.config.now.locals = omega arith in
    c.loop.invariant ∙ ap (λ n. replicate n unused) all

order_is : (c : goal.After-push-2)
    → c.push-2.new.self ≡ record {
      numbers = c.args.config.now.locals;
      free = count_up 0 c.args.config.now.locals;
      lists = [] ∷ [];
    }
order_is c = c.push-2.ensures ∙ ap (λ (l : Lists). with_lists l (l.lists ++ [] ∷ [])) c.new-order.ensures

pub invariant_of-result : goal.invariant_of-result
invariant_of-result c = let fits : c.args.last < 2 ^ 32 = search rules in
    fresh_shows c.args.thread c.args.last c.args.config.now.locals c.loop.places (places_are c) c.push-2.new.self
    (order_is c) c.requires fits

pub returns : goal.returns
returns c = is_fresh c.args.thread c.args.last c.args.config.now.locals c.loop.places (places_are c)
    c.push-2.new.self (order_is c)
