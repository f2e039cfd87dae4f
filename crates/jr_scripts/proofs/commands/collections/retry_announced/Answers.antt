use Rattle.std.proofs.Common.{◌≡◌, ◌∙◌, rules, of_calls, refl, sym, ap, subst}
use Rattle.jr_word.specs.declared.config.Config.{Config}
use Rattle.jr_weak.specs.Markers.{room_of}
use Rattle.jr_env.specs.Collections.{FitsRoom, announced_collection}
use Rattle.jr_env.specs.Deeds.{DoesOutside}
use Rattle.jr_env.specs.Envs.{WasDone}
use Rattle.jr_env.proofs.EnvCalls.{same_room}
use Rattle.jr_scripts.specs.Commands.{tried}
use Rattle.jr_scripts.proofs.Retries.{does_tried, tries_leave}
use Rattle.jr_scripts.proofs.commands.collections.retry_announced.Goals as goal

pub returns-clause-does : goal.returns-clause-does
returns-clause-does g c =
    let same = tries_leave (λ x. x.1.env.ghost_name) (λ x y r o. search (rules, of_calls)) c.in_turns.ensures.1 in
    subst (λ env. WasDone c.args.env.now env (tried c.args.turns (announced_collection c.args.tries)) c.in_turns.result)
    (sym (c.env-1.given.1 (sym same)))
    (does_tried (λ x. x.1.env.now.held.steps) (λ x. x.1.env.now.held.frames.frames)
    (λ x. FitsRoom x.1.marker.now x.1.env.now × (x.0.0.now ≡ c.args.tries)) (λ x y r k o.
    let d : DoesOutside g.S.Steps.facts x.1.env.now.held.steps y.1.env.now.held.steps x.1.env.now.held.frames.frames
    y.1.env.now.held.frames.frames (announced_collection c.args.tries) r = search (rules, of_calls) in
    let room : room_of y.1.marker.now ≡ room_of x.1.marker.now = search (rules, of_calls) in
    (d, (room ∙ (k.0 ∙ sym (ap (λ (z : Config). z.objects) (same_room d))), search (rules, of_calls))))
    (c.requires.room, refl) c.requires.outside c.in_turns.ensures.1)

pub returns-clause-room : goal.returns-clause-room
returns-clause-room g c =
    let same = tries_leave (λ x. x.1.marker.ghost_name) (λ x y r o. search (rules, of_calls)) c.in_turns.ensures.1 in
    ap room_of (c.marker-1.given.1 (sym same))
    ∙ tries_leave (λ x. room_of x.1.marker.now) (λ x y r o. search (rules, of_calls)) c.in_turns.ensures.1
