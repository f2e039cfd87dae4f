use Rattle.std.proofs.Common.{◌≤◌, ◌∙◌, ap, subst, sym}
use Rattle.jr_word.specs.declared.config.Config.{Config}
use Rattle.jr_alive.specs.Graph.{HasRoomFor}
use Rattle.jr_threads.proofs.Passes.{opened_so, passes_long, some_thread}
use Rattle.jr_threads.proofs.running.run_native_listing.Goals as goal

pub run_listing_in-requires-clause-opened : goal.run_listing_in-requires-clause-opened
run_listing_in-requires-clause-opened g c κs lives = opened_so c.in_ok-opened.ensures.opened

pub run_listing_in-requires-clause-some : goal.run_listing_in-requires-clause-some
run_listing_in-requires-clause-some g c κs lives =
    let room = c.in_ok-opened.opened.0 in
    let all =
    passes_long c.args.config 4294967295 room.row c.in_ok-opened.opened.1.items c.in_ok-opened.ensures.opened in
    let some = some_thread c.args.config _ c.in_ok-opened.ensures.size in
    subst (λ n. 1 ≤ n) (sym all) some

pub run_listing_in-requires-clause-marker : goal.run_listing_in-requires-clause-marker
run_listing_in-requires-clause-marker g c κs lives =
    c.in-Ok-Ok.ensures.room ∙ ap (λ (d : Config). d.objects) (sym c.in_ok-opened.ensures.opened.same_config)

pub run_listing_in-requires-clause-dump : goal.run_listing_in-requires-clause-dump
run_listing_in-requires-clause-dump g c κs lives = subst (λ (d : Config). HasRoomFor d c.in-Ok-Ok.dump)
    (sym c.in_ok-opened.ensures.opened.same_config) c.in-Ok-Ok.ensures'.room
