use Rattle.std.proofs.Common.{◌≤◌, ◌∙◌, ap, subst, sym}
use Rattle.jr_word.specs.declared.config.Config.{Config}
use Rattle.jr_threads.proofs.Passes.{opened_so, passes_long, some_thread}
use Rattle.jr_threads.proofs.running.run_native.Goals as goal

pub run_in-requires-clause-opened : goal.run_in-requires-clause-opened
run_in-requires-clause-opened g c κs lives = opened_so c.in_ok-room.ensures.opened

pub run_in-requires-clause-some : goal.run_in-requires-clause-some
run_in-requires-clause-some g c κs lives =
    let all =
    passes_long c.args.config 4294967295 c.in_ok-room.room.row c.in_ok-room.passes.items c.in_ok-room.ensures.opened in
    let some = some_thread c.args.config _ c.in_ok-room.ensures.size in
    subst (λ n. 1 ≤ n) (sym all) some

pub run_in-requires-clause-marker : goal.run_in-requires-clause-marker
run_in-requires-clause-marker g c κs lives = c.in-Ok.ensures.room
    ∙ ap (λ (d : Config). d.objects) (sym c.in_ok-room.ensures.opened.same_config)
