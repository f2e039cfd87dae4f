use Rattle.std.proofs.Common.{rules, refl}
use Rattle.jr_env.specs.Collections.{FitsRoom}
use Rattle.jr_env.proofs.TellingCalls.{leaves_env}
use Rattle.jr_env.proofs.TellingRemedies.{collected_over, kept_out_over, refused_over, served_over}
use Rattle.jr_env.proofs.retrying_over.try_collecting.Goals as goal

pub returns-in-Ok-clause-call : goal.returns-in-Ok-clause-call
returns-in-Ok-clause-call g c =
    let known : FitsRoom c.args.marker.now (g.N.OverEnv.env_in c.args.caller.now) = search rules in
    served_over c.args.patience c.fits_beneath.ensures.same known c.in-Ok.ensures refl

pub returns-then-not-is_short_of_room-clause-call : goal.returns-then-not-is_short_of_room-clause-call
returns-then-not-is_short_of_room-clause-call g c =
    let known : FitsRoom c.args.marker.now (g.N.OverEnv.env_in c.args.caller.now) = search rules in
    refused_over c.args.patience c.fits_beneath.ensures.same known c.in-Err.fault c.in-Err.ensures (search rules)

pub returns-in-Ok-collect_by-clause-call : goal.returns-in-Ok-collect_by-clause-call
returns-in-Ok-collect_by-clause-call g c =
    let known : FitsRoom c.args.marker.now (g.N.OverEnv.env_in c.args.caller.now) = search rules in
    collected_over c.args.patience c.fits_beneath.ensures.same known _ c.in-Err.fault c.in-Err.ensures (search rules)
    (leaves_env _ _ _ _ c.env.result.now c.env.ensures.value c.collect_by.new.env c.in-Ok-collect_by.ensures.call)
    c.try_again-in-Ok-collect_by.ensures

pub returns-in-Err-collect_by-clause-call : goal.returns-in-Err-collect_by-clause-call
returns-in-Err-collect_by-clause-call g c =
    let known : FitsRoom c.args.marker.now (g.N.OverEnv.env_in c.args.caller.now) = search rules in
    kept_out_over c.args.patience c.fits_beneath.ensures.same known _ c.in-Err.fault c.in-Err.ensures (search rules)
    (leaves_env _ _ _ _ c.env.result.now c.env.ensures.value c.collect_by.new.env c.in-Err-collect_by.ensures.call)
