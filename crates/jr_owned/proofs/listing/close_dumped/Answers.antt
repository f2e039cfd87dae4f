use Rattle.jr_rule.specs.Passes.{known_of}
use Rattle.jr_threads.proofs.Listed.{closes_listed}
use Rattle.jr_owned.proofs.Dumped.{dumped_left, dumped_not}
use Rattle.jr_owned.proofs.listing.close_dumped.Goals as goal

pub returns-in-Err-clause-err : goal.returns-in-Err-clause-err
returns-in-Err-clause-err c = dumped_not _ c.args.room c.args.pass c.in-Err.pass c.in-Err.fault c.in-Err.ensures.left
    c.in-Err.ensures.err

pub returns-in-Ok-close-clause-ok : goal.returns-in-Ok-close-clause-ok
returns-in-Ok-close-clause-ok c =
    let z = c.in-Ok.ensures.ok in
    closes_listed (known_of c.args.pass) z.0 (known_of c.in-Ok.dumped.0) c.in-Ok.dumped.1 c.in-Ok-close.summary z.1 z.2
    c.in-Ok-close.ensures.ok

pub returns-in-Err-close-clause-err : goal.returns-in-Err-close-clause-err
returns-in-Err-close-clause-err c = dumped_left _ c.args.room c.args.pass c.in-Ok.dumped.0 c.in-Ok.dumped.1
    c.in-Err-close.left c.in-Ok.ensures.ok c.in-Err-close.ensures.err
