use Rattle.jr_array_tests.proofs.Answered.{whatever}
use Rattle.jr_array_tests.proofs.undisturbed.nests_and_reads.Goals as goal

pub returns : goal.returns
returns g c = λ out.
    let begun = c.args.env.now.held in
    let opened = c.in_ok-levels.ensures.region out in
    let nested = c.nest_array-nested.ensures.region begun opened in
    let written = c.set-written.ensures.region begun nested in
    let read = c.get-read.ensures.region begun written in
    whatever c.get-read.result (c.close_all.ensures.undisturbed begun read)
