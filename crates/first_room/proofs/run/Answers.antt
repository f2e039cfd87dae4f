-- The report is of what the threads answered.
use Rattle.std.proofs.Common.{◌≡◌, rules, subst, sym}
use Rattle.jr_threads.specs.Parts.{RanTogether}
use Rattle.first_room.specs.declared.TheConstants.{SIZES}
use Rattle.first_room.specs.Calls.{has_found, story_of}
use Rattle.first_room.proofs.run.Goals as goal

pub gathered-requires : goal.gathered-requires
gathered-requires g c =
    let same : c.deref.result.now ≡ c.in_ok-ran.ran.answers.items = search rules in
    subst (λ l. RanTogether has_found story_of SIZES 4294967295 l c.in_ok-ran.ran.summary) (sym same)
    c.in_ok-ran.ensures.run
