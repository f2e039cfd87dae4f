-- A request is taken and found.
use Rattle.std.proofs.Common.{◌≡◌, ◌∙◌, Some}
use Rattle.jrefs.proofs.CommandLine.{finds_request, takes_request}
use Rattle.jrefs.proofs.request.request_of.Goals as goal

pub returns-in-Ok-try_get_matches_from-clause-taken : goal.returns-in-Ok-try_get_matches_from-clause-taken
returns-in-Ok-try_get_matches_from-clause-taken c = λ r asks.
    let same : c.found.result ≡ Some r =
    c.found.ensures ∙ finds_request _ _ _ r c.in-Ok.ensures asks c.in-Ok-try_get_matches_from.ensures.matches in
    rw (c.ok_or.ensures.value, same) tt

pub returns-in-Err-clause-taken : goal.returns-in-Err-clause-taken
returns-in-Err-clause-taken c =
    λ r asks. c.refusal.ensures.memory (c.in-Err.ensures.passes (takes_request _ _ r c.in-Ok.ensures asks))
