use Rattle.jr_heap.proofs.KnownHeaders.{steps_keep_headers, calls_keep_headers}
use Rattle.jr_heap.proofs.laws.headers_stay_known.Goals as goal

pub returns-clause-steps : goal.returns-clause-steps
returns-clause-steps c = steps_keep_headers

pub returns-clause-calls : goal.returns-clause-calls
returns-clause-calls c = calls_keep_headers
