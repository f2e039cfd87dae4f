use Rattle.jr_heap.proofs.Headers.{is_number, is_there, called_header, may_hold}
use Rattle.jr_heap.proofs.object.header.Goals as goal

pub see_header-requires-clause-number : goal.see_header-requires-clause-number
see_header-requires-clause-number g c =
    is_number g.S.Steps.facts g.met.S.Steps.fits c.args.steps.now c.args.object c.requires.object

pub unwrap-requires : goal.unwrap-requires
unwrap-requires g c = is_there g.met.S.Steps.fits c.args.steps.now c.args.object c.see_header.result
    c.see_header.ensures c.requires.role c.requires.object

pub returns-clause-call : goal.returns-clause-call
returns-clause-call g c = called_header g.met.S.Steps.fits c.args.steps.now c.args.object c.see_header.result
    c.see_header.ensures c.unwrap.result c.unwrap.ensures c.requires.role

pub returns-clause-known : goal.returns-clause-known
returns-clause-known g c = may_hold g.met.S.Steps.fits c.args.steps.now c.args.object c.see_header.result
    c.see_header.ensures c.unwrap.result c.unwrap.ensures c.requires.object
