use Rattle.std.proofs.Common.{Ok}
use Rattle.jr_heap.proofs.Calling.{uncounted}
use Rattle.jr_heap_tests.proofs.Makers.{may_be_read, kind_looked_up}
use Rattle.jr_heap_tests.proofs.last_words.has_header.Goals as goal

pub header-requires-clause-object : goal.header-requires-clause-object
header-requires-clause-object g c =
    may_be_read g.S.Steps.facts g.met.S.Steps.fits c.args.steps.now c.args.object c.args._kind c.requires.object

pub returns-clause-object : goal.returns-clause-object
returns-clause-object g c = kind_looked_up g.S.Steps.facts g.met.S.Steps.fits c.args.steps.now c.args.object
    c.args._kind c.header.new.steps c.requires.role (Ok (c.header.result.kind, c.header.result.length))
    (uncounted c.header.ensures.call) c.requires.object
