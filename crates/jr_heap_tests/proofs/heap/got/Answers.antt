use Rattle.jr_heap_tests.proofs.Makers.{may_be_read, kind_read}
use Rattle.jr_heap_tests.proofs.heap.got.Goals as goal

pub read-requires-clause-object : goal.read-requires-clause-object
read-requires-clause-object g c =
    may_be_read g.S.Steps.facts g.met.S.Steps.fits c.args.steps.now c.args.object c.args._kind c.requires.object

pub returns-clause-object : goal.returns-clause-object
returns-clause-object g c = kind_read g.S.Steps.facts g.met.S.Steps.fits c.args.steps.now c.args.object c.args._kind
    c.read.new.steps c.requires.role c.args.index c.read.result c.read.ensures.call c.requires.object
