use Rattle.jr_heap.proofs.Calling.{uncounted}
use Rattle.jr_heap_tests.proofs.Makers.{may_be_written, kind_written}
use Rattle.jr_heap_tests.proofs.heap.put.Goals as goal

pub write-requires-clause-object : goal.write-requires-clause-object
write-requires-clause-object g c = may_be_written g.S.Steps.facts g.met.S.Steps.fits c.args.steps.now c.args.object
    c.args._kind c.args.word c.requires.named c.requires.object

pub returns-clause-object : goal.returns-clause-object
returns-clause-object g c =
    kind_written g.S.Steps.facts g.met.S.Steps.fits c.args.steps.now c.args.object c.args._kind c.write.new.steps
    c.requires.role c.args.index c.args.word c.write.result c.requires.named (uncounted c.write.ensures.call)
    c.requires.object
