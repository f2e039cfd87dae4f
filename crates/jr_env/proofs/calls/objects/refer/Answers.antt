use Rattle.jr_heap.specs.Ranges.{place_of, size_of}
use Rattle.jr_frames.proofs.NewLocal.{present_number}
use Rattle.jr_env.proofs.NewObject.{refers, refers_full}
use Rattle.jr_env.proofs.calls.objects.refer.Goals as goal

pub returns-in_err-object-clause-call : goal.returns-in_err-object-clause-call
returns-in_err-object-clause-call g c = refers_full c.in_err-object.ensures.stands c.args.kind (place_of c.args.range)
    (size_of c.args.range) c.from_residual.result c.from_residual.ensures.1 c.in_err-object.ensures.call

pub put_local-requires-clause-object : goal.put_local-requires-clause-object
put_local-requires-clause-object g c = c.in_ok-object.ensures.object

pub add-requires-clause-object : goal.add-requires-clause-object
add-requires-clause-object g c = present_number g.S.Steps.facts g.met.S.Steps.fits _ _ c.in_ok-object.ensures.object

pub returns-clause-call : goal.returns-clause-call
returns-clause-call g c =
    refers c.in_ok-object.ensures.stands c.args.kind (place_of c.args.range) (size_of c.args.range) c.requires.ready
    c.in_ok-object.ensures.call c.put_local.ensures c.add.ensures.added c.add.ensures.only
