use Rattle.std.proofs.Common.{refl}
use Rattle.jr_model.specs.CallPrograms.{kind_of}
use Rattle.jr_frames.specs.Reading.{word_of}
use Rattle.jr_env.proofs.AtObjects.{finds_nothing, gives_at_once, passes_there}
use Rattle.jr_env.proofs.calls.objects.KindOfNativeCall.work.Goals as goal

pub returns-in_err-header-clause-call : goal.returns-in_err-header-clause-call
returns-in_err-header-clause-call g c = finds_nothing (word_of c.of-target.result) c.of-target.ensures.reads kind_of
    c.from_residual.result c.from_residual.ensures.1 c.in_err-header.ensures.call

pub returns-clause-call : goal.returns-clause-call
returns-clause-call g c = passes_there (word_of c.of-target.result) c.of-target.ensures.reads kind_of
    g.met.S.Steps.fits c.in_ok-header.ensures.call c.requires.ready.role_is refl (gives_at_once g.met.S.Steps.fits _)
