use Rattle.std.proofs.Common.{Err, refl, sym, ◌∙◌}
use Rattle.jr_word.specs.declared.fault.Fault.TheVariants.{NotArray}
use Rattle.jr_model.specs.CallPrograms.{get_array_length}
use Rattle.jr_frames.specs.Reading.{word_of}
use Rattle.jr_env.proofs.AtObjects.{finds_nothing, gives_at_once, passes_there, refuses_there}
use Rattle.jr_env.proofs.calls.arrays.GetArrayLengthNativeCall.work.Goals as goal

pub returns-in_err-header-clause-call : goal.returns-in_err-header-clause-call
returns-in_err-header-clause-call g c = finds_nothing (word_of c.of-target.result) c.of-target.ensures.reads
    get_array_length c.from_residual.result c.from_residual.ensures.1 c.in_err-header.ensures.call

pub returns-then-not-is_array-clause-call : goal.returns-then-not-is_array-clause-call
returns-then-not-is_array-clause-call g c =
    refuses_there (word_of c.of-target.result) c.of-target.ensures.reads get_array_length g.met.S.Steps.fits
    c.in_ok-header.ensures.call (Err NotArray) refl c.requires.ready.role_is
    (rw (sym c.is_array.ensures ∙ c.if-not-is_array.true) refl)

pub returns-clause-call : goal.returns-clause-call
returns-clause-call g c =
    passes_there (word_of c.of-target.result) c.of-target.ensures.reads get_array_length g.met.S.Steps.fits
    c.in_ok-header.ensures.call c.requires.ready.role_is
    (rw (sym c.is_array.ensures ∙ c.if-not-is_array.false) refl) (gives_at_once g.met.S.Steps.fits _)
