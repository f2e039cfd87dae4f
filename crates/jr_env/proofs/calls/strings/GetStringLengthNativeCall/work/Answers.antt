use Rattle.std.proofs.Common.{Err, refl, sym, ◌∙◌}
use Rattle.jr_word.specs.declared.fault.Fault.TheVariants.{WrongKind}
use Rattle.jr_model.specs.CallPrograms.{get_string_length}
use Rattle.jr_frames.specs.Reading.{word_of}
use Rattle.jr_env.proofs.AtObjects.{finds_nothing, gives_at_once, passes_there, refuses_there}
use Rattle.jr_env.proofs.calls.strings.GetStringLengthNativeCall.work.Goals as goal

pub returns-in_err-header-clause-call : goal.returns-in_err-header-clause-call
returns-in_err-header-clause-call g c = finds_nothing (word_of c.of-target.result) c.of-target.ensures.reads
    get_string_length c.from_residual.result c.from_residual.ensures.1 c.in_err-header.ensures.call

pub returns-then-not-is_text-clause-call : goal.returns-then-not-is_text-clause-call
returns-then-not-is_text-clause-call g c =
    refuses_there (word_of c.of-target.result) c.of-target.ensures.reads get_string_length g.met.S.Steps.fits
    c.in_ok-header.ensures.call (Err WrongKind) refl c.requires.ready.role_is
    (rw (sym c.is_text.ensures ∙ c.if-not-is_text.true) refl)

pub returns-clause-call : goal.returns-clause-call
returns-clause-call g c =
    passes_there (word_of c.of-target.result) c.of-target.ensures.reads get_string_length g.met.S.Steps.fits
    c.in_ok-header.ensures.call c.requires.ready.role_is
    (rw (sym c.is_text.ensures ∙ c.if-not-is_text.false) refl) (gives_at_once g.met.S.Steps.fits _)
