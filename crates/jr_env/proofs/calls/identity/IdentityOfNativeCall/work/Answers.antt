use Rattle.jr_frames.specs.Reading.{word_of}
use Rattle.jr_env.proofs.Identities.{names_nothing, names_null, names_object}
use Rattle.jr_env.proofs.calls.identity.IdentityOfNativeCall.work.Goals as goal

pub returns-in_err-object-clause-call : goal.returns-in_err-object-clause-call
returns-in_err-object-clause-call g c = names_nothing (word_of c.of-target.result) c.of-target.ensures.reads
    c.from_residual.result c.from_residual.ensures.1 c.in_err-object.ensures

pub returns-in_default-clause-call : goal.returns-in_default-clause-call
returns-in_default-clause-call g c = names_null (word_of c.of-target.result) c.of-target.ensures.reads
    c.in_default.is c.in_ok-object.ensures

pub returns-clause-call : goal.returns-clause-call
returns-clause-call g c = names_object (word_of c.of-target.result) c.of-target.ensures.reads
    c.in-Some.is c.in_ok-object.ensures
