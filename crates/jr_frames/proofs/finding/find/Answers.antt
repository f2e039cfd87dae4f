use Rattle.std.proofs.Common.{Ok, Err}
use Rattle.jr_word.specs.declared.fault.Fault.TheVariants.{Null}
use Rattle.jr_frames.specs.Reading.{word_of}
use Rattle.jr_frames.proofs.FoundObject.{finds, finds_no_reference, finds_null, finds_object, may_look}
use Rattle.jr_frames.proofs.finding.find.Goals as goal

pub returns-in_err-object-clause-call : goal.returns-in_err-object-clause-call
returns-in_err-object-clause-call g c = finds (word_of c.args.target) c.from_residual.result (finds_no_reference
    (word_of c.args.target) c.from_residual.result c.from_residual.ensures.1 c.in_err-object.ensures)

pub returns-in_err-object-clause-beside : goal.returns-in_err-object-clause-beside
returns-in_err-object-clause-beside g c =
    finds_no_reference (word_of c.args.target) c.from_residual.result c.from_residual.ensures.1 c.in_err-object.ensures

pub returns-in_default-clause-call : goal.returns-in_default-clause-call
returns-in_default-clause-call g c =
    finds (word_of c.args.target) (Err Null) (finds_null (word_of c.args.target) c.in_default.is c.in_ok-object.ensures)

pub returns-in_default-clause-beside : goal.returns-in_default-clause-beside
returns-in_default-clause-beside g c = finds_null (word_of c.args.target) c.in_default.is c.in_ok-object.ensures

pub header-header-requires-clause-object : goal.header-header-requires-clause-object
header-header-requires-clause-object g c =
    may_look (word_of c.args.target) c.in-Some.is c.in_ok-object.ensures c.requires.ready.own.agrees

pub returns-clause-call : goal.returns-clause-call
returns-clause-call g c =
    finds (word_of c.args.target) (Ok (c.in-Some.object, c.header-header.result)) (finds_object (word_of c.args.target)
    c.in-Some.is c.in_ok-object.ensures c.header-header.ensures.stands c.header-header.ensures.call)

pub returns-clause-beside : goal.returns-clause-beside
returns-clause-beside g c = finds_object (word_of c.args.target) c.in-Some.is c.in_ok-object.ensures
    c.header-header.ensures.stands c.header-header.ensures.call
