use Rattle.jr_frames.specs.Reading.{word_of}
use Rattle.jr_env.proofs.ObjectElementChecks.{element_passed}
use Rattle.jr_env.proofs.ObjectElementWriting.{may_look, may_write, writes_element}
use Rattle.jr_env.proofs.ObjectElementWriting.{writes_no_reference, writes_nothing, writes_null}
use Rattle.jr_env.proofs.calls.arrays.SetObjectArrayElementNativeCall.work.Goals as goal

pub returns-in_err-array-clause-call : goal.returns-in_err-array-clause-call
returns-in_err-array-clause-call g c =
    let v = word_of c.of-target.result in
    let w = word_of c.of-value.result in (
      v,
      w,
      c.of-target.ensures.reads,
      c.of-value.ensures.reads,
      writes_no_reference v w c.args.self.1 c.from_residual.result c.from_residual.ensures.1
          c.in_err-array.ensures,
    )

pub returns-in_default-clause-call : goal.returns-in_default-clause-call
returns-in_default-clause-call g c =
    let v = word_of c.of-target.result in
    let w = word_of c.of-value.result in (
      v,
      w,
      c.of-target.ensures.reads,
      c.of-value.ensures.reads,
      writes_null v w c.args.self.1 c.in_default.is c.in_ok-array.ensures,
    )

pub header-header-requires-clause-object : goal.header-header-requires-clause-object
header-header-requires-clause-object g c = may_look (word_of c.of-target.result) (word_of c.of-value.result)
    c.args.self.1 c.in-Some.is c.in_ok-array.ensures c.requires.ready.own.agrees

pub returns-in_err-has_element-clause-call : goal.returns-in_err-has_element-clause-call
returns-in_err-has_element-clause-call g c =
    let v = word_of c.of-target.result in
    let w = word_of c.of-value.result in (
      v,
      w,
      c.of-target.ensures.reads,
      c.of-value.ensures.reads,
      writes_nothing g.met.S.Steps.fits v w c.args.self.1 c.in-Some.is c.in_ok-array.ensures
          c.requires.ready.role_is c.header-header.ensures.stands c.header-header.ensures.call
          c.from_residual-in_err-has_element.result c.from_residual-in_err-has_element.ensures.1
          c.in_err-has_element.ensures,
    )

pub put_element-requires-clause-index : goal.put_element-requires-clause-index
put_element-requires-clause-index g c = (element_passed c.args.self.1 c.header-header.result.kind
    c.header-header.result.length c.in_ok-has_element.ensures).1

pub put_element-requires-clause-kind : goal.put_element-requires-clause-kind
put_element-requires-clause-kind g c = λ e. let is = (element_passed c.args.self.1
    c.header-header.result.kind c.header-header.result.length c.in_ok-has_element.ensures).0 in cc

pub put_element-requires-clause-known : goal.put_element-requires-clause-known
put_element-requires-clause-known g c =
    may_write g.met.S.Steps.fits (word_of c.of-target.result) (word_of c.of-value.result) c.args.self.1 c.in-Some.is
    c.in_ok-array.ensures c.requires.ready.role_is c.header-header.ensures.stands c.header-header.ensures.call
    c.in_ok-has_element.ensures c.element_word-word.ensures c.requires.ready.own.agrees

pub returns-clause-call : goal.returns-clause-call
returns-clause-call g c =
    let v = word_of c.of-target.result in
    let w = word_of c.of-value.result in (
      v,
      w,
      c.of-target.ensures.reads,
      c.of-value.ensures.reads,
      writes_element g.met.S.Steps.fits v w c.args.self.1 c.in-Some.is c.in_ok-array.ensures
          c.requires.ready.role_is c.header-header.ensures.stands c.header-header.ensures.call
          c.in_ok-has_element.ensures c.element_word-word.ensures c.put_element.ensures,
    )
