use Rattle.std.proofs.Common.{Err, Ok, ap, refl, ◌∙◌}
use mathlib.Core.Logic.{∥∥₁_map}
use Rattle.jr_word.proofs.Limits.{limited}
use Rattle.jr_frames.specs.Reading.{word_of}
use Rattle.jr_model.specs.CallPrograms.{get_object_array_element}
use Rattle.jr_env.proofs.AtObjects.{finds_nothing, passes_there, refuses_there}
use Rattle.jr_env.proofs.ObjectElementChecks.{element_passed}
use Rattle.jr_env.proofs.ObjectElementReading.{may_both, may_name, reads_element, ready_found, ready_read, word_low}
use Rattle.jr_env.proofs.EnvCalls.{packed_if_is}
use Rattle.jr_env.proofs.Served.{refused_is}
use Rattle.jr_env.proofs.calls.arrays.GetObjectArrayElementNativeCall.work.Goals as goal

pub see_element-word-requires-clause-index : goal.see_element-word-requires-clause-index
see_element-word-requires-clause-index g c = (element_passed c.args.self.1 c.in_ok-array.header.kind
    c.in_ok-array.header.length c.in_ok-has_element.ensures).1

pub see_element-word-requires-clause-known : goal.see_element-word-requires-clause-known
see_element-word-requires-clause-known g c = ∥∥₁_map c.in_ok-array.ensures.known (λ k. (k.0, k.1, k.2.known))

pub object_in-object-requires : goal.object_in-object-requires
object_in-object-requires g c =
    word_low g.met.S.Steps.fits c.args.self.1 c.see_element-word.result c.in_ok-has_element.ensures
    (c.in_ok-array.ensures.call.stands_is.role ∙ c.requires.ready.role_is) c.see_element-word.ensures
    c.args.frames.now.frames (limited (g.S.Steps.facts c.see_element-word.new.self).stands.config
    (g.met.S.Steps.limits c.see_element-word.new.self)).objects.1
    (may_both (word_of c.of-target.result) c.args.frames.now.frames c.in_ok-array.ensures.call
    c.requires.ready.own.agrees)

pub new_local-requires-clause-ready : goal.new_local-requires-clause-ready
new_local-requires-clause-ready g c =
    ready_read g.met.S.Steps.fits c.args.self.1 c.see_element-word.result c.in_ok-has_element.ensures
    (c.in_ok-array.ensures.call.stands_is.role ∙ c.requires.ready.role_is) c.see_element-word.ensures c.args.frames.now
    (ready_found (word_of c.of-target.result) c.args.frames.now c.requires.ready c.in_ok-array.ensures.call) (may_both
    (word_of c.of-target.result) c.args.frames.now.frames c.in_ok-array.ensures.call c.requires.ready.own.agrees)

pub new_local-requires-clause-object : goal.new_local-requires-clause-object
new_local-requires-clause-object g c = may_name g.met.S.Steps.fits c.args.self.1 c.see_element-word.result
    c.in_ok-has_element.ensures (c.in_ok-array.ensures.call.stands_is.role ∙ c.requires.ready.role_is)
    c.see_element-word.ensures c.args.frames.now.frames c.object_in-object.ensures
    (may_both (word_of c.of-target.result) c.args.frames.now.frames c.in_ok-array.ensures.call
    c.requires.ready.own.agrees)

pub returns-in_err-array-clause-call : goal.returns-in_err-array-clause-call
returns-in_err-array-clause-call g c = (
  Err _,
  refused_is c.from_residual.result c.from_residual.ensures.1,
  finds_nothing (word_of c.of-target.result) c.of-target.ensures.reads (get_object_array_element c.args.self.1) (Err _)
      refl c.in_err-array.ensures.call,
)

pub returns-in_err-has_element-clause-call : goal.returns-in_err-has_element-clause-call
returns-in_err-has_element-clause-call g c = (
  Err _,
  refused_is c.from_residual-in_err-has_element.result c.from_residual-in_err-has_element.ensures.1,
  refuses_there (word_of c.of-target.result) c.of-target.ensures.reads (get_object_array_element c.args.self.1)
      g.met.S.Steps.fits c.in_ok-array.ensures.call (Err _) refl c.requires.ready.role_is
      c.in_err-has_element.ensures,
)

pub returns-in_err-made-clause-call : goal.returns-in_err-made-clause-call
returns-in_err-made-clause-call g c =
    let found = c.in_ok-array.ensures.call in (
      Err _,
      refused_is c.from_residual-in_err-made.result c.from_residual-in_err-made.ensures.1,
      passes_there (word_of c.of-target.result) c.of-target.ensures.reads (get_object_array_element c.args.self.1)
          g.met.S.Steps.fits found c.requires.ready.role_is c.in_ok-has_element.ensures
          (reads_element g.met.S.Steps.fits c.args.self.1 c.see_element-word.result c.in_ok-has_element.ensures
          (found.stands_is.role ∙ c.requires.ready.role_is) c.see_element-word.ensures found.stands_is
          c.object_in-object.ensures c.in_err-made.ensures.call),
    )

pub returns-clause-call : goal.returns-clause-call
returns-clause-call g c =
    let found = c.in_ok-array.ensures.call in (
      Ok _,
      ap (λ x. Ok x) (packed_if_is c.map.result c.in_ok-made.made c.map.ensures.cases),
      passes_there (word_of c.of-target.result) c.of-target.ensures.reads (get_object_array_element c.args.self.1)
          g.met.S.Steps.fits found c.requires.ready.role_is c.in_ok-has_element.ensures
          (reads_element g.met.S.Steps.fits c.args.self.1 c.see_element-word.result c.in_ok-has_element.ensures
          (found.stands_is.role ∙ c.requires.ready.role_is) c.see_element-word.ensures found.stands_is
          c.object_in-object.ensures c.in_ok-made.ensures.call),
    )
