use Rattle.std.proofs.Common.{◌<◌, Err, Ok, ap, subst, sym}
use Rattle.std.proofs.lemmas.List.{length-replicate}
use mathlib.Core.Logic.{∥∥₁_map}
use Rattle.jr_word.specs.Kind.{word_limit}
use Rattle.jr_steps.specs.Knowing.{IsWordNow}
use Rattle.jr_env.specs.Requests.{for_new_array}
use Rattle.jr_env.specs.Works.{Serves}
use Rattle.jr_env.proofs.EnvCalls.{packed_is}
use Rattle.jr_env.proofs.NewArray.{has_elements, zero_word, works_array}
use Rattle.jr_env.proofs.Served.{forgets, refused_is}
use Rattle.jr_env.proofs.calls.arrays.NewArrayNativeCall.work.Goals as goal

pub make_array-requires-clause-kind : goal.make_array-requires-clause-kind
make_array-requires-clause-kind g c = has_elements c.KIND-kind.result
    (subst (λ kind. 0 < word_limit kind) (sym c.KIND-kind.ensures) g.met.E.Elem.laws.zero_below)

pub make_array-requires-clause-word : goal.make_array-requires-clause-word
make_array-requires-clause-word g c =
    let some = has_elements c.KIND-kind.result
    (subst (λ kind. 0 < word_limit kind) (sym c.KIND-kind.ensures) g.met.E.Elem.laws.zero_below) in
    ∥∥₁_map (g.met.S.Steps.some_known c.args.steps.now) (λ k. (k.0, k.1, zero_word c.KIND-kind.result k.0 some))

pub returns-in_err-made-clause-call : goal.returns-in_err-made-clause-call
returns-in_err-made-clause-call g c =
    let some = has_elements c.KIND-kind.result
    (subst (λ kind. 0 < word_limit kind) (sym c.KIND-kind.ensures) g.met.E.Elem.laws.zero_below) in
    let n = c.args.self.length in
    subst (λ kind. Serves g.S.Steps.facts c.args.steps.now c.make_array.new.steps c.args.frames.now.frames
    c.make_array.new.frames.frames (for_new_array kind n) c.from_residual.result) c.KIND-kind.ensures (
      Err _,
      refused_is c.from_residual.result c.from_residual.ensures.1,
      forgets (works_array n (length-replicate n 0) (IsWordNow c.KIND-kind.result 0)
          (λ k. zero_word c.KIND-kind.result k some) c.in_err-made.ensures.call),
    )

pub returns-clause-call : goal.returns-clause-call
returns-clause-call g c =
    let some = has_elements c.KIND-kind.result
    (subst (λ kind. 0 < word_limit kind) (sym c.KIND-kind.ensures) g.met.E.Elem.laws.zero_below) in
    let n = c.args.self.length in
    subst (λ kind. Serves g.S.Steps.facts c.args.steps.now c.make_array.new.steps c.args.frames.now.frames
    c.make_array.new.frames.frames (for_new_array kind n) (Ok c.pack.result)) c.KIND-kind.ensures (
      Ok _,
      ap (λ h. Ok h) (packed_is c.pack.result c.in_ok-made.made c.pack.ensures),
      forgets (works_array n (length-replicate n 0) (IsWordNow c.KIND-kind.result 0)
          (λ k. zero_word c.KIND-kind.result k some) c.in_ok-made.ensures.call),
    )
