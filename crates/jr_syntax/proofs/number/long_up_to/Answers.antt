use Rattle.std.proofs.Common.{◌+◌, ◌-◌, ◌*◌, arith, get_or, drop, sym, ◌∙◌}
use Rattle.std.proofs.lemmas.Bool.{and_parts}
use Rattle.jr_syntax.proofs.NumberLaws.{digit_at, number_from_ge, number_more}
use Rattle.jr_syntax.proofs.number.long_up_to.Goals as goal

pub overflow_mul-n : goal.overflow_mul-n
overflow_mul-n c = omega (arith, c.loop-digit.invariant.small)

pub overflow_add-n : goal.overflow_add-n
overflow_add-n c =
    omega (
      arith,
      c.loop-digit.invariant.small,
      digit_at c.args.digits.now c.loop-digit.digit-index (and_parts _ _ (and_parts _ _ c.requires).0).1
          c.loop-digit-test.true,
    )

pub returns-then-n-limit : goal.returns-then-n-limit
returns-then-n-limit c =
    let ds = c.args.digits.now in
    let i = c.loop-digit.digit-index in
    let e = sym (number_more c.loop-digit.n ds i c.loop-digit-test.true) ∙ c.loop-digit.invariant.total in
    omega (arith, e, number_from_ge (c.loop-digit.n * 10 + (get_or ds i 0 - 48)) (drop (i + 1) ds))

pub loop-digit-preserved : goal.loop-digit-preserved
loop-digit-preserved c = record {
  total = sym (number_more c.loop-digit.n c.args.digits.now c.loop-digit.digit-index c.loop-digit-test.true)
      ∙ c.loop-digit.invariant.total;
  small = omega arith;
}
