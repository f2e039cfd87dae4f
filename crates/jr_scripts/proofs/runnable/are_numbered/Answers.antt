use Rattle.std.proofs.Common.{refl, arith, rules}
use Rattle.jr_scripts.proofs.Lines.{lines_end}
use Rattle.jr_scripts.proofs.runnable.are_numbered.Goals as goal

pub returns : goal.returns
returns c =
    let none = lines_end c.loop-part.part-index c.args.parts.now (search rules) in
    let all = c.loop-part.invariant.all in
    let small = c.loop-part.invariant.fits in
    (λ e. omega arith, λ l. refl)
