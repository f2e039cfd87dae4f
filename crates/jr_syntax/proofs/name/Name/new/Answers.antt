use Rattle.std.proofs.Common.{ℕ, List, ◌++◌, length, drop, subst, sym}
use Rattle.std.specs.Prelude.{replicate}
use Rattle.jr_syntax.specs.Name.{IsKept}
use Rattle.jr_syntax.proofs.NameLaws.{kept}
use Rattle.jr_syntax.proofs.name.Name.new.Goals as goal

pub invariant_of-result : goal.invariant_of-result
invariant_of-result c =
    let w = c.args.word.now in
    let rest = drop (length w) (replicate 16 0) in
    subst (λ (x : List ℕ). IsKept (x ++ rest) (length w)) (sym c.copy_from_slice.ensures.after) (kept w rest c.requires)
