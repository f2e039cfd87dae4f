-- What is asked of an element of an object array before it is read or written.
use Rattle.std.proofs.Common.{◌≡◌, ◌<◌, ◌≤◌, ℕ, true, false, not, nat_le, Ok, refl, arith}
use Rattle.std.proofs.lemmas.Bool.Decides.{nat_tests}
use Rattle.jr_word.specs.declared.kind.Kind.{Kind}
use Rattle.jr_word.specs.declared.kind.Kind.TheVariants.{Objects}
use Rattle.jr_model.specs.Checks.{is_objects}
use Rattle.jr_model.specs.Tests.{refused_by}
use Rattle.jr_model.specs.CallPrograms.{element_tests}
use Rattle.jr_env.proofs.AtObjects.{passed}

pub too_far : (n i : ℕ) → n ≤ i → nat_le n i ≡ true
too_far n i l = grind (arith, nat_tests)

pub near : (n i : ℕ) → i < n → nat_le n i ≡ false
near n i l = grind (arith, nat_tests)

near_enough : (n i : ℕ) → nat_le n i ≡ false → i < n
near_enough n i e = grind (arith, nat_tests)

objects_only : (k : Kind) → not (is_objects k) ≡ false → k ≡ Objects
objects_only Objects e = refl
objects_only _ e = absurd cc

-- then it is an object array, and the index lies in it
pub element_passed : (i : ℕ) (k : Kind) (n : ℕ) → refused_by (element_tests i k n) ≡ Ok tt → (k ≡ Objects) × (i < n)
element_passed i k n is =
    let p = passed (element_tests i k n) is in (objects_only k p.1.0, near_enough n i p.1.1.0)
