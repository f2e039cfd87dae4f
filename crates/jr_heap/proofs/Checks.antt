-- What the tests at an element say.
use Rattle.std.proofs.Common.{◌≡◌, ◌<◌, ◌≤◌, ◌^◌, ℕ, true, false, nat_lt}
use Rattle.std.proofs.Common.{nat_le, refl, arith}
use Rattle.std.proofs.lemmas.Bool.{ltb-true}
use Rattle.std.proofs.lemmas.Bool.Decides.{nat_tests}
use Rattle.jr_word.specs.declared.kind.Kind.{Kind}
use Rattle.jr_word.specs.declared.kind.Kind.TheVariants.{Plain, Boolean, Byte, Char, Short, Int, Long, Objects, Text}
use Rattle.jr_model.specs.State.{State, IsWord}
use Rattle.jr_model.specs.Checks.{is_value}

pub beyond : (n i : ℕ) → n ≤ i → nat_le n i ≡ true
beyond n i l = grind (arith, nat_tests)

pub inside : (n i : ℕ) → i < n → nat_le n i ≡ false
inside n i l = grind (arith, nat_tests)

less : (v n : ℕ) → v < n → nat_lt v n ≡ true
less v n l = grind (arith, nat_tests)

-- a word of the kind, but for the object that it names
pub word_is : (s : State) (kind : Kind) (v : ℕ) → is_value kind v ≡ true → (kind ≡ Objects → IsWord s Objects v)
    → IsWord s kind v
word_is s Plain v e m = absurd cc
word_is s Boolean v e m = ltb-true v 2 e
word_is s Byte v e m = ltb-true v (2 ^ 8) e
word_is s Char v e m = ltb-true v (2 ^ 16) e
word_is s Short v e m = ltb-true v (2 ^ 16) e
word_is s Int v e m = ltb-true v (2 ^ 32) e
word_is s Long v e m = ltb-true v (2 ^ 64) e
word_is s Objects v e m = m refl
word_is s Text v e m = ltb-true v (2 ^ 16) e

-- a word of the kind has its bits
pub value_is : (s : State) (kind : Kind) (v : ℕ) → IsWord s kind v → is_value kind v ≡ true
value_is s Plain v w = absurd w
value_is s Boolean v w = less v 2 w
value_is s Byte v w = less v (2 ^ 8) w
value_is s Char v w = less v (2 ^ 16) w
value_is s Short v w = less v (2 ^ 16) w
value_is s Int v w = less v (2 ^ 32) w
value_is s Long v w = less v (2 ^ 64) w
value_is s Objects v w = refl
value_is s Text v w = less v (2 ^ 16) w
