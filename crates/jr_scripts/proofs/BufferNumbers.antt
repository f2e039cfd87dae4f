-- Numbers in copied elements.
use Rattle.std.proofs.Common.{◌≡◌, ◌∙◌, ◌<◌, ◌≤◌, ℕ, ℤ, true, false, nat_lt, List, length, map}
use Rattle.std.proofs.Common.{slice_set, Result, Ok, Err, OnOk, IfOk, IfErr, cond, ap, sym, arith}
use Rattle.std.proofs.lemmas.Bool.Decides.{nat_tests}
use Rattle.std.proofs.lemmas.List.{length-map, map-set}
use Rattle.jr_word.specs.declared.fault.Fault.{Fault}
use Rattle.jr_word.specs.declared.fault.Fault.TheVariants.{Range}
use Rattle.jr_word.specs.declared.kind.Kind.{Kind}
use Rattle.jr_scripts.specs.Buffers.{copied_as, copy_of, with_number, with_word_if}
use Rattle.jr_scripts.specs.Numbers.{word_of_number}

is_within : (m n : ℕ) → n < m → nat_lt n m ≡ true
is_within m n l = grind (arith, nat_tests)

is_beyond : (m n : ℕ) → m ≤ n → nat_lt n m ≡ false
is_beyond m n l = grind (arith, nat_tests)

module _ {V : Type 0} (k : Kind) (word_of : V → ℕ) (values new : List V) (i : ℕ) (number : ℤ) where
  module _ (x : V) (word : word_of_number k number ≡ Ok (word_of x)) where
    puts : (long : length (map word_of values) ≡ length values) → i < length values
        → with_number (copied_as k word_of values) i number ≡ Ok (copied_as k word_of (slice_set values i x))
    puts long l =
        ap (with_word_if (copied_as k word_of values) i) word
        ∙ (ap (λ b. cond b (Ok (copy_of k (slice_set (map word_of values) i (word_of x)))) (Err Range))
        (is_within (length (map word_of values)) i (omega arith))
        ∙ ap (λ ws. Ok (copy_of k ws)) (sym (map-set word_of values i x)))

    beyond : (long : length (map word_of values) ≡ length values) → length values ≤ i
        → with_number (copied_as k word_of values) i number ≡ Err Range
    beyond long l =
        ap (with_word_if (copied_as k word_of values) i) word
        ∙ ap (λ b. cond b (Ok (copy_of k (slice_set (map word_of values) i (word_of x)))) (Err Range)) (is_beyond
        (length (map word_of values)) i (omega arith))

    -- the element that a number is was set
    pub put_ok : (r : Result (Unit {0}) Fault) → IfOk r (λ _. (i < length values) × (new ≡ slice_set values i x))
        → OnOk r (with_number (copied_as k word_of values) i number ≡ Ok (copied_as k word_of new))
    put_ok (Ok u) set = puts (length-map values word_of) set.0 ∙ ap (λ vs. Ok (copied_as k word_of vs)) (sym set.1)
    put_ok (Err e) set = tt

    -- or there is none at the index
    pub put_err : (r : Result (Unit {0}) Fault) → IfErr r (λ e. (length values ≤ i) × (e ≡ Range) × (new ≡ values))
        → IfErr r (λ e. (with_number (copied_as k word_of values) i number ≡ Err e) × (new ≡ values))
    put_err (Ok u) set = tt
    put_err (Err e) set = (beyond (length-map values word_of) set.0 ∙ ap (λ (x : Fault). Err x) (sym set.1), set.2)
