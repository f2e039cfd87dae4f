-- Calls at copied elements.
use Rattle.std.proofs.Common.{◌≡◌, ◌<◌, ℕ, Bool, true, false, nat_le, List, []}
use Rattle.std.proofs.Common.{length, map, slice_set, Ok, inl, refl, ap, arith}
use Rattle.std.proofs.lemmas.Bool.Decides.{nat_tests}
use Rattle.std.proofs.lemmas.List.{length-map, map-set}
use Rattle.jr_word.specs.declared.fault.Fault.{Fault}
use Rattle.jr_word.specs.declared.fault.Fault.TheVariants.{Range}
use Rattle.jr_model.specs.Frames.{Frames}
use Rattle.jr_model.specs.Calls.{refuse_if}
use Rattle.jr_model.specs.Parts.{elements_set}
use Rattle.jr_elements.specs.Copies.{AnswersAs}

-- a test that fails lets the call pass
lets_pass : (b : Bool) (e : Fault) (f : Frames) → b ≡ false → refuse_if b e f [] (Ok tt) f
lets_pass false e f is = (refl, refl, refl)
lets_pass true e f is = absurd cc

not_beyond : (m n : ℕ) → n < m → nat_le m n ≡ false
not_beyond m n l = grind (arith, nat_tests)

-- an element within is set
pub sets_word : {E : Type 0} (word : E → ℕ) (es : List E) (i : ℕ) (x : E) → i < length es
    → AnswersAs (elements_set (map word es) i (word x)) (Ok (map word (slice_set es i x)))
sets_word word es i x inside f =
    let long = length-map es word in
    inl (
      tt,
      f,
      [],
      [],
      refl,
      lets_pass (nat_le (length (map word es)) i) Range f (not_beyond (length (map word es)) i (omega arith)),
      (refl, ap (λ ws. Ok ws) (map-set word es i x), refl),
    )
