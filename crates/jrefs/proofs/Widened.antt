-- What a word of the earlier layout is today, as a line.
use Rattle.std.proofs.Common.{◌≡◌, ◌≢◌, ◌≤◌, inl, inr, ℕ, false, Option, Some}
use Rattle.std.proofs.Common.{None, [], ◌∷◌, ◌++◌, codes, refl, sym, subst, arith}
use Rattle.std.specs.Fmt.{digits}
use Rattle.jr_word.specs.declared.handle.RefKind.{RefKind}
use Rattle.jr_word.specs.declared.handle.RefKind.TheVariants.{Local, Global, Weak}
use Rattle.jr_word.specs.declared.handle.HandleParts.{HandleParts}
use Rattle.jr_word.specs.Handle.{handle_word, reference_code}
use Rattle.jr_word.specs.Narrow.{Widens}
use Rattle.jrefs.specs.Describe.{SaysWidened, no_reference, no_handle, widened}

some_code : (k : RefKind) → 1 ≤ reference_code k
some_code Local = omega arith
some_code Global = omega arith
some_code Weak = omega arith

-- the word of a handle is not 0
no_zero : (h : HandleParts) → handle_word h ≢ 0
no_zero h e = let some = some_code h.kind in omega arith

pub says_null : (w : ℕ) → Widens w 0 → SaysWidened w (codes "null" ++ 10 ∷ [])
says_null w (inl e) = no_reference e.0
says_null w (inr h) = absurd (no_zero h.0 (sym h.3))

pub says_word : (w wide : ℕ) → wide ≢ 0 → Widens w wide → SaysWidened w (digits 16 false wide ++ 10 ∷ [])
says_word w wide some (inl e) = absurd (some e.1)
says_word w wide some (inr h) =
    subst (λ (n : ℕ). SaysWidened w (digits 16 false n ++ 10 ∷ [])) (sym h.3) (widened h.0 h.1 h.2)

pub says_invalid : (w : ℕ) (r : Option ℕ) → r ≡ None → ((wide : ℕ) → Widens w wide → r ≡ Some wide)
    → SaysWidened w (codes "invalid" ++ 10 ∷ [])
says_invalid w r none complete = no_handle (λ e. let found = complete 0 (inl (e, refl)) in cc) (λ h is e.
    let found = complete (handle_word h) (inr (h, is, e, refl)) in cc)
