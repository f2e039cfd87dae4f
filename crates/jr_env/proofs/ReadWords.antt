-- Each word says something as a reference: nothing, the parts of a handle, or neither.
use Rattle.std.proofs.Common.{◌≡◌, ◌≢◌, ◌⊎◌, ⊎_elim, inl, inr, ◌^◌, ◌/◌, ◌%◌, ℕ, zero, suc, refl, arith}
use Rattle.std.proofs.lemmas.Grind.{common_steps}
use Rattle.std.proofs.lemmas.Bool.{cases_lt}
use Rattle.jr_word.specs.declared.handle.RefKind.{RefKind}
use Rattle.jr_word.specs.declared.handle.RefKind.TheVariants.{Local, Global, Weak}
use Rattle.jr_word.specs.Handle.{handle_word, owner_limit, reference_code, IsHandle}
use Rattle.jr_model.specs.State.{Handle}
use Rattle.jr_model.specs.Checks.{Word, Nothing, Malformed, Parts}
use Rattle.jr_frames.specs.Reading.{IsReadAs}

-- what the bits of a word say, if they are a handle's of this kind
abbrev bits_of : RefKind → ℕ → Handle
bits_of k w = record { kind = k; serial = w / 4 % 2 ^ 32; index = w / 2 ^ 34 % 2 ^ 16; owner = w / 2 ^ 50 }

-- the word is that of a handle, or of none
abbrev IsOfHandle : ℕ → Type 0
IsOfHandle w = ((h : Handle) × IsHandle h × (w ≡ handle_word h)) ⊎ ((h : Handle) → IsHandle h → w ≢ handle_word h)

of_kind : (k : RefKind) (w : ℕ) → w % 4 ≡ reference_code k → IsOfHandle w
of_kind k w is = ⊎_elim
    (λ low. inl (bits_of k w, record { serial = omega arith; index = omega arith; owner = low }, omega arith))
    (λ high. inr (λ h of same. grind (arith, common_steps))) (cases_lt (w / 2 ^ 50) (owner_limit k))

of_handle : (w c : ℕ) → w % 4 ≡ c → IsOfHandle w
of_handle w zero is = inr (λ h of same. grind (arith, common_steps))
of_handle w (suc zero) is = of_kind Local w is
of_handle w (suc (suc zero)) is = of_kind Global w is
of_handle w (suc (suc (suc zero))) is = of_kind Weak w is
of_handle w (suc (suc (suc (suc c)))) is = absurd (omega arith)

read_as : (w : ℕ) → IsOfHandle w → (w ≡ 0) ⊎ (w ≢ 0) → (a : Word) × IsReadAs w a
read_as w (inl found) null = (Parts found.0, (found.1, found.2))
read_as w (inr none) (inl is) = (Nothing, is)
read_as w (inr none) (inr other) = (Malformed, (other, none))

-- what a word says
pub read : (w : ℕ) → (a : Word) × IsReadAs w a
read w = read_as w (of_handle w (w % 4) refl) (is_zero w)
  where
    is_zero : (n : ℕ) → (n ≡ 0) ⊎ (n ≢ 0)
    is_zero zero = inl refl
    is_zero (suc n) = inr (λ e. cc)
