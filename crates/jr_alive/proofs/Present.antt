-- The numbers of the objects that a dump has, one number more.
use Rattle.std.proofs.Common.{◌≡◌, ◌+◌, ℕ, true, false, if◌then◌else◌, None, is_some, List, [], ◌∷◌, ◌++◌}
use Rattle.std.proofs.Common.{slice_index_or, refl, sym, ap, ◌∙◌, add-one}
use Rattle.std.proofs.lemmas.List.{append-nil}
use Rattle.jr_alive.specs.declared.dump.Dump.{Dump}
use Rattle.jr_alive.specs.Groups.{present_to}

pub present_none : (d : Dump) → present_to d 0 ≡ []
unfolding present_to
present_none d = refl

present_more : (d : Dump) (n : ℕ)
    → present_to d (n + 1) ≡ present_to d n ++ (if is_some (slice_index_or d.headers.items n None)
    then (n + 1) ∷ [] else [])
unfolding present_to
present_more d n = ap (present_to d) (add-one n)

pub present_take : (d : Dump) (n : ℕ) (xs : List ℕ) → xs ≡ present_to d n
    → is_some (slice_index_or d.headers.items n None) ≡ true → xs ++ (n + 1) ∷ [] ≡ present_to d (n + 1)
present_take d n xs is there =
    ap (λ ys. ys ++ (n + 1) ∷ []) is ∙ (ap (λ b. present_to d n ++ (if b then (n + 1) ∷ [] else [])) (sym there)
    ∙ sym (present_more d n))

pub present_skip : (d : Dump) (n : ℕ) (xs : List ℕ) → xs ≡ present_to d n
    → is_some (slice_index_or d.headers.items n None) ≡ false → xs ≡ present_to d (n + 1)
present_skip d n xs is not =
    is ∙ (sym (append-nil (present_to d n)) ∙ (ap (λ b. present_to d n ++ (if b then (n + 1) ∷ [] else [])) (sym not)
    ∙ sym (present_more d n)))
