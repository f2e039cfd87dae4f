-- The places of a frame are gone through until one would give a handle again.
use Rattle.std.proofs.Common.{◌≡◌, ◌==◌, ◌||◌, ◌<◌, ◌≤◌, ℕ, suc, Bool, true, false, nat_le, cond, Option, Some, None}
use Rattle.std.proofs.Common.{List, [], ◌∷◌, ◌++◌, length, refl, sym, ap, subst, ◌∙◌, arith}
use Rattle.std.proofs.lemmas.Bool.Decides.{nat_tests}
use Rattle.std.proofs.lemmas.List.{append_assoc}
use Rattle.std.specs.List.{concat}
use Rattle.linked_lists.specs.Lists.{Lists, all_numbers, first_listed, list_at, times}
use Rattle.linked_lists.proofs.Times.{not_first, pick_other, pick_self, times_append, times_here}
use Rattle.linked_lists.proofs.Shown.{times_at}
use Rattle.jr_frames.specs.declared.place.Place.{Place}
use Rattle.jr_frames.specs.Places.{given_of, place_at}
use Rattle.jr_frames.specs.Giving.{IsFrame, gives_again}

-- a list from a number on
abbrev pub from_number : ℕ → List ℕ → List ℕ
from_number p [] = []
from_number p (x ∷ xs) = cond (x == p) (x ∷ xs) (from_number p xs)

-- how many numbers of a list are left, from the next on
abbrev pub left_from : Option ℕ → List ℕ → ℕ
left_from None xs = 0
left_from (Some p) xs = length (from_number p xs)

found_behind : (p : ℕ) (done ys : List ℕ) → times p done ≡ 0 → from_number p (done ++ p ∷ ys) ≡ p ∷ ys
found_behind p [] ys none = pick_self p (p ∷ ys) _
found_behind p (x ∷ xs) ys none = let n = not_first p x xs none in
    pick_other x p (x ∷ xs ++ p ∷ ys) _ n.0 ∙ found_behind p xs ys n.1

-- what is left of a list to go through
pub record IsLeft (places : List Place) (last : ℕ) (all : List ℕ) (next : Option ℕ) : Type 0 where
  pub done : List ℕ
  pub rest : List ℕ
  pub parts : all ≡ done ++ rest
  pub at : next ≡ first_listed rest
  pub same : gives_again last places all ≡ gives_again last places rest

-- a number of it, and what stands behind
pub record IsAtNumber (places : List Place) (last : ℕ) (all : List ℕ) (p : ℕ) : Type 0 where
  pub done : List ℕ
  pub rest : List ℕ
  pub parts : all ≡ done ++ p ∷ rest
  pub same : gives_again last places all ≡ gives_again last places (p ∷ rest)

gives_here : (given last : ℕ) (rest : Bool) → given ≤ last → (nat_le given last || rest) ≡ true
gives_here given last rest l = ap (λ b. b || rest) (let e : nat_le given last ≡ true = grind (arith, nat_tests) in e)

gives_later : (given last : ℕ) (rest : Bool) → last < given → (nat_le given last || rest) ≡ rest
gives_later given last rest l = ap (λ b. b || rest) (let e : nat_le given last ≡ false = grind (arith, nat_tests) in e)

module _ {places : List Place} {last : ℕ} {all : List ℕ} where
  -- nothing is left at the end
  pub left_none : {next : Option ℕ} → IsLeft places last all next → next ≡ None → false ≡ gives_again last places all
  left_none {next} left e = sym (left.same ∙ ap (gives_again last places) (none left.rest (sym e ∙ left.at)))
    where
      none : (xs : List ℕ) → None ≡ first_listed xs → xs ≡ []
      none [] f = refl
      none (x ∷ xs) f = absurd cc

  pub left_at : {next : Option ℕ} → IsLeft places last all next → (p : ℕ) → next ≡ Some p
      → IsAtNumber places last all p
  left_at left p e = go left.rest refl (sym e ∙ left.at)
    where
      go : (xs : List ℕ) → left.rest ≡ xs → Some p ≡ first_listed xs → IsAtNumber places last all p
      go [] f g = absurd cc
      go (x ∷ xs) f g =
          let is : left.rest ≡ p ∷ xs = f ∙ ap (λ y. y ∷ xs) (let same : x ≡ p = cc in same) in record {
            done = left.done;
            rest = xs;
            parts = left.parts ∙ ap (λ l. left.done ++ l) is;
            same = left.same ∙ ap (gives_again last places) is;
          }

  module _ {p : ℕ} (here : IsAtNumber places last all p) where
    pub here_times : 1 ≤ times p all
    here_times =
        omega (arith, ap (times p) here.parts, times_append p here.done (p ∷ here.rest), times_here p here.rest)

    pub here_found : given_of (place_at places p) ≤ last → true ≡ gives_again last places all
    here_found l = sym (here.same ∙ gives_here _ last _ l)

    pub here_goes_on : {next : Option ℕ} → last < given_of (place_at places p) → next ≡ first_listed here.rest
        → IsLeft places last all next
    here_goes_on high e = record {
      done = here.done ++ p ∷ [];
      rest = here.rest;
      parts = here.parts ∙ sym (append_assoc here.done (p ∷ []) here.rest);
      at = e;
      same = here.same ∙ gives_later _ last _ high;
    }

    -- and less is left than before
    pub here_smaller : ((q : ℕ) → times q all ≤ 1) → (was next : Option ℕ) → was ≡ Some p
        → next ≡ first_listed here.rest
        → left_from next all < left_from was all
    here_smaller once was next is e =
        let now : length (from_number p all) ≡ suc (length here.rest) =
        ap length (behind p here.done here.rest here.parts) in
        subst (λ n. left_from next all < left_from n all) (sym is)
        (subst (λ n. left_from n all < left_from (Some p) all) (sym e) (go here.rest refl now))
      where
        behind : (q : ℕ) (done ys : List ℕ) → all ≡ done ++ q ∷ ys → from_number q all ≡ q ∷ ys
        behind q done ys f = ap (from_number q) f ∙ found_behind q done ys
            (omega (arith, once q, ap (times q) f, times_append q done (q ∷ ys), times_here q ys))

        go : (xs : List ℕ) → here.rest ≡ xs → length (from_number p all) ≡ suc (length here.rest)
            → left_from (first_listed xs) all < length (from_number p all)
        go [] f now = omega arith
        go (y ∷ ys) f now =
            let later : length (from_number y all) ≡ length (y ∷ ys) =
            ap length (behind y (here.done ++ p ∷ []) ys
            (here.parts ∙ ap (λ l. here.done ++ p ∷ l) f ∙ sym (append_assoc here.done (p ∷ []) (y ∷ ys)))) in
            let long : length here.rest ≡ length (y ∷ ys) = ap length f in
            omega arith

-- the numbers of a frame's list stand in the order
pub in_order : (order : Lists) (places k p : ℕ) → IsFrame order places k → 1 ≤ times p (list_at order.lists k)
    → 1 ≤ times p (all_numbers order)
in_order order places k p frame some =
    omega (arith, times_append p order.free (concat order.lists), times_at p k order.lists)
