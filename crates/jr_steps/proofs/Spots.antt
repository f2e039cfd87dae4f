-- Where the elements of an object stand that an unfinished move has begun.
use Rattle.std.proofs.Common.{◌≡◌, ◌≢◌, ◌<◌, ◌≤◌, ◌+◌, ◌&&◌, nat_lt, ℕ, Option, Some, None}
use Rattle.std.proofs.Common.{cond, eq-eqb, lt-ltb, le-ltb, ne_eqb, refl, ap, ◌∙◌, arith}
use Rattle.jr_steps.specs.declared.known.Move.{Move}
use Rattle.jr_steps.specs.Holdings.{move_of, HasDone}
use Rattle.jr_steps.specs.Says.{element_spot}

-- WHERE ELEMENTS STAND
pub spot_else : (o place n r p i : ℕ) → o ≢ r → element_spot (Some (move_of o place n)) r p i ≡ p + i
spot_else o place n r p i ne = ap (λ b. cond (b && nat_lt i n) (place + i) (p + i)) (ne_eqb o r ne)

pub spot_done : (o place n p i : ℕ) → i < n → element_spot (Some (move_of o place n)) o p i ≡ place + i
spot_done o place n p i l = ap (λ b. cond (b && nat_lt i n) (place + i) (p + i)) (eq-eqb o o refl)
    ∙ ap (λ b. cond b (place + i) (p + i)) (lt-ltb i n l)

pub spot_left : (o place n p i : ℕ) → n ≤ i → element_spot (Some (move_of o place n)) o p i ≡ p + i
spot_left o place n p i l = ap (λ b. cond (b && nat_lt i n) (place + i) (p + i)) (eq-eqb o o refl)
    ∙ ap (λ b. cond b (place + i) (p + i)) (le-ltb i n l)

-- the same of a move that has done so many, be it begun or not
pub at_else : (moving : Option Move) (o place n : ℕ) → HasDone moving o place n → (r p i : ℕ) → o ≢ r
    → element_spot moving r p i ≡ p + i
at_else None o place n d r p i ne = refl
at_else (Some m) o place n d r p i ne = ap (λ z. element_spot (Some z) r p i) d ∙ spot_else o place n r p i ne

pub at_done : (moving : Option Move) (o place n : ℕ) → HasDone moving o place n → (p i : ℕ) → i < n
    → element_spot moving o p i ≡ place + i
at_done None o place n d p i l = absurd (omega arith)
at_done (Some m) o place n d p i l = ap (λ z. element_spot (Some z) o p i) d ∙ spot_done o place n p i l

pub at_left : (moving : Option Move) (o place n : ℕ) → HasDone moving o place n → (p i : ℕ) → n ≤ i
    → element_spot moving o p i ≡ p + i
at_left None o place n d p i l = refl
at_left (Some m) o place n d p i l = ap (λ z. element_spot (Some z) o p i) d ∙ spot_left o place n p i l
