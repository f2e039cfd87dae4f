-- Lists of marks, and of what was found.
use Rattle.std.proofs.Common.{◌⊎◌, ⊎_elim, inl, inr, ◌↔◌, nat_eq, take, replicate, Contains, ne_eqb, ◌≡◌, ◌≢◌, ◌+◌}
use Rattle.std.proofs.Common.{◌<◌, ◌≤◌, ℕ, zero, suc, Bool, true, false, List, [], ◌∷◌, length, get_or, slice_set}
use Rattle.std.proofs.Common.{refl, sym, ap, subst, ◌∙◌, arith, length-set, get_or-set_same, get_or-set_other}
use Rattle.std.specs.List.{IsDistinct}
use Rattle.std.proofs.lemmas.List.{get_or-take, get_or-replicate, length-replicate, length-take-le}
use Rattle.std.proofs.lemmas.Map.Keys.{IsDistinct-from_apart}
use Rattle.std.proofs.Math.ListN.{get_or-eq_default}
use Rattle.std.proofs.Math.Logic.{∥∥₁_elim}
use Rattle.std.proofs.Props.{props}
use mathlib.Core.Logic.{dite, ∥∥₁_map}
use native.Mathlib.Decide.{ℕ_discrete, dec_lt}
use Rattle.jr_weak.specs.Marks.{trues, IsMarked, IsQueue, IsBefore}

trues_most : (ms : List Bool) → trues ms ≤ length ms
unfolding trues
trues_most [] = omega arith
trues_most (true ∷ ms) = let r = trues_most ms in omega arith
trues_most (false ∷ ms) = let r = trues_most ms in omega arith

trues_set : (ms : List Bool) (o : ℕ) → o < length ms → get_or ms o false ≡ false
    → trues (slice_set ms o true) ≡ suc (trues ms)
unfolding trues
trues_set [] o l e = absurd (omega arith)
trues_set (true ∷ ms) zero l e = absurd cc
trues_set (false ∷ ms) zero l e = refl
trues_set (true ∷ ms) (suc o) l e = ap suc (trues_set ms o (omega arith) e)
trues_set (false ∷ ms) (suc o) l e = trues_set ms o (omega arith) e

trues_less : (ms : List Bool) → get_or ms 0 false ≡ false → 1 ≤ length ms → trues ms < length ms
unfolding trues
trues_less [] e l = absurd (omega arith)
trues_less (true ∷ ms) e l = absurd cc
trues_less (false ∷ ms) e l = let r = trues_most ms in omega arith

-- a mark that was set is set, and the others stay
pub marked_here : (ms : List Bool) (o : ℕ) → o < length ms → IsMarked (slice_set ms o true) o
marked_here ms o l = get_or-set_same ms o true false l

pub marked_more : (ms : List Bool) (o r : ℕ) → o < length ms → IsMarked ms r → IsMarked (slice_set ms o true) r
marked_more ms o r l m =
    dite (ℕ_discrete r o) (λ e. subst (IsMarked (slice_set ms o true)) (sym e) (marked_here ms o l)) (λ ne.
    get_or-set_other ms o r true false (λ e. ne e) ∙ m)

pub marked_less : (ms : List Bool) (o r : ℕ) → r ≢ o → IsMarked (slice_set ms o true) r → IsMarked ms r
marked_less ms o r ne m = sym (get_or-set_other ms o r true false (λ e. ne e)) ∙ m

module _ (ms : List Bool) (found : List ℕ) (count : ℕ) (q : IsQueue ms found count) (o : ℕ) (some : 1 ≤ o)
    (few : o ≤ length found) (unmarked : get_or ms o false ≡ false) where
  inside : o < length ms
  inside = let w = q.wide in omega arith

  still_none : get_or (slice_set ms o true) 0 false ≡ false
  still_none = get_or-set_other ms o 0 true false (λ e. absurd (omega arith)) ∙ q.none

  -- there is room for one more
  pub room : count < length found
  room =
      let w = q.wide in
      let n = q.counted in
      let long = length-set ms o true in
      let more = trues_set ms o inside unmarked in
      let less = trues_less (slice_set ms o true) still_none (omega arith) in omega arith

  at_end : get_or (slice_set found count o) count 0 ≡ o
  at_end = get_or-set_same found count o 0 room

  at_front : (i : ℕ) → i < count → get_or (slice_set found count o) i 0 ≡ get_or found i 0
  at_front i l = get_or-set_other found count i o 0 (λ e. absurd (omega arith))

  not_there : (i : ℕ) → i < count → get_or found i 0 ≢ o
  not_there i l e = let z = sym (ap (λ r. get_or ms r false) e ∙ unmarked) ∙ q.listed i l in cc

  pub queue_next : IsQueue (slice_set ms o true) (slice_set found count o) (count + 1)
  queue_next = record {
    wide = length-set ms o true ∙ (q.wide ∙ ap (λ n. n + 1) (sym (length-set found count o)));
    none = still_none;
    counted = let n = q.counted in let more = trues_set ms o inside unmarked in omega arith;
    listed = λ i l. dite (ℕ_discrete i count)
        (λ e. subst (IsMarked (slice_set ms o true)) (sym (ap (λ j. get_or (slice_set found count o) j 0) e ∙ at_end))
        (marked_here ms o inside))
        (λ ne. subst (IsMarked (slice_set ms o true)) (sym (at_front i (omega arith)))
        (marked_more ms o (get_or found i 0) inside (q.listed i (omega arith))));
    queued = λ r m. dite (ℕ_discrete r o)
        (λ e. ∣ (count, omega arith, at_end ∙ sym e) ∣₁)
        (λ ne. ∥∥₁_map (q.queued r (marked_less ms o r ne m)) (λ z. let l = z.1 in
        (z.0, omega arith, at_front z.0 l ∙ z.2)));
    once = λ i j l m e. dite (ℕ_discrete i count)
        (λ here. dite (ℕ_discrete j count) (λ there. here ∙ sym there)
        (λ ne. absurd (not_there j (omega arith) (sym (at_front j (omega arith))
        ∙ (sym e ∙ (ap (λ n. get_or (slice_set found count o) n 0) here ∙ at_end))))))
        (λ ne. dite (ℕ_discrete j count) (λ there. absurd (not_there i (omega arith) (sym (at_front i (omega arith))
        ∙ (e ∙ (ap (λ n. get_or (slice_set found count o) n 0) there ∙ at_end)))))
        (λ nj.
        q.once i j (omega arith) (omega arith) (sym (at_front i (omega arith)) ∙ (e ∙ at_front j (omega arith)))));
  }

pub same_default : {X : Type 0} (ms : List X) (i : ℕ) (b d : X) → i < length ms → get_or ms i b ≡ get_or ms i d
same_default [] i b d l = absurd (omega arith)
same_default (m ∷ ms) zero b d l = refl
same_default (m ∷ ms) (suc i) b d l = same_default ms i b d (omega arith)

-- what a look at a mark tells
pub not_marked : (ms : List Bool) (o at : ℕ) (b : Bool) → at ≡ o → o < length ms → b ≡ get_or ms at b → b ≡ false
    → get_or ms o false ≡ false
not_marked ms o at b e l is n = same_default ms o false b l ∙ (ap (λ z. get_or ms z b) (sym e) ∙ (sym is ∙ n))

-- a marked object has a mark
pub marked_few : (ms : List Bool) (o : ℕ) → IsMarked ms o → o < length ms
marked_few [] o m = absurd cc
marked_few (b ∷ ms) zero m = omega arith
marked_few (b ∷ ms) (suc o) m = let l = marked_few ms o m in omega arith

pub queue_few : (ms : List Bool) (found : List ℕ) (count : ℕ) → IsQueue ms found count → count ≤ length found
queue_few ms found count q = let w = q.wide in let n = q.counted in let l = trues_less ms q.none (omega arith) in
    omega arith

pub queue_number : (ms : List Bool) (found : List ℕ) (count o : ℕ) → IsQueue ms found count → IsMarked ms o
    → (1 ≤ o) × (o ≤ length found)
queue_number ms found count o q m = let w = q.wide in let l = marked_few ms o m in (some o m, omega arith)
  where
    some : (o : ℕ) → IsMarked ms o → 1 ≤ o
    some zero m = absurd (let z = sym q.none ∙ m in cc)
    some (suc o) m = omega arith

-- what was found stays
pub before_self : (n : ℕ) (f : List ℕ) → IsBefore n f n f
before_self n f = record { more = omega arith; same = λ i l. refl }

pub before_then : {n m l : ℕ} {f g h : List ℕ} → IsBefore n f m g → IsBefore m g l h → IsBefore n f l h
before_then p q = record {
  more = let a = p.more in let b = q.more in omega arith;
  same = λ i l. let a = p.more in q.same i (omega arith) ∙ p.same i l;
}

-- nothing is marked
pub none_marked : (n o : ℕ) → ¬ (IsMarked (replicate n false) o)
none_marked n o m = dite (dec_lt o n) (λ l. let z = sym (get_or-replicate n o false false l) ∙ m in cc) (λ ne.
    let long = length-replicate n false in
    let z = sym (get_or-eq_default (replicate n false) false {n = o} (omega arith)) ∙ m in cc)

trues_none : (n : ℕ) → trues (replicate n false) ≡ 0
unfolding trues
trues_none zero = refl
trues_none (suc n) = trues_none n

pub queue_none : (n : ℕ) (found : List ℕ) → n ≡ length found + 1 → IsQueue (replicate n false) found 0
queue_none n found e = record {
  wide = length-replicate n false ∙ e;
  none = get_or-replicate n 0 false false (omega arith);
  counted = sym (trues_none n);
  listed = λ i l. absurd (omega arith);
  queued = λ o m. absurd (none_marked n o m);
  once = λ i j l m same. absurd (omega arith);
}

-- where a number stands among the first ones, if it does
place_below : (found : List ℕ) (o n : ℕ)
    → ((i : ℕ) × (i < n) × (get_or found i 0 ≡ o)) ⊎ ((i : ℕ) → i < n → get_or found i 0 ≢ o)
place_below found o zero = inr (λ i l. absurd (omega arith))
place_below found o (suc n) = dite (ℕ_discrete (get_or found n 0) o) (λ e. inl (n, omega arith, e)) (λ ne.
    ⊎_elim (λ z. let l = z.1 in inl (z.0, omega arith, z.2)) (λ none. inr (λ i l e. dite (ℕ_discrete i n) (λ same.
    ne (ap (λ j. get_or found j 0) (sym same) ∙ e)) (λ other. none i (omega arith) e))) (place_below found o n))

pub queue_place : (ms : List Bool) (found : List ℕ) (count o : ℕ) → IsQueue ms found count → IsMarked ms o
    → (i : ℕ) × (i < count) × (get_or found i 0 ≡ o)
queue_place ms found count o q m = ⊎_elim (λ z. z)
    (λ none. absurd (∥∥₁_elim (q.queued o m) (hlevel props) (λ w. none w.0 w.1 w.2))) (place_below found o count)

-- what was found is the list of what is marked
module _ (ms : List Bool) (found : List ℕ) (count : ℕ) (q : IsQueue ms found count) where
  long : length (take count found) ≡ count
  long = length-take-le count found (queue_few ms found count q)

  pub found_each : (o : ℕ) → Contains (take count found) o ↔ IsMarked ms o
  found_each o = (
    λ c. let l = c.1 in let n = long in let inside : c.0 < count = omega arith in
        subst (IsMarked ms) (sym (get_or-take count found c.0 o inside) ∙ c.2) (subst (IsMarked ms)
        (same_default found c.0 0 o (let f = queue_few ms found count q in omega arith)) (q.listed c.0 inside)),
    λ m. let z = queue_place ms found count o q m in let l = z.1 in let n = long in (
      z.0,
      omega arith,
      get_or-take count found z.0 o l
          ∙ (same_default found z.0 o 0 (let f = queue_few ms found count q in omega arith) ∙ z.2),
    ),
  )

  pub found_once : IsDistinct nat_eq (take count found)
  found_once = IsDistinct-from_apart nat_eq (take count found) (λ i j d l m. let n = long in
      ne_eqb (get_or (take count found) i d) (get_or (take count found) j d) (λ e.
      let a = get_or-take count found i d (omega arith)
      ∙ same_default found i d 0 (let f = queue_few ms found count q in omega arith) in
      let b = get_or-take count found j d (omega arith)
      ∙ same_default found j d 0 (let f = queue_few ms found count q in omega arith) in
      let z = q.once i j (omega arith) (omega arith) (sym a ∙ (e ∙ b)) in absurd (omega arith)))

pub queue_empty : (marks : List Bool) (n : ℕ) (found : List ℕ) → marks ≡ replicate n false → n ≡ length found + 1
    → IsQueue marks found 0
queue_empty marks n found is e = subst (λ ms. IsQueue ms found 0) (sym is) (queue_none n found e)

pub empty_marks : (marks : List Bool) (n : ℕ) → marks ≡ replicate n false → (o : ℕ) → ¬ (IsMarked marks o)
empty_marks marks n is o m = none_marked n o (subst (λ ms. IsMarked ms o) is m)

pub listed_each : (ms : List Bool) (found : List ℕ) (count : ℕ) → IsQueue ms found count → (now : List ℕ) → now ≡ found
    → (o : ℕ) → Contains (take count now) o ↔ IsMarked ms o
listed_each ms found count q now is =
    subst (λ xs. (o : ℕ) → Contains (take count xs) o ↔ IsMarked ms o) (sym is) (found_each ms found count q)

pub listed_once : (ms : List Bool) (found : List ℕ) (count : ℕ) → IsQueue ms found count → (now : List ℕ) → now ≡ found
    → IsDistinct nat_eq (take count now)
listed_once ms found count q now is =
    subst (λ xs. IsDistinct nat_eq (take count xs)) (sym is) (found_once ms found count q)
