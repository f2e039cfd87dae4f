-- The levels of a region by their names, and all but the last of them.
use Rattle.std.proofs.Common.{◌≡◌, ◌∙◌, ◌+◌, ◌-◌, ◌<◌, ◌++◌, Ok, ◌∷◌, [], ℕ, zero, suc, Bool, true, false}
use Rattle.std.proofs.Common.{Option, Some, None, List, length, map, take, get_or, ap, sym, subst, refl, arith}
use Rattle.std.specs.Prelude.{slice_index_or}
use Rattle.std.specs.Str.{bytes_eq}
use Rattle.std.proofs.lemmas.List.{length-take-le}
use Rattle.std.proofs.Math.Seq.{take-suc}
use Rattle.jr_critical.specs.declared.level.Level.{Level}
use Rattle.jr_critical.specs.declared.levels.Levels.{Levels}
use Rattle.jr_critical.specs.Levels.{level_object, objects_of}
use Rattle.jr_world.specs.World.{all_but_last}
use Rattle.jr_scripts.specs.Places.{level_wanted, newest, nth_object, or_newer}

-- the last level is meant where it has the name, and else one before it
abbrev last_or : Bool → ℕ → Option ℕ → Option ℕ
last_or true n before = Some n
last_or false n before = before

newest_more : (ls : List (List ℕ)) (l n : List ℕ)
    → newest (ls ++ l ∷ []) n ≡ last_or (bytes_eq l n) (length ls) (newest ls n)
newest_more [] l n = one (bytes_eq l n)
  where
    one : (b : Bool) → or_newer b None ≡ last_or b 0 None
    one true = refl
    one false = refl
newest_more (x ∷ ls) l n = ap (or_newer (bytes_eq x n)) (newest_more ls l n) ∙ more (bytes_eq l n)
  where
    more : (b : Bool) → or_newer (bytes_eq x n) (last_or b (length ls) (newest ls n))
        ≡ last_or b (suc (length ls)) (or_newer (bytes_eq x n) (newest ls n))
    more true = refl
    more false = refl

module _ (items : List (List ℕ)) (i : ℕ) (l n : List ℕ) (small : i < length items) (here : get_or items i l ≡ l) where
  one_more : newest (take (i + 1) items) n ≡ last_or (bytes_eq l n) i (newest (take i items) n)
  one_more =
      let next : i + 1 ≡ suc i = omega arith in
      ap (λ m. newest (take m items) n) next
      ∙ (ap (λ ls. newest ls n) (take-suc items i l small ∙ ap (λ x. take i items ++ x ∷ []) here)
      ∙ (newest_more (take i items) l n
      ∙ ap (λ m. last_or (bytes_eq l n) m (newest (take i items) n)) (length-take-le i items (omega arith))))

  pub newest_found : bytes_eq l n ≡ true → Some i ≡ newest (take (i + 1) items) n
  newest_found is = sym (one_more ∙ ap (λ b. last_or b i (newest (take i items) n)) is)

  pub newest_kept : (found : Option ℕ) → bytes_eq l n ≡ false → found ≡ newest (take i items) n
      → found ≡ newest (take (i + 1) items) n
  newest_kept found is before = before ∙ sym (one_more ∙ ap (λ b. last_or b i (newest (take i items) n)) is)

-- the object of a level
object_in : (xs : List Level) (d : Level) (i : ℕ) → d.object ≡ 0
    → slice_index_or (map (λ (x : Level). x.object) xs) i 0 ≡ (slice_index_or xs i d).object
object_in [] d i none = sym none
object_in (x ∷ xs) d zero none = refl
object_in (x ∷ xs) d (suc i) none = object_in xs d i none

pub object_of_level : (v : Levels) (i : ℕ) → nth_object (objects_of v) i ≡ level_object v i
object_of_level v i = object_in v.levels.items _ i refl

-- all but the last
pub before_last : {A : Type 0} (xs : List A) (x : A) → all_but_last (xs ++ x ∷ []) ≡ xs
before_last [] x = refl
before_last (y ∷ []) x = refl
before_last (y ∷ z ∷ zs) x = ap (λ l. y ∷ l) (before_last (z ∷ zs) x)

pub but_last_taken : {A : Type 0} (xs : List A) → take (length xs - 1) xs ≡ all_but_last xs
but_last_taken [] = refl
but_last_taken (x ∷ []) = refl
but_last_taken {A} (x ∷ y ∷ ys) =
    let inner : length (x ∷ y ∷ ys) - 1 ≡ suc (length (y ∷ ys) - 1) = omega arith in
    ap (λ n. take n (x ∷ y ∷ ys)) inner ∙ ap (λ l. x ∷ l) (but_last_taken (y ∷ ys))

pub objects_before : (v w : Levels) (l : Level) → v.levels.items ≡ w.levels.items ++ l ∷ []
    → objects_of w ≡ all_but_last (objects_of v)
objects_before v w l is = sym (ap (λ ls. all_but_last (map (λ (x : Level). x.object) ls)) is
    ∙ (ap all_but_last (map_more w.levels.items) ∙ before_last (objects_of w) l.object))
  where
    map_more : (xs : List Level)
        → map (λ (x : Level). x.object) (xs ++ l ∷ []) ≡ map (λ (x : Level). x.object) xs ++ l.object ∷ []
    map_more [] = refl
    map_more (x ∷ xs) = ap (λ r. x.object ∷ r) (map_more xs)

-- a level that is meant stands
newer_fits : (b : Bool) (o : Option ℕ) (n i : ℕ) → ((j : ℕ) → o ≡ Some j → j < n) → or_newer b o ≡ Some i → i < suc n
newer_fits b (Some j) n i before is = let l = before j refl in let e : suc j ≡ i = cc in omega arith
newer_fits true None n i before is = let e : 0 ≡ i = cc in omega arith
newer_fits false None n i before is = absurd cc

newest_fits : (ls : List (List ℕ)) (n : List ℕ) (i : ℕ) → newest ls n ≡ Some i → i < length ls
newest_fits [] n i is = absurd cc
newest_fits (l ∷ ls) n i is = newer_fits (bytes_eq l n) (newest ls n) (length ls) i (newest_fits ls n) is

pub level_fits : (ls : List (List ℕ)) (n : List ℕ) (i m : ℕ) → length ls ≡ m → level_wanted (newest ls n) ≡ Ok i → i < m
level_fits ls n i m long is = subst (λ k. i < k) long (newest_fits ls n i (found (newest ls n) is))
  where
    found : (o : Option ℕ) → level_wanted o ≡ Ok i → o ≡ Some i
    found None is = absurd cc
    found (Some j) is = let e : j ≡ i = cc in ap (λ (k : ℕ). Some k) e
