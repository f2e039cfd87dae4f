-- The places of threads, and what stands there once they have ended.
use Rattle.std.proofs.Common.{◌≡◌, ◌≤◌, ◌<◌, ◌∙◌, ℕ, suc, Bool, Option, Some, None, List, [], ◌∷◌, ◌++◌}
use Rattle.std.proofs.Common.{length, length-append, map, get_or, ap, subst, sym, refl, append_assoc, arith}
use Rattle.std.specs.List.{All, AllByRecursion}
use Rattle.std.proofs.lemmas.List.Elements.{All-from_recursion}
use Rattle.std.proofs.lemmas.List.{append-nil, length-map}
use mathlib.Core.List.{map-append}
use Rattle.jr_rule.specs.declared.pass.Pass.{Pass}
use Rattle.jr_rule.specs.declared.row.Row.{Row}
use Rattle.jr_rule.specs.Passes.{IsOpened}
use Rattle.jr_env.specs.Deeds.{Deed}
use Rattle.jr_threads.specs.declared.native.Ended.{Ended}
use Rattle.jr_threads.specs.declared.native.Place.{Place}
use Rattle.jr_threads.specs.Sites.{answers_in, ended_by, ended_in, passes_in, waiting_at, PlaceRan}
use Rattle.jr_threads.specs.Sites.{ThreadRan, ThreadsRan, PlacesRan, HasStopped, IsWaiting}

-- where the threads of all places have ended, place by place
pub all_ended : {A : Type 0} (tells : A → Bool) (deed : ℕ → Deed A) (r : Row) (xs ys : List (Place A))
    → length ys ≡ length xs
    → ((i : ℕ) (d : Place A) → i < length xs → PlaceRan tells deed r (get_or xs i d) (get_or ys i d))
    → PlacesRan tells deed r xs ys
all_ended tells deed r [] [] same each = tt
all_ended tells deed r [] (y ∷ ys) same each = absurd (omega arith)
all_ended tells deed r (x ∷ xs) [] same each = absurd (omega arith)
all_ended tells deed r (x ∷ xs) (y ∷ ys) same each =
    (each 0 x (omega arith), all_ended tells deed r xs ys (omega arith) (λ i d l. each (suc i) d (omega arith)))

-- passes that were opened wait at their places
pub all_wait : {A : Type 0} (r : Row) (ps : List Pass) → All (IsOpened r) ps
    → All (λ (p : Place A). IsWaiting r p) (map waiting_at ps)
all_wait {A} r ps opened =
    All-from_recursion (λ (p : Place A). IsWaiting r p) (map waiting_at ps) (each ps opened) where
      each : (qs : List Pass) → All (IsOpened r) qs
          → AllByRecursion (λ (p : Place A). IsWaiting r p) (map waiting_at qs)
      each [] o = tt
      each (q ∷ qs) o =
          (record { pass = q; is = refl; opened = o 0 q (omega arith) }, each qs (λ i d l. o (suc i) d (omega arith)))

module _ {A : Type 0} (tells : A → Bool) (deed : ℕ → Deed A) (r : Row) where
  -- they are over
  pub all_over : (xs ys : List (Place A)) → PlacesRan tells deed r xs ys → All (λ (p : Place A). HasStopped p) ys
  all_over xs ys ended = All-from_recursion (λ (p : Place A). HasStopped p) ys (each xs ys ended) where
    each : (xs ys : List (Place A)) → PlacesRan tells deed r xs ys → AllByRecursion (λ (p : Place A). HasStopped p) ys
    each [] [] e = tt
    each [] (y ∷ ys) e = absurd e
    each (x ∷ xs) [] e = absurd e
    each (x ∷ xs) (y ∷ ys) e = (record { ended = (e.0).ended; is = (e.0).is }, each xs ys e.1)

  one_ran : (p : Pass) (ps : List Pass) (q : Place A) (es : List (Ended A)) → PlaceRan tells deed r (waiting_at p) q
      → ThreadsRan tells deed r ps es → ThreadsRan tells deed r (p ∷ ps) (ended_by q.ended es)
  one_ran p ps q es h rest = subst (λ (o : Option (Ended A)). ThreadsRan tells deed r (p ∷ ps) (ended_by o es))
      (sym h.is) (subst (λ (z : Pass). ThreadRan tells deed r z h.ended) (sym same) h.ran, rest) where
        same : p ≡ h.pass
        same = let w = h.was in cc

  -- and have run, each with the pass that waited there
  pub all_ran : (ps : List Pass) (ys : List (Place A)) → PlacesRan tells deed r (map waiting_at ps) ys
      → ThreadsRan tells deed r ps (ended_in ys)
  all_ran [] [] e = tt
  all_ran [] (y ∷ ys) e = absurd e
  all_ran (p ∷ ps) [] e = absurd e
  all_ran (p ∷ ps) (y ∷ ys) e = one_ran p ps y (ended_in ys) e.0 (all_ran ps ys e.1)

-- one place more
pub ended_more : {A : Type 0} (ps : List (Place A)) (p : Place A) (e : Ended A) → p.ended ≡ Some e
    → ended_in (ps ++ p ∷ []) ≡ ended_in ps ++ e ∷ []
ended_more [] p e is = ap (λ o. ended_by o []) is
ended_more {A} (q ∷ ps) p e is = go (ended_in (ps ++ p ∷ [])) (ended_in ps) q.ended (ended_more ps p e is) where
  go : (xs ys : List (Ended A)) (o : Option (Ended A)) → xs ≡ ys ++ e ∷ [] → ended_by o xs ≡ ended_by o ys ++ e ∷ []
  go xs ys None is = is
  go xs ys (Some f) is = ap (λ l. f ∷ l) is

module _ {A : Type 0} (ps : List (Place A)) (p : Place A) (e : Ended A) (is : p.ended ≡ Some e) where
  pub answers_more : (xs ys : List A) → xs ≡ answers_in (ended_in ps) → ys ≡ xs ++ e.answer ∷ []
      → ys ≡ answers_in (ended_in (ps ++ p ∷ []))
  answers_more xs ys was more =
      more ∙ (ap (λ l. l ++ e.answer ∷ []) was ∙ (sym (map-append (λ (z : Ended A). z.answer) (ended_in ps) (e ∷ []))
      ∙ ap answers_in (sym (ended_more ps p e is))))

  pub passes_more : (xs ys : List Pass) → xs ≡ passes_in (ended_in ps) → ys ≡ xs ++ e.pass ∷ []
      → ys ≡ passes_in (ended_in (ps ++ p ∷ []))
  passes_more xs ys was more = more ∙ (ap (λ l. l ++ e.pass ∷ []) was
      ∙ (sym (map-append (λ (z : Ended A). z.pass) (ended_in ps) (e ∷ [])) ∙ ap passes_in (sym (ended_more ps p e is))))

-- a list that goes on with one more is longer
pub some_rest : {X : Type 0} (all xs ys : List X) (x : X) → all ≡ xs ++ x ∷ ys → length xs < length all
some_rest all xs ys x is = let long = ap (λ l. length l) is in let sum = length-append xs (x ∷ ys) in omega arith

-- one more of a list is taken, and fewer are left
pub one_on : {X : Type 0} (all xs rest ys : List X) (x : X) → all ≡ xs ++ rest → rest ≡ x ∷ ys
    → all ≡ (xs ++ x ∷ []) ++ ys
one_on all xs rest ys x is more = is ∙ (ap (λ l. xs ++ l) more ∙ sym (append_assoc xs (x ∷ []) ys))

-- one thread more waits
pub wait_more : {A : Type 0} (ps : List Pass) (p : Pass) (xs ys : List (Place A)) → xs ≡ map waiting_at ps
    → ys ≡ xs ++ waiting_at p ∷ [] → ys ≡ map waiting_at (ps ++ p ∷ [])
wait_more ps p xs ys was is = is ∙ (ap (λ l. l ++ waiting_at p ∷ []) was ∙ sym (map-append waiting_at ps (p ∷ [])))

-- as many wait as there are passes
pub as_many : {A : Type 0} (ps : List Pass) (xs : List (Place A)) → xs ≡ map waiting_at ps → length xs ≡ length ps
as_many ps xs is = ap (λ l. length l) is ∙ length-map ps waiting_at

-- and at the end none is left
pub none_on : {X : Type 0} (all xs rest : List X) → all ≡ xs ++ rest → length rest ≡ 0 → all ≡ xs
none_on all xs [] is none = is ∙ append-nil xs
none_on all xs (y ∷ ys) is none = absurd (omega arith)

-- there is as much room still
pub still_room : (n before after : ℕ) → after ≡ before → n ≤ before → n ≤ after
still_room n before after same enough = subst (λ m. n ≤ m) (sym same) enough
