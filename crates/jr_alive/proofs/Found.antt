-- What lists of entries say, and what an object's header says of its number.
use Rattle.std.proofs.Common.{◌≡◌, ◌≢◌, ◌≤◌, ◌<◌, ◌-◌, ◌||◌, ◌==◌, ℕ, zero, suc, Bool, true, false, if◌then◌else◌}
use Rattle.std.proofs.Common.{Option, Some, None, IsSome, is_some, List, [], ◌∷◌, length, slice_index_or, refl}
use Rattle.std.proofs.Common.{sym, ap, ◌∙◌, arith}
use Rattle.std.proofs.lemmas.Bool.Decides.{nat_tests}
use Rattle.jr_alive.specs.declared.dump.Dump.{Dump}
use Rattle.jr_alive.specs.declared.search.Entry.{Entry}
use Rattle.jr_alive.specs.declared.search.Origin.{Origin}
use Rattle.jr_alive.specs.declared.search.Origin.TheVariants as origin
use Rattle.jr_alive.specs.Graph.{IsInDump}
use Rattle.jr_alive.specs.Searching.{ComesFrom, Grows, IsEntered, depth_in, depth_of, entry_at}

-- what is there stands within the list
pub some_inside : {A : Type 0} (xs : List (Option A)) (i : ℕ) → IsSome (slice_index_or xs i None) → i < length xs
some_inside [] i t = absurd cc
some_inside (x ∷ xs) zero t = omega arith
some_inside (x ∷ xs) (suc i) t = let l = some_inside xs i t in omega arith

pub some_is : {A : Type 0} (o : Option A) → IsSome o → (x : A) × (o ≡ Some x)
some_is None t = absurd cc
some_is (Some x) t = (x, refl)

pub is_some_of : {A : Type 0} (o : Option A) (x : A) → o ≡ Some x → IsSome o
is_some_of o x is = ap is_some is

-- what a test of the library says
pub none_from : {A : Type 0} (o : Option A) (b : Bool) → b ≡ is_some o → b ≡ false → o ≡ None
none_from None b is not = refl
none_from (Some x) b is not = absurd (let z = sym is ∙ not in cc)

pub unless_none : {A : Type 0} (b : Bool) (v : Option A) → IsSome (if b then None else v) → (b ≡ false) × IsSome v
unless_none true v t = absurd cc
unless_none false v t = (refl, t)

-- an object that is there has a number from 1 on, within the headers, and isn't the one that is taken out
pub there_inside : (d : Dump) (x o : ℕ) → IsInDump d x o → (1 ≤ o) × (o ≤ length d.headers.items) × (o ≢ x)
there_inside d x o t =
    let z = unless_none ((o == 0) || (o == x)) (slice_index_or d.headers.items (o - 1) None) t in
    let e = z.0 in
    let some : 1 ≤ o = grind (arith, nat_tests) in
    let other : o ≢ x = grind (arith, nat_tests) in
    let l = some_inside d.headers.items (o - 1) z.1 in
    (some, omega arith, other)

-- an entry that was found says how far the object is
pub depth_is : (es : List (Option Entry)) (o : ℕ) (e : Entry) → entry_at es o ≡ Some e → depth_of es o ≡ e.depth
depth_is es o e is = ap depth_in is

-- what is named from entries that stay is so still
pub comes_kept : (d : Dump) (x : ℕ) (es es' : List (Option Entry))
    → ((o : ℕ) (e : Entry) → entry_at es o ≡ Some e → entry_at es' o ≡ Some e)
    → (o n : ℕ) (from : Origin) → ComesFrom d x es o n from → ComesFrom d x es' o n from
comes_kept d x es es' kept o n (origin.Root r) c = c
comes_kept d x es es' kept o n (origin.Element a i) c = (c.0, kept a c.0 c.1, c.2, c.3)

-- what was found stays
pub found_kept : {es es' : List (Option Entry)} {q q' : List ℕ} → Grows es q es' q' → (o : ℕ) → IsEntered es o
    → IsEntered es' o
found_kept {es} {es'} g o f =
    let z = some_is (entry_at es o) f in is_some_of (entry_at es' o) z.0 (g.kept o z.0 z.1)

pub depth_kept : {es es' : List (Option Entry)} {q q' : List ℕ} → Grows es q es' q' → (o : ℕ) → IsEntered es o
    → depth_of es' o ≡ depth_of es o
depth_kept {es} {es'} g o f =
    let z = some_is (entry_at es o) f in ap depth_in (g.kept o z.0 z.1) ∙ sym (ap depth_in z.1)

pub grows_then : {es es' es'' : List (Option Entry)} {q q' q'' : List ℕ} → Grows es q es' q' → Grows es' q' es'' q''
    → Grows es q es'' q''
grows_then g h = record {
  more = let a = g.more in let b = h.more in omega arith;
  kept = λ o e is. h.kept o e (g.kept o e is);
  same = λ i l. let a = g.more in h.same i (omega arith) ∙ g.same i l;
}
