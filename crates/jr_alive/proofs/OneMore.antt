-- One object more is found.
use Rattle.std.proofs.Common.{◌≡◌, ◌≢◌, ◌≤◌, ◌<◌, ◌+◌, ℕ, Option, Some, None, IsSome, is_some, List, [], ◌∷◌}
use Rattle.std.proofs.Common.{◌++◌, length}
use Rattle.std.proofs.Common.{slice_index_or, slice_set, cond, count_by, refl, sym, ap, subst, ◌∙◌, add-zero, arith}
use Rattle.std.proofs.lemmas.List.{length-set, get_or-set_same, get_or-set_other, get_or_append_left}
use Rattle.std.proofs.lemmas.List.{get_or_push, length_push}
use Rattle.std.proofs.lemmas.List.Sums.{sum_by-set}
use mathlib.Core.Logic.{dite}
use native.Mathlib.Decide.{ℕ_discrete, dec_lt}
use Rattle.jr_alive.specs.declared.dump.Dump.{Dump}
use Rattle.jr_alive.specs.declared.search.Entry.{Entry}
use Rattle.jr_alive.specs.Graph.{IsInDump}
use Rattle.jr_alive.specs.Searching.{AreWithin, ComesFrom, Grows, IsEntered, IsSearching, depth_in, depth_of, entry_at}
use Rattle.jr_alive.proofs.Found.{comes_kept, is_some_of, some_is, there_inside}

module _ (d : Dump) (x : ℕ) (es : List (Option Entry)) (q : List ℕ) (st : IsSearching d x es q) (o : ℕ) (e : Entry)
    (there : IsInDump d x o) (new : entry_at es o ≡ None) (far : AreWithin e.depth es)
    (from : ComesFrom d x es o e.depth e.origin) where
  abbrev now : List (Option Entry)
  now = slice_set es o (Some e)

  abbrev queue : List ℕ
  queue = q ++ o ∷ []

  pub inside : o < length es
  inside = let w = st.wide in let t = there_inside d x o there in let l = t.1 in omega arith

  here : entry_at now o ≡ Some e
  here = get_or-set_same es o (Some e) None inside

  other : (r : ℕ) → r ≢ o → entry_at now r ≡ entry_at es r
  other r ne = get_or-set_other es o r (Some e) None ne

  apart : (r : ℕ) → IsEntered es r → r ≢ o
  apart r f is = let z = sym f ∙ ap (λ n. is_some (entry_at es n)) is ∙ ap is_some new in cc

  kept : (r : ℕ) (f : Entry) → entry_at es r ≡ Some f → entry_at now r ≡ Some f
  kept r f is = other r (apart r (is_some_of (entry_at es r) f is)) ∙ is

  depth_here : depth_of now o ≡ e.depth
  depth_here = ap depth_in here

  depth_other : (r : ℕ) → IsEntered es r → depth_of now r ≡ depth_of es r
  depth_other r f = ap depth_in (other r (apart r f))

  -- the new one is the farthest
  pub within : AreWithin e.depth now
  within r = dite (ℕ_discrete r o) (λ is. let z : depth_of now r ≡ e.depth = ap (depth_of now) is
      ∙ depth_here in omega arith)
      (λ ne. let z : depth_of now r ≡ depth_of es r = ap depth_in (other r ne) in let f = far r in omega arith)

  pub found_here : IsEntered now o
  found_here = is_some_of (entry_at now o) e here

  long : length queue ≡ length q + 1
  long = length_push q o

  front : (i : ℕ) → i < length q → slice_index_or queue i 0 ≡ slice_index_or q i 0
  front i l = get_or_append_left q (o ∷ []) 0 i l

  back : (i : ℕ) → length q ≡ i → slice_index_or queue i 0 ≡ o
  back i is = get_or_push q o 0 i is

  counted : count_by is_some now ≡ length queue
  counted =
      let one : Option Entry → ℕ = λ y. cond (is_some y) 1 0 in
      let s : count_by is_some now + one (entry_at es o) ≡ count_by is_some es + 1 =
      sum_by-set one es o (Some e) None inside in
      let s' : count_by is_some now + 0 ≡ count_by is_some es + 1 =
      subst (λ (y : Option Entry). count_by is_some now + one y ≡ count_by is_some es + 1) new s in
      let c = st.counted in
      let l = long in
      let z : count_by is_some now ≡ count_by is_some es + 1 = sym (add-zero (count_by is_some now)) ∙ s' in
      z ∙ (ap (λ n. n + 1) c ∙ sym l)

  pub grows : Grows es q now queue
  grows = record { more = let l = long in omega arith; kept = kept; same = front }

  found_at : (i : ℕ) → i < length queue → IsEntered now (slice_index_or queue i 0)
  found_at i l = let n = long in dite (dec_lt i (length q))
      (λ less.
      let f = some_is (entry_at es (slice_index_or q i 0)) (st.found i less) in
      subst (IsEntered now) (sym (front i less)) (is_some_of (entry_at now (slice_index_or q i 0)) f.0 (kept
      (slice_index_or q i 0) f.0 f.1)))
      (λ not. subst (IsEntered now) (sym (back i (omega arith))) found_here)

  queued : (r : ℕ) → IsEntered now r → (i : ℕ) × (i < length queue) × (slice_index_or queue i 0 ≡ r)
  queued r f = let n = long in dite (ℕ_discrete r o)
      (λ is. (length q, omega arith, back (length q) refl ∙ sym is))
      (λ ne. let z = st.queued r (subst IsSome (other r ne) f) in let l = z.1 in (z.0, omega arith, front z.0 l ∙ z.2))

  sound : (r : ℕ) (f : Entry) → entry_at now r ≡ Some f → ComesFrom d x now r f.depth f.origin
  sound r f is = dite (ℕ_discrete r o)
      (λ at.
      let same : e ≡ f = let z = sym here ∙ (ap (entry_at now) (sym at) ∙ is) in cc in
      subst (λ n. ComesFrom d x now n f.depth f.origin) (sym at)
      (subst (λ (g : Entry). ComesFrom d x now o g.depth g.origin) same
      (comes_kept d x es now kept o e.depth e.origin from)))
      (λ ne. comes_kept d x es now kept r f.depth f.origin (st.sound r f (sym (other r ne) ∙ is)))

  depth_front : (i : ℕ) → i < length q → depth_of now (slice_index_or queue i 0) ≡ depth_of es (slice_index_or q i 0)
  depth_front i l = ap (depth_of now) (front i l) ∙ depth_other (slice_index_or q i 0) (st.found i l)

  sorted : (i j : ℕ) → i ≤ j → j < length queue
      → depth_of now (slice_index_or queue i 0) ≤ depth_of now (slice_index_or queue j 0)
  sorted i j le l = let n = long in dite (dec_lt j (length q))
      (λ less. let a = depth_front i (omega arith) in let b = depth_front j less in
      let s = st.sorted i j le less in omega arith)
      (λ not.
      let b : depth_of now (slice_index_or queue j 0) ≡ e.depth = ap (depth_of now) (back j (omega arith))
      ∙ depth_here in
      let w = within (slice_index_or queue i 0) in omega arith)

  pub stands : IsSearching d x now queue
  stands = record {
    wide = length-set es o (Some e) ∙ st.wide;
    counted = counted;
    found = found_at;
    queued = queued;
    sound = sound;
    sorted = sorted;
  }
