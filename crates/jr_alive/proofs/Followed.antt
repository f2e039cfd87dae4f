-- The queue of a search is followed to its end.
use Rattle.std.proofs.Common.{◌≡◌, ◌≤◌, ◌<◌, ◌+◌, ℕ, Option, is_some, List, [], ◌∷◌, length, slice_index_or}
use Rattle.std.proofs.Common.{sym, ap, subst, ◌∙◌, arith}
use Rattle.std.proofs.lemmas.List.Sums.{count_by-le-length}
use mathlib.Core.Logic.{dite}
use native.Mathlib.Decide.{dec_lt}
use Rattle.jr_alive.specs.declared.dump.Dump.{Dump}
use Rattle.jr_alive.specs.declared.paths.Edge.{Edge}
use Rattle.jr_alive.specs.declared.search.Entry.{Entry}
use Rattle.jr_alive.specs.Graph.{Lead, IsEdge}
use Rattle.jr_alive.specs.Searching.{AreWithin, Grows, HasArrayElements, HasRoots, IsSearched, IsEntered}
use Rattle.jr_alive.specs.Searching.{IsSearching, depth_of}
use Rattle.jr_alive.proofs.Found.{depth_kept, found_kept}

-- what is named by each array of the queue before the next is found, and all are at most one edge behind that
pub record Following (d : Dump) (x next : ℕ) (es : List (Option Entry)) (q : List ℕ) : Type 0 where
  pub stands : IsSearching d x es q
  pub roots : HasRoots d x es
  pub past : (j : ℕ) → j < next → HasArrayElements d x (slice_index_or q j 0) es
  pub near : next < length q → AreWithin (depth_of es (slice_index_or q next 0) + 1) es
  pub few : AreWithin next es

module _ (d : Dump) (x next : ℕ) (es : List (Option Entry)) (q : List ℕ) (f : Following d x next es q) where
  -- there is an array next
  module _ (l : next < length q) (array : ℕ) (is : array ≡ slice_index_or q next 0) where
    pub array_found : IsEntered es array
    array_found = subst (IsEntered es) (sym is) (f.stands.found next l)

    module _ (es' : List (Option Entry)) (q' : List ℕ) (st : IsSearching d x es' q')
        (far : AreWithin (depth_of es array + 1) es') (g : Grows es q es' q')
        (named : (i o : ℕ) → IsEdge d x array i o → IsEntered es' o) where
      same_depth : depth_of es' array ≡ depth_of es array
      same_depth = depth_kept g array array_found

      here : HasArrayElements d x array es'
      here i o n = let s = same_depth in let w = far o in (named i o n, omega arith)

      there : (j : ℕ) → j < next → HasArrayElements d x (slice_index_or q j 0) es'
      there j less i o n =
          let z = f.past j less i o n in
          let a = depth_kept g o z.0 in
          let b = depth_kept g (slice_index_or q j 0) (f.stands.found j (omega arith)) in
          let m = z.1 in
          (found_kept g o z.0, omega arith)

      pub following_goes : Following d x (next + 1) es' q'
      following_goes = record {
        stands = st;
        roots = λ r o root is. let z = f.roots r o root is in let s = depth_kept g o z.0 in let m = z.1 in
            (found_kept g o z.0, omega arith);
        past = λ j less. dite (dec_lt j next)
            (λ before. subst (λ n. HasArrayElements d x n es') (sym (g.same j (omega arith))) (there j before))
            (λ not. subst (λ n. HasArrayElements d x n es')
            (is ∙ sym (ap (λ m. slice_index_or q' m 0) (let e : j ≡ next = omega arith in e) ∙ g.same next l)) here);
        near = λ more o.
            let w = far o in
            let s = same_depth in
            let a : depth_of es' (slice_index_or q' next 0) ≡ depth_of es' array =
            ap (depth_of es') (g.same next l ∙ sym is) in
            let t = st.sorted next (next + 1) (omega arith) more in
            omega arith;
        few = λ o. let w = far o in let a = f.few array in omega arith;
      }

  -- there is none
  module _ (all : length q ≤ next) where
    elements : (a : ℕ) → IsEntered es a → HasArrayElements d x a es
    elements a found =
        let z = f.stands.queued a found in
        let l = z.1 in
        subst (λ n. HasArrayElements d x n es) z.2 (f.past z.0 (omega arith))

    lead_on : (edges : List Edge) (a o n : ℕ) → IsEntered es a → depth_of es a ≤ n → Lead d x a edges o
        → IsEntered es o × (depth_of es o ≤ n + length edges)
    lead_on [] a o n found most same = (
      subst (IsEntered es) same found,
      let z : depth_of es o ≤ n =
          subst (λ m. depth_of es m ≤ n) same most in omega arith,
    )
    lead_on (s ∷ edges) a o n found most lead =
        let z = elements a found s.index s.object lead.0 in
        let m = z.1 in
        let w = lead_on edges s.object o (n + 1) z.0 (omega arith) lead.1 in
        let k = w.1 in
        (w.0, omega arith)

    pub following_ends : IsSearched d x es
    following_ends = record {
      wide = f.stands.wide;
      sound = f.stands.sound;
      nearest = λ r a edges o path.
          let z = f.roots r a path.root path.there in
          let w = lead_on edges a o 0 z.0 z.1 path.lead in
          let k = w.1 in
          (w.0, omega arith);
    }

-- the queue is no longer than there are entries
pub queue_few : (d : Dump) (x : ℕ) (es : List (Option Entry)) (q : List ℕ) → IsSearching d x es q → length q ≤ length es
queue_few d x es q st = let c = st.counted in let m = count_by-le-length is_some es in omega arith
