-- The path back from an object to its root.
use Rattle.std.proofs.Common.{◌≡◌, ◌+◌, ℕ, Option, Some, None, is_some, List, [], ◌∷◌, ◌++◌, length}
use Rattle.std.proofs.Common.{sym, ap, subst, ◌∙◌, arith}
use Rattle.std.proofs.lemmas.List.{reverse-append, length_push}
use mathlib.Core.List.{reverse}
use Rattle.jr_alive.specs.declared.dump.Dump.{Dump}
use Rattle.jr_alive.specs.declared.paths.Edge.{Edge}
use Rattle.jr_alive.specs.declared.search.Entry.{Entry}
use Rattle.jr_alive.specs.declared.search.Origin.TheVariants as origin
use Rattle.jr_alive.specs.Graph.{IsAlive, Lead}
use Rattle.jr_alive.specs.Searching.{ComesFrom, IsSearched, IsEntered, depth_of, entry_at}
use Rattle.jr_alive.proofs.Found.{depth_is, is_some_of}

-- the edges lead back from the object to the one that the walk is at, and no other path is shorter
pub record Walking (d : Dump) (x : ℕ) (es : List (Option Entry)) (o at : ℕ) (edges : List Edge) : Type 0 where
  pub lead : Lead d x at (reverse edges) o
  pub long : length edges + depth_of es at ≡ depth_of es o
  pub found : IsEntered es o → IsEntered es at

module _ (d : Dump) (x : ℕ) (es : List (Option Entry)) (o at : ℕ) (edges : List Edge) (done : IsSearched d x es)
    (w : Walking d x es o at edges) where
  -- nothing is found there
  pub walk_fails : entry_at es at ≡ None → ¬ (IsAlive d x o)
  walk_fails none reached =
      let f = (done.nearest reached.0 reached.1 reached.2 o reached.3).0 in
      let z = sym (w.found f) ∙ ap is_some none in cc

  module _ (e : Entry) (is : entry_at es at ≡ Some e) where
    -- an array names it
    module _ (a i : ℕ) (from : e.origin ≡ origin.Element a i) where
      named : ComesFrom d x es at e.depth (origin.Element a i)
      named = subst (λ z. ComesFrom d x es at e.depth z) from (done.sound at e is)

      pub walk_nearer : depth_of es at ≡ depth_of es a + 1
      walk_nearer = let n = named in let m = n.3 in let k = depth_is es a n.0 n.1 in
          let j = depth_is es at e is in omega arith

      abbrev edge : Edge
      edge = record { index = i; object = at }

      pub walk_goes : Walking d x es o a (edges ++ edge ∷ [])
      walk_goes = record {
        lead = subst (λ ss. Lead d x a ss o) (sym (reverse-append edges (edge ∷ []))) (named.2, w.lead);
        long = let l = length_push edges edge in let n = walk_nearer in let m = w.long in omega arith;
        found = λ f. let n = named in is_some_of (entry_at es a) n.0 n.1;
      }
