-- The objects of roots are found.
use Rattle.std.proofs.Common.{◌≡◌, ◌≢◌, ◌<◌, ◌+◌, ◌*◌, ℕ, Option, List}
use Rattle.std.proofs.Common.{slice_index_or, sym, ap, subst, ◌∙◌, arith}
use mathlib.Core.Logic.{dite}
use native.Mathlib.Decide.{dec_lt}
use Rattle.jr_word.specs.declared.local.LocalParts.{LocalParts}
use Rattle.jr_word.specs.declared.local.LocalParts.TheVariants as local
use Rattle.jr_alive.specs.declared.dump.Dump.{Dump}
use Rattle.jr_alive.specs.declared.search.Root.TheVariants as root
use Rattle.jr_alive.specs.declared.search.Entry.{Entry}
use Rattle.jr_alive.specs.Graph.{IsRoot, IsInDump}
use Rattle.jr_alive.specs.Searching.{AreWithin, Grows, HasRoots, IsEntered, IsSearching}
use Rattle.jr_alive.proofs.Found.{found_kept, grows_then}

-- the objects of the global references of the first n slots are found
pub record GlobalsTo (d : Dump) (x n : ℕ) (es : List (Option Entry)) (q : List ℕ) : Type 0 where
  pub stands : IsSearching d x es q
  pub near : AreWithin 0 es
  pub found : (i serial o : ℕ) → i < n → IsRoot d (root.Global i serial) o → IsInDump d x o → IsEntered es o

-- the objects of the local references of the first n places are found, since there was this
pub record LocalsTo (d : Dump) (x n : ℕ) (old : List (Option Entry)) (before : List ℕ) (es : List (Option Entry))
    (q : List ℕ) : Type 0 where
  pub stands : IsSearching d x es q
  pub near : AreWithin 0 es
  pub grows : Grows old before es q
  pub found : (t p o : ℕ) → t * d.places + p < n → IsRoot d (root.Local t p) o → IsInDump d x o → IsEntered es o

module _ {d : Dump} {x n : ℕ} {old : List (Option Entry)} {before : List ℕ} {es : List (Option Entry)} {q : List ℕ}
    (g : LocalsTo d x n old before es q) (parts : LocalParts)
    (is : parts ≡ slice_index_or d.locals.items n local.Free) where
  pub locals_skip : ((o : ℕ) → parts ≢ local.Object o) → LocalsTo d x (n + 1) old before es q
  locals_skip none = record {
    stands = g.stands;
    near = g.near;
    grows = g.grows;
    found = λ t p o l root there. dite (dec_lt (t * d.places + p) n) (λ less. g.found t p o less root there)
        (λ not. absurd (none o (is ∙ (ap (λ j. slice_index_or d.locals.items j local.Free)
        (let e : n ≡ t * d.places + p = omega arith in e) ∙ root.1))));
  }

  pub locals_take : (o : ℕ) → parts ≡ local.Object o → (es' : List (Option Entry)) (q' : List ℕ)
      → IsSearching d x es' q' → AreWithin 0 es' → Grows es q es' q' → (IsInDump d x o → IsEntered es' o)
      → LocalsTo d x (n + 1) old before es' q'
  locals_take o names es' q' st near grows found = record {
    stands = st;
    near = near;
    grows = grows_then g.grows grows;
    found = λ t p r l root there. dite (dec_lt (t * d.places + p) n)
        (λ less. found_kept grows r (g.found t p r less root there)) (λ not.
        let same : o ≡ r =
        let z = sym names ∙ (is ∙ (ap (λ j. slice_index_or d.locals.items j local.Free)
        (let e : n ≡ t * d.places + p = omega arith in e) ∙ root.1)) in cc in
        subst (IsEntered es') same (found (subst (IsInDump d x) (sym same) there)));
  }

-- both kinds of roots
pub roots_all : (d : Dump) (x : ℕ) (es : List (Option Entry)) → AreWithin 0 es
    → ((i serial o : ℕ) → IsRoot d (root.Global i serial) o → IsInDump d x o → IsEntered es o)
    → ((t p o : ℕ) → IsRoot d (root.Local t p) o → IsInDump d x o → IsEntered es o) → HasRoots d x es
roots_all d x es near globals locals (root.Global i serial) o is there = (globals i serial o is there, near o)
roots_all d x es near globals locals (root.Local t p) o is there = (locals t p o is there, near o)
