-- The objects that an array names are found.
use Rattle.std.proofs.Common.{◌≡◌, ◌≤◌, ◌<◌, ◌+◌, ℕ, Option, Some, None, List, length}
use Rattle.std.proofs.Common.{sym, ap, subst, ◌∙◌, arith}
use mathlib.Core.Logic.{dite}
use native.Mathlib.Decide.{dec_lt}
use Rattle.jr_word.specs.declared.header.HeaderParts.{HeaderParts}
use Rattle.jr_alive.specs.declared.dump.Dump.{Dump}
use Rattle.jr_alive.specs.declared.search.Entry.{Entry}
use Rattle.jr_alive.specs.Graph.{IsInDump, IsEdge, noted_header, noted_word}
use Rattle.jr_alive.specs.Searching.{AreWithin, Grows, IsEntered, IsSearching}
use Rattle.jr_alive.proofs.Found.{found_kept, grows_then, there_inside}

-- the objects that the first n elements of an array name are found, since there was this
pub record ElementsTo (d : Dump) (x a n most : ℕ) (old : List (Option Entry)) (before : List ℕ)
    (es : List (Option Entry)) (q : List ℕ) : Type 0 where
  pub stands : IsSearching d x es q
  pub far : AreWithin most es
  pub grows : Grows old before es q
  pub found : (i o : ℕ) → i < n → IsEdge d x a i o → IsEntered es o

pub one_header : {d : Dump} {x a i o : ℕ} (h : HeaderParts) → noted_header d x a ≡ Some h → (n : IsEdge d x a i o)
    → n.header ≡ h
one_header h is n = let z = sym n.array ∙ is in cc

module _ {d : Dump} {x a n most : ℕ} {old : List (Option Entry)} {before : List ℕ} {es : List
    (Option Entry)} {q : List ℕ}
    (g : ElementsTo d x a n most old before es q) (h : HeaderParts) (is : noted_header d x a ≡ Some h) where
  -- the element there names no object
  pub elements_skip : length d.headers.items ≤ 65535
      → (named : Option ℕ) → (1 ≤ noted_word d h n → noted_word d h n ≤ 65535 → named ≡ Some (noted_word d h n))
      → named ≡ None
      → ElementsTo d x a (n + 1) most old before es q
  elements_skip few named all none = record {
    stands = g.stands;
    far = g.far;
    grows = g.grows;
    found = λ i o l m. dite (dec_lt i n) (λ less. g.found i o less m) (λ not.
        let same = one_header h is m in
        let at : i ≡ n = omega arith in
        let word : noted_word d h n ≡ o = ap (λ k. noted_word d k n) (sym same)
        ∙ (ap (noted_word d m.header) (sym at) ∙ m.word) in
        let t = there_inside d x o m.named in
        let some = t.0 in
        let most = t.1 in
        absurd (let z = sym none ∙ all (omega arith) (omega arith) in cc));
  }

  -- the object that it names is found
  pub elements_take : (o : ℕ) → o ≡ noted_word d h n → (es' : List (Option Entry)) (q' : List ℕ)
      → IsSearching d x es' q'
      → AreWithin most es' → Grows es q es' q' → (IsInDump d x o → IsEntered es' o)
      → ElementsTo d x a (n + 1) most old before es' q'
  elements_take o names es' q' st far grows found = record {
    stands = st;
    far = far;
    grows = grows_then g.grows grows;
    found = λ i r l m. dite (dec_lt i n) (λ less. found_kept grows r (g.found i r less m)) (λ not.
        let here = one_header h is m in
        let at : i ≡ n = omega arith in
        let same : o ≡ r = names ∙ (ap (λ k. noted_word d k n) (sym here) ∙ (ap (noted_word d m.header) (sym at)
        ∙ m.word)) in
        subst (IsEntered es') same (found (subst (IsInDump d x) (sym same) m.named)));
  }

  -- all are found
  pub elements_all : h.length ≤ n → (i o : ℕ) → IsEdge d x a i o → IsEntered es o
  elements_all all i o m =
      let same = ap (λ (k : HeaderParts). k.length) (one_header h is m) in
      let l = m.inside in g.found i o (omega arith) m
