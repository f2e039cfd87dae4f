-- What is found is what is reached, and what an object retains.
use Rattle.std.proofs.Common.{◌≡◌, ◌↔◌, ◌+◌, ◌&&◌, ℕ, zero, suc, Bool, true, false, not}
use Rattle.std.proofs.Common.{Option, is_some, List, [], ◌∷◌, ◌++◌, refl, sym, subst, add-one, arith}
use Rattle.jr_model.specs.Maps.{sum_below}
use Rattle.jr_alive.specs.declared.dump.Dump.{Dump}
use Rattle.jr_alive.specs.declared.paths.Edge.{Edge}
use Rattle.jr_alive.specs.declared.search.Entry.{Entry}
use Rattle.jr_alive.specs.declared.search.Origin.{Origin}
use Rattle.jr_alive.specs.declared.search.Origin.TheVariants as origin
use Rattle.jr_alive.specs.Graph.{IsAlive, Lead, IsEdge}
use Rattle.jr_alive.specs.Searching.{ComesFrom, IsSearched, IsEntered, entry_at, goes_with}
use Rattle.jr_alive.proofs.Found.{some_is}

pub lead_snoc : (d : Dump) (x : ℕ) (edges : List Edge) (a b : ℕ) (s : Edge) → Lead d x a edges b
    → IsEdge d x b s.index s.object → Lead d x a (edges ++ s ∷ []) s.object
lead_snoc d x [] a b s same n = (subst (λ m. IsEdge d x m s.index s.object) (sym same) n, refl)
lead_snoc d x (t ∷ edges) a b s lead n = (lead.0, lead_snoc d x edges t.object b s lead.1 n)

module _ (d : Dump) (x : ℕ) (es : List (Option Entry)) (done : IsSearched d x es) where
  reached_from : (n o depth : ℕ) (from : Origin) → depth ≡ n → ComesFrom d x es o depth from → IsAlive d x o
  reached_from n o depth (origin.Root r) is c =
      (r, o, [], record { root = c.0; there = c.1; lead = refl })
  reached_from zero o depth (origin.Element a i) is c = absurd (let k = c.3 in omega arith)
  reached_from (suc n) o depth (origin.Element a i) is c =
      let e = c.0 in
      let k = c.3 in
      let z = reached_from n a e.depth e.origin (omega arith) (done.sound a e c.1) in
      let s : Edge = record { index = i; object = o } in
      let path = z.3 in (
        z.0,
        z.1,
        z.2 ++ s ∷ [],
        record {
          root = path.root;
          there = path.there;
          lead = lead_snoc d x z.2 z.1 a s path.lead c.2;
        },
      )

  pub reached_found : (o : ℕ) → IsEntered es o ↔ IsAlive d x o
  reached_found o = (
    λ f. let z = some_is (entry_at es o) f in
        let e = z.0 in reached_from e.depth o e.depth e.origin refl (done.sound o e z.1),
    λ z. (done.nearest z.0 z.1 z.2 o z.3).0,
  )

and_not : (a b : Bool) → ((a && not b) ≡ true) ↔ ((a ≡ true) × ¬ (b ≡ true))
and_not true true = (λ e. absurd cc, λ z. absurd (z.1 refl))
and_not true false = (λ e. (refl, λ f. absurd cc), λ z. refl)
and_not false b = (λ e. absurd cc, λ z. absurd (let e = z.0 in cc))

-- both searches are done: what the first found and not the second is what is retained
pub retained_exactly : (d : Dump) (x : ℕ) (all rest : List (Option Entry)) → IsSearched d 0 all → IsSearched d x rest
    → (o : ℕ) → (goes_with all rest o ≡ true) ↔ (IsAlive d 0 o × ¬ (IsAlive d x o))
retained_exactly d x all rest first second o =
    let a = reached_found d 0 all first o in
    let b = reached_found d x rest second o in
    let n = and_not (is_some (entry_at all o)) (is_some (entry_at rest o)) in (
      λ e. let z = n.0 e in (a.0 z.0, λ r. z.1 (b.1 r)),
      λ z. n.1 (a.1 z.0, λ f. z.1 (b.0 f)),
    )

sum_more : (n : ℕ) (f : ℕ → ℕ) → sum_below (n + 1) f ≡ sum_below n f + f n
unfolding sum_below
sum_more n f = rw add-one refl

-- one number more
pub sum_next : (n : ℕ) (f : ℕ → ℕ) (a b : ℕ) → a ≡ sum_below n f → b ≡ f n → a + b ≡ sum_below (n + 1) f
sum_next n f a b is here = let m = sum_more n f in omega arith

pub sum_none : (f : ℕ → ℕ) → sum_below 0 f ≡ 0
unfolding sum_below
sum_none f = refl
