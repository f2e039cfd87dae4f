-- A place is taken out of its ring.
use Rattle.std.proofs.Common.{◌≡◌, ◌≢◌, ◌==◌, ◌<◌, ℕ, suc, Bool, true, false, not, cond}
use Rattle.std.proofs.Common.{List, [], ◌∷◌, ◌++◌, map, refl, sym, ap, subst, ◌∙◌, arith}
use Rattle.std.proofs.lemmas.Bool.{eqb-true, eqb-false}
use Rattle.linked_lists.specs.declared.links.Link.{Link}
use Rattle.linked_lists.specs.Links.{next_at, previous_at, IsJoined, Follow, AreRings}
use Rattle.linked_lists.specs.Lists.{without_number}
use Rattle.linked_lists.proofs.Times.{pick_self, pick_other, without_other}

module _ (old new : List Link) (p : ℕ) (joined : IsJoined old (previous_at old p) (next_at old p) new)
    (ahead : next_at old (previous_at old p) ≡ p) (behind : previous_at old (next_at old p) ≡ p) where
  kept : (x y : ℕ) → x ≢ p → y ≢ p → next_at old x ≡ y → previous_at old y ≡ x
      → (next_at new x ≡ y) × (previous_at new y ≡ x)
  kept x y xp yp n o = (
    joined.next x ∙ (pick_other x (previous_at old p) (next_at old p) (next_at old x)
        (λ e. yp (sym n ∙ (ap (next_at old) e ∙ ahead))) ∙ n),
    joined.previous y ∙ (pick_other y (next_at old p) (previous_at old p) (previous_at old y)
        (λ e. xp (sym o ∙ (ap (previous_at old) e ∙ behind))) ∙ o),
  )

  skipped : (x z : ℕ) → previous_at old p ≡ x → next_at old p ≡ z → (next_at new x ≡ z) × (previous_at new z ≡ x)
  skipped x z o n = (
    joined.next x ∙ (ap (λ k. cond (x == k) (next_at old p) (next_at old x)) o
        ∙ (pick_self x (next_at old p) (next_at old x) ∙ n)),
    joined.previous z ∙ (ap (λ k. cond (z == k) (previous_at old p) (previous_at old z)) n
        ∙ (pick_self z (previous_at old p) (previous_at old z) ∙ o)),
  )

  module _ (end : ℕ) (other : end ≢ p) where
    pub follow_without : (x : ℕ) (xs : List ℕ) → x ≢ p → Follow old x (xs ++ end ∷ [])
        → Follow new x (without_number p xs ++ end ∷ [])
    follow_without x [] xp f = let k = kept x end xp other f.0 f.1 in (k.0, k.1, tt)
    follow_without x (y ∷ []) xp f = go (y == p) refl
      where
        go : (b : Bool) → (y == p) ≡ b → Follow new x (cond (not b) (y ∷ []) [] ++ end ∷ [])
        go true e =
            let is : y ≡ p = eqb-true y p e in
            let k = skipped x end (ap (previous_at old) (sym is) ∙ f.1) (ap (next_at old) (sym is) ∙ f.2.0) in
            (k.0, k.1, tt)
        go false e =
            let yp = eqb-false y p e in
            let k = kept x y xp yp f.0 f.1 in
            let m = kept y end yp other f.2.0 f.2.1 in
            (k.0, k.1, (m.0, m.1, tt))
    follow_without x (y ∷ z ∷ zs) xp f = go (y == p) refl (follow_without y (z ∷ zs)) (follow_without z zs)
      where
        go : (b : Bool) → (y == p) ≡ b
            → (y ≢ p → Follow old y ((z ∷ zs) ++ end ∷ []) → Follow new y (without_number p (z ∷ zs) ++ end ∷ []))
            → (z ≢ p → Follow old z (zs ++ end ∷ []) → Follow new z (without_number p zs ++ end ∷ []))
            → Follow new x (cond (not b) (y ∷ without_number p (z ∷ zs)) (without_number p (z ∷ zs)) ++ end ∷ [])
        go true e rest later =
            let is : y ≡ p = eqb-true y p e in
            let back : previous_at old p ≡ x = ap (previous_at old) (sym is) ∙ f.1 in
            let zp : z ≢ p = λ same. xp (sym back ∙ (ap (previous_at old) (sym same) ∙ (f.2.1 ∙ is))) in
            let k = skipped x z back (ap (next_at old) (sym is) ∙ f.2.0) in
            subst (λ l. Follow new x (l ++ end ∷ [])) (sym (without_other p z zs zp)) (k.0, k.1, later zp f.2.2)
        go false e rest later =
            let yp = eqb-false y p e in
            let k = kept x y xp yp f.0 f.1 in
            (k.0, k.1, rest yp f.2)

  pub rings_without : (end : ℕ) (rs : List (List ℕ)) → p < end → AreRings old end rs
      → AreRings new end (map (without_number p) rs)
  rings_without end [] l r = tt
  rings_without end (xs ∷ rest) l r =
      let other : end ≢ p = λ e. absurd (omega arith) in
      (follow_without end other end xs other r.0, rings_without (suc end) rest (omega arith) r.1)
