-- A number is put between two others that stand beside each other: last in a ring, or first.
use Rattle.std.proofs.Common.{◌≡◌, ◌≢◌, ◌==◌, ◌+◌, ◌<◌, ◌≤◌, ℕ, suc, cond, List, [], ◌∷◌, ◌++◌, length, sym, ap}
use Rattle.std.proofs.Common.{subst, ◌∙◌, arith}
use Rattle.std.specs.List.{AllByRecursion, concat}
use Rattle.linked_lists.specs.Lists.{times, with_end}
use Rattle.linked_lists.specs.declared.links.Link.{Link}
use Rattle.linked_lists.specs.Links.{next_at, previous_at, IsJoined, Follow, AreRings}
use Rattle.linked_lists.proofs.Times.{pick_self, pick_other, not_first, none_left, none_right}
use Rattle.linked_lists.proofs.Following.{follow_pairs}

-- neither of two numbers
abbrev pub IsNeither : ℕ → ℕ → ℕ → Type 0
IsNeither p end y = (y ≢ p) × (y ≢ end)

all_neither : (p end : ℕ) (xs : List ℕ) (last : ℕ) → times p xs ≡ 0 → times end xs ≡ 0 → IsNeither p end last
    → AllByRecursion (IsNeither p end) (xs ++ last ∷ [])
all_neither p end [] last none away l = (l, tt)
all_neither p end (x ∷ xs) last none away l =
    let a = not_first p x xs none in
    let b = not_first end x xs away in
    ((a.0, b.0), all_neither p end xs last a.1 b.1 l)

-- p was put between two that stood beside each other
pub record IsPut (old : List Link) (before p after : ℕ) (new : List Link) : Type 0 where
  pub mid : List Link
  pub first : IsJoined old before p mid
  pub second : IsJoined mid p after new
  pub ahead : next_at old before ≡ after
  pub behind : previous_at old after ≡ before

module _ {old new : List Link} {before p after : ℕ} (put : IsPut old before p after new) where
  new_next : (q : ℕ) → next_at new q ≡ cond (q == p) after (cond (q == before) p (next_at old q))
  new_next q = put.second.next q ∙ ap (λ n. cond (q == p) after n) (put.first.next q)

  new_previous : (q : ℕ) → previous_at new q ≡ cond (q == after) p (cond (q == p) before (previous_at old q))
  new_previous q = put.second.previous q ∙ ap (λ n. cond (q == after) p n) (put.first.previous q)

  kept : (x y : ℕ) → x ≢ p → y ≢ p → x ≢ before → next_at old x ≡ y → previous_at old y ≡ x
      → (next_at new x ≡ y) × (previous_at new y ≡ x)
  kept x y xp yp xb n o = (
    new_next x ∙ (pick_other x p after _ xp ∙ (pick_other x before p (next_at old x) xb ∙ n)),
    new_previous y ∙ (pick_other y after p _ (λ e. xb (sym o ∙ (ap (previous_at old) e ∙ put.behind)))
        ∙ (pick_other y p before (previous_at old y) yp ∙ o)),
  )

  kept_before : (x y : ℕ) → x ≢ p → y ≢ p → y ≢ after → next_at old x ≡ y → previous_at old y ≡ x
      → (next_at new x ≡ y) × (previous_at new y ≡ x)
  kept_before x y xp yp ya n o = kept x y xp yp (λ e. ya (sym n ∙ (ap (next_at old) e ∙ put.ahead))) n o

  now_before : before ≢ p → after ≢ p → (next_at new before ≡ p) × (previous_at new p ≡ before)
  now_before bp other = (
    new_next before ∙ (pick_other before p after _ bp ∙ pick_self before p (next_at old before)),
    new_previous p ∙ (pick_other p after p _ (λ e. other (sym e)) ∙ pick_self p before (previous_at old p)),
  )

  now_after : (next_at new p ≡ after) × (previous_at new after ≡ p)
  now_after = (new_next p ∙ pick_self p after _, new_previous after ∙ pick_self after p _)

  -- LAST: after is the end

  follow_put : after ≢ p → (x : ℕ) (xs : List ℕ) → x ≢ p → times p xs ≡ 0 → times after xs ≡ 0
      → Follow old x (xs ++ after ∷ [])
      → Follow new x ((xs ++ p ∷ []) ++ after ∷ [])
  follow_put other x [] xp none away f =
      let same : before ≡ x = sym put.behind ∙ f.1 in
      let now = now_before (λ e. xp (sym same ∙ e)) other in
      (subst (λ k. next_at new k ≡ p) same now.0, now.1 ∙ same, (now_after.0, now_after.1, tt))
  follow_put other x (y ∷ ys) xp none away f =
      let a = not_first p y ys none in
      let b = not_first after y ys away in
      let k = kept_before x y xp a.0 b.0 f.0 f.1 in
      (k.0, k.1, follow_put other y ys a.0 a.1 b.1 f.2)

  -- the ring of an end other than this one stays as it is
  follow_other : (end first : ℕ) (xs : List ℕ) → IsNeither p end first → times p xs ≡ 0 → times end xs ≡ 0
      → ((x y : ℕ) → IsNeither p end x → IsNeither p end y → next_at old x ≡ y → previous_at old y ≡ x
      → (next_at new x ≡ y) × (previous_at new y ≡ x))
      → Follow old first (xs ++ first ∷ []) → Follow new first (xs ++ first ∷ [])
  follow_other end first xs here none away keeps =
      follow_pairs old new (IsNeither p end) keeps first (xs ++ first ∷ []) here
      (all_neither p end xs first none away here)

  pub rings_last : (first : ℕ) (rs : List (List ℕ)) → p < first → suc after ≡ first + length rs
      → times p (concat rs) ≡ 0 → ((q : ℕ) → first ≤ q → times q (concat rs) ≡ 0) → AreRings old first rs
      → AreRings new first (with_end rs p)
  rings_last first [] l e none away r = tt
  rings_last first (x ∷ []) l e none away r =
      let same : after ≡ first = omega arith in (
        subst (λ n. Follow new n ((x ++ p ∷ []) ++ n ∷ [])) same
            (follow_put (λ f. absurd (omega arith)) after x (λ f. absurd (omega arith)) (none_left p x [] none)
            (none_left after x [] (away after (omega arith)))
            (subst (λ n. Follow old n (x ++ n ∷ [])) (sym same) r.0)),
        tt,
      )
  rings_last first (x ∷ y ∷ xs) l e none away r = (
    follow_other after first x (λ f. absurd (omega arith), λ f. absurd (omega arith))
        (none_left p x (concat (y ∷ xs)) none) (none_left after x (concat (y ∷ xs)) (away after (omega arith)))
        (λ u v a b. kept_before u v a.0 b.0 b.1) r.0,
    rings_last (suc first) (y ∷ xs) (omega arith) (omega arith) (none_right p x (concat (y ∷ xs)) none)
        (λ q g. none_right q x (concat (y ∷ xs)) (away q (omega arith))) r.1,
  )

  -- FIRST: before is the end

  follow_on : before ≢ p → (x : ℕ) (xs : List ℕ) → x ≢ p → x ≢ before → times p xs ≡ 0 → times before xs ≡ 0
      → Follow old x (xs ++ before ∷ []) → Follow new x (xs ++ before ∷ [])
  follow_on other x [] xp xb none away f = let k = kept x before xp other xb f.0 f.1 in (k.0, k.1, tt)
  follow_on other x (y ∷ ys) xp xb none away f =
      let a = not_first p y ys none in
      let b = not_first before y ys away in
      let k = kept x y xp a.0 xb f.0 f.1 in
      (k.0, k.1, follow_on other y ys a.0 b.0 a.1 b.1 f.2)

  pub follow_first : before ≢ p → (xs : List ℕ) → times p xs ≡ 0 → times before xs ≡ 0
      → Follow old before (xs ++ before ∷ [])
      → Follow new before ((p ∷ xs) ++ before ∷ [])
  follow_first other [] none away f =
      let same : after ≡ before = sym put.ahead ∙ f.0 in
      let now = now_before other (λ e. other (sym same ∙ e)) in (
        now.0,
        now.1,
        (now_after.0 ∙ same, subst (λ k. previous_at new k ≡ p) same now_after.1, tt),
      )
  follow_first other (y ∷ ys) none away f =
      let a = not_first p y ys none in
      let b = not_first before y ys away in
      let same : after ≡ y = sym put.ahead ∙ f.0 in
      let now = now_before other (λ e. a.0 (sym same ∙ e)) in (
        now.0,
        now.1,
        (
          now_after.0 ∙ same,
          subst (λ k. previous_at new k ≡ p) same now_after.1,
          follow_on other y ys a.0 b.0 a.1 b.1 f.2,
        ),
      )

  pub rings_other : (first : ℕ) (rs : List (List ℕ)) → before < first → p < first → times p (concat rs) ≡ 0
      → times before (concat rs) ≡ 0 → AreRings old first rs → AreRings new first rs
  rings_other first [] l m none away r = tt
  rings_other first (xs ∷ rest) l m none away r = (
    follow_other before first xs (λ e. absurd (omega arith), λ e. absurd (omega arith))
        (none_left p xs (concat rest) none) (none_left before xs (concat rest) away)
        (λ u v a b. kept u v a.0 b.0 a.1) r.0,
    rings_other (suc first) rest (omega arith) (omega arith) (none_right p xs (concat rest) none)
        (none_right before xs (concat rest) away) r.1,
  )
