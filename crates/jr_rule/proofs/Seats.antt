-- Seats are dealt out, are joined, and part.
use Rattle.std.proofs.Common.{◌≡◌, ◌≢◌, ◌+◌, ◌-◌, ◌<◌, ◌≤◌, ℕ, zero, suc, cond, List, [], ◌∷◌, ◌++◌}
use Rattle.std.proofs.Common.{slice_set, refl, sym, ap, subst, ◌∙◌, arith, eq-eqb, ne_eqb, ⊎_elim}
use mathlib.Core.Option.{some, some-injective, some-ne-none}
use mathlib.Core.Logic.{dite}
use native.Mathlib.Decide.{ℕ_discrete}
use lib.ListN.{get_elem?}
use Rattle.atomic_table.specs.Table.{Splits, Joins, opening}
use Rattle.atomic_table.proofs.Lists.{at_set, at_snoc}
use Rattle.jr_word.specs.declared.config.Config.{Config}
use Rattle.jr_model.specs.State.{opening as nothing_stands}
use Rattle.jr_model.specs.History.{History}
use Rattle.jr_steps.specs.declared.known.Known.{Known}
use Rattle.jr_rule.specs.declared.rule.View.{View}
use Rattle.jr_steps.specs.declared.known.Holdings.{Holdings}
use Rattle.jr_steps.specs.Holdings.{empty}
use Rattle.jr_rule.specs.Image.{IsImage}
use Rattle.jr_rule.specs.Rule.{known, note_again, note_of, once_more, view_at, view_of, AreBeginnings, IsSized}
use Rattle.jr_rule.specs.Rule.{EachFits, is_of, passes_of, Kept, newcomers, SeatState, first_alone, without_first}
use Rattle.jr_rule.specs.Rule.{spent, together, total}
use Rattle.jr_rule.proofs.RuleKept.{total_append, total_at}

each_append : (c : Config) (last : ℕ) (log : History) (held : ℕ → Holdings) (ks ls : List Known)
    → EachFits c last log held ks → EachFits c last log held ls → EachFits c last log held (ks ++ ls)
each_append c last log held [] ls a b = b
each_append c last log held (k ∷ ks) ls a b = (a.0, each_append c last log held ks ls a.1 b)

noted_append : (c : Config) (log : History) (ns os : List Known) → AreBeginnings c log ns → AreBeginnings c log os
    → AreBeginnings c log (ns ++ os)
noted_append c log [] os a b = b
noted_append c log (n ∷ ns) os a b = (a.0, noted_append c log ns os a.1 b)

module _ (c : Config) (last : ℕ) where
  -- a seat's passes are cut in two, and its notes
  cuts : (id : ℕ) (v left right : View) → ((log : History) (held : ℕ → Holdings) → EachFits c last log held v.passes
      → EachFits c last log held left.passes × EachFits c last log held right.passes)
      → ((log : History) (held : ℕ → Holdings) → EachFits c last log held v.passes → AreBeginnings c log v.notes
      → AreBeginnings c log left.notes × AreBeginnings c log right.notes)
      → ((t : ℕ) → passes_of t left + passes_of t right ≡ passes_of t v) → Splits (Kept last c) id v left right
  cuts id v left right parts notes counts r kept at = record {
    log = kept.log;
    held = kept.held;
    legal = kept.legal;
    sized = kept.sized;
    image = kept.image;
    each = λ j w there. ⊎_elim
        (λ (in_front : get_elem? (slice_set r.views id left) j ≡ some w). ⊎_elim
        (λ (t : (j ≡ id) × (left ≡ w)). subst (λ (z : View). EachFits c last kept.log kept.held z.passes) t.1
        (parts kept.log kept.held (kept.each id v at)).0)
        (λ (t : (j ≢ id) × (get_elem? r.views j ≡ some w)). kept.each j w t.1)
        (at_set r.views id j left w in_front))
        (λ (new : right ≡ w). subst (λ (z : View). EachFits c last kept.log kept.held z.passes) new
        (parts kept.log kept.held (kept.each id v at)).1)
        (at_snoc (slice_set r.views id left) right w j there);
    noted = λ j w there.
        let cut = notes kept.log kept.held (kept.each id v at) (kept.noted id v at) in
        ⊎_elim
        (λ (in_front : get_elem? (slice_set r.views id left) j ≡ some w). ⊎_elim
        (λ (t : (j ≡ id) × (left ≡ w)). subst (λ (z : View). AreBeginnings c kept.log z.notes) t.1 cut.0)
        (λ (t : (j ≢ id) × (get_elem? r.views j ≡ some w)). kept.noted j w t.1)
        (at_set r.views id j left w in_front))
        (λ (new : right ≡ w). subst (λ (z : View). AreBeginnings c kept.log z.notes) new cut.1)
        (at_snoc (slice_set r.views id left) right w j there);
    once = λ t h.
        let f : View → ℕ = passes_of t in
        let one = total_at f r.views id v left at in
        let two = total_append f (slice_set r.views id left) (right ∷ []) in
        let n = counts t in
        let most = kept.once t h in omega arith;
  }

  pub deals : (id : ℕ) (v : View) (k : Known) (ks : List Known) {n : ℕ} → v ≡ view_at n (k ∷ ks) []
      → Splits (Kept last c) id v (without_first v) (first_alone v)
  deals id v k ks {n} is = subst (λ (w : View). Splits (Kept last c) id w (without_first w) (first_alone w)) (sym is)
      (cuts id (view_at n (k ∷ ks) []) (view_of ks) (view_at (n + 1) (k ∷ []) []) (λ log held fit. (fit.1, (fit.0, tt)))
      (λ log held fit noted. (tt, tt)) (λ t. omega arith))

  pub parts : (id : ℕ) (v : View) (k : Known) (ks : List Known) {n : ℕ} → v ≡ view_at n (k ∷ ks) []
      → Splits (Kept last c) id v (first_alone v) (without_first v)
  parts id v k ks {n} is = subst (λ (w : View). Splits (Kept last c) id w (first_alone w) (without_first w)) (sym is)
      (cuts id (view_at n (k ∷ ks) []) (view_at (n + 1) (k ∷ []) []) (view_of ks) (λ log held fit. ((fit.0, tt), fit.1))
      (λ log held fit noted. (tt, tt)) (λ t. omega arith))

  -- a note of what the first of a seat's passes has seen leaves it
  pub jots : (id : ℕ) (v : View) (k : Known) (ks : List Known) {n : ℕ} → v ≡ view_at n (k ∷ ks) []
      → Splits (Kept last c) id v (once_more v) (note_of v)
  jots id v k ks {n} is = subst (λ (w : View). Splits (Kept last c) id w (once_more w) (note_of w)) (sym is)
      (cuts id (view_at n (k ∷ ks) []) (view_at (n + 1) (k ∷ ks) []) (view_at 0 [] (k ∷ [])) (λ log held fit. (fit, tt))
      (λ log held fit noted. (tt, (((fit.0).same_config, (fit.0).begins), tt))) (λ t. omega arith))

  -- a note that joined a seat leaves it again
  pub leaves_again : (id : ℕ) (v : View) (k n : Known) (ks ns : List Known) {j : ℕ} → v ≡ view_at j (k ∷ ks) (n ∷ ns)
      → Splits (Kept last c) id v (once_more v) (note_again v)
  leaves_again id v k n ks ns {j} is = subst (λ (w : View). Splits (Kept last c) id w (once_more w) (note_again w))
      (sym is) (cuts id (view_at j (k ∷ ks) (n ∷ ns)) (view_at (j + 1) (k ∷ ks) (n ∷ ns)) (view_at 0 [] (n ∷ []))
      (λ log held fit. (fit, tt)) (λ log held fit noted. (noted, (noted.0, tt))) (λ t. omega arith))

  pub gathers : (id : ℕ) (v : View) (other : ℕ) (w : View) → Joins (Kept last c) id v other w (together v w) spent
  gathers id v other w r kept at apart there =
      let here = at_set r.views id other (together v w) w there in
      let was : get_elem? r.views other ≡ some w =
      ⊎_elim (λ (t : (other ≡ id) × (together v w ≡ w)). absurd (apart t.0))
      (λ (t : (other ≢ id) × (get_elem? r.views other ≡ some w)). t.1) here in record {
        log = kept.log;
        held = kept.held;
        legal = kept.legal;
        sized = kept.sized;
        image = kept.image;
        each = λ j u there'. ⊎_elim
            (λ (t : (j ≡ other) × (spent ≡ u)).
            subst (λ (z : View). EachFits c last kept.log kept.held z.passes) t.1 tt)
            (λ (t : (j ≢ other) × (get_elem? (slice_set r.views id (together v w)) j ≡ some u)). ⊎_elim
            (λ (q : (j ≡ id) × (together v w ≡ u)). subst (λ (z : View). EachFits c last kept.log kept.held z.passes)
            q.1 (each_append c last kept.log kept.held v.passes w.passes (kept.each id v at) (kept.each other w was)))
            (λ (q : (j ≢ id) × (get_elem? r.views j ≡ some u)). kept.each j u q.1)
            (at_set r.views id j (together v w) u t.1))
            (at_set (slice_set r.views id (together v w)) other j spent u there');
        noted = λ j u there'. ⊎_elim
            (λ (t : (j ≡ other) × (spent ≡ u)). subst (λ (z : View). AreBeginnings c kept.log z.notes) t.1 tt)
            (λ (t : (j ≢ other) × (get_elem? (slice_set r.views id (together v w)) j ≡ some u)). ⊎_elim
            (λ (q : (j ≡ id) × (together v w ≡ u)). subst (λ (z : View). AreBeginnings c kept.log z.notes) q.1
            (noted_append c kept.log v.notes w.notes (kept.noted id v at) (kept.noted other w was)))
            (λ (q : (j ≢ id) × (get_elem? r.views j ≡ some u)). kept.noted j u q.1)
            (at_set r.views id j (together v w) u t.1))
            (at_set (slice_set r.views id (together v w)) other j spent u there');
        once = λ t h.
            let f : View → ℕ = passes_of t in
            let one = total_at f r.views id v (together v w) at in
            let two = total_at f (slice_set r.views id (together v w)) other w spent there in
            let sum = total_append (is_of t) v.passes w.passes in
            let most = kept.once t h in omega arith;
      }

  newcomers_fit : (n t : ℕ) → t + n ≤ c.threads → EachFits c last [] (λ u. empty) (newcomers c last n t)
  newcomers_fit zero t h = tt
  newcomers_fit (suc n) t h = (
    record {
      same_config = refl;
      same_last = refl;
      row = omega arith;
      begins = ([], refl);
      own = refl;
      holdings = refl;
    },
    newcomers_fit n (suc t) (omega arith),
  )

  not_yet : (u n t : ℕ) → u < t → total (is_of u) (newcomers c last n t) ≡ 0
  not_yet u zero t h = refl
  not_yet u (suc n) t h =
      let other : t ≢ u = λ e. omega arith in
      let none : is_of u (known c last t [] empty 0) ≡ 0 = ap (λ b. cond b 1 0) (ne_eqb t u other) in
      let rest = not_yet u n (suc t) (omega arith) in omega arith

  just_once : (u n t : ℕ) → t ≤ u → u < t + n → total (is_of u) (newcomers c last n t) ≡ 1
  just_once u zero t from to = absurd (omega arith)
  just_once u (suc n) t from to = dite (ℕ_discrete t u)
      (λ e. let one : is_of u (known c last t [] empty 0) ≡ 1 = ap (λ b. cond b 1 0) (eq-eqb t u e) in
      let rest = not_yet u n (suc t) (omega arith) in omega arith)
      (λ other. let none : is_of u (known c last t [] empty 0) ≡ 0 = ap (λ b. cond b 1 0) (ne_eqb t u other) in
      let rest = just_once u n (suc t) (omega arith) (omega arith) in omega arith)

  -- a row that shows the opening meets the rule
  pub opens : (words : List ℕ) → IsSized c last → IsImage c last words nothing_stands (λ t. empty)
      → Kept last c (opening words [] (view_of (newcomers c last c.threads 0)))
  opens words sized image = record {
    log = [];
    held = λ t. empty;
    legal = tt;
    sized = sized;
    image = image;
    each = λ j v there. alone v j there;
    noted = λ j v there. unnoted v j there;
    once = λ t h. let one = just_once t c.threads 0 (omega arith) (omega arith) in omega arith;
  }
    where
      alone : (v : View) (j : ℕ) → get_elem? (view_of (newcomers c last c.threads 0) ∷ []) j ≡ some v
          → EachFits c last [] (λ t. empty) v.passes
      alone v zero there = subst (λ (z : View). EachFits c last [] (λ t. empty) z.passes) (some-injective _ v there)
          (newcomers_fit c.threads 0 (omega arith))
      alone v (suc j) there = absurd (some-ne-none v (sym there))

      unnoted : (v : View) (j : ℕ) → get_elem? (view_of (newcomers c last c.threads 0) ∷ []) j ≡ some v
          → AreBeginnings c [] v.notes
      unnoted v zero there = subst (λ (z : View). AreBeginnings c [] z.notes) (some-injective _ v there) tt
      unnoted v (suc j) there = absurd (some-ne-none v (sym there))

  -- the next of the newcomers
  pub next_newcomer : (m : SeatState) (t : ℕ) → t < c.threads → m ≡ (view_of (newcomers c last (c.threads - t) t), [])
      → m ≡ (view_of (known c last t [] empty 0 ∷ newcomers c last (c.threads - (t + 1)) (t + 1)), [])
  next_newcomer m t h e =
      let n : ℕ = c.threads - (t + 1) in
      let more : c.threads - t ≡ suc n = omega arith in
      let next : suc t ≡ t + 1 = omega arith in
      e ∙ (ap (λ (k : ℕ). (view_of (newcomers c last k t), [])) more
      ∙ ap (λ (k : ℕ). (view_of (known c last t [] empty 0 ∷ newcomers c last n k), [])) next)

-- the seat of two passes that were joined
pub joined_is : (m v w : SeatState) (k l : Known) {n o : ℕ} → v ≡ (view_at n (k ∷ []) [], [])
    → w ≡ (view_at o (l ∷ []) [], []) → m ≡ (together v.0 w.0, v.1) → m ≡ (view_at (n + o + 1) (k ∷ l ∷ []) [], [])
joined_is m v w k l a b e = e ∙ ap (λ (z : SeatState × SeatState). (together z.0.0 z.1.0, z.0.1)) (λ i. (a i, b i))
