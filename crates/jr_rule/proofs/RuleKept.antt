-- A step of a pass keeps the rule, where it owes nothing more; and what the rule says of the row's history.
pub mod OneHistory
pub mod Operations
use Rattle.std.proofs.Common.{◌≡◌, ◌≢◌, ⊎_elim, ◌+◌, ◌≤◌, ℕ, zero, suc, cond, List, [], ◌∷◌, ◌++◌, map}
use Rattle.std.proofs.Common.{get_or, slice_set, refl, sym, ap, subst, ◌∙◌, arith, eq-eqb, ne_eqb}
use Rattle.std.proofs.lemmas.List.{append-nil}
use mathlib.Core.Option.{some}
use lib.ListN.{get_elem?}
use Rattle.atomic_table.specs.Table.{Act as Taking, Valid, carried_after, keeps, stepped, Allows}
use Rattle.atomic_table.proofs.Lists.{at_set}
use Rattle.jr_word.specs.declared.config.Config.{Config}
use Rattle.jr_model.specs.declared.event.Act.{Act}
use Rattle.jr_model.specs.History.{History, by, state, IsLegal, mine}
use Rattle.jr_model.proofs.Histories.{mine_append}
use Rattle.jr_model.proofs.Moments.{prefix_self, prefix_trans}
use Rattle.jr_model.proofs.Stays.{append_cancel}
use Rattle.jr_steps.specs.declared.known.Known.{Known}
use Rattle.jr_rule.specs.declared.rule.View.{View}
use Rattle.jr_steps.specs.declared.known.Holdings.{Holdings}
use Rattle.jr_steps.specs.Holdings.{hold}
use Rattle.jr_rule.specs.Image.{IsImage}
use Rattle.jr_rule.proofs.HoldingsInSpace.{holdings_in_space}
use Rattle.jr_rule.proofs.Spaces.{hold_here, hold_else}
use Rattle.jr_steps.specs.Knowing.{Goes}
use Rattle.jr_rule.specs.Rule.{view_at, view_of, AreBeginnings, Fits, EachFits, total, is_of}
use Rattle.jr_rule.specs.Rule.{passes_of, Row, Kept, SeatState, stepping_pass, Tells, known_at, Owes}

-- COUNTS OF A LIST

pub total_append : {A : Type 0} (f : A → ℕ) (xs ys : List A) → total f (xs ++ ys) ≡ total f xs + total f ys
total_append f [] ys = omega arith
total_append f (x ∷ xs) ys = let r = total_append f xs ys in omega arith

-- one of the list gives way to another
pub total_at : {A : Type 0} (f : A → ℕ) (xs : List A) (i : ℕ) (x y : A) → get_elem? xs i ≡ some x
    → total f (slice_set xs i y) + f x ≡ total f xs + f y
total_at f [] i x y e = absurd (mathlib.Core.Option.some-ne-none x (sym e))
total_at f (z ∷ xs) zero x y e = let same : f z ≡ f x = ap f (mathlib.Core.Option.some-injective z x e) in omega arith
total_at f (z ∷ xs) (suc i) x y e = let r = total_at f xs i x y e in omega arith

pub total_above : {A : Type 0} (f : A → ℕ) (xs : List A) (i : ℕ) (x : A) → get_elem? xs i ≡ some x → f x ≤ total f xs
total_above f [] i x e = absurd (mathlib.Core.Option.some-ne-none x (sym e))
total_above f (z ∷ xs) zero x e = let same : f z ≡ f x = ap f (mathlib.Core.Option.some-injective z x e) in omega arith
total_above f (z ∷ xs) (suc i) x e = let r = total_above f xs i x e in omega arith

at_else : {A : Type 0} (xs : List A) (i j : ℕ) (y : A) → j ≢ i → get_elem? (slice_set xs i y) j ≡ get_elem? xs j
at_else [] i j y ne = refl
at_else (z ∷ xs) zero zero y ne = absurd (ne refl)
at_else (z ∷ xs) zero (suc j) y ne = refl
at_else (z ∷ xs) (suc i) zero y ne = refl
at_else (z ∷ xs) (suc i) (suc j) y ne = at_else xs i j y (λ e. ne (ap suc e))

one_here : (t : ℕ) (k : Known) → k.thread ≡ t → is_of t k ≡ 1
one_here t k e = ap (λ b. cond b 1 0) (eq-eqb k.thread t e)

-- ACTS OF ONE THREAD AT THE END OF A HISTORY

pub mine_none : (t u : ℕ) (acts : List Act) → t ≢ u → mine (map (by t) acts) u ≡ []
mine_none t u [] ne = refl
mine_none t u (a ∷ acts) ne =
    ap (λ b. cond b (a ∷ mine (map (by t) acts) u) (mine (map (by t) acts) u)) (ne_eqb t u ne) ∙ mine_none t u acts ne

-- to another thread they are nothing of its own
mine_else : (log : History) (t u : ℕ) (acts : List Act) → t ≢ u → mine (log ++ map (by t) acts) u ≡ mine log u
mine_else log t u acts ne =
    mine_append log (map (by t) acts) u ∙ (ap (λ l. mine log u ++ l) (mine_none t u acts ne) ∙ append-nil (mine log u))

module _ (c : Config) (last : ℕ) (log : History) (held : ℕ → Holdings) where
  -- the pass that steps
  fits_here : (k : Known) (acts : List Act) (g : Holdings) → Fits c last log held k
      → Fits c last (log ++ map (by k.thread) acts) (hold held k.thread g) (known_at k log acts g)
  fits_here k acts g f = record {
    same_config = f.same_config;
    same_last = f.same_last;
    row = f.row;
    begins = prefix_self (log ++ map (by k.thread) acts);
    own = refl;
    holdings = hold_here held k.thread g;
  }

  -- a pass of another thread
  fits_else : (t : ℕ) (acts : List Act) (g : Holdings) (k : Known) → t ≢ k.thread → Fits c last log held k
      → Fits c last (log ++ map (by t) acts) (hold held t g) k
  fits_else t acts g k ne f = record {
    same_config = f.same_config;
    same_last = f.same_last;
    row = f.row;
    begins = prefix_trans k.seen log (log ++ map (by t) acts) f.begins (map (by t) acts, refl);
    own = mine_else log t k.thread acts ne ∙ f.own;
    holdings = hold_else held t k.thread g (λ e. ne (sym e)) ∙ f.holdings;
  }

  others_fit : (t : ℕ) (acts : List Act) (g : Holdings) (ks : List Known) → total (is_of t) ks ≡ 0
      → EachFits c last log held ks → EachFits c last (log ++ map (by t) acts) (hold held t g) ks
  others_fit t acts g [] none fit = tt
  others_fit t acts g (k ∷ ks) none fit =
      let other : t ≢ k.thread = λ e. let one = one_here t k (sym e) in absurd (omega arith) in
      (fits_else t acts g k other fit.0, others_fit t acts g ks (omega arith) fit.1)

-- what the step makes of what its pass had seen
pub goes_at : (k : Known) (log : History) (held : ℕ → Holdings) (acts : List Act) (g : Holdings)
    → Fits k.config k.last log held k → IsLegal k.config k.last (log ++ map (by k.thread) acts)
    → Goes k acts (known_at k log acts g)
goes_at k log held acts g f legal =
    let between = f.begins.0 in record {
      config = refl;
      last = refl;
      thread = refl;
      between = between;
      seen = ap (λ l. l ++ map (by k.thread) acts) (sym f.begins.1);
      others = append_cancel (mine k.seen k.thread) (mine between k.thread) []
          (sym (mine_append k.seen between k.thread)
          ∙ (ap (λ l. mine l k.thread) f.begins.1 ∙ (f.own ∙ sym (append-nil (mine k.seen k.thread)))));
      legal = legal;
      taken = refl;
    }

-- what notes say is a beginning of a longer history too
noted_on : (c : Config) (log more : History) (ns : List Known) → AreBeginnings c log ns
    → AreBeginnings c (log ++ more) ns
noted_on c log more [] noted = tt
noted_on c log more (n ∷ ns) noted = (
  (noted.0.0, prefix_trans n.seen log (log ++ more) noted.0.1 (more, refl)),
  noted_on c log more ns noted.1,
)

module _ (joints : ℕ) (c : Config) (last : ℕ) where
  -- the passes of other views, and the others of this one, are of other threads
  apart : (r : Row) (kept : Kept last c r) (id : ℕ) (k : Known) (ks ns : List Known)
      → get_elem? r.views id ≡ some (view_at joints (k ∷ ks) ns)
      → (total (is_of k.thread) ks ≡ 0) × ((j : ℕ) (v : View) → j ≢ id → get_elem? r.views j ≡ some v
      → total (is_of k.thread) v.passes ≡ 0)
  apart r kept id k ks ns at =
      let f : View → ℕ = passes_of k.thread in
      let own = one_here k.thread k refl in
      let most = kept.once k.thread ((kept.each id (view_at joints (k ∷ ks) ns) at).0).row in
      let all = total_above f r.views id (view_at joints (k ∷ ks) ns) at in (
        omega arith,
        λ j v other there.
            let gone : View = view_of [] in
            let rest = total_at f r.views id (view_at joints (k ∷ ks) ns) gone at in
            let still = at_else r.views id j gone other ∙ there in
            let bound = total_above f (slice_set r.views id gone) j v still in omega arith,
      )

  -- the acts go to the end of the longest history
  adds : (r : Row) (kept : Kept last c r) (id : ℕ) (k : Known) (ks ns : List Known)
      → get_elem? r.views id ≡ some (view_at joints (k ∷ ks) ns) → (i n : ℕ) (acts : List Act) (g : Holdings)
      → IsLegal c last (kept.log ++ map (by k.thread) acts)
      → IsImage c last (slice_set r.words i n) (state (kept.log ++ map (by k.thread) acts)) (hold kept.held k.thread g)
      → Kept last c (stepped r i n id [] (view_at joints (known_at k kept.log acts g ∷ ks) []) keeps)
  adds r kept id k ks ns at i n acts g legal image =
      let w : View = view_at joints (known_at k kept.log acts g ∷ ks) [] in
      let fit = kept.each id (view_at joints (k ∷ ks) ns) at in
      let far = apart r kept id k ks ns at in
      let t : ℕ = k.thread in record {
        log = kept.log ++ map (by t) acts;
        held = hold kept.held t g;
        legal = legal;
        sized = kept.sized;
        image = image;
        each = λ j v there. ⊎_elim
            (λ (q : (j ≡ id) × (w ≡ v)).
            subst (λ (z : View). EachFits c last (kept.log ++ map (by t) acts) (hold kept.held t g) z.passes) q.1 (
              fits_here c last kept.log kept.held k acts g fit.0,
              others_fit c last kept.log kept.held t acts g ks far.0 fit.1,
            ))
            (λ (q : (j ≢ id) × (get_elem? r.views j ≡ some v)).
            others_fit c last kept.log kept.held t acts g v.passes (far.1 j v q.0 q.1) (kept.each j v q.1))
            (at_set r.views id j w v there);
        noted = λ j v there. ⊎_elim
            (λ (q : (j ≡ id) × (w ≡ v)).
            subst (λ (z : View). AreBeginnings c (kept.log ++ map (by t) acts) z.notes) q.1 tt)
            (λ (q : (j ≢ id) × (get_elem? r.views j ≡ some v)).
            noted_on c kept.log (map (by t) acts) v.notes (kept.noted j v q.1))
            (at_set r.views id j w v there);
        once = λ u h. let same = total_at (passes_of u) r.views id (view_at joints (k ∷ ks) ns) w at in
            let most = kept.once u h in omega arith;
      }

-- WHAT A STEP OWES IS ENOUGH for the row to take it, whoever else steps in between
module _ (joints : ℕ) (c : Config) (last slots id : ℕ) (k : Known) (ks ns : List Known) (i : ℕ) (f g : ℕ → ℕ)
    (told : Known → ℕ → List Act → Known → Type 0) (owes : Owes k i f (λ n. told k (g n))) where
  here : (r : Row) → Kept k.last k.config r → get_elem? r.views id ≡ some (view_at joints (k ∷ ks) ns)
      → (w : View) × (a : Taking (Unit {0})) × Valid r.homes [] a
      × Kept k.last k.config (stepped r i (f (get_or r.words i 0)) id [] w a)
      × Tells told (view_at joints (k ∷ ks) ns, []) (g (get_or r.words i 0)) (w, carried_after {S = Unit {0}} [] a)
  here r kept at =
      let n : ℕ = get_or r.words i 0 in
      let fit = kept.each id (view_at joints (k ∷ ks) ns) at in
      let made = owes kept.log r.words kept.held
      (record { fits = fit.0; legal = kept.legal; sized = kept.sized; image = kept.image }) in
      let far = apart joints k.config k.last r kept id k ks ns at in (
        view_at joints (known_at k kept.log made.acts made.holdings ∷ ks) [],
        keeps,
        tt,
        adds joints k.config k.last r kept id k ks ns at i (f n) made.acts made.holdings made.legal made.image,
        record {
          acts = made.acts;
          new = known_at k kept.log made.acts made.holdings;
          is = refl;
          goes = goes_at k kept.log kept.held made.acts made.holdings fit.0 made.legal;
          says = made.says;
          space = holdings_in_space k.config k.last (kept.log ++ map (by k.thread) made.acts)
              (slice_set r.words i (f n)) (hold kept.held k.thread made.holdings) made.legal made.image k.thread
              made.holdings (hold_here kept.held k.thread made.holdings);
          held = hold kept.held k.thread made.holdings;
          others = others_fit k.config k.last kept.log kept.held k.thread made.acts made.holdings ks far.0 fit.1;
          noted = noted_on k.config kept.log (map (by k.thread) made.acts) ns
              (kept.noted id (view_at joints (k ∷ ks) ns) at);
        },
      )

  plays_first : Allows (Kept last c) slots id (view_at joints (k ∷ ks) ns, []) i f (λ n m'.
      Tells told (view_at joints (k ∷ ks) ns, []) (g n) m')
  plays_first r kept l at small =
      let fit = (kept.each id (view_at joints (k ∷ ks) ns) at).0 in
      let p =
      here r (subst (λ (z : Config × ℕ). Kept z.1 z.0 r) (λ j. (sym fit.same_config j, sym fit.same_last j)) kept)
      at in (
        p.0,
        p.1,
        p.2,
        subst (λ (z : Config × ℕ). Kept z.1 z.0 (stepped r i (f (get_or r.words i 0)) id [] p.0 p.1))
            (λ j. (fit.same_config j, fit.same_last j)) p.3,
        p.4,
      )

-- the same of a seat that is known by an equation. It is told of g of the number found
pub plays : (c : Config) (last slots id : ℕ) (m : SeatState) (k : Known) (ks : List Known) {ns : List Known}
    {joints : ℕ} → m ≡ (view_at joints (k ∷ ks) ns, []) → (i : ℕ) (f g : ℕ → ℕ)
    (told : Known → ℕ → List Act → Known → Type 0)
    → Owes (stepping_pass m) i f (λ n. told (stepping_pass m) (g n))
    → Allows (Kept last c) slots id m i f (λ n m'. Tells told m (g n) m')
plays c last slots id m k ks {ns} {joints} is i f g told =
    subst (λ (z : SeatState). Owes (stepping_pass z) i f (λ n. told (stepping_pass z) (g n))
    → Allows (Kept last c) slots id z i f (λ n m'. Tells told z (g n) m')) (sym is)
    (λ owes. plays_first joints c last slots id k ks ns i f g told owes)
