-- The present objects fit in what is reserved.
use Rattle.std.proofs.Common.{◌≡◌, ◌≢◌, ◌⊎◌, inl, inr, ⊎_elim, ℕ, zero, suc, ◌+◌, ◌<◌, ◌≤◌, ◌==◌}
use Rattle.std.proofs.Common.{Bool, true, false, Option, Some, None, refl, ap, subst, arith, nat_eq}
use Rattle.std.proofs.lemmas.List.{length-set}
use Rattle.jr_word.specs.declared.config.Config.{Config}
use Rattle.jr_model.specs.declared.event.Act.{Act}
use Rattle.jr_model.specs.declared.event.Act.TheVariants.{Reserve, New, Write, Drop, Settle}
use Rattle.jr_model.specs.Maps.{update, sum_below}
use Rattle.jr_model.specs.State.{Contents, State, opening, length_of, present_words}
use Rattle.jr_model.specs.Steps.{ActNeeds, act_after, written}
use Rattle.jr_model.specs.Laws.{LengthsFit}
use Rattle.jr_model.proofs.Updates.{eq_true, eq_false, at_number, at_number_self}
use Rattle.jr_model.proofs.Histories.{kept_from}

pub sum_same : (n : ℕ) (f g : ℕ → ℕ) → ((j : ℕ) → j < n → g j ≡ f j) → sum_below n g ≡ sum_below n f
unfolding sum_below
sum_same zero f g h = refl
sum_same (suc n) f g h =
    let rest : sum_below n g ≡ sum_below n f = sum_same n f g (λ j l. h j (omega arith)) in
    let last : g n ≡ f n = h n (omega arith) in cc

-- a sum of which one part changes
pub sum_changed : (n : ℕ) (f g : ℕ → ℕ) (k : ℕ) → ((j : ℕ) → k ≢ j → g j ≡ f j)
    → (sum_below n g ≡ sum_below n f) ⊎ (sum_below n g + f k ≡ sum_below n f + g k)
unfolding sum_below
sum_changed zero f g k h = inl refl
sum_changed (suc n) f g k h = go (k == n) refl (sum_changed n f g k h)
  where
    go : (b : Bool) → (k == n) ≡ b → (sum_below n g ≡ sum_below n f) ⊎ (sum_below n g + f k ≡ sum_below n f + g k)
        → (sum_below n g + g n ≡ sum_below n f + f n) ⊎ (sum_below n g + g n + f k ≡ sum_below n f + f n + g k)
    go true e r =
        let here : k ≡ n = eq_true k n e in
        let same : sum_below n g ≡ sum_below n f = sum_same n f g (λ j l. h j (omega arith)) in
        inr (rw here (omega arith))
    go false e r =
        let there : g n ≡ f n = h n (eq_false k n e) in
        ⊎_elim (λ (q : sum_below n g ≡ sum_below n f). inl (omega arith))
        (λ (q : sum_below n g + f k ≡ sum_below n f + g k). inr (omega arith)) r

-- a sum of which each part is 0
pub sum_zero : (n : ℕ) (f : ℕ → ℕ) → ((j : ℕ) → f j ≡ 0) → sum_below n f ≡ 0
unfolding sum_below
sum_zero zero f none = refl
sum_zero (suc n) f none = let before = sum_zero n f none in let last = none n in omega arith

pub sum_none : (n : ℕ) → sum_below n (λ j. 0) ≡ 0
sum_none n = sum_zero n (λ j. 0) (λ j. refl)

-- the lengths after an object's number gets other contents
present_words_changed : (c : Config) (s : State) (o : ℕ) (x : Option Contents)
    → (present_words c (record s { objects = update nat_eq s.objects o x }) ≡ present_words c s)
    ⊎ (present_words c (record s { objects = update nat_eq s.objects o x }) + length_of (s.objects o)
    ≡ present_words c s + length_of x)
present_words_changed c s o x =
    let g : ℕ → ℕ = λ j. length_of (update nat_eq s.objects o x j) in
    let m : ℕ = present_words c (record s { objects = update nat_eq s.objects o x }) in
    let n : ℕ = present_words c s in
    subst (λ y. (m ≡ n) ⊎ (m + length_of (s.objects o) ≡ n + length_of y)) (at_number_self s.objects o x)
    (sum_changed (c.objects + 1) (λ j. length_of (s.objects j)) g o
    (λ j ne. at_number (λ y. length_of y ≡ length_of (s.objects j)) s.objects o j x (λ e. absurd (ne e)) (λ ne'. refl)))

length_written : (x : Option Contents) (i v : ℕ) → length_of (written x i v) ≡ length_of x
length_written None i v = refl
length_written (Some x) i v = length-set x.words i v

pub record IsFit (c : Config) (s : State) : Type 0 where
  pub present : present_words c s ≤ s.used
  pub used : s.used ≤ c.words

module _ (c : Config) (last : ℕ) where
  fit_act : (s : State) (t : ℕ) (a : Act) → IsFit c s → ActNeeds c last s t a → IsFit c (act_after s t a)
  fit_act s t (Reserve m) i n = record { present = let p = i.present in omega arith; used = n.1 }
  fit_act s t (New o k ws) i n =
      let p = i.present in
      let none : length_of (s.objects o) ≡ 0 = ap length_of n.3 in
      let room = n.5 in
      record {
        present = ⊎_elim (λ e. omega arith) (λ e. omega arith)
            (present_words_changed c s o (Some (record { kind = k; words = ws })));
        used = i.used;
      }
  fit_act s t (Write o l v) i n =
      let p = i.present in
      let same = length_written (s.objects o) l v in
      record {
        present =
            ⊎_elim (λ e. omega arith) (λ e. omega arith) (present_words_changed c s o (written (s.objects o) l v));
        used = i.used;
      }
  fit_act s t (Drop o) i n =
      let p = i.present in
      record {
        present = ⊎_elim (λ e. omega arith) (λ e. omega arith) (present_words_changed c s o None);
        used = i.used;
      }
  fit_act s t (Settle u) i n =
      let p = i.present in let q = i.used in let e = n.1 in
      record { present = omega arith; used = omega arith }
  fit_act s t _ i n = record { present = i.present; used = i.used }

  fit_opening : IsFit c opening
  fit_opening = record { present = rw (sum_none (c.objects + 1)) (omega arith); used = omega arith }

  pub lengths_fit : LengthsFit c last
  lengths_fit es l =
      let fit = kept_from c last (IsFit c) (λ s e i n. fit_act s e.thread e.act i n.1) opening es fit_opening l in
      (fit.present, fit.used)
