-- Ranges are filled word by word.
use Rattle.std.proofs.Common.{◌≡◌, ◌≢◌, ◌<◌, ◌≤◌, ◌+◌, ◌^◌, ◌==◌, ℕ, zero, suc, false, cond, List}
use Rattle.std.proofs.Common.{[], ◌∷◌, take, length, replicate, slice_set, get_or, refl, sym, ap}
use Rattle.std.proofs.Common.{subst, ◌∙◌, arith, Ok, Some, None, slice_get, ◌⊎◌, ⊎_elim, inl, inr}
use Rattle.std.specs.Int.{w16}
use mir.Val.{Fits}
use Rattle.std.proofs.lemmas.List.{length-set, take_all}
use Rattle.std.proofs.lemmas.Option.{get_or_from_slice_get}
use Rattle.std.proofs.lemmas.Bool.Decides.{nat_tests}
use mathlib.Core.Logic.{∥∥₁_map}
use Rattle.jr_word.specs.declared.kind.Kind.{Kind}
use Rattle.jr_word.specs.declared.kind.Kind.TheVariants.{Text}
use Rattle.jr_model.specs.declared.event.Role.TheVariants.{Within}
use Rattle.jr_model.specs.State.{State, IsWord, AreWords}
use Rattle.jr_model.specs.History.{Did}
use Rattle.jr_model.proofs.Updates.{eq_self}
use Rattle.jr_model.proofs.Stays.{did_then, did_nothing}
use Rattle.jr_model.proofs.Windows.{window_within}
use Rattle.jr_steps.specs.declared.known.Known.{Known}
use Rattle.jr_steps.specs.declared.known.Holdings.{Holdings}
use Rattle.jr_steps.specs.Holdings.{words_at}
use Rattle.jr_steps.specs.Knowing.{AreOf, Leads, Facts, MayKnow, view, state_of, HasWord, ShowsWord, Took, Takes}
use Rattle.jr_steps.proofs.StepFacts.{goes_did}
use Rattle.jr_heap.specs.Heap.{Called, by_steps, own_words, IsOwn, IsReady, FillsWith, no_act}
use Rattle.jr_heap.proofs.Calling.{called_by}
use Rattle.jr_heap.proofs.StayFacts.{word_later}

abbrev tail : List ℕ → List ℕ
tail [] = []
tail (x ∷ xs) = xs

abbrev head_or : ℕ → List ℕ → ℕ
head_or v [] = v
head_or v (x ∷ xs) = x

-- one more word of a list is that of another
filled_suc : (i v : ℕ) (ws us : List ℕ) → take i ws ≡ take i us → i < length ws → slice_get us i ≡ Some v
    → take (suc i) (slice_set ws i v) ≡ take (suc i) us
filled_suc i v [] us e l at = absurd (omega arith)
filled_suc i v (w ∷ ws) [] e l at = absurd (let none : slice_get {X = ℕ} [] i ≡ None = refl in cc)
filled_suc zero v (w ∷ ws) (u ∷ us) e l at = let same : Some u ≡ Some v = at in let q : v ≡ u = cc in ap (λ x. x ∷ []) q
filled_suc (suc i) v (w ∷ ws) (u ∷ us) e l at =
    ap (λ xs. w ∷ xs) (filled_suc i v ws us (ap tail e) (shorter i (length ws) l) at)
    ∙ ap (λ x. x ∷ take (suc i) us) (ap (head_or v) e)
  where
    shorter : (i n : ℕ) → suc i < suc n → i < n
    shorter i n l = omega arith

filled_next : (i v : ℕ) (ws us : List ℕ) → take i ws ≡ take i us → i < length ws → slice_get us i ≡ Some v
    → take (i + 1) (slice_set ws i v) ≡ take (i + 1) us
filled_next i v ws us e l at = let q : suc i ≡ i + 1 = omega arith in
    subst (λ m. take m (slice_set ws i v) ≡ take m us) q (filled_suc i v ws us e l at)

-- the words at a place after a store, and at others
stored_here : (place i v : ℕ) (j k : Known) → ShowsWord place i v j k
    → words_at place k.holdings.ranges ≡ slice_set (words_at place j.holdings.ranges) i v
stored_here place i v j k e = ap (λ (g : Holdings). words_at place g.ranges) e ∙ ap
    (λ b. cond b (slice_set (words_at place j.holdings.ranges) i v) (words_at place j.holdings.ranges)) (eq_self place)

other_place : (p place : ℕ) → p ≢ place → (place == p) ≡ false
other_place p place ne = grind (arith, nat_tests)

stored_elsewhere : (place i v : ℕ) (j k : Known) → ShowsWord place i v j k → (p : ℕ) → p ≢ place
    → words_at p k.holdings.ranges ≡ words_at p j.holdings.ranges
stored_elsewhere place i v j k e p ne = ap (λ (g : Holdings). words_at p g.ranges) e ∙ ap (λ b.
    cond b (slice_set (words_at place j.holdings.ranges) i v) (words_at p j.holdings.ranges)) (other_place p place ne)

-- the first i of the words at the place are those of the list, and nothing else that the pass holds is other
pub record IsFilledTo (place n : ℕ) (us : List ℕ) (i : ℕ) (j k : Known) : Type 0 where
  pub long : 1 ≤ n → length (words_at place k.holdings.ranges) ≡ n
  pub words : 1 ≤ n → take i (words_at place k.holdings.ranges) ≡ take i us
  pub headers : k.holdings.headers ≡ j.holdings.headers
  pub others : (p : ℕ) → (p ≢ place) ⊎ (n ≡ 0) → words_at p k.holdings.ranges ≡ words_at p j.holdings.ranges
  pub counted : Takes i j k

-- what was done so far
pub record FilledTo {S : Type 0} (facts : S → Facts) (place n : ℕ) (us : List ℕ) (old new : S) (i : ℕ) : Type 0 where
  pub stands_is : (facts new).stands ≡ (facts old).stands
  pub hint_is : (facts new).hint ≡ (facts old).hint
  pub did : Leads facts old new (IsOwn place n) (λ k k'. Did (view k) (view k') []) (IsFilledTo place n us i)

pub among : (n v i w : ℕ) → slice_get (replicate n v) i ≡ Some w → w ≡ v
among zero v i w e = absurd cc
among (suc n) v zero w e = let h : Some v ≡ Some w = e in cc
among (suc n) v (suc i) w e = among n v i w e

-- each word of a list of one word is that one
pub within_same : (n v i : ℕ) → i < n → slice_get (replicate n v) i ≡ Some v
within_same zero v i l = absurd (omega arith)
within_same (suc n) v zero l = refl
within_same (suc n) v (suc i) l = within_same n v i (omega arith)

-- a range that is not empty has the words at its place
words_some : (place n : ℕ) (k : Known) → 1 ≤ n → own_words place n k ≡ words_at place k.holdings.ranges
words_some place n k l = ap (λ b. cond b [] (words_at place k.holdings.ranges)) (not_zero n l)
  where
    not_zero : (n : ℕ) → 1 ≤ n → (n == 0) ≡ false
    not_zero n l = grind (arith, nat_tests)

words_none : (place n : ℕ) (k : Known) → n ≡ 0 → own_words place n k ≡ []
words_none place n k e = ap (λ m. own_words place m k) e

none_or : (n : ℕ) → (n ≡ 0) ⊎ (1 ≤ n)
none_or n = grind arith

no_words : (us : List ℕ) → length us ≡ 0 → us ≡ []
no_words [] e = refl
no_words (u ∷ us) e = absurd (omega arith)

own_length : (place n : ℕ) (k : Known) → (1 ≤ n → length (words_at place k.holdings.ranges) ≡ n) → IsOwn place n k
own_length place n k long = ⊎_elim (λ (e : n ≡ 0). ap (λ (ws : List ℕ). length ws) (words_none place n k e) ∙ sym e)
    (λ (l : 1 ≤ n). ap (λ (ws : List ℕ). length ws) (words_some place n k l) ∙ long l) (none_or n)

-- all words are those of the list at the end
filled_words : (place n : ℕ) (us : List ℕ) (j k : Known) → length us ≡ n → IsFilledTo place n us n j k
    → own_words place n k ≡ us
filled_words place n us j k size x = ⊎_elim (λ (e : n ≡ 0). words_none place n k e ∙ sym (no_words us (size ∙ e)))
    (λ (l : 1 ≤ n). words_some place n k l ∙ (sym (take_all n (words_at place k.holdings.ranges)
    (let e = x.long l in omega arith)) ∙ (x.words l ∙ take_all n us (omega arith)))) (none_or n)

filled_all : (place n : ℕ) (us : List ℕ) (j k : Known) → length us ≡ n → IsFilledTo place n us n j k
    → FillsWith place us j k
filled_all place n us j k size x = record {
  words = ap (λ m. own_words place m k) size ∙ filled_words place n us j k size x;
  headers = x.headers;
  others = λ p ne. x.others p (⊎_elim (λ (d : p ≢ place). inl d) (λ (e : length us ≡ 0). inr (sym size ∙ e)) ne);
}

module _ {S : Type 0} {facts : S → Facts} (fits : AreOf facts) (place n : ℕ) (us : List ℕ) where
  pub filled_nothing : (a : S) → FilledTo facts place n us a a 0
  filled_nothing a = record {
    stands_is = refl;
    hint_is = refl;
    did = λ k s m. (
      k,
      s,
      did_nothing (view k) (fits a k s).legal,
      record {
        long = λ l. ap (λ (ws : List ℕ). length ws) (sym (words_some place n k l)) ∙ m;
        words = λ l. refl;
        headers = refl;
        others = λ p ne. refl;
        counted = omega arith;
      },
    );
  }

  pub filled_more : {a b c : S} (i v : ℕ) → FilledTo facts place n us a b i → i < n → slice_get us i ≡ Some v
      → Took facts b c [] (HasWord place i) (ShowsWord place i v) → FilledTo facts place n us a c (i + 1)
  filled_more i v p l at t = record {
    stands_is = t.stands_is ∙ p.stands_is;
    hint_is = t.hint_is ∙ p.hint_is;
    did = λ k s m.
        let x = p.did k s m in
        let has : i < length (words_at place x.0.holdings.ranges) = let e = x.3.long (omega arith) in omega arith in
        let y = t.goes x.0 x.1 has in
        let here = stored_here place i v x.0 y.0 y.3 in (
          y.0,
          y.1,
          did_then [] [] x.2 (goes_did y.2),
          record {
            long = λ q. ap (λ (ws : List ℕ). length ws) here
                ∙ (length-set (words_at place x.0.holdings.ranges) i v ∙ x.3.long q);
            words = λ q. ap (λ ws. take (i + 1) ws) here
                ∙ filled_next i v (words_at place x.0.holdings.ranges) us (x.3.words q) has at;
            headers = ap (λ (g : Holdings). g.headers) y.3 ∙ x.3.headers;
            others = λ r ne. ⊎_elim (λ (d : r ≢ place). stored_elsewhere place i v x.0 y.0 y.3 r d)
                (λ (z : n ≡ 0). absurd (omega arith)) ne ∙ x.3.others r ne;
            counted = let a = x.3.counted in let b = y.2.taken in omega arith;
          },
        );
  }

  pub filled_may : {a b : S} (i : ℕ) → i < n → MayKnow facts a (IsOwn place n) → FilledTo facts place n us a b i
      → MayKnow facts b (HasWord place i)
  filled_may i l may p =
      ∥∥₁_map may (λ k. let x = p.did k.0 k.1 k.2 in let e = x.3.long (omega arith) in (x.0, x.1, omega arith))

  module _ {a b : S} (i : ℕ) (end : i ≡ n) (size : length us ≡ n) (p : FilledTo facts place n us a b i) where
    whole : FilledTo facts place n us a b n
    whole = subst (λ m. FilledTo facts place n us a b m) end p

    pub filled_call : (facts a).stands.role ≡ Within
        → Called facts a b (IsOwn place n) (λ j k. no_act) (Ok tt) (by_steps n (FillsWith place us))
    filled_call w = called_by p.hint_is (λ k s m. let x = whole.did k s m in (
      x.0,
      x.1,
      [],
      record {
        did = x.2;
        is = λ f. (refl, refl, refl);
        window = window_within [] x.2 ((fits a k s).role ∙ w) tt;
        grounds = tt;
        shows = (filled_all place n us k x.0 size x.3, x.3.counted);
      },
    ))

    pub filled_own : MayKnow facts a (IsOwn place n) → MayKnow facts b (IsOwn place n)
    filled_own may = ∥∥₁_map may (λ k. let x = whole.did k.0 k.1 k.2 in (x.0, x.1, own_length place n x.0 x.3.long))

    pub filled_ready : (facts a).stands.role ≡ Within → (kind : Kind)
        → MayKnow facts a (λ k. IsOwn place n k × AreWords (state_of k) kind us)
        → MayKnow facts b (IsReady kind place n)
    filled_ready w kind may = ∥∥₁_map may (λ k.
        let x = whole.did k.0 k.1 k.2.0 in
        let all = filled_words place n us k.0 x.0 size x.3 in (
          x.0,
          x.1,
          record {
            long = own_length place n x.0 x.3.long;
            words = λ q u there. word_later k.0 x.0 [] x.2 ((fits a k.0 k.1).role ∙ w) tt kind u
                (k.2.1 q u (ap (λ ws. slice_get ws q) (sym all) ∙ there));
          },
        ))

-- a word that may be an element, so often
pub all_words : (s : State) (kind : Kind) (n v : ℕ) → IsWord s kind v → AreWords s kind (replicate n v)
all_words s kind n v word i w there = subst (λ z. IsWord s kind z) (sym (among n v i w there)) word

-- units may be elements of a string
pub units_are_words : (s : State) (us : List ℕ) → ((i : ℕ) → Fits w16 (get_or us i 0)) → AreWords s Text us
units_are_words s us units q u there = subst (λ z. z < 2 ^ 16) (get_or_from_slice_get us q u 0 there) (units q).fits
