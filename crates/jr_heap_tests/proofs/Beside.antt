-- Ranges of a pass beside each other.
use Rattle.std.proofs.Common.{◌≡◌, ◌≢◌, ◌==◌, ◌<◌, ◌^◌, ℕ, Bool, true, false, cond, length, slice_get, Some}
use Rattle.std.proofs.Common.{List, [], Result, Ok, Err, inl, refl, sym, ap, subst, ◌∙◌, ne_eqb, arith}
use Rattle.std.proofs.Math.Logic.{∥∥₁_elim}
use Rattle.jr_word.specs.declared.fault.Fault.{Fault}
use Rattle.jr_word.specs.declared.kind.Kind.TheVariants.{Int}
use Rattle.jr_model.specs.State.{AreWords}
use Rattle.jr_model.specs.Calls.{Call}
use Rattle.jr_model.proofs.Updates.{eq_self}
use Rattle.jr_steps.specs.declared.known.Known.{Known}
use Rattle.jr_steps.specs.declared.known.Holdings.{Holdings}
use Rattle.jr_steps.specs.Holdings.{words_at, header_in, with_range}
use Rattle.jr_steps.specs.Knowing.{Facts, MayKnow, anything, state_of, without_range_of}
use Rattle.jr_heap.specs.Heap.{Called, header_of, own_words, IsOwn, IsReady, Gains, Fills, Publishes, HoldsHeader}
use Rattle.jr_heap.proofs.Calling.{may_called}
use Rattle.jr_heap.proofs.Filling.{among}
use Rattle.jr_heap.proofs.Reserving.{own_range}

-- words of a range are the same, so it is ready still
pub ready_same : (p n : ℕ) (j k : Known) → words_at p k.holdings.ranges ≡ words_at p j.holdings.ranges
    → IsReady Int p n j → IsReady Int p n k
ready_same p n j k e r =
    let same : own_words p n k ≡ own_words p n j = ap (λ ws. cond (n == 0) [] ws) e in
    record {
      long = ap (λ (ws : List ℕ). length ws) same ∙ r.long;
      words = subst (λ ws. AreWords (state_of j) Int ws) (sym same) r.words;
    }

-- a reservation is elsewhere
elsewhere : (p q : ℕ) (j k : Known) → IsReady Int p 3 j → Gains 2 q j k → p ≢ q
elsewhere p q j k r g e =
    let none = ap (λ (ws : List ℕ). length ws) (subst (λ z. words_at z j.holdings.ranges ≡ []) (sym e) g.3) in
    let long = r.long in absurd (omega arith)

-- and leaves the range ready
ready_beside : (p q : ℕ) (j k : Known) → IsReady Int p 3 j → Gains 2 q j k → IsReady Int p 3 k
ready_beside p q j k r g =
    let ne = elsewhere p q j k r g in
    ready_same p 3 j k (ap (λ (h : Holdings). words_at p h.ranges) g.2
    ∙ ap (λ b. cond b g.0 (words_at p j.holdings.ranges)) (ne_eqb q p (λ e. ne (sym e)))) r

-- a filled range is ready
filled_int : (q : ℕ) (j k : Known) → Fills q 2 8 j k → IsReady Int q 2 k
filled_int q j k f = record {
  long = ap (λ (ws : List ℕ). length ws) f.words;
  words = λ i v there.
      subst (λ z. z < 2 ^ 32) (sym (among 2 8 i v (ap (λ ws. slice_get ws i) (sym f.words) ∙ there))) (omega arith);
}

-- so does a filling of another
pub ready_filled : (p n q m v : ℕ) (j k : Known) → p ≢ q → Fills q m v j k → IsReady Int p n j → IsReady Int p n k
ready_filled p n q m v j k ne f r = ready_same p n j k (f.others p (inl ne)) r

-- and a publication of another
pub ready_published : (p n q m : ℕ) (answer : Result ℕ Fault) (j k : Known) → p ≢ q → Publishes Int q m answer j k
    → IsReady Int p n j → IsReady Int p n k
ready_published p n q m (Err e) j k ne s r = ready_same p n j k (ap (λ (g : Holdings). words_at p g.ranges) s) r
ready_published p n q m (Ok o) j k ne s r =
    ready_same p n j k (ap (λ (g : Holdings). words_at p g.ranges) s.1 ∙ go (m == 0)) r
  where
    go : (b : Bool) → words_at p (cond b j.holdings (with_range j.holdings q [])).ranges ≡ words_at p j.holdings.ranges
    go true = refl
    go false = ap (λ b. cond b [] (words_at p j.holdings.ranges)) (ne_eqb q p (λ e. ne (sym e)))

-- who publishes holds the header
pub published_holds : (q m o : ℕ) (j k : Known) → Publishes Int q m (Ok o) j k → IsReady Int q m j
    → HoldsHeader o (header_of Int q m) k
published_holds q m o j k s r = record {
  known = ap (λ (g : Holdings). header_in o g.headers) s.1 ∙ ap (λ b. cond b (Some (header_of Int q m))
      (header_in o (without_range_of (header_of Int q m) j.holdings).headers)) (eq_self o);
  shown = record {
    contents = record { kind = Int; words = own_words q m j };
    is = s.0;
    says = record { kind = refl; long = r.long };
  };
}

module _ {S : Type 0} {facts : S → Facts} {a b : S} {A : Type 0} {call : Known → Known → Call A}
    {answer : Result A Fault} (p q n : ℕ) (three : n ≡ 3) (may : MayKnow facts a (IsReady Int p n))
    (reserved : Called facts a b anything call answer (Gains 2 q)) where
  pub apart : p ≢ q
  apart e =
      let first : MayKnow facts a (IsReady Int p 3) = subst (λ z. MayKnow facts a (IsReady Int p z)) three may in
      let each : ((k : Known) × (facts a).knows k × IsReady Int p 3 k) → ⊥ = λ k. let r = reserved.ran k.0 k.1 tt in
      elsewhere p q k.0 r.0 k.2 r.3 e in
      ∥∥₁_elim first (λ x y. absurd x) each

  -- a range that was filled, and then another that was reserved and filled
  pub both_ready : {c : S} {B : Type 0} {call' : Known → Known → Call B} {answer' : Result B Fault} (m : ℕ) → m ≡ 2
      → Called facts b c (IsOwn q m) call' answer' (Fills q m 8)
      → MayKnow facts c (λ k. IsReady Int p n k × IsReady Int q m k)
  both_ready {c} {B} {call'} {answer'} m two filled =
      let first : MayKnow facts a (IsReady Int p 3) = subst (λ z. MayKnow facts a (IsReady Int p z)) three may in
      let two_filled : Called facts b c (IsOwn q 2) call' answer' (Fills q 2 8) =
      subst (λ z. Called facts b c (IsOwn q z) call' answer' (Fills q z 8)) two filled in
      let own : MayKnow facts b (λ k. IsReady Int p 3 k × IsOwn q 2 k) = may_called reserved first (λ k w. tt)
      (λ k j s w acts d l. (ready_beside p q k j w l, own_range q 2 k j l.0 l.1 l.2)) in
      let both : MayKnow facts c (λ k. IsReady Int p 3 k × IsReady Int q 2 k) = may_called two_filled own (λ k w. w.1)
      (λ k j s w acts d l. (ready_filled p 3 q 2 8 k j apart l w.0, filled_int q k j l)) in
      subst (λ (z : ℕ × ℕ). MayKnow facts c (λ k. IsReady Int p z.0 k × IsReady Int q z.1 k))
      (λ i. (sym three i, sym two i)) both
