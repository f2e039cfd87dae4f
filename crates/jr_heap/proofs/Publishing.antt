-- Objects are published at the first absent number that a look comes to.
use Rattle.std.proofs.Common.{◌≡◌, ◌≤◌, ◌<◌, ◌+◌, ◌⊎◌, ⊎_elim, ℕ, Bool, true, false, cond, Some, None, length}
use Rattle.std.proofs.Common.{List, [], ◌∷◌, ◌++◌, Ok, Err, inl, inr, refl, sym, ap, subst, ◌∙◌, arith}
use mathlib.Core.Logic.{∥∥₁_map}
use Rattle.jr_word.specs.declared.fault.Fault.TheVariants.{ObjectsFull}
use Rattle.jr_word.specs.declared.config.Config.{Config}
use Rattle.jr_word.specs.declared.header.HeaderParts.{HeaderParts}
use Rattle.jr_word.specs.declared.kind.Kind.{Kind}
use Rattle.jr_model.specs.declared.event.Role.TheVariants.{Within}
use Rattle.jr_model.specs.declared.event.Act.TheVariants.{New}
use Rattle.jr_model.specs.State.{State, AreWords}
use Rattle.jr_model.specs.History.{by, state, role_of, Did}
use Rattle.jr_model.specs.Parts.{publish}
use Rattle.jr_model.proofs.Updates.{at_number_self, eq_self}
use Rattle.jr_model.proofs.Histories.{state_push}
use Rattle.jr_model.proofs.Moments.{sometime_last}
use Rattle.jr_model.proofs.Stays.{did_then}
use Rattle.jr_model.proofs.Windows.{window_act, window_within}
use Rattle.jr_steps.specs.declared.known.Known.{Known}
use Rattle.jr_steps.specs.declared.known.Holdings.{Holdings}
use Rattle.jr_steps.specs.Acts.{acts_of_publication}
use Rattle.jr_steps.specs.Holdings.{header_in, with_header}
use Rattle.jr_steps.specs.Knowing.{AreOf, Facts, Standing, MayKnow, Goes, view, state_of, words_for, without_range_of}
use Rattle.jr_steps.specs.Knowing.{HasObject, KnowsHeader, IsFilled, ShowsPublished, TookWith, Takes}
use Rattle.jr_steps.proofs.StepFacts.{goes_did}
use Rattle.jr_heap.specs.Heap.{Called, by_between, HoldsHeader, number_at_turn}
use Rattle.jr_heap.proofs.Calling.{called_by}
use Rattle.jr_heap.proofs.StayFacts.{present_later, word_later}
use Rattle.jr_heap.proofs.NumberSearch.{turn_of}

-- what stands after the event of a new object
new_stands : (k k' : Known) (o : ℕ) (kind : Kind) (ws : List ℕ) → Goes k (New o kind ws ∷ []) k'
    → (state_of k').objects o ≡ Some (record { kind = kind; words = ws })
new_stands k k' o kind ws g =
    let before = k.seen ++ g.between in
    ap (λ (s : State). s.objects o) (ap state g.seen ∙ state_push before (by k.thread (New o kind ws)))
    ∙ at_number_self (state before).objects o (Some (record { kind = kind; words = ws }))

last_or : (t n : ℕ) → t < n + 1 → (t < n) ⊎ (n ≡ t)
last_or t n l = grind arith

module _ {S : Type 0} (facts : S → Facts) (h : HeaderParts) (first objects : ℕ) where
  -- so many numbers were found present, and nothing was done
  pub record Passed (old new : S) (n : ℕ) : Type 0 where
    pub stands_is : (facts new).stands ≡ (facts old).stands
    pub hint_is : (facts new).hint ≡ (facts old).hint
    pub did : (k : Known) → (facts old).knows k → IsFilled h k
        → (k' : Known) × (facts new).knows k' × IsFilled h k' × (k'.holdings ≡ k.holdings)
        × ((t : ℕ) → t < n → HasObject (number_at_turn first t objects) k') × Did (view k) (view k') [] × Takes n k k'

-- an exchange of a header that is named otherwise
pub tried : {S : Type 0} {facts : S → Facts} {b c : S} (o : ℕ) (new : Bool) (h z : HeaderParts) → z ≡ h
    → TookWith facts b c (λ k. acts_of_publication o z.kind (words_for z k) new) (facts b).stands (IsFilled z)
    (ShowsPublished o z new) → TookWith facts b c (λ k. acts_of_publication o h.kind (words_for h k) new)
    (facts b).stands (IsFilled h) (ShowsPublished o h new)
tried {facts = facts} {b = b} {c = c} o new h z is t = subst (λ (y : HeaderParts). TookWith facts b c
    (λ k. acts_of_publication o y.kind (words_for y k) new) (facts b).stands (IsFilled y) (ShowsPublished o y new)) is t

-- a range that is ready stays so
filled_later : (h : HeaderParts) (k k' : Known) → Did (view k) (view k') [] → role_of (view k) ≡ Within
    → k'.holdings ≡ k.holdings → IsFilled h k → IsFilled h k'
filled_later h k k' d w e x =
    let same : words_for h k' ≡ words_for h k = ap (λ (g : Holdings). words_for h (record k { holdings = g })) e in
    record {
      long = ap (λ ws. length ws) same ∙ x.long;
      words = subst (AreWords (state_of k') h.kind) (sym same) (λ i v there.
          word_later k k' [] d w tt h.kind v (x.words i v there));
    }

module _ {S : Type 0} {facts : S → Facts} (fits : AreOf facts) (h : HeaderParts) (first objects : ℕ) where
  pub passed_more : {a b c : S} (n o : ℕ) → (facts a).stands.role ≡ Within → o ≡ number_at_turn first n objects
      → Passed facts h first objects a b n
      → TookWith facts b c (λ k. acts_of_publication o h.kind (words_for h k) false) (facts b).stands (IsFilled h)
      (ShowsPublished o h false) → Passed facts h first objects a c (n + 1)
  passed_more {a} {b} n o w is p t = record {
    stands_is = t.stands_is ∙ p.stands_is;
    hint_is = t.hint_is ∙ p.hint_is;
    did = λ k s m.
        let x = p.did k s m in
        let y = t.goes x.0 x.1 x.2 in
        let d = goes_did y.2 in
        let within = (fits b x.0 x.1).role ∙ (ap (λ (z : Standing). z.role) p.stands_is ∙ w) in (
          y.0,
          y.1,
          filled_later h x.0 y.0 d within y.3.1 x.2,
          y.3.1 ∙ x.3,
          λ u l. ⊎_elim (λ e. present_later x.0 y.0 [] d within tt (number_at_turn first u objects) (x.4 u e))
              (λ (e : n ≡ u). subst (λ z. HasObject z y.0) (is ∙ ap (λ z. number_at_turn first z objects) e) y.3.0)
              (last_or u n l),
          did_then [] [] x.5 d,
          (let u = x.6 in let v = y.2.taken in omega arith),
        );
  }

  pub passed_new : {a b c : S} {n : ℕ} (o all : ℕ) → objects ≡ all → n < objects → Passed facts h first objects a b n
      → TookWith facts b c (λ k. acts_of_publication o h.kind (words_for h k) true) (facts b).stands (IsFilled h)
      (ShowsPublished o h true)
      → Called facts a c (IsFilled h) (λ j k. publish h.kind (words_for h j)) (Ok o) (by_between 1 all (λ j k.
      ((state_of k).objects o ≡ Some (record { kind = h.kind; words = words_for h j }))
      × (k.holdings ≡ with_header (without_range_of h j.holdings) o h) × (header_in o j.holdings.headers ≡ None)))
  passed_new {n = n} o all same_all small p t = called_by (t.hint_is ∙ p.hint_is) (λ k s m.
      let x = p.did k s m in
      let y = t.goes x.0 x.1 x.2 in
      let same : words_for h x.0 ≡ words_for h k = ap (λ (g : Holdings). words_for h (record k { holdings = g })) x.3 in
      let d : Did (view k) (view y.0) (New o h.kind (words_for h k) ∷ []) =
      subst (λ ws. Did (view k) (view y.0) (New o h.kind ws ∷ [])) same
      (did_then [] (New o h.kind (words_for h x.0) ∷ []) x.5 (goes_did y.2)) in
      let there : (state_of y.0).objects o ≡ Some (record { kind = h.kind; words = words_for h k }) =
      new_stands x.0 y.0 o h.kind (words_for h x.0) y.2
      ∙ ap (λ ws. Some (record { kind = h.kind; words = ws })) same in (
        y.0,
        y.1,
        New o h.kind (words_for h k) ∷ [],
        record {
          did = d;
          is = λ f. inl (o, refl, refl, refl);
          window = window_act (New o h.kind (words_for h k)) d tt tt;
          grounds = tt;
          shows = (
            (
              there,
              y.3.1 ∙ ap (λ g. with_header (without_range_of h g) o h) x.3,
              subst (λ (g : Holdings). header_in o g.headers ≡ None) x.3 y.3.2,
            ),
            record {
              count = n + 1;
              low = omega arith;
              high = omega arith;
              takes = let u = x.6 in let v = y.2.taken in omega arith;
            },
          );
        },
      ))

  pub passed_present : {a b c : S} {n : ℕ} (o : ℕ) → MayKnow facts a (IsFilled h) → Passed facts h first objects a b n
      → TookWith facts b c (λ k. acts_of_publication o h.kind (words_for h k) true) (facts b).stands (IsFilled h)
      (ShowsPublished o h true) → MayKnow facts c (HasObject o)
  passed_present o may p t =
      ∥∥₁_map may (λ k. let x = p.did k.0 k.1 k.2 in let y = t.goes x.0 x.1 x.2 in (y.0, y.1, y.3.0))

  -- the pass knows the header of what it published
  pub passed_held : {a b c : S} {n : ℕ} (o : ℕ) → MayKnow facts a (IsFilled h) → Passed facts h first objects a b n
      → TookWith facts b c (λ k. acts_of_publication o h.kind (words_for h k) true) (facts b).stands (IsFilled h)
      (ShowsPublished o h true) → MayKnow facts c (HoldsHeader o h)
  passed_held o may p t = ∥∥₁_map may (λ k.
      let x = p.did k.0 k.1 k.2 in
      let y = t.goes x.0 x.1 x.2 in
      let known : KnowsHeader o h y.0 = ap (λ (g : Holdings). header_in o g.headers) y.3.1
      ∙ ap (λ b. cond b (Some h) (header_in o (without_range_of h x.0.holdings).headers)) (eq_self o) in (
        y.0,
        y.1,
        record {
          known = known;
          shown = record {
            contents = record { kind = h.kind; words = words_for h x.0 };
            is = new_stands x.0 y.0 o h.kind (words_for h x.0) y.2;
            says = record { kind = refl; long = (x.2).long };
          };
        },
      ))

  pub passed_ready : {a b : S} {n : ℕ} → MayKnow facts a (IsFilled h) → Passed facts h first objects a b n
      → MayKnow facts b (IsFilled h)
  passed_ready may p = ∥∥₁_map may (λ k. let x = p.did k.0 k.1 k.2 in (x.0, x.1, x.2))

  pub passed_all : {a b : S} (n all : ℕ) → objects ≡ all → (facts a).stands.role ≡ Within → n ≤ objects → objects ≤ n
      → ((k : Known) → (facts a).knows k → k.config.objects ≡ objects) → (1 ≤ objects → first < objects)
      → Passed facts h first objects a b n
      → Called facts a b (IsFilled h) (λ j k. publish h.kind (words_for h j)) (Err ObjectsFull) (by_between all all
      (λ j k. k.holdings ≡ j.holdings))
  passed_all {a} n all same_all w most end same low p = called_by p.hint_is (λ k s m.
      let x = p.did k s m in
      let each : (o : ℕ) → 1 ≤ o → o ≤ x.0.config.objects → HasObject o x.0 = λ o l u.
      let top : o ≤ objects = subst (λ z. o ≤ z) (ap (λ (c : Config). c.objects) x.5.config ∙ same k s) u in
      let t = turn_of first objects o (low (omega arith)) l top in
      subst (λ z. HasObject z x.0) t.2 (x.4 t.0 (let b = t.1 in omega arith)) in (
        x.0,
        x.1,
        [],
        record {
          did = x.5;
          is = λ f. inr (refl, refl, refl);
          window = window_within [] x.5 ((fits a k s).role ∙ w) tt;
          grounds = sometime_last x.5.begins each;
          shows = (x.3, record { count = n; low = omega arith; high = omega arith; takes = x.6 });
        },
      ))
