-- Objects are brought down, one to the end of the other.
use Rattle.std.proofs.Common.{◌≡◌, ◌≢◌, ⊎_elim, ℕ, zero, suc, ◌+◌, ◌-◌, ◌<◌, ◌≤◌, nat_eq, Option, List}
use Rattle.std.proofs.Common.{[], ◌∷◌, take, length, get_or, Contains, sym, ap, subst, ◌∙◌, arith}
use Rattle.std.proofs.lemmas.Bool.{cases_lt, eqb-false}
use Rattle.std.proofs.lemmas.List.{length-map}
use Rattle.std.proofs.lemmas.Map.Keys.{apart_from_distinct}
use Rattle.std.proofs.lemmas.List.Sums.{sum_by_more, sum_by-take-le}
use Rattle.std.specs.List.Sorted.{IsNonDecreasingBy}
use Rattle.jr_word.specs.declared.header.HeaderParts.{HeaderParts}
use Rattle.jr_model.specs.History.{IsLegal}
use Rattle.jr_model.specs.State.{Contents, HaveSameTables}
use Rattle.jr_model.proofs.Lengths.{lengths_fit}
use Rattle.jr_steps.specs.declared.known.Known.{Known}
use Rattle.jr_steps.specs.Collecting.{placed, IsFree}
use Rattle.jr_steps.specs.Holdings.{InSpace}
use Rattle.jr_steps.specs.Knowing.{state_of, KnowsHeader, IsSettled}
use Rattle.jr_compact.specs.declared.placed.PlacedObject.{PlacedObject}
use Rattle.jr_compact.specs.Noting.{numbers_of, noted_words, AreNoted, StandsAt}
use Rattle.jr_compact.specs.Sliding.{CanSlide}
use Rattle.jr_compact.proofs.Listed.{get_map, get_any}

abbrev pub number_of : PlacedObject → ℕ
number_of e = e.object

abbrev pub length_at : PlacedObject → ℕ
length_at e = e.header.length

abbrev pub place_at : PlacedObject → ℕ
place_at e = e.header.place

-- each object ends before those behind it begin
abbrev pub AreRising : List PlacedObject → Type 0
AreRising es = (i j : ℕ) (d : PlacedObject) → i < j → j < length es
    → place_at (get_or es i d) + length_at (get_or es i d) ≤ place_at (get_or es j d)

module _ (es : List PlacedObject) (k : Known) (noted : AreNoted es k) where
  -- different places of the list have different objects
  apart_at : (i j : ℕ) (d : PlacedObject) → i < j → j < length es
      → number_of (get_or es i d) ≢ number_of (get_or es j d)
  apart_at i j d l m =
      let long : length (numbers_of es) ≡ length es = length-map es number_of in
      let ne = eqb-false (get_or (numbers_of es) i (number_of d)) (get_or (numbers_of es) j (number_of d))
      (apart_from_distinct nat_eq (numbers_of es) i j (number_of d) noted.distinct l (omega arith)) in
      let a : get_or (numbers_of es) i (number_of d) ≡ number_of (get_or es i d) =
      get_map number_of es i d (omega arith) in
      let b : get_or (numbers_of es) j (number_of d) ≡ number_of (get_or es j d) = get_map number_of es j d m in
      λ e. ne (a ∙ (e ∙ sym b))

  others_apart : (i j : ℕ) (d : PlacedObject) → i ≢ j → i < length es → j < length es
      → number_of (get_or es i d) ≢ number_of (get_or es j d)
  others_apart i j d ne l m = ⊎_elim
      (λ q. apart_at i j d q m)
      (λ q. λ e. apart_at j i d (omega arith) l (sym e))
      (cases_lt i j)

  pub noted_rise : InSpace k.config k.holdings → IsNonDecreasingBy place_at es → AreRising es
  noted_rise space sorted i j d l m = ⊎_elim
      (λ q. absurd (inside q))
      (λ q. q)
      (cases_lt (place_at (get_or es j d)) (place_at (get_or es i d) + length_at (get_or es i d)))
    where
      inside : place_at (get_or es j d) < place_at (get_or es i d) + length_at (get_or es i d) → ⊥
      inside q =
          let up : place_at (get_or es i d) ≤ place_at (get_or es j d) = sorted i j d (omega arith) m in
          let here = noted.each i d (omega arith) in
          let there = noted.each j d m in
          let some = there.long in
          space.apart noted.settled (number_of (get_or es i d)) (number_of (get_or es j d)) (get_or es i d).header
          (get_or es j d).header (place_at (get_or es j d) - place_at (get_or es i d)) 0 (apart_at i j d l m) here.known
          there.known (omega arith) (omega arith) (omega arith)

-- the objects before one leave room for it where it stands
pub ends_before : (es : List PlacedObject) → AreRising es → (i : ℕ) (d : PlacedObject) → i < length es
    → noted_words (take i es) ≤ place_at (get_or es i d)
ends_before es rising zero d l = omega arith
ends_before es rising (suc i) d l =
    let rest = ends_before es rising i d (omega arith) in
    let more : noted_words (take (i + 1) es) ≡ noted_words (take i es) + length_at (get_or es i d) =
    sum_by_more length_at es i d (omega arith) in
    let next = rising i (suc i) d (omega arith) l in
    let one : suc i ≡ i + 1 = omega arith in
    let same : noted_words (take (suc i) es) ≡ noted_words (take (i + 1) es) = ap (λ n. noted_words (take n es)) one in
    omega arith

-- the first objects of the list end before the word `next`, and the others stand where they did
pub record IsBrought (es : List PlacedObject) (i next : ℕ) (k' : Known) : Type 0 where
  pub settled : IsSettled k'
  pub done : (j : ℕ) (d : PlacedObject) → j < i
      → (h : HeaderParts) × KnowsHeader (get_or es j d).object h k' × (h.place + h.length ≤ next)
  pub left : (j : ℕ) (d : PlacedObject) → i ≤ j → j < length es
      → KnowsHeader (get_or es j d).object (get_or es j d).header k'

-- an object with elements is in the list
pub in_list : (es : List PlacedObject) (o : ℕ) (d : PlacedObject) → Contains (numbers_of es) o
    → (j : ℕ) × (j < length es) × (number_of (get_or es j d) ≡ o)
in_list [] o d c = let none = c.1 in absurd (omega arith)
in_list (e ∷ es) o d (zero, l, is) = (0, (omega arith), is)
in_list (e ∷ es) o d (suc i, l, is) = let c = in_list es o d (i, (omega arith), is) in
    (suc c.0, (let m = c.1 in omega arith), c.2)

module _ (es : List PlacedObject) (i : ℕ) (d : PlacedObject) (inside : i < length es) (rising : AreRising es)
    (k k' : Known) (noted : AreNoted es k) (legal : IsLegal k.config k.last k.seen)
    (same : HaveSameTables (state_of k) (state_of k')) where
  module _ (brought : IsBrought es i (noted_words (take i es)) k') where
    -- the next object may be moved to the end of those before
    pub can_bring : CanSlide (number_of (get_or es i d)) (get_or es i d).header (noted_words (take i es)) k'
    can_bring =
        let down = ends_before es rising i d inside in
        let more : noted_words (take (i + 1) es) ≡ noted_words (take i es) + length_at (get_or es i d) =
        sum_by_more length_at es i d inside in
        let most : noted_words (take (i + 1) es) ≤ noted_words es = sum_by-take-le length_at es (i + 1) in
        let fit = (lengths_fit k.config k.last k.seen legal).0 in
        let sum = noted.sum in
        let used = same.used in
        record {
          known = brought.left i d (omega arith) inside;
          settled = brought.settled;
          down = down;
          room = λ j l. omega arith;
          free = λ j l. free_there j l;
        }
      where
        free_there : (j : ℕ) → j < length_at (get_or es i d)
            → IsFree (number_of (get_or es i d)) (noted_words (take i es) + j) k'
        free_there j l r x ne is some =
            let c =
            in_list es r d (noted.complete r x (ap (λ (m : ℕ → Option Contents). m r) (sym same.objects) ∙ is) some) in
            let down = ends_before es rising i d inside in
            ⊎_elim
            (λ (q : c.0 < i). let h = brought.done c.0 d q in
            (h.0, subst (λ n. KnowsHeader n h.0 k') c.2 h.1, λ m lm e. absurd (let end = h.2 in omega arith)))
            (λ (q : i ≤ c.0).
            let behind = brought.left c.0 d q c.1 in
            let before = rising i c.0 d (⊎_elim (λ (z : i < c.0). z) (λ (z : c.0 ≤ i). let e : i ≡ c.0 = omega arith in
            absurd (ne (ap (λ n. number_of (get_or es n d)) e ∙ c.2))) (cases_lt i c.0)) c.1 in (
              (get_or es c.0 d).header,
              subst (λ n. KnowsHeader n (get_or es c.0 d).header k') c.2 behind,
              λ m lm e. absurd (omega arith),
            ))
            (cases_lt c.0 i)

    -- and then one more stands there
    pub one_more : (k'' : Known)
        → StandsAt (number_of (get_or es i d)) (get_or es i d).header (noted_words (take i es)) k' k''
        → IsBrought es (i + 1) (noted_words (take i es) + length_at (get_or es i d)) k''
    one_more k'' stands = record {
      settled = stands.settled;
      done = λ j e l. ⊎_elim
          (λ (q : j < i).
          let h = brought.done j e q in (
            h.0,
            stands.others (get_or es j e).object
                (λ z. others_apart es k noted i j e (omega arith) inside (omega arith) (same_entry e ∙ z)) ∙ h.1,
            (let end = h.2 in omega arith),
          ))
          (λ (q : i ≤ j).
          let same_index : i ≡ j = omega arith in (
            placed (get_or es i d).header (noted_words (take i es)),
            subst (λ n. KnowsHeader n (placed (get_or es i d).header (noted_words (take i es))) k'')
                (sym (same_entry e) ∙ ap (λ n. number_of (get_or es n e)) same_index) stands.known,
            (omega arith),
          ))
          (cases_lt j i);
      left = λ j e m l. stands.others (get_or es j e).object (λ z.
          others_apart es k noted i j e (omega arith) inside l (same_entry e ∙ z)) ∙ brought.left j e (omega arith) l;
    }
      where
        same_entry : (e : PlacedObject) → number_of (get_or es i e) ≡ number_of (get_or es i d)
        same_entry e = ap number_of (get_any es i e d inside)
