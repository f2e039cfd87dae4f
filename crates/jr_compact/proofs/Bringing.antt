-- All objects that were noted are brought together.
use Rattle.std.proofs.Common.{◌≡◌, ℕ, ◌+◌, ◌<◌, ◌≤◌, ◌^◌, Option, List, take, length}
use Rattle.std.proofs.Common.{get_or, refl, sym, ap, subst, ◌∙◌, arith, take_all}
use Rattle.std.proofs.Math.Logic.{∥∥₁_elim, ∥∥₁_map}
use Rattle.std.proofs.Props.{props}
use Rattle.std.specs.List.Sorted.{IsNonDecreasingBy}
use Rattle.jr_word.specs.declared.config.Config.{Config}
use Rattle.jr_word.specs.declared.kind.Kind.TheVariants.{Plain}
use Rattle.jr_word.specs.Header.{IsHeader}
use Rattle.jr_model.specs.declared.event.Role.TheVariants.{Collecting}
use Rattle.jr_model.specs.Maps.{sum_below}
use Rattle.jr_model.specs.State.{Contents, HaveSameTables, length_of, present_words}
use Rattle.jr_steps.specs.declared.known.Known.{Known}
use Rattle.jr_steps.specs.Collecting.{placed, CanSettle}
use Rattle.jr_steps.specs.Holdings.{InSpace}
use Rattle.jr_steps.specs.Knowing.{AreOf, Facts, MayKnow, state_of, KnowsHeader}
use Rattle.jr_steps.proofs.CollectorFacts.{tables_seen}
use Rattle.jr_heap.proofs.Headers.{is_number}
use Rattle.jr_compact.specs.declared.placed.PlacedObject.{PlacedObject}
use Rattle.jr_compact.specs.Counting.{SawWithin, SeesWithin}
use Rattle.jr_compact.specs.Noting.{noted_words, AreNoted, StandsAt}
use Rattle.jr_compact.specs.Sliding.{CanSlide}
use Rattle.jr_compact.proofs.Counting.{within_none, within_then, within_most}
use Rattle.jr_compact.proofs.Together.{number_of, length_at, place_at, noted_rise}
use Rattle.jr_compact.proofs.Together.{ends_before, IsBrought, in_list, can_bring, one_more}

-- what the present objects have is the same where they are
same_words : (k k' : Known) → HaveSameTables (state_of k) (state_of k') → k'.config ≡ k.config
    → present_words k.config (state_of k) ≡ present_words k'.config (state_of k')
same_words k k' same config = ap (λ (c : Config). present_words c (state_of k)) (sym config)
    ∙ ap (λ (m : ℕ → Option Contents). sum_below (k'.config.objects + 1) (λ o. length_of (m o))) (sym same.objects)

-- what stands for an object that is missing
abbrev pub missing : PlacedObject
missing = record { object = 0; header = record { kind = Plain; length = 0; place = 0 } }

-- the objects that were brought are all that are present
all_brought : (es : List PlacedObject) (i next : ℕ) (k k' : Known) → i ≡ length es → next ≡ noted_words (take i es)
    → HaveSameTables (state_of k) (state_of k') → k'.config ≡ k.config → AreNoted es k → IsBrought es i next k'
    → CanSettle next k'
all_brought es i next k k' end is same config noted b = record {
  settled = b.settled;
  sum = is ∙ (ap noted_words (take_all i es (omega arith)) ∙ (noted.sum ∙ same_words k k' same config));
  below = λ r x there some.
      let c = in_list es r missing
      (noted.complete r x (ap (λ (m : ℕ → Option Contents). m r) (sym same.objects) ∙ there) some) in
      let inside = c.1 in
      let h = b.done c.0 missing (omega arith) in
      (h.0, subst (λ n. KnowsHeader n h.0 k') c.2 h.1, h.2);
}

module _ {S : Type 0} (facts : S → Facts) (fits : AreOf facts)
    (space : (s : S) (k : Known) → (facts s).knows k → InSpace k.config k.holdings) (es : List PlacedObject)
    (sorted : IsNonDecreasingBy place_at es) (a : S) where
  -- no object is brought yet
  pub brought_none : SawWithin facts (λ j. 0) a a (AreNoted es) (λ j k. IsBrought es 0 0 k)
  brought_none = record {
    stands_is = refl;
    hint_is = refl;
    leads = λ k s noted. (
      k,
      s,
      within_none k (fits a k s).legal,
      record {
        settled = noted.settled;
        done = λ j d l. absurd (omega arith);
        left = λ j d m l. (noted.each j d l).known;
      },
    );
  }

  module _ (i : ℕ) (d : PlacedObject) (inside : i < length es) (may : MayKnow facts a (AreNoted es)) where
    pub noted_number : (1 ≤ number_of (get_or es i d)) × (number_of (get_or es i d) ≤ (facts a).stands.config.objects)
    noted_number = is_number facts fits a (number_of (get_or es i d)) (∥∥₁_map may (λ k. let noted = k.2 in
        (k.0, k.1, (noted.each i d inside).present)))

    good : IsHeader (get_or es i d).header
    good = ∥∥₁_elim may (hlevel props) (λ k. let noted = k.2 in
        (space a k.0 k.1).good (number_of (get_or es i d)) (get_or es i d).header (noted.each i d inside).known)

    pub some_words : 1 ≤ length_at (get_or es i d)
    some_words = ∥∥₁_elim may (hlevel props) (λ k. let noted = k.2 in (noted.each i d inside).long)

    low : noted_words (take i es) ≤ place_at (get_or es i d)
    low = ∥∥₁_elim may (hlevel props) (λ k. ends_before es (noted_rise es k.0 k.2 (space a k.0 k.1) sorted) i d inside)

    -- its header can have the new place, which is a number of 32 bits, and its end too
    pub good_below : (next : ℕ) → next ≡ noted_words (take i es) → IsHeader (placed (get_or es i d).header next)
    good_below next is =
        let below = low in
        let some = some_words in
        let high = good.place in
        record {
          length = good.length;
          place = omega arith;
          length_fits = good.length_fits;
          place_fits = λ e. absurd (omega arith);
        }

    pub fits_below : (next : ℕ) → next ≡ noted_words (take i es) → next + length_at (get_or es i d) < 2 ^ 25
    fits_below next is =
        let below = low in
        let a = good.length in
        let b = good.place in
        omega arith

    module _ {b : S} (next : ℕ) (is : next ≡ noted_words (take i es)) (collects : (facts a).stands.role ≡ Collecting)
        (p : SawWithin facts (λ j. next + next + next) a b (AreNoted es) (λ j k. IsBrought es i next k)) where
      at_next : (k : Known) (s : (facts a).knows k) (noted : AreNoted es k) → (k' : Known) × (facts b).knows k'
          × SeesWithin (next + next + next) k k' × IsBrought es i (noted_words (take i es)) k'
          × CanSlide (number_of (get_or es i d)) (get_or es i d).header next k'
      at_next k s noted =
          let x = p.leads k s noted in
          let of = fits a k s in
          let brought = subst (λ n. IsBrought es i n x.0) is x.3 in (
            x.0,
            x.1,
            x.2,
            brought,
            subst (λ n. CanSlide (number_of (get_or es i d)) (get_or es i d).header n x.0) (sym is)
                (can_bring es i d inside (noted_rise es k noted (space a k s) sorted) k x.0 noted of.legal
                (tables_seen (x.2).sees (of.role ∙ collects)) brought),
          )

      -- the next object may be brought down
      pub bringable : MayKnow facts b (CanSlide (number_of (get_or es i d)) (get_or es i d).header next)
      bringable = ∥∥₁_map may (λ k. let x = at_next k.0 k.1 k.2 in (x.0, x.1, x.4))

      -- and then it is
      pub brought_more : {c : S} → SawWithin facts (λ j. length_at (get_or es i d) + length_at (get_or es i d) + 1) b c
          (CanSlide (number_of (get_or es i d)) (get_or es i d).header next)
          (StandsAt (number_of (get_or es i d)) (get_or es i d).header next) → SawWithin facts (λ j.
          next + length_at (get_or es i d) + (next + length_at (get_or es i d)) + (next + length_at (get_or es i d))) a
          c (AreNoted es) (λ j k. IsBrought es (i + 1) (next + length_at (get_or es i d)) k)
      brought_more t = record {
        stands_is = t.stands_is ∙ p.stands_is;
        hint_is = t.hint_is ∙ p.hint_is;
        leads = λ k s noted.
            let x = at_next k s noted in
            let y = t.leads x.0 x.1 x.4 in
            let of = fits a k s in
            let stands = subst (λ n. StandsAt (number_of (get_or es i d)) (get_or es i d).header n x.0 y.0) is y.3 in
            let some = some_words in (
              y.0,
              y.1,
              within_most (next + length_at (get_or es i d) + (next + length_at (get_or es i d))
                  + (next + length_at (get_or es i d))) (omega arith) (within_then x.2 y.2),
              subst (λ n. IsBrought es (i + 1) (n + length_at (get_or es i d)) y.0) (sym is)
                  (one_more es i d inside (noted_rise es k noted (space a k s) sorted) k x.0 noted of.legal
                  (tables_seen (x.2).sees (of.role ∙ collects)) x.3 y.0 stands),
            );
      }

  -- all are brought together
  pub brought_all : {b : S} (i next : ℕ) → i ≡ length es → next ≡ noted_words (take i es)
      → (facts a).stands.role ≡ Collecting
      → SawWithin facts (λ j. next + next + next) a b (AreNoted es) (λ j k. IsBrought es i next k)
      → SawWithin facts (λ j. next + next + next) a b (AreNoted es) (λ j k. CanSettle next k)
  brought_all i next end is collects p = record {
    stands_is = p.stands_is;
    hint_is = p.hint_is;
    leads = λ k s noted.
        let x = p.leads k s noted in
        let of = fits a k s in (
          x.0,
          x.1,
          x.2,
          all_brought es i next k x.0 end is (tables_seen (x.2).sees (of.role ∙ collects)) ((x.2).sees).config noted
              x.3,
        );
  }
