-- All arrays are moved together, and the top is set.
use Rattle.std.proofs.Common.{◌≡◌, ℕ, ◌+◌, ◌≤◌, nat_eq, List, [], ◌∷◌, ◌++◌, length}
use Rattle.std.proofs.Common.{IsPermutation, Option, sym, ap, ◌∙◌, arith, append-nil}
use Rattle.std.proofs.lemmas.Bool.Decides.{nat_tests}
use Rattle.std.proofs.Math.Logic.{∥∥₁_elim, ∥∥₁_map}
use Rattle.std.proofs.Props.{props}
use Rattle.std.proofs.lemmas.List.Sorted.{All-permutation, Contains-permutation}
use Rattle.std.proofs.lemmas.List.Sorted.{sum_by-IsPermutation, IsPermutation-map}
use Rattle.std.proofs.lemmas.Map.Keys.{IsDistinct-IsPermutation}
use Rattle.jr_word.specs.declared.config.Config.{Config}
use Rattle.jr_model.specs.declared.event.Act.TheVariants.{Settle}
use Rattle.jr_model.specs.declared.event.Role.TheVariants.{Collecting}
use Rattle.jr_model.specs.History.{Did}
use Rattle.jr_model.specs.Maps.{sum_below}
use Rattle.jr_model.specs.State.{Contents, State, HaveSameTables, length_of, present_words}
use Rattle.jr_model.proofs.Lengths.{lengths_fit}
use Rattle.jr_model.proofs.Stays.{did_added, did_then}
use Rattle.jr_model.proofs.Windows.{window_act}
use Rattle.jr_steps.specs.declared.known.Known.{Known}
use Rattle.jr_steps.specs.declared.known.Holdings.{Holdings}
use Rattle.jr_steps.specs.Collecting.{CanSettle}
use Rattle.jr_steps.specs.Knowing.{AreOf, Facts, MayKnow, Sees, Standing, Took, keeps, standing_after, state_of, view}
use Rattle.jr_steps.proofs.CollectorFacts.{goes_act, tables_seen}
use Rattle.jr_steps.proofs.StepFacts.{goes_did}
use Rattle.jr_gate.specs.Acting.{ActedTo}
use Rattle.jr_compact.specs.declared.placed.PlacedObject.{PlacedObject}
use Rattle.jr_compact.specs.Compacting.{CanCompact, AreCompacted}
use Rattle.jr_compact.specs.Counting.{SawWithin, SeesWithin, TakesWithin}
use Rattle.jr_compact.specs.Noting.{numbers_of, IsNoted, AreNoted}
use Rattle.jr_compact.proofs.Counting.{within_then}
use Rattle.jr_compact.proofs.Together.{number_of, length_at}

equal_flips : (x y : ℕ) → nat_eq x y ≡ nat_eq y x
equal_flips x y = grind (arith, nat_tests)

-- what was noted is noted in any order
noted_sorted : (es fs : List PlacedObject) (k : Known) → IsPermutation es fs → AreNoted es k → AreNoted fs k
noted_sorted es fs k moved noted =
    let numbers = IsPermutation-map number_of es fs moved in
    record {
      settled = noted.settled;
      each = All-permutation (IsNoted k) es fs moved noted.each;
      distinct = IsDistinct-IsPermutation nat_eq equal_flips (numbers_of es) (numbers_of fs) numbers noted.distinct;
      complete =
          λ o x is some. Contains-permutation (numbers_of es) (numbers_of fs) o numbers (noted.complete o x is some);
      sum = sum_by-IsPermutation length_at es fs moved ∙ noted.sum;
    }

sees_did : {k k' : Known} → Sees k k' → Did (view k) (view k') []
sees_did {k} {k'} s =
    did_added s.between [] s.config s.last s.thread (s.seen ∙ sym (append-nil (k.seen ++ s.between))) s.others s.legal

-- the top is set: so many words are used, and nothing else is other
settles : (used : ℕ) (k k' k'' : Known) → Sees k k' → HaveSameTables (state_of k) (state_of k')
    → ((s : State) × HaveSameTables (state_of k') s × (state_of k'' ≡ record s { used = used }))
    → k''.config ≡ k'.config → CanSettle used k' → keeps k' k'' → AreCompacted used k k''
settles used k k' k'' sees same after config can held =
    let first = after.1 in
    let objects : (state_of k'').objects ≡ (state_of k').objects =
    ap (λ (z : State). z.objects) after.2 ∙ first.objects in
    record {
      tables = record {
        refs = ap (λ (z : State). z.refs) after.2 ∙ (first.refs ∙ same.refs);
        given = ap (λ (z : State). z.given) after.2 ∙ (first.given ∙ same.given);
        locals = ap (λ (z : State). z.locals) after.2 ∙ (first.locals ∙ same.locals);
        objects = objects ∙ same.objects;
        used = ap (λ (z : State). z.used) after.2;
      };
      sum = can.sum ∙ (ap (λ (c : Config). present_words c (state_of k')) (sym config)
          ∙ ap (λ (m : ℕ → Option Contents). sum_below (k''.config.objects + 1) (λ o. length_of (m o))) (sym objects));
      settled = ap (λ (g : Holdings). g.moving) held ∙ can.settled;
    }

module _ {S : Type 0} (facts : S → Facts) (fits : AreOf facts) (present : List ℕ) (es fs : List PlacedObject)
    (moved : IsPermutation es fs) {a b : S}
    (noted : SawWithin facts (λ j. length present) a b (CanCompact present) (λ j k. AreNoted es k)) where
  -- what was sorted is noted still
  pub sorted_noted : MayKnow facts a (CanCompact present) → MayKnow facts b (AreNoted fs)
  sorted_noted may = ∥∥₁_map may (λ k. let x = noted.leads k.0 k.1 k.2 in (x.0, x.1, noted_sorted es fs x.0 moved x.3))

  module _ {c : S} {used : ℕ}
      (brought : SawWithin facts (λ j. used + used + used) b c (AreNoted fs) (λ j k. CanSettle used k)) where
    at_end : (k : Known) → (facts a).knows k → CanCompact present k → (k' : Known) × (facts c).knows k'
        × SeesWithin (length present + (used + used + used)) k k' × CanSettle used k'
    at_end k s can =
        let x = noted.leads k s can in
        let y = brought.leads x.0 x.1 (noted_sorted es fs x.0 moved x.3) in
        (y.0, y.1, within_then x.2 y.2, y.3)

    -- the top may be set
    pub settleable : MayKnow facts a (CanCompact present) → MayKnow facts c (CanSettle used)
    settleable may = ∥∥₁_map may (λ k. let x = at_end k.0 k.1 k.2 in (x.0, x.1, x.3))

    pub used_fits : MayKnow facts a (CanCompact present) → used ≤ (facts c).stands.config.words
    used_fits may = ∥∥₁_elim may (hlevel props) (λ k.
        let x = at_end k.0 k.1 k.2 in
        let of = fits c x.0 x.1 in
        let fit = lengths_fit x.0.config x.0.last x.0.seen of.legal in
        let low = fit.0 in
        let high = fit.1 in
        let sum = (x.3).sum in
        let words = ap (λ (z : Config). z.words) of.config in
        omega arith)

    -- and then all is done
    pub compacted : {d : S} → (facts a).stands.role ≡ Collecting
        → Took facts c d (Settle used ∷ []) (CanSettle used) keeps
        → ActedTo facts a d (Settle used ∷ []) (CanCompact present) (λ j k. AreCompacted used j k
        × TakesWithin (length present + (used + used + used) + 1) j k)
    compacted collects t = record {
      stands_is = t.stands_is
          ∙ ap (λ (s : Standing). standing_after s (Settle used ∷ [])) (brought.stands_is ∙ noted.stands_is);
      hint_is = t.hint_is ∙ (brought.hint_is ∙ noted.hint_is);
      leads = λ k s can.
          let x = at_end k s can in
          let y = t.goes x.0 x.1 x.3 in
          let same = tables_seen (x.2).sees ((fits a k s).role ∙ collects) in
          let some = (x.2).within in
          let one = (y.2).taken in
          let standing = ap (λ (z : Standing). z.role) (brought.stands_is ∙ noted.stands_is) in
          let did = did_then [] (Settle used ∷ []) (sees_did (x.2).sees) (goes_did y.2) in (
            y.0,
            y.1,
            did,
            (
              (
                settles used k x.0 y.0 (x.2).sees same (goes_act y.2 ((fits _ x.0 x.1).role ∙ (standing ∙ collects)))
                    (y.2).config x.3 y.3,
                omega arith,
              ),
              (view k).seen,
              window_act (Settle used) did tt tt,
            ),
          );
    }
