-- The words that are used, and those of them that a collection frees.
use Rattle.std.proofs.Common.{◌≡◌, ◌≤◌, ◌+◌, ℕ, Bool, true, false, not, Option}
use Rattle.std.proofs.Common.{List, [], slice_index_or, sym, ap, ◌∙◌, arith}
use Rattle.std.proofs.Math.Logic.{∥∥₁_elim}
use Rattle.std.proofs.Props.{props}
use mathlib.Core.Logic.{∥∥₁_map}
use Rattle.jr_word.specs.declared.config.Config.{Config}
use Rattle.jr_model.specs.declared.event.Role.TheVariants.{Collecting}
use Rattle.jr_model.specs.Maps.{sum_below}
use Rattle.jr_model.specs.State.{Contents, State, HaveSameTables, length_of}
use Rattle.jr_model.proofs.Counts.{sum_split}
use Rattle.jr_model.proofs.Lengths.{lengths_fit}
use Rattle.jr_steps.specs.declared.known.Known.{Known}
use Rattle.jr_steps.specs.declared.known.Holdings.{Holdings}
use Rattle.jr_steps.specs.Knowing.{Facts, AreOf, MayKnow, ShowsUsed, Took, CanReopen, anything, keeps, state_of}
use Rattle.jr_steps.proofs.CollectorFacts.{same_tables}
use Rattle.jr_weak.specs.Marks.{IsExactly}
use Rattle.jr_weak.proofs.Collects.{same_back}
use Rattle.jr_weak.proofs.Leading.{reached_on}
use Rattle.jr_census.specs.declared.objects.Objects.{Objects as ObjectCounts}
use Rattle.jr_census.specs.declared.words.WordCounts.{WordCounts}
use Rattle.jr_census.specs.Counts.{AreObjects, AreUsedWords, HaveWords, marked, unless, unmarked}
use Rattle.jr_census.specs.Telling.{LoadsTell, HasUsed}
use Rattle.jr_census.proofs.Turns.{may_told, told_none, told_so, told_turn}

-- marked means reached in the same tables, too
pub exactly_on : (marks : List Bool) {s t : State} → HaveSameTables s t → IsExactly marks s → IsExactly marks t
exactly_on marks same e o = ((λ m. reached_on same o ((e o).0 m)), (λ r. (e o).1 (reached_on (same_back same) o r)))

-- an object is marked or not
parts_of : (b : Bool) (z : Option Contents) → length_of z ≡ length_of (unless (not b) z) + length_of (unless b z)
parts_of true z = omega arith
parts_of false z = omega arith

-- the words of the objects that are marked, and of those that aren't
pub both_parts : (n : ℕ) (marks : List Bool) (objects : ℕ → Option Contents) → sum_below n (λ o. length_of (objects o))
    ≡ sum_below n (λ o. length_of (marked marks objects o)) + sum_below n (λ o. length_of (unmarked marks objects o))
both_parts n marks objects =
    sum_split n (λ o. length_of (marked marks objects o)) (λ o. length_of (unmarked marks objects o))
    (λ o. length_of (objects o)) (λ o. parts_of (slice_index_or marks o false) (objects o))

-- so the words are, by those of the objects
pub words_from : (c : Config) (s : State) (marks : List Bool) (x y : ObjectCounts) (w : WordCounts) → IsExactly marks s
    → AreObjects c.objects s.objects x → AreObjects c.objects (unmarked marks s.objects) y → HaveWords x.words y.words w
    → w.used ≡ s.used → AreUsedWords c s w
words_from c s marks x y w exactly present unreached have is =
    let both = both_parts (c.objects + 1) marks s.objects in
    let all = present.words in
    let left = unreached.words in
    let reached = have.reached in
    record {
      used = is;
      lost = let l = have.lost in omega arith;
      reached = (marks, exactly, omega arith);
      freed = have.freed ∙ is;
    }

-- they are so of the same tables
pub words_on : (c : Config) (w : WordCounts) {s t : State} → HaveSameTables s t → AreUsedWords c s w
    → AreUsedWords c t w
words_on c w {s} {t} same are = record {
  used = are.used ∙ sym same.used;
  lost =
      let present = ap (λ (f : ℕ → Option Contents). sum_below (c.objects + 1) (λ o. length_of (f o))) same.objects in
      let lost = are.lost in
      let used = same.used in omega arith;
  reached = let r = are.reached in (
    r.0,
    exactly_on r.0 same r.1,
    r.2 ∙ ap (λ (f : ℕ → Option Contents). sum_below (c.objects + 1) (λ o. length_of (marked r.0 f o))) (sym
        same.objects),
  );
  freed = are.freed ∙ sym same.used;
}

module _ {S : Type 0} {facts : S → Facts} (fits : AreOf facts) where
  -- the objects' words are used
  pub has_used : {a b : S} {most : Known → ℕ} {tells : Known → Type 0} (marks : List Bool) (x y : ObjectCounts)
      → MayKnow facts a CanReopen → LoadsTell facts most a b tells
      → ((k : Known) → tells k → AreObjects k.config.objects (state_of k).objects x
      × AreObjects k.config.objects (unmarked marks (state_of k).objects) y) → MayKnow facts b (HasUsed x.words y.words)
  has_used {b = b} marks x y may told counted = ∥∥₁_map (may_told may told) (λ k.
      let both = both_parts ((k.0).config.objects + 1) marks (state_of k.0).objects in
      let fit = (lengths_fit (k.0).config (k.0).last (k.0).seen (fits b k.0 k.1).legal).0 in
      let z = counted k.0 k.2.1 in
      let all = (z.0).words in
      let left = (z.1).words in (k.0, k.1, (k.2.0, omega arith, omega arith)))

  -- so they are fewer than the top says
  pub used_most : {a b : S} (present unreached used : ℕ) → (facts a).stands.role ≡ Collecting
      → MayKnow facts a (HasUsed present unreached) → Took facts a b [] anything (λ j k. ShowsUsed used k × keeps j k)
      → (unreached ≤ present) × (present ≤ used)
  used_most {a} present unreached used collects may t = ∥∥₁_elim may (hlevel props) (λ k.
      let y = t.goes k.0 k.1 tt in
      let same = (same_tables y.2 ((fits a k.0 k.1).role ∙ collects)).used in
      let is = y.3.0 in
      let most = k.2.2 in (k.2.1, omega arith))

  -- THE TOP TELLS the rest
  pub words_told : {a b : S} (present unreached : ℕ) (w : WordCounts) → (facts a).stands.role ≡ Collecting
      → Took facts a b [] anything (λ j k. ShowsUsed w.used k × keeps j k) → HaveWords present unreached w
      → LoadsTell facts (λ j. 1) a b (λ k. HaveWords present unreached w × ShowsUsed w.used k)
  words_told {a} present unreached w collects t have = told_so fits (λ j. 1) (λ k s. omega arith) (λ k s h. h)
      (told_turn fits collects (told_none fits a {tells = anything} (λ k s. tt)) t (λ k can h. tt)
      (λ k k' shown. ap (λ (g : Holdings). g.moving) shown.1) (λ k k' s same last was shown. (have, shown.0)))
