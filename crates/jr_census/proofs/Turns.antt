-- One load after the other, while one collects: what was told before is so still.
use Rattle.std.proofs.Common.{◌≡◌, ◌≤◌, ◌+◌, ℕ, [], refl, ap, ◌∙◌}
use mathlib.Core.Logic.{∥∥₁_map}
use Rattle.jr_model.specs.declared.event.Role.TheVariants.{Collecting}
use Rattle.jr_model.specs.State.{HaveSameTables}
use Rattle.jr_steps.specs.declared.known.Known.{Known}
use Rattle.jr_steps.specs.Knowing.{Facts, Standing, AreOf, CanReopen, MayKnow, Took, state_of}
use Rattle.jr_steps.proofs.CollectorFacts.{same_tables, tables_seen}
use Rattle.jr_compact.proofs.Counting.{within_more, within_most, within_none, within_then}
use Rattle.jr_weak.proofs.Leading.{closed_on}
use Rattle.jr_census.specs.Telling.{LoadsTell}

-- the gate may still be opened
reopen_on : (k k' : Known) → HaveSameTables (state_of k) (state_of k') → k'.holdings.moving ≡ k.holdings.moving
    → CanReopen k → CanReopen k'
reopen_on k k' same moving can = (closed_on (state_of k) (state_of k') same can.0, moving ∙ can.1)

module _ {S : Type 0} {facts : S → Facts} where
  -- what may be known after loads
  pub may_told : {a b : S} {most : Known → ℕ} {tells : Known → Type 0} → MayKnow facts a CanReopen
      → LoadsTell facts most a b tells → MayKnow facts b (λ k. CanReopen k × tells k)
  may_told may p = ∥∥₁_map may (λ k. let x = p.leads k.0 k.1 k.2 in (x.0, x.1, x.3))

  -- and that the gate may be opened
  pub may_still : {a b : S} {most : Known → ℕ} {tells : Known → Type 0} → MayKnow facts a CanReopen
      → LoadsTell facts most a b tells → MayKnow facts b CanReopen
  may_still may p = ∥∥₁_map (may_told may p) (λ k. (k.0, k.1, k.2.0))

module _ {S : Type 0} {facts : S → Facts} (fits : AreOf facts) where
  -- nothing was loaded
  pub told_none : (a : S) {tells : Known → Type 0} → ((k : Known) → (facts a).knows k → tells k)
      → LoadsTell facts (λ j. 0) a a tells
  told_none a is = record {
    stands_is = refl;
    hint_is = refl;
    leads = λ k s can. (k, s, within_none k (fits a k s).legal, (can, is k s));
  }

  -- ONE LOAD MORE
  pub told_turn : {a b c : S} {most : Known → ℕ} {tells told : Known → Type 0} {met : Known → Type 0}
      {shows : Known → Known → Type 0} → (facts a).stands.role ≡ Collecting → LoadsTell facts most a b tells
      → Took facts b c [] met shows
      → ((k : Known) → CanReopen k → tells k → met k)
      → ((k k' : Known) → shows k k' → k'.holdings.moving ≡ k.holdings.moving)
      → ((k k' : Known) → (facts c).knows k' → HaveSameTables (state_of k) (state_of k') → k'.last ≡ k.last → tells k
      → shows k k' → told k')
      → LoadsTell facts (λ j. most j + 1) a c told
  told_turn {b = b} collects p t meets moving next = record {
    stands_is = t.stands_is ∙ p.stands_is;
    hint_is = t.hint_is ∙ p.hint_is;
    leads = λ k s can.
        let x = p.leads k s can in
        let y = t.goes x.0 x.1 (meets x.0 x.3.0 x.3.1) in
        let same = same_tables y.2 ((fits b x.0 x.1).role ∙ (ap (λ (z : Standing). z.role) p.stands_is ∙ collects)) in (
          y.0,
          y.1,
          within_more x.2 y.2,
          (reopen_on x.0 y.0 same (moving x.0 y.0 y.3) x.3.0, next x.0 y.0 y.1 same (y.2).last x.3.1 y.3),
        );
  }

  -- MORE LOADS, after which both are so
  pub told_then : {a b c : S} {m n : Known → ℕ} (all : Known → ℕ) {tells told both : Known → Type 0}
      → (facts a).stands.role ≡ Collecting → LoadsTell facts m a b tells → LoadsTell facts n b c told
      → ((k k' : Known) → HaveSameTables (state_of k) (state_of k') → k'.config ≡ k.config → m k + n k' ≤ all k)
      → ((k k' : Known) → (facts c).knows k' → HaveSameTables (state_of k) (state_of k') → k'.config ≡ k.config
      → k'.last ≡ k.last → tells k → told k' → both k')
      → LoadsTell facts all a c both
  told_then {a = a} {b = b} all collects p q few join = record {
    stands_is = q.stands_is ∙ p.stands_is;
    hint_is = q.hint_is ∙ p.hint_is;
    leads = λ k s can.
        let x = p.leads k s can in
        let y = q.leads x.0 x.1 x.3.0 in
        let same =
        tables_seen (y.2).sees ((fits b x.0 x.1).role ∙ (ap (λ (z : Standing). z.role) p.stands_is ∙ collects)) in
        let before = tables_seen (x.2).sees ((fits a k s).role ∙ collects) in (
          y.0,
          y.1,
          within_most (all k) (few k x.0 before ((x.2).sees).config) (within_then x.2 y.2),
          (y.3.0, join x.0 y.0 y.1 same ((y.2).sees).config ((y.2).sees).last x.3.1 y.3.1),
        );
  }

  -- it says this, too, by no more loads than this
  pub told_so : {a b : S} {most : Known → ℕ} (n : Known → ℕ) {tells told : Known → Type 0}
      → ((k : Known) → (facts a).knows k → most k ≤ n k) → ((k : Known) → (facts b).knows k → tells k → told k)
      → LoadsTell facts most a b tells → LoadsTell facts n a b told
  told_so n few more p = record {
    stands_is = p.stands_is;
    hint_is = p.hint_is;
    leads = λ k s can. let x = p.leads k s can in
        (x.0, x.1, within_most (n k) (few k s) x.2, (x.3.0, more x.0 x.1 x.3.1));
  }
