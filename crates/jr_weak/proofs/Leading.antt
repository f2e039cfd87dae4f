-- Steps without an act, one after the other, while one collects.
use Rattle.std.proofs.Common.{◌≡◌, ◌<◌, ◌≤◌, ◌+◌, ℕ, Bool, true, Option, Some, None}
use Rattle.std.proofs.Common.{List, [], length, slice_set, refl, sym, ap, subst, ◌∙◌}
use Rattle.std.proofs.Math.Logic.{∥∥₁_elim}
use Rattle.std.proofs.Props.{props}
use mathlib.Core.Logic.{dite, ∥∥₁_map}
use native.Mathlib.Decide.{ℕ_discrete}
use Rattle.jr_word.specs.declared.config.Config.{Config}
use Rattle.jr_model.specs.declared.event.Role.TheVariants.{Collecting}
use Rattle.jr_model.specs.State.{Contents, State, IsPresent, IsReached, IsClosed}
use Rattle.jr_model.specs.State.{HaveSameTables, from_global, from_local, from_element}
use Rattle.jr_model.proofs.Collections.{reached_mono}
use Rattle.jr_model.proofs.InRoom.{in_room}
use Rattle.jr_steps.specs.declared.known.Known.{Known}
use Rattle.jr_steps.specs.declared.known.Holdings.{Holdings}
use Rattle.jr_steps.specs.Knowing.{Facts, Standing, AreOf, MayKnow, Took, state_of, keeps}
use Rattle.jr_steps.proofs.CollectorFacts.{tables_seen, same_tables}
use Rattle.jr_compact.proofs.Counting.{within_none, within_more, within_then, within_most}
use Rattle.jr_weak.specs.Marks.{IsMarked, IsSound, with_mark}
use Rattle.jr_weak.specs.Marking.{IsMarking, MarkedTo}
use Rattle.jr_weak.proofs.Queues.{marked_here, marked_more, marked_less}

-- what is reached is so in the same tables
pub reached_on : {s s' : State} → HaveSameTables s s' → (o : ℕ) → IsReached s o → IsReached s' o
reached_on {s} {s'} same o r = reached_mono s s' (record {
  globals = λ h o k is. ap (λ f. f h) same.refs ∙ is;
  locals = λ t p o is. ap (λ f. f t p) same.locals ∙ is;
  objects = λ o x r is. ap (λ (f : ℕ → Option Contents). f o) same.objects ∙ is;
}) r

pub closed_on : (s s' : State) → HaveSameTables s s' → IsClosed s → IsClosed s'
closed_on s s' same c = subst (λ (f : ℕ → Option Contents). IsClosed (record s' { objects = f })) (sym same.objects) c

-- what is reached is present
pub reached_present : (s : State) (o : ℕ) → IsReached s o → IsPresent s o
reached_present s o (from_global h k is p) = p
reached_present s o (from_local t q is p) = p
reached_present s o (from_element a i x r is k at p) = p

pub marking_on : (marks : List Bool) (k k' : Known) → HaveSameTables (state_of k) (state_of k')
    → k'.holdings.moving ≡ k.holdings.moving → IsMarking marks k → IsMarking marks k'
marking_on marks k k' same moving m = record {
  sound = λ o q. reached_on same o (m.sound o q);
  closed = closed_on (state_of k) (state_of k') same m.closed;
  settled = moving ∙ m.settled;
}

sound_with : (marks : List Bool) (o : Option ℕ) (s : State) → IsSound marks s → ((r : ℕ) → o ≡ Some r → IsReached s r)
    → IsSound (with_mark marks o) s
sound_with marks None s sound reached = sound
sound_with marks (Some r) s sound reached = λ o m. dite (ℕ_discrete o r)
    (λ e. subst (IsReached s) (sym e) (reached r refl))
    (λ ne. sound o (marked_less marks r o ne m))

pub more_with : (marks : List Bool) (o : Option ℕ) → ((r : ℕ) → o ≡ Some r → r < length marks) → (q : ℕ)
    → IsMarked marks q → IsMarked (with_mark marks o) q
more_with marks None few q m = m
more_with marks (Some r) few q m = marked_more marks r q (few r refl) m

pub here_with : (marks : List Bool) (o : Option ℕ) → ((r : ℕ) → o ≡ Some r → r < length marks) → (r : ℕ) → o ≡ Some r
    → IsMarked (with_mark marks o) r
here_with marks None few r e = absurd cc
here_with marks (Some q) few r e = let same : q ≡ r = cc in
    subst (IsMarked (slice_set marks q true)) same (marked_here marks q (few q refl))

module _ {S : Type 0} {facts : S → Facts} where
  -- what may be known after such steps
  pub may_marked : {a b : S} {most : Known → ℕ} {marks marks' : List Bool} {has : List Bool → Known → Type 0}
      → MayKnow facts a (IsMarking marks) → MarkedTo facts most marks marks' a b has
      → MayKnow facts b (IsMarking marks')
  may_marked may p = ∥∥₁_map may (λ k. let x = p.saw.leads k.0 k.1 k.2 in (x.0, x.1, x.3.0))

-- what an object is of which a step tells, and what is had once it is marked
pub record Adds (marks : List Bool) (o : Option ℕ) (has : List Bool → Known → Type 0) (k : Known) : Type 0 where
  pub reached : (r : ℕ) → o ≡ Some r → IsReached (state_of k) r
  pub had : has (with_mark marks o) k

-- an object that is reached has a number of the room
pub reached_few : {S : Type 0} (facts : S → Facts) (fits : AreOf facts) (c : S) (k : Known) → (facts c).knows k
    → (o : ℕ) → IsReached (state_of k) o → (1 ≤ o) × (o ≤ (facts c).stands.config.objects)
reached_few facts fits c k s o r =
    let of = fits c k s in
    let row = (in_room k.config k.last k.seen of.legal).objects o (reached_present (state_of k) o r) in
    (row.0, subst (λ (c : Config). o ≤ c.objects) of.config row.1)

module _ {S : Type 0} {facts : S → Facts} (fits : AreOf facts) where
  -- nothing was done
  pub marked_none : (marks : List Bool) (a : S) {has : List Bool → Known → Type 0} → ((k : Known) → has marks k)
      → MarkedTo facts (λ j. 0) marks marks a a has
  marked_none marks a has' = record {
    more = λ o m. m;
    saw = record {
      stands_is = refl;
      hint_is = refl;
      leads = λ k s m. (k, s, within_none k (fits a k s).legal, (m, has' k));
    };
  }

  -- ONE STEP MORE, and the object of which it tells is marked
  pub marked_turn : {a b c : S} {most : Known → ℕ} {marks marks' after : List Bool}
      {has had : List Bool → Known → Type 0} {met : Known → Type 0} {shows : Known → Type 0}
      → (facts a).stands.role ≡ Collecting → MarkedTo facts most marks marks' a b has
      → Took facts b c [] met (λ j k. shows k × keeps j k) → (o : Option ℕ) → after ≡ with_mark marks' o
      → ((r : ℕ) → o ≡ Some r → r < length marks')
      → ((k : Known) → IsMarking marks' k → has marks' k → met k)
      → ((k k' : Known) → (facts c).knows k' → HaveSameTables (state_of k) (state_of k') → keeps k k'
      → IsMarking marks' k' → has marks' k → shows k' → Adds marks' o had k')
      → MarkedTo facts (λ j. most j + 1) marks after a c had
  marked_turn {a} {b} {c} {most} {marks} {marks'} {after} {has} {had} {met} {shows} collects p t o is few meets adds =
      subst (λ ms. MarkedTo facts (λ j. most j + 1) marks ms a c had) (sym is) (record {
        more = λ q m. more_with marks' o few q (p.more q m);
        saw = record {
          stands_is = t.stands_is ∙ p.saw.stands_is;
          hint_is = t.hint_is ∙ p.saw.hint_is;
          leads = λ k s m.
              let x = p.saw.leads k s m in
              let y = t.goes x.0 x.1 (meets x.0 x.3.0 x.3.1) in
              let same =
              same_tables y.2 ((fits b x.0 x.1).role ∙ (ap (λ (z : Standing). z.role) p.saw.stands_is ∙ collects)) in
              let marking = marking_on marks' x.0 y.0 same (ap (λ (g : Holdings). g.moving) y.3.1) x.3.0 in
              let added = adds x.0 y.0 y.1 same y.3.1 marking x.3.1 y.3.0 in (
                y.0,
                y.1,
                within_more x.2 y.2,
                (
                  record {
                    sound = sound_with marks' o (state_of y.0) marking.sound added.reached;
                    closed = marking.closed;
                    settled = marking.settled;
                  },
                  added.had,
                ),
              );
        };
      })

  -- so has one of which a step tells
  pub told_few : {b c : S} {met : Known → Type 0} {shows : Known → Type 0} (o : ℕ) → MayKnow facts b met
      → Took facts b c [] met (λ j k. shows k × keeps j k)
      → ((k k' : Known) → (facts b).knows k → (facts c).knows k' → met k → HaveSameTables (state_of k) (state_of k')
      → shows k' → IsReached (state_of k') o) → (facts b).stands.role ≡ Collecting
      → (1 ≤ o) × (o ≤ (facts c).stands.config.objects)
  told_few {b} {c} {met} o may t reached collects =
      (∥∥₁_elim may (hlevel props) (λ k. (here k).0), ∥∥₁_elim may (hlevel props) (λ k. (here k).1))
    where
      here : ((k : Known) × (facts b).knows k × met k) → (1 ≤ o) × (o ≤ (facts c).stands.config.objects)
      here k = let y = t.goes k.0 k.1 k.2 in reached_few facts fits c y.0 y.1 o
          (reached k.0 y.0 k.1 y.1 k.2 (same_tables y.2 ((fits b k.0 k.1).role ∙ collects)) y.3.0)

  -- more was marked after more, by no more steps than both
  pub marked_join : {a b c : S} {m n : Known → ℕ} (all_steps : Known → ℕ) {marks marks' marks'' : List Bool}
      {has had all : List Bool → Known → Type 0} → (facts a).stands.role ≡ Collecting
      → MarkedTo facts m marks marks' a b has → (q : MarkedTo facts n marks' marks'' b c had)
      → ((k k' : Known) → HaveSameTables (state_of k) (state_of k') → k'.config ≡ k.config → m k + n k' ≤ all_steps k)
      → ((k k' : Known) → (facts c).knows k' → HaveSameTables (state_of k) (state_of k') → has marks' k → had marks'' k'
      → all marks'' k') → MarkedTo facts all_steps marks marks'' a c all
  marked_join {a = a} {b = b} all_steps collects p q few both = record {
    more = λ o m. q.more o (p.more o m);
    saw = record {
      stands_is = q.saw.stands_is ∙ p.saw.stands_is;
      hint_is = q.saw.hint_is ∙ p.saw.hint_is;
      leads = λ k s m.
          let x = p.saw.leads k s m in
          let y = q.saw.leads x.0 x.1 x.3.0 in
          let same =
          tables_seen (y.2).sees ((fits b x.0 x.1).role ∙ (ap (λ (z : Standing). z.role) p.saw.stands_is ∙ collects)) in
          let before = tables_seen (x.2).sees ((fits a k s).role ∙ collects) in (
            y.0,
            y.1,
            within_most (all_steps k) (few k x.0 before ((x.2).sees).config) (within_then x.2 y.2),
            (y.3.0, both x.0 y.0 y.1 same x.3.1 y.3.1),
          );
    };
  }

  -- and it shows this too
  pub marked_so : {a b : S} {most : Known → ℕ} {marks marks' : List Bool} {has had : List Bool → Known → Type 0}
      → MarkedTo facts most marks marks' a b has → ((k : Known) → (facts b).knows k → has marks' k → had marks' k)
      → MarkedTo facts most marks marks' a b had
  marked_so p more = record {
    more = p.more;
    saw = record {
      stands_is = p.saw.stands_is;
      hint_is = p.saw.hint_is;
      leads = λ k s m. let x = p.saw.leads k s m in (x.0, x.1, x.2, (x.3.0, more x.0 x.1 x.3.1));
    };
  }

  -- by no more steps than this, either
  pub marked_most : {a b : S} {most : Known → ℕ} {marks marks' : List Bool} {has : List Bool → Known → Type 0}
      (n : Known → ℕ) → ((k : Known) → (facts a).knows k → most k ≤ n k) → MarkedTo facts most marks marks' a b has
      → MarkedTo facts n marks marks' a b has
  marked_most n few p = record {
    more = p.more;
    saw = record {
      stands_is = p.saw.stands_is;
      hint_is = p.saw.hint_is;
      leads = λ k s m. let x = p.saw.leads k s m in (x.0, x.1, within_most (n k) (few k s) x.2, x.3);
    };
  }
