-- What a marked array names is marked.
use Rattle.std.proofs.Common.{◌≡◌, ◌≢◌, ⊎_elim, ◌+◌, ◌<◌, ◌≤◌, ℕ, Bool, true, false, cond, Option, Some, None}
use Rattle.std.proofs.Common.{List, [], length, get_or, slice_get, refl, sym, ap, subst, ◌∙◌, arith, eq-eqb}
use Rattle.std.proofs.lemmas.Option.{slice_get_within}
use Rattle.std.proofs.Math.Logic.{∥∥₁_elim}
use Rattle.std.proofs.Props.{props}
use mathlib.Core.Logic.{dite}
use native.Mathlib.Decide.{ℕ_discrete}
use Rattle.jr_word.specs.declared.config.Config.{Config}
use Rattle.jr_word.specs.declared.header.HeaderParts.{HeaderParts}
use Rattle.jr_word.specs.declared.kind.Kind.{Kind}
use Rattle.jr_word.specs.declared.kind.Kind.TheVariants.{Objects}
use Rattle.jr_model.specs.Checks.{is_objects}
use Rattle.jr_model.specs.declared.event.Role.TheVariants.{Collecting}
use Rattle.jr_model.specs.Maps.{sum_below}
use Rattle.jr_model.specs.State.{Contents, State, IsPresent, IsReached, from_element, HaveSameTables, length_of}
use Rattle.jr_model.proofs.InRoom.{in_room}
use Rattle.jr_model.proofs.Lengths.{lengths_fit, sum_same}
use Rattle.jr_steps.specs.declared.known.Known.{Known}
use Rattle.jr_steps.specs.declared.known.Holdings.{Holdings}
use Rattle.jr_steps.specs.Collecting.{ShowsElement, IsThere}
use Rattle.jr_steps.specs.Holdings.{header_in}
use Rattle.jr_steps.specs.Knowing.{Facts, Standing, AreOf, MayKnow, Sees, Took, anything}
use Rattle.jr_steps.specs.Knowing.{state_of, keeps, KnowsHeader, ShowsObject, ShowsHeader}
use Rattle.jr_steps.proofs.CollectorFacts.{same_tables, tables_seen, there_settled}
use Rattle.jr_compact.proofs.Counting.{within_one, within_most}
use Rattle.jr_compact.proofs.Listed.{sum_more, sum_once}
use Rattle.jr_weak.specs.Marks.{IsMarked, IsQueue, IsBefore, HasElementsOf, HasElements, IsObjectWord, with_mark}
use Rattle.jr_weak.specs.Marking.{IsMarking, MarkedTo, MarksAll}
use Rattle.jr_weak.proofs.Leading.{marking_on, marked_turn, marked_join, marked_most, marked_none}
use Rattle.jr_weak.proofs.Leading.{marked_so, more_with, here_with, reached_few, reached_present}

-- the elements below n are marked, and the header of the array is known
pub record ElementsBelow (a : ℕ) (h : HeaderParts) (n : ℕ) (marks : List Bool) (k : Known) : Type 0 where
  pub header : KnowsHeader a h k
  pub shows : ShowsObject a h k
  pub below : (i o : ℕ) (x : Contents) → i < n → (state_of k).objects a ≡ Some x → x.kind ≡ Objects
      → slice_get x.words i ≡ Some o → o ≢ 0 → IsMarked marks o

-- the elements of the first n that were found are marked
abbrev pub Followed : List ℕ → ℕ → List Bool → Known → Type 0
Followed found n marks k = (i : ℕ) → i < n → HasElementsOf (get_or found i 0) marks (state_of k)

-- a look at the header of each of the first n that were found, and at each of their elements
abbrev pub looks_below : Known → List ℕ → ℕ → ℕ
looks_below k found n = n + sum_below n (λ i. length_of ((state_of k).objects (get_or found i 0)))

-- and of one more
looks_more : (found found' : List ℕ) (n o : ℕ) {count count' : ℕ} (k k' : Known) → n < count → o ≡ get_or found n 0
    → IsBefore count found count' found' → HaveSameTables (state_of k) (state_of k')
    → looks_below k found n + (length_of ((state_of k').objects o) + 1) ≤ looks_below k found' (n + 1)
looks_more found found' n o k k' l is before same =
    let lengths : ℕ → ℕ = λ r. length_of ((state_of k).objects r) in
    let more : sum_below (n + 1) (λ i. lengths (get_or found' i 0))
    ≡ sum_below n (λ i. lengths (get_or found' i 0)) + lengths (get_or found' n 0) =
    sum_more n (λ i. lengths (get_or found' i 0)) in
    let old : sum_below n (λ i. lengths (get_or found' i 0)) ≡ sum_below n (λ i. lengths (get_or found i 0)) =
    sum_same n (λ i. lengths (get_or found i 0)) (λ i. lengths (get_or found' i 0)) (λ i m.
    ap lengths (before.same i (omega arith))) in
    let here : lengths (get_or found' n 0) ≡ lengths o = ap lengths (before.same n l ∙ sym is) in
    let there : length_of ((state_of k').objects o) ≡ lengths o =
    ap (λ (f : ℕ → Option Contents). length_of (f o)) same.objects in
    omega arith

-- a kind is that of object arrays, or isn't
pub kind_objects : (k : Kind) → is_objects k ≡ true → k ≡ Objects
kind_objects Objects e = refl
kind_objects _ e = absurd cc

pub kind_other : (k : Kind) → is_objects k ≡ false → k ≢ Objects
kind_other k e same = let all : is_objects k ≡ true = ap is_objects same in absurd cc

same_contents : (s : State) (a : ℕ) (x y : Contents) → s.objects a ≡ Some x → s.objects a ≡ Some y → x ≡ y
same_contents s a x y e f = let z = sym e ∙ f in cc

module _ {S : Type 0} {facts : S → Facts} (fits : AreOf facts) (a : ℕ) where
  -- no object is there
  pub elements_none : {b c : S} (marks : List Bool) → (facts b).stands.role ≡ Collecting
      → Took facts b c [] anything (ShowsHeader a None)
      → MarksAll facts (λ j. length_of ((state_of j).objects a) + 1) marks marks b c (HasElementsOf a)
  elements_none {b} marks collects t = record {
    more = λ o m. m;
    saw = record {
      stands_is = t.stands_is;
      hint_is = t.hint_is;
      leads = λ k s m.
          let y = t.goes k s tt in
          let same = same_tables y.2 ((fits b k s).role ∙ collects) in (
            y.0,
            y.1,
            within_most (length_of ((state_of k).objects a) + 1) (omega arith) (within_one y.2),
            (
              marking_on marks k y.0 same (ap (λ (g : Holdings). g.moving) y.3.1) m,
              λ i o x is. absurd (let z = sym y.3.0 ∙ is in cc),
            ),
          );
    };
  }

  -- one is there, whose header is known now
  pub elements_begin : {b c : S} (marks : List Bool) (h : HeaderParts) → (facts b).stands.role ≡ Collecting
      → Took facts b c [] anything (ShowsHeader a (Some h))
      → MarkedTo facts (λ j. 0 + 1) marks marks b c (ElementsBelow a h 0)
  elements_begin {b} marks h collects t = record {
    more = λ o m. m;
    saw = record {
      stands_is = t.stands_is;
      hint_is = t.hint_is;
      leads = λ k s m.
          let y = t.goes k s tt in
          let same = same_tables y.2 ((fits b k s).role ∙ collects) in (
            y.0,
            y.1,
            within_one y.2,
            (
              marking_on marks k y.0 same (ap (λ (g : Holdings). g.moving) y.3.1) m,
              record {
                header = ap (λ (g : Holdings). header_in a g.headers) y.3.1
                    ∙ ap (λ z. cond z (Some h) (header_in a k.holdings.headers)) (eq-eqb a a refl);
                shows = y.3.0;
                below = λ i o x l. absurd (omega arith);
              },
            ),
          );
    };
  }

  -- one of another kind names nothing
  pub elements_kind : {b c : S} (marks : List Bool) (h : HeaderParts) → (facts b).stands.role ≡ Collecting
      → Took facts b c [] anything (ShowsHeader a (Some h)) → h.kind ≢ Objects
      → MarksAll facts (λ j. length_of ((state_of j).objects a) + 1) marks marks b c (HasElementsOf a)
  elements_kind marks h collects t other = marked_most fits (λ j. length_of ((state_of j).objects a) + 1)
      (λ k s. omega arith) (marked_so fits (elements_begin marks h collects t) (λ k s has i o y is kind.
      let x = has.shows in
      let q = same_contents (state_of k) a y x.contents is x.is in
      let says = (x.says).kind in
      absurd (other (sym says ∙ (sym (ap (λ (z : Contents). z.kind) q) ∙ kind)))))

  module _ {b c : S} {marks marks' : List Bool} {h : HeaderParts} (n : ℕ) (array : h.kind ≡ Objects)
      (collects : (facts b).stands.role ≡ Collecting) (marked : IsMarked marks a)
      (p : MarkedTo facts (λ j. n + 1) marks marks' b c (ElementsBelow a h n)) where
    pub elements_may : n < h.length → MayKnow facts b (IsMarking marks) → MayKnow facts c (IsThere a h n)
    elements_may l may = ∥∥₁_elim may (hlevel props) (λ k. let x = p.saw.leads k.0 k.1 k.2 in
        let below : ElementsBelow a h n marks' x.0 = x.3.1 in let m : IsMarking marks' x.0 = x.3.0 in
        ∣ (x.0, x.1, there_settled a n h x.0 below.header l m.settled) ∣₁)

    pub elements_all : n ≡ h.length
        → MarksAll facts (λ j. length_of ((state_of j).objects a) + 1) marks marks' b c (HasElementsOf a)
    elements_all end = record {
      more = p.more;
      saw = record {
        stands_is = p.saw.stands_is;
        hint_is = p.saw.hint_is;
        leads = λ k s m.
            let x = p.saw.leads k s m in
            let has : ElementsBelow a h n marks' x.0 = x.3.1 in
            let same = tables_seen (x.2).sees ((fits b k s).role ∙ collects) in
            let long : length_of ((state_of x.0).objects a) ≡ h.length =
            ap length_of (has.shows).is ∙ ((has.shows).says).long in
            let before : length_of ((state_of x.0).objects a) ≡ length_of ((state_of k).objects a) =
            ap (λ (f : ℕ → Option Contents). length_of (f a)) same.objects in (
              x.0,
              x.1,
              within_most (length_of ((state_of k).objects a) + 1) (omega arith) x.2,
              (x.3.0, all_below x.0 has),
            );
      };
    }
      where
        all_below : (k : Known) → ElementsBelow a h n marks' k → HasElementsOf a marks' (state_of k)
        all_below k has i o y is kind at some =
            let x = has.shows in
            let q = same_contents (state_of k) a y x.contents is x.is in
            let says = (x.says).long in
            let long = ap (λ (z : Contents). length z.words) q ∙ says in
            let short = slice_get_within y.words i o at in
            has.below i o y (omega arith) is kind at some

    module _ {d : S} (v : ℕ) (l : n < h.length)
        (t : Took facts c d [] (IsThere a h n) (λ j k. ShowsElement a n v k × keeps j k)) where
      -- the word is an object that is reached, unless it is none
      word_reached : (k k' : Known) → (facts d).knows k' → HaveSameTables (state_of k) (state_of k')
          → IsMarking marks' k' → ElementsBelow a h n marks' k → ShowsElement a n v k' → v ≢ 0
          → IsReached (state_of k') v
      word_reached k k' s same m has e some =
          let x = has.shows in
          let q = same_contents (state_of k') a e.0 x.contents e.1 (ap (λ (f : ℕ → Option Contents). f a) same.objects
          ∙ x.is) in
          let says = (x.says).kind in
          let kind = ap (λ (z : Contents). z.kind) q ∙ (says ∙ array) in
          let present : IsPresent (state_of k') v =
          ⊎_elim (λ none. absurd (some none)) (λ z. z) (m.closed a e.0 e.1 kind n v e.2) in
          from_element a n e.0 (m.sound a (p.more a marked)) e.1 kind e.2 present

      pub elements_few : (o : Option ℕ) → IsObjectWord v o → MayKnow facts b (IsMarking marks) → (r : ℕ) → o ≡ Some r
          → (1 ≤ r) × (r ≤ (facts d).stands.config.objects)
      elements_few o word may r e =
          (∥∥₁_elim may (hlevel props) (λ k. (here k).0), ∥∥₁_elim may (hlevel props) (λ k. (here k).1))
        where
          here : ((k : Known) × (facts b).knows k × IsMarking marks k) → (1 ≤ r) × (r ≤ (facts d).stands.config.objects)
          here k =
              let x = p.saw.leads k.0 k.1 k.2 in
              let below : ElementsBelow a h n marks' x.0 = x.3.1 in
              let m : IsMarking marks' x.0 = x.3.0 in
              let y = t.goes x.0 x.1 (there_settled a n h x.0 below.header l m.settled) in
              let same =
              same_tables y.2 ((fits c x.0 x.1).role ∙ (ap (λ (z : Standing). z.role) p.saw.stands_is ∙ collects)) in
              let w = word.is r e in
              let low = w.1 in
              let again = marking_on marks' x.0 y.0 same (ap (λ (g : Holdings). g.moving) y.3.1) m in
              reached_few facts fits d y.0 y.1 r (subst (IsReached (state_of y.0)) (sym w.0)
              (word_reached x.0 y.0 y.1 same again below y.3.0 (λ q. let z = w.0 in absurd (omega arith))))

      -- one element more is marked
      pub elements_next : (o : Option ℕ) → IsObjectWord v o → (facts b).stands.config.objects ≤ 65535
          → {after : List Bool} → after ≡ with_mark marks' o → ((r : ℕ) → o ≡ Some r → r < length marks')
          → MarkedTo facts (λ j. n + 1 + 1) marks after b d (ElementsBelow a h (n + 1))
      elements_next o word most is few = marked_turn fits collects p t o is few
          (λ k m has. there_settled a n h k has.header l m.settled) (λ k k' s same held m has e. record {
            reached = λ r q. let w = word.is r q in let low = w.1 in subst (IsReached (state_of k')) (sym w.0)
                (word_reached k k' s same m has e (λ z. let y = w.0 in absurd (omega arith)));
            had = record {
              header = ap (λ (g : Holdings). header_in a g.headers) held ∙ has.header;
              shows = record {
                contents = (has.shows).contents;
                is = ap (λ (f : ℕ → Option Contents). f a) same.objects ∙ (has.shows).is;
                says = (has.shows).says;
              };
              below = λ i r x j there kind at some. dite (ℕ_discrete i n)
                  (λ z.
                  let q = same_contents (state_of k') a x e.0 there e.1 in
                  let w : Some r ≡ Some v = sym (subst (λ i. slice_get x.words i ≡ Some r) z at)
                  ∙ (ap (λ (y : Contents). slice_get y.words n) q ∙ e.2) in
                  let same_word : r ≡ v = cc in
                  let reached = word_reached k k' s same m has e (λ y. some (same_word ∙ y)) in
                  let row = reached_few facts fits d k' s v reached in
                  let low = row.0 in
                  let high = row.1 in
                  let size = ap (λ (y : Standing). y.config.objects) (t.stands_is ∙ p.saw.stands_is) in
                  here_with marks' o few r (word.all low (omega arith) ∙ ap (λ y. Some y) (sym same_word)))
                  (λ ne. more_with marks' o few r (has.below i r x (omega arith)
                  (ap (λ (f : ℕ → Option Contents). f a) (sym same.objects) ∙ there) kind at some));
            };
          })

-- nothing was followed
pub followed_none : {S : Type 0} {facts : S → Facts} → AreOf facts → (marks : List Bool) (a : S) (found : List ℕ)
    → MarkedTo facts (λ j. looks_below j found 0) marks marks a a (Followed found 0)
followed_none fits marks a found = marked_most fits (λ j. looks_below j found 0) (λ k s. omega arith)
    (marked_none fits marks a {has = Followed found 0} (λ k i l. absurd (omega arith)))

module _ {S : Type 0} {facts : S → Facts} (fits : AreOf facts) {a b : S} {marks marks' : List Bool} {found : List ℕ}
    (n : ℕ) (p : MarkedTo facts (λ j. looks_below j found n) marks marks' a b (Followed found n)) where
  -- one array more was followed
  pub followed_next : {c : S} {marks'' : List Bool} {found' : List ℕ} {count count' : ℕ} (o : ℕ)
      → (facts a).stands.role ≡ Collecting → n < count → o ≡ get_or found n 0 → IsBefore count found count' found'
      → MarksAll facts (λ j. length_of ((state_of j).objects o) + 1) marks' marks'' b c (HasElementsOf o)
      → MarkedTo facts (λ j. looks_below j found' (n + 1)) marks marks'' a c (Followed found' (n + 1))
  followed_next {marks'' = marks''} {found' = found'} o collects l is before m =
      marked_join fits (λ j. looks_below j found' (n + 1)) collects p m (λ k k' same config.
      looks_more found found' n o k k' l is before same) (λ k k' s same has had i g. dite (ℕ_discrete i n)
      (λ e. subst (λ r. HasElementsOf r marks'' (state_of k'))
      (is ∙ sym (ap (λ j. get_or found' j 0) e ∙ before.same n l)) had)
      (λ ne. subst (λ r. HasElementsOf r marks'' (state_of k')) (sym (before.same i (omega arith)))
      (λ j r z there kind at some. m.more r (has i (omega arith) j r z
      (ap (λ (f : ℕ → Option Contents). f (get_or found i 0)) (sym same.objects) ∙ there) kind at some))))

  -- what was found is present, each once, so that it has no more words than there are
  few_looks : {count : ℕ} → (facts a).stands.role ≡ Collecting → IsQueue marks' found count → n ≤ count
      → n ≤ (facts a).stands.config.objects → (k : Known) → (facts a).knows k → (x : Known) → (facts b).knows x
      → Sees k x → IsMarking marks' x → looks_below k found n ≤ k.config.objects + k.config.words
  few_looks collects q most short k s x y sees m =
      let of = fits b x y in
      let same = tables_seen sees ((fits a k s).role ∙ collects) in
      let room = in_room x.config x.last x.seen of.legal in
      let fit = lengths_fit x.config x.last x.seen of.legal in
      let low = fit.0 in
      let high = fit.1 in
      let lengths : ℕ → ℕ = λ o. length_of ((state_of x).objects o) in
      let there : (i : ℕ) → i < n
      → get_or found i 0 < x.config.objects + 1 = λ i l. let row = (room.objects (get_or found i 0)
      (reached_present (state_of x) (get_or found i 0) (m.sound (get_or found i 0) (q.listed i (omega arith))))).1 in
      omega arith in
      let sum : sum_below n (λ i. lengths (get_or found i 0)) ≤ sum_below (x.config.objects + 1) lengths =
      sum_once n (x.config.objects + 1) (λ i. get_or found i 0) lengths there (λ i j l l' e.
      q.once i j (omega arith) (omega arith) e) in
      let before : sum_below n (λ i. lengths (get_or found i 0))
      ≡ sum_below n (λ i. length_of ((state_of k).objects (get_or found i 0))) =
      ap (λ (f : ℕ → Option Contents). sum_below n (λ i. length_of (f (get_or found i 0)))) same.objects in
      let objects = ap (λ (c : Config). c.objects) (fits a k s).config in
      let words = ap (λ (c : Config). c.words) sees.config in
      omega arith

  pub followed_all : {count : ℕ} → (facts a).stands.role ≡ Collecting → IsQueue marks' found count → count ≤ n
      → n ≤ count → n ≤ (facts a).stands.config.objects
      → MarksAll facts (λ j. j.config.objects + j.config.words) marks marks' a b HasElements
  followed_all collects q end most short = let within : MarkedTo facts (λ j. j.config.objects + j.config.words) marks
      marks' a b (Followed found n) = record {
        more = p.more;
        saw = record {
          stands_is = p.saw.stands_is;
          hint_is = p.saw.hint_is;
          leads = λ k s m. let x = p.saw.leads k s m in (
            x.0,
            x.1,
            within_most (k.config.objects + k.config.words)
                (few_looks collects q most short k s x.0 x.1 (x.2).sees x.3.0) x.2,
            x.3,
          );
        };
      } in marked_so fits within (λ k s has r marked i o z there kind at some.
      ∥∥₁_elim (q.queued r marked) (hlevel props) (λ w.
      let l = w.1 in
      has w.0 (omega arith) i o z (ap (state_of k).objects w.2 ∙ there) kind at some))
