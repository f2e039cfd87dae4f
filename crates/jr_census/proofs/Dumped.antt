-- What a dump has kept so far.
use Rattle.std.proofs.Common.{◌≡◌, ◌+◌, ◌<◌, ◌≤◌, ℕ, Bool, Option, Some, None, cond, List}
use Rattle.std.proofs.Common.{[], length, slice_get, slice_set, get_or, eq-eqb, refl, sym}
use Rattle.std.proofs.Common.{ap, subst, ◌∙◌, arith, get_or-set_same, get_or-set_other}
use Rattle.std.proofs.Math.Logic.{∥∥₁_elim}
use Rattle.std.proofs.Props.{props}
use mathlib.Core.Logic.{dite, ∥∥₁_map}
use native.Mathlib.Decide.{ℕ_discrete}
use Rattle.jr_word.specs.declared.config.Config.{Config}
use Rattle.jr_word.specs.declared.header.HeaderParts.{HeaderParts}
use Rattle.jr_word.specs.declared.slot.SlotParts.{SlotParts}
use Rattle.jr_word.specs.declared.slot.SlotParts.TheVariants as slot
use Rattle.jr_model.specs.declared.event.Role.TheVariants.{Collecting}
use Rattle.jr_model.specs.declared.event.Found.{Found}
use Rattle.jr_model.specs.Maps.{sum_below}
use Rattle.jr_model.specs.State.{Handle, Contents, State, HaveSameTables, length_of}
use Rattle.jr_model.proofs.Lengths.{lengths_fit}
use Rattle.jr_steps.specs.declared.known.Known.{Known}
use Rattle.jr_steps.specs.declared.known.Holdings.{Holdings}
use Rattle.jr_steps.specs.Collecting.{IsThere, ShowsElement}
use Rattle.jr_steps.specs.Holdings.{header_in}
use Rattle.jr_steps.specs.Knowing.{Facts, Standing, AreOf, CanReopen, MayKnow, Took, KnowsHeader}
use Rattle.jr_steps.specs.Knowing.{ShowsHeader, ShowsObject, ShowsSlot, anything, keeps, state_of}
use Rattle.jr_steps.specs.Says.{SaysOfSlot}
use Rattle.jr_steps.proofs.CollectorFacts.{same_tables, tables_seen, there_settled}
use Rattle.jr_compact.proofs.Counting.{within_most}
use Rattle.jr_compact.proofs.Listed.{sum_more, sum_once}
use Rattle.jr_census.specs.Dumps.{BeginsAt, HasObjects, HasRoom, HasSlots, KeepsNumber, noted_length}
use Rattle.jr_census.specs.Telling.{LoadsTell}
use Rattle.jr_census.proofs.HeadersCounted.{moves_none, no_zero, nothing_yet}
use Rattle.jr_census.proofs.Turns.{may_told, told_none, told_so, told_then, told_turn}

-- the slots below i are kept
abbrev pub SlotsKept : ℕ → List SlotParts → Known → Type 0
SlotsKept i xs k = HasSlots i k.last (state_of k) xs

module _ {S : Type 0} {facts : S → Facts} (fits : AreOf facts) where
  pub kept_none : (xs : List SlotParts) (a : S) → LoadsTell facts (λ j. 0) a a (SlotsKept 0 xs)
  kept_none xs a = told_none fits a (λ k s i l. absurd (omega arith))

  pub kept_next : {a b c : S} (i : ℕ) (xs xs' : List SlotParts) (p : SlotParts) → (facts a).stands.role ≡ Collecting
      → i < length xs → LoadsTell facts (λ j. i) a b (SlotsKept i xs)
      → Took facts b c [] anything (λ j k. ShowsSlot i p k × keeps j k) → xs' ≡ slice_set xs i p
      → LoadsTell facts (λ j. i + 1) a c (SlotsKept (i + 1) xs')
  kept_next {a} {b} {c} i xs xs' p collects wide told t is =
      subst (λ zs. LoadsTell facts (λ j. i + 1) a c (SlotsKept (i + 1) zs)) (sym is)
      (told_turn fits collects told t (λ k can h. tt) (λ k k' shown. ap (λ (g : Holdings). g.moving) shown.1)
      (λ k k' s same last was shown j l. dite (ℕ_discrete j i)
      (λ e. subst (λ (z : ℕ × SlotParts). SaysOfSlot k'.last (state_of k').refs (state_of k').given z.0 z.1) (λ t. (
        sym e t,
        sym (ap (λ m. get_or (slice_set xs i p) m (slot.Free 0)) e ∙ get_or-set_same xs i p (slot.Free 0) wide) t,
      )) shown.0)
      (λ ne. subst (λ (z : ℕ × (Handle → Found) × (Handle → Bool) × SlotParts). SaysOfSlot z.0 z.1 z.2 j z.3) (λ t.
      (sym last t, sym same.refs t, sym same.given t, sym (get_or-set_other xs i j p (slot.Free 0) (λ e. ne e)) t))
      (was j (omega arith)))))

  pub kept_all : {a b : S} (i : ℕ) (xs : List SlotParts) → i ≡ (facts a).stands.config.slots
      → LoadsTell facts (λ j. i) a b (SlotsKept i xs)
      → LoadsTell facts (λ j. j.config.slots) a b (λ k. HasSlots k.config.slots k.last (state_of k) xs)
  kept_all {a} {b} i xs end p = told_so fits (λ j. j.config.slots) (λ k s. let e = end
      ∙ sym (ap (λ (z : Config). z.slots) (fits a k s).config) in omega arith)
      (λ k s was. subst (λ n. HasSlots n k.last (state_of k) xs) (end ∙ (sym (ap (λ (z : Standing). z.config.slots)
      p.stands_is) ∙ sym (ap (λ (z : Config). z.slots) (fits b k s).config))) was) p

-- the elements below n of an object are kept, and its header is known
pub record ElementsKept (o : ℕ) (h : HeaderParts) (start n : ℕ) (words : List ℕ) (k : Known) : Type 0 where
  pub header : KnowsHeader o h k
  pub shows : ShowsObject o h k
  pub below : (i : ℕ) → i < n → ShowsElement o i (get_or words (start + i) 0) k

-- what stands before a place stays
abbrev pub SameBefore : ℕ → List ℕ → List ℕ → Type 0
SameBefore start words words' = (at : ℕ) → at < start → get_or words' at 0 ≡ get_or words at 0

pub same_before : (start i v : ℕ) (words words' : List ℕ) → SameBefore start words words'
    → SameBefore start words (slice_set words' (start + i) v)
same_before start i v words words' same at l =
    get_or-set_other words' (start + i) at v 0 (λ e. absurd (omega arith)) ∙ same at l

one_contents : (z : Option Contents) (x y : Contents) → z ≡ Some x → z ≡ Some y → x ≡ y
one_contents z x y a b = let e : Some x ≡ Some y = sym a ∙ b in cc

module _ {S : Type 0} {facts : S → Facts} (fits : AreOf facts) (o start : ℕ) where
  pub no_object : {a b : S} (words : List ℕ) → (facts a).stands.role ≡ Collecting
      → Took facts a b [] anything (ShowsHeader o None)
      → LoadsTell facts (λ j. length_of ((state_of j).objects o) + 1) a b (λ k. KeepsNumber (state_of k) o None words)
  no_object {a} {b} words collects t =
      told_so fits (λ j. length_of ((state_of j).objects o) + 1) (λ k s. omega arith) (λ k s h. h)
      (told_turn fits collects (told_none fits a {tells = anything} (λ k s. tt)) t (λ k can h. tt)
      (λ k k' shown. moves_none o None k k' shown) (λ k k' s same last was shown. shown.0))

  pub elements_begin : {a b : S} (words : List ℕ) (h : HeaderParts) → (facts a).stands.role ≡ Collecting
      → Took facts a b [] anything (ShowsHeader o (Some h))
      → LoadsTell facts (λ j. 0 + 1) a b (ElementsKept o h start 0 words)
  elements_begin {a} words h collects t = told_turn fits collects (told_none fits a {tells = anything} (λ k s. tt)) t
      (λ k can h. tt) (λ k k' shown. moves_none o (Some h) k k' shown) (λ k k' s same last was shown. record {
        header = ap (λ (g : Holdings). header_in o g.headers) shown.1
            ∙ ap (λ b. cond b (Some h) (header_in o k.holdings.headers)) (eq-eqb o o refl);
        shows = shown.0;
        below = λ i l. absurd (omega arith);
      })

  -- there is room for its elements
  pub room_of_elements : {a b : S} (room : ℕ) (h : HeaderParts) → MayKnow facts a (HasRoom o start room)
      → (facts a).stands.role ≡ Collecting → Took facts a b [] anything (ShowsHeader o (Some h))
      → start + h.length ≤ room
  room_of_elements {a} room h may collects t = ∥∥₁_elim may (hlevel props) (λ k.
      let y = t.goes k.0 k.1 tt in
      let same = same_tables y.2 ((fits a k.0 k.1).role ∙ collects) in
      let long : length_of ((state_of y.0).objects o) ≡ h.length = ap length_of y.3.0.is ∙ (y.3.0.says).long in
      let before = ap (λ (f : ℕ → Option Contents). length_of (f o)) same.objects in
      let fit = k.2.1 in omega arith)

  pub element_there : {a b : S} {most : Known → ℕ} (words : List ℕ) (h : HeaderParts) (n : ℕ) → n < h.length
      → MayKnow facts a CanReopen → LoadsTell facts most a b (ElementsKept o h start n words)
      → MayKnow facts b (IsThere o h n)
  element_there words h n l may told =
      ∥∥₁_map (may_told may told) (λ k. (k.0, k.1, there_settled o n h k.0 k.2.1.header l k.2.0.1))

  pub elements_next : {a b c : S} (words words' : List ℕ) (h : HeaderParts) (n v : ℕ)
      → (facts a).stands.role ≡ Collecting → n < h.length → start + n < length words
      → LoadsTell facts (λ j. n + 1) a b (ElementsKept o h start n words)
      → Took facts b c [] (IsThere o h n) (λ j k. ShowsElement o n v k × keeps j k)
      → words' ≡ slice_set words (start + n) v
      → LoadsTell facts (λ j. n + 1 + 1) a c (ElementsKept o h start (n + 1) words')
  elements_next {a} {b} {c} words words' h n v collects l wide told t is =
      subst (λ ws. LoadsTell facts (λ j. n + 1 + 1) a c (ElementsKept o h start (n + 1) ws)) (sym is)
      (told_turn fits collects told t (λ k can has. there_settled o n h k has.header l can.1)
      (λ k k' shown. ap (λ (g : Holdings). g.moving) shown.1) (λ k k' s same last has shown. record {
        header = ap (λ (g : Holdings). header_in o g.headers) shown.1 ∙ has.header;
        shows = record {
          contents = (has.shows).contents;
          is = ap (λ (f : ℕ → Option Contents). f o) same.objects ∙ (has.shows).is;
          says = (has.shows).says;
        };
        below = λ i m. dite (ℕ_discrete i n)
            (λ e. subst (λ (z : ℕ × ℕ). ShowsElement o z.0 z.1 k') (λ t. (
              sym e t,
              sym (ap (λ j. get_or (slice_set words (start + n) v) (start + j) 0) e
                  ∙ get_or-set_same words (start + n) v 0 wide) t,
            )) shown.0)
            (λ ne.
            let was = has.below i (omega arith) in
            subst (λ w. ShowsElement o i w k')
            (sym (get_or-set_other words (start + n) (start + i) v 0 (λ e. ne (omega arith))))
            (was.0, ap (λ (f : ℕ → Option Contents). f o) same.objects ∙ was.1, was.2));
      }))

  -- and so the object is
  pub elements_all : {a b : S} (words : List ℕ) (h : HeaderParts) (n : ℕ) → (facts a).stands.role ≡ Collecting
      → n ≡ h.length → LoadsTell facts (λ j. n + 1) a b (ElementsKept o h start n words)
      → LoadsTell facts (λ j. length_of ((state_of j).objects o) + 1) a b (λ k.
      KeepsNumber (state_of k) o (Some (record { kind = h.kind; length = h.length; place = start })) words)
  elements_all {a} words h n collects end p = record {
    stands_is = p.stands_is;
    hint_is = p.hint_is;
    leads = λ k s can.
        let x = p.leads k s can in
        let has = x.3.1 in
        let same = tables_seen (x.2).sees ((fits a k s).role ∙ collects) in
        let long : length_of ((state_of x.0).objects o) ≡ h.length =
        ap length_of (has.shows).is ∙ ((has.shows).says).long in
        let before = ap (λ (f : ℕ → Option Contents). length_of (f o)) same.objects in (
          x.0,
          x.1,
          within_most (length_of ((state_of k).objects o) + 1) (omega arith) x.2,
          (
            x.3.0,
            (
              (has.shows).contents,
              (has.shows).is,
              record {
                kind = ((has.shows).says).kind;
                long = ((has.shows).says).long;
                elements = λ i l.
                    let e = has.below i (omega arith) in
                    ap (λ (y : Contents). slice_get y.words i)
                    (one_contents ((state_of x.0).objects o) (has.shows).contents e.0 (has.shows).is e.1) ∙ e.2;
              },
            ),
          ),
        );
  }

-- the length of an object by its header is its own
noted_is : (s : State) (o : ℕ) (h : Option HeaderParts) (words : List ℕ) → KeepsNumber s o h words
    → noted_length h ≡ length_of (s.objects o)
noted_is s o None words k = sym (ap length_of k)
noted_is s o (Some h) words k = sym (ap length_of k.1 ∙ k.2.long)

-- where an object ends
abbrev pub end_of : Option HeaderParts → ℕ
end_of None = 0
end_of (Some h) = h.place + h.length

-- the objects below n end before a place
abbrev pub EndBefore : ℕ → List (Option HeaderParts) → ℕ → Type 0
EndBefore n headers start = (j : ℕ) → j < n → end_of (get_or headers j None) ≤ start

ends_at : (start : ℕ) (h : Option HeaderParts) → BeginsAt start h → end_of h ≤ start + noted_length h
ends_at start None b = omega arith
ends_at start (Some h) b = let e = b in omega arith

pub end_before : (n start : ℕ) (headers : List (Option HeaderParts)) (h : Option HeaderParts) → n < length headers
    → BeginsAt start h → EndBefore n headers start → EndBefore (n + 1) (slice_set headers n h) (start + noted_length h)
end_before n start headers h wide b before j l = dite (ℕ_discrete j n)
    (λ e. let z = ends_at start h b in
    let is = ap end_of (ap (λ m. get_or (slice_set headers n h) m None) e ∙ get_or-set_same headers n h None wide) in
    omega arith)
    (λ ne. let z = before j (omega arith) in let is = ap end_of (get_or-set_other headers n j h None (λ e. ne e)) in
    omega arith)

-- what was kept of an object before a place is kept still
kept_number : (s s' : State) (o start : ℕ) (h : Option HeaderParts) (words words' : List ℕ) → HaveSameTables s s'
    → end_of h ≤ start → SameBefore start words words' → KeepsNumber s o h words → KeepsNumber s' o h words'
kept_number s s' o start None words words' same end before k = ap (λ (f : ℕ → Option Contents). f o) same.objects ∙ k
kept_number s s' o start (Some h) words words' same end before k = (
  k.0,
  ap (λ (f : ℕ → Option Contents). f o) same.objects ∙ k.1,
  record {
    kind = k.2.kind;
    long = k.2.long;
    elements = λ i l. k.2.elements i l ∙ ap (λ v. Some v) (sym (before (h.place + i) (omega arith)));
  },
)

-- how many words the first n numbers have
abbrev pub words_to : ℕ → Known → ℕ
words_to n k = sum_below (n + 1) (λ o. length_of ((state_of k).objects o))

-- the first n numbers are kept, in so many words
pub record ObjectsKept (n start : ℕ) (headers : List (Option HeaderParts)) (words : List ℕ) (k : Known) : Type 0 where
  pub objects : HasObjects n (state_of k) headers words
  pub start_is : start ≡ words_to n k

words_in : {S : Type 0} (facts : S → Facts) (fits : AreOf facts) (b : S) (k : Known) → (facts b).knows k → (n : ℕ)
    → n ≤ k.config.objects → words_to n k ≤ k.config.words
words_in facts fits b k s n l =
    let fit = lengths_fit k.config k.last k.seen (fits b k s).legal in
    let low = fit.0 in
    let high = fit.1 in
    let less = sum_once (n + 1) (k.config.objects + 1) (λ i. i) (λ o. length_of ((state_of k).objects o))
    (λ i m. omega arith) (λ i j l m e. e) in omega arith

module _ {S : Type 0} {facts : S → Facts} (fits : AreOf facts) where
  pub objects_none : (headers : List (Option HeaderParts)) (words : List ℕ) (a : S)
      → LoadsTell facts (λ j. 0 + words_to 0 j) a a (ObjectsKept 0 0 headers words)
  objects_none headers words a =
      told_so fits (λ j. 0 + words_to 0 j) (λ k s. omega arith) (λ k s h. h) (told_none fits a (λ k s. record {
        objects = λ j l. absurd (omega arith);
        start_is = sym (nothing_yet (λ o. length_of ((state_of k).objects o))
            (ap length_of (no_zero k.config k.last k.seen (fits a k s).legal)));
      }))

  -- there is room for the next one
  pub room_next : {a b : S} {most : Known → ℕ} (n start room : ℕ) (headers : List (Option HeaderParts)) (words : List ℕ)
      → MayKnow facts a CanReopen → LoadsTell facts most a b (ObjectsKept n start headers words)
      → n < (facts b).stands.config.objects → (facts b).stands.config.words ≡ room
      → MayKnow facts b (HasRoom (n + 1) start room)
  room_next {b = b} n start room headers words may told l is = ∥∥₁_map (may_told may told) (λ k.
      let of = fits b k.0 k.1 in
      let objects = ap (λ (z : Config). z.objects) of.config in
      let size = ap (λ (z : Config). z.words) of.config in
      let all = words_in facts fits b k.0 k.1 (n + 1) (omega arith) in
      let more = sum_more (n + 1) (λ o. length_of ((state_of k.0).objects o)) in
      let at = (k.2.1).start_is in (k.0, k.1, (k.2.0, omega arith)))

  -- so many words the space has
  pub start_few : {a b : S} {most : Known → ℕ} (n start : ℕ) (headers : List (Option HeaderParts)) (words : List ℕ)
      → MayKnow facts a CanReopen → LoadsTell facts most a b (ObjectsKept n start headers words)
      → n ≤ (facts b).stands.config.objects → start ≤ (facts b).stands.config.words
  start_few {b = b} n start headers words may told l = ∥∥₁_elim (may_told may told) (hlevel props) (λ k.
      let of = fits b k.0 k.1 in
      let objects = ap (λ (z : Config). z.objects) of.config in
      let size = ap (λ (z : Config). z.words) of.config in
      let all = words_in facts fits b k.0 k.1 n (omega arith) in
      let at = (k.2.1).start_is in omega arith)

  pub objects_next : {a b c : S} (n start : ℕ) (headers : List (Option HeaderParts)) (words words' : List ℕ)
      (h : Option HeaderParts) → (facts a).stands.role ≡ Collecting → n < length headers → EndBefore n headers start
      → SameBefore start words words'
      → LoadsTell facts (λ j. n + words_to n j) a b (ObjectsKept n start headers words) → LoadsTell facts
      (λ j. length_of ((state_of j).objects (n + 1)) + 1) b c (λ k. KeepsNumber (state_of k) (n + 1) h words')
      → LoadsTell facts (λ j. n + 1 + words_to (n + 1) j) a c (ObjectsKept (n + 1) (start + noted_length h)
      (slice_set headers n h) words')
  objects_next n start headers words words' h collects wide ends before p q =
      told_then fits (λ j. n + 1 + words_to (n + 1) j) collects p q (λ k k' same config.
      let more = sum_more (n + 1) (λ o. length_of ((state_of k).objects o)) in
      let there = ap (λ (f : ℕ → Option Contents). length_of (f (n + 1))) same.objects in omega arith)
      (λ k k' s same config last was now. record {
        objects = λ j l. dite (ℕ_discrete j n)
            (λ e. subst (λ (z : ℕ × Option HeaderParts). KeepsNumber (state_of k') (z.0 + 1) z.1 words') (λ t. (
              sym e t,
              sym (ap (λ m. get_or (slice_set headers n h) m None) e ∙ get_or-set_same headers n h None wide) t,
            )) now)
            (λ ne. subst (λ z. KeepsNumber (state_of k') (j + 1) z words') (sym
            (get_or-set_other headers n j h None (λ e. ne e))) (kept_number (state_of k) (state_of k') (j + 1) start
            (get_or headers j None) words words' same (ends j (omega arith)) before (was.objects j (omega arith))));
        start_is =
            let more = sum_more (n + 1) (λ o. length_of ((state_of k').objects o)) in
            let here = noted_is (state_of k') (n + 1) h words' now in
            let at : start ≡ words_to n k' = was.start_is
            ∙ ap (λ (f : ℕ → Option Contents). sum_below (n + 1) (λ o. length_of (f o))) (sym same.objects) in
            omega arith;
      })

  pub objects_all : {a b : S} (n start : ℕ) (headers : List (Option HeaderParts)) (words : List ℕ)
      → n ≡ (facts a).stands.config.objects
      → LoadsTell facts (λ j. n + words_to n j) a b (ObjectsKept n start headers words)
      → LoadsTell facts (λ j. j.config.objects + j.config.words) a b (λ k.
      HasObjects k.config.objects (state_of k) headers words)
  objects_all {a} {b} n start headers words end p = told_so fits (λ j. j.config.objects + j.config.words)
      (λ k s. let e = end ∙ sym (ap (λ (z : Config). z.objects) (fits a k s).config) in
      let all = words_in facts fits a k s n (omega arith) in omega arith)
      (λ k s was. subst (λ n. HasObjects n (state_of k) headers words)
      (end ∙ (sym (ap (λ (z : Standing). z.config.objects) p.stands_is)
      ∙ sym (ap (λ (z : Config). z.objects) (fits b k s).config))) was.objects) p
