-- Objects are noted, one after the other.
use Rattle.std.proofs.Common.{◌≡◌, ℕ, ◌+◌, ◌<◌, ◌≤◌, ◌==◌, Bool, true, false, cond, not, nat_eq}
use Rattle.std.proofs.Common.{Option, Some, None, IsSome, List, [], ◌∷◌, ◌++◌, take, length, get_or}
use Rattle.std.proofs.Common.{filter, sum_by, All, Contains, option_to_list, refl, sym, ap, subst}
use Rattle.std.proofs.Common.{◌∙◌, arith, take_all, ne_eqb, eq-eqb}
use Rattle.std.proofs.lemmas.Bool.{eqb-false, eqb-true}
use Rattle.std.proofs.lemmas.List.{map-append}
use Rattle.std.proofs.lemmas.List.Elements.{All-nil, All-cons, All-append, All-weaker}
use Rattle.std.proofs.lemmas.List.Elements.{recursion_from_All, filter_more, Contains-get_or}
use Rattle.std.proofs.lemmas.List.Folds.{list_any_at}
use Rattle.std.specs.List.{AllByRecursion, IsDistinct, list_any}
use mathlib.Core.Logic.{∥∥₁_map}
use Rattle.jr_word.specs.declared.config.Config.{Config}
use Rattle.jr_word.specs.declared.header.HeaderParts.{HeaderParts}
use Rattle.jr_model.specs.declared.event.Role.TheVariants.{Collecting}
use Rattle.jr_model.specs.Maps.{sum_below}
use Rattle.jr_model.specs.History.{IsLegal}
use Rattle.jr_model.specs.State.{Contents, State, HaveSameTables, length_of, present_words}
use Rattle.jr_model.proofs.InRoom.{in_room}
use Rattle.jr_model.proofs.Updates.{eq_self}
use Rattle.jr_steps.specs.declared.known.Known.{Known}
use Rattle.jr_steps.specs.declared.known.Holdings.{Holdings}
use Rattle.jr_steps.specs.Holdings.{header_in}
use Rattle.jr_steps.specs.Knowing.{AreOf, Facts, MayKnow, Took, anything, state_of, KnowsHeader, IsSettled, ShowsHeader}
use Rattle.jr_steps.proofs.CollectorFacts.{tables_seen}
use Rattle.jr_heap.proofs.Headers.{is_number}
use Rattle.jr_heap.proofs.KnownHeaders.{steps_keep_headers}
use Rattle.jr_compact.specs.declared.placed.PlacedObject.{PlacedObject}
use Rattle.jr_compact.specs.Compacting.{CanCompact}
use Rattle.jr_compact.specs.Counting.{SawWithin}
use Rattle.jr_compact.specs.Noting.{placed_of, numbers_of, noted_words, IsNoted, AreNoted}
use Rattle.jr_compact.proofs.Counting.{within_none, within_more, within_most}
use Rattle.jr_compact.proofs.Listed.{sum_listed, distinct_filter, sum_filter, sum_map, in_filter}

-- the object is present and has elements
abbrev pub has_words : State → ℕ → Bool
has_words s o = not (length_of (s.objects o) == 0)

knows_now : (o : ℕ) (h : HeaderParts) (hs : Option HeaderParts) → cond (o == o) (Some h) hs ≡ Some h
knows_now o h hs = ap (λ b. cond b (Some h) hs) (eq_self o)

-- the entry is of an object that was present with so many elements, and its header is known
pub record IsEntry (k k' : Known) (e : PlacedObject) : Type 0 where
  pub known : KnowsHeader e.object e.header k'
  pub same : length_of ((state_of k).objects e.object) ≡ e.header.length
  pub long : 1 ≤ e.header.length

-- of the first objects of the list those with elements are noted
pub record IsNotedTo (present : List ℕ) (i : ℕ) (entries : List PlacedObject) (k k' : Known) : Type 0 where
  pub numbers : numbers_of entries ≡ filter (has_words (state_of k)) (take i present)
  pub each : All (IsEntry k k') entries
  pub settled : IsSettled k'

-- what a header that was found says of the length
length_found : Option HeaderParts → ℕ
length_found None = 0
length_found (Some h) = h.length

length_shown : (o : ℕ) (h : Option HeaderParts) (k k' : Known) → ShowsHeader o h k k'
    → length_of ((state_of k').objects o) ≡ length_found h
unfolding length_found
length_shown o None k k' x = ap length_of x.0
length_shown o (Some h) k k' x = let found = x.0 in ap length_of found.is ∙ found.says.long

settled_still : (o : ℕ) (h : Option HeaderParts) (k k' : Known) → ShowsHeader o h k k' → IsSettled k → IsSettled k'
settled_still o None k k' x s = ap (λ (g : Holdings). g.moving) x.1 ∙ s
settled_still o (Some h) k k' x s = ap (λ (g : Holdings). g.moving) x.1 ∙ s

-- an object is noted exactly where it has elements
one_number : (o : ℕ) (h : Option HeaderParts)
    → numbers_of (option_to_list (placed_of o h)) ≡ cond (not (length_found h == 0)) (o ∷ []) []
unfolding length_found
one_number o None = refl
one_number o (Some h) = go (h.length == 0)
  where
    go : (b : Bool) → numbers_of (option_to_list (cond b None (Some (record { object = o; header = h }))))
        ≡ cond (not b) (o ∷ []) []
    go true = refl
    go false = refl

one_entry : (k k' k'' : Known) (o : ℕ) (h : Option HeaderParts) → ShowsHeader o h k' k''
    → length_of ((state_of k).objects o) ≡ length_found h → All (IsEntry k k'') (option_to_list (placed_of o h))
unfolding length_found
one_entry k k' k'' o None x long = All-nil (IsEntry k k'')
one_entry k k' k'' o (Some h) x long = go (h.length == 0) refl
  where
    go : (b : Bool) → (h.length == 0) ≡ b
        → All (IsEntry k k'') (option_to_list (cond b None (Some (record { object = o; header = h }))))
    go true e = All-nil (IsEntry k k'')
    go false e =
        let some = eqb-false h.length 0 e in
        All-cons (IsEntry k k'') (record { object = o; header = h }) [] (record {
          known = ap (λ (g : Holdings). header_in o g.headers) x.1 ∙ knows_now o h (header_in o k'.holdings.headers);
          same = long;
          long = omega arith;
        }) (All-nil (IsEntry k k''))

present_long : (x : Option Contents) → 1 ≤ length_of x → IsSome x
present_long None l = absurd (omega arith)
present_long (Some x) l = refl

passes : (n : ℕ) → 1 ≤ n → not (n == 0) ≡ true
passes n l = ap not (ne_eqb n 0 (λ e. absurd (omega arith)))

passes_not : (n : ℕ) → not (n == 0) ≡ false → n ≡ 0
passes_not n e = eqb-true n 0 (was (n == 0) e)
  where
    was : (b : Bool) → not b ≡ false → b ≡ true
    was true e = refl
    was false e = absurd cc

-- who is not in the list has no elements
not_listed : (present : List ℕ) (k : Known) → CanCompact present k → (o : ℕ) → list_any (λ y. y == o) present ≡ false
    → length_of ((state_of k).objects o) ≡ 0
not_listed present k can o e = go ((state_of k).objects o) refl
  where
    go : (x : Option Contents) → (state_of k).objects o ≡ x → length_of x ≡ 0
    go None q = refl
    go (Some x) q =
        let there = (can.listed o).0 (subst (λ z. IsSome z) (sym q) refl) in
        let found = list_any_at (λ y. y == o) present there.0 o there.1 (eq-eqb (get_or present there.0 o) o there.2) in
        absurd (let z = sym found ∙ e in cc)

-- each object of the list was looked at
noted_all : (present : List ℕ) (entries : List PlacedObject) (k k' : Known) → IsLegal k.config k.last k.seen
    → HaveSameTables (state_of k) (state_of k') → k'.config ≡ k.config → CanCompact present k
    → IsNotedTo present (length present) entries k k' → AreNoted entries k'
noted_all present entries k k' legal same config can p =
    let s = state_of k in
    let has = has_words s in
    let numbers : numbers_of entries ≡ filter has present =
    p.numbers ∙ ap (filter has) (take_all (length present) present (omega arith)) in
    let lengths : ℕ → ℕ = λ o. length_of (s.objects o) in
    let objects = (in_room k.config k.last k.seen legal).objects in
    let words : noted_words entries ≡ sum_by lengths (numbers_of entries) =
    sym (sum_map (λ (e : PlacedObject). e.object) lengths (λ (e : PlacedObject). e.header.length) entries
    (All-weaker (IsEntry k k') (λ e. lengths e.object ≡ e.header.length) (λ e q. q.same) entries p.each)) in
    let passed : sum_by lengths (filter has present) ≡ sum_by lengths present =
    sum_filter has lengths present (λ o e. passes_not (lengths o) e) in
    let below : AllByRecursion (λ o. o < k.config.objects + 1) present =
    recursion_from_All (λ o. o < k.config.objects + 1) present (λ i d l.
    let most = (objects (get_or present i d) ((can.listed (get_or present i d)).1 (Contains-get_or present i d l))).1 in
    omega arith) in
    let listed : sum_by lengths present ≡ present_words k.config s =
    sum_listed present (k.config.objects + 1) lengths can.distinct below (not_listed present k can) in
    record {
      settled = p.settled;
      each = All-weaker (IsEntry k k') (IsNoted k') (λ e q. record {
        present = subst (λ (m : ℕ → Option Contents). IsSome (m e.object)) (sym same.objects)
            (present_long (s.objects e.object) (let a = q.same in let b = q.long in omega arith));
        known = q.known;
        long = q.long;
      }) entries p.each;
      distinct = subst (IsDistinct nat_eq) (sym numbers) (distinct_filter has present can.distinct);
      complete = λ o x is long.
          let was : s.objects o ≡ Some x = ap (λ (m : ℕ → Option Contents). m o) (sym same.objects) ∙ is in
          subst (λ ns. Contains ns o) (sym numbers) (in_filter has present o (passes (lengths o)
          (subst (λ z. 1 ≤ length_of z) (sym was) long)) ((can.listed o).0 (subst (λ z. IsSome z) (sym was) refl)));
      sum = words ∙ (ap (sum_by lengths) numbers
          ∙ (passed ∙ (listed ∙ (ap (λ (c : Config). present_words c s) (sym config) ∙ ap (λ (m : ℕ → Option Contents).
          sum_below (k'.config.objects + 1) (λ o. length_of (m o))) (sym same.objects)))));
    }

-- what the list has is the number of an object
pub listed_number : {S : Type 0} (facts : S → Facts) → AreOf facts → (present : List ℕ) (a : S) (i d : ℕ)
    → i < length present → MayKnow facts a (CanCompact present)
    → (1 ≤ get_or present i d) × (get_or present i d ≤ (facts a).stands.config.objects)
listed_number facts fits present a i d l may =
    is_number facts fits a (get_or present i d) (∥∥₁_map may (λ k. let can = k.2 in
    (k.0, k.1, (can.listed (get_or present i d)).1 (Contains-get_or present i d l))))

module _ {S : Type 0} {facts : S → Facts} (fits : AreOf facts) (present : List ℕ) where
  -- nothing is noted
  pub noted_none : (a : S) → SawWithin facts (λ j. 0) a a (CanCompact present) (IsNotedTo present 0 [])
  noted_none a = record {
    stands_is = refl;
    hint_is = refl;
    leads = λ k s can. (
      k,
      s,
      within_none k (fits a k s).legal,
      record { numbers = refl; each = All-nil (IsEntry k k); settled = can.settled },
    );
  }

  module _ {a b c : S} {i : ℕ} {entries : List PlacedObject}
      (p : SawWithin facts (λ j. i) a b (CanCompact present) (IsNotedTo present i entries)) where
    -- one object more was looked at
    pub noted_more : (d : ℕ) (h : Option HeaderParts) → i < length present → (facts a).stands.role ≡ Collecting
        → Took facts b c [] anything (ShowsHeader (get_or present i d) h)
        → SawWithin facts (λ j. i + 1) a c (CanCompact present) (IsNotedTo present (i + 1)
        (entries ++ option_to_list (placed_of (get_or present i d) h)))
    noted_more d h l collects t = record {
      stands_is = t.stands_is ∙ p.stands_is;
      hint_is = t.hint_is ∙ p.hint_is;
      leads = λ k s can.
          let x = p.leads k s can in
          let y = t.goes x.0 x.1 tt in
          let sees = within_more x.2 y.2 in
          let same : HaveSameTables (state_of k) (state_of y.0) =
          tables_seen sees.sees ((fits a k s).role ∙ collects) in
          let o = get_or present i d in
          let long : length_of ((state_of k).objects o) ≡ length_found h =
          ap (λ (m : ℕ → Option Contents). length_of (m o)) (sym same.objects) ∙ length_shown o h x.0 y.0 y.3 in (
            y.0,
            y.1,
            sees,
            record {
              numbers = map-append (λ (e : PlacedObject). e.object) entries (option_to_list (placed_of o h))
                  ∙ (ap (λ ns. ns ++ numbers_of (option_to_list (placed_of o h))) (x.3).numbers
                  ∙ (ap (λ ns. filter (has_words (state_of k)) (take i present) ++ ns) (one_number o h
                  ∙ ap (λ n. cond (not (n == 0)) (o ∷ []) []) (sym long))
                  ∙ sym (filter_more (has_words (state_of k)) present i d l)));
              each = All-append (IsEntry k y.0) entries (option_to_list (placed_of o h))
                  (All-weaker (IsEntry k x.0) (IsEntry k y.0) (λ e q. record {
                    known = steps_keep_headers.loaded x.0 y.0 o h y.3 e.object e.header q.known;
                    same = q.same;
                    long = q.long;
                  }) entries (x.3).each)
                  (one_entry k x.0 y.0 o h y.3 long);
              settled = settled_still o h x.0 y.0 y.3 (x.3).settled;
            },
          );
    }

  -- all are noted
  pub noted_at_end : {a b : S} {i : ℕ} {entries : List PlacedObject} → i ≡ length present
      → (facts a).stands.role ≡ Collecting
      → SawWithin facts (λ j. i) a b (CanCompact present) (IsNotedTo present i entries)
      → SawWithin facts (λ j. length present) a b (CanCompact present) (λ j k. AreNoted entries k)
  noted_at_end {a} {b} {i} {entries} end collects p = record {
    stands_is = p.stands_is;
    hint_is = p.hint_is;
    leads = λ k s can.
        let x = p.leads k s can in (
          x.0,
          x.1,
          within_most (length present) (omega arith) x.2,
          noted_all present entries k x.0 (fits a k s).legal (tables_seen (x.2).sees ((fits a k s).role ∙ collects))
              ((x.2).sees).config can (subst (λ n. IsNotedTo present n entries k x.0) end x.3),
        );
  }
