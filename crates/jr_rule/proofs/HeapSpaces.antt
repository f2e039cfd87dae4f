-- The space after space was reserved, a word was put or written, or an object was published.
use Rattle.std.proofs.Common.{◌≡◌, ◌≢◌, ◌+◌, ◌-◌, ◌<◌, ◌≤◌, ◌==◌, ℕ, zero, suc, cond, Option, Some, None}
use Rattle.std.proofs.Common.{List, [], ◌∷◌, length, get_or, slice_set, eq-eqb, ne_eqb, refl, sym, ap, subst}
use Rattle.std.proofs.Common.{◌∙◌, arith, nat_eq, nat_lt, length-set, get_or-set_same, get_or-set_other}
use mathlib.Core.Logic.{dite}
use native.Mathlib.Decide.{ℕ_discrete, dec_lt}
use Rattle.std.proofs.lemmas.Bool.{lt-ltb, le-ltb}
use Rattle.jr_word.specs.declared.config.Config.{Config}
use Rattle.jr_word.specs.declared.header.HeaderParts.{HeaderParts}
use Rattle.jr_word.specs.declared.kind.Kind.{Kind}
use Rattle.jr_word.specs.Config.{row_words}
use Rattle.jr_word.specs.Header.{header_word, IsHeader}
use Rattle.jr_model.specs.Maps.{update}
use Rattle.jr_model.specs.State.{Contents}
use Rattle.jr_model.proofs.Updates.{at_number_self}
use Rattle.jr_steps.specs.declared.known.Holdings.{Holdings}
use Rattle.jr_steps.specs.declared.known.Move.{Move}
use Rattle.jr_steps.specs.Holdings.{words_at, header_in, with_range, with_header, hold}
use Rattle.jr_steps.specs.Says.{element_spot}
use Rattle.jr_rule.specs.Image.{top_at, header_at, element_at, Owner, unowned}
use Rattle.jr_rule.specs.Image.{of_object, of_range, Stands, IsKnown, IsSpace}
use Rattle.jr_word.proofs.OneWord.{header_word-injective}
use Rattle.jr_rule.proofs.Headers.{header_positive}
use Rattle.jr_rule.proofs.Spaces.{header_stays, element_stays, hold_here, hold_else}

-- the words that stand from a place on
pub elements_from : Config → List ℕ → ℕ → ℕ → List ℕ
elements_from c words x zero = []
elements_from c words x (suc n) = get_or words (element_at c x) 0 ∷ elements_from c words (suc x) n

pub elements_length : (c : Config) (words : List ℕ) (x n : ℕ) → length (elements_from c words x n) ≡ n
unfolding elements_from
elements_length c words x zero = refl
elements_length c words x (suc n) = ap suc (elements_length c words (suc x) n)

elements_read : (c : Config) (words : List ℕ) (x n j : ℕ) → j < n
    → get_or (elements_from c words x n) j 0 ≡ get_or words (element_at c (x + j)) 0
unfolding elements_from
elements_read c words x zero j l = absurd (omega arith)
elements_read c words x (suc n) zero l =
    ap (λ y. get_or words (element_at c y) 0) (let e : x ≡ x + 0 = omega arith in e)
elements_read c words x (suc n) (suc j) l = elements_read c words (suc x) n j (omega arith)
    ∙ ap (λ y. get_or words (element_at c y) 0) (let e : suc x + j ≡ x + suc j = omega arith in e)

-- the words of a range at a place, after a newer one was put on top
newer_here : (g : Holdings) (p : ℕ) (ws : List ℕ) → words_at p (with_range g p ws).ranges ≡ ws
newer_here g p ws = ap (λ b. cond b ws (words_at p g.ranges)) (eq-eqb p p refl)

newer_else : (g : Holdings) (p q : ℕ) (ws : List ℕ) → q ≢ p
    → words_at q (with_range g p ws).ranges ≡ words_at q g.ranges
newer_else g p q ws ne = ap (λ b. cond b ws (words_at q g.ranges)) (ne_eqb p q (λ e. ne (sym e)))

-- what each thread holds at each place, once t holds other words at p
range_cases : (held : ℕ → Holdings) (t p : ℕ) (ws : List ℕ) (P : ℕ → ℕ → List ℕ → Type 0) → P t p ws
    → ((u q : ℕ) → (u ≡ t → q ≢ p) → P u q (words_at q (held u).ranges)) → (u q : ℕ)
    → P u q (words_at q (hold held t (with_range (held t) p ws) u).ranges)
range_cases held t p ws P here else u q = dite (ℕ_discrete u t)
    (λ e. dite (ℕ_discrete q p)
    (λ f. subst (λ z. P u q z) (sym (ap (λ (g : Holdings). words_at q g.ranges)
    (ap (hold held t (with_range (held t) p ws)) e ∙ hold_here held t (with_range (held t) p ws))
    ∙ (ap (λ z. words_at z (with_range (held t) p ws).ranges) f ∙ newer_here (held t) p ws)))
    (subst (λ (z : ℕ × ℕ). P z.0 z.1 ws) (λ i. (sym e i, sym f i)) here))
    (λ f. subst (λ z. P u q z) (sym (ap (λ (g : Holdings). words_at q g.ranges)
    (ap (hold held t (with_range (held t) p ws)) e ∙ hold_here held t (with_range (held t) p ws))
    ∙ (newer_else (held t) p q ws f ∙ ap (λ z. words_at q (held z).ranges) (sym e)))) (else u q (λ _. f))))
    (λ e. subst (λ (g : Holdings). P u q (words_at q g.ranges)) (sym (hold_else held t u (with_range (held t) p ws) e))
    (else u q (λ z. absurd (e z))))

header_cases : (held : ℕ → Holdings) (t p : ℕ) (ws : List ℕ) (u o : ℕ)
    → header_in o (hold held t (with_range (held t) p ws) u).headers ≡ header_in o (held u).headers
header_cases held t p ws u o = dite (ℕ_discrete u t)
    (λ e. ap (λ (g : Holdings). header_in o g.headers) (ap (hold held t (with_range (held t) p ws)) e
    ∙ hold_here held t (with_range (held t) p ws)) ∙ ap (λ z. header_in o (held z).headers) (sym e))
    (λ ne. ap (λ (g : Holdings). header_in o g.headers) (hold_else held t u (with_range (held t) p ws) ne))

-- no word has two owners
pub not_unowned : (a : Owner) (o j : ℕ) → a ≡ unowned → a ≡ of_object o j → ⊥
not_unowned a o j e f = let z : unowned ≡ of_object o j = sym e ∙ f in cc

not_unowned' : (a : Owner) (t p j : ℕ) → a ≡ unowned → a ≡ of_range t p j → ⊥
not_unowned' a t p j e f = let z : unowned ≡ of_range t p j = sym e ∙ f in cc

object_or_range : (a : Owner) (o i t p j : ℕ) → a ≡ of_object o i → a ≡ of_range t p j → ⊥
object_or_range a o i t p j e f = let z : of_object o i ≡ of_range t p j = sym e ∙ f in cc

pub one_object : (a : Owner) (o i r j : ℕ) → a ≡ of_object o i → a ≡ of_object r j → o ≡ r
one_object a o i r j e f = let z : of_object o i ≡ of_object r j = sym e ∙ f in cc

-- and an owner names one word of its list
one_of_object : (o j k : ℕ) → of_object o j ≡ of_object o k → j ≡ k
one_of_object o j k e = cc

one_of_range : (t p j k : ℕ) → of_range t p j ≡ of_range t p k → j ≡ k
one_of_range t p j k e = cc

one_range : (a : Owner) (t p i u q j : ℕ) → a ≡ of_range t p i → a ≡ of_range u q j → (t ≡ u) × (p ≡ q)
one_range a t p i u q j e f = let z : of_range t p i ≡ of_range u q j = sym e ∙ f in (cc, cc)

module _ (c : Config) (words : List ℕ) (objects : ℕ → Option Contents) (area : ℕ → Type 0) (moving : Option Move)
    (held : ℕ → Holdings) (s : IsSpace c words objects area moving held) where
  -- what is owned lies below the top
  pub object_below : (x o j : ℕ) → s.owner x ≡ of_object o j → area x
  object_below x o j e = s.inside x (λ n. not_unowned (s.owner x) o j n e)

  pub range_below : (x t p j : ℕ) → s.owner x ≡ of_range t p j → area x
  range_below x t p j e = s.inside x (λ n. not_unowned' (s.owner x) t p j n e)

  -- no range of a thread's own begins at a word that is not in the area
  pub none_beyond : (p t : ℕ) → ¬ (area p) → words_at p (held t).ranges ≡ []
  none_beyond p t out = go (words_at p (held t).ranges) refl
    where
      go : (ws : List ℕ) → words_at p (held t).ranges ≡ ws → ws ≡ []
      go [] e = refl
      go (x ∷ ws) e =
          let some : 0 < length (words_at p (held t).ranges) =
          subst (λ (l : List ℕ). 0 < length l) (sym e) (omega arith) in
          let at : p + 0 ≡ p = omega arith in
          absurd (out (subst area at (range_below (p + 0) t p 0 ((s.range t p).owns 0 some))))

  -- RESERVING: the area in use grows by n words from a place on, which are the thread's
  module _ (t base n w : ℕ) (area' : ℕ → Type 0) (wider : (x : ℕ) → area x → area' x)
      (grown : (x : ℕ) → base ≤ x → x < base + n → area' x)
      (fresh : (x : ℕ) → base ≤ x → x < base + n → ¬ (area x)) where
    abbrev reserved : ℕ → Owner
    reserved x = cond (nat_lt x base) (s.owner x) (cond (nat_lt x (base + n)) (of_range t base (x - base)) (s.owner x))

    reserved_low : (x : ℕ) → x < base → reserved x ≡ s.owner x
    reserved_low x l =
        ap (λ b. cond b (s.owner x) (cond (nat_lt x (base + n)) (of_range t base (x - base)) (s.owner x)))
        (lt-ltb x base l)

    reserved_new : (x : ℕ) → base ≤ x → x < base + n → reserved x ≡ of_range t base (x - base)
    reserved_new x l m =
        ap (λ b. cond b (s.owner x) (cond (nat_lt x (base + n)) (of_range t base (x - base)) (s.owner x)))
        (le-ltb x base l) ∙ ap (λ b. cond b (of_range t base (x - base)) (s.owner x)) (lt-ltb x (base + n) m)

    reserved_high : (x : ℕ) → base + n ≤ x → reserved x ≡ s.owner x
    reserved_high x l =
        ap (λ b. cond b (s.owner x) (cond (nat_lt x (base + n)) (of_range t base (x - base)) (s.owner x)))
        (le-ltb x base (omega arith))
        ∙ ap (λ b. cond b (of_range t base (x - base)) (s.owner x)) (le-ltb x (base + n) l)

    reserved_old : (x : ℕ) → area x → reserved x ≡ s.owner x
    reserved_old x l = dite (dec_lt x base) (reserved_low x) (λ m.
        dite (dec_lt x (base + n)) (λ k. absurd (fresh x (omega arith) k l)) (λ k. reserved_high x (omega arith)))

    reserved_in : (x : ℕ) → reserved x ≢ unowned → area' x
    reserved_in x owned = dite (dec_lt x base)
        (λ l. wider x (s.inside x (λ q. owned (reserved_low x l ∙ q))))
        (λ m. dite (dec_lt x (base + n)) (λ k. grown x (omega arith) k) (λ k.
        wider x (s.inside x (λ q. owned (reserved_high x (omega arith) ∙ q)))))

    top_element : (x : ℕ) → get_or (slice_set words top_at w) (element_at c x) 0 ≡ get_or words (element_at c x) 0
    top_element x = element_stays c words top_at w (omega arith) x

    pub space_reserved : IsSpace c (slice_set words top_at w) objects area' moving
        (hold held t (with_range (held t) base (elements_from c words base n)))
    space_reserved = record {
      owner = reserved;
      inside = reserved_in;
      object = λ o x h some few is fits word.
          let old =
          s.object o x h some few is fits (sym (header_stays c words top_at w (omega arith) o some) ∙ word) in record {
            owns = λ j l. let e = old.owns j l in
                reserved_old (element_spot moving o h.place j) (object_below (element_spot moving o h.place j) o j e)
                ∙ e;
            reads = λ j l. top_element (element_spot moving o h.place j) ∙ old.reads j l;
          };
      low = λ o x h some few is fits word j l. wider (h.place + j)
          (s.low o x h some few is fits (sym (header_stays c words top_at w (omega arith) o some) ∙ word) j l);
      range = range_cases held t base (elements_from c words base n) (λ u q ws.
          Stands c reserved (slice_set words top_at w) (of_range u q) (λ j. q + j) ws)
          record {
            owns = λ j l. let long = elements_length c words base n in
                reserved_new (base + j) (omega arith) (omega arith) ∙ ap (of_range t base) (omega arith);
            reads = λ j l. let long = elements_length c words base n in
                top_element (base + j) ∙ sym (elements_read c words base n j (omega arith));
          }
          (λ u q other. let old = s.range u q in record {
            owns = λ j l. let e = old.owns j l in reserved_old (q + j) (range_below (q + j) u q j e) ∙ e;
            reads = λ j l. top_element (q + j) ∙ old.reads j l;
          });
      header = λ u o h e.
          let k = s.header u o h (sym (header_cases held t base (elements_from c words base n) u o) ∙ e) in
          record {
            number = k.number;
            fits = k.fits;
            word = header_stays c words top_at w (omega arith) o k.number.0 ∙ k.word;
          };
    }

  -- A STORE TO ONE WORD, whose owner is known
  module _ (wide : length words ≡ row_words c) (fits : (x : ℕ) → area x → x < c.words) (at v : ℕ) where
    abbrev stored : List ℕ
    stored = slice_set words (element_at c at) v

    pub there : area at → get_or stored (element_at c at) 0 ≡ v
    there l = let m = fits at l in get_or-set_same words (element_at c at) v 0 (omega arith)

    pub elsewhere : (x : ℕ) → x ≢ at → get_or stored (element_at c x) 0 ≡ get_or words (element_at c x) 0
    elsewhere x ne = get_or-set_other words (element_at c at) (element_at c x) v 0 (λ e. ne (omega arith))

    pub no_header : (o : ℕ) → 1 ≤ o → o ≤ c.objects → get_or stored (header_at c o) 0 ≡ get_or words (header_at c o) 0
    no_header o some few = get_or-set_other words (element_at c at) (header_at c o) v 0 (λ e. absurd (omega arith))

    -- a list with other owners stays
    untouched : (whose : ℕ → Owner) (spots : ℕ → ℕ) (items : List ℕ) → ((j : ℕ) → s.owner at ≢ whose j)
        → Stands c s.owner words whose spots items → Stands c s.owner stored whose spots items
    untouched whose spots items other z = record {
      owns = z.owns;
      reads = λ j l. elsewhere (spots j) (λ e. other j (ap s.owner (sym e) ∙ z.owns j l)) ∙ z.reads j l;
    }

    -- the list that the store is in
    touched : (whose : ℕ → Owner) (spots : ℕ → ℕ) (i : ℕ) (items : List ℕ) → ((j k : ℕ) → whose j ≡ whose k → j ≡ k)
        → at ≡ spots i → i < length items → area at → Stands c s.owner words whose spots items
        → Stands c s.owner stored whose spots (slice_set items i v)
    touched whose spots i items one e l below z = record {
      owns = λ j g. let long = length-set items i v in z.owns j (omega arith);
      reads = λ j g. dite (ℕ_discrete j i)
          (λ is. ap (λ k. get_or stored (element_at c (spots k)) 0) is
          ∙ (ap (λ k. get_or stored (element_at c k) 0) (sym e) ∙ (there below
          ∙ (sym (get_or-set_same items i v 0 l) ∙ ap (λ k. get_or (slice_set items i v) k 0) (sym is)))))
          (λ ne.
          let long = length-set items i v in
          let m : j < length items = omega arith in
          elsewhere (spots j) (λ q. ne (one j i (sym (z.owns j m) ∙ (ap s.owner (q ∙ e) ∙ z.owns i l))))
          ∙ (z.reads j m ∙ sym (get_or-set_other items i j v 0 (λ q. ne q))));
    }

    known_stays : (u o : ℕ) (h : HeaderParts) → header_in o (held u).headers ≡ Some h → IsKnown c stored o h
    known_stays u o h e = let k = s.header u o h e in
        record { number = k.number; fits = k.fits; word = no_header o k.number.0 k.number.1 ∙ k.word }

  -- a word of one's own range is put
  pub space_put : (wide : length words ≡ row_words c) (fits : (x : ℕ) → area x → x < c.words) (t p i v : ℕ)
      → i < length (words_at p (held t).ranges)
      → IsSpace c (slice_set words (element_at c (p + i)) v) objects area moving (hold held t
      (with_range (held t) p (slice_set (words_at p (held t).ranges) i v)))
  space_put wide fits t p i v l =
      let own = (s.range t p).owns i l in
      let below = range_below (p + i) t p i own in record {
        owner = s.owner;
        inside = s.inside;
        object = λ o x h some few is good word. untouched wide fits (p + i) v (of_object o)
            (element_spot moving o h.place) x.words (λ j e. object_or_range (s.owner (p + i)) o j t p i e own)
            (s.object o x h some few is good (sym (no_header wide fits (p + i) v o some few) ∙ word));
        low = λ o x h some few is good word.
            s.low o x h some few is good (sym (no_header wide fits (p + i) v o some few) ∙ word);
        range = range_cases held t p (slice_set (words_at p (held t).ranges) i v) (λ u q ws.
            Stands c s.owner (slice_set words (element_at c (p + i)) v) (of_range u q) (λ j. q + j) ws)
            (touched wide fits (p + i) v (of_range t p) (λ j. p + j) i (words_at p (held t).ranges)
            (λ j k e. one_of_range t p j k e) refl l below (s.range t p))
            (λ u q other. untouched wide fits (p + i) v (of_range u q) (λ j. q + j) (words_at q (held u).ranges)
            (λ j e. let z = one_range (s.owner (p + i)) u q j t p i e own in other z.0 z.1) (s.range u q));
        header = λ u o h e. known_stays wide fits (p + i) v u o h
            (sym (header_cases held t p (slice_set (words_at p (held t).ranges) i v) u o) ∙ e);
      }

  -- an element of a present object is written
  pub space_written : (wide : length words ≡ row_words c) (fits : (x : ℕ) → area x → x < c.words) (o i v : ℕ)
      (x : Contents) (h : HeaderParts) → 1 ≤ o → o ≤ c.objects → objects o ≡ Some x → IsHeader h
      → get_or words (header_at c o) 0 ≡ header_word h → i < length x.words
      → IsSpace c (slice_set words (element_at c (element_spot moving o h.place i)) v)
      (update nat_eq objects o (Some (record { kind = x.kind; words = slice_set x.words i v }))) area moving held
  space_written wide fits o i v x h some few is good word l =
      let at : ℕ = element_spot moving o h.place i in
      let list = s.object o x h some few is good word in
      let own = list.owns i l in
      let below = object_below at o i own in
      let new : Contents = record { kind = x.kind; words = slice_set x.words i v } in record {
        owner = s.owner;
        inside = s.inside;
        low = λ r y k some' few' is' good' word' j m.
            let kept = sym (no_header wide fits at v r some' few') ∙ word' in
            dite (ℕ_discrete o r)
            (λ e.
            let y_is : new ≡ y = let z =
            sym (at_number_self objects o (Some new)) ∙ (ap (update nat_eq objects o (Some new)) e ∙ is') in cc in
            let long : length y.words ≡ length x.words =
            ap (λ (z : Contents). length z.words) (sym y_is) ∙ length-set x.words i v in
            s.low r x k some' few' (ap objects (sym e) ∙ is) good' kept j (omega arith))
            (λ ne. s.low r y k some' few' (sym (ap (λ b. cond b (Some new) (objects r)) (ne_eqb o r ne)) ∙ is') good'
            kept j m);
        object = λ r y k some' few' is' good' word'.
            let kept = sym (no_header wide fits at v r some' few') ∙ word' in
            dite (ℕ_discrete o r)
            (λ e.
            let y_is : new ≡ y = let z =
            sym (at_number_self objects o (Some new)) ∙ (ap (update nat_eq objects o (Some new)) e ∙ is') in cc in
            let k_is : h ≡ k =
            header_word-injective h k good good' (sym word ∙ (ap (λ z. get_or words (header_at c z) 0) e ∙ kept)) in
            subst (λ (z : ℕ × Contents × HeaderParts). Stands c s.owner (slice_set words (element_at c at) v)
            (of_object z.0) (element_spot moving z.0 (z.2).place) (z.1).words) (λ j. (e j, y_is j, k_is j))
            (touched wide fits at v (of_object o) (element_spot moving o h.place) i x.words
            (λ j k e. one_of_object o j k e) refl l below list))
            (λ ne. untouched wide fits at v (of_object r) (element_spot moving r k.place) y.words (λ j e.
            ne (one_object (s.owner at) o i r j own e))
            (s.object r y k some' few' (sym (ap (λ b. cond b (Some new) (objects r)) (ne_eqb o r ne)) ∙ is') good'
            kept));
        range = λ u q. untouched wide fits at v (of_range u q) (λ j. q + j) (words_at q (held u).ranges)
            (λ j e. object_or_range (s.owner at) o i u q j own e) (s.range u q);
        header = λ u r k e. known_stays wide fits at v u r k e;
      }

  -- PUBLISHING: an object without elements, or one whose elements are a thread's own range
  module _ (o : ℕ) (h : HeaderParts) (kind : Kind) (some : 1 ≤ o) (few : o ≤ c.objects) (good : IsHeader h)
      (wide : length words ≡ row_words c) (absent : get_or words (header_at c o) 0 ≡ 0) where
    abbrev headed : List ℕ
    headed = slice_set words (header_at c o) (header_word h)

    pub at_header : get_or headed (header_at c o) 0 ≡ header_word h
    at_header = get_or-set_same words (header_at c o) (header_word h) 0 (omega arith)

    other_header : (r : ℕ) → 1 ≤ r → r ≢ o → get_or headed (header_at c r) 0 ≡ get_or words (header_at c r) 0
    other_header r some' ne =
        get_or-set_other words (header_at c o) (header_at c r) (header_word h) 0 (λ e. ne (omega arith))

    same_element : (x : ℕ) → get_or headed (element_at c x) 0 ≡ get_or words (element_at c x) 0
    same_element x =
        get_or-set_other words (header_at c o) (element_at c x) (header_word h) 0 (λ e. absurd (omega arith))

    known_apart : (r : ℕ) (k : HeaderParts) → IsKnown c words r k → IsKnown c headed r k
    known_apart r k z = record {
      number = z.number;
      fits = z.fits;
      word = other_header r z.number.0 (λ e. let p = header_positive k in
          absurd (let q = ap (λ j. get_or words (header_at c j) 0) (sym e) in let a = z.word in omega arith)) ∙ z.word;
    }

    -- the objects, where each that stands keeps its list under other names of owners
    published_object : (P : ℕ → Contents → HeaderParts → Type 0) (ws : List ℕ)
        → P o (record { kind = kind; words = ws }) h
        → ((r : ℕ) (y : Contents) (k : HeaderParts) → 1 ≤ r → r ≤ c.objects → objects r ≡ Some y → IsHeader k
        → get_or words (header_at c r) 0 ≡ header_word k → P r y k)
        → (r : ℕ) (y : Contents) (k : HeaderParts) → 1 ≤ r → r ≤ c.objects
        → update nat_eq objects o (Some (record { kind = kind; words = ws })) r ≡ Some y → IsHeader k
        → get_or headed (header_at c r) 0 ≡ header_word k → P r y k
    published_object P ws new old r y k some' few' is' good' word' =
        let x : Contents = record { kind = kind; words = ws } in
        dite (ℕ_discrete o r)
        (λ e.
        let y_is : x ≡ y = let z =
        sym (at_number_self objects o (Some x)) ∙ (ap (update nat_eq objects o (Some x)) e ∙ is') in cc in
        let k_is : h ≡ k =
        header_word-injective h k good good' (sym at_header ∙ (ap (λ z. get_or headed (header_at c z) 0) e ∙ word')) in
        subst (λ (z : ℕ × Contents × HeaderParts). P z.0 z.1 z.2) (λ j. (e j, y_is j, k_is j)) new)
        (λ ne. old r y k some' few' (sym (ap (λ b. cond b (Some x) (objects r)) (ne_eqb o r ne)) ∙ is') good'
        (sym (other_header r some' (λ e. ne (sym e))) ∙ word'))

    stays : (owner : ℕ → Owner) (whose : ℕ → Owner) (spots : ℕ → ℕ) (items : List ℕ)
        → ((x : ℕ) (j : ℕ) → s.owner x ≡ whose j → owner x ≡ whose j) → Stands c s.owner words whose spots items
        → Stands c owner headed whose spots items
    stays owner whose spots items same z =
        record { owns = λ j l. same (spots j) j (z.owns j l); reads = λ j l. same_element (spots j) ∙ z.reads j l }

    pub space_empty : IsSpace c headed (update nat_eq objects o (Some (record { kind = kind; words = [] }))) area moving
        held
    space_empty = record {
      owner = s.owner;
      inside = s.inside;
      object = published_object (λ r y k. Stands c s.owner headed (of_object r) (element_spot moving r k.place) y.words)
          [] (record { owns = λ j l. absurd (omega arith); reads = λ j l. absurd (omega arith) })
          (λ r y k a b is g w.
          stays s.owner (of_object r) (element_spot moving r k.place) y.words (λ x j e. e) (s.object r y k a b is g w));
      low = published_object (λ r y k. (j : ℕ) → j < length y.words → area (k.place + j)) []
          (λ j l. absurd (omega arith)) s.low;
      range = λ u q. stays s.owner (of_range u q) (λ j. q + j) (words_at q (held u).ranges) (λ x j e. e) (s.range u q);
      header = λ u r k e. known_apart r k (s.header u r k e);
    }

    module _ (t : ℕ) where
      -- the range's words are the object's
      abbrev renamed : Owner → Owner
      renamed unowned = unowned
      renamed (of_object r j) = of_object r j
      renamed (of_range u q j) = cond (u == t) (cond (q == h.place) (of_object o j) (of_range u q j)) (of_range u q j)

      abbrev owner_then : ℕ → Owner
      owner_then x = renamed (s.owner x)

      renamed_here : (x j : ℕ) → s.owner x ≡ of_range t h.place j → owner_then x ≡ of_object o j
      renamed_here x j e = ap renamed e
          ∙ (ap (λ b. cond b (cond (h.place == h.place) (of_object o j) (of_range t h.place j)) (of_range t h.place j))
          (eq-eqb t t refl) ∙ ap (λ b. cond b (of_object o j) (of_range t h.place j)) (eq-eqb h.place h.place refl))

      renamed_object : (x r j : ℕ) → s.owner x ≡ of_object r j → owner_then x ≡ of_object r j
      renamed_object x r j e = ap renamed e

      renamed_else : (x u q j : ℕ) → (u ≡ t → q ≢ h.place) → s.owner x ≡ of_range u q j → owner_then x ≡ of_range u q j
      renamed_else x u q j other e = ap renamed e ∙ dite (ℕ_discrete u t)
          (λ f. ap (λ b. cond b (cond (q == h.place) (of_object o j) (of_range u q j)) (of_range u q j)) (eq-eqb u t f)
          ∙ ap (λ b. cond b (of_object o j) (of_range u q j)) (ne_eqb q h.place (other f)))
          (λ f. ap (λ b. cond b (cond (q == h.place) (of_object o j) (of_range u q j)) (of_range u q j)) (ne_eqb u t f))

      -- where no move is unfinished
      pub space_published : moving ≡ None → IsSpace c headed (update nat_eq objects o
          (Some (record { kind = kind; words = words_at h.place (held t).ranges }))) area moving (hold held t
          (with_range (held t) h.place []))
      space_published still = record {
        owner = owner_then;
        inside = λ x some. s.inside x (λ none. some (ap renamed none));
        object =
            published_object (λ r y k. Stands c owner_then headed (of_object r) (element_spot moving r k.place) y.words)
            (words_at h.place (held t).ranges)
            (subst (λ m. Stands c owner_then headed (of_object o) (element_spot m o h.place)
            (words_at h.place (held t).ranges)) (sym still)
            (let z = s.range t h.place in record {
              owns = λ j l. renamed_here (h.place + j) j (z.owns j l);
              reads = λ j l. same_element (h.place + j) ∙ z.reads j l;
            }))
            (λ r y k a b is g w. stays owner_then (of_object r) (element_spot moving r k.place) y.words
            (λ x j e. renamed_object x r j e) (s.object r y k a b is g w));
        low = published_object (λ r y k. (j : ℕ) → j < length y.words → area (k.place + j)) (words_at h.place
            (held t).ranges) (λ j l. range_below (h.place + j) t h.place j ((s.range t h.place).owns j l)) s.low;
        range = range_cases held t h.place [] (λ u q ws. Stands c owner_then headed (of_range u q) (λ j. q + j) ws)
            (record { owns = λ j l. absurd (omega arith); reads = λ j l. absurd (omega arith) })
            (λ u q other. stays owner_then (of_range u q) (λ j. q + j) (words_at q (held u).ranges)
            (λ x j e. renamed_else x u q j other e) (s.range u q));
        header = λ u r k e. known_apart r k (s.header u r k (sym (header_cases held t h.place [] u r) ∙ e));
      }

  -- A HEADER IS KNOWN
  pub space_known : (t o : ℕ) (h : HeaderParts) → IsKnown c words o h
      → IsSpace c words objects area moving (hold held t (with_header (held t) o h))
  space_known t o h known = record {
    owner = s.owner;
    inside = s.inside;
    object = s.object;
    low = s.low;
    range = λ u p.
        subst (λ ws. Stands c s.owner words (of_range u p) (λ j. p + j) ws) (sym (same_ranges u p)) (s.range u p);
    header = λ u r k e. dite (ℕ_discrete u t)
        (λ q. dite (ℕ_discrete o r)
        (λ f. let k_is : h ≡ k = let z = sym (ap (λ b. cond b (Some h) (header_in r (held t).headers)) (eq-eqb o r f))
        ∙ (sym (ap (λ (g : Holdings). header_in r g.headers) (here u q)) ∙ e) in cc in
        subst (λ (z : ℕ × HeaderParts). IsKnown c words z.0 z.1) (λ i. (f i, k_is i)) known)
        (λ ne. s.header t r k (sym (ap (λ b. cond b (Some h) (header_in r (held t).headers)) (ne_eqb o r ne))
        ∙ (sym (ap (λ (g : Holdings). header_in r g.headers) (here u q)) ∙ e))))
        (λ ne. s.header u r k
        (ap (λ (g : Holdings). header_in r g.headers) (sym (hold_else held t u (with_header (held t) o h) ne)) ∙ e));
  }
    where
      here : (u : ℕ) → u ≡ t → hold held t (with_header (held t) o h) u ≡ with_header (held t) o h
      here u q = ap (hold held t (with_header (held t) o h)) q ∙ hold_here held t (with_header (held t) o h)

      same_ranges : (u p : ℕ)
          → words_at p (hold held t (with_header (held t) o h) u).ranges ≡ words_at p (held u).ranges
      same_ranges u p = dite (ℕ_discrete u t)
          (λ q. ap (λ (g : Holdings). words_at p g.ranges) (here u q) ∙ ap (λ z. words_at p (held z).ranges) (sym q))
          (λ ne. ap (λ (g : Holdings). words_at p g.ranges) (hold_else held t u (with_header (held t) o h) ne))
