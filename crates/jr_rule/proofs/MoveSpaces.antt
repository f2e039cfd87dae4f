-- The space while a thread collects, and so nobody holds a range:
-- an element was moved, a header was set, an object was dropped, the top was set.
use Rattle.std.proofs.Common.{◌≡◌, ◌≢◌, ◌+◌, ◌<◌, ◌≤◌, ◌==◌, ℕ, Bool, true, false, cond, Option}
use Rattle.std.proofs.Common.{Some, None, List, [], length, get_or, slice_set, eq-eqb, ne_eqb, refl}
use Rattle.std.proofs.Common.{sym, ap, subst, ◌∙◌, arith, nat_eq, get_or-set_same, get_or-set_other}
use mathlib.Core.Logic.{dite}
use native.Mathlib.Decide.{ℕ_discrete, dec_lt}
use Rattle.jr_word.specs.declared.config.Config.{Config}
use Rattle.jr_word.specs.declared.header.HeaderParts.{HeaderParts}
use Rattle.jr_word.specs.Config.{row_words}
use Rattle.jr_word.specs.Header.{header_word, IsHeader}
use Rattle.jr_model.specs.Maps.{update}
use Rattle.jr_model.specs.State.{Contents}
use Rattle.jr_model.proofs.Updates.{at_number}
use Rattle.jr_steps.specs.declared.known.Holdings.{Holdings}
use Rattle.jr_steps.specs.declared.known.Move.{Move}
use Rattle.jr_steps.specs.Holdings.{words_at, header_in, move_of, HasDone}
use Rattle.jr_steps.specs.Says.{element_spot}
use Rattle.jr_steps.proofs.Spots.{spot_else, spot_done, spot_left, at_else, at_done, at_left}
use Rattle.jr_rule.specs.Image.{top_at, header_at, element_at, Owner, unowned}
use Rattle.jr_rule.specs.Image.{of_object, of_range, Stands, IsKnown, IsSpace}
use Rattle.jr_word.proofs.OneWord.{header_word-injective}
use Rattle.jr_rule.proofs.HeapSpaces.{not_unowned, there, elsewhere, no_header}
use Rattle.jr_rule.proofs.Spaces.{header_stays, element_stays}

-- no list of a thread's own
none_own : (c : Config) (owner : ℕ → Owner) (words : List ℕ) (whose also : ℕ → Owner) (spots : ℕ → ℕ) (items : List ℕ)
    → items ≡ [] → Stands c owner words whose spots items
none_own c owner words whose also spots items e = record {
  owns = λ j l. absurd (let z = ap length e in omega arith);
  reads = λ j l. absurd (let z = ap length e in omega arith);
}

module _ (c : Config) (words : List ℕ) (objects : ℕ → Option Contents) (area : ℕ → Type 0) (moving : Option Move)
    (held : ℕ → Holdings) (s : IsSpace c words objects area moving held) (wide : length words ≡ row_words c)
    (fits : (x : ℕ) → area x → x < c.words) (held' : ℕ → Holdings)
    (none : (u p : ℕ) → words_at p (held' u).ranges ≡ []) where
  -- AN ELEMENT IS MOVED to its new place, which no other list has, and no element of its own that is still to be moved
  module _ (o place j v : ℕ) (x : Contents) (h : HeaderParts) (some : 1 ≤ o) (few : o ≤ c.objects)
      (is : objects o ≡ Some x) (good : IsHeader h) (word : get_or words (header_at c o) 0 ≡ header_word h)
      (done : HasDone moving o place j) (short : j < length x.words) (room : area (place + j))
      (later : (i : ℕ) → j < i → i < length x.words → h.place + i ≢ place + j) (value : get_or x.words j 0 ≡ v)
      (free : (r : ℕ) (y : Contents) (k : HeaderParts) → o ≢ r → 1 ≤ r → r ≤ c.objects → objects r ≡ Some y → IsHeader k
      → get_or words (header_at c r) 0 ≡ header_word k → (i : ℕ) → i < length y.words → k.place + i ≢ place + j)
      (known : (u r : ℕ) (k : HeaderParts) → header_in r (held' u).headers ≡ Some k
      → IsKnown c (slice_set words (element_at c (place + j)) v) r k) where
    abbrev at : ℕ
    at = place + j

    abbrev then' : List ℕ
    then' = slice_set words (element_at c at) v

    abbrev move : Option Move
    move = Some (move_of o place (j + 1))

    abbrev owner' : ℕ → Owner
    owner' y = cond (y == at) (of_object o j) (s.owner y)

    owner_here : owner' at ≡ of_object o j
    owner_here = ap (λ b. cond b (of_object o j) (s.owner at)) (eq-eqb at at refl)

    owner_else : (y : ℕ) → y ≢ at → owner' y ≡ s.owner y
    owner_else y ne = ap (λ b. cond b (of_object o j) (s.owner y)) (ne_eqb y at ne)

    below : area at
    below = room

    old : Stands c s.owner words (of_object o) (element_spot moving o h.place) x.words
    old = s.object o x h some few is good word

    -- a word that stays: where it stands, whose it is, what it is
    pub record IsAt (r i w a : ℕ) : Type 0 where
      pub owns : owner' a ≡ of_object r i
      pub reads : get_or then' (element_at c a) 0 ≡ w

    stays : (r i w a : ℕ) → a ≢ at → s.owner a ≡ of_object r i → get_or words (element_at c a) 0 ≡ w → IsAt r i w a
    stays r i w a ne own read = record {
      owns = owner_else a ne ∙ own;
      reads = elsewhere c words objects area moving held s wide fits at v a ne ∙ read;
    }

    -- each element of the object stands
    mine : (i : ℕ) → i < length x.words → IsAt o i (get_or x.words i 0) (element_spot move o h.place i)
    mine i l = dite (dec_lt i j)
        (λ before. subst (IsAt o i (get_or x.words i 0)) (at_done moving o place j done h.place i before
        ∙ sym (spot_done o place (j + 1) h.place i (omega arith)))
        (stays o i (get_or x.words i 0) (element_spot moving o h.place i) (λ e.
        let q = at_done moving o place j done h.place i before in absurd (omega arith)) (old.owns i l) (old.reads i l)))
        (λ not. dite (ℕ_discrete i j)
        (λ here. subst (IsAt o i (get_or x.words i 0)) (sym (spot_done o place (j + 1) h.place i (omega arith)))
        (subst (λ z. IsAt o z (get_or x.words z 0) (place + z)) (sym here) record {
          owns = owner_here;
          reads = there c words objects area moving held s wide fits at v below ∙ sym value;
        }))
        (λ after. subst (IsAt o i (get_or x.words i 0)) (at_left moving o place j done h.place i (omega arith)
        ∙ sym (spot_left o place (j + 1) h.place i (omega arith)))
        (stays o i (get_or x.words i 0) (element_spot moving o h.place i) (λ e. later i (omega arith) l
        (sym (at_left moving o place j done h.place i (omega arith)) ∙ e)) (old.owns i l) (old.reads i l))))

    -- and each of another's
    theirs : (r : ℕ) (y : Contents) (k : HeaderParts) → o ≢ r → 1 ≤ r → r ≤ c.objects → objects r ≡ Some y → IsHeader k
        → get_or words (header_at c r) 0 ≡ header_word k → (i : ℕ) → i < length y.words
        → IsAt r i (get_or y.words i 0) (element_spot move r k.place i)
    theirs r y k ne some' few' is' good' word' i l =
        let z = s.object r y k some' few' is' good' word' in
        let before = at_else moving o place j done r k.place i ne in
        subst (IsAt r i (get_or y.words i 0)) (before ∙ sym (spot_else o place (j + 1) r k.place i ne))
        (stays r i (get_or y.words i 0) (element_spot moving r k.place i)
        (λ e. free r y k ne some' few' is' good' word' i l (sym before ∙ e)) (z.owns i l) (z.reads i l))

    pub space_moved : IsSpace c then' objects area move held'
    space_moved = record {
      owner = owner';
      inside = λ y owned.
          dite (ℕ_discrete y at) (λ e. subst area (sym e) below) (λ ne. s.inside y (λ q. owned (owner_else y ne ∙ q)));
      object = λ r y k some' few' is' good' word'.
          let kept = sym (no_header c words objects area moving held s wide fits at v r some' few') ∙ word' in
          dite (ℕ_discrete o r)
          (λ e.
          let y_is : x ≡ y = let z = sym is ∙ (ap objects e ∙ is') in cc in
          let k_is : h ≡ k =
          header_word-injective h k good good' (sym word ∙ (ap (λ z. get_or words (header_at c z) 0) e ∙ kept)) in
          subst (λ (z : ℕ × Contents × HeaderParts). Stands c owner' then' (of_object z.0)
          (element_spot move z.0 (z.2).place) (z.1).words) (λ q. (e q, y_is q, k_is q))
          record { owns = λ i l. (mine i l).owns; reads = λ i l. (mine i l).reads })
          (λ ne. record {
            owns = λ i l. (theirs r y k ne some' few' is' good' kept i l).owns;
            reads = λ i l. (theirs r y k ne some' few' is' good' kept i l).reads;
          });
      low = λ r y k some' few' is' good' word'. s.low r y k some' few' is' good'
          (sym (no_header c words objects area moving held s wide fits at v r some' few') ∙ word');
      range = λ u p.
          none_own c owner' then' (of_range u p) (of_range u p) (λ i. p + i) (words_at p (held' u).ranges) (none u p);
      header = known;
    }

  -- A HEADER IS SET once its object is moved whole
  module _ (o place : ℕ) (x : Contents) (h new : HeaderParts) (some : 1 ≤ o) (few : o ≤ c.objects)
      (is : objects o ≡ Some x) (good : IsHeader h) (word : get_or words (header_at c o) 0 ≡ header_word h)
      (done : HasDone moving o place (length x.words)) (fits' : IsHeader new) (to : new.place ≡ place)
      (known : (u r : ℕ) (k : HeaderParts) → header_in r (held' u).headers ≡ Some k
      → IsKnown c (slice_set words (header_at c o) (header_word new)) r k) where
    abbrev headed : List ℕ
    headed = slice_set words (header_at c o) (header_word new)

    at_header : get_or headed (header_at c o) 0 ≡ header_word new
    at_header = get_or-set_same words (header_at c o) (header_word new) 0 (omega arith)

    other_header : (r : ℕ) → 1 ≤ r → o ≢ r → get_or headed (header_at c r) 0 ≡ get_or words (header_at c r) 0
    other_header r some' ne =
        get_or-set_other words (header_at c o) (header_at c r) (header_word new) 0 (λ e. ne (omega arith))

    same_element : (y : ℕ) → get_or headed (element_at c y) 0 ≡ get_or words (element_at c y) 0
    same_element y =
        get_or-set_other words (header_at c o) (element_at c y) (header_word new) 0 (λ e. absurd (omega arith))

    -- a list that stood at the one spots stands at the others, which are the same
    stands : (r : ℕ) (items : List ℕ) (old new' : ℕ → ℕ) → ((i : ℕ) → i < length items → old i ≡ new' i)
        → Stands c s.owner words (of_object r) old items → Stands c s.owner headed (of_object r) new' items
    stands r items old new' same z = record {
      owns = λ i l. subst (λ a. s.owner a ≡ of_object r i) (same i l) (z.owns i l);
      reads = λ i l. subst (λ a. get_or headed (element_at c a) 0 ≡ get_or items i 0) (same i l) (same_element (old i)
          ∙ z.reads i l);
    }

    old_list : Stands c s.owner words (of_object o) (element_spot moving o h.place) x.words
    old_list = s.object o x h some few is good word

    arrived : (i : ℕ) → i < length x.words → element_spot moving o h.place i ≡ new.place + i
    arrived i l = at_done moving o place (length x.words) done h.place i l ∙ ap (λ z. z + i) (sym to)

    pub space_set : IsSpace c headed objects area None held'
    space_set = record {
      owner = s.owner;
      inside = s.inside;
      object = λ r y k some' few' is' good' word'. dite (ℕ_discrete o r)
          (λ e.
          let y_is : x ≡ y = let z = sym is ∙ (ap objects e ∙ is') in cc in
          let k_is : new ≡ k = header_word-injective new k fits' good' (sym at_header
          ∙ (ap (λ z. get_or headed (header_at c z) 0) e ∙ word')) in
          subst (λ (z : ℕ × Contents × HeaderParts). Stands c s.owner headed (of_object z.0)
          (element_spot None z.0 (z.2).place) (z.1).words) (λ q. (e q, y_is q, k_is q))
          (stands o x.words (element_spot moving o h.place) (element_spot None o new.place) arrived old_list))
          (λ ne.
          let kept = sym (other_header r some' ne) ∙ word' in
          stands r y.words (element_spot moving r k.place) (element_spot None r k.place) (λ i l.
          at_else moving o place (length x.words) done r k.place i ne) (s.object r y k some' few' is' good' kept));
      low = λ r y k some' few' is' good' word'. dite (ℕ_discrete o r)
          (λ e.
          let y_is : x ≡ y = let z = sym is ∙ (ap objects e ∙ is') in cc in
          let k_is : new ≡ k = header_word-injective new k fits' good' (sym at_header
          ∙ (ap (λ z. get_or headed (header_at c z) 0) e ∙ word')) in
          subst (λ (z : Contents × HeaderParts). (i : ℕ) → i < length (z.0).words → area ((z.1).place + i)) (λ q.
          (y_is q, k_is q))
          (λ i l. s.inside (new.place + i) (λ q. not_unowned (s.owner (new.place + i)) o i q
          (subst (λ a. s.owner a ≡ of_object o i) (arrived i l) (old_list.owns i l)))))
          (λ ne. s.low r y k some' few' is' good' (sym (other_header r some' ne) ∙ word'));
      range = λ u p.
          none_own c s.owner headed (of_range u p) (of_range u p) (λ i. p + i) (words_at p (held' u).ranges) (none u p);
      header = known;
    }

  -- AN OBJECT IS DROPPED while no move is unfinished
  module _ (o : ℕ) (some : 1 ≤ o) (few : o ≤ c.objects) (known : (u r : ℕ) (k : HeaderParts)
      → header_in r (held' u).headers ≡ Some k → IsKnown c (slice_set words (header_at c o) 0) r k) where
    abbrev headless : List ℕ
    headless = slice_set words (header_at c o) 0

    its_header : (r : ℕ) → 1 ≤ r → o ≢ r → get_or headless (header_at c r) 0 ≡ get_or words (header_at c r) 0
    its_header r some' ne = get_or-set_other words (header_at c o) (header_at c r) 0 0 (λ e. ne (omega arith))

    each_element : (y : ℕ) → get_or headless (element_at c y) 0 ≡ get_or words (element_at c y) 0
    each_element y = get_or-set_other words (header_at c o) (element_at c y) 0 0 (λ e. absurd (omega arith))

    -- what holds of each object that stood holds of each that stands
    left : (P : ℕ → Contents → HeaderParts → Type 0) → ((r : ℕ) (y : Contents) (k : HeaderParts) → 1 ≤ r → r ≤ c.objects
        → objects r ≡ Some y → IsHeader k → get_or words (header_at c r) 0 ≡ header_word k → P r y k)
        → (r : ℕ) (y : Contents) (k : HeaderParts) → 1 ≤ r → r ≤ c.objects → update nat_eq objects o None r ≡ Some y
        → IsHeader k → get_or headless (header_at c r) 0 ≡ header_word k → P r y k
    left P old r y k some' few' is' good' word' = at_number (λ z. z ≡ Some y → P r y k) objects o r None
        (λ e z. absurd cc) (λ ne z. old r y k some' few' z good' (sym (its_header r some' ne) ∙ word')) is'

    pub space_dropped : IsSpace c headless (update nat_eq objects o None) area moving held'
    space_dropped = record {
      owner = s.owner;
      inside = s.inside;
      object = left (λ r y k. Stands c s.owner headless (of_object r) (element_spot moving r k.place) y.words)
          (λ r y k a b e g w. let z = s.object r y k a b e g w in
          record { owns = z.owns; reads = λ i l. each_element (element_spot moving r k.place i) ∙ z.reads i l });
      low = left (λ r y k. (i : ℕ) → i < length y.words → area (k.place + i)) s.low;
      range = λ u p. none_own c s.owner headless (of_range u p) (of_range u p) (λ i. p + i)
          (words_at p (held' u).ranges) (none u p);
      header = known;
    }

  -- THE TOP IS SET, with each list below it
  module _ (w : ℕ) (area' : ℕ → Type 0) (test : ℕ → Bool) (passes : (y : ℕ) → area' y → test y ≡ true)
      (means : (y : ℕ) → test y ≡ true → area' y) (still : moving ≡ None)
      (below : (r : ℕ) (y : Contents) (k : HeaderParts) → 1 ≤ r → r ≤ c.objects → objects r ≡ Some y → IsHeader k
      → get_or words (header_at c r) 0 ≡ header_word k → (i : ℕ) → i < length y.words → area' (k.place + i))
      (known : (u r : ℕ) (k : HeaderParts) → header_in r (held' u).headers ≡ Some k
      → IsKnown c (slice_set words top_at w) r k) where
    abbrev settled : List ℕ
    settled = slice_set words top_at w

    abbrev left_owner : ℕ → Owner
    left_owner y = cond (test y) (s.owner y) unowned

    left_below : (y : ℕ) → area' y → left_owner y ≡ s.owner y
    left_below y l = ap (λ b. cond b (s.owner y) unowned) (passes y l)

    left_in : (y : ℕ) → left_owner y ≢ unowned → area' y
    left_in y owned = go (test y) refl
      where
        go : (b : Bool) → test y ≡ b → area' y
        go true e = means y e
        go false e = absurd (owned (ap (λ b. cond b (s.owner y) unowned) e))

    here : (r : ℕ) (y : Contents) (k : HeaderParts) → 1 ≤ r → r ≤ c.objects → objects r ≡ Some y → IsHeader k
        → get_or settled (header_at c r) 0 ≡ header_word k → get_or words (header_at c r) 0 ≡ header_word k
    here r y k a b e g z = sym (header_stays c words top_at w (omega arith) r a) ∙ z

    pub space_settled : IsSpace c settled objects area' moving held'
    space_settled = record {
      owner = left_owner;
      inside = left_in;
      object = λ r y k a b e g z.
          let q = s.object r y k a b e g (here r y k a b e g z) in record {
            owns = λ i l. left_below (element_spot moving r k.place i) (subst (λ m. area' (element_spot m r k.place i))
                (sym still) (below r y k a b e g (here r y k a b e g z) i l)) ∙ q.owns i l;
            reads = λ i l. element_stays c words top_at w (omega arith) (element_spot moving r k.place i) ∙ q.reads i l;
          };
      low = λ r y k a b e g z i l. below r y k a b e g (here r y k a b e g z) i l;
      range = λ u p. none_own c left_owner settled (of_range u p) (of_range u p) (λ i. p + i)
          (words_at p (held' u).ranges) (none u p);
      header = known;
    }
