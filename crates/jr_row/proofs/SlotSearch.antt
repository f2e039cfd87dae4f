-- Slots are searched one after the other, for whatever was known.
use Rattle.std.proofs.Common.{◌≡◌, ◌≢◌, ◌<◌, ◌≤◌, ◌+◌, ℕ, Bool, true, false, Option, Some, None, Err, List, [], ◌∷◌}
use Rattle.std.proofs.Common.{◌++◌, map, refl, sym, ap, subst, ◌∙◌, append_assoc, arith, inl, inr, ◌⊎◌, ⊎_elim, length}
use Rattle.std.proofs.lemmas.List.{length-append}
use mathlib.Core.List.{map-append}
use Rattle.jr_word.specs.declared.handle.RefKind.{RefKind}
use Rattle.jr_word.specs.declared.slot.SlotParts.{SlotParts}
use Rattle.jr_word.specs.declared.slot.SlotParts.TheVariants as slot
use Rattle.jr_model.specs.declared.event.Role.TheVariants.{Within}
use Rattle.jr_model.specs.declared.event.Act.{Act}
use Rattle.jr_model.specs.declared.event.Act.TheVariants.{Gate, Create, Probe}
use Rattle.jr_model.specs.declared.event.GateAct.TheVariants.{Leave}
use Rattle.jr_model.specs.State.{Handle}
use Rattle.jr_model.specs.History.{PassView, Did, role_after}
use Rattle.jr_model.specs.Refusals.{WasOccupied}
use Rattle.jr_model.proofs.Moments.{prefix_self, occupied_wider, probed_occupied, probed_then}
use Rattle.jr_model.proofs.Stays.{did_then, did_nothing}
use Rattle.jr_model.proofs.Runs.{did_legal}
use Rattle.jr_steps.specs.declared.known.Known.{Known}
use Rattle.jr_steps.specs.Acts.{handle_of, is_occupied}
use Rattle.jr_steps.specs.Knowing.{AreOf, Facts, Standing, view, anything, HasObject}
use Rattle.jr_steps.specs.Knowing.{IsFreeSlot, ShowsSlot, LostClaim, Took, Hinted, Takes, keeps}
use Rattle.jr_steps.proofs.StepFacts.{goes_did, present_stays}
use Rattle.jr_row.specs.Searching.{Searched, search_acts, EachOccupied, InTurn, ended}
use Rattle.jr_row.specs.Searching.{won, occupied, lost, GoesRound, above, below}

search_more : (o : ℕ) (xs ys : List (ℕ × Bool)) (made : Option Handle)
    → search_acts o xs None ++ search_acts o ys made ≡ search_acts o (xs ++ ys) made
search_more o xs ys None = sym (map-append (λ (l : ℕ × Bool). Probe l.0 l.1) xs ys)
search_more o xs ys (Some h) =
    sym (append_assoc (map (λ (l : ℕ × Bool). Probe l.0 l.1) xs) (map (λ (l : ℕ × Bool). Probe l.0 l.1) ys)
    (Create h o ∷ [])) ∙ ap (λ l. l ++ Create h o ∷ []) (sym (map-append (λ (l : ℕ × Bool). Probe l.0 l.1) xs ys))

-- slots that were tried in turn, and then more of them
in_turn_then : {a b c : ℕ} {xs ys : List (ℕ × Bool)} {made : Option Handle} → InTurn a b xs None → InTurn b c ys made
    → InTurn a c (xs ++ ys) made
in_turn_then ended q = q
in_turn_then (occupied p) q = occupied (in_turn_then p q)
in_turn_then (lost b p) q = lost b (in_turn_then p q)

-- how much further one might have gone does not matter where one was won
in_turn_won : {a b c : ℕ} {xs : List (ℕ × Bool)} {h : Handle} → b ≤ c → InTurn a b xs (Some h) → InTurn a c xs (Some h)
in_turn_won more (won h e l) = won h e (omega arith)
in_turn_won more (occupied p) = occupied (in_turn_won more p)
in_turn_won more (lost b p) = lost b (in_turn_won more p)

below_or : (i n : ℕ) → (i < n) ⊎ (n ≤ i)
below_or i n = grind arith

-- an index that was probed and occupied in the one search or in the other
occupied_between : (p q r : PassView) (xs ys : List Act) → Did p q xs → Did q r ys → (i : ℕ)
    → (WasOccupied p.seen q i ⊎ WasOccupied q.seen r i) → WasOccupied p.seen r i
occupied_between p q r xs ys d e i (inl w) = occupied_wider (prefix_self p.seen) ys e i w
occupied_between p q r xs ys d e i (inr w) = occupied_wider d.begins [] (did_nothing r (did_legal ys e)) i w

-- an index lies in a range
abbrev IsIn : ℕ → ℕ → ℕ → Type 0
IsIn first last i = (first ≤ i) × (i < last)

occupied_more : (p q r : PassView) (xs ys : List Act) → Did p q xs → Did q r ys
    → {a b c d first last : ℕ} (made : Option Handle) → ((i : ℕ) → first ≤ i → i < last → IsIn a b i ⊎ IsIn c d i)
    → EachOccupied p.seen q a b None → EachOccupied q.seen r c d made → EachOccupied p.seen r first last made
occupied_more p q r xs ys d e (Some h) each here there = tt
occupied_more p q r xs ys d e None each here there = λ i low high. occupied_between p q r xs ys d e i
    (⊎_elim (λ l. inl (here i l.0 l.1)) (λ l. inr (there i l.0 l.1)) (each i low high))

in_turn : (first mid last i : ℕ) → first ≤ i → i < last → IsIn first mid i ⊎ IsIn mid last i
in_turn first mid last i low high = ⊎_elim (λ l. inl (low, l)) (λ l. inr (l, high)) (below_or i mid)

in_round : (first mid last i : ℕ) → first ≤ i → i < last → IsIn mid last i ⊎ IsIn first mid i
in_round first mid last i low high = ⊎_elim (λ l. inr (low, l)) (λ l. inl (l, high)) (below_or i mid)

only_one : (P : ℕ → Type 0) (i : ℕ) → P i → (j : ℕ) → i ≤ j → j < i + 1 → P j
only_one P i p j l m = subst P (let e : i ≡ j = omega arith in e) p

-- a look at a slot and then an exchange there, for one thing that was known
record Exchanged {S : Type 0} (facts : S → Facts) (c : S) (shows : Known → Known → Type 0) (o : ℕ) (x y : Act)
    (k : Known) : Type 0 where
  pub mid : Known
  pub new : Known
  pub known : (facts c).knows new
  pub present : HasObject o new
  pub looked : Did (view k) (view mid) (x ∷ [])
  pub took : Did (view mid) (view new) (y ∷ [])
  pub shown : shows mid new
  pub counted : Takes 2 k new
  pub kept : keeps k mid

module _ {S : Type 0} {facts : S → Facts} where
  module _ (fits : AreOf facts) where
    -- a step inside keeps what is present
    pub took_present : {a b : S} {x : Act} {met : Known → Type 0} {shows : Known → Known → Type 0}
        → Took facts a b (x ∷ []) met shows → (facts a).stands.role ≡ Within → x ≢ Gate Leave
        → (o : ℕ) (k : Known) → (facts a).knows k → met k → HasObject o k → (k' : Known) × (facts b).knows k'
        × HasObject o k' × Did (view k) (view k') (x ∷ []) × shows k k' × Takes 1 k k'
    took_present {a} {x} t w ne o k s m p =
        let g = t.goes k s m in
        let d = goes_did g.2 in
        (g.0, g.1, present_stays k g.0 (x ∷ []) o d ((fits a k s).role ∙ w) (ne, tt) p, d, g.3, g.2.taken)

    -- an index that was found occupied
    pub searched_occupied : {a b : S} {shows : Known → Known → Type 0} (i : ℕ) (kind : RefKind) (o : ℕ)
        → Took facts a b (Probe i true ∷ []) anything (λ j k. shows j k × keeps j k) → (facts a).stands.role ≡ Within
        → Searched facts a b kind o (InTurn i (i + 1)) i (i + 1) None
    searched_occupied i kind o t w = record {
      stands_is = t.stands_is;
      kind_is = tt;
      did = λ k s p. let r = took_present t w (λ e. cc) o k s tt p in (
        r.0,
        r.1,
        r.2,
        only_one (λ j. WasOccupied k.seen (view r.0) j) i (probed_occupied i r.3),
        (i, true) ∷ [],
        r.3,
        r.5,
        omega arith,
        r.4.1,
        occupied ended,
      );
    }

    pub searched_seen : {a b : S} {shows : Known → Known → Type 0} (i : ℕ) (word : SlotParts) (kind : RefKind) (o : ℕ)
        → ((n : ℕ) → word ≢ slot.Free n)
        → Took facts a b (Probe i (is_occupied word) ∷ []) anything (λ j k. shows j k × keeps j k)
        → (facts a).stands.role ≡ Within → Searched facts a b kind o (InTurn i (i + 1)) i (i + 1) None
    searched_seen i (slot.Free n) kind o ne t w = absurd (ne n refl)
    searched_seen i _ kind o ne t w = searched_occupied i kind o t w

    exchanged : {a b c : S} {x y : Act} {shows : Known → Known → Type 0} (i n o : ℕ)
        → Took facts a b (x ∷ []) anything (λ j k. ShowsSlot i (slot.Free n) k × keeps j k)
        → Took facts b c (y ∷ []) (λ k. HasObject o k × IsFreeSlot i n k) shows
        → (facts a).stands.role ≡ Within → x ≢ Gate Leave → y ≢ Gate Leave → role_after Within x ≡ Within → (k : Known)
        → (facts a).knows k → HasObject o k → Exchanged facts c shows o x y k
    exchanged {x} i n o t u w ne ne' still k s p =
        let m = took_present t w ne o k s tt p in
        let e = took_present u (ap (λ (z : Standing). z.role) t.stands_is ∙ (ap (λ r. role_after r x) w ∙ still)) ne' o
        m.0 m.1 (m.2, m.4.0) m.2 in
        let one = m.5 in
        let two = e.5 in
        record {
          mid = m.0;
          new = e.0;
          known = e.1;
          present = e.2;
          looked = m.3;
          took = e.3;
          shown = e.4;
          counted = omega arith;
          kept = m.4.1;
        }

    -- an index that was found free, and lost to another thread
    pub searched_lost : {a b c : S} (i n : ℕ) (kind : RefKind) (o : ℕ) (found : SlotParts)
        → Took facts a b (Probe i false ∷ []) anything (λ j k. ShowsSlot i (slot.Free n) k × keeps j k)
        → Took facts b c (Probe i (is_occupied found) ∷ []) (λ k. HasObject o k
        × IsFreeSlot i n k) (λ j k. LostClaim i (Err found) j k × keeps j k) → (facts a).stands.role ≡ Within
        → Searched facts a c kind o (InTurn i (i + 1)) i (i + 1) None
    searched_lost i n kind o found t u w = record {
      stands_is = u.stands_is ∙ t.stands_is;
      kind_is = tt;
      did = λ k s p.
          let z = exchanged i n o t u w (λ e. cc) (λ e. cc) refl k s p in (
            z.new,
            z.known,
            z.present,
            only_one (λ j. WasOccupied k.seen (view z.new) j) i
                (probed_then i false (Probe i (is_occupied found) ∷ []) z.looked z.took z.shown.0.0),
            (i, false) ∷ (i, is_occupied found) ∷ [],
            did_then {new = view z.new} (Probe i false ∷ []) (Probe i (is_occupied found) ∷ []) z.looked z.took,
            z.counted,
            omega arith,
            z.shown.1 ∙ z.kept,
            lost (is_occupied found) ended,
          );
    }

    -- an index that was found free, and won
    pub searched_won : {a b c : S} (i n : ℕ) (kind : RefKind) (o : ℕ) {shows : Known → Known → Type 0}
        → Took facts a b (Probe i false ∷ []) anything (λ j k. ShowsSlot i (slot.Free n) k × keeps j k)
        → Took facts b c (Create (handle_of kind n i) o ∷ []) (λ k. HasObject o k × IsFreeSlot i n k) (λ j k. shows j k
        × keeps j k) → (facts a).stands.role ≡ Within
        → Searched facts a c kind o (InTurn i (i + 1)) i (i + 1) (Some (handle_of kind n i))
    searched_won i n kind o t u w = record {
      stands_is = u.stands_is ∙ t.stands_is;
      kind_is = (refl, refl);
      did = λ k s p.
          let z = exchanged i n o t u w (λ e. cc) (λ e. cc) refl k s p in (
            z.new,
            z.known,
            z.present,
            tt,
            (i, false) ∷ [],
            did_then {new = view z.new} (Probe i false ∷ []) (Create (handle_of kind n i) o ∷ []) z.looked z.took,
            z.counted,
            omega arith,
            z.shown.1 ∙ z.kept,
            won (handle_of kind n i) refl (omega arith),
          );
    }

  -- no slot was tried
  pub searched_none : AreOf facts → {a : S} (kind : RefKind) (o n : ℕ) → Searched facts a a kind o (InTurn n n) n n None
  searched_none fits {a} kind o n = record {
    stands_is = refl;
    kind_is = tt;
    did = λ k s p. (
      k,
      s,
      p,
      (λ i low high. absurd (omega arith)),
      [],
      did_nothing (view k) (fits a k s).legal,
      omega arith,
      omega arith,
      refl,
      ended,
    );
  }

  -- of a search that was won, the first and the last index do not matter
  searched_within : {a b : S} {kind : RefKind} {o first last : ℕ} {P Q : List (ℕ × Bool) → Option Handle → Type 0}
      {h : Handle} (first' last' : ℕ) → first' ≤ first → last ≤ last'
      → ((xs : List (ℕ × Bool)) → P xs (Some h) → Q xs (Some h))
      → Searched facts a b kind o P first last (Some h) → Searched facts a b kind o Q first' last' (Some h)
  searched_within {o = o} {h = h} first' last' fewer more same p = record {
    stands_is = p.stands_is;
    kind_is = p.kind_is;
    did = λ k s m. let x = p.did k s m in let most = x.7 in
        (x.0, x.1, x.2, tt, x.4, x.5, x.6, omega arith, x.8, same x.4 x.9);
  }

  pub searched_some : {a b : S} {kind : RefKind} {o first last : ℕ} {h : Handle} (last' : ℕ) → last ≤ last'
      → Searched facts a b kind o (InTurn first last) first last (Some h)
      → Searched facts a b kind o (InTurn first last') first last' (Some h)
  searched_some {first = first} last' more p =
      searched_within first last' (omega arith) more (λ xs t. in_turn_won more t) p

  pub searched_above : {a b : S} {kind : RefKind} {o hint slots : ℕ} {made : Option Handle} {h : Handle} → made ≡ Some h
      → Searched facts a b kind o (InTurn hint slots) hint slots made
      → Searched facts a b kind o (GoesRound hint slots) 0 slots (Some h)
  searched_above {a} {b} {kind} {o} {hint} {slots} is p =
      searched_within 0 slots (omega arith) (omega arith) (λ xs t. above t)
      (subst (λ m. Searched facts a b kind o (InTurn hint slots) hint slots m) is p)

  -- two searches, of which the first won nothing, are one of all indices that either has
  searched_both : {a b c : S} {kind : RefKind} {o u v x y first last : ℕ}
      {P Q R : List (ℕ × Bool) → Option Handle → Type 0} {made : Option Handle}
      → ((m n : ℕ) → u + u + m ≤ v + v → x + x + n ≤ y + y → first + first + (m + n) ≤ last + last)
      → ((i : ℕ) → first ≤ i → i < last → IsIn u v i ⊎ IsIn x y i)
      → ((xs ys : List (ℕ × Bool)) → P xs None → Q ys made → R (xs ++ ys) made)
      → Searched facts a b kind o P u v None → Searched facts b c kind o Q x y made
      → Searched facts a c kind o R first last made
  searched_both {o = o} {first = first} {last = last} {made = made} few each joined p q = record {
    stands_is = q.stands_is ∙ p.stands_is;
    kind_is = q.kind_is;
    did = λ k s m. let x = p.did k s m in let y = q.did x.0 x.1 x.2 in
        let acts : List Act = search_acts o (x.4 ++ y.4) made in
        let more : search_acts o x.4 None ++ search_acts o y.4 made ≡ acts = search_more o x.4 y.4 made in
        let long : length acts ≡ length (search_acts o x.4 None) + length (search_acts o y.4 made) =
        ap length (sym more) ∙ length-append (search_acts o x.4 None) (search_acts o y.4 made) in
        let one = x.6 in
        let two = y.6 in (
          y.0,
          y.1,
          y.2,
          occupied_more (view k) (view x.0) (view y.0) (search_acts o x.4 None) (search_acts o y.4 made) x.5 y.5 made
              each x.3 y.3,
          x.4 ++ y.4,
          subst (Did (view k) (view y.0)) more (did_then (search_acts o x.4 None) (search_acts o y.4 made) x.5 y.5),
          omega arith,
          subst (λ n. first + first + n ≤ last + last) (sym long)
              (few (length (search_acts o x.4 None)) (length (search_acts o y.4 made)) x.7 y.7),
          y.8 ∙ x.8,
          joined x.4 y.4 x.9 y.9,
        );
  }

  pub searched_then : {a b c : S} {kind : RefKind} {o first mid last : ℕ} {made : Option Handle}
      → Searched facts a b kind o (InTurn first mid) first mid None
      → Searched facts b c kind o (InTurn mid last) mid last made
      → Searched facts a c kind o (InTurn first last) first last made
  searched_then {first = first} {mid = mid} {last = last} p q =
      searched_both (λ m n few more. omega arith) (in_turn first mid last) (λ xs ys s t. in_turn_then s t) p q

  -- the slots from the hint up to the last, and then those from 0 up to the hint
  pub searched_round : {a b c : S} {kind : RefKind} {o hint slots : ℕ} {made : Option Handle}
      → Searched facts a b kind o (InTurn hint slots) hint slots None
      → Searched facts b c kind o (InTurn 0 hint) 0 hint made
      → Searched facts a c kind o (GoesRound hint slots) 0 slots made
  searched_round {hint = hint} {slots = slots} p q =
      searched_both (λ m n few more. omega arith) (in_round 0 hint slots) (λ xs ys s t. below s t) p q

  -- a search round the slots, with what was read of the pass before it, and with where it ended and what it made
  pub searched_at : {a b b' : S} {kind : RefKind} {o hint hint' slots slots' : ℕ} {made made' : Option Handle}
      → hint ≡ hint' → slots ≡ slots' → b' ≡ b → made' ≡ made
      → Searched facts a b kind o (GoesRound hint slots) 0 slots made
      → Searched facts a b' kind o (GoesRound hint' slots') 0 slots' made'
  searched_at {a} {b} {b'} {kind} {o} {hint' = hint'} {slots = slots} {slots' = slots'} {made = made} e f at is p =
      subst (λ m. Searched facts a b' kind o (GoesRound hint' slots') 0 slots' m) (sym is)
      (subst (λ x. Searched facts a x kind o (GoesRound hint' slots') 0 slots' made) (sym at)
      (subst (λ n. Searched facts a b kind o (GoesRound hint' n) 0 n made) f
      (subst (λ n. Searched facts a b kind o (GoesRound n slots) 0 slots made) e p)))

  -- where the next search begins is not a matter of this one
  pub searched_hinted : {a b c : S} {kind : RefKind} {o first last index : ℕ}
      {order : List (ℕ × Bool) → Option Handle → Type 0} {made : Option Handle}
      → Searched facts a b kind o order first last made → Hinted facts b c index
      → Searched facts a c kind o order first last made
  searched_hinted p h = record {
    stands_is = h.stands_is ∙ p.stands_is;
    kind_is = p.kind_is;
    did = λ k s m. let x = p.did k s m in (x.0, (h.same x.0).0 x.1, x.2, x.3, x.4, x.5, x.6, x.7, x.8, x.9);
  }
