-- Legal steps of a collector, over any words and any history.
use Rattle.std.proofs.Common.{◌≡◌, ◌≢◌, ◌+◌, ◌<◌, ◌≤◌, ℕ, cond, Option, Some, None, List, [], ◌∷◌}
use Rattle.std.proofs.Common.{length, get_or, slice_set, nat_eq, nat_lt, eq-eqb, ne_eqb, refl}
use Rattle.std.proofs.Common.{sym, ap, subst, ◌∙◌, arith, get_or-set_same, get_or-set_other}
use Rattle.std.proofs.lemmas.Bool.{lt-ltb}
use Rattle.std.proofs.lemmas.Bool.Decides.{nat_tests}
use mathlib.Core.Logic.{dite}
use native.Mathlib.Decide.{ℕ_discrete}
use Rattle.jr_word.specs.declared.config.Config.{Config}
use Rattle.jr_word.specs.declared.handle.RefKind.TheVariants.{Weak}
use Rattle.jr_word.specs.declared.header.HeaderParts.{HeaderParts}
use Rattle.jr_word.specs.declared.slot.SlotParts.TheVariants as slot
use Rattle.jr_word.specs.Header.{header_word, IsHeader}
use Rattle.jr_word.specs.Slot.{slot_word}
use Rattle.jr_model.specs.declared.event.Role.{Role}
use Rattle.jr_model.specs.declared.event.Role.TheVariants.{Outside, Within, Knocking, Announcing, Collecting}
use Rattle.jr_model.specs.declared.event.Found.TheVariants.{Object, Cleared, Stale}
use Rattle.jr_model.specs.declared.event.Act.TheVariants.{Clear, Drop, Settle}
use Rattle.jr_model.specs.Maps.{update}
use Rattle.jr_model.specs.State.{Handle, same_handle, Contents, State, IsPresent, IsReached, present_words}
use Rattle.jr_model.specs.History.{History, state, IsLegal}
use Rattle.jr_model.proofs.Gates.{IsApart, apart_state}
use Rattle.jr_model.proofs.Lengths.{lengths_fit}
use Rattle.jr_model.proofs.Updates.{at_handle, at_handle_self}
use Rattle.jr_steps.specs.declared.known.Holdings.{Holdings}
use Rattle.jr_steps.specs.declared.known.Move.{Move}
use Rattle.jr_steps.specs.Acts.{handle_of}
use Rattle.jr_steps.specs.Collecting.{placed}
use Rattle.jr_steps.specs.Holdings.{empty, words_at, header_in, without_header}
use Rattle.jr_steps.specs.Holdings.{with_header, with_move, move_of, HasDone, hold}
use Rattle.jr_rule.specs.Image.{top_at, slot_at, header_at, element_at, IsTopOf}
use Rattle.jr_rule.specs.Image.{MayHold, AreHeld, IsIn, IsKnown, IsSpace, IsImage}
use Rattle.jr_word.proofs.OneWord.{header_word-injective}
use Rattle.jr_rule.proofs.HeapImages.{there, known_is}
use Rattle.jr_rule.proofs.Images.{top_set, header_set, element_set, slot_set}
use Rattle.jr_rule.proofs.MoveSpaces.{space_moved, space_set, space_dropped, space_settled}
use Rattle.jr_rule.proofs.Slots.{reference_is, stands_in, one_reference}
use Rattle.jr_rule.proofs.Spaces.{hold_here, hold_else, header_stays}
use Rattle.jr_rule.proofs.LegalSteps.{LegalStep, one_legal, none_legal}

module _ (c : Config) (last : ℕ) (log : History) (t : ℕ) (words : List ℕ) (legal : IsLegal c last log)
    (held : ℕ → Holdings) (image : IsImage c last words (state log) held) (row : t < c.threads)
    (collects : (state log).role t ≡ Collecting) (g : Holdings) (is : held t ≡ g) where
  abbrev now : State
  now = state log

  -- the unfinished move is its own, and it holds no range
  pub own : MayHold image.moving Collecting g
  own = subst (MayHold image.moving Collecting) is
      (subst (λ r. MayHold image.moving r (held t)) collects (image.held_by_role.each t))

  -- nobody else holds anything
  pub others : (u : ℕ) → u ≢ t → held u ≡ empty
  others u ne = go (now.role u) refl (image.held_by_role.each u)
    where
      apart : IsApart now.role
      apart = apart_state c last log legal

      go : (r : Role) → now.role u ≡ r → MayHold image.moving r (held u) → held u ≡ empty
      go Within e h = absurd (apart.apart t u collects e)
      go Collecting e h = absurd (ne (apart.alone u t e collects))
      go Outside e h = h
      go Knocking e h = h
      go Announcing e h = h

  -- and so does not take part in what is held
  pub record IsFor (g' : Holdings) (moving : Option Move) : Type 0 where
    pub moves : g'.moving ≡ moving
    pub ranges : g'.ranges ≡ []

  module _ (g' : Holdings) (moving : Option Move) (for : IsFor g' moving) where
    held_at : (P : ℕ → Holdings → Type 0) → P t g' → ((u : ℕ) → u ≢ t → P u empty) → (u : ℕ) → P u (hold held t g' u)
    held_at P here else u = dite (ℕ_discrete u t)
        (λ e. subst (λ (z : ℕ × Holdings). P z.0 z.1)
        (λ i. (sym e i, sym (ap (hold held t g') e ∙ hold_here held t g') i)) here)
        (λ ne. subst (P u) (sym (hold_else held t u g' ne ∙ others u ne)) (else u ne))

    held_by_role : AreHeld now.role moving (hold held t g')
    held_by_role = record {
      each = held_at (λ u z. MayHold moving (now.role u) z)
          (subst (λ r. MayHold moving r g') (sym collects) (for.moves, for.ranges)) (λ u ne. go u ne (now.role u) refl);
      still = λ nobody. absurd (nobody t collects);
    }
      where
        go : (u : ℕ) → u ≢ t → (r : Role) → now.role u ≡ r → MayHold moving r empty
        go u ne Within e = absurd ((apart_state c last log legal).apart t u collects e)
        go u ne Collecting e = absurd (ne ((apart_state c last log legal).alone u t e collects))
        go u ne Outside e = refl
        go u ne Knocking e = refl
        go u ne Announcing e = refl

    no_range : (u p : ℕ) → words_at p (hold held t g' u).ranges ≡ []
    no_range u p = held_at (λ u z. words_at p z.ranges ≡ []) (ap (words_at p) for.ranges) (λ u ne. refl) u

    only_own : (words' : List ℕ) → ((r : ℕ) (k : HeaderParts) → header_in r g'.headers ≡ Some k → IsKnown c words' r k)
        → (u r : ℕ) (k : HeaderParts) → header_in r (hold held t g' u).headers ≡ Some k → IsKnown c words' r k
    only_own words' mine u r k =
        held_at (λ u z. header_in r z.headers ≡ Some k → IsKnown c words' r k) (mine r k) (λ u ne e. absurd cc) u

  most : now.used ≤ c.words
  most = (lengths_fit c last log legal).1

  -- SETTING A HEADER: the header of each other object stays
  headers_else : (o w : ℕ) (r : ℕ) (k : HeaderParts) → 1 ≤ o → o ≢ r → IsKnown c words r k
      → IsKnown c (slice_set words (header_at c o) w) r k
  headers_else o w r k some ne z = record {
    number = z.number;
    fits = z.fits;
    word = get_or-set_other words (header_at c o) (header_at c r) w 0 (λ e. let a = z.number.0 in ne (omega arith))
        ∙ z.word;
  }

  -- A WEAK REFERENCE IS CLEARED
  pub wipes : (i serial o : ℕ) → i < c.slots → now.refs (handle_of Weak serial i) ≡ Object o → ¬ (IsReached now o)
      → (get_or words (slot_at i) 0 ≡ slot_word (slot.Weak serial (Some o))) × LegalStep c last log t
      (Clear (handle_of Weak serial i) ∷ []) (slice_set words (slot_at i) (slot_word (slot.Weak serial None))) held
  wipes i serial o l stands unreached =
      let h : Handle = handle_of Weak serial i in
      let x = image.slot i l in
      let ref = reference_is last now.refs i x.says.next h (Some o) refl stands x.parts x.says.stands in
      let alone = stands_in last now.refs i x.says.next Weak serial (Some o) x.parts ref x.says.stands in (
        x.word ∙ ap slot_word (one_reference Weak serial (Some o) x.parts (slot.Weak serial (Some o))
            ref (refl, refl, refl)),
        one_legal c last log t (slice_set words (slot_at i) (slot_word (slot.Weak serial None))) held legal (Clear h)
            (row, (collects, refl, o, stands, unreached))
            (slot_set c last words now held image (slot_word (slot.Weak serial None)) i
            (update same_handle now.refs h Cleared) now.given l
            (record {
              parts = slot.Weak serial None;
              word = refl;
              says = record {
                next = x.says.next;
                serials = x.says.serials;
                stands = record {
                  latest = alone.latest;
                  found = at_handle_self now.refs h Cleared;
                  alone = λ q e ne. at_handle (λ r. r ≡ Stale) now.refs h q Cleared (λ z. absurd (ne (sym z))) (λ z.
                      alone.alone q e ne);
                };
              };
            })
            (λ q apart. (
              at_handle (λ r. r ≡ now.refs q) now.refs h q Cleared
                  (λ z. absurd (apart (sym (ap (λ (f : Handle). f.index) z)))) (λ ne. refl),
              refl,
            ))),
      )

  -- AN ELEMENT IS MOVED
  pub moves : (o : ℕ) (h : HeaderParts) (place j v : ℕ) (x : Contents) → header_in o g.headers ≡ Some h
      → HasDone g.moving o place j → now.objects o ≡ Some x → get_or x.words j 0 ≡ v → j < length x.words
      → place + j < now.used → ((i : ℕ) → j < i → i < h.length → h.place + i ≢ place + j)
      → ((r : ℕ) (y : Contents) → o ≢ r → now.objects r ≡ Some y → 1 ≤ length y.words
      → (k : HeaderParts) × (header_in r g.headers ≡ Some k) × ((i : ℕ) → i < k.length → k.place + i ≢ place + j))
      → LegalStep c last log t [] (slice_set words (element_at c (place + j)) v) (hold held t
      (with_move g (Some (move_of o place (j + 1)))))
  moves o h place j v x knows done at value short room later free =
      let g' : Holdings = with_move g (Some (move_of o place (j + 1))) in
      let for : IsFor g' (Some (move_of o place (j + 1))) = record { moves = refl; ranges = own.1 } in
      let known = known_is c last words now held image t g is o h knows in
      let z = there c last words now held image o h known in
      let q : x ≡ z.contents = let e = sym at ∙ z.is in cc in
      let long : length x.words ≡ h.length = ap (λ (y : Contents). length y.words) q ∙ z.long in
      let words' : List ℕ = slice_set words (element_at c (place + j)) v in
      none_legal c last log t words' (hold held t g') legal
      (element_set c last words now held image v (place + j) now.objects (Some (move_of o place (j + 1)))
      (hold held t g') (held_by_role g' (Some (move_of o place (j + 1))) for) (omega (arith, room, most)) (λ r w q. q)
      (space_moved c words now.objects (IsIn now.used) image.moving held image.space image.wide
      (λ x l. omega (arith, l, most)) (hold held t g') (no_range g' (Some (move_of o place (j + 1))) for) o place j v x
      h known.number.0 known.number.1 at known.fits known.word
      (subst (λ m. HasDone m o place j) own.0 done) short room (λ i l m. later i l (omega arith)) value
      (λ r y k ne some few is' good word i l.
      let f = free r y ne is' (omega arith) in
      let same : f.0 ≡ k = header_is r f.0 k (known_is c last words now held image t g is r f.0 f.1) good word in
      let long = long_is r y k is' good word some few in
      subst (λ (k : HeaderParts). k.place + i ≢ place + j) same
      (f.2 i (let e = ap (λ (k : HeaderParts). k.length) same in omega arith)))
      (only_own g' (Some (move_of o place (j + 1))) for words' (λ r k e.
      let q = known_is c last words now held image t g is r k e in record {
        number = q.number;
        fits = q.fits;
        word = get_or-set_other words (element_at c (place + j)) (header_at c r) v 0 (λ e. let a = q.number.1 in
            let b = q.number.0 in absurd (omega arith)) ∙ q.word;
      }))))
    where
      header_is : (r : ℕ) (a k : HeaderParts) → IsKnown c words r a → IsHeader k
          → get_or words (header_at c r) 0 ≡ header_word k → a ≡ k
      header_is r a k z good word = header_word-injective a k z.fits good (sym z.word ∙ word)

      long_is : (r : ℕ) (y : Contents) (k : HeaderParts) → now.objects r ≡ Some y → IsHeader k
          → get_or words (header_at c r) 0 ≡ header_word k → 1 ≤ r → r ≤ c.objects → length y.words ≡ k.length
      long_is r y k is' good word some few =
          let z = there c last words now held image r k (record { number = (some, few); fits = good; word = word }) in
          let q : y ≡ z.contents = let e = sym is' ∙ z.is in cc in
          ap (λ (y : Contents). length y.words) q ∙ z.long

  -- A HEADER IS SET
  pub places : (o : ℕ) (h : HeaderParts) (place : ℕ) (x : Contents) → header_in o g.headers ≡ Some h
      → HasDone g.moving o place h.length → now.objects o ≡ Some x → IsHeader (placed h place)
      → LegalStep c last log t [] (slice_set words (header_at c o) (header_word (placed h place))) (hold held t
      (with_header (with_move g None) o (placed h place)))
  places o h place x knows done at fits =
      let new : HeaderParts = placed h place in
      let g' : Holdings = with_header (with_move g None) o new in
      let for : IsFor g' None = record { moves = refl; ranges = own.1 } in
      let known = known_is c last words now held image t g is o h knows in
      let z = there c last words now held image o h known in
      let q : x ≡ z.contents = let e = sym at ∙ z.is in cc in
      let long : length x.words ≡ h.length = ap (λ (y : Contents). length y.words) q ∙ z.long in
      let kind : x.kind ≡ h.kind = ap (λ (y : Contents). y.kind) q ∙ z.kind in
      let words' : List ℕ = slice_set words (header_at c o) (header_word new) in
      let wide = image.wide in
      let here : get_or words' (header_at c o) 0 ≡ header_word new =
      get_or-set_same words (header_at c o) (header_word new) 0 (let a = known.number.0 in let b = known.number.1 in
      omega arith) in
      none_legal c last log t words' (hold held t g') legal
      (same_objects o x at words' (hold held t g')
      (header_set c last words now held image (header_word new) o (Some x) None (hold held t g')
      (held_by_role g' None for) known.number.0 known.number.1
      (record { parts = new; fits = fits; word = refl; says = record { kind = kind; long = long } })
      (same_space o x at words' (hold held t g')
      (space_set c words now.objects (IsIn now.used) image.moving held image.space image.wide
      (λ x l. omega (arith, l, most)) (hold held t g') (no_range g' None for) o place x h new known.number.0
      known.number.1 at known.fits known.word
      (subst (λ (n : ℕ). HasDone image.moving o place n) (sym long)
      (subst (λ m. HasDone m o place h.length) own.0 done)) fits refl
      (only_own g' None for words' (λ r k e. dite (ℕ_discrete o r)
      (λ s. let k_is : new ≡ k = let w = sym (ap (λ b. cond b (Some new) (header_in r g.headers)) (eq-eqb o r s)) ∙ e in
      cc in
      subst (λ (w : ℕ × HeaderParts). IsKnown c words' w.0 w.1) (λ i. (s i, k_is i))
      (record { number = known.number; fits = fits; word = here }))
      (λ ne. headers_else o (header_word new) r k known.number.0 ne (known_is c last words now held image t g is r k
      (sym (ap (λ b. cond b (Some new) (header_in r g.headers)) (ne_eqb o r ne)) ∙ e)))))))))
    where
      -- an object that is put where it stands changes nothing
      same_at : (o : ℕ) (x : Contents) → now.objects o ≡ Some x → (r : ℕ)
          → update nat_eq now.objects o (Some x) r ≡ now.objects r
      same_at o x at r = dite (ℕ_discrete o r) (λ e. ap (λ b. cond b (Some x) (now.objects r)) (eq-eqb o r e)
          ∙ (sym at ∙ ap now.objects e)) (λ ne. ap (λ b. cond b (Some x) (now.objects r)) (ne_eqb o r ne))

      same_update : (o : ℕ) (x : Contents) → now.objects o ≡ Some x → update nat_eq now.objects o (Some x) ≡ now.objects
      same_update o x at = λ i r. same_at o x at r i

      same_objects : (o : ℕ) (x : Contents) → now.objects o ≡ Some x → (words' : List ℕ) (held' : ℕ → Holdings)
          → IsImage c last words' (record now { objects = update nat_eq now.objects o (Some x) }) held'
          → IsImage c last words' now held'
      same_objects o x at words' held' i = subst
          (λ (f : ℕ → Option Contents). IsImage c last words' (record now { objects = f }) held') (same_update o x at) i

      same_space : (o : ℕ) (x : Contents) → now.objects o ≡ Some x → (words' : List ℕ) (held' : ℕ → Holdings)
          → IsSpace c words' now.objects (IsIn now.used) None held'
          → IsSpace c words' (update nat_eq now.objects o (Some x)) (IsIn now.used) None held'
      same_space o x at words' held' i = subst
          (λ (f : ℕ → Option Contents). IsSpace c words' f (IsIn now.used) None held') (sym (same_update o x at)) i

  -- AN OBJECT IS DROPPED
  pub drops : (o : ℕ) → 1 ≤ o → o ≤ c.objects → IsPresent now o → ¬ (IsReached now o)
      → ((h : Handle) → h.kind ≡ Weak → now.refs h ≢ Object o)
      → LegalStep c last log t (Drop o ∷ []) (slice_set words (header_at c o) 0) (hold held t (without_header g o))
  drops o low high present unreached unnamed =
      let g' : Holdings = without_header g o in
      let for : IsFor g' image.moving = record { moves = own.0; ranges = own.1 } in
      let words' : List ℕ = slice_set words (header_at c o) 0 in
      one_legal c last log t words' (hold held t g') legal (Drop o) (row, (collects, present, unreached, unnamed))
      (header_set c last words now held image 0 o None image.moving (hold held t g') (held_by_role g' image.moving for)
      low high refl
      (space_dropped c words now.objects (IsIn now.used) image.moving held image.space image.wide
      (λ x l. omega (arith, l, most)) (hold held t g') (no_range g' image.moving for) o low high
      (only_own g' image.moving for words' (λ r k e. dite (ℕ_discrete o r)
      (λ s. absurd (let w = sym (ap (λ b. cond b None (header_in r g.headers)) (eq-eqb o r s)) ∙ e in cc))
      (λ ne. headers_else o 0 r k low ne (known_is c last words now held image t g is r k
      (sym (ap (λ b. cond b None (header_in r g.headers)) (ne_eqb o r ne)) ∙ e)))))))

  -- THE TOP IS SET
  pub settles : (used w : ℕ) → used ≡ present_words c now → g.moving ≡ None → IsTopOf used w
      → ((r : ℕ) (y : Contents) → now.objects r ≡ Some y → 1 ≤ length y.words
      → (k : HeaderParts) × (header_in r g.headers ≡ Some k) × (k.place + k.length ≤ used))
      → LegalStep c last log t (Settle used ∷ []) (slice_set words top_at w) (hold held t g)
  settles used w sum settled top below =
      let for : IsFor g image.moving = record { moves = own.0; ranges = own.1 } in
      let words' : List ℕ = slice_set words top_at w in
      one_legal c last log t words' (hold held t g) legal (Settle used) (row, (collects, sum))
      (top_set c last words now held image w used image.moving (hold held t g) (held_by_role g image.moving for) top
      (space_settled c words now.objects (IsIn now.used) image.moving held image.space image.wide
      (λ x l. omega (arith, l, most)) (hold held t g) (no_range g image.moving for) w (IsIn used) (λ y. nat_lt y used)
      (λ y l. lt-ltb y used l) (λ y e. grind (arith, nat_tests)) (sym own.0 ∙ settled)
      (λ r y k some few is' good word i l.
      let f = below r y is' (omega arith) in
      let a = known_is c last words now held image t g is r f.0 f.1 in
      let same : f.0 ≡ k = header_word-injective f.0 k a.fits good (sym a.word ∙ word) in
      let z = there c last words now held image r k (record { number = (some, few); fits = good; word = word }) in
      let q : y ≡ z.contents = let e = sym is' ∙ z.is in cc in
      let long : length y.words ≡ k.length = ap (λ (y : Contents). length y.words) q ∙ z.long in
      let p = ap (λ (k : HeaderParts). k.place) same in
      let n = ap (λ (k : HeaderParts). k.length) same in
      let m = f.2 in omega arith)
      (only_own g image.moving for words' (λ r k e.
      let q = known_is c last words now held image t g is r k e in record {
        number = q.number;
        fits = q.fits;
        word = header_stays c words top_at w (omega arith) r q.number.0 ∙ q.word;
      }))))
