-- Legal steps at the top, at headers and at elements, over any words and any history.
use Rattle.std.proofs.Common.{◌≡◌, ◌≢◌, ◌+◌, ◌<◌, ◌≤◌, ℕ, ◌==◌, Bool, true, false, cond, Option, Some, None, List, []}
use Rattle.std.proofs.Common.{◌∷◌, length, get_or, slice_set, nat_eq, refl, sym, ap, subst, ◌∙◌, arith, length-set}
use Rattle.std.proofs.lemmas.Option.{slice_get-get_or}
use Rattle.jr_word.specs.declared.config.Config.{Config}
use Rattle.jr_word.specs.declared.header.HeaderParts.{HeaderParts}
use Rattle.jr_word.specs.declared.kind.Kind.{Kind}
use Rattle.jr_word.specs.declared.kind.Kind.TheVariants.{Text}
use Rattle.jr_word.specs.Header.{header_word, IsHeader}
use Rattle.jr_model.specs.declared.event.Role.TheVariants.{Within}
use Rattle.jr_model.specs.declared.event.Act.TheVariants.{New, Reserve, Read, Write}
use Rattle.jr_model.specs.Maps.{update}
use Rattle.jr_model.specs.State.{Contents, State, IsWord, AreWords, present_words}
use Rattle.jr_model.specs.Steps.{written}
use Rattle.jr_model.specs.History.{History, state, IsLegal}
use Rattle.jr_model.proofs.Gates.{apart_state}
use Rattle.jr_model.proofs.Lengths.{lengths_fit}
use Rattle.jr_model.proofs.Updates.{at_number}
use Rattle.jr_steps.specs.declared.known.Holdings.{Holdings}
use Rattle.jr_steps.specs.Holdings.{words_at, header_in, with_range, with_header, hold}
use Rattle.jr_steps.specs.Says.{element_spot}
use Rattle.jr_rule.specs.Image.{top_at, header_at, element_at, MayHold, AreHeld}
use Rattle.jr_rule.specs.Image.{IsIn, IsTopOf, IsHeaderOf, IsSpace, IsImage}
use Rattle.jr_steps.specs.Knowing.{without_range_of}
use Rattle.jr_rule.proofs.HeapImages.{given_words, there, known_is, own_element, known_element, given_fit, space_headed}
use Rattle.jr_rule.proofs.HeapSpaces.{elements_from, space_reserved, space_put, space_written}
use Rattle.jr_rule.proofs.Images.{held_by_role_held, top_set, element_set}
use Rattle.jr_model.proofs.InRoom.{in_room}
use Rattle.jr_rule.proofs.LocalSteps.{publishes}
use Rattle.jr_rule.proofs.LegalSteps.{LegalStep, one_legal, none_legal}

-- a publication leaves what moves
published_moves : (h : HeaderParts) (g : Holdings) → (without_range_of h g).moving ≡ g.moving
published_moves h g = go (h.length == 0)
  where
    go : (b : Bool) → (cond b g (with_range g h.place [])).moving ≡ g.moving
    go true = refl
    go false = refl

module _ (c : Config) (last : ℕ) (log : History) (t : ℕ) (words : List ℕ) (legal : IsLegal c last log)
    (held : ℕ → Holdings) (image : IsImage c last words (state log) held) (row : t < c.threads)
    (within : (state log).role t ≡ Within) (g : Holdings) (is : held t ≡ g) where
  abbrev now : State
  now = state log

  -- no move is unfinished while a thread is within
  pub unmoved : image.moving ≡ None
  unmoved = image.held_by_role.still (λ u collects. (apart_state c last log legal).apart u t collects within)

  -- what a thread within may hold
  holds : (z : Holdings) → z.moving ≡ (held t).moving → AreHeld now.role image.moving (hold held t z)
  holds z same = held_by_role_held now.role image.moving held t z
      (subst (λ r. MayHold image.moving r z) (sym within)
      (same ∙ subst (λ r. MayHold image.moving r (held t)) within (image.held_by_role.each t))) image.held_by_role

  -- so the elements stand where the headers say
  at_header : IsSpace c words now.objects (IsIn now.used) None held
  at_header = subst (λ m. IsSpace c words now.objects (IsIn now.used) m held) unmoved image.space

  held_still : AreHeld now.role None held
  held_still = subst (λ m. AreHeld now.role m held) unmoved image.held_by_role

  -- the top goes up, and the words between are the thread's own
  pub reserves : (n w : ℕ) → now.used + n ≤ c.words → IsTopOf (now.used + n) w
      → LegalStep c last log t (Reserve n ∷ []) (slice_set words top_at w) (hold held t
      (with_range g now.used (elements_from c words now.used n)))
  reserves n w room top =
      let ws : List ℕ = elements_from c words now.used n in
      subst (λ (z : Holdings).
      LegalStep c last log t (Reserve n ∷ []) (slice_set words top_at w) (hold held t (with_range z now.used ws))) is
      (one_legal c last log t (slice_set words top_at w) (hold held t (with_range (held t) now.used ws)) legal
      (Reserve n) (row, (within, room))
      (top_set c last words now held image w (now.used + n) image.moving (hold held t (with_range (held t) now.used ws))
      (holds (with_range (held t) now.used ws) refl) top
      (space_reserved c words now.objects (IsIn now.used) image.moving held image.space t now.used n w
      (IsIn (now.used + n)) (λ x l. omega arith) (λ x a b. b) (λ x a b l. absurd (omega arith)))))

  -- a header for an object that is not present, whose elements are the thread's own range at its place;
  -- it is known from now on
  pub publishes_own : (o : ℕ) (h : HeaderParts) → 1 ≤ o → o ≤ c.objects → IsHeader h
      → length (given_words h g) ≡ h.length → AreWords now h.kind (given_words h g) → get_or words (header_at c o) 0 ≡ 0
      → LegalStep c last log t (New o h.kind (given_words h g) ∷ []) (slice_set words (header_at c o) (header_word h))
      (hold held t (with_header (without_range_of h g) o h))
  publishes_own o h low high fits long good none =
      let room =
      given_fit c last words now held image unmoved (in_room c last log legal) (lengths_fit c last log legal).0 t h in
      publishes c last log t words legal held image row within o h (given_words h g) image.moving
      (hold held t (with_header (without_range_of h g) o h))
      (subst (λ (z : Holdings). AreHeld now.role image.moving (hold held t (with_header (without_range_of h z) o h))) is
      (holds (with_header (without_range_of h (held t)) o h) (published_moves h (held t)))) low high fits (sym long)
      good
      (subst (λ (z : Holdings). present_words c now + length (given_words h z) ≤ now.used) is room) none
      (subst (λ (z : Holdings). IsSpace c (slice_set words (header_at c o) (header_word h))
      (update nat_eq now.objects o (Some (record { kind = h.kind; words = given_words h z }))) (IsIn now.used)
      image.moving (hold held t (with_header (without_range_of h z) o h))) is
      (space_headed c last words now held image unmoved t o h low high fits none))

  pub known_below : (o : ℕ) (h : HeaderParts) (i : ℕ) → header_in o g.headers ≡ Some h → i < h.length
      → h.place + i < c.words
  known_below o h i e l = let below =
      known_element c last words now held image o h i (known_is c last words now held image t g is o h e) l in
      let most = (lengths_fit c last log legal).1 in omega arith

  own_here : (p i : ℕ) → i < length (words_at p g.ranges) → i < length (words_at p (held t).ranges)
  own_here p i l = subst (λ (z : Holdings). i < length (words_at p z.ranges)) (sym is) l

  pub own_below : (p i : ℕ) → i < length (words_at p g.ranges) → p + i < c.words
  own_below p i l = let below = own_element c last words now held image t p i (own_here p i l) in
      let most = (lengths_fit c last log legal).1 in omega arith

  -- a load of an element
  pub reads : (o : ℕ) (h : HeaderParts) (i : ℕ) → header_in o g.headers ≡ Some h → i < h.length
      → LegalStep c last log t (Read o i (get_or words (element_at c (h.place + i)) 0) ∷ []) words held
  reads o h i e l =
      let x = there c last words now held image o h (known_is c last words now held image t g is o h e) in
      let long = x.long in
      let short : i < length x.contents.words = omega arith in
      one_legal c last log t words held legal (Read o i (get_or words (element_at c (h.place + i)) 0)) (
        row,
        (
          within,
          x.contents,
          x.is,
          slice_get-get_or x.contents.words i 0 short
              ∙ ap (λ v. Some v) (sym (subst (λ m. get_or words (element_at c (element_spot m o h.place i)) 0
              ≡ get_or x.contents.words i 0) unmoved (x.stands.reads i short))),
        ),
      ) image

  -- a store to an element
  pub writes : (o : ℕ) (h : HeaderParts) (i v : ℕ) → header_in o g.headers ≡ Some h → i < h.length → h.kind ≢ Text
      → IsWord now h.kind v
      → LegalStep c last log t (Write o i v ∷ []) (slice_set words (element_at c (h.place + i)) v) held
  writes o h i v e l kind word =
      let known = known_is c last words now held image t g is o h e in
      let x = there c last words now held image o h known in
      let long = x.long in
      let short : i < length x.contents.words = omega arith in
      let most = (lengths_fit c last log legal).1 in
      let space =
      space_written c words now.objects (IsIn now.used) None held at_header image.wide (λ x l. omega (arith, l, most)) o
      i v x.contents h known.number.0 known.number.1 x.is known.fits known.word short in
      let same : Some (record { kind = x.contents.kind; words = slice_set x.contents.words i v })
      ≡ written (now.objects o) i v = sym (ap (λ y. written y i v) x.is) in
      one_legal c last log t (slice_set words (element_at c (h.place + i)) v) held legal (Write o i v) (
        row,
        (
          within,
          x.contents,
          x.is,
          (λ z. kind (sym x.kind ∙ z)),
          short,
          subst (λ (k : Kind). IsWord now k v) (sym x.kind) word,
        ),
      )
      (element_set c last words now held image v (h.place + i)
      (update nat_eq now.objects o (written (now.objects o) i v)) None held held_still (known_below o h i e l)
      (λ r w.
      at_number (λ y. IsHeaderOf (now.objects r) w → IsHeaderOf y w) now.objects o r (written (now.objects o) i v)
      (λ q z. header_written (now.objects o) w i v (subst (λ k. IsHeaderOf (now.objects k) w) (sym q) z)) (λ ne z. z))
      (subst (λ y. IsSpace c (slice_set words (element_at c (h.place + i)) v) (update nat_eq now.objects o y)
      (IsIn now.used) None held) same space))
    where
      header_written : (y : Option Contents) (w i v : ℕ) → IsHeaderOf y w → IsHeaderOf (written y i v) w
      header_written None w i v z = z
      header_written (Some y) w i v z = record {
        parts = z.parts;
        fits = z.fits;
        word = z.word;
        says = record { kind = z.says.kind; long = length-set y.words i v ∙ z.says.long };
      }

  -- a store in a range of one's own
  pub puts_own : (p i v : ℕ) → i < length (words_at p g.ranges)
      → LegalStep c last log t [] (slice_set words (element_at c (p + i)) v) (hold held t
      (with_range g p (slice_set (words_at p g.ranges) i v)))
  puts_own p i v l =
      let own = own_here p i l in
      let most = (lengths_fit c last log legal).1 in
      subst (λ (z : Holdings). LegalStep c last log t [] (slice_set words (element_at c (p + i)) v)
      (hold held t (with_range z p (slice_set (words_at p z.ranges) i v)))) is
      (none_legal c last log t (slice_set words (element_at c (p + i)) v)
      (hold held t (with_range (held t) p (slice_set (words_at p (held t).ranges) i v))) legal
      (element_set c last words now held image v (p + i) now.objects image.moving
      (hold held t (with_range (held t) p (slice_set (words_at p (held t).ranges) i v)))
      (holds (with_range (held t) p (slice_set (words_at p (held t).ranges) i v)) refl) (own_below p i l) (λ o w z. z)
      (space_put c words now.objects (IsIn now.used) image.moving held image.space image.wide
      (λ x l. omega (arith, l, most)) t p i v own)))
