-- What the image says of the heap:
-- the objects whose headers are known, words below the top, and what an object is published with.
use Rattle.std.proofs.Common.{◌≡◌, ◌+◌, ◌<◌, ◌≤◌, ◌==◌, ℕ, Bool, true, false, cond, Option, Some, None, IsSome}
use Rattle.std.proofs.Common.{List, [], length, get_or, slice_set, nat_eq, refl, sym, ap, subst, ◌∙◌, arith}
use Rattle.jr_word.specs.declared.config.Config.{Config}
use Rattle.jr_word.specs.declared.header.HeaderParts.{HeaderParts}
use Rattle.jr_word.specs.Header.{header_word, IsHeader}
use Rattle.jr_word.proofs.OneWord.{header_word-injective}
use Rattle.jr_model.specs.Maps.{update}
use Rattle.jr_model.specs.State.{Contents, State, length_of, present_words}
use Rattle.jr_steps.specs.declared.known.Holdings.{Holdings}
use Rattle.jr_steps.specs.declared.known.Move.{Move}
use Rattle.jr_steps.specs.Holdings.{words_at, header_in, with_range, with_header, hold}
use Rattle.jr_steps.specs.Says.{element_spot}
use Rattle.jr_rule.specs.Image.{header_at, of_object, Stands, IsIn, IsHeaderOf, IsKnown, IsSpace, IsImage}
use Rattle.jr_steps.specs.Knowing.{without_range_of}
use Rattle.jr_rule.proofs.Counting.{lists_fit}
use Rattle.jr_rule.proofs.Headers.{header_positive}
use Rattle.jr_rule.proofs.HeapSpaces.{object_below, range_below, at_header, space_empty, space_published, space_known}
use Rattle.jr_model.proofs.InRoom.{IsInRoom}
use Rattle.jr_rule.proofs.Spaces.{hold_here, hold_same, hold_again, space_same}

-- the object whose header is known
pub record IsThere (c : Config) (words : List ℕ) (s : State) (held : ℕ → Holdings) (moving : Option Move)
    (space : IsSpace c words s.objects (IsIn s.used) moving held) (o : ℕ) (h : HeaderParts) : Type 0 where
  pub contents : Contents
  pub is : s.objects o ≡ Some contents
  pub kind : contents.kind ≡ h.kind
  pub long : length contents.words ≡ h.length
  pub stands : Stands c space.owner words (of_object o) (element_spot moving o h.place) contents.words
  pub low : (j : ℕ) → j < h.length → IsIn s.used (h.place + j)

-- the words of an object that is published with the header: none, or those of a range that is held at its place
abbrev pub given_words : HeaderParts → Holdings → List ℕ
given_words h g = cond (h.length == 0) [] (words_at h.place g.ranges)

module _ (c : Config) (last : ℕ) (words : List ℕ) (s : State) (held : ℕ → Holdings)
    (image : IsImage c last words s held) where
  -- whoever has a header's word is there
  pub there : (o : ℕ) (h : HeaderParts) → IsKnown c words o h → IsThere c words s held image.moving image.space o h
  there o h known = go (s.objects o) refl (image.header o known.number.0 known.number.1)
    where
      go : (z : Option Contents) → s.objects o ≡ z → IsHeaderOf z (get_or words (header_at c o) 0)
          → IsThere c words s held image.moving image.space o h
      go None e w = absurd (let p = header_positive h in let q = known.word in omega arith)
      go (Some x) e w =
          let same : w.parts ≡ h =
          header_word-injective w.parts h w.fits known.fits (sym w.word ∙ known.word) in record {
            contents = x;
            is = e;
            kind = w.says.kind ∙ ap (λ (p : HeaderParts). p.kind) same;
            long = w.says.long ∙ ap (λ (p : HeaderParts). p.length) same;
            stands = image.space.object o x h known.number.0 known.number.1 e known.fits known.word;
            low = λ j l. let long = w.says.long in let kept = ap (λ (p : HeaderParts). p.length) same in
                image.space.low o x h known.number.0 known.number.1 e known.fits known.word j (omega arith);
          }

  -- a header that a thread knows is so
  pub known_is : (t : ℕ) (g : Holdings) → held t ≡ g → (o : ℕ) (h : HeaderParts) → header_in o g.headers ≡ Some h
      → IsKnown c words o h
  known_is t g own o h e = image.space.header t o h (ap (λ (z : Holdings). header_in o z.headers) own ∙ e)

  -- and is the one that stands there
  pub one_header : (t o : ℕ) (g : Holdings) → held t ≡ g → (h : HeaderParts) → IsKnown c words o h → (z : HeaderParts)
      → header_in o g.headers ≡ Some z → z ≡ h
  one_header t o g own h known z e = let is = known_is t g own o z e in
      header_word-injective z h is.fits known.fits (sym is.word ∙ known.word)

  pub known_element : (o : ℕ) (h : HeaderParts) (i : ℕ) → IsKnown c words o h → i < h.length → h.place + i < s.used
  known_element o h i known l =
      (there o h known).low i l

  pub own_element : (t p i : ℕ) → i < length (words_at p (held t).ranges) → p + i < s.used
  own_element t p i l = range_below c words s.objects (IsIn s.used) image.moving held image.space (p + i) t p i
      ((image.space.range t p).owns i l)

  -- where the list of a present object stands
  list_at : image.moving ≡ None → IsInRoom c s → (o : ℕ) → (a : ℕ) × ((j : ℕ) → j < length_of (s.objects o)
      → (a + j < s.used) × (image.space.owner (a + j) ≡ of_object o j))
  list_at still room o = go (s.objects o) refl
    where
      go : (z : Option Contents) → s.objects o ≡ z
          → (a : ℕ) × ((j : ℕ) → j < length_of z → (a + j < s.used) × (image.space.owner (a + j) ≡ of_object o j))
      go None e = (0, λ j l. absurd (omega arith))
      go (Some x) e =
          let number = room.objects o (subst (λ y. IsSome y) (sym e) refl) in
          let w = subst (λ (y : Option Contents). IsHeaderOf y (get_or words (header_at c o) 0)) e
          (image.header o number.0 number.1) in
          let stands = image.space.object o x w.parts number.0 number.1 e w.fits w.word in (
            w.parts.place,
            λ j l. let own = subst (λ m. image.space.owner (element_spot m o w.parts.place j) ≡ of_object o j) still
                (stands.owns j l) in (
                  object_below c words s.objects (IsIn s.used) image.moving held image.space (w.parts.place + j) o j
                      own,
                  own,
                ),
          )

  -- the present objects and a range that is held lie below the top together
  range_fits : image.moving ≡ None → IsInRoom c s → (t p : ℕ)
      → present_words c s + length (words_at p (held t).ranges) ≤ s.used
  range_fits still room t p = lists_fit image.space.owner (c.objects + 1) s.used t p
      (length (words_at p (held t).ranges)) (λ o. length_of (s.objects o))
      (λ o l. list_at still room o)
      (λ j l. let own = (image.space.range t p).owns j l in
      (range_below c words s.objects (IsIn s.used) image.moving held image.space (p + j) t p j own, own))

  pub given_fit : image.moving ≡ None → IsInRoom c s → present_words c s ≤ s.used → (t : ℕ) (h : HeaderParts)
      → present_words c s + length (given_words h (held t)) ≤ s.used
  given_fit still room fits t h = go (h.length == 0)
    where
      go : (b : Bool) → present_words c s + length (cond b [] (words_at h.place (held t).ranges)) ≤ s.used
      go true = omega arith
      go false = range_fits still room t h.place

  -- a header that is 0 is known to nobody
  pub none_known : (t o : ℕ) (g : Holdings) → held t ≡ g → get_or words (header_at c o) 0 ≡ 0
      → header_in o g.headers ≡ None
  none_known t o g own none = go (header_in o g.headers) refl
    where
      go : (z : Option HeaderParts) → header_in o g.headers ≡ z → z ≡ None
      go None e = refl
      go (Some h) e =
          let is = image.space.header t o h (subst (λ (y : Holdings). header_in o y.headers ≡ Some h) (sym own) e) in
          let p = header_positive h in let w = is.word in absurd (omega arith)

  -- the space once an object has its header, with elements or without, and the thread knows it
  pub space_headed : image.moving ≡ None → (t o : ℕ) (h : HeaderParts) → 1 ≤ o → o ≤ c.objects → IsHeader h
      → get_or words (header_at c o) 0 ≡ 0
      → IsSpace c (slice_set words (header_at c o) (header_word h))
      (update nat_eq s.objects o (Some (record { kind = h.kind; words = given_words h (held t) }))) (IsIn s.used)
      image.moving (hold held t (with_header (without_range_of h (held t)) o h))
  space_headed still t o h low high fits none =
      space_same c words' objects' (IsIn s.used) image.moving (hold held' t (with_header (held' t) o h))
      (space_known c words' objects' (IsIn s.used) image.moving held' (go (h.length == 0)) t o h (record {
        number = (low, high);
        fits = fits;
        word = at_header c words s.objects (IsIn s.used) image.moving held image.space o h h.kind low high fits
            image.wide none;
      }))
      (hold held t (with_header (without_range_of h (held t)) o h))
      (hold_again held t (without_range_of h (held t)) (with_header (without_range_of h (held t)) o h)
      (with_header (held' t) o h) (ap (λ z. with_header z o h) (hold_here held t (without_range_of h (held t)))))
    where
      words' : List ℕ
      words' = slice_set words (header_at c o) (header_word h)

      objects' : ℕ → Option Contents
      objects' = update nat_eq s.objects o (Some (record { kind = h.kind; words = given_words h (held t) }))

      held' : ℕ → Holdings
      held' = hold held t (without_range_of h (held t))

      go : (b : Bool) → IsSpace c words' (update nat_eq s.objects o
          (Some (record { kind = h.kind; words = cond b [] (words_at h.place (held t).ranges) }))) (IsIn s.used)
          image.moving (hold held t (cond b (held t) (with_range (held t) h.place [])))
      go true = space_same c words' (update nat_eq s.objects o (Some (record { kind = h.kind; words = [] })))
          (IsIn s.used) image.moving held
          (space_empty c words s.objects (IsIn s.used) image.moving held image.space o h h.kind low high fits image.wide
          none) (hold held t (held t)) (hold_same held t (held t) refl)
      go false = space_published c words s.objects (IsIn s.used) image.moving held image.space o h h.kind low high fits
          image.wide none t still
