-- Objects that are born, written, or dropped: what was born is as the state, and elements name where it was born.
use Rattle.std.proofs.Common.{◌≡◌, ◌≢◌, ◌⊎◌, inl, inr, ◌==◌, ◌++◌, ◌≤◌, ℕ, zero, suc, Bool, true, false, cond, nat_eq}
use Rattle.std.proofs.Common.{Option, Some, None, IsSome, is_some, List, [], ◌∷◌, map, length, slice_get, slice_set}
use Rattle.std.proofs.Common.{refl, sym, ap, subst, ◌∙◌, arith}
use Rattle.std.proofs.lemmas.List.{length-set}
use Rattle.jr_word.specs.declared.kind.Kind.{Kind}
use Rattle.jr_word.specs.declared.kind.Kind.TheVariants.{Plain, Boolean, Byte, Char, Short, Int, Long, Objects, Text}
use Rattle.jr_word.specs.declared.handle.RefKind.{RefKind}
use Rattle.jr_model.specs.declared.event.Act.TheVariants.{New}
use Rattle.jr_model.specs.declared.event.Found.{Found}
use Rattle.jr_model.specs.declared.event.Found.TheVariants.{Object, Cleared, Stale}
use Rattle.jr_model.specs.Maps.{update}
use Rattle.jr_model.specs.State.{Handle, State, Contents, IsPresent, IsWord, AreWords, IsClosed}
use Rattle.jr_model.specs.Steps.{act_after}
use Rattle.jr_model.specs.Checks.{is_objects}
use Rattle.jr_model.proofs.Updates.{at_number_self, eq_true, eq_false, eq_self, eq_other}
use Rattle.jr_model.proofs.Presence.{slice_get_set}
use Rattle.jr_world.specs.World.{Ref}
use Rattle.jr_world.specs.Births.{Births, birth_here, birth_of, born_word, word_of_kind, words_of_kind}
use Rattle.jr_world.specs.Births.{born_by, found_in, RefIsSo, NamesBirth, AreContents, IsAs}
use Rattle.jr_world.proofs.Births.BornLists.{by_test, some_same, get_old, get_new, get_either, get_map, map_get}
use Rattle.jr_world.proofs.Births.BornLists.{HasObject}
use Rattle.jr_world.proofs.Births.BornFound.{so_later, found_same, was_kept}

-- the object with this number was born at this place, and stands
abbrev pub StandsAt : Births → ℕ → ℕ → Type 0
StandsAt b j o = (x : Contents) × (slice_get b.objects j ≡ Some (o, Some x))

-- WHERE AN OBJECT WAS BORN that stands
here_or : (p : ℕ) (xs : List (ℕ × Option Contents)) (o : ℕ) (y : Option Contents) (b : Bool) → (o == p) ≡ b
    → ((x : Contents) × (slice_get xs (birth_of xs p) ≡ Some (p, Some x)))
    ⊎ ((x : Contents) × (◌≡◌ {A = ℕ × Option Contents} (o, y) (p, Some x)))
    → (x : Contents) × (slice_get ((o, y) ∷ xs) (birth_here y b (birth_of xs p)) ≡ Some (p, Some x))
here_or p xs o (Some x) true e h = (x, ap (λ n. Some (n, Some x)) (eq_true o p e))
here_or p xs o (Some x) false e (inl h) = h
here_or p xs o (Some x) false e (inr h) = absurd (eq_false o p e (ap (λ z. z.0) h.1))
here_or p xs o None b e (inl h) = h
here_or p xs o None b e (inr h) = absurd (let bad = ap (λ z. z.1) h.1 in cc)

pub born_at : (xs : List (ℕ × Option Contents)) (i p : ℕ) (x : Contents) → slice_get xs i ≡ Some (p, Some x)
    → (y : Contents) × (slice_get xs (birth_of xs p) ≡ Some (p, Some y))
born_at [] i p x e = absurd cc
born_at (z ∷ xs) zero p x e = here_or p xs z.0 z.1 (z.0 == p) refl (inr (x, some_same z (p, Some x) e))
born_at (z ∷ xs) (suc i) p x e = here_or p xs z.0 z.1 (z.0 == p) refl (inl (born_at xs i p x e))

-- a present object stands where it was born
pub present_at : (b : Births) (s : State) → IsAs b s → (o : ℕ) → IsPresent s o → StandsAt b (birth_of b.objects o) o
present_at b s a o there = go (s.objects o) refl there
  where
    go : (y : Option Contents) → s.objects o ≡ y → IsSome y → StandsAt b (birth_of b.objects o) o
    go None e h = absurd cc
    go (Some x) e h = let i = a.objects o x e in born_at b.objects i.0 o i.1 i.2

-- WHAT AN ELEMENT NAMES

-- a word that names nothing or what is present, by the births
pub names_present : (b : Births) (s : State) → IsAs b s → (v : ℕ) → (v ≡ 0) ⊎ IsPresent s v
    → NamesBirth b s v (born_word b.objects v)
names_present b s a zero w = refl
names_present b s a (suc n) (inl e) = absurd cc
names_present b s a (suc n) (inr there) =
    let x = present_at b s a (suc n) there in (Some x.0, x.1, λ y e. x)

-- what is named stays so, where each entry stays, and stands where what it names does
pub names_on : (b b' : Births) (s s' : State) (v : ℕ) → ((j : ℕ) → HasObject b j v → HasObject b' j v)
    → ((y : Contents) → s'.objects v ≡ Some y
    → ((x : Contents) × (s.objects v ≡ Some x)) × ((j : ℕ) → StandsAt b j v → StandsAt b' j v))
    → (w : ℕ) → NamesBirth b s v w → NamesBirth b' s' v w
names_on b b' s s' v entries stays zero n = n
names_on b b' s s' v entries stays (suc j) n =
    let here = entries j (n.0, n.1) in
    (here.0, here.1, λ y e. let x = stays y e in x.1 j (n.2 x.0.0 x.0.1))

-- contents are so in another world, where what their elements name is
pub contents_on : (b b' : Births) (s s' : State) (x y : Contents)
    → (is_objects x.kind ≡ true → (i v w : ℕ) → slice_get x.words i ≡ Some v → NamesBirth b s v w
    → NamesBirth b' s' v w)
    → AreContents b s x y → AreContents b' s' x y
contents_on b b' s s' x y more a = record {
  kind = a.kind;
  long = a.long;
  words = a.words;
  named = λ k i v w e f. more k i v w e (a.named k i v w e f);
}

-- contents are so where the objects are the same
pub contents_same : (b b' : Births) (s s' : State) (x y : Contents) → b'.objects ≡ b.objects → s'.objects ≡ s.objects
    → AreContents b s x y → AreContents b' s' x y
contents_same b b' s s' x y born objects = contents_on b b' s s' x y (λ k i v w e. names_on b b' s s' v
    (λ j h. (h.0, ap (λ z. slice_get z j) born ∙ h.1))
    (λ z f. ((z, ap (λ g. g v) (sym objects) ∙ f), λ j h. (h.0, ap (λ z. slice_get z j) born ∙ h.1))) w)

-- what is so of contents stays so, where the objects are the same
pub contents_stay : (b b' : Births) (s s' : State) → IsAs b s → b'.objects ≡ b.objects → s'.objects ≡ s.objects
    → (i p : ℕ) (y : Contents) → slice_get b'.objects i ≡ Some (p, Some y)
    → (x : Contents) × (s'.objects p ≡ Some x) × AreContents b' s' x y
contents_stay b b' s s' a born objects i p y e =
    let x = a.contents i p y (ap (λ z. slice_get z i) (sym born) ∙ e) in
    (x.0, ap (λ f. f p) objects ∙ x.1, contents_same b b' s s' x.0 y born objects x.2)

pub objects_kind : (k : Kind) → is_objects k ≡ true → k ≡ Objects
objects_kind Objects e = refl
objects_kind Plain e = absurd cc
objects_kind Boolean e = absurd cc
objects_kind Byte e = absurd cc
objects_kind Char e = absurd cc
objects_kind Short e = absurd cc
objects_kind Int e = absurd cc
objects_kind Long e = absurd cc
objects_kind Text e = absurd cc

-- elements that are no objects are the room's words
pub plain_words : (objects : List (ℕ × Option Contents)) (k : Kind) → is_objects k ≡ false → (ws : List ℕ)
    → words_of_kind objects k ws ≡ ws
plain_words objects k e [] = refl
plain_words objects k e (w ∷ ws) =
    ap (λ v. v ∷ words_of_kind objects k ws) (ap (λ z. cond z (born_word objects w) w) e)
    ∙ ap (λ vs. w ∷ vs) (plain_words objects k e ws)

pub length_map : {X Y : Type 0} (f : X → Y) (xs : List X) → length (map f xs) ≡ length xs
length_map f [] = refl
length_map f (x ∷ xs) = ap suc (length_map f xs)

-- a word that may be an element of an array of objects, by the births
pub names_word : (b : Births) (s : State) → IsAs b s → (k : Kind) → is_objects k ≡ true → (v : ℕ) → IsWord s k v
    → NamesBirth b s v (word_of_kind b.objects k v)
names_word b s a k e v w = subst (NamesBirth b s v) (sym (ap (λ z. cond z (born_word b.objects v) v) e))
    (names_present b s a v (subst (λ l. IsWord s l v) (objects_kind k e) w))

-- the contents with which an object is born
pub contents_born : (b : Births) (s : State) → IsAs b s → (k : Kind) (ws : List ℕ) → AreWords s k ws
    → AreContents b s (record { kind = k; words = ws }) (record { kind = k; words = words_of_kind b.objects k ws })
contents_born b s a k ws are = record {
  kind = refl;
  long = length_map (word_of_kind b.objects k) ws;
  words = λ e. plain_words b.objects k e ws;
  named = λ e i v w at found. subst (NamesBirth b s v)
      (some_same (word_of_kind b.objects k v) w (sym (map_get (word_of_kind b.objects k) ws i v at) ∙ found))
      (names_word b s a k e v (are i v at));
}

-- contents of which an element is written
pub contents_written : (b : Births) (s : State) → IsAs b s → (x y : Contents) (i v : ℕ) → IsWord s x.kind v
    → AreContents b s x y
    → AreContents b s (record { kind = x.kind; words = slice_set x.words i v })
    (record { kind = y.kind; words = slice_set y.words i (word_of_kind b.objects y.kind v) })
contents_written b s a x y i v word are = record {
  kind = are.kind;
  long = length-set y.words i (word_of_kind b.objects y.kind v) ∙ (are.long ∙ sym (length-set x.words i v));
  words = λ e.
      ap (λ z. slice_set y.words i (cond z (born_word b.objects v) v)) (ap is_objects are.kind ∙ e)
      ∙ ap (λ z. slice_set z i v) (are.words e);
  named = λ e j u w at found. named e j u w
      (slice_get_set x.words i j v u at) (slice_get_set y.words i j (word_of_kind b.objects y.kind v) w found);
}
  where
    named : is_objects x.kind ≡ true → (j u w : ℕ) → ((i ≡ j) × (u ≡ v)) ⊎ ((i ≢ j) × (slice_get x.words j ≡ Some u))
        → ((i ≡ j) × (w ≡ word_of_kind b.objects y.kind v)) ⊎ ((i ≢ j) × (slice_get y.words j ≡ Some w))
        → NamesBirth b s u w
    named e j u w (inl h) (inl g) =
        subst (λ z. NamesBirth b s z w) (sym h.1)
        (subst (NamesBirth b s v) (sym (g.1 ∙ ap (λ z. word_of_kind b.objects z v) are.kind))
        (names_word b s a x.kind e v word))
    named e j u w (inl h) (inr g) = absurd (g.0 h.0)
    named e j u w (inr h) (inl g) = absurd (h.0 g.0)
    named e j u w (inr h) (inr g) = are.named e j u w h.1 g.1

-- AN OBJECT IS BORN
module _ (b : Births) (s : State) (a : IsAs b s) (t o : ℕ) (k : Kind) (ws : List ℕ) where
  abbrev one_more : Births
  one_more = born_by b t (New o k ws)

  abbrev with_one_more : State
  with_one_more = act_after s t (New o k ws)

  abbrev made : Contents
  made = record { kind = k; words = ws }

  abbrev born : Contents
  born = record { kind = k; words = words_of_kind b.objects k ws }

  abbrev entry_born : ℕ × Option Contents
  entry_born = (o, Some born)

  pub new_as : 1 ≤ o → s.objects o ≡ None → IsClosed s → AreWords s k ws → IsAs one_more with_one_more
  new_as positive none closed are = record {
    contents = λ i p y e. contents_at i p y (get_either b.objects entry_born i (p, Some y) e);
    objects = λ p x e. objects_at p x (o == p) refl e;
    one_object = λ i j p x y e f. one_at i j p x y (get_either b.objects entry_born i (p, Some x) e)
        (get_either b.objects entry_born j (p, Some y) f);
    given = a.given;
    told = λ i h r e. so_later b.objects (entry_born ∷ []) h.kind r (found_in b s h) (a.told i h r e);
    one_ref = a.one_ref;
    refs = a.refs;
    row = a.row;
    used = a.used;
  }
    where
      EntryOf : ℕ → ℕ → Contents → Type 0
      EntryOf i p y = (slice_get b.objects i ≡ Some (p, Some y))
          ⊎ (i ≡ length b.objects) × (◌≡◌ {A = ℕ × Option Contents} (o, Some born) (p, Some y))

      other : (p : ℕ) (x : Contents) → s.objects p ≡ Some x → o ≢ p
      other p x e is = absurd (let here : s.objects p ≡ None = ap (λ z. s.objects z) (sym is) ∙ none in cc)

      -- a word that stands in an array is not the new number
      off : (v : ℕ) → (v ≡ 0) ⊎ IsPresent s v → o ≢ v
      off v (inl e) is = absurd (omega arith)
      off v (inr e) is = absurd (let here : s.objects v ≡ None = ap (λ z. s.objects z) (sym is) ∙ none in
          let gone = ap is_some here in cc)

      names_later : (v w : ℕ) → (v ≡ 0) ⊎ IsPresent s v → NamesBirth b s v w → NamesBirth one_more with_one_more v w
      names_later v w word = names_on b one_more s with_one_more v
          (λ j h. (h.0, get_old b.objects (entry_born ∷ []) j (v, h.0) h.1))
          (λ y e. (
            (y, ap (λ z. cond z (Some made) (s.objects v)) (sym (eq_other o v (off v word))) ∙ e),
            λ j h. (h.0, get_old b.objects (entry_born ∷ []) j (v, Some h.0) h.1),
          )) w

      contents_at : (i p : ℕ) (y : Contents) → EntryOf i p y
          → (x : Contents) × (with_one_more.objects p ≡ Some x) × AreContents one_more with_one_more x y
      contents_at i p y (inl e) = let x = a.contents i p y e in (
        x.0,
        ap (λ z. cond z (Some made) (s.objects p)) (eq_other o p (other p x.0 x.1)) ∙ x.1,
        contents_on b one_more s with_one_more x.0 y
            (λ is j v w at. names_later v w (closed p x.0 x.1 (objects_kind x.0.kind is) j v at)) x.2,
      )
      contents_at i p y (inr e) = (
        made,
        subst (λ (z : ℕ × Option Contents). update nat_eq s.objects o (Some made) z.0 ≡ Some made) e.1
            (at_number_self s.objects o (Some made)),
        subst (AreContents one_more with_one_more made) (some_same born y (ap (λ z. z.1) e.1))
            (contents_on b one_more s with_one_more made born
            (λ is j v w at. names_later v w (subst (λ l. IsWord s l v) (objects_kind k is) (are j v at)))
            (contents_born b s a k ws are)),
      )

      objects_at : (p : ℕ) (x : Contents) (d : Bool) → (o == p) ≡ d → cond d (Some made) (s.objects p) ≡ Some x
          → (i : ℕ) × (y : Contents) × (slice_get (b.objects ++ entry_born ∷ []) i ≡ Some (p, Some y))
      objects_at p x true is e =
          (length b.objects, born, get_new b.objects entry_born ∙ ap (λ n. Some (n, Some born)) (eq_true o p is))
      objects_at p x false is e =
          let y = a.objects p x e in (y.0, y.1, get_old b.objects (entry_born ∷ []) y.0 (p, Some y.1) y.2)

      born_before : (i p : ℕ) (y : Contents) → slice_get b.objects i ≡ Some (p, Some y) → o ≢ p
      born_before i p y e = let x = a.contents i p y e in other p x.0 x.1

      one_at : (i j p : ℕ) (x y : Contents) → EntryOf i p x → EntryOf j p y → i ≡ j
      one_at i j p x y (inl e) (inl f) = a.one_object i j p x y e f
      one_at i j p x y (inl e) (inr f) = absurd (born_before i p x e (ap (λ z. z.0) f.1))
      one_at i j p x y (inr e) (inl f) = absurd (born_before j p y f (ap (λ z. z.0) e.1))
      one_at i j p x y (inr e) (inr f) = e.0 ∙ sym f.0

-- AN OBJECT IS OTHERWISE, or gone: f tells how by the births, and g by the state
module _ (b : Births) (s : State) (a : IsAs b s) (o : ℕ) (f g : Option Contents → Option Contents)
    (f_none : f None ≡ None) (g_none : g None ≡ None)
    (both : (x y x' : Contents) → g (Some x) ≡ Some x' → (y' : Contents) × (f (Some y) ≡ Some y'))
    (pair : (x y y' : Contents) → s.objects o ≡ Some x → AreContents b s x y → f (Some y) ≡ Some y'
    → (x' : Contents) × (g (Some x) ≡ Some x') × AreContents b s x' y') where
  abbrev turned : ℕ × Option Contents → ℕ × Option Contents
  turned e = (e.0, cond (e.0 == o) (f e.1) e.1)

  abbrev objects_then : ℕ → Option Contents
  objects_then = update nat_eq s.objects o (g (s.objects o))

  abbrev born_then : Births
  born_then = record b { objects = map turned b.objects }

  had : (h : Option Contents → Option Contents) → h None ≡ None → (d : Bool) (y : Option Contents) (x : Contents)
      → cond d (h y) y ≡ Some x → (z : Contents) × (y ≡ Some z)
  had h none true None x e = absurd (let bad = sym none ∙ e in cc)
  had h none true (Some z) x e = (z, refl)
  had h none false None x e = absurd cc
  had h none false (Some z) x e = (z, refl)

  -- what stands then stood
  entry : (i p : ℕ) (x : Contents) → slice_get (map turned b.objects) i ≡ Some (p, Some x)
      → (z : Contents) × (slice_get b.objects i ≡ Some (p, Some z)) × (cond (p == o) (f (Some z)) (Some z) ≡ Some x)
  entry i p x e =
      let y = get_map turned b.objects i (p, Some x) e in
      let who : y.0.0 ≡ p = ap (λ z. z.0) y.2 in
      let what : cond (y.0.0 == o) (f y.0.1) y.0.1 ≡ Some x = ap (λ z. z.1) y.2 in
      let z = had f f_none (y.0.0 == o) y.0.1 x what in
      let same : ◌≡◌ {A = ℕ × Option Contents} y.0 (p, Some z.0)
      = ap (λ n. (n, y.0.1)) who ∙ ap (λ m. (p, m)) z.1 in (
        z.0,
        y.1 ∙ ap (λ (m : ℕ × Option Contents). Some m) same,
        subst (λ (m : ℕ × Option Contents). cond (m.0 == o) (f m.1) m.1 ≡ Some x) same what,
      )

  mapped : (i p : ℕ) (z x : Contents) → slice_get b.objects i ≡ Some (p, Some z)
      → cond (p == o) (f (Some z)) (Some z) ≡ Some x → slice_get (map turned b.objects) i ≡ Some (p, Some x)
  mapped i p z x e is = map_get turned b.objects i (p, Some z) e ∙ ap (λ m. Some (p, m)) is

  -- what stands then in the state stood, and stands by the births
  stood : (p : ℕ) (x' : Contents) → objects_then p ≡ Some x'
      → ((x : Contents) × (s.objects p ≡ Some x)) × ((j : ℕ) → StandsAt b j p → StandsAt born_then j p)
  stood p x' e = by_test (o == p)
      (λ d. let same = eq_true o p d in
      let here : g (s.objects p) ≡ Some x'
      = ap (λ z. g (s.objects z)) (sym same) ∙ (ap (λ z. cond z (g (s.objects o)) (s.objects p)) (sym d) ∙ e) in
      let x = had g g_none true (s.objects p) x' here in (
        x,
        λ j h. let y' = both x.0 h.0 x' (ap g (sym x.1) ∙ here) in (
          y'.0,
          mapped j p h.0 y'.0 h.1
              (ap (λ z. cond z (f (Some h.0)) (Some h.0)) (ap (λ n. n == o) (sym same) ∙ eq_self o) ∙ y'.1),
        ),
      ))
      (λ d. let here : s.objects p ≡ Some x' = ap (λ z. cond z (g (s.objects o)) (s.objects p)) (sym d) ∙ e in (
        (x', here),
        λ j h. (
          h.0,
          mapped j p h.0 h.0 h.1
              (ap (λ z. cond z (f (Some h.0)) (Some h.0)) (eq_other p o (λ is. eq_false o p d (sym is)))),
        ),
      ))

  pub turned_as : (s' : State) → s'.objects ≡ objects_then → s'.refs ≡ s.refs → s'.given ≡ s.given
      → s'.locals ≡ s.locals → s'.used ≡ s.used
      → ((h : Handle) (q : ℕ) → found_in b s h ≡ Object q → (x : Contents) → IsSome (s.objects q)
      → (z : Contents) × (cond (q == o) (f (Some x)) (Some x) ≡ Some z))
      → IsAs born_then s'
  turned_as s' objects refs given locals used stays = record {
    contents = λ i p y e. contents_at i p y (entry i p y e);
    objects = λ p x e. let here = ap (λ h. h p) (sym objects) ∙ e in let was = stood p x here in
        let i = a.objects p was.0.0 was.0.1 in let y = was.1 i.0 (i.1, i.2) in (i.0, y.0, y.1);
    one_object = λ i j p x y e h. let d = entry i p x e in let k = entry j p y h in
        a.one_object i j p d.0 k.0 d.1 k.1;
    given = λ i h r e. was_kept b s s' h (λ w. ap (λ z. z h) given ∙ w) (a.given i h r e);
    told = λ i h r e. subst (RefIsSo (map turned b.objects) h.kind r) (sym (found_same b s s' h refs locals))
        (so h.kind r h (found_in b s h) refl (a.told i h r e));
    one_ref = a.one_ref;
    refs = λ h ne. a.refs h (λ is. ne (found_same b s s' h refs locals ∙ is));
    row = λ h ne. a.row h (λ is. ne (ap (λ z. z h) refs ∙ is));
    used = used ∙ a.used;
  }
    where
      contents_then : (x y : Contents) → AreContents b s x y → AreContents born_then s' x y
      contents_then x y = contents_on b born_then s s' x y (λ k i v w e. names_on b born_then s s' v
          (λ j h. (cond (v == o) (f h.0) h.0, map_get turned b.objects j (v, h.0) h.1))
          (λ z e. stood v z (ap (λ h. h v) (sym objects) ∙ e)) w)

      contents_at : (i p : ℕ) (y : Contents)
          → (z : Contents) × (slice_get b.objects i ≡ Some (p, Some z)) × (cond (p == o) (f (Some z)) (Some z) ≡ Some y)
          → (x : Contents) × (s'.objects p ≡ Some x) × AreContents born_then s' x y
      contents_at i p y d = let was = a.contents i p d.0 d.1 in by_test (o == p)
          (λ e. let same = eq_true o p e in
          let there : s.objects o ≡ Some was.0 = ap (λ z. s.objects z) same ∙ was.1 in
          let x = pair was.0 d.0 y there was.2
          (subst (λ z. cond z (f (Some d.0)) (Some d.0) ≡ Some y) (ap (λ n. n == o) (sym same) ∙ eq_self o) d.2) in (
            x.0,
            ap (λ h. h p) objects
                ∙ (ap (λ z. cond z (g (s.objects o)) (s.objects p)) e ∙ (ap g there ∙ x.1)),
            contents_then x.0 y x.2,
          ))
          (λ e. (
            was.0,
            ap (λ h. h p) objects ∙ (ap (λ z. cond z (g (s.objects o)) (s.objects p)) e ∙ was.1),
            subst (AreContents born_then s' was.0)
                (some_same d.0 y (subst (λ z. cond z (f (Some d.0)) (Some d.0) ≡ Some y)
                (eq_other p o (λ is. eq_false o p e (sym is))) d.2))
                (contents_then was.0 d.0 was.2),
          ))

      so : (k : RefKind) (r : Option Ref) (h : Handle) (u : Found) → found_in b s h ≡ u → RefIsSo b.objects k r u
          → RefIsSo (map turned b.objects) k r u
      so k (Some r) h (Object q) e d =
          let x = a.contents d.1 q d.3 d.4 in
          let z = stays h q e d.3 (ap is_some x.1) in
          (d.0, d.1, d.2, z.0, mapped d.1 q d.3 z.0 d.4 z.1)
      so k (Some r) h Cleared e d = d
      so k (Some r) h Stale e d = absurd d
      so k None h Stale e d = tt
      so k None h (Object q) e d = absurd d
      so k None h Cleared e d = absurd d
