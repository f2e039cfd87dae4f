-- Frames stay sound, and go on agreeing with the locals of their thread.
use Rattle.std.proofs.Common.{◌≡◌, ◌≢◌, ◌<◌, ◌≤◌, ℕ, suc, lit≤, ◌==◌, ◌||◌, Bool, true, false, not}
use Rattle.std.proofs.Common.{cond, Option, Some, None, IsSome, List, [], ◌∷◌, ◌++◌, map, length}
use Rattle.std.proofs.Common.{nat_le, replicate, zero, slice_index, slice_set, get_or-set_same, get_or-set_other}
use Rattle.std.proofs.Common.{◌+◌, nat_eq, refl, sym, ap, subst, ◌∙◌, arith, append_assoc}
use Rattle.std.proofs.lemmas.List.{append-nil, length-append, length-map}
use Rattle.std.proofs.lemmas.List.Elements.{filter-append}
use Rattle.std.specs.List.{filter, list_any, AllByRecursion}
use Rattle.jr_model.specs.declared.event.Act.{Act}
use Rattle.jr_model.specs.declared.event.Act.TheVariants.{LocalPut, LocalDrop}
use Rattle.jr_model.specs.declared.frames.LocalRef.{LocalRef}
use Rattle.jr_model.specs.declared.frames.TheConstants.{FRAMES}
use Rattle.jr_model.specs.Maps.{update}
use Rattle.jr_model.specs.State.{Handle, same_handle, State, opening}
use Rattle.jr_model.specs.Steps.{act_after, after}
use Rattle.jr_model.specs.History.{History, state_from, state, mine, PassView, Did}
use Rattle.jr_model.specs.Frames.{Frames, Agree, HaveOwnPlaces, AreSound, IsNewest, IsAdded, IsMove}
use Rattle.jr_model.specs.Frames.{fresh_frames, stored_at, pushes, adds, deletes, pops, frees, all_refs, without_local}
use Rattle.jr_model.specs.Frames.{drop_all, frames_before, freed, is_held, joined, last_frame}
use Rattle.jr_model.specs.Frames.{object_at, object_of, object_where, popped, pushed, with_last}
use Rattle.jr_model.specs.Laws.{FreshAreSound, FramesStaySound, FramesStayAgreed, HandleIsAtPlace}
use Rattle.jr_model.proofs.Updates.{at_number, eq_self, eq_other, eq_true, eq_false, and_left, handle_true}
use Rattle.jr_model.proofs.Histories.{state_append}
use Rattle.jr_model.proofs.Stays.{cond_same, mine_did}

-- WHAT A THREAD'S OWN ACTS MAKE OF ITS LOCALS

-- the places of a thread after an act of its own
abbrev pub places_after : (ℕ → Option ℕ) → Act → ℕ → Option ℕ
places_after l (LocalPut p o) = update nat_eq l p (Some o)
places_after l (LocalDrop p) = update nat_eq l p None
places_after l _ = l

abbrev pub places_from : (ℕ → Option ℕ) → List Act → ℕ → Option ℕ
places_from l [] = l
places_from l (a ∷ acts) = places_from (places_after l a) acts

-- the same, where the row of u is that of t
row_of : (l : ℕ → ℕ → Option ℕ) (u t : ℕ) (f : (ℕ → Option ℕ) → ℕ → Option ℕ)
    → update nat_eq l u (f (l u)) t ≡ cond (u == t) (f (l t)) (l t)
row_of l u t f = go (u == t) refl
  where
    go : (b : Bool) → (u == t) ≡ b → cond b (f (l u)) (l t) ≡ cond b (f (l t)) (l t)
    go true e = ap (λ v. f (l v)) (eq_true u t e)
    go false e = refl

places_step : (s : State) (u : ℕ) (a : Act) (t : ℕ)
    → (act_after s u a).locals t ≡ cond (u == t) (places_after (s.locals t) a) (s.locals t)
places_step s u (LocalPut p o) t = row_of s.locals u t (λ l. update nat_eq l p (Some o))
places_step s u (LocalDrop p) t = row_of s.locals u t (λ l. update nat_eq l p None)
places_step s u _ t = cond_same (u == t) (s.locals t)

places_split : (l : ℕ → Option ℕ) (a : Act) (acts : List Act) (b : Bool)
    → places_from (cond b (places_after l a) l) acts ≡ places_from l (cond b (a ∷ acts) acts)
places_split l a acts true = refl
places_split l a acts false = refl

-- the locals of a thread follow from its own acts
pub places_are_own : (s : State) (es : History) (t : ℕ)
    → (state_from s es).locals t ≡ places_from (s.locals t) (mine es t)
places_are_own s [] t = refl
places_are_own s (e ∷ es) t =
    places_are_own (after s e) es t
    ∙ (ap (λ l. places_from l (mine es t)) (places_step s e.thread e.act t)
    ∙ places_split (s.locals t) e.act (mine es t) (e.thread == t))

pub places_did : {old new : PassView} (acts : List Act) → Did old new acts
    → (state new.seen).locals new.thread ≡ places_from ((state old.seen).locals old.thread) acts
places_did {old} {new} acts d =
    ap (λ t. (state new.seen).locals t) d.thread
    ∙ (ap (λ (es : History). (state es).locals old.thread) (sym d.begins.1)
    ∙ (ap (λ (s : State). s.locals old.thread) (state_append old.seen d.begins.0)
    ∙ (places_are_own (state old.seen) d.begins.0 old.thread
    ∙ ap (places_from ((state old.seen).locals old.thread)) (mine_did acts d))))

-- the act leaves the thread's places as they are
abbrev pub spares_places : Act → Bool
spares_places (LocalPut p o) = false
spares_places (LocalDrop p) = false
spares_places _ = true

places_spared : (l : ℕ → Option ℕ) (a : Act) → spares_places a ≡ true → places_after l a ≡ l
places_spared l (LocalPut p o) e = absurd cc
places_spared l (LocalDrop p) e = absurd cc
places_spared l _ e = refl

pub all_spared : (l : ℕ → Option ℕ) (acts : List Act) → AllByRecursion (λ a. spares_places a ≡ true) acts
    → places_from l acts ≡ l
all_spared l [] h = refl
all_spared l (a ∷ acts) h = ap (λ k. places_from k acts) (places_spared l a h.0) ∙ all_spared l acts h.1

-- WHAT A THREAD EVER STORED AT A PLACE

pub stored_append : (p : ℕ) (xs ys : List Act) → stored_at p (xs ++ ys) ≡ stored_at p xs + stored_at p ys
stored_append p [] ys = omega arith
stored_append p (LocalPut q o ∷ xs) ys = let rest = stored_append p xs ys in omega arith
stored_append p (_ ∷ xs) ys = stored_append p xs ys

pub stored_did : {old new : PassView} (p : ℕ) (acts : List Act) → Did old new acts
    → stored_at p (mine new.seen new.thread) ≡ stored_at p (mine old.seen old.thread) + stored_at p acts
stored_did {old} {new} p acts d =
    ap (λ t. stored_at p (mine new.seen t)) d.thread
    ∙ (ap (stored_at p) d.own ∙ stored_append p (mine old.seen old.thread) acts)

pub stored_spared : (p : ℕ) (acts : List Act) → AllByRecursion (λ a. spares_places a ≡ true) acts → stored_at p acts ≡ 0
stored_spared p [] h = refl
stored_spared p (LocalPut q o ∷ acts) h = absurd (let no = h.0 in cc)
stored_spared p (_ ∷ acts) h = stored_spared p acts h.1

-- a place at which nothing stood, and nothing was stored, is empty
pub nothing_stored : (l : ℕ → Option ℕ) (p : ℕ) (acts : List Act) → stored_at p acts ≡ 0 → l p ≡ None
    → places_from l acts p ≡ None
nothing_stored l p [] none e = e
nothing_stored l p (LocalPut q o ∷ acts) none e =
    go (q == p) refl (nothing_stored (update nat_eq l q (Some o)) p acts)
  where
    go : (b : Bool) → (q == p) ≡ b → (stored_at p acts ≡ 0 → update nat_eq l q (Some o) p ≡ None
        → places_from (update nat_eq l q (Some o)) acts p ≡ None)
        → places_from (update nat_eq l q (Some o)) acts p ≡ None
    go true is rest = absurd (let one : ◌≡◌ {A = ℕ} (cond (q == p) 1 0) 1 = ap (λ b. cond b 1 0) is in omega arith)
    go false is rest =
        let zero : ◌≡◌ {A = ℕ} (cond (q == p) 1 0) 0 = ap (λ b. cond b 1 0) is in
        rest (omega arith) (ap (λ b. cond b (Some o) (l p)) is ∙ e)
nothing_stored l p (LocalDrop q ∷ acts) none e = nothing_stored (update nat_eq l q None) p acts none (go (q == p))
  where
    go : (b : Bool) → cond b None (l p) ≡ None
    go true = refl
    go false = e
nothing_stored l p (_ ∷ acts) none e = nothing_stored l p acts none e

-- acts that spare the places keep the agreement
pub agree_spared : {old new : PassView} (f : Frames) (acts : List Act) → Did old new acts
    → AllByRecursion (λ a. spares_places a ≡ true) acts → Agree old.thread f old.seen → Agree new.thread f new.seen
agree_spared {old} f acts d h agree = record {
  locals = λ p. ap (λ (l : ℕ → Option ℕ). l p) (places_did acts d
      ∙ all_spared ((state old.seen).locals old.thread) acts h) ∙ agree.locals p;
  given = λ p. let is = stored_did p acts d in let none = stored_spared p acts h in let was = agree.given p in
      omega arith;
}

-- fresh frames agree with what happened as long as the thread has stored no local reference
pub fresh_agree : (n t : ℕ) (es : History) → ((p : ℕ) → stored_at p (mine es t) ≡ 0) → Agree t (fresh_frames n) es
fresh_agree n t es none = record {
  locals = λ p. ap (λ (l : ℕ → Option ℕ). l p) (places_are_own opening es t)
      ∙ nothing_stored (opening.locals t) p (mine es t) (none p) refl;
  given = λ p. given_none n p ∙ sym (none p);
}
  where
    given_none : (m q : ℕ) → slice_index (replicate m 0) q ≡ 0
    given_none zero zero = refl
    given_none zero (suc q) = refl
    given_none (suc m) zero = refl
    given_none (suc m) (suc q) = given_none m q

-- REFERENCES AT PLACES

or_left : (a b : Bool) → (a || b) ≡ false → a ≡ false
or_left true b e = e
or_left false b e = refl

or_right : (a b : Bool) → (a || b) ≡ false → b ≡ false
or_right true b e = absurd cc
or_right false b e = e

-- no object at a place that none holds
object_free : (rs : List LocalRef) (p : ℕ) → is_held rs p ≡ false → object_where (λ r. r.handle.index == p) rs ≡ None
object_free [] p e = refl
object_free (r ∷ rs) p e =
    ap (λ b. cond b (Some r.object) (object_where (λ q. q.handle.index == p) rs))
    (or_left (r.handle.index == p) (is_held rs p) e)
    ∙ object_free rs p (or_right (r.handle.index == p) (is_held rs p) e)

held_append : (xs ys : List LocalRef) (p : ℕ) → is_held (xs ++ ys) p ≡ (is_held xs p || is_held ys p)
held_append [] ys p = refl
held_append (x ∷ xs) ys p = go (x.handle.index == p) (held_append xs ys p)
  where
    go : (b : Bool) → is_held (xs ++ ys) p ≡ (is_held xs p || is_held ys p)
        → (b || is_held (xs ++ ys) p) ≡ ((b || is_held xs p) || is_held ys p)
    go true e = refl
    go false e = e

-- two lists of references, one after the other
pub record AreApartFrom (xs ys : List LocalRef) : Type 0 where
  pub left : HaveOwnPlaces xs
  pub right : HaveOwnPlaces ys
  pub between : (p : ℕ) → is_held xs p ≡ true → is_held ys p ≡ false

held_head : (x : LocalRef) (rs : List LocalRef) (p : ℕ) → (b : Bool) → (x.handle.index == p) ≡ b
    → (b || is_held rs p) ≡ true → (ys : List LocalRef) → is_held ys x.handle.index ≡ false
    → (is_held rs p ≡ true → is_held ys p ≡ false) → is_held ys p ≡ false
held_head x rs p true e h ys here there = ap (is_held ys) (sym (eq_true x.handle.index p e)) ∙ here
held_head x rs p false e h ys here there = there h

apart_cut : (xs ys : List LocalRef) → HaveOwnPlaces (xs ++ ys) → AreApartFrom xs ys
apart_cut [] ys a = record { left = tt; right = a; between = λ p e. absurd cc }
apart_cut (x ∷ xs) ys a =
    let rest = apart_cut xs ys a.1 in
    let both : (is_held xs x.handle.index || is_held ys x.handle.index) ≡ false =
    sym (held_append xs ys x.handle.index) ∙ a.0 in
    record {
      left = (or_left (is_held xs x.handle.index) (is_held ys x.handle.index) both, rest.left);
      right = rest.right;
      between = λ p h. held_head x xs p (x.handle.index == p) refl h ys
          (or_right (is_held xs x.handle.index) (is_held ys x.handle.index) both) (rest.between p);
    }

-- a reference at a place that none holds
apart_push : (xs : List LocalRef) (r : LocalRef) → HaveOwnPlaces xs → is_held xs r.handle.index ≡ false
    → HaveOwnPlaces (xs ++ r ∷ [])
apart_push [] r a e = (refl, tt)
apart_push (x ∷ xs) r a e =
    let other : x.handle.index ≢ r.handle.index =
    eq_false x.handle.index r.handle.index (or_left (x.handle.index == r.handle.index) (is_held xs r.handle.index) e) in
    let one : is_held (r ∷ []) x.handle.index ≡ false =
    rw (eq_other r.handle.index x.handle.index (λ z. other (sym z))) refl in (
      held_append xs (r ∷ []) x.handle.index ∙ (ap (λ b. b || is_held (r ∷ []) x.handle.index) a.0 ∙ one),
      apart_push xs r a.1 (or_right (x.handle.index == r.handle.index) (is_held xs r.handle.index) e),
    )

-- WHAT HOLDS OF ALL REFERENCES OF A LIST

all_push : (P : LocalRef → Type 0) (xs : List LocalRef) (r : LocalRef) → AllByRecursion P xs → P r
    → AllByRecursion P (xs ++ r ∷ [])
all_push P [] r h p = (p, tt)
all_push P (x ∷ xs) r h p = (h.0, all_push P xs r h.1 p)

all_front : (P : LocalRef → Type 0) (xs ys : List LocalRef) → AllByRecursion P (xs ++ ys) → AllByRecursion P xs
all_front P [] ys h = tt
all_front P (x ∷ xs) ys h = (h.0, all_front P xs ys h.1)

all_filter : (P : LocalRef → Type 0) (k : LocalRef → Bool) (xs : List LocalRef) → AllByRecursion P xs
    → AllByRecursion P (filter k xs)
all_filter P k [] h = tt
all_filter P k (x ∷ xs) h = go (k x) (all_filter P k xs h.1)
  where
    go : (b : Bool) → AllByRecursion P (filter k xs) → AllByRecursion P (cond b (x ∷ filter k xs) (filter k xs))
    go true rest = (h.0, rest)
    go false rest = rest

-- what the places have given, but for a place that none holds
newest_set : (given : List ℕ) (p n : ℕ) (xs : List LocalRef) → is_held xs p ≡ false
    → AllByRecursion (λ r. slice_index given r.handle.index ≡ r.handle.serial + 1) xs
    → AllByRecursion (λ r. slice_index (slice_set given p n) r.handle.index ≡ r.handle.serial + 1) xs
newest_set given p n [] e h = tt
newest_set given p n (x ∷ xs) e h = (
  get_or-set_other given p x.handle.index n 0
      (eq_false x.handle.index p (or_left (x.handle.index == p) (is_held xs p) e)) ∙ h.0,
  newest_set given p n xs (or_right (x.handle.index == p) (is_held xs p) e) h.1,
)

-- A NEW LOCAL REFERENCE

pub joined_last : (xs : List (List LocalRef)) (r : LocalRef) → 1 ≤ length xs
    → joined (with_last xs r) ≡ joined xs ++ r ∷ []
joined_last [] r l = absurd (omega arith)
joined_last (x ∷ []) r l = append_assoc x (r ∷ []) [] ∙ sym (append_assoc x [] (r ∷ []))
joined_last (x ∷ y ∷ xs) r l =
    ap (λ z. x ++ z) (joined_last (y ∷ xs) r (omega arith)) ∙ sym (append_assoc x (joined (y ∷ xs)) (r ∷ []))

length_last : (xs : List (List LocalRef)) (r : LocalRef) → length (with_last xs r) ≡ length xs
length_last [] r = refl
length_last (x ∷ []) r = refl
length_last (x ∷ y ∷ xs) r = ap suc (length_last (y ∷ xs) r)

pub object_last : (p : LocalRef → Bool) (xs : List LocalRef) (r : LocalRef) → p r ≡ false
    → object_where p (xs ++ r ∷ []) ≡ object_where p xs
object_last p [] r e = rw e refl
object_last p (x ∷ xs) r e = ap (λ z. cond (p x) (Some x.object) z) (object_last p xs r e)

not_true : (a : Bool) → not a ≡ true → a ≡ false
not_true true e = sym e
not_true false e = refl

object_new : (p : LocalRef → Bool) (xs : List LocalRef) (r : LocalRef) → list_any p xs ≡ false → p r ≡ true
    → object_where p (xs ++ r ∷ []) ≡ Some r.object
object_new p [] r n e = rw e refl
object_new p (x ∷ xs) r n e = go (p x) refl n (λ m. object_new p xs r m e)
  where
    go : (b : Bool) → p x ≡ b → (b || list_any p xs) ≡ false
        → (list_any p xs ≡ false → object_where p (xs ++ r ∷ []) ≡ Some r.object)
        → cond (p x) (Some x.object) (object_where p (xs ++ r ∷ [])) ≡ Some r.object
    go true is m rest = absurd cc
    go false is m rest = ap (λ c. cond c (Some x.object) (object_where p (xs ++ r ∷ []))) is ∙ rest m

module _ (last thread : ℕ) (f g : Frames) (r : LocalRef) (a : IsAdded last thread f r g) where
  unheld : is_held (all_refs f) r.handle.index ≡ false
  unheld = not_true _ (and_left _ (nat_le (slice_index f.given r.handle.index) last) a.free)

  added_refs : 1 ≤ length f.frames → all_refs g ≡ all_refs f ++ r ∷ []
  added_refs l = ap (λ (x : Frames). all_refs x) a.new_is ∙ joined_last f.frames r l

  pub added_sound : AreSound f → AreSound g
  added_sound s =
      let same : length g.frames ≡ length f.frames =
      ap (λ (x : Frames). length x.frames) a.new_is ∙ length_last f.frames r in
      record {
        some_frame = let l = s.some_frame in omega arith;
        few_frames = let l = s.few_frames in omega arith;
        apart = subst HaveOwnPlaces (sym (added_refs s.some_frame)) (apart_push (all_refs f) r s.apart unheld);
        newest = subst (AllByRecursion (IsNewest g)) (sym (added_refs s.some_frame))
            (all_push (IsNewest g) (all_refs f) r newest_before newest_here);
      }
    where
      set : List ℕ
      set = slice_set f.given r.handle.index (r.handle.serial + 1)

      given_is : set ≡ g.given
      given_is = sym (ap (λ (x : Frames). x.given) a.new_is)

      newest_before : AllByRecursion (IsNewest g) (all_refs f)
      newest_before = subst
          (λ given. AllByRecursion (λ x. slice_index given x.handle.index ≡ x.handle.serial + 1) (all_refs f)) given_is
          (newest_set f.given r.handle.index (r.handle.serial + 1) (all_refs f) unheld s.newest)

      newest_here : IsNewest g r
      newest_here = subst (λ given. slice_index given r.handle.index ≡ r.handle.serial + 1) given_is
          (get_or-set_same f.given r.handle.index (r.handle.serial + 1) 0 a.place)

  pub added_at : AreSound f → (l : ℕ → Option ℕ) → ((p : ℕ) → l p ≡ object_at f p) → (p : ℕ)
      → update nat_eq l r.handle.index (Some r.object) p ≡ object_at g p
  added_at s l agree q =
      let here : object_at g q ≡ object_where (λ x. x.handle.index == q) (all_refs f ++ r ∷ []) =
      ap (object_where (λ x. x.handle.index == q)) (added_refs s.some_frame) in
      at_number (λ z. z ≡ object_where (λ x. x.handle.index == q) (all_refs f ++ r ∷ [])) l r.handle.index q
      (Some r.object)
      (λ e. sym (subst (λ n. object_where (λ x. x.handle.index == n) (all_refs f ++ r ∷ []) ≡ Some r.object) e
      (object_new (λ x. x.handle.index == r.handle.index) (all_refs f) r unheld (eq_self r.handle.index))))
      (λ d. agree q ∙ sym (object_last (λ x. x.handle.index == q) (all_refs f) r (eq_other r.handle.index q d)))
      ∙ sym here

-- A DELETED LOCAL REFERENCE

abbrev pub other_than : Handle → LocalRef → Bool
other_than h r = not (same_handle r.handle h)

pub joined_filter : (k : LocalRef → Bool) (xs : List (List LocalRef))
    → joined (map (filter k) xs) ≡ filter k (joined xs)
joined_filter k [] = refl
joined_filter k (x ∷ xs) = ap (λ z. filter k x ++ z) (joined_filter k xs) ∙ sym (filter-append k x (joined xs))

held_filter : (k : LocalRef → Bool) (xs : List LocalRef) (p : ℕ) → is_held xs p ≡ false
    → is_held (filter k xs) p ≡ false
held_filter k [] p e = refl
held_filter k (x ∷ xs) p e = go (k x) (or_left (x.handle.index == p) (is_held xs p) e)
    (held_filter k xs p (or_right (x.handle.index == p) (is_held xs p) e))
  where
    go : (b : Bool) → (x.handle.index == p) ≡ false → is_held (filter k xs) p ≡ false
        → is_held (cond b (x ∷ filter k xs) (filter k xs)) p ≡ false
    go true h r = rw h r
    go false h r = r

apart_filter : (k : LocalRef → Bool) (xs : List LocalRef) → HaveOwnPlaces xs → HaveOwnPlaces (filter k xs)
apart_filter k [] a = tt
apart_filter k (x ∷ xs) a = go (k x) (held_filter k xs x.handle.index a.0) (apart_filter k xs a.1)
  where
    go : (b : Bool) → is_held (filter k xs) x.handle.index ≡ false → HaveOwnPlaces (filter k xs)
        → HaveOwnPlaces (cond b (x ∷ filter k xs) (filter k xs))
    go true h r = (h, r)
    go false h r = r

-- a handle that stands holds its place
pub standing_held : (h : Handle) (xs : List LocalRef) → IsSome (object_where (λ r. same_handle r.handle h) xs)
    → is_held xs h.index ≡ true
standing_held h [] e = absurd cc
standing_held h (x ∷ xs) e = go (same_handle x.handle h) refl e (standing_held h xs)
  where
    go : (b : Bool) → same_handle x.handle h ≡ b
        → IsSome (cond b (Some x.object) (object_where (λ r. same_handle r.handle h) xs))
        → (IsSome (object_where (λ r. same_handle r.handle h) xs) → is_held xs h.index ≡ true)
        → ((x.handle.index == h.index) || is_held xs h.index) ≡ true
    go true is s rest = let same : x.handle ≡ h = handle_true x.handle h is in
        rw (ap (λ (g : Handle). g.index) same, eq_self h.index) refl
    go false is s rest = or_true (x.handle.index == h.index) (is_held xs h.index) (rest s)
      where
        or_true : (a b : Bool) → b ≡ true → (a || b) ≡ true
        or_true true b e = refl
        or_true false b e = e

-- a reference before one at the place is at another place
elsewhere : (h : Handle) (x : LocalRef) (xs : List LocalRef) → is_held xs x.handle.index ≡ false
    → is_held xs h.index ≡ true → (x.handle.index == h.index) ≡ false
elsewhere h x xs free held = go (x.handle.index == h.index) refl
  where
    go : (b : Bool) → (x.handle.index == h.index) ≡ b → b ≡ false
    go true e = let here : is_held xs h.index ≡ false =
        ap (is_held xs) (sym (eq_true x.handle.index h.index e)) ∙ free in absurd cc
    go false e = refl

-- nothing is left at the place of a handle that is taken out
place_left : (h : Handle) (xs : List LocalRef) → HaveOwnPlaces xs
    → IsSome (object_where (λ r. same_handle r.handle h) xs) → is_held (filter (other_than h) xs) h.index ≡ false
place_left h [] a e = refl
place_left h (x ∷ xs) a e = go (same_handle x.handle h) refl e (place_left h xs a.1)
  where
    go : (b : Bool) → same_handle x.handle h ≡ b
        → IsSome (cond b (Some x.object) (object_where (λ r. same_handle r.handle h) xs))
        → (IsSome (object_where (λ r. same_handle r.handle h) xs) → is_held (filter (other_than h) xs) h.index ≡ false)
        → is_held (cond (not b) (x ∷ filter (other_than h) xs) (filter (other_than h) xs)) h.index ≡ false
    go true is s rest =
        let same : x.handle ≡ h = handle_true x.handle h is in
        held_filter (other_than h) xs h.index (ap (λ (g : Handle). is_held xs g.index) (sym same) ∙ a.0)
    go false is s rest = rw (elsewhere h x xs a.0 (standing_held h xs s)) (rest s)

-- the object at another place stays
other_place : (h : Handle) (xs : List LocalRef) (p : ℕ) → h.index ≢ p
    → object_where (λ r. r.handle.index == p) (filter (other_than h) xs) ≡ object_where (λ r. r.handle.index == p) xs
other_place h [] p ne = refl
other_place h (x ∷ xs) p ne = go (same_handle x.handle h) refl (other_place h xs p ne)
  where
    go : (b : Bool) → same_handle x.handle h ≡ b → object_where (λ r. r.handle.index == p) (filter (other_than h) xs)
        ≡ object_where (λ r. r.handle.index == p) xs
        → object_where (λ r. r.handle.index == p)
        (cond (not b) (x ∷ filter (other_than h) xs) (filter (other_than h) xs))
        ≡ cond (x.handle.index == p) (Some x.object) (object_where (λ r. r.handle.index == p) xs)
    go true is rest =
        let same : x.handle ≡ h = handle_true x.handle h is in
        let away : (x.handle.index == p) ≡ false = ap (λ (g : Handle). g.index == p) same ∙ eq_other h.index p ne in
        rw away rest
    go false is rest = ap (λ z. cond (x.handle.index == p) (Some x.object) z) rest

pub handle_is_at_place : HandleIsAtPlace
handle_is_at_place f h o s = at_list (all_refs f) s.apart
  where
    at_list : (xs : List LocalRef) → HaveOwnPlaces xs → object_where (λ r. same_handle r.handle h) xs ≡ Some o
        → object_where (λ r. r.handle.index == h.index) xs ≡ Some o
    at_list [] a e = absurd cc
    at_list (x ∷ xs) a e = go (same_handle x.handle h) refl e (at_list xs a.1)
      where
        go : (b : Bool) → same_handle x.handle h ≡ b
            → cond b (Some x.object) (object_where (λ r. same_handle r.handle h) xs) ≡ Some o
            → (object_where (λ r. same_handle r.handle h) xs ≡ Some o
            → object_where (λ r. r.handle.index == h.index) xs ≡ Some o)
            → cond (x.handle.index == h.index) (Some x.object) (object_where (λ r. r.handle.index == h.index) xs)
            ≡ Some o
        go true is e rest =
            let same : x.handle ≡ h = handle_true x.handle h is in
            let here : (x.handle.index == h.index) ≡ true =
            ap (λ (g : Handle). g.index == h.index) same ∙ eq_self h.index in
            rw here e
        go false is e rest =
            rw (elsewhere h x xs a.0 (standing_held h xs (subst (λ z. IsSome z) (sym e) refl))) (rest e)

module _ (f : Frames) (h : Handle) (s : AreSound f) where
  pub deleted_refs : all_refs (without_local f h) ≡ filter (other_than h) (all_refs f)
  deleted_refs = joined_filter (other_than h) f.frames

  pub deleted_sound : AreSound (without_local f h)
  deleted_sound =
      let same : length (without_local f h).frames ≡ length f.frames = length-map f.frames (filter (other_than h)) in
      record {
        some_frame = let l = s.some_frame in omega arith;
        few_frames = let l = s.few_frames in omega arith;
        apart = subst HaveOwnPlaces (sym deleted_refs) (apart_filter (other_than h) (all_refs f) s.apart);
        newest = subst (AllByRecursion (IsNewest f)) (sym deleted_refs)
            (all_filter (IsNewest f) (other_than h) (all_refs f) s.newest);
      }

  pub deleted_at : IsSome (object_of f h) → (l : ℕ → Option ℕ) → ((p : ℕ) → l p ≡ object_at f p) → (p : ℕ)
      → update nat_eq l h.index None p ≡ object_at (without_local f h) p
  deleted_at stands l agree p =
      at_number (λ z. z ≡ object_where (λ r. r.handle.index == p) (filter (other_than h) (all_refs f))) l h.index p None
      (λ e. sym (object_free (filter (other_than h) (all_refs f)) p
      (ap (is_held (filter (other_than h) (all_refs f))) (sym e) ∙ place_left h (all_refs f) s.apart stands)))
      (λ ne. agree p ∙ sym (other_place h (all_refs f) p ne))
      ∙ ap (object_where (λ r. r.handle.index == p)) (sym deleted_refs)

-- REFERENCES THAT ARE DROPPED TOGETHER

cond_or : (a b : Bool) (x : Option ℕ) → cond b None (cond a None x) ≡ cond (a || b) None x
cond_or true true x = refl
cond_or true false x = refl
cond_or false b x = refl

-- dropped places are empty, and the others as they were
places_dropped : (rs : List LocalRef) (l : ℕ → Option ℕ) (p : ℕ)
    → places_from l (drop_all rs) p ≡ cond (is_held rs p) None (l p)
places_dropped [] l p = refl
places_dropped (r ∷ rs) l p =
    places_dropped rs (update nat_eq l r.handle.index None) p ∙ cond_or (r.handle.index == p) (is_held rs p) (l p)

object_front : (xs ys : List LocalRef) (p : ℕ) → is_held ys p ≡ false
    → object_where (λ r. r.handle.index == p) (xs ++ ys) ≡ object_where (λ r. r.handle.index == p) xs
object_front [] ys p e = object_free ys p e
object_front (x ∷ xs) ys p e = ap (λ z. cond (x.handle.index == p) (Some x.object) z) (object_front xs ys p e)

pub joined_before : (xs : List (List LocalRef)) → joined xs ≡ joined (frames_before xs) ++ last_frame xs
joined_before [] = refl
joined_before (x ∷ []) = append-nil x
joined_before (x ∷ y ∷ xs) = ap (λ z. x ++ z) (joined_before (y ∷ xs))
    ∙ sym (append_assoc x (joined (frames_before (y ∷ xs))) (last_frame (y ∷ xs)))

length_before : (x : List LocalRef) (xs : List (List LocalRef))
    → suc (length (frames_before (x ∷ xs))) ≡ length (x ∷ xs)
length_before x [] = refl
length_before x (y ∷ xs) = ap suc (length_before y xs)

fewer : (xs : List (List LocalRef)) → 2 ≤ length xs
    → (1 ≤ length (frames_before xs)) × (length (frames_before xs) ≤ length xs)
fewer [] l = absurd (omega arith)
fewer (x ∷ xs) l = let n = length_before x xs in (omega arith, omega arith)

pub not_both : (xs ys : List LocalRef) (p : ℕ) → (is_held xs p ≡ true → is_held ys p ≡ false) → is_held ys p ≡ true
    → is_held xs p ≡ false
not_both xs ys p between held = go (is_held xs p) refl
  where
    go : (b : Bool) → is_held xs p ≡ b → b ≡ false
    go true e = absurd (let free = between e in cc)
    go false e = refl

module _ (f : Frames) (s : AreSound f) where
  pub cut_last : AreApartFrom (joined (frames_before f.frames)) (last_frame f.frames)
  cut_last = apart_cut (joined (frames_before f.frames)) (last_frame f.frames)
      (subst HaveOwnPlaces (joined_before f.frames) s.apart)

  pub popped_sound : 2 ≤ length f.frames → AreSound (popped f)
  popped_sound l =
      let n = fewer f.frames l in
      record {
        some_frame = n.0;
        few_frames = let a = s.few_frames in let b = n.1 in omega arith;
        apart = cut_last.left;
        newest = all_front (IsNewest f) (joined (frames_before f.frames)) (last_frame f.frames)
            (subst (AllByRecursion (IsNewest f)) (joined_before f.frames) s.newest);
      }

  pub popped_at : (l : ℕ → Option ℕ) → ((p : ℕ) → l p ≡ object_at f p) → (p : ℕ)
      → places_from l (drop_all (last_frame f.frames)) p ≡ object_at (popped f) p
  popped_at l agree p = places_dropped (last_frame f.frames) l p ∙ go (is_held (last_frame f.frames) p) refl
    where
      go : (b : Bool) → is_held (last_frame f.frames) p ≡ b
          → cond b None (l p) ≡ object_where (λ r. r.handle.index == p) (joined (frames_before f.frames))
      go true e = sym (object_free (joined (frames_before f.frames)) p
          (not_both (joined (frames_before f.frames)) (last_frame f.frames) p (cut_last.between p) e))
      go false e = agree p ∙ (ap (object_where (λ r. r.handle.index == p)) (joined_before f.frames)
          ∙ object_front (joined (frames_before f.frames)) (last_frame f.frames) p e)

  pub freed_at : (l : ℕ → Option ℕ) → ((p : ℕ) → l p ≡ object_at f p) → (p : ℕ)
      → places_from l (drop_all (all_refs f)) p ≡ object_at (freed f) p
  freed_at l agree p = places_dropped (all_refs f) l p ∙ go (is_held (all_refs f) p) refl
    where
      go : (b : Bool) → is_held (all_refs f) p ≡ b → cond b None (l p) ≡ None
      go true e = refl
      go false e = agree p ∙ object_free (all_refs f) p e

pub joined_push : (xs : List (List LocalRef)) → joined (xs ++ [] ∷ []) ≡ joined xs
joined_push [] = refl
joined_push (x ∷ xs) = ap (λ z. x ++ z) (joined_push xs)

pub pushed_sound : (f : Frames) → AreSound f → length f.frames < FRAMES → AreSound (pushed f)
pushed_sound f s l =
    let n = length-append f.frames ([] ∷ []) in
    record {
      some_frame = omega arith;
      few_frames = omega arith;
      apart = subst HaveOwnPlaces (sym (joined_push f.frames)) s.apart;
      newest = subst (AllByRecursion (IsNewest f)) (sym (joined_push f.frames)) s.newest;
    }

pub freed_sound : (f : Frames) → AreSound (freed f)
freed_sound f = record { some_frame = lit≤ tt; few_frames = lit≤ tt; apart = tt; newest = tt }

pub fresh_are_sound : FreshAreSound
fresh_are_sound locals = record { some_frame = lit≤ tt; few_frames = lit≤ tt; apart = tt; newest = tt }

-- ALL MOVES

module _ (last thread : ℕ) where
  pub frames_stay_sound : FramesStaySound last thread
  frames_stay_sound f g acts s (pushes l) = pushed_sound f s l
  frames_stay_sound f g acts s (adds r a) = added_sound last thread f g r a s
  frames_stay_sound f g acts s (deletes h stands) = deleted_sound f h s
  frames_stay_sound f g acts s (pops l) = popped_sound f s l
  frames_stay_sound f g acts s frees = freed_sound f

  pub moved_at : (f g : Frames) (acts : List Act) → AreSound f → IsMove last thread f acts g → (l : ℕ → Option ℕ)
      → ((p : ℕ) → l p ≡ object_at f p) → (p : ℕ) → places_from l acts p ≡ object_at g p
  moved_at f g acts s (pushes b) l agree p =
      agree p ∙ ap (object_where (λ r. r.handle.index == p)) (sym (joined_push f.frames))
  moved_at f g acts s (adds r a) l agree p = added_at last thread f g r a s l agree p
  moved_at f g acts s (deletes h stands) l agree p = deleted_at f h s stands l agree p
  moved_at f g acts s (pops b) l agree p = popped_at f s l agree p
  moved_at f g acts s frees l agree p = freed_at f s l agree p

  drops_store_none : (p : ℕ) (rs : List LocalRef) → stored_at p (drop_all rs) ≡ 0
  drops_store_none p [] = refl
  drops_store_none p (r ∷ rs) = drops_store_none p rs

  -- a reference that goes to the frames counts at its place
  pub added_given : (f g : Frames) (r : LocalRef) → IsAdded last thread f r g → (p : ℕ)
      → slice_index g.given p ≡ slice_index f.given p + stored_at p (LocalPut r.handle.index r.object ∷ [])
  added_given f g r a p = ap (λ (x : Frames). slice_index x.given p) a.new_is ∙ go (r.handle.index == p) refl
    where
      serial : r.handle.serial ≡ slice_index f.given r.handle.index
      serial = ap (λ (h : Handle). h.serial) a.handle

      go : (b : Bool) → (r.handle.index == p) ≡ b
          → slice_index (slice_set f.given r.handle.index (r.handle.serial + 1)) p
          ≡ slice_index f.given p + (cond (r.handle.index == p) 1 0 + 0)
      go true is =
          let one : ◌≡◌ {A = ℕ} (cond (r.handle.index == p) 1 0) 1 = ap (λ b. cond b 1 0) is in
          let same : r.handle.index ≡ p = eq_true r.handle.index p is in
          let here : slice_index (slice_set f.given r.handle.index (r.handle.serial + 1)) p ≡ r.handle.serial + 1 =
          ap (slice_index (slice_set f.given r.handle.index (r.handle.serial + 1))) (sym same)
          ∙ get_or-set_same f.given r.handle.index (r.handle.serial + 1) 0 a.place in
          let was : r.handle.serial ≡ slice_index f.given p = serial ∙ ap (slice_index f.given) same in
          omega arith
      go false is =
          let none : ◌≡◌ {A = ℕ} (cond (r.handle.index == p) 1 0) 0 = ap (λ b. cond b 1 0) is in
          let here : slice_index (slice_set f.given r.handle.index (r.handle.serial + 1)) p ≡ slice_index f.given p =
          get_or-set_other f.given r.handle.index p (r.handle.serial + 1) 0
          (λ z. eq_false r.handle.index p is (sym z)) in
          omega arith

  moved_given : (f g : Frames) (acts : List Act) → IsMove last thread f acts g → (p : ℕ)
      → slice_index g.given p ≡ slice_index f.given p + stored_at p acts
  moved_given f g acts (pushes b) p = omega arith
  moved_given f g acts (adds r a) p = added_given f g r a p
  moved_given f g acts (deletes h stands) p = omega arith
  moved_given f g acts (pops b) p = let none = drops_store_none p (last_frame f.frames) in omega arith
  moved_given f g acts frees p = let none = drops_store_none p (all_refs f) in omega arith

pub frames_stay_agreed : FramesStayAgreed
frames_stay_agreed old new f g acts s agree m d = record {
  locals = λ p. ap (λ (l : ℕ → Option ℕ). l p) (places_did acts d)
      ∙ moved_at old.last old.thread f g acts s m ((state old.seen).locals old.thread) agree.locals p;
  given = λ p.
      let is = stored_did p acts d in
      let more = moved_given old.last old.thread f g acts m p in
      let was = agree.given p in
      omega arith;
}
