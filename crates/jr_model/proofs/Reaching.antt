-- What is reached is found in as many rounds as the room has objects, and one.
use Rattle.std.proofs.Common.{◌≡◌, ◌≢◌, ◌⊎◌, inl, inr, ⊎_elim, ℕ, zero, suc, ◌+◌, ◌<◌, ◌≤◌}
use Rattle.std.proofs.Common.{Bool, true, ◌&&◌, ◌||◌, Option, Some, None, is_some, List, length}
use Rattle.std.proofs.Common.{slice_get, refl, sym, subst, ap, ◌∙◌, arith, nat_eq, Decides}
use Rattle.std.specs.List.{list_any}
use Rattle.std.proofs.lemmas.Bool.{and_parts}
use Rattle.std.proofs.lemmas.Bool.Decides.{Decides-like, Decides-and, Decides-or, Decides-eqb}
use Rattle.jr_word.specs.declared.config.Config.{Config}
use Rattle.jr_word.specs.declared.handle.RefKind.{RefKind}
use Rattle.jr_word.specs.declared.handle.RefKind.TheVariants.{Global}
use Rattle.jr_word.specs.declared.kind.Kind.{Kind}
use Rattle.jr_word.specs.declared.kind.Kind.TheVariants.{Objects}
use Rattle.jr_model.specs.declared.event.Role.TheVariants.{Outside}
use Rattle.jr_model.specs.declared.event.Found.{Found}
use Rattle.jr_model.specs.declared.event.Found.TheVariants.{Object, Cleared, Stale}
use Rattle.jr_model.specs.State.{Handle, same_kind, same_handle, Contents, State}
use Rattle.jr_model.specs.State.{IsReached, from_global, from_local, from_element}
use Rattle.jr_model.specs.Checks.{is_objects}
use Rattle.jr_model.specs.Decided.{below, same_found, is_word_there, is_root}
use Rattle.jr_model.specs.Decided.{has_element, grown, reached_within, is_reached}
use Rattle.jr_model.proofs.InRoom.{IsInRoom}
use Rattle.jr_model.proofs.Updates.{kind_true, kind_self, handle_true, handle_self}
use Rattle.jr_model.proofs.Listed.{IsSameOrLonger, itself, any_of, any_at, some_of, any_below}
use Rattle.jr_model.proofs.Listed.{passing, passing_is, passing_fits, passing_grows}

-- what stands lies in the room, and the handles that were given are these
pub record IsWithin (c : Config) (given : List Handle) (s : State) : Type 0 where
  pub room : IsInRoom c s
  pub roles : (t : ℕ) → c.threads ≤ t → s.role t ≡ Outside
  pub known : (h : Handle) → s.given h ≡ list_any (same_handle h) given
  pub standing : (h : Handle) → s.refs h ≢ Stale → s.given h ≡ true

pub same_kind_is : (k l : RefKind) → Decides (same_kind k l) (k ≡ l)
same_kind_is k l = (kind_true k l, λ e. subst (λ j. same_kind k j ≡ true) e (kind_self k))

pub same_handle_is : (g h : Handle) → Decides (same_handle g h) (g ≡ h)
same_handle_is g h = (handle_true g h, λ e. subst (λ j. same_handle g j ≡ true) e (handle_self g))

pub same_found_is : (f g : Found) → Decides (same_found f g) (f ≡ g)
same_found_is (Object o) (Object p) = Decides-like _ (ap Object) (λ e. cc) (Decides-eqb o p)
same_found_is Cleared Cleared = (λ e. refl, λ e. refl)
same_found_is Stale Stale = (λ e. refl, λ e. refl)
same_found_is _ _ = (λ e. absurd cc, λ e. absurd cc)

pub word_there_is : (m : Option ℕ) (v : ℕ) → Decides (is_word_there m v) (m ≡ Some v)
word_there_is None v = (λ e. absurd cc, λ e. absurd cc)
word_there_is (Some w) v = Decides-like _ (ap Some) (λ e. cc) (Decides-eqb w v)

pub is_objects_is : (k : Kind) → Decides (is_objects k) (k ≡ Objects)
is_objects_is Objects = (λ e. refl, λ e. refl)
is_objects_is _ = (λ e. absurd cc, λ e. absurd cc)

-- an object array with this element
abbrev HasElement : ℕ → Contents → Type 0
HasElement o x = (x.kind ≡ Objects) × ((i : ℕ) × (slice_get x.words i ≡ Some o))

element_is : (o : ℕ) (m : Option Contents) → Decides (has_element m o) ((x : Contents) × (m ≡ Some x) × HasElement o x)
element_is o = some_of {Q = HasElement o} (λ m. has_element m o) refl
    (λ x. Decides-and (is_objects x.kind) (list_any (nat_eq o) x.words) (is_objects_is x.kind) (any_at o x.words))

module _ (c : Config) (given : List Handle) (s : State) (within : IsWithin c given s) where
  -- each reference that stands is among the given handles
  pub listed : (h : Handle) → s.refs h ≢ Stale → list_any (same_handle h) given ≡ true
  listed h ne = sym (within.known h) ∙ within.standing h ne

  abbrev IsRoot : ℕ → Type 0
  IsRoot o = ((h : Handle) × (h.kind ≡ Global) × (s.refs h ≡ Object o)) ⊎ ((t : ℕ) × (p : ℕ) × (s.locals t p ≡ Some o))

  abbrev names : ℕ → Handle → Bool
  names o h = same_kind h.kind Global && same_found (s.refs h) (Object o)

  globals : (o : ℕ) → Decides (list_any (names o) given) ((h : Handle) × (h.kind ≡ Global) × (s.refs h ≡ Object o))
  globals o = Decides-like _ (λ h. (h.0, h.2.0, h.2.1)) (λ h. (h.0, listed h.0 (λ e. let is = h.2 in cc), (h.1, h.2)))
      (any_of same_handle same_handle_is {P = λ h. (h.kind ≡ Global) × (s.refs h ≡ Object o)} (names o)
      (λ h. Decides-and _ _ (same_kind_is h.kind Global) (same_found_is (s.refs h) (Object o))) given)

  abbrev at_place : ℕ → ℕ → ℕ → Bool
  at_place o t p = is_word_there (s.locals t p) o

  abbrev any_place : ℕ → ℕ → Bool
  any_place o t = list_any (at_place o t) (below c.locals)

  locals : (o : ℕ) → Decides (list_any (any_place o) (below c.threads)) ((t : ℕ) × (p : ℕ) × (s.locals t p ≡ Some o))
  locals o = Decides-like _ (λ h. (h.0, h.2.0, h.2.2))
      (λ h. let l = within.room.locals h.0 h.1 o h.2 in (h.0, l.0, (h.1, l.1, h.2)))
      (any_below {P = λ t. (p : ℕ) × (p < c.locals) × (s.locals t p ≡ Some o)} (any_place o)
      (λ t. any_below {P = λ p. s.locals t p ≡ Some o} (at_place o t)
      (λ p. word_there_is (s.locals t p) o) c.locals) c.threads)

  root_is : (o : ℕ) → Decides (is_root c given s o) (IsRoot o)
  root_is o = Decides-or _ _ (globals o) (locals o)

  -- the objects of each round
  abbrev found : ℕ → List ℕ
  found n = reached_within c given s n

  -- one of them has the element
  abbrev any_element : ℕ → ℕ → Bool
  any_element n o = list_any (λ a. has_element (s.objects a) o) (found n)

  -- and the test by which a round has them
  abbrev test : ℕ → ℕ → Bool
  test zero o = is_some (s.objects o) && is_root c given s o
  test (suc n) o = is_some (s.objects o) && (list_any (nat_eq o) (found n) || any_element n o)

  found_by : (n : ℕ) → found n ≡ passing (test n) (c.objects + 1)
  unfolding reached_within
  found_by zero = refl
  found_by (suc n) = refl

  abbrev IsFound : ℕ → ℕ → Type 0
  IsFound n o = list_any (nat_eq o) (found n) ≡ true

  found_is : (n o : ℕ) → Decides (list_any (nat_eq o) (found n)) ((o < c.objects + 1) × (test n o ≡ true))
  found_is n o =
      subst (λ os. Decides (list_any (nat_eq o) os) ((o < c.objects + 1) × (test n o ≡ true))) (sym (found_by n))
      (passing_is (test n) o (c.objects + 1))

  abbrev IsElementOf : ℕ → ℕ → Type 0
  IsElementOf n o = (a : ℕ) × IsFound n a × ((x : Contents) × (s.objects a ≡ Some x) × HasElement o x)

  element_of : (n o : ℕ) → Decides (any_element n o) (IsElementOf n o)
  element_of n o = any_of nat_eq Decides-eqb {P = λ a. (x : Contents) × (s.objects a ≡ Some x) × HasElement o x}
      (λ a. has_element (s.objects a) o) (λ a. element_is o (s.objects a)) (found n)

  -- what a round has is present
  present : (n o : ℕ) → test n o ≡ true → is_some (s.objects o) ≡ true
  present zero o e = (and_parts (is_some (s.objects o)) (is_root c given s o) e).0
  present (suc n) o e = (and_parts (is_some (s.objects o)) (list_any (nat_eq o) (found n) || any_element n o) e).0

  next_is : (n o : ℕ) → Decides (test (suc n) o) ((is_some (s.objects o) ≡ true) × (IsFound n o ⊎ IsElementOf n o))
  next_is n o = Decides-and _ _ (itself (is_some (s.objects o)))
      (Decides-or _ _ (itself (list_any (nat_eq o) (found n))) (element_of n o))

  pub reached_if : (n o : ℕ) → IsFound n o → IsReached s o
  reached_if zero o f =
      let h =
      (Decides-and (is_some (s.objects o)) (is_root c given s o) (itself _) (root_is o)).0 ((found_is 0 o).0 f).1 in
      ⊎_elim (λ g. from_global g.0 g.1 g.2 h.0) (λ l. from_local l.0 l.1 l.2 h.0) h.1
  reached_if (suc n) o f =
      let h = (next_is n o).0 ((found_is (suc n) o).0 f).1 in
      ⊎_elim (λ g. reached_if n o g)
      (λ e. from_element e.0 e.2.2.1.0 e.2.0 (reached_if n e.0 e.1) e.2.1 e.2.2.0 e.2.2.1.1 h.0) h.1

  goes_on : (n o : ℕ) → o < c.objects + 1 → test n o ≡ true → test (suc n) o ≡ true
  goes_on n o l e = (next_is n o).1 (present n o e, inl ((found_is n o).1 (l, e)))

  grows : (n : ℕ) → IsSameOrLonger (found n) (found (suc n))
  grows n =
      subst (λ os. IsSameOrLonger os (found (suc n))) (sym (found_by n))
      (subst (λ os. IsSameOrLonger (passing (test n) (c.objects + 1)) os) (sym (found_by (suc n)))
      (passing_grows (test n) (test (suc n)) (c.objects + 1) (goes_on n)))

  settled : (n : ℕ) → (found n ≡ found (suc n)) ⊎ (n < length (found (suc n)))
  unfolding reached_within
  settled zero = ⊎_elim inl (λ l. inr (omega arith)) (grows 0)
  settled (suc n) = ⊎_elim (λ e. inl (ap (grown c s) e))
      (λ l. ⊎_elim inl (λ g. inr (omega arith)) (grows (suc n))) (settled n)

  -- after as many rounds no other object is found
  closed : found (c.objects + 1) ≡ found (suc (c.objects + 1))
  closed = ⊎_elim (λ e. e) (λ l. absurd (let most = fits in omega arith)) (settled (c.objects + 1))
    where
      fits : length (found (suc (c.objects + 1))) ≤ c.objects + 1
      fits = rw (found_by (suc (c.objects + 1))) (passing_fits (test (suc (c.objects + 1))) (c.objects + 1))

  stays : (n o : ℕ) → IsFound 0 o → IsFound n o
  stays zero o f = f
  stays (suc n) o f = let h = (found_is n o).0 (stays n o f) in (found_is (suc n) o).1 (h.0, goes_on n o h.0 h.1)

  low : (o : ℕ) → is_some (s.objects o) ≡ true → o < c.objects + 1
  low o p = let l = within.room.objects o p in omega arith

  root_found : (o : ℕ) → is_some (s.objects o) ≡ true → IsRoot o → IsFound (c.objects + 1) o
  root_found o p r =
      let first = (Decides-and (is_some (s.objects o)) (is_root c given s o) (itself _) (root_is o)).1 (p, r) in
      stays (c.objects + 1) o ((found_is 0 o).1 (low o p, first))

  pub found_if : {o : ℕ} → IsReached s o → IsFound (c.objects + 1) o
  found_if {o} (from_global h k r p) = root_found o p (inl (h, k, r))
  found_if {o} (from_local t q r p) = root_found o p (inr (t, q, r))
  found_if {o} (from_element a i x r e k v p) =
      let next = (next_is (c.objects + 1) o).1 (p, inr (a, found_if r, (x, e, (k, (i, v))))) in
      subst (λ os. list_any (nat_eq o) os ≡ true) (sym closed)
      ((found_is (suc (c.objects + 1)) o).1 (low o p, next))

  pub reached_is : (o : ℕ) → Decides (is_reached c given s o) (IsReached s o)
  reached_is o = (reached_if (c.objects + 1) o, λ r. found_if r)
