-- WHERE MORE IS MADE, alone and among others: a role is another, words are used, an object and a reference come.
use Rattle.std.proofs.Common.{◌≡◌, ◌<◌, ◌≤◌, ◌+◌, ◌++◌, ℕ, zero, suc, Bool, true, false, cond, Option, Some, None}
use Rattle.std.proofs.Common.{is_some, append-nil, List, [], ◌∷◌, map, length, slice_index_or, slice_set, refl, sym, ap}
use Rattle.std.proofs.Common.{subst, ◌∙◌, arith}
use Rattle.std.proofs.lemmas.List.{get_or-set_other, get_or-set_same, get_or_append_left, get_or_push, length-append}
use Rattle.std.proofs.lemmas.List.{drop_at, length-set, map-append}
use Rattle.std.specs.List.{AllByRecursion}
use native.Mathlib.Decide.{ℕ_discrete, dec_lt}
use mathlib.Core.Logic.{dite}
use Rattle.one_order.proofs.Lists.{all_weaker}
use Rattle.jr_word.specs.declared.config.Config.{Config}
use Rattle.jr_word.specs.declared.handle.RefKind.{RefKind}
use Rattle.jr_word.specs.declared.handle.RefKind.TheVariants.{Local, Global, Weak}
use Rattle.jr_model.specs.declared.event.Role.{Role}
use Rattle.jr_model.specs.declared.event.Role.TheVariants.{Outside}
use Rattle.jr_model.specs.State.{Contents, is_barring, same_kind}
use Rattle.jr_model.specs.Checks.{is_objects}
use Rattle.jr_world.specs.World.{Ref, added, how_many, is_ref_of, put_last, standing, standing_at}
use Rattle.jr_world.specs.Doing.{Shared, as_left, as_seen, has_no_owner, in_role, owner_if}
use Rattle.jr_scripts.proofs.OneRow.Alike.{Tidy, begin_itself, frames_of, role_of}
use Rattle.jr_scripts.proofs.OneRow.Blind.{Lays, added_blind, has_owner, tidy_left}
use Rattle.jr_scripts.proofs.OneRow.Goes.{seen_is}
use Rattle.jr_scripts.proofs.TogetherRun.Lists.{how_many_both}
use Rattle.jr_scripts.proofs.Apart.Leads.{Leaps}
use Rattle.jr_scripts.proofs.Apart.Mirrors.{Asks, HasElements, HasObject, IsAlone, Mirrors, elements_within, made_slots}
use Rattle.jr_scripts.proofs.Apart.Mirrors.{owner_in}
use Rattle.jr_scripts.proofs.Apart.Numbers.{Extends, HasElement, Numbers, WordFor, contents_as, element_later}
use Rattle.jr_scripts.proofs.Apart.Numbers.{element_of, extends_itself, known_later, known_of, number_stays, object_as}
use Rattle.jr_scripts.proofs.Apart.Numbers.{object_of, ref_in, ref_of, word_of}

-- WHAT HAS ITS NUMBERS keeps them where more was made
module _ {j k : Numbers} (more : Extends j k) where
  ref_stays : (x : Option Ref) → HasObject j x → (ref_in k x ≡ ref_in j x) × HasObject k x
  ref_stays None has = (refl, tt)
  ref_stays (Some r) has = let it = known_later more (known_of j r.object) r.object (refl, has) in
      (ap (λ (o : Option ℕ). Some (record r { object = o })) (sym it.0), it.1)

  elements_stay : (ws : List ℕ) → AllByRecursion (HasElement j) ws
      → (map (element_of k) ws ≡ map (element_of j) ws) × AllByRecursion (HasElement k) ws
  elements_stay [] all = (refl, tt)
  elements_stay (w ∷ ws) all =
      let one = element_later more (element_of j w) w (refl, all.0) in
      let rest = elements_stay ws all.1 in
      (λ i. sym one.0 i ∷ rest.0 i, (one.1, rest.1))

  pub words_stay : (b : Bool) (ws : List ℕ) → elements_within j b ws
      → (contents_as k b ws ≡ contents_as j b ws) × elements_within k b ws
  words_stay true ws all = elements_stay ws all
  words_stay false ws all = (refl, tt)

  object_stays : (x : Option Contents) → HasElements j x → (object_as k x ≡ object_as j x) × HasElements k x
  object_stays None has = (refl, tt)
  object_stays (Some x) has = let it = words_stay (is_objects x.kind) x.words has in
      (ap (λ (ws : List ℕ). Some (record x { words = ws })) it.0, it.1)

  pub frame_stays : (f : List ℕ) → AllByRecursion (λ n. n < length j.refs) f → map (ref_of k) f ≡ map (ref_of j) f
  frame_stays [] all = refl
  frame_stays (n ∷ ns) all = λ i. (number_stays more n all.0).0 i ∷ frame_stays ns all.1 i

  frames_stay : (fs : List (List ℕ)) → AllByRecursion (AllByRecursion (λ n. n < length j.refs)) fs
      → map (map (ref_of k)) fs ≡ map (map (ref_of j)) fs
  frames_stay [] all = refl
  frames_stay (f ∷ fs) all = λ i. frame_stays f all.0 i ∷ frames_stay fs all.1 i

pub framed_within : {k : Numbers} {z : Shared} → IsAlone k z
    → AllByRecursion (AllByRecursion (λ n. n < length k.refs)) (frames_of z 0)
framed_within {k} {z} a = all_weaker (all_weaker (λ n is.
    let lt = has_owner z.owners n 0 is in
    let owned = a.tidy.owned in
    let many = a.as_many_refs in
    omega arith)) (frames_of z 0) (a.tidy.framed 0)

-- what is left may be said otherwise
pub leaps_to : {c : Config} {t : ℕ} {k j : Numbers} {q p : Asks} {s z s' y s'' y' : Shared} → s'' ≡ s' → y' ≡ y
    → Leaps c t k q s z s' j p y → Leaps c t k q s z s'' j p y'
leaps_to {c} {t} {k} {j} {q} {p} {s} {z} is alone =
    subst (λ (x : Shared × Shared). Leaps c t k q s z x.0 j p x.1) (λ i. (sym is i, sym alone i))

-- A ROLE, THE BOARD, and words that are used
module _ {c : Config} {t : ℕ} {k : Numbers} {s z : Shared} (m : Mirrors t k s z) where
  beside_leaps : {q p : Asks} (n u v : ℕ) (rs rz : List Role) (b d : List (List ℕ × ℕ)) (role : Role)
      → u ≡ s.used + n → v ≡ z.used + n
      → p.slots ≤ q.slots → p.objects ≤ q.objects → n + p.words ≤ q.words → length rs ≡ length s.roles
      → ((w : ℕ) → (w ≡ t → ⊥) → slice_index_or rs w Outside ≡ role_of s w)
      → ((w : ℕ) → is_barring (slice_index_or rs w Outside) ≡ false) → rz ≡ role ∷ [] → is_barring role ≡ false
      → Leaps c t k q s z (record s { used = u; roles = rs; board = b }) k p
      (record z { used = v; roles = rz; board = d })
  beside_leaps n u v rs rz b d role more more_too slots objects words as_many others free one free_too = record {
    extends = extends_itself k;
    mirrors = record {
      alone = record {
        role = role;
        roles = one;
        free = free_too;
        frames = m.alone.frames;
        one_thread = m.alone.one_thread;
        as_many_refs = m.alone.as_many_refs;
        as_many_objects = m.alone.as_many_objects;
        tidy = record { owned = m.alone.tidy.owned; local = m.alone.tidy.local; framed = m.alone.tidy.framed };
        own = m.alone.own;
        have_objects = m.alone.have_objects;
        have_elements = m.alone.have_elements;
      };
      tidy = record { owned = m.tidy.owned; local = m.tidy.local; framed = m.tidy.framed };
      refs = m.refs;
      owners = m.owners;
      objects = m.objects;
      frames = m.frames;
      refs_there = m.refs_there;
      objects_there = m.objects_there;
      refs_differ = m.refs_differ;
      objects_differ = m.objects_differ;
      fewer_slots = m.fewer_slots;
      fewer_objects = m.fewer_objects;
      fewer_words = let few = m.fewer_words in omega arith;
      sits = (m.sits.0, subst (λ l. t < l) (sym as_many) m.sits.1);
      unbarred = free;
    };
    untouched = record {
      more_refs = omega arith;
      refs = λ i lt other. refl;
      more_objects = omega arith;
      objects = λ i lt other. refl;
      owners = begin_itself s.owners;
      as_many_frames = refl;
      frames = λ w other. refl;
      as_many_roles = as_many;
      roles = others;
      unbarred = free t;
      tidy = record { owned = m.tidy.owned; local = m.tidy.local; framed = m.tidy.framed };
      more_slots = omega arith;
      more_words = omega arith;
    };
    spends = record { slots = omega arith; objects = omega arith; words = omega arith };
    new_refs = λ i le lt. absurd (omega arith);
    counts = record { globals = refl; weaks = refl; live = refl; used = omega arith };
    new_objects = λ i le lt. absurd (omega arith);
  }

  -- its role is another
  pub role_leaps : {q : Asks} (r : Role) → is_barring r ≡ false
      → Leaps c t k q s z (in_role r t s) k q (in_role r 0 z)
  role_leaps r free = beside_leaps 0 s.used z.used (slice_set s.roles t r) (slice_set z.roles 0 r) s.board z.board r
      (omega arith) (omega arith) (omega arith) (omega arith) (omega arith) (length-set s.roles t r)
      (λ w other. get_or-set_other s.roles t w r Outside other)
      (λ w. dite (ℕ_discrete w t) (λ e. ap is_barring
      (ap (λ v. slice_index_or (slice_set s.roles t r) v Outside) e ∙ get_or-set_same s.roles t r Outside m.sits.1)
      ∙ free)
      (λ other. ap is_barring (get_or-set_other s.roles t w r Outside other) ∙ m.unbarred w))
      (ap (λ l. slice_set l 0 r) m.alone.roles) free

  -- a board tells nothing of references and objects
  pub board_leaps : {q : Asks} (b d : List (List ℕ × ℕ))
      → Leaps c t k q s z (record s { board = b }) k q (record z { board = d })
  board_leaps b d = beside_leaps 0 s.used z.used s.roles z.roles b d m.alone.role (omega arith) (omega arith)
      (omega arith) (omega arith) (omega arith) refl (λ w other. refl) m.unbarred m.alone.roles m.alone.free

  -- nothing is done, or it is only looked at
  pub still_leaps : {q : Asks} → Leaps c t k q s z s k q z
  still_leaps = board_leaps s.board z.board

  pub looks_on : {q : Asks} → Leaps c t k q s z (as_left t s (as_seen t s)) k q (as_left 0 z (as_seen 0 z))
  looks_on = leaps_to (seen_is t s m.tidy) (seen_is 0 z m.alone.tidy) still_leaps

  -- words are used
  pub words_leap : {q p : Asks} (n : ℕ) → p.slots ≤ q.slots → p.objects ≤ q.objects → n + p.words ≤ q.words
      → Leaps c t k q s z (as_left t s (record (as_seen t s) { used = s.used + n })) k p
      (as_left 0 z (record (as_seen 0 z) { used = z.used + n }))
  words_leap n slots objects words = leaps_to
      (ap (λ (x : Shared). record x { used = s.used + n }) (seen_is t s m.tidy))
      (ap (λ (x : Shared). record x { used = z.used + n }) (seen_is 0 z m.alone.tidy))
      (beside_leaps n (s.used + n) (z.used + n) s.roles z.roles s.board z.board m.alone.role refl
      refl slots objects words refl (λ w other. refl) m.unbarred m.alone.roles m.alone.free)

-- LISTS with one more at their end

-- what holds of each, and of none
at_end : {X : Type 0} (P : Option X → Type 0) (xs : List (Option X)) (x : Option X)
    → ((n : ℕ) → P (standing_at xs n)) → P x → P None → (n : ℕ) → P (standing_at (xs ++ x ∷ []) n)
at_end P [] x old new none zero = new
at_end P [] x old new none (suc n) = none
at_end P (y ∷ ys) x old new none zero = old 0
at_end P (y ∷ ys) x old new none (suc n) = at_end P ys x (λ i. old (suc i)) new none n

-- what holds of each number, and of where it stands
push_number : (xs : List ℕ) (w : ℕ) (P : ℕ → ℕ → Type 0) → ((n : ℕ) → n < length xs → P n (slice_index_or xs n 0))
    → P (length xs) w → (n : ℕ) → n < length (xs ++ w ∷ []) → P n (slice_index_or (xs ++ w ∷ []) n 0)
push_number xs w P old new n small = dite (dec_lt n (length xs))
    (λ less. subst (P n) (sym (get_or_append_left xs (w ∷ []) 0 n less)) (old n less))
    (λ more.
    let long = length-append xs (w ∷ []) in
    let e : n ≡ length xs = omega arith in
    subst (λ i. P i (slice_index_or (xs ++ w ∷ []) i 0)) (sym e)
    (subst (P (length xs)) (sym (get_or_push xs w 0 (length xs) refl)) new))

-- numbers that differ, and one more than all of them
push_differ : (xs : List ℕ) (w : ℕ) → ((n : ℕ) → n < length xs → slice_index_or xs n 0 < w)
    → ((m n : ℕ) → m < length xs → n < length xs → slice_index_or xs m 0 ≡ slice_index_or xs n 0 → m ≡ n)
    → (m n : ℕ) → m < length (xs ++ w ∷ []) → n < length (xs ++ w ∷ [])
    → slice_index_or (xs ++ w ∷ []) m 0 ≡ slice_index_or (xs ++ w ∷ []) n 0 → m ≡ n
push_differ xs w bound old m n less small = push_number xs w (λ i v. v ≡ slice_index_or (xs ++ w ∷ []) n 0 → i ≡ n)
    (λ i low. push_number xs w (λ o u. slice_index_or xs i 0 ≡ u → i ≡ o) (λ o high e. old i o low high e)
    (λ e. let lt = bound i low in absurd (omega arith)) n small)
    (push_number xs w (λ o u. w ≡ u → length xs ≡ o) (λ o high e. let lt = bound o high in absurd (omega arith))
    (λ e. refl) n small) m less

-- numbers that come are no less than what was made
pub push_new : (xs : List ℕ) (w n : ℕ) → length xs ≤ n → n < length (xs ++ w ∷ [])
    → w ≤ slice_index_or (xs ++ w ∷ []) n 0
push_new xs w n le lt = push_number xs w (λ i v. length xs ≤ i → w ≤ v) (λ i small le. absurd (omega arith))
    (λ le. omega arith) n lt le

-- AN OBJECT
abbrev pub with_object : Numbers → Shared → Numbers
with_object k s = record k { objects = k.objects ++ length s.objects ∷ [] }

abbrev pub and_object : ℕ → Shared → Contents → Shared
and_object t s x = as_left t s (record (as_seen t s) { objects = s.objects ++ Some x ∷ [] })

module _ {c : Config} {t : ℕ} {k : Numbers} {s z : Shared} (m : Mirrors t k s z) where
  pub object_leaps : {q p : Asks} (x y : Contents) → object_as k (Some y) ≡ Some x → HasElements k (Some y)
      → p.slots ≤ q.slots → 1 + p.objects ≤ q.objects → p.words ≤ q.words
      → Leaps c t k q s z (and_object t s x) (with_object k s) p (and_object 0 z y)
  object_leaps x y is has slots objects words = leaps_to
      (ap (λ (l : Shared). record l { objects = s.objects ++ Some x ∷ [] }) (seen_is t s m.tidy))
      (ap (λ (l : Shared). record l { objects = z.objects ++ Some y ∷ [] }) (seen_is 0 z m.alone.tidy)) (record {
        extends = more;
        mirrors = record {
          alone = record {
            role = m.alone.role;
            roles = m.alone.roles;
            free = m.alone.free;
            frames = m.alone.frames;
            one_thread = m.alone.one_thread;
            as_many_refs = m.alone.as_many_refs;
            as_many_objects = let many = m.alone.as_many_objects in omega (arith, long_too, numbered);
            tidy = record { owned = m.alone.tidy.owned; local = m.alone.tidy.local; framed = m.alone.tidy.framed };
            own = m.alone.own;
            have_objects = λ n. (ref_stays more (standing_at z.refs n) (m.alone.have_objects n)).1;
            have_elements = at_end (HasElements j) z.objects (Some y)
                (λ o. (object_stays more (standing_at z.objects o) (m.alone.have_elements o)).1)
                (object_stays more (Some y) has).1 tt;
          };
          tidy = record { owned = m.tidy.owned; local = m.tidy.local; framed = m.tidy.framed };
          refs = λ n small. m.refs n small ∙ sym (ref_stays more (standing_at z.refs n) (m.alone.have_objects n)).0;
          owners = m.owners;
          objects = push_number k.objects (length s.objects)
              (λ o w. standing_at (s.objects ++ Some x ∷ []) w ≡ object_as j (standing_at (z.objects ++ Some y ∷ []) o))
              (λ o small. get_or_append_left s.objects (Some x ∷ []) None (object_of k o) (m.objects_there o small)
              ∙ (m.objects o small ∙ (sym (object_stays more (standing_at z.objects o) (m.alone.have_elements o)).0
              ∙ ap (object_as j) (sym (get_or_append_left z.objects (Some y ∷ []) None o
              (let many = m.alone.as_many_objects in omega arith))))))
              (get_or_push s.objects (Some x) None (length s.objects) refl ∙ (sym is
              ∙ (sym (object_stays more (Some y) has).0
              ∙ ap (object_as j) (sym (get_or_push z.objects (Some y) None (length k.objects)
              m.alone.as_many_objects)))));
          frames = m.frames;
          refs_there = m.refs_there;
          objects_there = push_number k.objects (length s.objects) (λ o w. w < length (s.objects ++ Some x ∷ []))
              (λ o small. let there = m.objects_there o small in omega (arith, long)) (omega (arith, long));
          refs_differ = m.refs_differ;
          objects_differ = push_differ k.objects (length s.objects) m.objects_there m.objects_differ;
          fewer_slots = m.fewer_slots;
          fewer_objects = let few = m.fewer_objects in omega (arith, long, long_too);
          fewer_words = m.fewer_words;
          sits = m.sits;
          unbarred = m.unbarred;
        };
        untouched = record {
          more_refs = omega arith;
          refs = λ i lt other. refl;
          more_objects = omega (arith, long);
          objects = λ i lt other. get_or_append_left s.objects (Some x ∷ []) None i lt;
          owners = begin_itself s.owners;
          as_many_frames = refl;
          frames = λ w other. refl;
          as_many_roles = refl;
          roles = λ w other. refl;
          unbarred = m.unbarred t;
          tidy = record { owned = m.tidy.owned; local = m.tidy.local; framed = m.tidy.framed };
          more_slots = omega arith;
          more_words = omega arith;
        };
        spends = record { slots = omega arith; objects = omega (arith, long); words = omega arith };
        new_refs = λ i le lt. absurd (omega arith);
        counts = record { globals = refl; weaks = refl; live = omega (arith, stand, stand_too); used = refl };
        new_objects = push_new k.objects (length s.objects);
      })
    where
      j : Numbers
      j = with_object k s

      more : Extends k j
      more = record {
        refs = [];
        objects = length s.objects ∷ [];
        refs_are = sym (append-nil k.refs);
        objects_are = refl;
      }

      long : length (s.objects ++ Some x ∷ []) ≡ length s.objects + 1
      long = length-append s.objects (Some x ∷ [])

      long_too : length (z.objects ++ Some y ∷ []) ≡ length z.objects + 1
      long_too = length-append z.objects (Some y ∷ [])

      numbered : length (k.objects ++ length s.objects ∷ []) ≡ length k.objects + 1
      numbered = length-append k.objects (length s.objects ∷ [])

      stand : standing (s.objects ++ Some x ∷ []) ≡ standing s.objects + 1
      stand = how_many_both is_some s.objects (Some x ∷ [])

      stand_too : standing (z.objects ++ Some y ∷ []) ≡ standing z.objects + 1
      stand_too = how_many_both is_some z.objects (Some y ∷ [])

-- A REFERENCE of this kind to this object
abbrev pub with_ref : Numbers → Shared → Numbers
with_ref k s = record k { refs = k.refs ++ length s.refs ∷ [] }

abbrev pub ref_to : RefKind → ℕ → Option Ref
ref_to kind o = Some (record { kind = kind; object = Some o })

-- how many slots it takes
abbrev pub slot_of : RefKind → ℕ → ℕ
slot_of kind o = how_many has_no_owner (owner_if 0 (ref_to kind o) ∷ [])

abbrev grown : ℕ → Shared → Option Ref → List (List ℕ) → Shared
grown t s r frames = record s {
  refs = s.refs ++ r ∷ [];
  owners = s.owners ++ owner_if t r ∷ [];
  frames = slice_set s.frames t frames;
}

-- what a step leaves of it, with these frames
abbrev pub and_ref : ℕ → Shared → Option Ref → List (List ℕ) → Shared
and_ref t s r frames = as_left t s (record (as_seen t s) { refs = s.refs ++ r ∷ []; frames = frames })

grown_is : (t : ℕ) (s : Shared) (r : Option Ref) (f : List (List ℕ)) → Tidy s → and_ref t s r f ≡ grown t s r f
grown_is t s r f tidy = ap (λ (l : List (Option Ref)). record (grown t s r f) {
  owners = s.owners ++ map (owner_if t) l;
}) (drop_at s.refs (r ∷ []) (length s.owners) (sym tidy.owned))

-- a number more in the last frame
put_mapped : (f : ℕ → ℕ) (fs : List (List ℕ)) (n : ℕ) → map (map f) (put_last fs n) ≡ put_last (map (map f) fs) (f n)
put_mapped f [] n = refl
put_mapped f (x ∷ []) n = ap (λ l. l ∷ []) (map-append f x (n ∷ []))
put_mapped f (x ∷ y ∷ ys) n = ap (λ l. map f x ∷ l) (put_mapped f (y ∷ ys) n)

with_ref_extends : (k : Numbers) (s : Shared) → Extends k (with_ref k s)
with_ref_extends k s =
    record { refs = length s.refs ∷ []; objects = []; refs_are = refl; objects_are = sym (append-nil k.objects) }

module _ {t : ℕ} {k : Numbers} {s z : Shared} (m : Mirrors t k s z) where
  pub same_mirrored : frames_of s t ≡ map (map (ref_of (with_ref k s))) (frames_of z 0)
  same_mirrored = m.frames ∙ sym (frames_stay (with_ref_extends k s) (frames_of z 0) (framed_within m.alone))

  new_number : length s.refs ≡ ref_of (with_ref k s) (length z.refs)
  new_number = sym (get_or_push k.refs (length s.refs) 0 (length z.refs) (sym m.alone.as_many_refs))

  -- its word
  pub new_word : (r r' : Option Ref) → WordFor (with_ref k s) (length (s.refs ++ r ∷ [])) (length (z.refs ++ r' ∷ []))
  new_word r r' = (is ∙ (ap suc new_number ∙ ap (word_of (with_ref k s)) (sym is_alone)), small)
    where
      is : length (s.refs ++ r ∷ []) ≡ suc (length s.refs)
      is = let long = length-append s.refs (r ∷ []) in omega arith

      is_alone : length (z.refs ++ r' ∷ []) ≡ suc (length z.refs)
      is_alone = let long = length-append z.refs (r' ∷ []) in omega arith

      small : length (z.refs ++ r' ∷ []) ≤ length (k.refs ++ length s.refs ∷ [])
      small = let one = is_alone in let many = m.alone.as_many_refs in
          let long = length-append k.refs (length s.refs ∷ []) in omega arith

module _ {c : Config} {t : ℕ} {k : Numbers} {s z : Shared} (m : Mirrors t k s z) where
  pub ref_leaps : {q p : Asks} (kind : RefKind) (o : ℕ) (f g : List (List ℕ)) → o < length k.objects
      → Lays (as_seen t s) (record (as_seen t s) { refs = s.refs ++ ref_to kind (object_of k o) ∷ []; frames = f })
      → Lays (as_seen 0 z) (record (as_seen 0 z) { refs = z.refs ++ ref_to kind o ∷ []; frames = g })
      → f ≡ map (map (ref_of (with_ref k s))) g
      → slot_of kind o + p.slots ≤ q.slots → p.objects ≤ q.objects → p.words ≤ q.words
      → Leaps c t k q s z (and_ref t s (ref_to kind (object_of k o)) f) (with_ref k s) p
      (and_ref 0 z (ref_to kind o) g)
  ref_leaps kind o f g there lays lays_too framed slots objects words = leaps_to here far (record {
    extends = more;
    mirrors = record {
      alone = record {
        role = m.alone.role;
        roles = m.alone.roles;
        free = m.alone.free;
        frames = g;
        one_thread = ap (λ l. slice_set l 0 g) m.alone.one_thread;
        as_many_refs = let many = m.alone.as_many_refs in omega (arith, long_too, numbered);
        as_many_objects = m.alone.as_many_objects;
        tidy = subst Tidy far (tidy_left 0 z _ m.alone.tidy lays_too);
        own = λ n u. at_end (λ x. x ≡ Some u → u ≡ 0) z.owners (owner_if 0 r') (λ i. m.alone.own i u)
            (own_new u (same_kind Local kind)) (λ bad. absurd cc) n;
        have_objects = at_end (HasObject j) z.refs r'
            (λ n. (ref_stays more (standing_at z.refs n) (m.alone.have_objects n)).1) there tt;
        have_elements = λ i. (object_stays more (standing_at z.objects i) (m.alone.have_elements i)).1;
      };
      tidy = tidy;
      refs = push_number k.refs (length s.refs)
          (λ n w. standing_at (s.refs ++ r ∷ []) w ≡ ref_in j (standing_at (z.refs ++ r' ∷ []) n))
          (λ n small. get_or_append_left s.refs (r ∷ []) None (ref_of k n) (m.refs_there n small)
          ∙ (m.refs n small ∙ (sym (ref_stays more (standing_at z.refs n) (m.alone.have_objects n)).0
          ∙ ap (ref_in j) (sym (get_or_append_left z.refs (r' ∷ []) None n
          (let many = m.alone.as_many_refs in omega arith))))))
          (get_or_push s.refs r None (length s.refs) refl
          ∙ ap (ref_in j) (sym (get_or_push z.refs r' None (length k.refs) m.alone.as_many_refs)));
      owners = push_number k.refs (length s.refs)
          (λ n w. slice_index_or (s.owners ++ owner_if t r ∷ []) w None
          ≡ owner_in t (slice_index_or (z.owners ++ owner_if 0 r' ∷ []) n None))
          (λ n small. get_or_append_left s.owners (owner_if t r ∷ []) None (ref_of k n)
          (let low = m.refs_there n small in let owned = m.tidy.owned in omega arith)
          ∙ (m.owners n small ∙ ap (owner_in t) (sym (get_or_append_left z.owners (owner_if 0 r' ∷ []) None n
          (let many = m.alone.as_many_refs in let owned = m.alone.tidy.owned in omega arith)))))
          (get_or_push s.owners (owner_if t r) None (length s.refs) m.tidy.owned
          ∙ (owner_new (same_kind Local kind) ∙ ap (owner_in t) (sym (get_or_push z.owners (owner_if 0 r') None
          (length k.refs) (m.alone.tidy.owned ∙ m.alone.as_many_refs)))));
      objects = λ i small.
          m.objects i small ∙ sym (object_stays more (standing_at z.objects i) (m.alone.have_elements i)).0;
      frames = get_or-set_same s.frames t f [] m.sits.0 ∙ (framed ∙ ap (map (map (ref_of j)))
          (sym (get_or-set_same z.frames 0 g []
          (let one : length z.frames ≡ 1 = ap length m.alone.one_thread in omega arith))));
      refs_there = push_number k.refs (length s.refs) (λ n w. w < length (s.refs ++ r ∷ []))
          (λ n small. let low = m.refs_there n small in omega (arith, long)) (omega (arith, long));
      objects_there = m.objects_there;
      refs_differ = push_differ k.refs (length s.refs) m.refs_there m.refs_differ;
      objects_differ = m.objects_differ;
      fewer_slots = let few = m.fewer_slots in omega (arith, made, made_too);
      fewer_objects = m.fewer_objects;
      fewer_words = m.fewer_words;
      sits = (subst (λ l. t < l) (sym (length-set s.frames t f)) m.sits.0, m.sits.1);
      unbarred = m.unbarred;
    };
    untouched = record {
      more_refs = omega (arith, long);
      refs = λ i lt other. get_or_append_left s.refs (r ∷ []) None i lt;
      more_objects = omega arith;
      objects = λ i lt other. refl;
      owners = (owner_if t r ∷ [], refl);
      as_many_frames = length-set s.frames t f;
      frames = λ w other. get_or-set_other s.frames t w f [] other;
      as_many_roles = refl;
      roles = λ w other. refl;
      unbarred = m.unbarred t;
      tidy = tidy;
      more_slots = omega (arith, made);
      more_words = omega arith;
    };
    spends = record { slots = omega (arith, made); objects = omega arith; words = omega arith };
    new_refs = push_new k.refs (length s.refs);
    counts = record { globals = as_many Global; weaks = as_many Weak; live = refl; used = refl };
    new_objects = λ i le lt. absurd (omega arith);
  })
    where
      j : Numbers
      j = with_ref k s

      more : Extends k j
      more = with_ref_extends k s

      r : Option Ref
      r = ref_to kind (object_of k o)

      r' : Option Ref
      r' = ref_to kind o

      here : and_ref t s r f ≡ grown t s r f
      here = grown_is t s r f m.tidy

      far : and_ref 0 z r' g ≡ grown 0 z r' g
      far = grown_is 0 z r' g m.alone.tidy

      tidy : Tidy (grown t s r f)
      tidy = subst Tidy here (tidy_left t s _ m.tidy lays)

      own_new : (u : ℕ) (b : Bool) → cond b (Some 0) None ≡ Some u → u ≡ 0
      own_new u true e = let same : 0 ≡ u = cc in sym same
      own_new u false e = absurd cc

      owner_new : (b : Bool) → ◌≡◌ {A = Option ℕ} (cond b (Some t) None) (owner_in t (cond b (Some 0) None))
      owner_new true = refl
      owner_new false = refl

      long : length (s.refs ++ r ∷ []) ≡ length s.refs + 1
      long = length-append s.refs (r ∷ [])

      long_too : length (z.refs ++ r' ∷ []) ≡ length z.refs + 1
      long_too = length-append z.refs (r' ∷ [])

      numbered : length (k.refs ++ length s.refs ∷ []) ≡ length k.refs + 1
      numbered = length-append k.refs (length s.refs ∷ [])

      one : (b : Bool) → how_many has_no_owner (cond b (Some t) None ∷ [])
          ≡ how_many has_no_owner (cond b (Some 0) None ∷ [])
      one true = refl
      one false = refl

      made : made_slots (grown t s r f) ≡ made_slots s + slot_of kind o
      made = how_many_both has_no_owner s.owners (owner_if t r ∷ [])
          ∙ ap (λ n. made_slots s + n) (one (same_kind Local kind))

      made_too : made_slots (grown 0 z r' g) ≡ made_slots z + slot_of kind o
      made_too = how_many_both has_no_owner z.owners (owner_if 0 r' ∷ [])

      as_many : (of : RefKind) → how_many (is_ref_of of) (s.refs ++ r ∷ []) + how_many (is_ref_of of) z.refs
          ≡ how_many (is_ref_of of) s.refs + how_many (is_ref_of of) (z.refs ++ r' ∷ [])
      as_many of =
          let a = how_many_both (is_ref_of of) s.refs (r ∷ []) in
          let b = how_many_both (is_ref_of of) z.refs (r' ∷ []) in
          let e = same (same_kind of kind) in
          omega arith
        where
          same : (b : Bool) → length (cond b (r ∷ []) []) ≡ length (cond b (r' ∷ []) [])
          same true = refl
          same false = refl

  -- a local one, in the last frame
  pub added_leaps : {q p : Asks} (o : ℕ) → o < length k.objects
      → p.slots ≤ q.slots → p.objects ≤ q.objects → p.words ≤ q.words
      → Leaps c t k q s z (as_left t s (added (object_of k o) (as_seen t s)).1) (with_ref k s) p
      (as_left 0 z (added o (as_seen 0 z)).1)
  added_leaps o there slots objects words = ref_leaps Local o (put_last (frames_of s t) (length s.refs))
      (put_last (frames_of z 0) (length z.refs)) there ((added_blind (object_of k o)).lays (as_seen t s))
      ((added_blind o).lays (as_seen 0 z)) ((λ i. put_last (same_mirrored m i) (new_number m i))
      ∙ sym (put_mapped (ref_of (with_ref k s)) (frames_of z 0) (length z.refs)))
      (let none : slot_of Local o ≡ 0 = refl in omega (arith, none)) objects words
