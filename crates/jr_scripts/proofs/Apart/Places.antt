-- STEPS THAT CHANGE REFERENCES AND FRAMES, among others and alone.
use Rattle.std.proofs.Common.{◌≡◌, ◌<◌, ◌+◌, ◌==◌, ◌++◌, ℕ, zero, suc, false, true, Bool, cond, not, Option, Some, None}
use Rattle.std.proofs.Common.{Result, Ok, Err, List, [], ◌∷◌, length, map, drop, slice_index_or, slice_set, nat_lt}
use Rattle.std.proofs.Common.{nat_le, refl, sym, ap, subst, ◌∙◌, arith, ⊎_elim}
use Rattle.std.proofs.lemmas.Bool.{cases_eq}
use Rattle.std.specs.List.{AllByRecursion, filter, fold, sum_by}
use Rattle.std.proofs.lemmas.List.{append-nil, drop_all, get_or-set_other, get_or-set_same, length-map, length-set}
use Rattle.std.proofs.lemmas.List.{map-append}
use Rattle.jr_word.specs.declared.config.Config.{Config}
use Rattle.jr_word.specs.declared.fault.Fault.{Fault}
use Rattle.jr_word.specs.declared.fault.Fault.TheVariants.{LocalsFull, Stale}
use Rattle.jr_word.specs.declared.handle.RefKind.{RefKind}
use Rattle.jr_word.specs.declared.handle.RefKind.TheVariants.{Global, Weak}
use Rattle.jr_model.specs.declared.frames.TheConstants.{FRAMES}
use Rattle.jr_model.proofs.Updates.{eq_self, eq_true, eq_false, eq_other}
use Rattle.jr_world.specs.World.{Ref, World, delete, held, how_many, Meaning, change, goes_on, is_ref_of, object_in}
use Rattle.jr_world.specs.World.{push, refused_if, removed, standing_at, type_in, type_meant}
use Rattle.jr_world.specs.Doing.{Shared, as_left, as_seen, is_anothers, is_foreign_to, owner_if}
use Rattle.one_order.proofs.Lists.{all_append}
use Rattle.jr_scripts.proofs.OneRow.Alike.{Tidy, begin_itself, frames_of, owner_of}
use Rattle.jr_scripts.proofs.OneRow.Blind.{Blind, Lays, frames_blind, removed_blind, set_has, tidy_left}
use Rattle.jr_scripts.proofs.Apart.Grown.{framed_within, leaps_to, looks_on}
use Rattle.jr_scripts.proofs.Apart.Leads.{Leaps, ResultFor}
use Rattle.jr_scripts.proofs.Apart.Mirrors.{Asks, HasObject, Mirrors, owner_in}
use Rattle.jr_scripts.proofs.Apart.Numbers.{HasWord, Numbers, extends_itself, ref_in, ref_of, word_of}

abbrev pub AllIn : (ℕ → Type 0) → List (List ℕ) → Type 0
AllIn P fs = AllByRecursion (AllByRecursion P) fs

-- A STEP IN PLACE: references change, and frames
record Puts (t : ℕ) (k : Numbers) (s z : Shared) (rs ps : List (Option Ref)) (fs gs : List (List ℕ)) : Type 0 where
  as_many : length rs ≡ length s.refs
  as_many_alone : length ps ≡ length z.refs
  refs : (n : ℕ) → n < length k.refs → standing_at rs (ref_of k n) ≡ ref_in k (standing_at ps n)
  frames : fs ≡ map (map (ref_of k)) gs
  have_objects : (n : ℕ) → HasObject k (standing_at ps n)
  rest : (n : ℕ) → ((m : ℕ) → m < length k.refs → ref_of k m ≡ n → ⊥) → standing_at rs n ≡ standing_at s.refs n
  counts : (l : RefKind) → how_many (is_ref_of l) rs + how_many (is_ref_of l) z.refs
      ≡ how_many (is_ref_of l) s.refs + how_many (is_ref_of l) ps

abbrev put_in : ℕ → Shared → List (Option Ref) → List (List ℕ) → Shared
put_in t s rs fs = record s { refs = rs; frames = slice_set s.frames t fs }

abbrev world_of : Shared → List (Option Ref) → List (List ℕ) → World
world_of s rs fs = record { objects = s.objects; refs = rs; frames = fs; used = s.used }

-- what is left where no reference came
put_is : (t : ℕ) (s : Shared) (rs : List (Option Ref)) (fs : List (List ℕ)) → length rs ≡ length s.refs → Tidy s
    → as_left t s (world_of s rs fs) ≡ put_in t s rs fs
put_is t s rs fs many tidy = λ i. record (put_in t s rs fs) { owners = owners i }
  where
    owners : s.owners ++ map (owner_if t) (drop (length s.owners) rs) ≡ s.owners
    owners = ap (λ l. s.owners ++ map (owner_if t) l)
        (drop_all (length s.owners) rs (let owned = tidy.owned in omega arith)) ∙ append-nil s.owners

module _ {c : Config} {t : ℕ} {k : Numbers} {s z : Shared} (m : Mirrors t k s z) where
  put_leaps : {q : Asks} (rs ps : List (Option Ref)) (fs gs : List (List ℕ)) → Puts t k s z rs ps fs gs
      → Lays (as_seen t s) (world_of s rs fs) → Lays (as_seen 0 z) (world_of z ps gs)
      → Leaps c t k q s z (as_left t s (world_of s rs fs)) k q (as_left 0 z (world_of z ps gs))
  put_leaps rs ps fs gs puts lays lays_alone = leaps_to is is_alone (record {
    extends = extends_itself k;
    mirrors = record {
      alone = record {
        role = m.alone.role;
        roles = m.alone.roles;
        free = m.alone.free;
        frames = gs;
        one_thread = one;
        as_many_refs = puts.as_many_alone ∙ m.alone.as_many_refs;
        as_many_objects = m.alone.as_many_objects;
        tidy = subst Tidy is_alone (tidy_left 0 z (world_of z ps gs) m.alone.tidy lays_alone);
        own = m.alone.own;
        have_objects = puts.have_objects;
        have_elements = m.alone.have_elements;
      };
      tidy = tidy;
      refs = puts.refs;
      owners = m.owners;
      objects = m.objects;
      frames = get_or-set_same s.frames t fs [] m.sits.0 ∙ puts.frames
          ∙ ap (map (map (ref_of k))) (sym (ap (λ l. slice_index_or l 0 []) one));
      refs_there = λ n small. let there = m.refs_there n small in let many = puts.as_many in omega arith;
      objects_there = m.objects_there;
      refs_differ = m.refs_differ;
      objects_differ = m.objects_differ;
      fewer_slots = m.fewer_slots;
      fewer_objects = m.fewer_objects;
      fewer_words = m.fewer_words;
      sits = (let sits = m.sits.0 in let long = length-set s.frames t fs in omega arith, m.sits.1);
      unbarred = m.unbarred;
    };
    untouched = record {
      more_refs = let many = puts.as_many in omega arith;
      refs = λ n small no. puts.rest n no;
      more_objects = omega arith;
      objects = λ o small no. refl;
      owners = begin_itself s.owners;
      as_many_frames = length-set s.frames t fs;
      frames = λ v other. get_or-set_other s.frames t v fs [] other;
      as_many_roles = refl;
      roles = λ v other. refl;
      unbarred = m.unbarred t;
      tidy = tidy;
      more_slots = omega arith;
      more_words = omega arith;
    };
    spends = record { slots = omega arith; objects = omega arith; words = omega arith };
    new_refs = λ n new old. absurd (omega arith);
    counts = record { globals = puts.counts Global; weaks = puts.counts Weak; live = refl; used = refl };
    new_objects = λ n new old. absurd (omega arith);
  })
    where
      is : as_left t s (world_of s rs fs) ≡ put_in t s rs fs
      is = put_is t s rs fs puts.as_many m.tidy

      is_alone : as_left 0 z (world_of z ps gs) ≡ put_in 0 z ps gs
      is_alone = put_is 0 z ps gs puts.as_many_alone m.alone.tidy

      tidy : Tidy (put_in t s rs fs)
      tidy = subst Tidy is (tidy_left t s (world_of s rs fs) m.tidy lays)

      one : slice_set z.frames 0 gs ≡ gs ∷ []
      one = ap (λ l. slice_set l 0 gs) m.alone.one_thread

  -- frames change alike
  pub framed_steps : {q : Asks} (fs gs : List (List ℕ)) → fs ≡ map (map (ref_of k)) gs
      → Lays (as_seen t s) (world_of s s.refs fs) → Lays (as_seen 0 z) (world_of z z.refs gs)
      → Leaps c t k q s z (as_left t s (world_of s s.refs fs)) k q (as_left 0 z (world_of z z.refs gs))
  framed_steps fs gs frames lays lays_alone = put_leaps s.refs z.refs fs gs (record {
    as_many = refl;
    as_many_alone = refl;
    refs = m.refs;
    frames = frames;
    have_objects = m.alone.have_objects;
    rest = λ n no. refl;
    counts = λ l. refl;
  }) lays lays_alone

-- a reference is no other thread's
pub own_is : {t : ℕ} {k : Numbers} {s z : Shared} → Mirrors t k s z → (w : ℕ) → HasWord k w
    → (is_foreign_to t s (word_of k w) ≡ false) × (is_foreign_to 0 z w ≡ false)
own_is m zero has = (refl, refl)
own_is {t} {k} {s} {z} m (suc n) has = (
  ap (is_anothers t) (m.owners n (omega arith)) ∙ there (owner_of z n),
  here (owner_of z n) (m.alone.own n),
)
  where
    there : (o : Option ℕ) → is_anothers t (owner_in t o) ≡ false
    there None = refl
    there (Some u) = ap not (eq_self t)

    here : (o : Option ℕ) → ((u : ℕ) → o ≡ Some u → u ≡ 0) → is_anothers 0 o ≡ false
    here None own = refl
    here (Some u) own = ap (λ v. not (v == 0)) (own u refl)

-- with one given up, fewer stand
abbrev bit_of : Bool → ℕ
bit_of b = cond b 1 0

with_first : {X : Type 0} (p : X → Bool) (x : X) (xs : List X) → how_many p (x ∷ xs) ≡ bit_of (p x) + how_many p xs
with_first p x xs = go (p x)
  where
    go : (b : Bool) → length (cond b (x ∷ filter p xs) (filter p xs)) ≡ bit_of b + how_many p xs
    go true = omega arith
    go false = omega arith

count_set : {X : Type 0} (p : Option X → Bool) → p None ≡ false → (xs : List (Option X)) (n : ℕ)
    → how_many p (slice_set xs n None) + bit_of (p (standing_at xs n)) ≡ how_many p xs
count_set p none [] n = ap (λ b. 0 + bit_of b) none
count_set p none (x ∷ xs) zero = let a = with_first p None xs in let b = with_first p x xs in
    let z : bit_of (p None) ≡ 0 = ap bit_of none in omega arith
count_set p none (x ∷ xs) (suc n) = let a = with_first p x (slice_set xs n None) in let b = with_first p x xs in
    let rest = count_set p none xs n in omega arith

filter_alike : (k : Numbers) (n : ℕ) → ((m : ℕ) → m < length k.refs → ref_of k m ≡ ref_of k n → m ≡ n)
    → (f : List ℕ)
    → AllByRecursion (λ m. m < length k.refs) f → filter (λ m. not (m == ref_of k n)) (map (ref_of k) f)
    ≡ map (ref_of k) (filter (λ m. not (m == n)) f)
filter_alike k n differ [] all = refl
filter_alike k n differ (m ∷ ms) all = go (m == n) refl (filter_alike k n differ ms all.1)
  where
    is : (b : Bool) → (m == n) ≡ b → (ref_of k m == ref_of k n) ≡ b
    is true e = ap (λ l. ref_of k l == ref_of k n) (eq_true m n e) ∙ eq_self (ref_of k n)
    is false e = eq_other (ref_of k m) (ref_of k n) (λ bad. eq_false m n e (differ m all.0 bad))

    go : (b : Bool) → (m == n) ≡ b → filter (λ m. not (m == ref_of k n)) (map (ref_of k) ms)
        ≡ map (ref_of k) (filter (λ m. not (m == n)) ms)
        → filter (λ m. not (m == ref_of k n)) (map (ref_of k) (m ∷ ms))
        ≡ map (ref_of k) (filter (λ m. not (m == n)) (m ∷ ms))
    go b e rest = ap (λ d. cond (not d) (ref_of k m ∷ filter (λ m. not (m == ref_of k n)) (map (ref_of k) ms))
        (filter (λ m. not (m == ref_of k n)) (map (ref_of k) ms))) (is b e) ∙ (rest_of b rest
        ∙ ap (λ d. map (ref_of k) (cond (not d) (m ∷ filter (λ m. not (m == n)) ms) (filter (λ m. not (m == n)) ms)))
        (sym e))
      where
        rest_of : (b : Bool) → filter (λ m. not (m == ref_of k n)) (map (ref_of k) ms)
            ≡ map (ref_of k) (filter (λ m. not (m == n)) ms)
            → cond (not b) (ref_of k m ∷ filter (λ m. not (m == ref_of k n)) (map (ref_of k) ms))
            (filter (λ m. not (m == ref_of k n)) (map (ref_of k) ms))
            ≡ map (ref_of k) (cond (not b) (m ∷ filter (λ m. not (m == n)) ms) (filter (λ m. not (m == n)) ms))
        rest_of true rest = rest
        rest_of false rest = ap (λ l. ref_of k m ∷ l) rest

filters_alike : (k : Numbers) (n : ℕ) → ((m : ℕ) → m < length k.refs → ref_of k m ≡ ref_of k n → m ≡ n)
    → (fs : List (List ℕ)) → AllIn (λ m. m < length k.refs) fs
    → map (filter (λ m. not (m == ref_of k n))) (map (map (ref_of k)) fs)
    ≡ map (map (ref_of k)) (map (filter (λ m. not (m == n))) fs)
filters_alike k n differ [] all = refl
filters_alike k n differ (f ∷ fs) all =
    λ i. filter_alike k n differ f all.0 i ∷ filters_alike k n differ fs all.1 i

held_alike : (f : ℕ → ℕ) (n : ℕ) (fs : List (List ℕ))
    → fold (λ a x. a + length x) n (map (map f) fs) ≡ fold (λ a x. a + length x) n fs
held_alike f n [] = refl
held_alike f n (g ∷ gs) = ap (λ m. fold (λ a x. a + length x) m (map (map f) gs)) (ap (λ l. n + l) (length-map g f))
    ∙ held_alike f (n + length g) gs

pub held_is : {t : ℕ} {k : Numbers} {s z : Shared} → Mirrors t k s z → held (as_seen t s) ≡ held (as_seen 0 z)
held_is {k = k} {z = z} m = ap (sum_by length) m.frames ∙ held_alike (ref_of k) 0 (frames_of z 0)

module _ {c : Config} {t : ℕ} {k : Numbers} {s z : Shared} (m : Mirrors t k s z) where
  -- a reference is given up
  pub removed_steps : {q : Asks} (n : ℕ) → n < length k.refs → Leaps c t k q s z
      (as_left t s (removed (ref_of k n) (as_seen t s))) k q (as_left 0 z (removed n (as_seen 0 z)))
  removed_steps n small = put_leaps m (slice_set s.refs (ref_of k n) None) (slice_set z.refs n None)
      (map (filter (λ l. not (l == ref_of k n))) (frames_of s t)) (map (filter (λ l. not (l == n))) (frames_of z 0))
      (record {
        as_many = length-set s.refs (ref_of k n) None;
        as_many_alone = length-set z.refs n None;
        refs = refs;
        frames = ap (map (filter (λ l. not (l == ref_of k n)))) m.frames
            ∙ filters_alike k n (λ l less e. m.refs_differ l n less small e) (frames_of z 0)
            (framed_within m.alone);
        have_objects = λ l. set_has (HasObject k) z.refs n l None None tt (m.alone.have_objects l);
        rest = λ l no. get_or-set_other s.refs (ref_of k n) l None None (λ e. no n small (sym e));
        counts = counts;
      }) ((removed_blind (ref_of k n)).lays (as_seen t s)) ((removed_blind n).lays (as_seen 0 z))
    where
      refs : (l : ℕ) → l < length k.refs → standing_at (slice_set s.refs (ref_of k n) None) (ref_of k l)
          ≡ ref_in k (standing_at (slice_set z.refs n None) l)
      refs l less = ⊎_elim (λ (e : l ≡ n). subst (λ x. standing_at (slice_set s.refs (ref_of k n) None) (ref_of k x)
          ≡ ref_in k (standing_at (slice_set z.refs n None) x)) (sym e)
          (get_or-set_same s.refs (ref_of k n) None None (m.refs_there n small)
          ∙ ap (ref_in k) (sym (get_or-set_same z.refs n None None
          (let many = m.alone.as_many_refs in omega arith)))))
          (λ (other : l ≡ n → ⊥). get_or-set_other s.refs (ref_of k n) (ref_of k l) None None
          (λ e. other (m.refs_differ l n less small e)) ∙ m.refs l less
          ∙ ap (ref_in k) (sym (get_or-set_other z.refs n l None None other))) (cases_eq l n)

      counts : (l : RefKind) → how_many (is_ref_of l) (slice_set s.refs (ref_of k n) None)
          + how_many (is_ref_of l) z.refs ≡ how_many (is_ref_of l) s.refs
          + how_many (is_ref_of l) (slice_set z.refs n None)
      counts l = let a = count_set (is_ref_of l) refl s.refs (ref_of k n) in
          let b = count_set (is_ref_of l) refl z.refs n in
          let same : bit_of (is_ref_of l (standing_at s.refs (ref_of k n)))
          ≡ bit_of (is_ref_of l (standing_at z.refs n))
          = ap (λ x. bit_of (is_ref_of l x)) (m.refs n small) ∙ ap bit_of (of_kind (standing_at z.refs n)) in
          omega arith
        where
          of_kind : (x : Option Ref) → is_ref_of l (ref_in k x) ≡ is_ref_of l x
          of_kind None = refl
          of_kind (Some r) = refl

module _ (c : Config) {t : ℕ} {k : Numbers} (q : Asks) {s z : Shared} (m : Mirrors t k s z) where
  -- what a meaning does in both
  abbrev pub Alike : {A : Type 0} → Result A Fault × World → Result A Fault × World → Type 0
  Alike x y = Leaps c t k q s z (as_left t s x.1) k q (as_left 0 z y.1) × ResultFor (λ x y. x ≡ y) x.0 y.0

  -- a refusal in both, or neither
  unless_alike : (b d : Bool) → b ≡ d → (e : Fault) (f g : Meaning (Unit {0}))
      → Alike (f (as_seen t s)) (g (as_seen 0 z))
      → Alike (goes_on (λ v. f) (refused_if b e, as_seen t s)) (goes_on (λ v. g) (refused_if d e, as_seen 0 z))
  unless_alike true true is e f g both = (looks_on m, refl)
  unless_alike false false is e f g both = both
  unless_alike true false is e f g both = absurd cc
  unless_alike false true is e f g both = absurd cc

  pub delete_steps : (w : ℕ) → HasWord k w
      → Alike (delete (word_of k w) (as_seen t s)) (delete w (as_seen 0 z))
  delete_steps zero has = (looks_on m, refl)
  delete_steps (suc n) has = go (standing_at s.refs (ref_of k n)) (standing_at z.refs n) (m.refs n (omega arith))
    where
      go : (x y : Option Ref) → x ≡ ref_in k y
          → Alike (goes_on (λ v. change (removed (ref_of k n))) (object_in x, as_seen t s))
          (goes_on (λ v. change (removed n)) (object_in y, as_seen 0 z))
      go x None is = subst (λ x. Alike (goes_on (λ v. change (removed (ref_of k n))) (object_in x, as_seen t s))
          (Err Stale, as_seen 0 z)) (sym is) (looks_on m, refl)
      go x (Some r) is = subst (λ x. Alike (goes_on (λ v. change (removed (ref_of k n))) (object_in x, as_seen t s))
          (Ok tt, removed n (as_seen 0 z))) (sym is) (removed_steps m n (omega arith), refl)

  pub type_steps : (w : ℕ) → HasWord k w
      → Alike (type_meant (word_of k w) (as_seen t s)) (type_meant w (as_seen 0 z))
  type_steps zero has = (looks_on m, refl)
  type_steps (suc n) has = (looks_on m, ap type_in (m.refs n (omega arith)) ∙ go (standing_at z.refs n))
    where
      go : (x : Option Ref) → type_in (ref_in k x) ≡ type_in x
      go None = refl
      go (Some r) = refl

  pub push_steps : (n : ℕ) → Alike (push c n (as_seen t s)) (push c n (as_seen 0 z))
  push_steps n = unless_alike _ _
      (ap (nat_le FRAMES) (ap length m.frames ∙ length-map (frames_of z 0) (map (ref_of k))))
      LocalsFull _ _ (unless_alike _ _ (ap (λ h. nat_lt c.locals (h + n)) (held_is m)) LocalsFull _ _ (
        framed_steps m (frames_of s t ++ [] ∷ []) (frames_of z 0 ++ [] ∷ [])
            (ap (λ l. l ++ [] ∷ []) m.frames ∙ sym (map-append (map (ref_of k)) (frames_of z 0) ([] ∷ [])))
            (more.lays (as_seen t s)) (more.lays (as_seen 0 z)),
        refl,
      ))
    where
      more : Blind (change (λ w. record w { frames = w.frames ++ [] ∷ [] }))
      more = frames_blind (λ fs. fs ++ [] ∷ []) (λ Q fs all. all_append _ fs ([] ∷ []) all (tt, tt))
