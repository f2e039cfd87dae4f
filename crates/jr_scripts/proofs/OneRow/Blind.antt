-- MEANINGS THAT DO THE SAME in worlds that differ only in hidden references, which are others' local ones.
use Rattle.std.proofs.Common.{◌≡◌, ◌<◌, ◌≤◌, ◌+◌, ◌-◌, ◌==◌, ◌++◌, ◌∙◌, ℕ, zero, suc, Bool, true, false, cond, not}
use Rattle.std.proofs.Common.{nat_lt, nat_le, Option, Some, None, Result, Ok, Err, List, [], ◌∷◌, length, map, filter}
use Rattle.std.proofs.Common.{sum_by, drop, slice_index_or, slice_set, refl, sym, ap, subst, ⊎_elim, arith}
use Rattle.std.specs.List.{AllByRecursion}
use Rattle.std.proofs.lemmas.Bool.{cases_eq, cases_lt}
use Rattle.std.proofs.lemmas.List.{ext_get_or, get_or-drop, get_or-set_other, get_or_append_left, get_or_past}
use Rattle.std.proofs.lemmas.List.{get_or_push, length-append, length-drop, length-map, length-set}
use Rattle.jr_word.specs.declared.config.Config.{Config}
use Rattle.jr_word.specs.declared.fault.Fault.{Fault}
use Rattle.jr_word.specs.declared.fault.Fault.TheVariants.{LocalsFull, ObjectsFull, SpaceFull}
use Rattle.jr_word.specs.declared.handle.RefKind.{RefKind}
use Rattle.jr_word.specs.declared.handle.RefKind.TheVariants.{Local, Global, Weak}
use Rattle.jr_word.specs.declared.kind.Kind.{Kind}
use Rattle.jr_model.specs.declared.frames.TheConstants.{FRAMES}
use Rattle.jr_model.specs.State.{Contents, same_kind}
use Rattle.jr_model.proofs.Updates.{eq_true, kind_true}
use Rattle.jr_world.specs.World.{Meaning, Ref, World, added, change, contents_in, delete, done, found, goes_on, held}
use Rattle.jr_world.specs.World.{new_local, new_object, new_ref, object, object_in, push, put_last, refused_if, removed}
use Rattle.jr_world.specs.World.{reserve, rewrites, room_for, standing, standing_at, type_in, type_meant, ◌>>=◌}
use Rattle.jr_world.specs.Doing.{Shared, as_left, as_seen, in_row, is_anothers, is_foreign_to, noted, over_world}
use Rattle.jr_world.specs.Doing.{owner_if}
use Rattle.one_order.proofs.Lists.{all_append, all_choice, all_map, all_weaker}
use Rattle.jr_scripts.proofs.OneRow.Alike.{Alike, IsLocal, Kept, Tidy, frames_of, is_of, owner_of, same_refs_of}

-- TWO WORLDS as a thread sees them, for which these references are hidden
pub record Views (hidden : ℕ → Bool) (w v : World) : Type 0 where
  pub objects : w.objects ≡ v.objects
  pub used : w.used ≡ v.used
  pub frames : w.frames ≡ v.frames
  pub as_many : length w.refs ≡ length v.refs
  pub refs : (n : ℕ) → hidden n ≡ false → standing_at w.refs n ≡ standing_at v.refs n
  pub locals : (n : ℕ) → hidden n ≡ true → IsLocal (standing_at w.refs n) × IsLocal (standing_at v.refs n)
  pub bound : (n : ℕ) → hidden n ≡ true → n < length w.refs

abbrev pub IsNewLocal : Option Ref → Type 0
IsNewLocal None = ⊥
IsNewLocal (Some r) = r.kind ≡ Local

-- WHAT A MEANING DOES to references and frames: none goes; a local one stays local; what comes in a frame is a new
-- local one
pub record Lays (w w' : World) : Type 1 where
  pub grows : length w.refs ≤ length w'.refs
  pub kinds : (n : ℕ) → n < length w.refs → IsLocal (standing_at w.refs n) → IsLocal (standing_at w'.refs n)
  pub framed : (Q : ℕ → Type 0) → AllByRecursion (AllByRecursion Q) w.frames
      → ((n : ℕ) → length w.refs ≤ n → IsNewLocal (standing_at w'.refs n) → Q n)
      → AllByRecursion (AllByRecursion Q) w'.frames

pub record Blind {A : Type 0} (m : Meaning A) : Type 1 where
  pub so : (hidden : ℕ → Bool) (w v : World) → Views hidden w v → ((m w).0 ≡ (m v).0) × Views hidden (m w).1 (m v).1
  pub lays : (w : World) → Lays w (m w).1

-- LISTS

-- with the same at one place
pub same_set : {X : Type 0} (xs ys : List X) → length xs ≡ length ys → (n m : ℕ) (a d : X)
    → slice_index_or xs m d ≡ slice_index_or ys m d
    → slice_index_or (slice_set xs n a) m d ≡ slice_index_or (slice_set ys n a) m d
same_set [] [] long n m a d same = refl
same_set [] (y ∷ ys) long n m a d same = absurd (omega arith)
same_set (x ∷ xs) [] long n m a d same = absurd (omega arith)
same_set (x ∷ xs) (y ∷ ys) long zero zero a d same = refl
same_set (x ∷ xs) (y ∷ ys) long zero (suc m) a d same = same
same_set (x ∷ xs) (y ∷ ys) long (suc n) zero a d same = same
same_set (x ∷ xs) (y ∷ ys) long (suc n) (suc m) a d same = same_set xs ys (omega arith) n m a d same

pub set_has : {X : Type 0} (P : X → Type 0) (xs : List X) (n m : ℕ) (a d : X) → P a → P (slice_index_or xs m d)
    → P (slice_index_or (slice_set xs n a) m d)
set_has P [] n m a d new old = old
set_has P (x ∷ xs) zero zero a d new old = new
set_has P (x ∷ xs) zero (suc m) a d new old = old
set_has P (x ∷ xs) (suc n) zero a d new old = old
set_has P (x ∷ xs) (suc n) (suc m) a d new old = set_has P xs n m a d new old

-- with the same behind them
same_more : {X : Type 0} (xs ys : List X) → length xs ≡ length ys → (more : List X) (m : ℕ) (d : X)
    → slice_index_or xs m d ≡ slice_index_or ys m d → slice_index_or (xs ++ more) m d ≡ slice_index_or (ys ++ more) m d
same_more [] [] long more m d same = refl
same_more [] (y ∷ ys) long more m d same = absurd (omega arith)
same_more (x ∷ xs) [] long more m d same = absurd (omega arith)
same_more (x ∷ xs) (y ∷ ys) long more zero d same = same
same_more (x ∷ xs) (y ∷ ys) long more (suc m) d same = same_more xs ys (omega arith) more m d same

-- the same from here on
same_from : {X : Type 0} (d : X) (n : ℕ) (xs ys : List X) → length xs ≡ length ys
    → ((m : ℕ) → n ≤ m → slice_index_or xs m d ≡ slice_index_or ys m d) → drop n xs ≡ drop n ys
same_from d n xs ys long same =
    ext_get_or d (drop n xs) (drop n ys) (length-drop n xs ∙ ap (λ k. k - n) long ∙ sym (length-drop n ys))
    (λ i lt. get_or-drop n xs i d ∙ same (n + i) (omega arith) ∙ sym (get_or-drop n ys i d))

-- VIEWS

-- other objects, frames or words that are used
otherwise : {hidden : ℕ → Bool} {w v : World} {objects objects' : List (Option Contents)} {used used' : ℕ}
    {frames frames' : List (List ℕ)} → Views hidden w v → objects ≡ objects' → frames ≡ frames' → used ≡ used'
    → Views hidden (record { objects = objects; refs = w.refs; frames = frames; used = used })
    (record { objects = objects'; refs = v.refs; frames = frames'; used = used' })
otherwise views objects frames used = record {
  objects = objects;
  used = used;
  frames = frames;
  as_many = views.as_many;
  refs = views.refs;
  locals = views.locals;
  bound = views.bound;
}

pub lays_same : (w : World) (objects : List (Option Contents)) (used : ℕ)
    → Lays w (record w { objects = objects; used = used })
lays_same w objects used = record { grows = omega arith; kinds = λ n lt is. is; framed = λ Q all new. all }

-- what the views tell alike
pub look_blind : {A : Type 0} (f : World → Result A Fault)
    → ((hidden : ℕ → Bool) (w v : World) → Views hidden w v → f w ≡ f v) → Blind (found f)
look_blind f same = record {
  so = λ hidden w v views. (same hidden w v views, views);
  lays = λ w. lays_same w w.objects w.used;
}

change_blind : (f : World → World) → ((hidden : ℕ → Bool) (w v : World) → Views hidden w v → Views hidden (f w) (f v))
    → ((w : World) → Lays w (f w)) → Blind (change f)
change_blind f same lays = record { so = λ hidden w v views. (refl, same hidden w v views); lays = lays }

-- a look, and then what goes by it
module _ {A B : Type 0} (next : A → Meaning B) (second : (x : A) → Blind (next x)) where
  then_same : (hidden : ℕ → Bool) (w v : World) → Views hidden w v → (r q : Result A Fault) → r ≡ q
      → ((goes_on next (r, w)).0 ≡ (goes_on next (q, v)).0)
      × Views hidden (goes_on next (r, w)).1 (goes_on next (q, v)).1
  then_same hidden w v views r q same = subst (λ q. ((goes_on next (r, w)).0 ≡ (goes_on next (q, v)).0)
      × Views hidden (goes_on next (r, w)).1 (goes_on next (q, v)).1) same (go r)
    where
      go : (r : Result A Fault) → ((goes_on next (r, w)).0 ≡ (goes_on next (r, v)).0)
          × Views hidden (goes_on next (r, w)).1 (goes_on next (r, v)).1
      go (Ok x) = (second x).so hidden w v views
      go (Err e) = (refl, views)

  then_lays : (r : Result A Fault) (w : World) → Lays w (goes_on next (r, w)).1
  then_lays (Ok x) w = (second x).lays w
  then_lays (Err e) w = lays_same w w.objects w.used

  then_blind : (f : World → Result A Fault) → ((hidden : ℕ → Bool) (w v : World) → Views hidden w v → f w ≡ f v)
      → Blind (found f >>= next)
  then_blind f same = record {
    so = λ hidden w v views. then_same hidden w v views (f w) (f v) (same hidden w v views);
    lays = λ w. then_lays (f w) w;
  }

-- .. and another answer
answers_blind : {A B : Type 0} (m : Meaning A) (g : A → B) → Blind m → Blind (m >>= (λ x. done (g x)))
answers_blind {A} {B} m g first = record {
  so = λ hidden w v views. go hidden (m w) (m v) (first.so hidden w v views);
  lays = λ w. laid w (m w) (first.lays w);
}
  where
    go : (hidden : ℕ → Bool) (x y : Result A Fault × World) → (x.0 ≡ y.0) × Views hidden x.1 y.1
        → ((goes_on (λ x. done (g x)) x).0 ≡ (goes_on (λ x. done (g x)) y).0)
        × Views hidden (goes_on (λ x. done (g x)) x).1 (goes_on (λ x. done (g x)) y).1
    go hidden (Ok x, w) (Ok y, v) (is, views) = (let same : x ≡ y = cc in ap (λ z. Ok (g z)) same, views)
    go hidden (Ok x, w) (Err e, v) (is, views) = absurd cc
    go hidden (Err e, w) (Ok y, v) (is, views) = absurd cc
    go hidden (Err e, w) (Err d, v) (is, views) = (let same : e ≡ d = cc in ap Err same, views)

    laid : (w : World) (x : Result A Fault × World) → Lays w x.1 → Lays w (goes_on (λ x. done (g x)) x).1
    laid w (Ok x, w') lays = lays
    laid w (Err e, w') lays = lays

-- frames that are no more than those that were
pub frames_blind : (f : List (List ℕ) → List (List ℕ))
    → ((Q : ℕ → Type 0) (fs : List (List ℕ)) → AllByRecursion (AllByRecursion Q) fs
    → AllByRecursion (AllByRecursion Q) (f fs)) → Blind (change (λ w. record w { frames = f w.frames }))
frames_blind f fewer = change_blind (λ w. record w { frames = f w.frames })
    (λ hidden w v views. otherwise views views.objects (ap f views.frames) views.used)
    (λ w. record { grows = omega arith; kinds = λ n lt is. is; framed = λ Q all new. fewer Q w.frames all })

-- THE MEANINGS of World.antt that look at no reference

pub room_blind : (c : Config) (n : ℕ) → Blind (room_for c n)
room_blind c n = look_blind _
    (λ hidden w v views. ap (λ fs. refused_if (nat_lt c.locals (sum_by length fs + n)) LocalsFull) views.frames)

-- one more reference
more_views : (f : List (List ℕ) → ℕ → List (List ℕ)) (r : Option Ref) (hidden : ℕ → Bool) (w v : World)
    → Views hidden w v → Views hidden (record w { refs = w.refs ++ r ∷ []; frames = f w.frames (length w.refs) })
    (record v { refs = v.refs ++ r ∷ []; frames = f v.frames (length v.refs) })
more_views f r hidden w v views = record {
  objects = views.objects;
  used = views.used;
  frames = λ i. f (views.frames i) (views.as_many i);
  as_many = length-append w.refs (r ∷ []) ∙ ap (λ n. n + 1) views.as_many ∙ sym (length-append v.refs (r ∷ []));
  refs = λ n seen. same_more w.refs v.refs views.as_many (r ∷ []) n None (views.refs n seen);
  locals = λ n is. (
    subst IsLocal (sym (get_or_append_left w.refs (r ∷ []) None n (views.bound n is)))
        (views.locals n is).0,
    subst IsLocal (sym (get_or_append_left v.refs (r ∷ []) None n (let lt = views.bound n is in
        let long = views.as_many in omega arith))) (views.locals n is).1,
  );
  bound = λ n is. let lt = views.bound n is in let long = length-append w.refs (r ∷ []) in omega arith;
}

more_lays : (f : List (List ℕ) → ℕ → List (List ℕ)) (r : Option Ref)
    → ((Q : ℕ → Type 0) (fs : List (List ℕ)) (n : ℕ) → AllByRecursion (AllByRecursion Q) fs → (IsNewLocal r → Q n)
    → AllByRecursion (AllByRecursion Q) (f fs n)) → (w : World)
    → Lays w (record w { refs = w.refs ++ r ∷ []; frames = f w.frames (length w.refs) })
more_lays f r all_so w = record {
  grows = let long = length-append w.refs (r ∷ []) in omega arith;
  kinds = λ n lt is. subst IsLocal (sym (get_or_append_left w.refs (r ∷ []) None n lt)) is;
  framed = λ Q all new. all_so Q w.frames (length w.refs) all (λ is. new (length w.refs) (omega arith)
      (subst IsNewLocal (sym (get_or_push w.refs r None (length w.refs) refl)) is));
}

pub new_ref_blind : (k : RefKind) (o : ℕ) → (k ≡ Local → ⊥) → Blind (new_ref k o)
new_ref_blind k o other = record {
  so = λ hidden w v views. let same = more_views (λ fs n. fs) made hidden w v views in
      (ap (λ n. Ok (record { 0 = n })) same.as_many, same);
  lays = more_lays (λ fs n. fs) made (λ Q fs n all new. all);
}
  where
    made : Option Ref
    made = Some (record { kind = k; object = Some o })

pub added_blind : (o : ℕ) → Blind (added o)
added_blind o = record {
  so = λ hidden w v views. let same = more_views put_last made hidden w v views in
      (ap (λ n. Ok (record { 0 = n })) same.as_many, same);
  lays = more_lays put_last made all_put;
}
  where
    made : Option Ref
    made = Some (record { kind = Local; object = Some o })

    all_put : (Q : ℕ → Type 0) (fs : List (List ℕ)) (n : ℕ) → AllByRecursion (AllByRecursion Q) fs
        → (IsNewLocal made → Q n) → AllByRecursion (AllByRecursion Q) (put_last fs n)
    all_put Q [] n all new = tt
    all_put Q (f ∷ []) n all new = (all_append Q f (n ∷ []) all.0 (new refl, tt), tt)
    all_put Q (f ∷ g ∷ fs) n all new = (all.0, all_put Q (g ∷ fs) n all.1 new)

pub new_local_blind : (c : Config) (o : Option ℕ) → Blind (new_local c o)
new_local_blind c None = look_blind (λ w. Ok None) (λ hidden w v views. refl)
new_local_blind c (Some o) = then_blind _ (λ u. answers_blind (added o) (λ h. Some h) (added_blind o))
    (λ w. refused_if (nat_lt c.locals (held w + 1)) LocalsFull)
    (λ hidden w v views. ((room_blind c 1).so hidden w v views).0)

pub push_blind : (c : Config) (n : ℕ) → Blind (push c n)
push_blind c n = then_blind _ (λ u. then_blind _ (λ u. frames_blind (λ fs. fs ++ [] ∷ [])
    (λ Q fs all. all_append _ fs ([] ∷ []) all (tt, tt))) (λ w. refused_if (nat_lt c.locals (held w + n)) LocalsFull)
    (λ hidden w v views. ((room_blind c n).so hidden w v views).0))
    (λ w. refused_if (nat_le FRAMES (length w.frames)) LocalsFull)
    (λ hidden w v views. ap (λ fs. refused_if (nat_le FRAMES (length fs)) LocalsFull) views.frames)

pub reserve_blind : (c : Config) (n : ℕ) → Blind (reserve c n)
reserve_blind c n = then_blind _ (λ used. then_blind _ (λ u. change_blind (λ w. record w { used = used + n })
    (λ hidden w v views. otherwise views views.objects views.frames refl) (λ w. lays_same w w.objects (used + n)))
    (λ w. refused_if (nat_lt c.words (used + n)) (SpaceFull used)) (λ hidden w v views. refl))
    (λ w. Ok w.used) (λ hidden w v views. ap Ok views.used)

pub new_object_blind : (c : Config) (k : Kind) (words : List ℕ) → Blind (new_object c k words)
new_object_blind c k words = then_blind _ (λ u. then_blind _ (λ o. answers_blind
    (change (λ w. record w { objects = made w.objects })) (λ u. o)
    (change_blind _ (λ hidden w v views. otherwise views (ap made views.objects) views.frames views.used)
    (λ w. lays_same w (made w.objects) w.used)))
    (λ w. Ok (length w.objects)) (λ hidden w v views. ap (λ xs. Ok (length xs)) views.objects))
    (λ w. refused_if (standing w.objects == c.objects) ObjectsFull)
    (λ hidden w v views. ap (λ xs. refused_if (standing xs == c.objects) ObjectsFull) views.objects)
  where
    made : List (Option Contents) → List (Option Contents)
    made xs = xs ++ Some (record { kind = k; words = words }) ∷ []

pub rewrites_blind : (f : List ℕ → List ℕ) (o : ℕ) → Blind (rewrites f o)
rewrites_blind f o = change_blind (λ w. record w { objects = anew w.objects })
    (λ hidden w v views. otherwise views (ap anew views.objects) views.frames views.used)
    (λ w. lays_same w (anew w.objects) w.used)
  where
    anew : List (Option Contents) → List (Option Contents)
    anew xs = slice_set xs o (Some (record {
      kind = (contents_in (standing_at xs o)).kind;
      words = f (contents_in (standing_at xs o)).words;
    }))

all_filter : {X : Type 0} (P : X → Type 0) (k : X → Bool) (xs : List X) → AllByRecursion P xs
    → AllByRecursion P (filter k xs)
all_filter P k [] all = tt
all_filter P k (x ∷ xs) all = all_choice P (k x) x _ all.0 (all_filter P k xs all.1)

pub each_filter : {X : Type 0} (P : X → Type 0) (k : X → Bool) (xss : List (List X))
    → AllByRecursion (AllByRecursion P) xss → AllByRecursion (AllByRecursion P) (map (filter k) xss)
each_filter P k xss all = all_map (filter k) (AllByRecursion P) xss (all_weaker (λ xs. all_filter P k xs) xss all)

pub removed_blind : (n : ℕ) → Blind (change (removed n))
removed_blind n = change_blind (removed n) (λ hidden w v views. record {
  objects = views.objects;
  used = views.used;
  frames = ap (map (filter (λ m. not (m == n)))) views.frames;
  as_many = length-set w.refs n None ∙ views.as_many ∙ sym (length-set v.refs n None);
  refs = λ m seen. same_set w.refs v.refs views.as_many n m None None (views.refs m seen);
  locals = λ m is. (
    set_has IsLocal w.refs n m None None tt (views.locals m is).0,
    set_has IsLocal v.refs n m None None tt (views.locals m is).1,
  );
  bound = λ m is. let long = length-set w.refs n None in let lt = views.bound m is in omega arith;
}) (λ w. record {
  grows = let long = length-set w.refs n None in omega arith;
  kinds = λ m lt is. set_has IsLocal w.refs n m None None tt is;
  framed = λ Q all new. each_filter Q (λ m. not (m == n)) w.frames all;
})

-- WHOSE A REFERENCE IS that came by a step
pub has_owner : (owners : List (Option ℕ)) (n t : ℕ) → slice_index_or owners n None ≡ Some t → n < length owners
has_owner [] n t is = absurd cc
has_owner (o ∷ os) zero t is = omega arith
has_owner (o ∷ os) (suc n) t is = let lt = has_owner os n t is in omega arith

owner_of_new : (u : ℕ) (owners : List (Option ℕ)) (refs : List (Option Ref)) (n : ℕ) → length owners ≤ length refs
    → length owners ≤ n → slice_index_or (owners ++ map (owner_if u) (drop (length owners) refs)) n None
    ≡ owner_if u (standing_at refs n)
owner_of_new u [] [] n less le = refl
owner_of_new u [] (r ∷ rs) zero less le = refl
owner_of_new u [] (r ∷ rs) (suc n) less le = owner_of_new u [] rs n (omega arith) (omega arith)
owner_of_new u (o ∷ os) [] n less le = absurd (omega arith)
owner_of_new u (o ∷ os) (r ∷ rs) zero less le = absurd (omega arith)
owner_of_new u (o ∷ os) (r ∷ rs) (suc n) less le = owner_of_new u os rs n (omega arith) (omega arith)

owned_is_local : (u t : ℕ) (r : Option Ref) → owner_if u r ≡ Some t → IsLocal r
owned_is_local u t None is = tt
owned_is_local u t (Some r) is = go (same_kind Local r.kind) refl is
  where
    go : (b : Bool) → same_kind Local r.kind ≡ b → cond b (Some u) None ≡ Some t → r.kind ≡ Local
    go true same is = sym (kind_true Local r.kind same)
    go false same is = absurd cc

new_is_owned : (u : ℕ) (r : Option Ref) → IsNewLocal r → owner_if u r ≡ Some u
new_is_owned u None is = absurd is
new_is_owned u (Some r) is = ap (λ k. cond (same_kind Local k) (Some u) None) is

module _ (u : ℕ) (s : Shared) (w : World) where
  owner_stays : (n t : ℕ) → owner_of s n ≡ Some t → owner_of (as_left u s w) n ≡ Some t
  owner_stays n t is = get_or_append_left s.owners (map (owner_if u) (drop (length s.owners) w.refs)) None n
      (has_owner s.owners n t is) ∙ is

  pub tidy_left : Tidy s → Lays (as_seen u s) w → Tidy (as_left u s w)
  tidy_left tidy lays = record {
    owned = length-append s.owners (map (owner_if u) new) ∙ (ap (λ n. length s.owners + n)
        (length-map new (owner_if u)) ∙ (let long = length-drop (length s.owners) w.refs in omega arith));
    local = λ n t is. ⊎_elim (old_local n t is) (new_local n t is) (cases_lt n (length s.owners));
    framed = λ t. ⊎_elim (mine t) (others t) (cases_eq t u);
  }
    where
      new : List (Option Ref)
      new = drop (length s.owners) w.refs

      as_many : length s.owners ≡ length s.refs
      as_many = tidy.owned

      more : length s.refs ≤ length w.refs
      more = lays.grows

      old_local : (n t : ℕ) → owner_of (as_left u s w) n ≡ Some t → n < length s.owners → IsLocal (standing_at w.refs n)
      old_local n t is lt = lays.kinds n (omega arith)
          (tidy.local n t (sym (get_or_append_left s.owners (map (owner_if u) new) None n lt) ∙ is))

      new_local : (n t : ℕ) → owner_of (as_left u s w) n ≡ Some t → length s.owners ≤ n
          → IsLocal (standing_at w.refs n)
      new_local n t is le =
          owned_is_local u t (standing_at w.refs n) (sym (owner_of_new u s.owners w.refs n (omega arith) le) ∙ is)

      AllOf : ℕ → List (List ℕ) → Type 0
      AllOf t = AllByRecursion (AllByRecursion (λ n. owner_of (as_left u s w) n ≡ Some t))

      old : (t : ℕ) → AllOf t (frames_of s t)
      old t = all_weaker (all_weaker (λ n. owner_stays n t)) (frames_of s t) (tidy.framed t)

      own : AllOf u (frames_of (as_left u s w) u)
      own = set_has (AllOf u) s.frames u u w.frames [] (lays.framed (λ n. owner_of (as_left u s w) n ≡ Some u) (old u)
          (λ n le is. owner_of_new u s.owners w.refs n (omega arith) (omega arith)
          ∙ new_is_owned u (standing_at w.refs n) is)) (old u)

      mine : (t : ℕ) → t ≡ u → AllOf t (frames_of (as_left u s w) t)
      mine t is = subst (λ t. AllOf t (frames_of (as_left u s w) t)) (sym is) own

      others : (t : ℕ) → (t ≡ u → ⊥) → AllOf t (frames_of (as_left u s w) t)
      others t other = subst (AllOf t) (sym (get_or-set_other s.frames u t w.frames [] other)) (old t)

  pub kept_left : Kept u s (as_left u s w)
  kept_left = record {
    board = refl;
    owners = (map (owner_if u) (drop (length s.owners) w.refs), refl);
    as_many_roles = refl;
    roles = λ t other. refl;
    frames = λ t other. get_or-set_other s.frames u t w.frames [] other;
  }

-- what a step of this thread does beside another
abbrev pub Beside : {A : Type 0} → ℕ → (ℕ → Bool) → Shared → Result A Fault × Shared → Result A Fault × Shared → Type 0
Beside u gone s x y = (x.0 ≡ y.0) × Alike gone x.1 y.1 × Kept u s x.1

-- A STEP over a world that all share
module _ {gone : ℕ → Bool} {s z : Shared} (u : ℕ) (luck : Bool) (mine : gone u ≡ false) (alike : Alike gone s z) where
  -- which references this thread doesn't see alike
  abbrev hidden : ℕ → Bool
  hidden n = is_of gone (owner_of z n)

  views : Views hidden (as_seen u s) (as_seen u z)
  views = record {
    objects = alike.objects;
    used = alike.used;
    frames = alike.frames u mine;
    as_many = alike.as_many_refs;
    refs = alike.refs;
    locals = λ n is. both n (owner_of z n) refl is;
    bound = λ n is. within n (owner_of z n) refl is;
  }
    where
      both : (n : ℕ) (o : Option ℕ) → owner_of z n ≡ o → is_of gone o ≡ true
          → IsLocal (standing_at s.refs n) × IsLocal (standing_at z.refs n)
      both n None owner is = absurd cc
      both n (Some t) owner is = (
        alike.tidy.local n t (ap (λ os. slice_index_or os n None) alike.owners ∙ owner),
        alike.tidy_too.local n t owner,
      )

      within : (n : ℕ) (o : Option ℕ) → owner_of z n ≡ o → is_of gone o ≡ true → n < length s.refs
      within n None owner is = absurd cc
      within n (Some t) owner is =
          let lt = has_owner z.owners n t owner in
          let owned = alike.tidy_too.owned in
          let long = alike.as_many_refs in
          omega arith

  -- what is left is alike
  left_alike : (w v : World) → Views hidden w v → Lays (as_seen u s) w → Lays (as_seen u z) v
      → Alike gone (as_left u s w) (as_left u z v)
  left_alike w v same lays lays_too = record {
    objects = same.objects;
    used = same.used;
    owners = λ i. alike.owners i ++ map (owner_if u) (new i);
    as_many_refs = same.as_many;
    refs = λ n is. same.refs n (seen n is (owner_of z n) refl);
    as_many_frames = length-set s.frames u w.frames ∙ alike.as_many_frames ∙ sym (length-set z.frames u v.frames);
    frames = λ t stays. ap (λ fs. slice_index_or (slice_set s.frames u fs) t []) same.frames
        ∙ same_set s.frames z.frames alike.as_many_frames u t v.frames [] (alike.frames t stays);
    as_many_roles = alike.as_many_roles;
    roles = alike.roles;
    unbarred = alike.unbarred;
    tidy = tidy_left u s w alike.tidy lays;
    tidy_too = tidy_left u z v alike.tidy_too lays_too;
  }
    where
      seen : (n : ℕ) → is_of gone (owner_of (as_left u z v) n) ≡ false → (o : Option ℕ) → owner_of z n ≡ o
          → is_of gone (owner_of z n) ≡ false
      seen n is None owner = ap (is_of gone) owner
      seen n is (Some t) owner = ap (is_of gone) owner ∙ sym (ap (is_of gone) (owner_stays u z v n t owner)) ∙ is

      beyond : (n : ℕ) → length z.owners ≤ n → is_of gone (owner_of z n) ≡ false
      beyond n le = ap (is_of gone) (get_or_past z.owners n None le)

      new : drop (length s.owners) w.refs ≡ drop (length z.owners) v.refs
      new = ap (λ os. drop (length os) w.refs) alike.owners
          ∙ same_from None (length z.owners) w.refs v.refs same.as_many (λ n le. same.refs n (beyond n le))

  abbrev IsBeside : {A : Type 0} → Meaning A → Type 0
  IsBeside m = Beside u gone s (over_world m u luck s) (over_world m u luck z)

  -- an answer that is the same, and what it leaves
  step_by : {A : Type 0} (m : Meaning A)
      → ((m (as_seen u s)).0 ≡ (m (as_seen u z)).0) × Views hidden (m (as_seen u s)).1 (m (as_seen u z)).1
      → ((w : World) → Lays w (m w).1) → IsBeside m
  step_by m same lays = (
    same.0,
    left_alike (m (as_seen u s)).1 (m (as_seen u z)).1 same.1 (lays (as_seen u s))
        (lays (as_seen u z)),
    kept_left u s (m (as_seen u s)).1,
  )

  pub step_alike : {A : Type 0} {m : Meaning A} → Blind m → IsBeside m
  step_alike {A} {m} blind = step_by m (blind.so hidden (as_seen u s) (as_seen u z) views) blind.lays

  -- whose a reference is, is told alike
  pub foreign_alike : (n : ℕ) → is_foreign_to u s n ≡ is_foreign_to u z n
  foreign_alike zero = refl
  foreign_alike (suc n) = ap (λ os. is_anothers u (slice_index_or os n None)) alike.owners

  own_seen : (n : ℕ) → is_foreign_to u z (suc n) ≡ false → hidden n ≡ false
  own_seen n own = go (owner_of z n) own
    where
      go : (o : Option ℕ) → is_anothers u o ≡ false → is_of gone o ≡ false
      go None own = refl
      go (Some t) own = ap gone (same (t == u) refl own) ∙ mine
        where
          same : (b : Bool) → (t == u) ≡ b → not b ≡ false → t ≡ u
          same true is own = eq_true t u is
          same false is own = absurd cc

  -- what is done with a reference that is no other's
  pub object_alike : (n : ℕ) → is_foreign_to u z n ≡ false → IsBeside (object n)
  object_alike zero own = step_alike (look_blind (λ w. Ok None) (λ hidden w v views. refl))
  object_alike (suc n) own =
      step_by (object (suc n)) (ap object_in (alike.refs n (own_seen n own)), views) (λ w. lays_same w w.objects w.used)

  pub type_alike : (n : ℕ) → is_foreign_to u z n ≡ false → IsBeside (type_meant n)
  type_alike zero own = step_alike (look_blind (λ w. Ok 0) (λ hidden w v views. refl))
  type_alike (suc n) own = step_by (type_meant (suc n))
      (ap (λ r. Ok (type_in r)) (alike.refs n (own_seen n own)), views) (λ w. lays_same w w.objects w.used)

  pub delete_alike : (n : ℕ) → is_foreign_to u z n ≡ false → IsBeside (delete n)
  delete_alike zero own = step_alike (look_blind (λ w. Ok tt) (λ hidden w v views. refl))
  delete_alike (suc n) own = step_by (delete (suc n))
      (then_same (λ o. change (removed n)) (λ o. removed_blind n) hidden (as_seen u s) (as_seen u z) views
      (object_in (standing_at s.refs n)) (object_in (standing_at z.refs n))
      (ap object_in (alike.refs n (own_seen n own))))
      (λ w. then_lays (λ o. change (removed n)) (λ o. removed_blind n) (object_in (standing_at w.refs n)) w)

  -- what is noted at an entry
  pub row_alike : in_row s ≡ in_row z
  row_alike = λ i. same_refs_of gone s z alike Global (λ bad. cc) i + same_refs_of gone s z alike Weak (λ bad. cc) i

  pub noted_alike : noted s ≡ noted z
  noted_alike = λ i. record { standing = row_alike i; made = alike.as_many_refs i; used = alike.used i }
