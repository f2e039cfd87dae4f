-- Local references that are given up one by one, and frames without them.
use Rattle.std.proofs.Common.{◌≡◌, ℕ, suc, ◌==◌, ◌||◌, Bool, true, false, cond, not, Some, IsSome}
use Rattle.std.proofs.Common.{is_some, Result, Ok, List, [], ◌∷◌, ◌++◌, map, length, refl, sym, ap, subst, ◌∙◌}
use Rattle.std.specs.List.{AllByRecursion, filter}
use Rattle.std.proofs.lemmas.List.{length-map}
use mathlib.Core.List.{IsPrefix}
use Rattle.jr_word.specs.declared.fault.Fault.{Fault}
use Rattle.jr_model.specs.declared.event.Act.{Act}
use Rattle.jr_model.specs.declared.event.Act.TheVariants.{LocalDrop}
use Rattle.jr_model.specs.declared.frames.LocalRef.{LocalRef}
use Rattle.jr_model.specs.State.{Handle, same_handle}
use Rattle.jr_model.specs.Frames.{Frames, HaveOwnPlaces, all_refs, drop_all, frames_before, is_held, joined, last_frame}
use Rattle.jr_model.specs.Frames.{object_of, object_where, without_local}
use Rattle.jr_model.specs.History.{History, by}
use Rattle.jr_model.specs.Checks.{Parts}
use Rattle.jr_model.proofs.Agreement.{joined_filter, other_than}
use Rattle.jr_model.proofs.Moments.{prefix_trans}
use Rattle.jr_model.proofs.Updates.{eq_false, eq_other, eq_self, handle_self, handle_true}
use Rattle.jr_world.specs.World.{change, removed}
use Rattle.jr_world.specs.Births.{births}
use Rattle.jr_world.specs.Doing.{Doing, as_seen, given_up_in_steps, unless_refused, whatever}
use Rattle.jr_world.specs.Plays.{AreNamed, ActsNext, Plays}
use Rattle.jr_world.specs.Plays.AreNamed.{no_local, one_local}
use Rattle.jr_world.proofs.Standing.{is_of_gate, stays_by_act}
use Rattle.jr_world.proofs.InStay.{IsAt, Scene, at_next, word_now, at_within}
use Rattle.jr_world.proofs.LocalPlays.{does_by}
use Rattle.jr_world.proofs.LocalDrops.{drop_finds}
use Rattle.jr_world.proofs.NamedPlays.{ComesTo, comes_here, comes_then}
use Rattle.one_order.specs.Orders.{Item}
use Rattle.one_order.specs.Orders.Item.{does as acting}

-- FRAMES WITHOUT REFERENCES

abbrev pub without_all : Frames → List LocalRef → Frames
without_all f [] = f
without_all f (r ∷ rs) = without_all (without_local f r.handle) rs

-- what is left of a list
abbrev pub left_of : List LocalRef → List LocalRef → List LocalRef
left_of xs [] = xs
left_of xs (r ∷ rs) = left_of (filter (other_than r.handle) xs) rs

pub same_given : (f : Frames) (rs : List LocalRef) → (without_all f rs).given ≡ f.given
same_given f [] = refl
same_given f (r ∷ rs) = same_given (without_local f r.handle) rs

pub joined_left : (f : Frames) (rs : List LocalRef) → joined (without_all f rs).frames ≡ left_of (joined f.frames) rs
joined_left f [] = refl
joined_left f (r ∷ rs) = joined_left (without_local f r.handle) rs
    ∙ ap (λ l. left_of l rs) (joined_filter (other_than r.handle) f.frames)

pub as_many_frames : (f : Frames) (rs : List LocalRef) → length (without_all f rs).frames ≡ length f.frames
as_many_frames f [] = refl
as_many_frames f (r ∷ rs) =
    as_many_frames (without_local f r.handle) rs ∙ length-map f.frames (filter (other_than r.handle))

last_filtered : (k : LocalRef → Bool) (xs : List (List LocalRef))
    → last_frame (map (filter k) xs) ≡ filter k (last_frame xs)
last_filtered k [] = refl
last_filtered k (x ∷ []) = refl
last_filtered k (x ∷ y ∷ xs) = last_filtered k (y ∷ xs)

before_filtered : (k : LocalRef → Bool) (xs : List (List LocalRef))
    → frames_before (map (filter k) xs) ≡ map (filter k) (frames_before xs)
before_filtered k [] = refl
before_filtered k (x ∷ []) = refl
before_filtered k (x ∷ y ∷ xs) = ap (λ l. filter k x ∷ l) (before_filtered k (y ∷ xs))

pub last_left : (f : Frames) (rs : List LocalRef)
    → last_frame (without_all f rs).frames ≡ left_of (last_frame f.frames) rs
last_left f [] = refl
last_left f (r ∷ rs) = last_left (without_local f r.handle) rs
    ∙ ap (λ l. left_of l rs) (last_filtered (other_than r.handle) f.frames)

-- a reference at another place stays
or_parts : (a b : Bool) → (a || b) ≡ false → (a ≡ false) × (b ≡ false)
or_parts true b e = absurd cc
or_parts false b e = (refl, e)

other_here : (h g : Handle) → (g.index == h.index) ≡ false → not (same_handle g h) ≡ true
other_here h g away = go (same_handle g h) refl
  where
    go : (b : Bool) → same_handle g h ≡ b → not b ≡ true
    go false e = refl
    go true e = absurd (let self : (g.index == h.index) ≡ true =
        ap (λ (z : Handle). z.index == h.index) (handle_true g h e) ∙ eq_self h.index in cc)

none_filtered : (h : Handle) (xs : List LocalRef) → is_held xs h.index ≡ false → filter (other_than h) xs ≡ xs
none_filtered h [] free = refl
none_filtered h (x ∷ xs) free =
    let parts = or_parts (x.handle.index == h.index) (is_held xs h.index) free in
    ap (λ b. cond b (x ∷ filter (other_than h) xs) (filter (other_than h) xs)) (other_here h x.handle parts.0)
    ∙ ap (λ l. x ∷ l) (none_filtered h xs parts.1)

held_apart : (xs ys : List LocalRef) (p : ℕ) → is_held (xs ++ ys) p ≡ false
    → (is_held xs p ≡ false) × (is_held ys p ≡ false)
held_apart [] ys p free = (refl, free)
held_apart (x ∷ xs) ys p free =
    let parts = or_parts (x.handle.index == p) (is_held (xs ++ ys) p) free in
    let rest = held_apart xs ys p parts.1 in
    (ap (λ b. b || is_held xs p) parts.0 ∙ rest.0, rest.1)

all_filtered : (h : Handle) (gs : List (List LocalRef)) → is_held (joined gs) h.index ≡ false
    → map (filter (other_than h)) gs ≡ gs
all_filtered h [] free = refl
all_filtered h (xs ∷ gs) free =
    let parts = held_apart xs (joined gs) h.index free in
    ap (λ l. l ∷ map (filter (other_than h)) gs) (none_filtered h xs parts.0)
    ∙ ap (λ l. xs ∷ l) (all_filtered h gs parts.1)

-- the frames before the last stay, where the references are at other places
pub before_left : (f : Frames) (rs : List LocalRef)
    → AllByRecursion (λ r. is_held (joined (frames_before f.frames)) r.handle.index ≡ false) rs
    → frames_before (without_all f rs).frames ≡ frames_before f.frames
before_left f [] free = refl
before_left f (r ∷ rs) free =
    before_left (without_local f r.handle) rs (on_before rs free.1) ∙ same
  where
    same : frames_before (without_local f r.handle).frames ≡ frames_before f.frames
    same = before_filtered (other_than r.handle) f.frames ∙ all_filtered r.handle (frames_before f.frames) free.0

    on_before : (qs : List LocalRef)
        → AllByRecursion (λ q. is_held (joined (frames_before f.frames)) q.handle.index ≡ false) qs
        → AllByRecursion (λ q. is_held (joined (frames_before (without_local f r.handle).frames)) q.handle.index
        ≡ false) qs
    on_before qs all = subst (λ l. AllByRecursion (λ q. is_held (joined l) q.handle.index ≡ false) qs) (sym same) all

-- nothing is left of a list without all its references
pub none_left : (rs : List LocalRef) → HaveOwnPlaces rs → left_of rs rs ≡ []
none_left [] apart = refl
none_left (r ∷ rs) apart =
    ap (λ l. left_of l rs)
    (ap (λ b. cond (not b) (r ∷ filter (other_than r.handle) rs) (filter (other_than r.handle) rs))
    (handle_self r.handle)
    ∙ none_filtered r.handle rs apart.0)
    ∙ none_left rs apart.1

-- REFERENCES THAT STAND

abbrev pub AllStand : Frames → List LocalRef → Type 0
AllStand f rs = AllByRecursion (λ r. IsSome (object_of f r.handle)) rs

still_found : (p : LocalRef → Bool) (x : LocalRef) (xs : List LocalRef) → IsSome (object_where p xs)
    → IsSome (object_where p (x ∷ xs))
still_found p x xs found = go (p x)
  where
    go : (b : Bool) → IsSome (cond b (Some x.object) (object_where p xs))
    go true = refl
    go false = found

found_behind : (p : LocalRef → Bool) (xs ys : List LocalRef) → IsSome (object_where p ys)
    → IsSome (object_where p (xs ++ ys))
found_behind p [] ys found = found
found_behind p (x ∷ xs) ys found = still_found p x (xs ++ ys) (found_behind p xs ys found)

pub all_weaker : (P Q : LocalRef → Type 0) → ((r : LocalRef) → P r → Q r) → (rs : List LocalRef) → AllByRecursion P rs
    → AllByRecursion Q rs
all_weaker P Q so [] all = tt
all_weaker P Q so (r ∷ rs) all = (so r all.0, all_weaker P Q so rs all.1)

-- each reference of a list is found in it
each_found : (rs : List LocalRef) → AllByRecursion (λ r. IsSome
    (object_where (λ q. same_handle q.handle r.handle) rs)) rs
each_found [] = tt
each_found (r ∷ rs) = (
  ap (λ b. is_some (cond b (Some r.object) (object_where (λ q. same_handle q.handle r.handle) rs)))
      (handle_self r.handle),
  all_weaker (λ x. IsSome (object_where (λ q. same_handle q.handle x.handle) rs))
      (λ x. IsSome (object_where (λ q. same_handle q.handle x.handle) (r ∷ rs)))
      (λ x found. still_found (λ q. same_handle q.handle x.handle) r rs found) rs (each_found rs),
)

-- .. and in a longer one
pub found_among : (xs rs : List LocalRef)
    → AllByRecursion (λ r. IsSome (object_where (λ q. same_handle q.handle r.handle) (xs ++ rs))) rs
found_among xs rs = all_weaker (λ x. IsSome (object_where (λ q. same_handle q.handle x.handle) rs))
    (λ x. IsSome (object_where (λ q. same_handle q.handle x.handle) (xs ++ rs)))
    (λ x found. found_behind (λ q. same_handle q.handle x.handle) xs rs found) rs (each_found rs)

-- another handle stands on
found_other : (h g : Handle) → (h.index == g.index) ≡ false → (xs : List LocalRef)
    → object_where (λ r. same_handle r.handle g) (filter (other_than h) xs) ≡ object_where
    (λ r. same_handle r.handle g) xs
found_other h g away [] = refl
found_other h g away (x ∷ xs) = go (same_handle x.handle h) refl (found_other h g away xs)
  where
    go : (b : Bool) → same_handle x.handle h ≡ b
        → object_where (λ r. same_handle r.handle g) (filter (other_than h) xs)
        ≡ object_where (λ r. same_handle r.handle g) xs
        → object_where (λ r. same_handle r.handle g)
        (cond (not b) (x ∷ filter (other_than h) xs) (filter (other_than h) xs))
        ≡ cond (same_handle x.handle g) (Some x.object) (object_where (λ r. same_handle r.handle g) xs)
    go false is rest = ap (λ z. cond (same_handle x.handle g) (Some x.object) z) rest
    go true is rest = rest ∙ ap (λ b. cond b (Some x.object) (object_where (λ r. same_handle r.handle g) xs))
        (sym (other (same_handle x.handle g) refl))
      where
        other : (d : Bool) → same_handle x.handle g ≡ d → same_handle x.handle g ≡ false
        other false e = e
        other true e = absurd (let same : h ≡ g = sym (handle_true x.handle h is) ∙ handle_true x.handle g e in
            let self : (h.index == g.index) ≡ true = ap (λ (z : Handle). z.index == g.index) same
            ∙ eq_self g.index in cc)

stand_on : (f : Frames) (h : Handle) (rs : List LocalRef) → is_held rs h.index ≡ false → AllStand f rs
    → AllStand (without_local f h) rs
stand_on f h [] free all = tt
stand_on f h (r ∷ rs) free all =
    let parts = or_parts (r.handle.index == h.index) (is_held rs h.index) free in (
      subst IsSome (sym (ap (object_where (λ q. same_handle q.handle r.handle)) (joined_filter (other_than h) f.frames)
          ∙ found_other h r.handle (flipped r.handle.index h.index parts.0) (all_refs f))) all.0,
      stand_on f h rs parts.1 all.1,
    )
  where
    flipped : (m n : ℕ) → (m == n) ≡ false → (n == m) ≡ false
    flipped m n e = eq_other n m (λ same. eq_false m n e (sym same))

-- THEY ARE GIVEN UP, one by one
module _ (k : Scene) where
  -- an act that is none at the gate was done
  pub comes_acted : (past now : History) (a : Act) (rest : List Act) → IsAt k past (a ∷ rest)
      → ActsNext k.config k.whole k.thread past now a → is_of_gate a ≡ false
      → ComesTo k past rest (now ++ by k.thread a ∷ [])
  comes_acted past now a rest at next no_gate = record {
    at = at_next k past now a rest at next no_gate;
    stays = stays_by_act k.config k.last k.whole k.thread k.legal past past now a
        (comes_here k past (a ∷ rest) at).stays next no_gate;
  }

module _ {A : Type 0} (k : Scene) (V : History → Result A Fault → Type 0) (g : Frames) (behind : List (Item Act))
    (next : Result (Unit {0}) Fault → Doing A) (more : List (Item Act)) (rest : List Act) (base : History) where
  pub given_up : {ns : List ℕ} {rs : List LocalRef} → AreNamed k.thread (births base).refs ns rs → (past : History)
      (f : Frames) → IsPrefix base past → IsAt k past (drop_all rs ++ rest) → HaveOwnPlaces rs → AllStand f rs
      → ((later : History) → ComesTo k past rest later
      → Plays k.config k.whole k.thread V g behind (next (Ok tt)) later (without_all f rs) more)
      → Plays k.config k.whole k.thread V g behind (whatever (given_up_in_steps ns) next) past f
      (map acting (drop_all rs) ++ more)
  given_up no_local past f begins at apart stand follows = follows past (comes_here k past rest at)
  given_up (one_local {is = ns} {rs = rs} i r q there own named) past f begins at apart stand follows =
      does_by k.config k.whole k.thread V g behind (change (removed i))
      (λ x. whatever (unless_refused (λ u. given_up_in_steps ns) x) next) past f (without_local f r.handle)
      (map acting (drop_all rs) ++ more) (λ s. Ok tt) (λ s. removed i (as_seen k.thread s))
      (LocalDrop r.handle.index) k.last k.legal
      (at_within k past (LocalDrop r.handle.index ∷ drop_all rs ++ rest) at) refl
      (λ now s next_is st. (
        refl,
        (drop_finds k i r.handle past now f s (drop_all rs ++ rest) at
            (word_now k base past begins (Parts r.handle) (suc i) (q, there)) own stand.0 next_is st).1,
      ))
      (λ now s next_is st.
      let comes = comes_acted k past now (LocalDrop r.handle.index) (drop_all rs ++ rest) at next_is refl in
      given_up named (now ++ by k.thread (LocalDrop r.handle.index) ∷ []) (without_local f r.handle)
      (along past now r begins next_is) comes.at apart.1 (stand_on f r.handle rs apart.0 stand.1)
      (λ later more_comes. follows later (comes_then k past (now ++ by k.thread (LocalDrop r.handle.index) ∷ []) later
      (drop_all rs ++ rest) rest comes more_comes)))
    where
      along : (past now : History) (r : LocalRef) → IsPrefix base past
          → ActsNext k.config k.whole k.thread past now (LocalDrop r.handle.index)
          → IsPrefix base (now ++ by k.thread (LocalDrop r.handle.index) ∷ [])
      along past now r begins next_is = prefix_trans base past
          (now ++ by k.thread (LocalDrop r.handle.index) ∷ []) begins
          (prefix_trans past now (now ++ by k.thread (LocalDrop r.handle.index) ∷ [])
          (next_is.goes.since, sym next_is.goes.is) (by k.thread (LocalDrop r.handle.index) ∷ [], refl))
