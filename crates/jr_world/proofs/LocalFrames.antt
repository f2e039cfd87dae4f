-- The frames of a thread beside the numbers of their references.
use Rattle.std.proofs.Common.{◌≡◌, ◌≢◌, ℕ, zero, suc, ◌<◌, ◌≤◌, ◌+◌, ◌==◌, ◌&&◌, Bool, true, false, not, nat_le}
use Rattle.std.proofs.Common.{nat_lt, Option, Some, List, [], ◌∷◌, ◌++◌, length, slice_get, slice_index, refl, ap}
use Rattle.std.proofs.Common.{◌∙◌, arith}
use Rattle.std.specs.List.{AllByRecursion, flat_map, sum_by}
use Rattle.std.proofs.lemmas.List.{length-append}
use Rattle.std.proofs.lemmas.List.Sums.{sum_by-cons}
use Rattle.std.proofs.lemmas.Bool.Decides.{nat_tests}
use Rattle.jr_model.specs.declared.frames.LocalRef.{LocalRef}
use Rattle.jr_model.specs.Maps.{sum_below, count_below}
use Rattle.jr_model.specs.State.{Handle}
use Rattle.jr_model.specs.Frames.{Frames, HaveOwnPlaces, AreSound, IsNewest, all_refs, free_places, frames_before}
use Rattle.jr_model.specs.Frames.{is_free}
use Rattle.jr_model.specs.Frames.{is_held, joined, last_frame, with_last}
use Rattle.jr_model.proofs.Agreement.{joined_before}
use Rattle.jr_model.proofs.Counts.{bit, count_all_false, sum_at, sum_split}
use Rattle.jr_model.proofs.Updates.{eq_other, eq_self}
use Rattle.jr_world.specs.World.{Ref, all_but_last, newest_frame, put_last}
use Rattle.jr_world.specs.Plays.{AreFrames, AreNamed, owner_of_handle}
use Rattle.jr_world.specs.Plays.AreFrames.{no_frame, one_frame}
use Rattle.jr_world.specs.Plays.AreNamed.{no_local, one_local}
use Rattle.jr_world.specs.Playing.{FreeHaveSerials}

-- HOW MANY THERE ARE

pub named_long : {t : ℕ} {refs : List (Handle × Option Ref)} {is : List ℕ} {rs : List LocalRef}
    → AreNamed t refs is rs → length is ≡ length rs
named_long no_local = refl
named_long (one_local i r q at own rest) = ap suc (named_long rest)

pub frames_long : {t : ℕ} {refs : List (Handle × Option Ref)} {fs : List (List ℕ)} {gs : List (List LocalRef)}
    → AreFrames t refs fs gs → length fs ≡ length gs
frames_long no_frame = refl
frames_long (one_frame here rest) = ap suc (frames_long rest)

pub frames_held : {t : ℕ} {refs : List (Handle × Option Ref)} {fs : List (List ℕ)} {gs : List (List LocalRef)}
    → AreFrames t refs fs gs → sum_by length fs ≡ length (joined gs)
frames_held no_frame = refl
frames_held (one_frame {is = is} {fs = fs} {rs = rs} {gs = gs} here rest) =
    let whole : sum_by length (is ∷ fs) ≡ length is + sum_by length fs = sum_by-cons length is fs in
    let first : length is ≡ length rs = named_long here in
    let others : sum_by length fs ≡ length (joined gs) = frames_held rest in
    let both : length (rs ++ joined gs) ≡ length rs + length (joined gs) = length-append rs (joined gs) in
    omega arith

-- A FRAME MORE, AND ONE LESS

pub frames_pushed : {t : ℕ} {refs : List (Handle × Option Ref)} {fs : List (List ℕ)} {gs : List (List LocalRef)}
    → AreFrames t refs fs gs → AreFrames t refs (fs ++ [] ∷ []) (gs ++ [] ∷ [])
frames_pushed no_frame = one_frame no_local no_frame
frames_pushed (one_frame here rest) = one_frame here (frames_pushed rest)

pub frames_popped : {t : ℕ} {refs : List (Handle × Option Ref)} {fs : List (List ℕ)} {gs : List (List LocalRef)}
    → AreFrames t refs fs gs → AreFrames t refs (all_but_last fs) (frames_before gs)
frames_popped no_frame = no_frame
frames_popped (one_frame here no_frame) = no_frame
frames_popped (one_frame here (one_frame next rest)) = one_frame here (frames_popped (one_frame next rest))

pub newest_named : {t : ℕ} {refs : List (Handle × Option Ref)} {fs : List (List ℕ)} {gs : List (List LocalRef)}
    → AreFrames t refs fs gs → AreNamed t refs (newest_frame fs) (last_frame gs)
newest_named no_frame = no_local
newest_named (one_frame here no_frame) = here
newest_named (one_frame here (one_frame next rest)) = newest_named (one_frame next rest)

-- those of all frames
named_both : {t : ℕ} {refs : List (Handle × Option Ref)} {is js : List ℕ} {rs ss : List LocalRef}
    → AreNamed t refs is rs → AreNamed t refs js ss → AreNamed t refs (is ++ js) (rs ++ ss)
named_both no_local more = more
named_both (one_local i r q at own rest) more = one_local i r q at own (named_both rest more)

pub all_named : {t : ℕ} {refs : List (Handle × Option Ref)} {fs : List (List ℕ)} {gs : List (List LocalRef)}
    → AreFrames t refs fs gs → AreNamed t refs (flat_map (λ f. f) fs) (joined gs)
all_named no_frame = no_local
all_named (one_frame here rest) = named_both here (all_named rest)

-- so many stand in the frames before the last, and in the last
pub newest_held : {t : ℕ} {refs : List (Handle × Option Ref)} {fs : List (List ℕ)} {gs : List (List LocalRef)}
    → AreFrames t refs fs gs → sum_by length fs ≡ length (joined (frames_before gs)) + length (newest_frame fs)
newest_held {fs = fs} {gs = gs} f =
    let whole : sum_by length fs ≡ length (joined gs) = frames_held f in
    let both : length (joined gs) ≡ length (joined (frames_before gs)) + length (last_frame gs) =
    ap length (joined_before gs) ∙ length-append (joined (frames_before gs)) (last_frame gs) in
    let last : length (newest_frame fs) ≡ length (last_frame gs) = named_long (newest_named f) in
    omega arith

-- THEY STAY, and one comes, in the last frame

module _ {t : ℕ} {refs more : List (Handle × Option Ref)}
    (stay : (i : ℕ) (h : Handle) (q : Option Ref) → slice_get refs i ≡ Some (h, q)
    → (v : Option Ref) × (slice_get more i ≡ Some (h, v))) where
  pub named_stay : {is : List ℕ} {rs : List LocalRef} → AreNamed t refs is rs → AreNamed t more is rs
  named_stay no_local = no_local
  named_stay (one_local i r q at own rest) =
      let there = stay i r.handle q at in one_local i r there.0 there.1 own (named_stay rest)

  pub frames_stay : {fs : List (List ℕ)} {gs : List (List LocalRef)} → AreFrames t refs fs gs → AreFrames t more fs gs
  frames_stay no_frame = no_frame
  frames_stay (one_frame here rest) = one_frame (named_stay here) (frames_stay rest)

module _ {t : ℕ} {refs : List (Handle × Option Ref)} (i : ℕ) (r : LocalRef) (q : Option Ref)
    (at : slice_get refs i ≡ Some (r.handle, q)) (own : owner_of_handle r.handle ≡ Some t) where
  named_put : {is : List ℕ} {rs : List LocalRef} → AreNamed t refs is rs
      → AreNamed t refs (is ++ i ∷ []) (rs ++ r ∷ [])
  named_put no_local = one_local i r q at own no_local
  named_put (one_local j s v there his rest) = one_local j s v there his (named_put rest)

  pub frames_put : {fs : List (List ℕ)} {gs : List (List LocalRef)} → AreFrames t refs fs gs
      → AreFrames t refs (put_last fs i) (with_last gs r)
  frames_put no_frame = no_frame
  frames_put (one_frame here no_frame) = one_frame (named_put here) no_frame
  frames_put (one_frame here (one_frame next rest)) = one_frame here (frames_put (one_frame next rest))

-- PLACES

-- so many places are held, where no two references have one
held_places : (n : ℕ) (rs : List LocalRef) → HaveOwnPlaces rs → AllByRecursion (λ r. r.handle.index < n) rs
    → count_below n (is_held rs) ≡ length rs
held_places n [] apart small = count_all_false n (is_held []) (λ k l. refl)
held_places n (r ∷ rs) apart small =
    let e = sum_at n (λ p. bit (is_held rs p)) (λ p. bit (is_held (r ∷ rs) p)) r.handle.index small.0
    (λ j ne. ap bit (others j ne)) in
    let rest : count_below n (is_held rs) ≡ length rs = held_places n rs apart.1 small.1 in
    let was : bit (is_held rs r.handle.index) ≡ 0 = ap bit apart.0 in
    let is : bit (is_held (r ∷ rs) r.handle.index) ≡ 1 = ap bit here in
    omega arith
  where
    others : (j : ℕ) → r.handle.index ≢ j → is_held (r ∷ rs) j ≡ is_held rs j
    others j ne = rw (eq_other r.handle.index j ne) refl

    here : is_held (r ∷ rs) r.handle.index ≡ true
    here = rw (eq_self r.handle.index) refl

each_one : (n : ℕ) → sum_below n (λ p. 1) ≡ n
unfolding sum_below
each_one zero = refl
each_one (suc n) = let rest : sum_below n (λ p. 1) ≡ n = each_one n in omega arith

-- a place that has given a handle is one of those that there are
pub given_below : (given : List ℕ) (p n : ℕ) → slice_index given p ≡ n + 1 → p < length given
given_below [] p n e = absurd (omega arith)
given_below (x ∷ given) zero n e = omega arith
given_below (x ∷ given) (suc p) n e = let rest = given_below given p n e in omega arith

places_below : (f : Frames) (rs : List LocalRef) → AllByRecursion (IsNewest f) rs
    → AllByRecursion (λ r. r.handle.index < length f.given) rs
places_below f [] newest = tt
places_below f (r ∷ rs) newest =
    (given_below f.given r.handle.index r.handle.serial newest.0, places_below f rs newest.1)

-- every place is free or held, where no free one has given its last handle
pub all_places : (last : ℕ) (f : Frames) → AreSound f → FreeHaveSerials last f
    → free_places last f + length (all_refs f) ≡ length f.given
all_places last f sound few =
    let n = length f.given in
    let split : sum_below n (λ p. 1) ≡ count_below n (is_free last f) + count_below n (is_held (all_refs f)) =
    sum_split n (λ p. bit (is_free last f p)) (λ p. bit (is_held (all_refs f) p)) (λ p. 1) (λ p. one p) in
    let held : count_below n (is_held (all_refs f)) ≡ length (all_refs f) =
    held_places n (all_refs f) sound.apart (places_below f (all_refs f) sound.newest) in
    let ones : sum_below n (λ p. 1) ≡ n = each_one n in
    omega arith
  where
    one : (p : ℕ) → 1 ≡ bit (is_free last f p) + bit (is_held (all_refs f) p)
    one p = go (is_held (all_refs f) p) refl
      where
        go : (b : Bool) → is_held (all_refs f) p ≡ b
            → 1 ≡ bit (not b && nat_le (slice_index f.given p) last) + bit b
        go true e = refl
        go false e = let le : slice_index f.given p ≤ last = few p e in
            let is : nat_le (slice_index f.given p) last ≡ true = grind (arith, nat_tests) in rw is refl

-- THE ROOM: what is free and what is held are all places
pub places_taken : {t : ℕ} {refs : List (Handle × Option Ref)} {fs : List (List ℕ)} (last : ℕ) (f : Frames)
    → AreSound f → FreeHaveSerials last f → AreFrames t refs fs f.frames
    → free_places last f + sum_by length fs ≡ length f.given
places_taken {fs = fs} last f sound few frames =
    let taken : sum_by length fs ≡ length (all_refs f) = frames_held frames in
    let all : free_places last f + length (all_refs f) ≡ length f.given = all_places last f sound few in
    omega arith

-- there is no place for so many more
pub both_lack : (free taken places n : ℕ) → free + taken ≡ places → nat_lt free n ≡ nat_lt places (taken + n)
both_lack free taken places n is = grind (arith, nat_tests)

-- no place is left once those of a frame are free, where as many are held beside them as there are
pub both_full : (free rest newest all places : ℕ) → free + rest ≡ places → all ≡ rest + newest
    → (free == 0) ≡ (all == newest + places)
both_full free rest newest all places one two = grind (arith, nat_tests)
