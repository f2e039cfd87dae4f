-- The handles that were born: they are within the bounds of their room, and what stands at one of a thread's own places
-- is what its frames say.
use Rattle.std.proofs.Common.{◌≡◌, ◌<◌, ◌+◌, ◌==◌, ◌&&◌, ℕ, zero, suc, Bool, true, false, cond, not, nat_lt, Option}
use Rattle.std.proofs.Common.{Some, None, List, [], ◌∷◌, map, slice_get, slice_index, refl, sym, ap, subst, ◌∙◌, arith}
use Rattle.std.proofs.Common.{lt-ltb}
use Rattle.std.specs.List.{AllByRecursion}
use Rattle.jr_word.specs.declared.config.Config.{Config}
use Rattle.jr_word.specs.declared.handle.RefKind.TheVariants.{Local}
use Rattle.jr_model.specs.declared.event.Act.{Act}
use Rattle.jr_model.specs.declared.event.Act.TheVariants.{Create, Delete, Clear, LocalPut, LocalDrop}
use Rattle.jr_model.specs.declared.event.Found.{Found}
use Rattle.jr_model.specs.declared.event.Found.TheVariants.{Stale}
use Rattle.jr_model.specs.declared.frames.LocalRef.{LocalRef}
use Rattle.jr_model.specs.State.{Handle, State, opening, same_handle, same_kind}
use Rattle.jr_model.specs.Steps.{ActNeeds, IsInRow, after}
use Rattle.jr_model.specs.Frames.{Frames, IsNewest, all_refs, joined, object_of, object_where, stored_at}
use Rattle.jr_model.specs.History.{History, IsLegal, IsLegalFrom, mine, state}
use Rattle.jr_model.specs.Checks.{Parts, is_local, is_out_of_bounds}
use Rattle.jr_model.proofs.Agreement.{stored_append}
use Rattle.jr_model.proofs.Exactly.{append_all}
use Rattle.jr_model.proofs.Updates.{eq_false, eq_self, eq_true, handle_self, handle_true, kind_true, same_parts}
use Rattle.jr_world.specs.World.{Ref}
use Rattle.jr_world.specs.Births.{Births, births, births_from, born_by, emptied, found_in, found_at_place, gone_where}
use Rattle.jr_world.specs.Births.{is_at, no_births}
use Rattle.jr_world.proofs.Births.BornFound.{not_local}
use Rattle.jr_world.specs.Doing.{Shared}
use Rattle.jr_world.specs.Plays.{AreFrames, AreNamed, InStands, owner_of_handle}
use Rattle.jr_world.specs.Plays.AreNamed.{no_local, one_local}
use Rattle.jr_world.specs.Plays.AreFrames.{no_frame, one_frame}

-- WITHIN THE BOUNDS OF THE ROOM

-- of the handle of each it holds
abbrev EachHandle : (Handle → Type 0) → List (Handle × Option Ref) → Type 0
EachHandle P xs = AllByRecursion (λ (e : Handle × Option Ref). P e.0) xs

-- and goes on to hold, where each keeps its handle
same_handles : (P : Handle → Type 0) (f : Handle × Option Ref → Option Ref) (xs : List (Handle × Option Ref))
    → EachHandle P xs → EachHandle P (map (λ e. (e.0, f e)) xs)
same_handles P f [] all = tt
same_handles P f (x ∷ xs) all = (all.0, same_handles P f xs all.1)

at_all : {X : Type 0} (P : X → Type 0) (xs : List X) (i : ℕ) (x : X) → AllByRecursion P xs
    → slice_get xs i ≡ Some x → P x
at_all P [] i x all e = absurd cc
at_all P (y ∷ xs) zero x all e = subst P (let same : y ≡ x = cc in same) all.0
at_all P (y ∷ xs) (suc i) x all e = at_all P xs i x all.1 e

module _ (c : Config) (last : ℕ) where
  abbrev IsWithin : Handle → Type 0
  IsWithin h = is_out_of_bounds c (Parts h) ≡ false

  row_within : (h : Handle) → IsInRow c last h → IsWithin h
  row_within h row =
      ap (λ b. cond b (not (nat_lt h.index c.locals && nat_lt h.owner c.threads)) (not (nat_lt h.index c.slots)))
      (not_local h row.0) ∙ ap not (lt-ltb h.index c.slots row.2)

  place_within : (t p : ℕ) → p < c.locals → t < c.threads → not (nat_lt p c.locals && nat_lt t c.threads) ≡ false
  place_within t p l small = ap (λ b. not (b && nat_lt t c.threads)) (lt-ltb p c.locals l)
      ∙ ap not (lt-ltb t c.threads small)

  within_act : (b : Births) (s : State) (t : ℕ) (a : Act) → EachHandle IsWithin b.refs → t < c.threads
      → ActNeeds c last s t a → EachHandle IsWithin (born_by b t a).refs
  within_act b s t (Create h o) all small n =
      append_all (λ (e : Handle × Option Ref). IsWithin e.0) b.refs _ all (row_within h n.2, tt)
  within_act b s t (Delete h) all small n =
      same_handles IsWithin (λ e. cond (same_handle h e.0) None e.1) b.refs all
  within_act b s t (Clear h) all small n =
      same_handles IsWithin (λ e. cond (same_handle h e.0) (emptied e.1) e.1) b.refs all
  within_act b s t (LocalPut p o) all small n =
      append_all (λ (e : Handle × Option Ref). IsWithin e.0) (gone_where (is_at t p) b.refs) _
      (same_handles IsWithin (λ e. cond (is_at t p e.0) None e.1) b.refs all) (place_within t p n.1 small, tt)
  within_act b s t (LocalDrop p) all small n =
      same_handles IsWithin (λ e. cond (is_at t p e.0) None e.1) b.refs all
  within_act b s t _ all small n = all

  within_along : (b : Births) (s : State) (es : History) → EachHandle IsWithin b.refs
      → IsLegalFrom c last s es → EachHandle IsWithin (births_from b es).refs
  within_along b s [] all legal = all
  within_along b s (e ∷ es) all legal = within_along (born_by b e.thread e.act) (after s e) es
      (within_act b s e.thread e.act all legal.0.0 legal.0.1) legal.1

  -- a handle that was born is within the bounds of the room
  pub born_within : (es : History) → IsLegal c last es → (i : ℕ) (h : Handle) (q : Option Ref)
      → slice_get (births es).refs i ≡ Some (h, q) → is_out_of_bounds c (Parts h) ≡ false
  born_within es legal i h q e =
      at_all (λ (e : Handle × Option Ref). IsWithin e.0) (births es).refs i (h, q)
      (within_along no_births opening es tt legal) e

-- HOW MANY HANDLES A PLACE HAS GIVEN

-- the act, where its thread is this one
abbrev its_own : ℕ → ℕ → Act → List Act
its_own u t a = cond (u == t) (a ∷ []) []

none_stored : (p : ℕ) (b : Bool) (a : Act) → ((acts : List Act) → stored_at p (a ∷ acts) ≡ stored_at p acts)
    → stored_at p (cond b (a ∷ []) []) ≡ 0
none_stored p true a none = none []
none_stored p false a none = refl

puts_act : (b : Births) (u : ℕ) (a : Act) (t p : ℕ)
    → (born_by b u a).puts t p ≡ b.puts t p + stored_at p (its_own u t a)
puts_act b u (LocalPut q o) t p = go (u == t) refl
  where
    here : (d : Bool) → u ≡ t → (q == p) ≡ d → cond d (suc (b.puts u q)) (b.puts u p) ≡ b.puts t p + (cond d 1 0 + 0)
    here true same at =
        let one : b.puts u q ≡ b.puts t p = ap (λ z. b.puts z q) same ∙ ap (b.puts t) (eq_true q p at) in omega arith
    here false same at = let one : b.puts u p ≡ b.puts t p = ap (λ z. b.puts z p) same in omega arith

    go : (d : Bool) → (u == t) ≡ d → cond d (λ j. cond (q == j) (suc (b.puts u q)) (b.puts u j)) (b.puts t) p
        ≡ b.puts t p + stored_at p (cond d (LocalPut q o ∷ []) [])
    go true same = here (q == p) (eq_true u t same) refl
    go false other = omega arith
puts_act b u a t p = let none = none_stored p (u == t) a (λ acts. refl) in omega arith

own_first : (p : ℕ) (d : Bool) (a : Act) (acts : List Act)
    → stored_at p (cond d (a ∷ acts) acts) ≡ stored_at p (cond d (a ∷ []) []) + stored_at p acts
own_first p true a acts = stored_append p (a ∷ []) acts
own_first p false a acts = omega arith

puts_along : (b : Births) (es : History) (t p : ℕ) → (births_from b es).puts t p ≡ b.puts t p + stored_at p (mine es t)
puts_along b [] t p = omega arith
puts_along b (e ∷ es) t p =
    let rest = puts_along (born_by b e.thread e.act) es t p in
    let here = puts_act b e.thread e.act t p in
    let split = own_first p (e.thread == t) e.act (mine es t) in
    omega arith

-- each place has given as many as its thread stored there
pub puts_are_own : (es : History) (t p : ℕ) → (births es).puts t p ≡ stored_at p (mine es t)
puts_are_own es t p =
    let is : (births es).puts t p ≡ 0 + stored_at p (mine es t) = puts_along no_births es t p in omega arith

-- WHAT STANDS AT A THREAD'S OWN HANDLE

named_own : {t : ℕ} {refs : List (Handle × Option Ref)} {is : List ℕ} {rs : List LocalRef} → AreNamed t refs is rs
    → AllByRecursion (λ r. owner_of_handle r.handle ≡ Some t) rs
named_own no_local = tt
named_own (one_local i r q at own rest) = (own, named_own rest)

-- all references of its frames are its own
frames_own : {t : ℕ} {refs : List (Handle × Option Ref)} {is : List (List ℕ)} {rs : List (List LocalRef)}
    → AreFrames t refs is rs → AllByRecursion (λ r. owner_of_handle r.handle ≡ Some t) (joined rs)
frames_own no_frame = tt
frames_own {t} (one_frame {rs = rs} {gs = gs} here rest) =
    append_all (λ r. owner_of_handle r.handle ≡ Some t) rs (joined gs) (named_own here) (frames_own rest)

-- whose a reference is
pub own_is_local : (h : Handle) (t : ℕ) → owner_of_handle h ≡ Some t → (h.kind ≡ Local) × (h.owner ≡ t)
own_is_local h t e = go (is_local h) refl e
  where
    go : (b : Bool) → is_local h ≡ b → ◌≡◌ {A = Option ℕ} (cond b (Some h.owner) None) (Some t)
        → (h.kind ≡ Local) × (h.owner ≡ t)
    go true is e = (sym (kind_true Local h.kind is), cc)
    go false is e = absurd cc

module _ (f : Frames) (t : ℕ) (h : Handle) (own : owner_of_handle h ≡ Some t) where
  -- it is the last handle that its place has given
  abbrev is_last : Bool
  is_last = suc h.serial == slice_index f.given h.index

  here_or_not : (r : LocalRef) → IsNewest f r → owner_of_handle r.handle ≡ Some t → is_last ≡ true
      → (r.handle.index == h.index) ≡ same_handle r.handle h
  here_or_not r newest his last = go (r.handle.index == h.index) refl
    where
      go : (b : Bool) → (r.handle.index == h.index) ≡ b → b ≡ same_handle r.handle h
      go true at =
          let index : r.handle.index ≡ h.index = eq_true r.handle.index h.index at in
          let given : slice_index f.given r.handle.index ≡ slice_index f.given h.index =
          ap (slice_index f.given) index in
          let serials : suc h.serial ≡ slice_index f.given h.index =
          eq_true (suc h.serial) (slice_index f.given h.index) last in
          let newest : slice_index f.given r.handle.index ≡ r.handle.serial + 1 = newest in
          let serial : r.handle.serial ≡ h.serial = omega arith in
          let a = own_is_local r.handle t his in
          let b = own_is_local h t own in
          let same : r.handle ≡ h = same_parts r.handle.kind h.kind r.handle.serial h.serial r.handle.index h.index
          r.handle.owner h.owner (a.0 ∙ sym b.0) serial index (a.1 ∙ sym b.1) in
          sym (ap (λ z. same_handle z h) same ∙ handle_self h)
      go false away = other (same_handle r.handle h) refl
        where
          other : (d : Bool) → same_handle r.handle h ≡ d → false ≡ d
          other true same = absurd (let at : (r.handle.index == h.index) ≡ true =
              ap (λ (z : Handle). z.index == h.index) (handle_true r.handle h same) ∙ eq_self h.index in cc)
          other false same = refl

  -- a handle that is not the last of its place is none of a newest reference
  never_here : (r : LocalRef) → IsNewest f r → is_last ≡ false → same_handle r.handle h ≡ false
  never_here r newest old = go (same_handle r.handle h) refl
    where
      go : (b : Bool) → same_handle r.handle h ≡ b → b ≡ false
      go true same = absurd (
          let is : r.handle ≡ h = handle_true r.handle h same in
          let given : slice_index f.given h.index ≡ h.serial + 1 =
          subst (λ (z : Handle). slice_index f.given z.index ≡ z.serial + 1) is newest in
          eq_false (suc h.serial) (slice_index f.given h.index) old (omega arith))
      go false same = refl

  at_place : (rs : List LocalRef) → AllByRecursion (IsNewest f) rs
      → AllByRecursion (λ r. owner_of_handle r.handle ≡ Some t) rs
      → is_last ≡ true
      → object_where (λ r. r.handle.index == h.index) rs ≡ object_where (λ r. same_handle r.handle h) rs
  at_place [] newest his last = refl
  at_place (r ∷ rs) newest his last =
      ap (λ b. cond b (Some r.object) (object_where (λ r. r.handle.index == h.index) rs))
      (here_or_not r newest.0 his.0 last)
      ∙ ap (λ z. cond (same_handle r.handle h) (Some r.object) z) (at_place rs newest.1 his.1 last)

  at_none : (rs : List LocalRef) → AllByRecursion (IsNewest f) rs → is_last ≡ false
      → object_where (λ r. same_handle r.handle h) rs ≡ None
  at_none [] newest old = refl
  at_none (r ∷ rs) newest old =
      ap (λ b. cond b (Some r.object) (object_where (λ r. same_handle r.handle h) rs)) (never_here r newest.0 old)
      ∙ at_none rs newest.1 old

  -- what stands at the handle is what the frames have
  found_own : (b : Births) (s : State) → ((p : ℕ) → b.puts t p ≡ slice_index f.given p)
      → ((p : ℕ) → s.locals t p ≡ object_where (λ r. r.handle.index == p) (all_refs f))
      → AllByRecursion (IsNewest f) (all_refs f) → AllByRecursion (λ r. owner_of_handle r.handle ≡ Some t) (all_refs f)
      → found_in b s h ≡ found_at_place (object_of f h)
  found_own b s puts locals newest his =
      let o = own_is_local h t own in
      ap (λ k. cond (same_kind Local k) place (s.refs h)) o.0
      ∙ ap (λ u. cond (suc h.serial == b.puts u h.index) (found_at_place (s.locals u h.index)) Stale) o.1
      ∙ ap (λ z. cond (suc h.serial == z) (found_at_place (s.locals t h.index)) Stale) (puts h.index)
      ∙ ap (λ z. cond is_last (found_at_place z) Stale) (locals h.index)
      ∙ go is_last refl
    where
      place : Found
      place = cond (suc h.serial == b.puts h.owner h.index) (found_at_place (s.locals h.owner h.index)) Stale

      go : (d : Bool) → is_last ≡ d
          → cond d (found_at_place (object_where (λ r. r.handle.index == h.index) (all_refs f))) Stale
          ≡ found_at_place (object_of f h)
      go true last = ap found_at_place (at_place (all_refs f) newest his last)
      go false old = ap found_at_place (sym (at_none (all_refs f) newest old))

-- the same where what is shared stands
pub own_stands : (c : Config) (t : ℕ) (now : History) (f : Frames) {s : Shared} → InStands c t now f s
    → (h : Handle)
    → owner_of_handle h ≡ Some t → found_in (births now) (state now) h ≡ found_at_place (object_of f h)
own_stands c t now f st h own = found_own f t h own (births now) (state now)
    (λ p. puts_are_own now t p ∙ sym (st.agreed.given p)) st.agreed.locals st.sound.newest (frames_own st.frames)
