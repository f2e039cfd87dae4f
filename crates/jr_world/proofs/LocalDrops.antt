-- Local references that go: what stands behind the step that takes one away, and a deletion by its own call.
use Rattle.std.proofs.Common.{◌≡◌, ◌≢◌, ◌⊎◌, inl, inr, ℕ, zero, suc, ◌+◌, ◌==◌, ◌&&◌, Bool, true, false, cond, not}
use Rattle.std.proofs.Common.{Option, Some, None, IsSome, is_some, Result, Ok, Err, List, [], ◌∷◌, ◌++◌, map}
use Rattle.std.proofs.Common.{slice_get, slice_index, slice_index_or, slice_set, refl, sym, ap, subst, ◌∙◌, arith}
use Rattle.std.specs.List.{AllByRecursion, filter}
use Rattle.std.proofs.lemmas.List.{length-set}
use mathlib.Core.List.{IsPrefix}
use Rattle.jr_word.specs.declared.fault.Fault.{Fault}
use Rattle.jr_word.specs.declared.fault.Fault.TheVariants as fault
use Rattle.jr_word.specs.declared.handle.RefKind.TheVariants.{Local}
use Rattle.jr_model.specs.declared.event.Act.{Act}
use Rattle.jr_model.specs.declared.event.Act.TheVariants.{LocalDrop}
use Rattle.jr_model.specs.declared.event.Found.TheVariants.{Object}
use Rattle.jr_model.specs.declared.frames.LocalRef.{LocalRef}
use Rattle.jr_model.specs.State.{Handle, State, same_handle, same_kind}
use Rattle.jr_model.specs.Checks.{Word, Malformed, Nothing, Parts, is_foreign, is_local, is_malformed, is_of_kind}
use Rattle.jr_model.specs.Checks.{is_out_of_bounds}
use Rattle.jr_model.specs.Calls as calls
use Rattle.jr_model.specs.Parts.{delete_local_at, drop_local, found_object, local_answer, local_object, look, looked_at}
use Rattle.jr_model.specs.References as references
use Rattle.jr_model.specs.Programs.{Which, nothing}
use Rattle.jr_model.specs.Programs.Ending.{deletes_local}
use Rattle.jr_model.specs.Frames.{Frames, IsNewest, all_refs, deletes, object_of, object_where, without_local}
use Rattle.jr_model.specs.History.{History, by, state}
use Rattle.jr_model.proofs.Agreement.{deleted_sound, other_than}
use Rattle.jr_model.proofs.Updates.{eq_false, eq_self, eq_true, handle_self, handle_true, same_parts}
use Rattle.jr_world.specs.World.{Ref, World, change, delete, goes_on as going_on, object_in, removed, standing_at}
use Rattle.jr_world.specs.Births.{Births, IsAs, RefIsSo, births, found_in, found_at_place, gone_where, is_at}
use Rattle.jr_world.specs.Doing.{Shared, as_left, as_seen, atom, deleted_in_steps, unless_refused}
use Rattle.jr_world.specs.Doing.Doing.{ended}
use Rattle.jr_world.specs.Plays.{AreFrames, AreNamed, ActsNext, Plays, InStands, owner_of_handle, OthersGoOn}
use Rattle.jr_world.specs.Plays.{SharedStands}
use Rattle.jr_world.specs.Plays.Plays.{has_ended}
use Rattle.jr_world.specs.Plays.AreFrames.{no_frame, one_frame}
use Rattle.jr_world.specs.Plays.AreNamed.{no_local, one_local}
use Rattle.jr_world.specs.Playing.{AnsweredBy, WordIs}
use Rattle.jr_world.proofs.BornHandles.{own_is_local, own_stands}
use Rattle.jr_world.proofs.Births.BornLists.{map_get, some_same}
use Rattle.jr_world.proofs.Standing.{both_long, no_more_owners, seen_stands}
use Rattle.jr_world.proofs.InStay.{EndingPlays, IsAt, Scene, Then, at_births, at_next, at_now, at_within}
use Rattle.jr_world.proofs.LocalFrames.{frames_stay}
use Rattle.jr_world.proofs.LocalPlays.{at_owned, gone_same, gone_told, left_frames, moved_agreed, moves_by, does_by}
use Rattle.jr_world.proofs.LocalPlays.{stands_then}
use Rattle.jr_world.proofs.NamedPlays.{own_or, own_stage, owner_is, passed_then, ref_is, tested_then, word_then}
use Rattle.jr_world.proofs.NamedPlays.{word_within, ComesTo, WasRefused, word_later}
use Rattle.jr_world.proofs.OpenParts.{seen_in}
use Rattle.one_order.specs.Orders.{Item}
use Rattle.one_order.specs.Orders.Item.{does as acting}

-- WHAT IS TOLD of a reference that stands
pub there_told : (b : Births) (s : State) → IsAs b s → (i : ℕ) (h : Handle) (q : Option Ref) (o : ℕ)
    → slice_get b.refs i ≡ Some (h, q) → found_in b s h ≡ Object o → (r : Ref) × (q ≡ Some r)
there_told b s all i h q o e found = go q (subst (RefIsSo b.objects h.kind q) found (all.told i h q e))
  where
    go : (q : Option Ref) → RefIsSo b.objects h.kind q (Object o) → (r : Ref) × (q ≡ Some r)
    go None so = absurd so
    go (Some r) so = (r, refl)

-- a handle that stands is the last that its place has given
pub newest_of : (f : Frames) (h : Handle) (rs : List LocalRef) → AllByRecursion (IsNewest f) rs
    → IsSome (object_where (λ r. same_handle r.handle h) rs) → slice_index f.given h.index ≡ h.serial + 1
newest_of f h [] newest stands = absurd cc
newest_of f h (x ∷ rs) newest stands = go (same_handle x.handle h) refl stands (newest_of f h rs newest.1)
  where
    go : (b : Bool) → same_handle x.handle h ≡ b
        → IsSome (cond b (Some x.object) (object_where (λ r. same_handle r.handle h) rs))
        → (IsSome (object_where (λ r. same_handle r.handle h) rs) → slice_index f.given h.index ≡ h.serial + 1)
        → slice_index f.given h.index ≡ h.serial + 1
    go true is s rest =
        subst (λ (k : Handle). slice_index f.given k.index ≡ k.serial + 1) (handle_true x.handle h is) newest.0
    go false is s rest = rest s

-- LISTS OF WHAT WAS BORN, without one that stood

one_gone : (p : Handle → Bool) (xs : List (Handle × Option Ref)) (i : ℕ) (h : Handle) (q : Option Ref)
    → slice_get xs i ≡ Some (h, q) → p h ≡ true
    → ((j : ℕ) (g : Handle) (v : Option Ref) → slice_get xs j ≡ Some (g, v) → p g ≡ true → i ≢ j → v ≡ None)
    → slice_set (map (λ e. e.1) xs) i None ≡ map (λ e. e.1) (gone_where p xs)
one_gone p [] i h q e here others = absurd cc
one_gone p (x ∷ xs) zero h q e here others =
    let first : p x.0 ≡ true = ap p (ap (λ (z : Handle × Option Ref). z.0) (some_same x (h, q) e)) ∙ here in
    ap (λ l. None ∷ map (λ e. e.1) l) (sym (gone_same p xs (λ j g v at there. others (suc j) g v at there
    (λ z. absurd cc))))
    ∙ ap (λ b. cond b None x.1 ∷ map (λ e. e.1) (gone_where p xs)) (sym first)
one_gone p (x ∷ xs) (suc i) h q e here others =
    ap (λ l. x.1 ∷ l) (one_gone p xs i h q e here (λ j g v at there ne. others (suc j) g v at there
    (λ z. ne (minus z))))
    ∙ ap (λ v. v ∷ map (λ e. e.1) (gone_where p xs)) (go (p x.0) refl)
  where
    minus : {m n : ℕ} → suc m ≡ suc n → m ≡ n
    minus z = omega arith

    go : (b : Bool) → p x.0 ≡ b → x.1 ≡ cond b None x.1
    go true is = others 0 x.0 x.1 refl is (λ z. absurd cc)
    go false is = refl

owners_stay : (p : Handle → Bool) (xs : List (Handle × Option Ref))
    → map (λ e. owner_of_handle e.0) xs ≡ map (λ e. owner_of_handle e.0) (gone_where p xs)
owners_stay p [] = refl
owners_stay p (x ∷ xs) = ap (λ l. owner_of_handle x.0 ∷ l) (owners_stay p xs)

-- FRAMES WITHOUT A REFERENCE
module _ (t : ℕ) (refs : List (Handle × Option Ref)) (i : ℕ) (h : Handle) (q : Option Ref)
    (at : slice_get refs i ≡ Some (h, q))
    (once : (j : ℕ) (v : Option Ref) → slice_get refs j ≡ Some (h, v) → i ≡ j) where
  same_test : (r : LocalRef) (j : ℕ) (v : Option Ref) → slice_get refs j ≡ Some (r.handle, v)
      → (j == i) ≡ same_handle r.handle h
  same_test r j v there = go (j == i) refl (same_handle r.handle h) refl
    where
      go : (b : Bool) → (j == i) ≡ b → (d : Bool) → same_handle r.handle h ≡ d → b ≡ d
      go true e true same = refl
      go false e false same = refl
      go true e false same = absurd (
          let one : slice_get refs i ≡ Some (r.handle, v) = ap (slice_get refs) (sym (eq_true j i e)) ∙ there in
          let is : r.handle ≡ h =
          ap (λ (z : Handle × Option Ref). z.0) (some_same (r.handle, v) (h, q) (sym one ∙ at)) in
          let self : same_handle r.handle h ≡ true = ap (λ z. same_handle z h) is ∙ handle_self h in cc)
      go false e true same = absurd (eq_false j i e (sym (once j v
          (there ∙ ap (λ z. Some (z, v)) (handle_true r.handle h same)))))

  named_less : {is : List ℕ} {rs : List LocalRef} → AreNamed t refs is rs
      → AreNamed t refs (filter (λ j. not (j == i)) is) (filter (other_than h) rs)
  named_less no_local = no_local
  named_less (one_local {is = is} {rs = rs} j r v there own rest) =
      go (j == i) (same_handle r.handle h) (same_test r j v there) (named_less rest)
    where
      go : (b d : Bool) → b ≡ d → AreNamed t refs (filter (λ j. not (j == i)) is) (filter (other_than h) rs)
          → AreNamed t refs (cond (not b) (j ∷ filter (λ j. not (j == i)) is) (filter (λ j. not (j == i)) is))
          (cond (not d) (r ∷ filter (other_than h) rs) (filter (other_than h) rs))
      go true true e less = less
      go false false e less = one_local j r v there own less
      go _ _ e less = absurd cc

  frames_less : {fs : List (List ℕ)} {gs : List (List LocalRef)} → AreFrames t refs fs gs
      → AreFrames t refs (map (filter (λ j. not (j == i))) fs) (map (filter (other_than h)) gs)
  frames_less no_frame = no_frame
  frames_less (one_frame here rest) = one_frame (named_less here) (frames_less rest)

-- ONE GOES
module _ (k : Scene) (now : History) (f : Frames) (s : Shared) (luck : Bool) (i : ℕ) (h : Handle) (q : Option Ref)
    (begins : IsPrefix (now ++ by k.thread (LocalDrop h.index) ∷ []) k.whole)
    (st : InStands k.config k.thread now f s)
    (all : IsAs (births now) (state now)) (at : slice_get (births now).refs i ≡ Some (h, q))
    (own : owner_of_handle h ≡ Some k.thread) (stands : IsSome (object_of f h)) where
  here_at : is_at k.thread h.index h ≡ true
  here_at =
      let o = own_is_local h k.thread own in
      ap (λ z. same_kind Local z && ((k.thread == h.owner) && (h.index == h.index))) o.0
      ∙ ap (λ u. (k.thread == u) && (h.index == h.index)) o.1
      ∙ ap (λ b. b && (h.index == h.index)) (eq_self k.thread) ∙ eq_self h.index

  -- what else was at its place is gone
  others_gone : (j : ℕ) (g : Handle) (v : Option Ref) → slice_get (births now).refs j ≡ Some (g, v)
      → is_at k.thread h.index g ≡ true → i ≢ j → v ≡ None
  others_gone j g v e there ne = go (object_of f g) refl
    where
      owned : (owner_of_handle g ≡ Some k.thread) × (g.index ≡ h.index)
      owned = at_owned k.thread h.index g there

      go : (x : Option ℕ) → object_of f g ≡ x → v ≡ None
      go None is = gone_told (births now) (state now) all j g v e
          (own_stands k.config k.thread now f st g owned.0 ∙ ap found_at_place is)
      go (Some o) is = absurd (ne (
          let mine : slice_index f.given h.index ≡ h.serial + 1 = newest_of f h (all_refs f) st.sound.newest stands in
          let theirs : slice_index f.given g.index ≡ g.serial + 1 =
          newest_of f g (all_refs f) st.sound.newest (ap is_some is) in
          let place : slice_index f.given g.index ≡ slice_index f.given h.index = ap (slice_index f.given) owned.1 in
          let serial : g.serial ≡ h.serial = omega arith in
          let a = own_is_local g k.thread owned.0 in
          let b = own_is_local h k.thread own in
          let same : g ≡ h = same_parts g.kind h.kind g.serial h.serial g.index h.index g.owner h.owner
          (a.0 ∙ sym b.0) serial owned.1 (a.1 ∙ sym b.1) in
          all.one_ref i j h q v at (e ∙ ap (λ z. Some (z, v)) same)))

  pub drop_stands : InStands k.config k.thread (now ++ by k.thread (LocalDrop h.index) ∷ []) (without_local f h)
      (as_left k.thread s (removed i (as_seen k.thread s)))
  drop_stands = stands_then k.config k.thread now (LocalDrop h.index) (without_local f h)
      (as_left k.thread s (removed i (as_seen k.thread s)))
      st.objects
      (ap (λ l. slice_set l i None) st.refs
      ∙ one_gone (is_at k.thread h.index) (births now).refs i h q at here_at others_gone)
      (no_more_owners k.config k.thread now f s (slice_set s.refs i None)
      (length-set s.refs i None ∙ both_long k.config k.thread now f s st)
      ∙ st.owners ∙ owners_stay (is_at k.thread h.index) (births now).refs)
      st.used st.many st.roles
      (length-set s.frames k.thread (map (filter (λ m. not (m == i))) (slice_index_or s.frames k.thread [])) ∙ st.lists)
      (left_frames k.thread (gone_where (is_at k.thread h.index) (births now).refs) s
      (removed i (as_seen k.thread s)) (without_local f h).frames
      (let l = st.lists in let small = k.small in omega arith)
      (frames_stay (λ j g v e. (
        _,
        map_get (λ x. (x.0, cond (is_at k.thread h.index x.0) None x.1)) (births now).refs j
            (g, v) e,
      ))
      (frames_less k.thread (births now).refs i h q at (λ j v e. all.one_ref i j h q v at e) st.frames)))
      st.posted st.places
      (moved_agreed k now (LocalDrop h.index) f (without_local f h) begins st.sound st.agreed (deletes h stands))
      (deleted_sound f h st.sound)

-- THE WORLD'S DELETION
delete_none : (i : ℕ) (w : World) → standing_at w.refs i ≡ None
    → ◌≡◌ {A = Result (Unit {0}) Fault × World} (delete (suc i) w) (Err fault.Stale, w)
delete_none i w e = ap (λ z. going_on (λ o. change (removed i)) (object_in z, w)) e

delete_some : (i : ℕ) (w : World) (r : Ref) → standing_at w.refs i ≡ Some r
    → ◌≡◌ {A = Result (Unit {0}) Fault × World} (delete (suc i) w) (Ok tt, removed i w)
delete_some i w r e = ap (λ z. going_on (λ o. change (removed i)) (object_in z, w)) e

-- THE MODEL'S DELETION of an own local reference: it stands and goes, or it doesn't
abbrev pub Deletes : Handle → Frames → List Act → Result (Unit {0}) Fault → Frames → Type 0
Deletes h f acts answer g = ((object_of f h ≡ None) × (acts ≡ []) × (answer ≡ Err fault.Stale) × (g ≡ f))
    ⊎ (IsSome (object_of f h) × (acts ≡ LocalDrop h.index ∷ []) × (answer ≡ Ok tt) × (g ≡ without_local f h))

looked_local : (h : Handle) (f g : Frames) (acts : List Act) (x : Result (Option ℕ) Fault) → is_local h ≡ true
    → looked_at h f acts x g → (acts ≡ []) × (x ≡ local_answer (object_of f h)) × (g ≡ f)
looked_local h f g acts x local did = subst (λ b. cond b (λ old. local_object (object_of old h) old)
    (calls.◌>>=◌ (look h) found_object) f acts x g) local did

deletes_so : (h : Handle) (f g : Frames) (acts : List Act) (answer : Result (Unit {0}) Fault) → is_local h ≡ true
    → calls.◌>>◌ (looked_at h) (drop_local h) f acts answer g → Deletes h f acts answer g
deletes_so h f g acts answer local (inl d) = go (object_of f h) refl
  where
    looked : (d.2 ≡ []) × (Ok d.0 ≡ local_answer (object_of f h)) × (d.1 ≡ f)
    looked = looked_local h f d.1 d.2 (Ok d.0) local d.5

    go : (z : Option ℕ) → object_of f h ≡ z → Deletes h f acts answer g
    go None none = absurd (let bad = looked.1 ∙ ap local_answer none in cc)
    go (Some o) some = inr (
      ap is_some some,
      d.4 ∙ ap (λ l. l ++ d.3) looked.0 ∙ d.6.0,
      d.6.1,
      d.6.2 ∙ ap (λ e. without_local e h) looked.2,
    )
deletes_so h f g acts answer local (inr d) = go (object_of f h) refl
  where
    looked : (acts ≡ []) × (Err d.0 ≡ local_answer (object_of f h)) × (g ≡ f)
    looked = looked_local h f g acts (Err d.0) local d.2

    go : (z : Option ℕ) → object_of f h ≡ z → Deletes h f acts answer g
    go (Some o) some = absurd (let bad = looked.1 ∙ ap local_answer some in cc)
    go None none =
        let is : d.0 ≡ fault.Stale = (let e = looked.1 ∙ ap local_answer none in cc) in
        inl (none, looked.0, d.1 ∙ ap (λ e. Err e) is, looked.2)

module _ (k : Scene) where
  module _ (answer : Result (Unit {0}) Fault) (g : Frames) (behind : List (Item Act)) where
    -- the deletion finds nothing
    finds_none : (i : ℕ) (h : Handle) (past : History) → IsAt k past [] → WordIs past (Parts h) (suc i)
        → owner_of_handle h ≡ Some k.thread → object_of g h ≡ None → answer ≡ Err fault.Stale
        → Plays k.config k.whole k.thread (Then k nothing answer) g behind (atom (delete (suc i))) past g []
    finds_none i h past at word own none is = moves_by k.config k.whole k.thread (Then k nothing answer) g behind
        (delete (suc i)) (λ r. ended r) past g g [] (λ s. Err fault.Stale) (λ s. as_seen k.thread s)
        (λ now s goes st.
        let there = at_now k past now [] at goes in
        let w = word_then k past now (Parts h) (suc i) goes word in
        let gone : w.0 ≡ None = gone_told (births now) (state now) (at_births k now [] there) i h w.0 w.1
        (own_stands k.config k.thread now g (born now s goes st) h own ∙ ap found_at_place none) in (
          delete_none i (as_seen k.thread s)
              (ref_is k.config k.thread now g s (born now s goes st) i h w.0 w.1 ∙ gone),
          seen_stands k.config k.thread now g s st,
        ))
        (λ now s goes st. has_ended (Err fault.Stale) (let there = at_now k past now [] at goes in
        (there.stays, there.begins, subst (λ z. AnsweredBy nothing z now (Err fault.Stale)) (sym is) refl)))
      where
        born : (now : History) (s : Shared) → OthersGoOn k.config k.whole k.thread past now
            → SharedStands k.config k.thread now g s → InStands k.config k.thread now g s
        born now s goes st = seen_in k.config k.last k.whole k.thread k.legal (at_within k past [] at) now s
            goes st

  -- what a step that takes a reference away finds and leaves
  pub drop_finds : (i : ℕ) (h : Handle) (past now : History) (f : Frames) (s : Shared) (acts : List Act)
      → IsAt k past (LocalDrop h.index ∷ acts) → WordIs past (Parts h) (suc i) → owner_of_handle h ≡ Some k.thread
      → IsSome (object_of f h) → ActsNext k.config k.whole k.thread past now (LocalDrop h.index)
      → InStands k.config k.thread now f s
      → ((r : Ref) × (standing_at s.refs i ≡ Some r))
      × InStands k.config k.thread (now ++ by k.thread (LocalDrop h.index) ∷ []) (without_local f h)
      (as_left k.thread s (removed i (as_seen k.thread s)))
  drop_finds i h past now f s acts at word own stands next st =
      let there = at_now k past now (LocalDrop h.index ∷ acts) at next.goes in
      let all = at_births k now (LocalDrop h.index ∷ acts) there in
      let w = word_then k past now (Parts h) (suc i) next.goes word in
      let r = found (object_of f h) refl stands all w.0 w.1 in (
        (r.0, ref_is k.config k.thread now f s st i h w.0 w.1 ∙ r.1),
        drop_stands k now f s true i h w.0 next.next st all w.1 own stands,
      )
    where
      found : (z : Option ℕ) → object_of f h ≡ z → IsSome z → IsAs (births now) (state now) → (q : Option Ref)
          → slice_get (births now).refs i ≡ Some (h, q) → (r : Ref) × (q ≡ Some r)
      found None is some all q e = absurd cc
      found (Some o) is some all q e = there_told (births now) (state now) all i h q o e
          (own_stands k.config k.thread now f st h own ∙ ap found_at_place is)

module _ (k : Scene) (answer : Result (Unit {0}) Fault) (g : Frames) (behind : List (Item Act)) where
  -- there is nothing to delete
  null_plays : (past : History) → IsAt k past [] → answer ≡ Ok tt
      → Plays k.config k.whole k.thread (Then k nothing answer) g behind (atom (delete 0)) past g []
  null_plays past at is = moves_by k.config k.whole k.thread (Then k nothing answer) g behind (delete 0)
      (λ r. ended r) past g g [] (λ s. Ok tt) (λ s. as_seen k.thread s)
      (λ now s goes st. (refl, seen_stands k.config k.thread now g s st))
      (λ now s goes st. has_ended (Ok tt) (let there = at_now k past now [] at goes in
      (there.stays, there.begins, subst (λ z. AnsweredBy nothing z now (Ok tt)) (sym is) tt)))

  -- the reference stands, and goes
  finds_some : (i : ℕ) (h : Handle) (past : History) (f : Frames) → IsAt k past (LocalDrop h.index ∷ [])
      → WordIs past (Parts h) (suc i) → owner_of_handle h ≡ Some k.thread → IsSome (object_of f h) → answer ≡ Ok tt
      → g ≡ without_local f h
      → Plays k.config k.whole k.thread (Then k nothing answer) g behind (atom (delete (suc i))) past f
      (acting (LocalDrop h.index) ∷ [])
  finds_some i h past f at word own stands is frames =
      subst (λ e. Plays k.config k.whole k.thread (Then k nothing answer) e behind (atom (delete (suc i))) past f
      (acting (LocalDrop h.index) ∷ [])) (sym frames)
      (does_by k.config k.whole k.thread (Then k nothing answer) (without_local f h) behind (delete (suc i))
      (λ r. ended r) past f (without_local f h) [] (λ s. Ok tt) (λ s. removed i (as_seen k.thread s))
      (LocalDrop h.index) k.last k.legal (at_within k past (LocalDrop h.index ∷ []) at) refl
      (λ now s next st. let does_so = drop_finds k i h past now f s [] at word own stands next st in
      (delete_some i (as_seen k.thread s) does_so.0.0 does_so.0.1, does_so.1))
      (λ now s next st. has_ended (Ok tt) (let then = at_next k past now (LocalDrop h.index) [] at next refl in (
        then.stays,
        then.begins,
        subst (λ z. AnsweredBy nothing z (now ++ by k.thread (LocalDrop h.index) ∷ []) (Ok tt)) (sym is) tt,
      ))))

  deleting : (w : Word) (n : ℕ) (past : History) (f : Frames) (acts : List Act) → IsAt k past acts → WordIs past w n
      → is_of_kind Local w ≡ true → is_foreign k.thread w ≡ false → delete_local_at w f acts answer g
      → Plays k.config k.whole k.thread (Then k nothing answer) g behind (atom (delete n)) past f (map acting acts)
  deleting Malformed n past f acts at word kind own did = absurd word
  deleting (Parts h) zero past f acts at word kind own did = absurd word
  deleting Nothing n past f acts at word kind own did =
      subst (λ z. Plays k.config k.whole k.thread (Then k nothing answer) g behind (atom (delete z)) past f
      (map acting acts)) (sym word)
      (subst (λ l. Plays k.config k.whole k.thread (Then k nothing answer) g behind (atom (delete 0)) past f
      (map acting l)) (sym did.0)
      (subst (λ e. Plays k.config k.whole k.thread (Then k nothing answer) g behind (atom (delete 0)) past e [])
      did.2 (null_plays past (subst (IsAt k past) did.0 at) did.1)))
  deleting (Parts h) (suc i) past f acts at word kind own did =
      go (deletes_so h f g acts answer kind did)
    where
      go : Deletes h f acts answer g
          → Plays k.config k.whole k.thread (Then k nothing answer) g behind (atom (delete (suc i))) past f
          (map acting acts)
      go (inl d) =
          subst (λ l. Plays k.config k.whole k.thread (Then k nothing answer) g behind (atom (delete (suc i))) past f
          (map acting l)) (sym d.1)
          (subst (λ e. Plays k.config k.whole k.thread (Then k nothing answer) g behind
          (atom (delete (suc i))) past e [])
          d.3 (finds_none k answer g behind i h past (subst (IsAt k past) d.1 at) word (owner_is k.thread h kind own)
          (ap (λ e. object_of e h) d.3 ∙ d.0) d.2))
      go (inr d) =
          subst (λ l. Plays k.config k.whole k.thread (Then k nothing answer) g behind (atom (delete (suc i))) past f
          (map acting l)) (sym d.1)
          (finds_some i h past f (subst (IsAt k past) d.1 at) word (owner_is k.thread h kind own) d.0 d.2 d.3)

  pub removal_plays : (w : Word) (n : ℕ) (past : History) (f : Frames) (acts : List Act) → IsAt k past acts
      → WordIs past w n → is_of_kind Local w ≡ true
      → references.local_removal k.config k.thread w f acts answer g
      → Plays k.config k.whole k.thread (Then k nothing answer) g behind (deleted_in_steps n) past f (map acting acts)
  removal_plays w n past f acts at word kind did =
      let within = word_within k past acts w n at word in
      let second = passed_then (is_malformed w) fault.Stale (λ u. calls.◌>>=◌
      (calls.refuse_if (not (is_of_kind Local w))
      fault.WrongKind) (λ v. references.delete_local k.config k.thread w)) f g acts answer within.0 did in
      let third = passed_then (not (is_of_kind Local w)) fault.WrongKind
      (λ v. references.delete_local k.config k.thread w) f g acts answer (ap not kind) second in
      let fourth = passed_then (is_out_of_bounds k.config w) fault.Stale (λ u. calls.◌>>=◌
      (calls.refuse_if (is_foreign k.thread w) fault.Foreign)
      (λ v. delete_local_at w)) f g acts answer within.1 third in
      go (is_foreign k.thread w) refl
      (tested_then (is_foreign k.thread w) fault.Foreign (λ v. delete_local_at w) f g acts answer fourth)
    where
      stage : (b : Bool) → is_foreign k.thread w ≡ b
          → ((now : History) → ComesTo k past acts now
          → Plays k.config k.whole k.thread (Then k nothing answer) g behind
          (unless_refused (λ u. atom (delete n)) (own_or b)) now f (map acting acts))
          → Plays k.config k.whole k.thread (Then k nothing answer) g behind (deleted_in_steps n) past f
          (map acting acts)
      stage b is follows = own_stage k (Then k nothing answer) g behind w n past f acts (map acting acts)
          (unless_refused (λ u. atom (delete n))) at word (λ now comes.
          subst (λ d. Plays k.config k.whole k.thread (Then k nothing answer) g behind
          (unless_refused (λ u. atom (delete n)) (own_or d)) now f (map acting acts)) (sym is) (follows now comes))

      go : (b : Bool) → is_foreign k.thread w ≡ b
          → cond b (WasRefused fault.Foreign f acts answer g) (delete_local_at w f acts answer g)
          → Plays k.config k.whole k.thread (Then k nothing answer) g behind (deleted_in_steps n) past f
          (map acting acts)
      go true foreign did = stage true foreign (λ now comes.
          subst (λ l. Plays k.config k.whole k.thread (Then k nothing answer) g behind (ended (Err fault.Foreign)) now f
          (map acting l)) (sym did.0)
          (subst (λ e. Plays k.config k.whole k.thread (Then k nothing answer) g behind
          (ended (Err fault.Foreign)) now e [])
          did.2 (has_ended (Err fault.Foreign) (
            comes.at.stays,
            comes.at.begins,
            subst (λ z. AnsweredBy nothing z now (Err fault.Foreign)) (sym did.1) refl,
          ))))
      go false own did = stage false own (λ now comes.
          deleting w n now f acts comes.at (word_later k past now w n comes.stays word) kind own did)

module _ (k : Scene) where
  pub deletes_local_plays : (n : ℕ) (p : Which) → EndingPlays k {n = n} (deletes_local p)
  deletes_local_plays n p words numbers known known' kind o o' past f g acts answer behind at are knowns hand apt may
      did = removal_plays k answer g behind (words p) (numbers p) past f acts at (are p) apt did
