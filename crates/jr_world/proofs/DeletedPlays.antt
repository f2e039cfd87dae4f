-- A global or weak reference is deleted as its program's two steps do it.
use Rattle.std.proofs.Common.{◌≡◌, ◌≢◌, ◌<◌, ◌⊎◌, inl, inr, ◌==◌, ℕ, zero, suc, Bool, true, false, cond, not, Option}
use Rattle.std.proofs.Common.{Some, None, Result, Ok, Err, List, [], ◌∷◌, ◌++◌, map, slice_get, slice_index_or}
use Rattle.std.proofs.Common.{slice_set, refl, sym, ap, subst, ◌∙◌, arith}
use Rattle.std.specs.List.{filter}
use Rattle.std.proofs.lemmas.List.{get_or-set_same, get_or-set_other, length-set}
use Rattle.jr_word.specs.declared.config.Config.{Config}
use Rattle.jr_word.specs.declared.fault.Fault.{Fault}
use Rattle.jr_word.specs.declared.fault.Fault.TheVariants.{WrongKind}
use Rattle.jr_word.specs.declared.fault.Fault.TheVariants as fault
use Rattle.jr_word.specs.declared.handle.RefKind.{RefKind}
use Rattle.jr_word.specs.declared.handle.RefKind.TheVariants.{Local}
use Rattle.jr_model.specs.declared.event.Act.{Act}
use Rattle.jr_model.specs.declared.event.Act.TheVariants.{Look, Delete, DeleteStale}
use Rattle.jr_model.specs.declared.event.Found.{Found}
use Rattle.jr_model.specs.declared.event.Found.TheVariants.{Object, Cleared, Stale}
use Rattle.jr_model.specs.declared.frames.LocalRef.{LocalRef}
use Rattle.jr_model.specs.State.{Contents, Handle, State, same_handle, same_kind}
use Rattle.jr_model.specs.Frames.{Frames}
use Rattle.jr_model.specs.History.{History, by, state}
use Rattle.jr_model.specs.Checks.{Word, Nothing, Malformed, Parts, is_local, is_malformed, is_of_kind, is_out_of_bounds}
use Rattle.jr_model.specs.Calls.{◌>>=◌, refuse_if}
use Rattle.jr_model.specs.Parts.{delete_at, delete_found, look}
use Rattle.jr_model.specs.Programs.{Which, nothing, deletes}
use Rattle.jr_model.proofs.Histories.{state_push}
use Rattle.jr_model.proofs.Updates.{eq_true, handle_self, handle_true, kind_true}
use Rattle.jr_world.specs.World.{Ref, change, delete, goes_on, object_in, removed, standing_at}
use Rattle.jr_world.specs.Births.{Births, IsAs, RefIsSo, births, born_by, gone_where}
use Rattle.jr_world.specs.Doing.{Shared, as_left, as_seen, atom, deleted_in_steps, left_by_step, over_world}
use Rattle.jr_world.specs.Doing.{unless_refused}
use Rattle.jr_world.specs.Doing.Doing.{ended}
use Rattle.jr_world.specs.Plays.{AreFrames, AreNamed, ActsNext, LeavesOthers, Plays, InStands, owner_of_handle}
use Rattle.jr_world.specs.Plays.AreNamed.{no_local, one_local}
use Rattle.jr_world.specs.Plays.AreFrames.{no_frame, one_frame}
use Rattle.jr_world.specs.Plays.Plays.{has_ended}
use Rattle.jr_world.specs.Playing.{AnsweredBy, WordIs}
use Rattle.jr_world.proofs.Births.BornFound.{found_row, not_local}
use Rattle.jr_world.proofs.BornHandles.{own_is_local}
use Rattle.jr_world.proofs.Births.BornLists.{births_push, by_test, map_get, some_same}
use Rattle.jr_world.proofs.InStay.{EndingPlays, IsAt, Scene, Then, at_births, at_now, at_within}
use Rattle.jr_world.proofs.NamedPlays.{ComesTo, comes_next, comes_now, own_or, own_stage, passed_then, ref_is}
use Rattle.jr_world.proofs.NamedPlays.{row_is_shared, told_so, word_later, word_then, word_within}
use Rattle.jr_world.proofs.LookStands.{agreed_behind, is_look, look_stands}
use Rattle.jr_world.proofs.Standing.{both_long, is_of_gate, next_needs, no_more_owners, seen_keeps, seen_stands}
use Rattle.jr_world.proofs.WordsPosted.{posted_later}
use Rattle.jr_world.proofs.TakenSteps.{does_so, moves_so}
use Rattle.jr_world.proofs.OpenParts.{unseen_in}
use Rattle.one_order.specs.Orders.{Item}
use Rattle.one_order.specs.Orders.Item.{does as acting}

-- WHAT THE CALL DOES, taken apart: behind the look it finds nothing, deletes, or finds that another was faster
abbrev WasStale : Found → List Act → Result (Unit {0}) Fault → Type 0
WasStale r rest x = (r ≡ Stale) × (rest ≡ []) × (x ≡ Err fault.Stale)

abbrev WasDeleted : Handle → List Act → Result (Unit {0}) Fault → Type 0
WasDeleted h rest x = (rest ≡ Delete h ∷ []) × (x ≡ Ok tt)

abbrev WasLost : Handle → List Act → Result (Unit {0}) Fault → Type 0
WasLost h rest x = (rest ≡ DeleteStale h ∷ []) × (x ≡ Err fault.Stale)

abbrev DeletesBy : Handle → Found → List Act → Result (Unit {0}) Fault → Type 0
DeletesBy h r rest x = WasStale r rest x ⊎ (WasDeleted h rest x ⊎ WasLost h rest x)

found_then : (h : Handle) (r : Found) (f g : Frames) (rest : List Act) (x : Result (Unit {0}) Fault)
    → delete_found h r f rest x g → DeletesBy h r rest x × (g ≡ f)
found_then h Stale f g rest x d = (inl (refl, d.0, d.1), d.2)
found_then h _ f g rest x (inl d) = (inr (inl (d.0, d.1)), d.2)
found_then h _ f g rest x (inr (inl d)) =
    (inr (inr (d.4 ∙ ap (λ l. l ++ d.3) d.5.0 ∙ ap (λ l. DeleteStale h ∷ l) d.6.0, d.6.1)), d.6.2 ∙ d.5.2)
found_then h _ f g rest x (inr (inr d)) = absurd (let bad = d.2.1 in cc)

abbrev Deletes : Handle → Frames → Frames → List Act → Result (Unit {0}) Fault → Type 0
Deletes h f g acts x = (r : Found) × (rest : List Act) × (acts ≡ Look h r ∷ rest) × DeletesBy h r rest x × (g ≡ f)

deletes_so : (h : Handle) (f g : Frames) (acts : List Act) (x : Result (Unit {0}) Fault)
    → (look h >>= delete_found h) f acts x g → Deletes h f g acts x
deletes_so h f g acts x (inl d) =
    let r = d.5.0 in
    let same : d.0 ≡ r = (let e = d.5.2 in cc) in
    let behind = found_then h d.0 d.1 g d.3 x d.6 in
    (r, d.3, d.4 ∙ ap (λ l. l ++ d.3) d.5.1, subst (λ z. DeletesBy h z d.3 x) same behind.0, behind.1 ∙ d.5.3)
deletes_so h f g acts x (inr d) = absurd (let bad = d.2.2 in cc)

-- WHAT IS TOLD of a reference that stands, and of none
none_so : (objects : List (ℕ × Option Contents)) (kind : RefKind) (q : Option Ref) (r : Found) → r ≡ Stale
    → RefIsSo objects kind q r → q ≡ None
none_so objects kind None r is so = refl
none_so objects kind (Some q) r is so = absurd (subst (RefIsSo objects kind (Some q)) is so)

some_so : (objects : List (ℕ × Option Contents)) (kind : RefKind) (q : Option Ref) (r : Found) → r ≢ Stale
    → RefIsSo objects kind q r → (p : Ref) × (q ≡ Some p)
some_so objects kind (Some q) r ne so = (q, refl)
some_so objects kind None Stale ne so = absurd (ne refl)
some_so objects kind None (Object p) ne so = absurd so
some_so objects kind None Cleared ne so = absurd so

-- WITHOUT THE ONE that has the handle
none_gone : (h : Handle) (xs : List (Handle × Option Ref))
    → ((j : ℕ) (v : Option Ref) → slice_get xs j ≡ Some (h, v) → ⊥)
    → map (λ (e : Handle × Option Ref). e.1) xs ≡ map (λ (e : Handle × Option Ref). e.1) (gone_where (same_handle h) xs)
none_gone h [] none = refl
none_gone h (y ∷ ys) none = by_test (same_handle h y.0)
    (λ t. absurd (none 0 y.1 (ap (λ g. Some (g, y.1)) (sym (handle_true h y.0 t)))))
    (λ t. ap (λ l. y.1 ∷ l) (none_gone h ys (λ j v f. none (suc j) v f))
    ∙ ap (λ z. cond z None y.1 ∷ map (λ (e : Handle × Option Ref). e.1) (gone_where (same_handle h) ys)) (sym t))

pub one_gone : (h : Handle) (xs : List (Handle × Option Ref)) (i : ℕ) (q : Option Ref) → slice_get xs i ≡ Some (h, q)
    → ((j : ℕ) (v : Option Ref) → slice_get xs j ≡ Some (h, v) → i ≡ j)
    → slice_set (map (λ (e : Handle × Option Ref). e.1) xs) i None
    ≡ map (λ (e : Handle × Option Ref). e.1) (gone_where (same_handle h) xs)
one_gone h [] i q e once = absurd cc
one_gone h (x ∷ xs) zero q e once =
    let here : same_handle h x.0 ≡ true =
    ap (same_handle h) (ap (λ (z : Handle × Option Ref). z.0) (some_same x (h, q) e)) ∙ handle_self h in
    ap (λ l. None ∷ l) (none_gone h xs (λ j v f. absurd (let bad = once (suc j) v f in omega arith)))
    ∙ ap (λ z. cond z None x.1 ∷ map (λ (e : Handle × Option Ref). e.1) (gone_where (same_handle h) xs)) (sym here)
one_gone h (x ∷ xs) (suc i) q e once = by_test (same_handle h x.0)
    (λ t. absurd (let bad = once 0 x.1 (ap (λ g. Some (g, x.1)) (sym (handle_true h x.0 t))) in omega arith))
    (λ t. ap (λ l. x.1 ∷ l) (one_gone h xs i q e (λ j v f. minus i j (once (suc j) v f)))
    ∙ ap (λ z. cond z None x.1 ∷ map (λ (e : Handle × Option Ref). e.1) (gone_where (same_handle h) xs)) (sym t))
  where
    minus : (i j : ℕ) → suc i ≡ suc j → i ≡ j
    minus i j e = omega arith

pub owners_stay : (p : Handle → Bool) (xs : List (Handle × Option Ref))
    → map (λ (e : Handle × Option Ref). owner_of_handle e.0) xs
    ≡ map (λ (e : Handle × Option Ref). owner_of_handle e.0) (gone_where p xs)
owners_stay p [] = refl
owners_stay p (x ∷ xs) = ap (λ l. owner_of_handle x.0 ∷ l) (owners_stay p xs)

-- the frames have none that is global or weak
module _ (t : ℕ) (h : Handle) (row : is_local h ≡ false) (xs : List (Handle × Option Ref)) (i : ℕ) (q : Option Ref)
    (e : slice_get xs i ≡ Some (h, q))
  where
    named_gone : {is : List ℕ} {rs : List LocalRef} → AreNamed t xs is rs
        → AreNamed t (gone_where (same_handle h) xs) (filter (λ m. not (m == i)) is) rs
    named_gone no_local = no_local
    named_gone (one_local {is = is} {rs = rs} j r v at own rest) =
        subst (λ l. AreNamed t (gone_where (same_handle h) xs) l (r ∷ rs))
        (sym (ap (λ z. cond (not z) (j ∷ filter (λ m. not (m == i)) is) (filter (λ m. not (m == i)) is)) other))
        (one_local j r (cond (same_handle h r.handle) None v)
        (map_get (λ (x : Handle × Option Ref). (x.0, cond (same_handle h x.0) None x.1)) xs j (r.handle, v) at) own
        (named_gone rest))
      where
        other : (j == i) ≡ false
        other = by_test (j == i) (λ z. absurd (
            let one : slice_get xs i ≡ Some (r.handle, v) = ap (slice_get xs) (sym (eq_true j i z)) ∙ at in
            let same : h ≡ r.handle =
            ap (λ (p : Handle × Option Ref). p.0) (some_same (h, q) (r.handle, v) (sym e ∙ one)) in
            let bad : is_local h ≡ true = ap is_local same
            ∙ ap (same_kind Local) (own_is_local r.handle t own).0 in
            cc)) (λ z. z)

    frames_gone : {fs : List (List ℕ)} {gs : List (List LocalRef)} → AreFrames t xs fs gs
        → AreFrames t (gone_where (same_handle h) xs) (map (filter (λ m. not (m == i))) fs) gs
    frames_gone no_frame = no_frame
    frames_gone (one_frame here rest) = one_frame (named_gone here) (frames_gone rest)

-- THE STEP THAT DELETES
module _ (c : Config) (t : ℕ) (i : ℕ) where
  -- what it leaves
  abbrev less : Shared → Shared
  less s = as_left t s (removed i (as_seen t s))

  delete_none : (s : Shared) → standing_at s.refs i ≡ None
      → over_world (delete (suc i)) t true s ≡ (Err fault.Stale, as_left t s (as_seen t s))
  delete_none s e = ap (λ z. left_by_step t s (goes_on (λ o. change (removed i)) (object_in z, as_seen t s))) e

  delete_some : (s : Shared) (r : Ref) → standing_at s.refs i ≡ Some r
      → over_world (delete (suc i)) t true s ≡ (Ok tt, less s)
  delete_some s r e = ap (λ z. left_by_step t s (goes_on (λ o. change (removed i)) (object_in z, as_seen t s))) e

  less_keeps : (s : Shared) → LeavesOthers t s (less s)
  less_keeps s = record {
    frames = λ u ne. get_or-set_other s.frames t u (map (filter (λ m. not (m == i))) (slice_index_or s.frames t []))
        [] ne;
    board = refl;
  }

  less_stands : (now : History) (f : Frames) (s : Shared) (h : Handle) (q : Option Ref) → is_local h ≡ false
      → t < c.threads → IsAs (births now) (state now) → slice_get (births now).refs i ≡ Some (h, q)
      → InStands c t now f s → InStands c t (now ++ by t (Delete h) ∷ []) f (less s)
  less_stands now f s h q row small world e st = record {
    objects = st.objects ∙ ap (λ (b : Births). map (λ (z : ℕ × Option Contents). z.1) b.objects) (sym then);
    refs = ap (λ l. slice_set l i None) st.refs
        ∙ one_gone h (births now).refs i q e (λ j v at. world.one_ref i j h q v e at)
        ∙ ap (λ (b : Births). map (λ (z : Handle × Option Ref). z.1) b.refs) (sym then);
    owners = no_more_owners c t now f s (slice_set s.refs i None)
        (length-set s.refs i None ∙ both_long c t now f s st)
        ∙ st.owners ∙ owners_stay (same_handle h) (births now).refs
        ∙ ap (λ (b : Births). map (λ (z : Handle × Option Ref). owner_of_handle z.0) b.refs) (sym then);
    used = st.used ∙ ap (λ (b : Births). b.used) (sym then);
    many = st.many;
    roles = λ u. st.roles u ∙ sym (ap (λ (z : State). z.role u) (state_push now (by t (Delete h))));
    lists = length-set s.frames t (map (filter (λ m. not (m == i))) (slice_index_or s.frames t [])) ∙ st.lists;
    frames = subst (λ (b : Births). AreFrames t b.refs
        (slice_index_or (slice_set s.frames t (map (filter (λ m. not (m == i))) (slice_index_or s.frames t []))) t [])
        f.frames) (sym then)
        (subst (λ l. AreFrames t (gone_where (same_handle h) (births now).refs) l f.frames)
        (sym (get_or-set_same s.frames t (map (filter (λ m. not (m == i))) (slice_index_or s.frames t [])) []
        (let l = st.lists in omega arith)))
        (frames_gone t h row (births now).refs i q e st.frames));
    posted = posted_later now (by t (Delete h) ∷ []) s.board st.posted;
    places = st.places;
    agreed = agreed_behind t now f (Delete h) refl (λ p. refl) st.agreed;
    sound = st.sound;
  }
    where
      then : births (now ++ by t (Delete h) ∷ []) ≡ born_by (births now) t (Delete h)
      then = births_push now (by t (Delete h))

module _ (k : Scene) (x : Result (Unit {0}) Fault) (f : Frames) (behind : List (Item Act)) where
  -- the answer is so at the end
  ends_so : (later : History) (past : History) (r : Result (Unit {0}) Fault) → ComesTo k past [] later → x ≡ r
      → AnsweredBy nothing r later r
      → Plays k.config k.whole k.thread (Then k nothing x) f behind (ended r) later f []
  ends_so later past r comes is so = has_ended r (
    comes.at.stays,
    comes.at.begins,
    subst (λ z. AnsweredBy nothing z later r) (sym is) so,
  )

  module _ (i : ℕ) (h : Handle) (row : is_local h ≡ false) where
    -- the deletion finds nothing
    finds_none : (past : History) (a : Act) → is_look a ≡ true → is_of_gate a ≡ false → IsAt k past (a ∷ [])
        → WordIs past (Parts h) (suc i) → x ≡ Err fault.Stale
        → ((now : History) → ActsNext k.config k.whole k.thread past now a → (state now).refs h ≡ Stale)
        → Plays k.config k.whole k.thread (Then k nothing x) f behind (atom (delete (suc i))) past f (acting a ∷ [])
    finds_none past a look no_gate at word answer stale =
        does_so k.config k.whole k.thread (Then k nothing x) f behind (over_world (delete (suc i))) (λ r. ended r) past
        a f f [] k.last k.legal (at_within k past (a ∷ []) at) no_gate (λ now s next_is st.
        let here = at_now k past now (a ∷ []) at next_is.goes in
        let n = word_then k past now (Parts h) (suc i) next_is.goes word in
        let none : n.0 ≡ None = none_so (births now).objects h.kind n.0 Stale refl
        (told_so k now (a ∷ []) here i h n.0 Stale n.1
        (found_row (births now) (state now) h row ∙ stale now next_is)) in
        record {
          answer = Err fault.Stale;
          left = as_left k.thread s (as_seen k.thread s);
          is = delete_none k.config k.thread i s (ref_is k.config k.thread now f s st i h n.0 n.1 ∙ none);
          stands = look_stands k.config k.thread now f (as_left k.thread s (as_seen k.thread s)) a look
              (seen_stands k.config k.thread now f s st);
          keeps = seen_keeps k.thread s;
          plays = ends_so (now ++ by k.thread a ∷ []) past (Err fault.Stale)
              (comes_next k past now a [] at next_is no_gate) answer refl;
        })

    -- the deletion finds it
    finds_some : (past : History) → IsAt k past (Delete h ∷ []) → WordIs past (Parts h) (suc i) → x ≡ Ok tt
        → Plays k.config k.whole k.thread (Then k nothing x) f behind (atom (delete (suc i))) past f
        (acting (Delete h) ∷ [])
    finds_some past at word answer =
        does_so k.config k.whole k.thread (Then k nothing x) f behind (over_world (delete (suc i))) (λ r. ended r) past
        (Delete h) f f [] k.last k.legal (at_within k past (Delete h ∷ []) at) refl (λ now s next_is st.
        let here = at_now k past now (Delete h ∷ []) at next_is.goes in
        let n = word_then k past now (Parts h) (suc i) next_is.goes word in
        let needs = next_needs k.config k.last k.whole k.thread k.legal past now (Delete h) next_is in
        let some = some_so (births now).objects h.kind n.0 ((state now).refs h) needs.1.1
        (told_so k now (Delete h ∷ []) here i h n.0 ((state now).refs h) n.1
        (found_row (births now) (state now) h row)) in
        record {
          answer = Ok tt;
          left = less k.config k.thread i s;
          is = delete_some k.config k.thread i s some.0 (ref_is k.config k.thread now f s st i h n.0 n.1 ∙ some.1);
          stands = less_stands k.config k.thread i now f s h n.0 row k.small
              (at_births k now (Delete h ∷ []) here) n.1 st;
          keeps = less_keeps k.config k.thread i s;
          plays = ends_so (now ++ by k.thread (Delete h) ∷ []) past (Ok tt)
              (comes_next k past now (Delete h) [] at next_is refl) answer tt;
        })

    -- behind a look that is not seen
    looks_first : (past : History) (r : Found) (rest : List Act) → IsAt k past (Look h r ∷ rest)
        → WordIs past (Parts h) (suc i)
        → ((now : History) → IsAt k now rest → WordIs now (Parts h) (suc i)
        → Plays k.config k.whole k.thread (Then k nothing x) f behind (atom (delete (suc i))) now f (map acting rest))
        → Plays k.config k.whole k.thread (Then k nothing x) f behind (atom (delete (suc i))) past f
        (map acting (Look h r ∷ rest))
    looks_first past r rest at word follows =
        unseen_in k.config k.last k.whole k.thread k.legal (at_within k past (Look h r ∷ rest) at) (Look h r) refl
        (λ now s next_is st. look_stands k.config k.thread now f s (Look h r) refl st)
        (λ now next_is. let comes = comes_next k past now (Look h r) rest at next_is refl in
        follows (now ++ by k.thread (Look h r) ∷ []) comes.at
        (word_later k past (now ++ by k.thread (Look h r) ∷ []) (Parts h) (suc i) comes.stays word))

    deletes_by : (past : History) (r : Found) (rest : List Act) → IsAt k past (Look h r ∷ rest)
        → WordIs past (Parts h) (suc i) → DeletesBy h r rest x
        → Plays k.config k.whole k.thread (Then k nothing x) f behind (atom (delete (suc i))) past f
        (map acting (Look h r ∷ rest))
    deletes_by past r rest at word (inl d) =
        subst (λ l. Plays k.config k.whole k.thread (Then k nothing x) f behind (atom (delete (suc i))) past f
        (map acting (Look h r ∷ l))) (sym d.1)
        (finds_none past (Look h r) refl refl (subst (λ l. IsAt k past (Look h r ∷ l)) d.1 at) word
        d.2 (λ now next_is.
        (next_needs k.config k.last k.whole k.thread k.legal past now (Look h r) next_is).1.1 ∙ d.0))
    deletes_by past r rest at word (inr (inl d)) = looks_first past r rest at word (λ now here there.
        subst (λ l. Plays k.config k.whole k.thread (Then k nothing x) f behind (atom (delete (suc i))) now f
        (map acting l)) (sym d.0) (finds_some now (subst (IsAt k now) d.0 here) there d.1))
    deletes_by past r rest at word (inr (inr d)) = looks_first past r rest at word (λ now here there.
        subst (λ l. Plays k.config k.whole k.thread (Then k nothing x) f behind (atom (delete (suc i))) now f
        (map acting l)) (sym d.0)
        (finds_none now (DeleteStale h) refl refl (subst (IsAt k now) d.0 here) there d.1
        (λ later next_is.
        (next_needs k.config k.last k.whole k.thread k.legal now later (DeleteStale h) next_is).1.1)))

  -- a reference of the row, or NULL, is deleted
  deletes_at : (w : Word) (n : ℕ) (past : History) (g : Frames) (acts : List Act) → IsAt k past acts → WordIs past w n
      → ((h : Handle) → w ≡ Parts h → is_local h ≡ false) → delete_at w f acts x g
      → (g ≡ f) × Plays k.config k.whole k.thread (Then k nothing x) f behind (deleted_in_steps n) past f
      (map acting acts)
  deletes_at Malformed n past g acts at word row did = absurd word
  deletes_at (Parts h) zero past g acts at word row did = absurd word
  deletes_at Nothing n past g acts at word row did = (
    did.2,
    subst (λ m. Plays k.config k.whole k.thread (Then k nothing x) f behind (deleted_in_steps m) past f
        (map acting acts)) (sym word)
        (subst (λ l. Plays k.config k.whole k.thread (Then k nothing x) f behind (deleted_in_steps zero) past f
        (map acting l)) (sym did.0)
        (own_stage k (Then k nothing x) f behind Nothing zero past f [] []
        (unless_refused (λ u. atom (delete zero))) (subst (IsAt k past) did.0 at) refl (λ now comes.
        moves_so k.config k.whole k.thread (Then k nothing x) f behind (over_world (delete zero)) (λ r. ended r) now f f
        [] k.last k.legal (at_within k now [] comes.at)
        (λ later s goes st. record {
          answer = Ok tt;
          left = as_left k.thread s (as_seen k.thread s);
          is = refl;
          stands = seen_stands k.config k.thread later f s st;
          keeps = seen_keeps k.thread s;
          plays = ends_so later now (Ok tt) (comes_now k now later [] comes.at goes) did.1 tt;
        })))),
  )
  deletes_at (Parts h) (suc i) past g acts at word row did =
      let so = deletes_so h f g acts x did in (
        so.4,
        subst (λ l. Plays k.config k.whole k.thread (Then k nothing x) f behind (deleted_in_steps (suc i)) past f
            (map acting l)) (sym so.2)
            (own_stage k (Then k nothing x) f behind (Parts h) (suc i) past f (Look h so.0 ∷ so.1)
            (map acting (Look h so.0 ∷ so.1)) (unless_refused (λ u. atom (delete (suc i))))
            (subst (IsAt k past) so.2 at) word
            (λ now comes.
            subst (λ b. Plays k.config k.whole k.thread (Then k nothing x) f behind
            (unless_refused (λ u. atom (delete (suc i))) (own_or b)) now f (map acting (Look h so.0 ∷ so.1)))
            (sym (row_is_shared k.thread h (row h refl)))
            (deletes_by i h (row h refl) now so.0 so.1 comes.at
            (word_later k past now (Parts h) (suc i) comes.stays word)
            so.3))),
      )

-- A GLOBAL OR WEAK REFERENCE IS DELETED
pub deletes_play : (k : Scene) (n : ℕ) (kind : RefKind) (p : Which) → EndingPlays k {n = n} (deletes kind p)
deletes_play k n ref p words numbers known known' kind o o' past f g acts x behind at word known_so hand apt
    refuses is =
    let within = word_within k past acts (words p) (numbers p) at (word p) in
    let plays = deletes_at k x f behind (words p) (numbers p) past g acts at (word p) in_row
    (passed_then (is_out_of_bounds k.config (words p)) fault.Stale (λ u. delete_at (words p)) f g acts x within.1
    (passed_then (not (is_of_kind ref (words p))) WrongKind
    (λ u. refuse_if (is_out_of_bounds k.config (words p)) fault.Stale >>= (λ v. delete_at (words p))) f g acts x
    (ap not apt.1)
    (passed_then (is_malformed (words p)) fault.Stale (λ u. refuse_if (not (is_of_kind ref (words p))) WrongKind
    >>= (λ v. refuse_if (is_out_of_bounds k.config (words p)) fault.Stale >>= (λ y. delete_at (words p)))) f g
    acts x within.0 is))) in
    subst (λ z. Plays k.config k.whole k.thread (Then k nothing x) z behind (deleted_in_steps (numbers p)) past f
    (map acting acts)) (sym plays.0) plays.1
  where
    in_row : (h : Handle) → words p ≡ Parts h → is_local h ≡ false
    in_row h e = not_local h (λ local. apt.0 (kind_true ref h.kind (ap (is_of_kind ref) (sym e) ∙ apt.1) ∙ local))
