-- What an identity tells: which references are to one object, and for how long.
use Rattle.std.proofs.Common.{◌≡◌, ◌==◌, ◌+◌, ℕ, Bool, true, false, cond, not, ◌&&◌, Option, Some, None, IsSome}
use Rattle.std.proofs.Common.{List, [], ◌∷◌, ◌++◌, Ok, inl, inr, refl, sym, ap, subst, ◌∙◌, arith, slice_index}
use Rattle.std.specs.List.{AllByRecursion, filter}
use Rattle.jr_word.specs.declared.config.Config.{Config}
use Rattle.jr_word.specs.declared.fault.Fault.{Fault}
use Rattle.jr_word.specs.declared.fault.Fault.TheVariants.{Foreign}
use Rattle.jr_word.specs.declared.fault.Fault.TheVariants as fault
use Rattle.jr_model.specs.declared.event.Act.{Act}
use Rattle.jr_model.specs.declared.event.Act.TheVariants.{Clear, Create, Delete, Look}
use Rattle.jr_model.specs.declared.event.Found.{Found}
use Rattle.jr_model.specs.declared.event.Found.TheVariants.{Object, Cleared, Stale}
use Rattle.jr_model.specs.declared.frames.LocalRef.{LocalRef}
use Rattle.jr_model.specs.State.{Handle, State, same_handle}
use Rattle.jr_model.specs.Steps.{ActNeeds, act_after}
use Rattle.jr_model.specs.History.{History, IsLegal, state, state_from}
use Rattle.jr_model.specs.Frames.{AreSound, Frames, IsMove, LeadsTo, adds, all_refs, deletes, frames_before, frees}
use Rattle.jr_model.specs.Frames.{goes_on, joined, last_frame, object_of, object_where, pops, pushes, stays, with_last}
use Rattle.jr_model.specs.Calls.{Call, done, refuse_if, ◌>>=◌, ◌>>◌}
use Rattle.jr_model.specs.Checks.{Word, Nothing, Malformed, Parts, is_foreign, is_local, is_malformed}
use Rattle.jr_model.specs.Checks.{is_out_of_bounds, same_object}
use Rattle.jr_model.specs.Parts.{found_answer, found_object, local_answer, local_object, look, looked, not_null}
use Rattle.jr_model.specs.References.{resolved, resolved_both}
use Rattle.jr_model.specs.Programs.{at_both, handed_one}
use Rattle.jr_model.specs.CallPrograms.{is_same_object}
use Rattle.jr_model.proofs.Histories.{kept_from, legal_append, state_append}
use Rattle.jr_model.proofs.References.{kept_state}
use Rattle.jr_model.proofs.Agreement.{joined_before, joined_filter, joined_last, joined_push, object_last}
use Rattle.jr_model.proofs.Agreement.{other_than}
use Rattle.jr_model.proofs.Locals.{IsPast, past_later, past_not_new}
use Rattle.jr_model.proofs.Updates.{at_handle, eq_true, handle_true}
use Rattle.jr_env.specs.Identities.{AnswersIn, IdentityLasts, OneIdentityEach}
use Rattle.jr_env.specs.Requests.{identity_of}

-- WHAT A WORD IS TO in a state

-- the object that was found
abbrev found_in : Found → Option ℕ
found_in (Object o) = Some o
found_in _ = None

-- the object of a word for a thread with these frames
abbrev pub object_in : State → Frames → Word → Option ℕ
object_in s f (Parts h) = cond (is_local h) (object_of f h) (found_in (s.refs h))
object_in s f _ = None

-- a test that a call which answers has passed
passed : {A : Type 0} (b : Bool) (e : Fault) (next : Call A) (f : Frames) (acts : List Act) (x : A) (g : Frames)
    → (refuse_if b e >> next) f acts (Ok x) g → (b ≡ false) × next f acts (Ok x) g
passed true e next f acts x g (inl y) = absurd (let d = y.5.1 in cc)
passed true e next f acts x g (inr y) = absurd (let d = y.1 in cc)
passed false e next f acts x g (inl y) = (
  refl,
  subst (λ l. next f l (Ok x) g) (sym (y.4 ∙ ap (λ l. l ++ y.3) y.5.0))
      (subst (λ h. next h y.3 (Ok x) g) y.5.2 y.6),
)
passed false e next f acts x g (inr y) = absurd (let d = y.1 in cc)

-- the first of some acts
front_all : (P : Act → Type 0) (xs ys : List Act) → AllByRecursion P (xs ++ ys) → AllByRecursion P xs
front_all P [] ys all = tt
front_all P (x ∷ xs) ys all = (all.0, front_all P xs ys all.1)

rest_all : (P : Act → Type 0) (xs ys : List Act) → AllByRecursion P (xs ++ ys) → AllByRecursion P ys
rest_all P [] ys all = all
rest_all P (x ∷ xs) ys all = rest_all P xs ys all.1

local_is : (x z : Option ℕ) → Ok z ≡ local_answer x → z ≡ x
local_is (Some o) z e = cc
local_is None z e = absurd cc

found_is : (r : Found) (z : Option ℕ) → Ok z ≡ found_answer r → z ≡ found_in r
found_is (Object o) z e = cc
found_is Cleared z e = cc
found_is Stale z e = absurd cc

some_is : (x y : ℕ) → Some x ≡ Some y → x ≡ y
some_is x y e = cc

module _ (c : Config) (last thread : ℕ) (s : State) where
  abbrev Allowed : List Act → Type 0
  Allowed acts = AllByRecursion (ActNeeds c last s thread) acts

  looked_in : (w : Word) (f : Frames) (acts : List Act) (z : Option ℕ) (g : Frames) → looked w f acts (Ok z) g
      → Allowed acts → (z ≡ object_in s f w) × (g ≡ f)
  looked_in Nothing f acts z g is all = (let e = is.1 in cc, is.2)
  looked_in Malformed f acts z g is all = (let e = is.1 in cc, is.2)
  looked_in (Parts h) f acts z g is all = go (is_local h) is
    where
      remote : (look h >>= found_object) f acts (Ok z) g → (z ≡ found_in (s.refs h)) × (g ≡ f)
      remote (inr y) = absurd (let d = y.1 in cc)
      remote (inl y) =
          let x = y.5.0 in
          let first : AllByRecursion (ActNeeds c last s thread) (y.2 ++ y.3) =
          subst (AllByRecursion (ActNeeds c last s thread)) y.4 all in
          let seen : ActNeeds c last s thread (Look h x) =
          (subst (AllByRecursion (ActNeeds c last s thread)) y.5.1
          (front_all (ActNeeds c last s thread) y.2 y.3 first)).0 in
          let same : y.0 ≡ x = let e = y.5.2 in cc in
          (found_is y.0 z y.6.1 ∙ ap found_in (same ∙ sym seen.1), y.6.2 ∙ y.5.3)

      go : (b : Bool) → cond b (λ old. local_object (object_of old h) old) (look h >>= found_object) f acts (Ok z) g
          → (z ≡ cond b (object_of f h) (found_in (s.refs h))) × (g ≡ f)
      go true local = (local_is (object_of f h) z local.1, local.2)
      go false shared = remote shared

  -- what a reference was resolved to
  resolved_in : (w : Word) (f : Frames) (acts : List Act) (z : Option ℕ) (g : Frames)
      → resolved c last thread w f acts (Ok z) g → Allowed acts
      → (is_foreign thread w ≡ false) × (z ≡ object_in s f w) × (g ≡ f)
  resolved_in w f acts z g is all =
      let third : Call (Option ℕ) = refuse_if (is_foreign thread w) Foreign >> looked w in
      let second : Call (Option ℕ) = refuse_if (is_out_of_bounds c w) fault.Stale >> third in
      let whole = passed (is_malformed w) fault.Stale second f acts z g is in
      let bounds = passed (is_out_of_bounds c w) fault.Stale third f acts z g whole.1 in
      let own = passed (is_foreign thread w) Foreign (looked w) f acts z g bounds.1 in
      let there = looked_in w f acts z g own.1 all in
      (own.0, there.0, there.1)

  -- what has an identity is to the object of that number
  pub identity_in : (f : Frames) (w : Word) (o : ℕ) → AnswersIn c last thread s f (handed_one w) identity_of o
      → (is_foreign thread w ≡ false) × (object_in s f w ≡ Some o)
  identity_in f w o a = go a.did
    where
      some : (z : Option ℕ) (h : Frames) (rest : List Act)
          → (not_null z >>= (λ (q : ℕ). done q)) h rest (Ok o) a.left → z ≡ Some o
      some None h rest (inl y) = absurd (let d = y.5.1 in cc)
      some None h rest (inr y) = absurd (let d = y.1 in cc)
      some (Some q) h rest (inl y) = let e = y.5.1 in let d = y.6.1 in cc
      some (Some q) h rest (inr y) = absurd (let d = y.1 in cc)

      go : (resolved c last thread w >>= (λ z. not_null z >>= (λ (q : ℕ). done q))) f a.acts (Ok o) a.left
          → (is_foreign thread w ≡ false) × (object_in s f w ≡ Some o)
      go (inr y) = absurd (let d = y.1 in cc)
      go (inl y) =
          let front = front_all (ActNeeds c last s thread) y.2 y.3
          (subst (AllByRecursion (ActNeeds c last s thread)) y.4 a.allowed) in
          let r = resolved_in w f y.2 y.0 y.1 y.5 front in
          (r.0, sym r.1 ∙ some y.0 y.1 y.3 y.6)

  -- the second of two words, once the first was resolved
  second_in : (w : Word) (x : Option ℕ) (h : Frames) (rest : List Act) (z : Option ℕ × Option ℕ) (g : Frames)
      → (looked w >>= (λ y. done (x, y))) h rest (Ok z) g → Allowed rest → z ≡ (x, object_in s h w)
  second_in w x h rest z g (inr y) all = absurd (let d = y.1 in cc)
  second_in w x h rest z g (inl y) all =
      let l = looked_in w h y.2 y.0 y.1 y.5 (front_all (ActNeeds c last s thread) y.2 y.3
      (subst (AllByRecursion (ActNeeds c last s thread)) y.4 all)) in
      let is : z ≡ (x, y.0) = let e = y.6.1 in cc in
      is ∙ ap (λ q. (x, q)) l.0

  both_in : (v w : Word) (f : Frames) (z : Option ℕ × Option ℕ) (acts : List Act) (g : Frames)
      → (looked v >>= (λ x. looked w >>= (λ y. done (x, y)))) f acts (Ok z) g → Allowed acts
      → z ≡ (object_in s f v, object_in s f w)
  both_in v w f z acts g (inr y) all = absurd (let d = y.1 in cc)
  both_in v w f z acts g (inl y) all =
      let all_there = subst (AllByRecursion (ActNeeds c last s thread)) y.4 all in
      let l = looked_in v f y.2 y.0 y.1 y.5 (front_all (ActNeeds c last s thread) y.2 y.3 all_there) in
      let r = second_in w y.0 y.1 y.3 z g y.6 (rest_all (ActNeeds c last s thread) y.2 y.3 all_there) in
      r ∙ (ap (λ h. (y.0, object_in s h w)) l.1 ∙ ap (λ q. (q, object_in s f w)) l.0)

  resolved_both_in : (v w : Word) (f : Frames) (z : Option ℕ × Option ℕ) (acts : List Act) (g : Frames)
      → resolved_both c last thread v w f acts (Ok z) g → Allowed acts
      → z ≡ (object_in s f v, object_in s f w)
  resolved_both_in v w f z acts g is all =
      let looks : Call (Option ℕ × Option ℕ) = looked v >>= (λ x. looked w >>= (λ y. done (x, y))) in
      let sixth : Call (Option ℕ × Option ℕ) = refuse_if (is_foreign thread w) Foreign >> looks in
      let fifth : Call (Option ℕ × Option ℕ) = refuse_if (is_foreign thread v) Foreign >> sixth in
      let fourth : Call (Option ℕ × Option ℕ) = refuse_if (is_out_of_bounds c w) fault.Stale >> fifth in
      let third : Call (Option ℕ × Option ℕ) = refuse_if (is_out_of_bounds c v) fault.Stale >> fourth in
      let second : Call (Option ℕ × Option ℕ) = refuse_if (is_malformed w) fault.Stale >> third in
      let p = passed (is_malformed v) fault.Stale second f acts z g is in
      let q = passed (is_malformed w) fault.Stale third f acts z g p.1 in
      let r = passed (is_out_of_bounds c v) fault.Stale fourth f acts z g q.1 in
      let t = passed (is_out_of_bounds c w) fault.Stale fifth f acts z g r.1 in
      let u = passed (is_foreign thread v) Foreign sixth f acts z g t.1 in
      let x = passed (is_foreign thread w) Foreign looks f acts z g u.1 in
      both_in v w f z acts g x.1 all

  -- what IsSameObject tells
  pub same_in : (f : Frames) (v w : Word) (b : Bool)
      → AnswersIn c last thread s f (at_both v w) is_same_object b
      → b ≡ same_object (object_in s f v) (object_in s f w)
  same_in f v w b a = go a.did
    where
      go : (resolved_both c last thread v w >>= (λ x. done (same_object x.0 x.1))) f a.acts (Ok b) a.left
          → b ≡ same_object (object_in s f v) (object_in s f w)
      go (inr y) = absurd (let d = y.1 in cc)
      go (inl y) =
          let z = resolved_both_in v w f y.0 y.2 y.1 y.5 (front_all (ActNeeds c last s thread) y.2 y.3
          (subst (AllByRecursion (ActNeeds c last s thread)) y.4 a.allowed)) in
          let is : b ≡ same_object y.0.0 y.0.1 = let e = y.6.1 in cc in
          is ∙ ap (λ (x : Option ℕ × Option ℕ). same_object x.0 x.1) z

module _ (c : Config) (last : ℕ) where
  pub one_identity_each : OneIdentityEach c last
  one_identity_each thread s f v w o p same a b is =
      let x = identity_in c last thread s f v o a in
      let y = identity_in c last thread s f w p b in
      same_in c last thread s f v w same is
      ∙ (ap (λ z. same_object z (object_in s f w)) x.1 ∙ ap (same_object (Some o)) y.1)

-- HOW LONG IT LASTS

-- the reference has the handle
abbrev has : Handle → LocalRef → Bool
has h r = same_handle r.handle h

-- a handle that stands is the last that its place has given
newest_standing : (given : List ℕ) (h : Handle) (xs : List LocalRef)
    → AllByRecursion (λ r. slice_index given r.handle.index ≡ r.handle.serial + 1) xs → IsSome (object_where (has h) xs)
    → slice_index given h.index ≡ h.serial + 1
newest_standing given h [] all stands = absurd cc
newest_standing given h (x ∷ xs) all stands = go (same_handle x.handle h) refl stands (newest_standing given h xs all.1)
  where
    go : (b : Bool) → same_handle x.handle h ≡ b → IsSome (cond b (Some x.object) (object_where (has h) xs))
        → (IsSome (object_where (has h) xs) → slice_index given h.index ≡ h.serial + 1)
        → slice_index given h.index ≡ h.serial + 1
    go true is s rest =
        subst (λ (k : Handle). slice_index given k.index ≡ k.serial + 1) (handle_true x.handle h is) all.0
    go false is s rest = rest s

-- another reference behind the others
last_same : (p : LocalRef → Bool) (xs : List (List LocalRef)) (r : LocalRef) → p r ≡ false
    → object_where p (joined (with_last xs r)) ≡ object_where p (joined xs)
last_same p [] r e = refl
last_same p (x ∷ xs) r e =
    ap (object_where p) (joined_last (x ∷ xs) r (omega arith)) ∙ object_last p (joined (x ∷ xs)) r e

-- what is found in front is found
front_found : (p : LocalRef → Bool) (xs ys : List LocalRef) (o : ℕ) → object_where p xs ≡ Some o
    → object_where p (xs ++ ys) ≡ Some o
front_found p [] ys o e = absurd cc
front_found p (x ∷ xs) ys o e = go (p x) e (front_found p xs ys o)
  where
    go : (b : Bool) → cond b (Some x.object) (object_where p xs) ≡ Some o
        → (object_where p xs ≡ Some o → object_where p (xs ++ ys) ≡ Some o)
        → cond b (Some x.object) (object_where p (xs ++ ys)) ≡ Some o
    go true e rest = e
    go false e rest = rest e

-- none has a handle where those of it were left out
absent_without : (h : Handle) (xs : List LocalRef) → object_where (has h) (filter (other_than h) xs) ≡ None
absent_without h [] = refl
absent_without h (x ∷ xs) = go (same_handle x.handle h) refl (absent_without h xs)
  where
    go : (b : Bool) → same_handle x.handle h ≡ b → object_where (has h) (filter (other_than h) xs) ≡ None
        → object_where (has h) (cond (not b) (x ∷ filter (other_than h) xs) (filter (other_than h) xs)) ≡ None
    go true is rest = rest
    go false is rest = ap (λ c. cond c (Some x.object) (object_where (has h) (filter (other_than h) xs))) is ∙ rest

-- and what is found among the others of another handle was found
others_found : (h k : Handle) (o : ℕ) (xs : List LocalRef)
    → object_where (has h) (filter (other_than k) xs) ≡ Some o → object_where (has h) xs ≡ Some o
others_found h k o [] e = e
others_found h k o (x ∷ xs) e =
    go (same_handle x.handle k) (same_handle x.handle h) refl refl e (others_found h k o xs)
  where
    go : (b c : Bool) → same_handle x.handle k ≡ b → same_handle x.handle h ≡ c
        → object_where (has h) (cond (not b) (x ∷ filter (other_than k) xs) (filter (other_than k) xs)) ≡ Some o
        → (object_where (has h) (filter (other_than k) xs) ≡ Some o → object_where (has h) xs ≡ Some o)
        → cond c (Some x.object) (object_where (has h) xs) ≡ Some o
    go true true is so e rest =
        let same : k ≡ h = sym (handle_true x.handle k is) ∙ handle_true x.handle h so in
        let none = absent_without h xs in
        let there = subst (λ (j : Handle). object_where (has h) (filter (other_than j) xs) ≡ Some o) same e in
        absurd (let bad = sym none ∙ there in cc)
    go true false is so e rest = rest e
    go false true is so e rest =
        sym (ap (λ c. cond c (Some x.object) (object_where (has h) (filter (other_than k) xs))) so) ∙ e
    go false false is so e rest =
        rest (sym (ap (λ c. cond c (Some x.object) (object_where (has h) (filter (other_than k) xs))) so) ∙ e)

module _ (last thread : ℕ) where
  -- a move leaves each handle that stands behind it what it was
  moved_from : (h : Handle) (f : Frames) {g : Frames} {acts : List Act} (o : ℕ) → IsMove last thread f acts g
      → IsPast h f → object_of g h ≡ Some o → object_of f h ≡ Some o
  moved_from h f o (pushes l) p e = sym (ap (object_where (has h)) (joined_push f.frames)) ∙ e
  moved_from h f {g} o (adds q a) p e = go (same_handle q.handle h) refl
    where
      go : (b : Bool) → same_handle q.handle h ≡ b → object_of f h ≡ Some o
      go true is = absurd (past_not_new last thread h q f g a p (handle_true q.handle h is))
      go false is = sym (ap (λ (x : Frames). object_of x h) a.new_is ∙ last_same (has h) f.frames q is) ∙ e
  moved_from h f o (deletes k s) p e =
      others_found h k o (all_refs f) (sym (ap (object_where (has h)) (joined_filter (other_than k) f.frames)) ∙ e)
  moved_from h f o (pops l) p e = ap (object_where (has h)) (joined_before f.frames)
      ∙ front_found (has h) (joined (frames_before f.frames)) (last_frame f.frames) o e
  moved_from h f o frees p e = absurd cc

  later_from : (h : Handle) (f : Frames) {g : Frames} (o : ℕ) → LeadsTo last thread f g → IsPast h f
      → object_of g h ≡ Some o → object_of f h ≡ Some o
  later_from h f o stays p e = e
  later_from h f o (goes_on {g} l m) p e =
      later_from h f o l p (moved_from h g o m (past_later last thread h f l p) e)

  -- a local handle is to one object for as long as it stands
  local_lasts : (h : Handle) (f g : Frames) (o p : ℕ) → AreSound f → LeadsTo last thread f g → object_of f h ≡ Some o
      → object_of g h ≡ Some p → p ≡ o
  local_lasts h f g o p sound l e d =
      let stood : IsSome (object_of f h) = subst (λ x. IsSome x) (sym e) refl in
      let is = newest_standing f.given h (all_refs f) sound.newest stood in
      some_is p o (sym (later_from h f p l (omega arith) d) ∙ e)

module _ (c : Config) (last : ℕ) (h : Handle) (o : ℕ) where
  -- a handle that was given is to this object, or to none
  abbrev IsTo : State → Type 0
  IsTo s = (s.given h ≡ true) × ((p : ℕ) → s.refs h ≡ Object p → p ≡ o)

  to_act : (s : State) (t : ℕ) (a : Act) → IsTo s → ActNeeds c last s t a → IsTo (act_after s t a)
  to_act s t (Create g q) i n = (
    at_handle (λ x. x ≡ true) s.given g h true (λ e. refl) (λ ne. i.0),
    at_handle (λ x. (p : ℕ) → x ≡ Object p → p ≡ o) s.refs g h (Object q)
        (λ e. let fresh = n.4 g refl refl in let was = i.0 in absurd (cc (ap s.given e))) (λ ne. i.1),
  )
  to_act s t (Delete g) i n = (
    i.0,
    at_handle (λ x. (p : ℕ) → x ≡ Object p → p ≡ o) s.refs g h Stale (λ e p is. absurd cc) (λ ne. i.1),
  )
  to_act s t (Clear g) i n = (
    i.0,
    at_handle (λ x. (p : ℕ) → x ≡ Object p → p ≡ o) s.refs g h Cleared (λ e p is. absurd cc) (λ ne. i.1),
  )
  to_act s t _ i n = i

  shared_lasts : (before since : History) (p : ℕ) → IsLegal c last (before ++ since)
      → (state before).refs h ≡ Object o → (state (before ++ since)).refs h ≡ Object p → p ≡ o
  shared_lasts before since p legal e d =
      let parts = (legal_append c last before since).0 legal in
      let given = (kept_state c last before parts.0).was_given h (λ n. let bad = sym e ∙ n in cc) in
      let first : IsTo (state before) = (given, λ q is. let both = sym e ∙ is in cc) in
      let then : IsTo (state_from (state before) since) =
      kept_from c last IsTo (λ s ev i n. to_act s ev.thread ev.act i n.1) (state before) since first parts.1 in
      then.1 p (sym (ap (λ (s : State). s.refs h) (state_append before since)) ∙ d)

found_object_is : (r : Found) (o : ℕ) → found_in r ≡ Some o → r ≡ Object o
found_object_is (Object p) o e = cc
found_object_is Cleared o e = absurd cc
found_object_is Stale o e = absurd cc

own_thread : (h : Handle) (t u : ℕ) → is_local h ≡ true → is_foreign t (Parts h) ≡ false
    → is_foreign u (Parts h) ≡ false → u ≡ t
own_thread h t u local mine yours =
    sym (owner u (subst (λ b. (b && not (h.owner == u)) ≡ false) local yours))
    ∙ owner t (subst (λ b. (b && not (h.owner == t)) ≡ false) local mine)
  where
    owner : (v : ℕ) → (true && not (h.owner == v)) ≡ false → h.owner ≡ v
    owner v e = go (h.owner == v) refl e
      where
        go : (b : Bool) → (h.owner == v) ≡ b → (true && not b) ≡ false → h.owner ≡ v
        go true is d = eq_true h.owner v is
        go false is d = absurd cc

module _ (c : Config) (last : ℕ) where
  pub identity_lasts : IdentityLasts c last
  identity_lasts t u f g Nothing o p before since legal sound leads a b =
      absurd (let e = (identity_in c last t (state before) f Nothing o a).1 in cc)
  identity_lasts t u f g Malformed o p before since legal sound leads a b =
      absurd (let e = (identity_in c last t (state before) f Malformed o a).1 in cc)
  identity_lasts t u f g (Parts h) o p before since legal sound leads a b =
      let x = identity_in c last t (state before) f (Parts h) o a in
      let y = identity_in c last u (state (before ++ since)) g (Parts h) p b in
      go (is_local h) refl x.1 y.1 x.0 y.0
    where
      go : (l : Bool) → is_local h ≡ l → cond l (object_of f h) (found_in ((state before).refs h)) ≡ Some o
          → cond l (object_of g h) (found_in ((state (before ++ since)).refs h)) ≡ Some p
          → is_foreign t (Parts h) ≡ false → is_foreign u (Parts h) ≡ false → p ≡ o
      go true local e d mine yours =
          local_lasts last t h f g o p sound (leads (own_thread h t u local mine yours)) e d
      go false shared e d mine yours =
          shared_lasts c last h o before since p legal (found_object_is _ o e) (found_object_is _ p d)
