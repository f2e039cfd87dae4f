-- What calls count, whatever their programs: how many handles each place gives, and how many references are given up.
use Rattle.std.proofs.Common.{◌≡◌, ◌≢◌, ◌≤◌, ◌+◌, ℕ, zero, suc, Bool, true, false, nat_lt, nat_le, ◌==◌, ◌||◌, Option}
use Rattle.std.proofs.Common.{Some, cond, None, List, [], ◌∷◌, ◌++◌, length, replicate, slice_index, Result, Ok, Err}
use Rattle.std.proofs.Common.{refl}
use Rattle.std.proofs.Common.{sym, ap, subst, ◌∙◌, arith}
use Rattle.std.proofs.lemmas.Bool.Decides.{nat_tests}
use Rattle.std.proofs.lemmas.List.{length-append, length-map}
use Rattle.std.proofs.lemmas.Bool.{not-true, or_parts}
use Rattle.std.specs.List.{AllByRecursion, filter}
use Rattle.jr_word.specs.declared.config.Config.{Config}
use Rattle.jr_word.specs.declared.fault.Fault.{Fault}
use Rattle.jr_word.specs.declared.fault.Fault.TheVariants.{LocalsFull, NoFrame, ObjectsFull}
use Rattle.jr_word.specs.declared.fault.Fault.TheVariants as fault
use Rattle.jr_word.specs.declared.handle.RefKind.{RefKind}
use Rattle.jr_word.specs.declared.kind.Kind.{Kind}
use Rattle.jr_model.specs.declared.event.Act.{Act}
use Rattle.jr_model.specs.declared.event.Act.TheVariants.{Delete, DeleteStale, Gate, LocalDrop, LocalPut, New, Read}
use Rattle.jr_model.specs.declared.event.Act.TheVariants.{Reserve, ReserveFull, ReserveLost, Write}
use Rattle.jr_model.specs.declared.event.Found.{Found}
use Rattle.jr_model.specs.declared.event.Found.TheVariants.{Cleared, Object, Stale}
use Rattle.jr_model.specs.declared.event.GateAct.TheVariants.{Announce, Cancel, Enter, Knock, Leave, Reopen, Shut}
use Rattle.jr_model.specs.declared.event.GateAct.TheVariants.{Withdraw}
use Rattle.jr_model.specs.declared.event.Role.{Role}
use Rattle.jr_model.specs.declared.event.Role.TheVariants.{Collecting}
use Rattle.jr_model.specs.declared.frames.LocalRef.{LocalRef}
use Rattle.jr_model.specs.declared.frames.TheConstants.{FRAMES}
use Rattle.jr_model.specs.State.{Handle, State}
use Rattle.jr_model.specs.Frames.{Frames, IsAdded, all_refs, drop_all, is_held, last_frame, frames_before, pushed}
use Rattle.jr_model.specs.Frames.{stored_at, with_last}
use Rattle.jr_model.specs.History.{role_after, role_from}
use Rattle.jr_model.specs.Calls.{Call, ◌>>=◌, ◌>>◌, act, done, entered, one_of, opened, refuse, refuse_if, some_act}
use Rattle.jr_model.specs.Checks.{Word, Malformed, Nothing, Parts}
use Rattle.jr_model.specs.Parts.{create, created, delete_at, delete_found, delete_local_at, drop_local, frame_left}
use Rattle.jr_model.specs.Parts.{frame_to_pop, new_frame, publish, read, read_acts, region_release, reserve, take_frame}
use Rattle.jr_model.specs.Parts.{write, write_acts}
use Rattle.jr_model.specs.References.{added, freeing, made, new_local, popping, resolved, room_after, room_for}
use Rattle.jr_model.specs.RefusedCalls.{is_harmless, may_precede}
use Rattle.jr_model.specs.Programs.{AnswerKind, Ending, Program, Which, at_both, call_of, compares, copies, creates}
use Rattle.jr_model.specs.Programs.{deletes, deletes_local, ended, ends, fills, finds, frees, gives_kind, gives_number}
use Rattle.jr_model.specs.Programs.{gives_object, handed_none, looks, makes, names, names_both, none_known, one, other}
use Rattle.jr_model.specs.Programs.{asks_room, pops_to, pushes, reads, reads_from, refers, set_known, tests, types}
use Rattle.jr_model.specs.Programs.{wants, writes, writes_from, writes_to}
use Rattle.jr_model.specs.Tests.{AreSilent, Tests, tested}
use Rattle.jr_model.specs.AllCalls.{CallOf, aborts, enters, keeps, means, nests, opens, stays_out}
use Rattle.jr_model.proofs.Agreement.{added_given, joined_last, joined_push, other_than, stored_append}
use Rattle.jr_model.proofs.Composed.{Composes, Gives, Refusing, act_gives, at_most_gives, bind_gives, cond_gives}
use Rattle.jr_model.proofs.Composed.{done_gives, either_gives, entered_gives, framed_gives, memory_gives, object_gives}
use Rattle.jr_model.proofs.Composed.{opened_gives, some_act_gives, weaker_gives}
use Rattle.jr_model.proofs.Exactly.{all_map}
use Rattle.jr_model.proofs.Lawful.{IsLawful, IsPrelude}
use Rattle.jr_model.proofs.Preludes.{both_prelude, check, done_prelude, look_prelude, looked_at_prelude}
use Rattle.jr_model.proofs.Preludes.{not_null_prelude, probes_prelude, resolved_prelude, room_prelude, some_act_prelude}
use Rattle.jr_model.proofs.Preludes.{type_prelude}
use Rattle.jr_model.proofs.ShownRefusals.{Purpose, silent_unshown, words_alone}
use Rattle.jr_model.proofs.Moves.{after_room}
use Rattle.jr_model.proofs.Stays.{role_from_append}
use Rattle.jr_model.proofs.Updates.{and_left, eq_true}
use Rattle.one_order.proofs.Lists.{all_weaker}
use Rattle.jr_scripts.proofs.TogetherRun.Moments.{HasLeft, Settles, deleted_in}

-- ACTS

-- an act that stores no local reference, deletes no other, and begins no collection
abbrev pub IsUncounted : Act → Type 0
IsUncounted (LocalPut q o) = ⊥
IsUncounted (Delete h) = ⊥
IsUncounted (Gate Shut) = ⊥
IsUncounted _ = Unit {0}

-- none of them does
abbrev pub AreUncounted : List Act → Type 0
AreUncounted acts = AllByRecursion IsUncounted acts

-- .. so they store and delete nothing
pub uncounted : (acts : List Act) → AreUncounted acts
    → ((p : ℕ) → stored_at p acts ≡ 0) × (length (deleted_in acts) ≡ 0)
uncounted [] none = ((λ p. refl), refl)
uncounted (LocalPut q o ∷ acts) none = absurd none.0
uncounted (Delete h ∷ acts) none = absurd none.0
uncounted (Gate Shut ∷ acts) none = absurd none.0
uncounted (_ ∷ acts) none = uncounted acts none.1

-- a thread comes to collect by a shut alone
role_behind_act : (r : Role) (a : Act) → IsUncounted a → r ≢ Collecting → role_after r a ≢ Collecting
role_behind_act r (Gate Shut) none out = absurd none
role_behind_act r (Gate Enter) none out = λ e. cc
role_behind_act r (Gate Knock) none out = λ e. cc
role_behind_act r (Gate Leave) none out = λ e. cc
role_behind_act r (Gate Withdraw) none out = λ e. cc
role_behind_act r (Gate Announce) none out = λ e. cc
role_behind_act r (Gate Cancel) none out = λ e. cc
role_behind_act r (Gate Reopen) none out = λ e. cc
role_behind_act r _ none out = out

pub uncounted_settle : (acts : List Act) → AreUncounted acts → Settles acts
uncounted_settle [] none r out = out
uncounted_settle (a ∷ acts) none r out =
    uncounted_settle acts none.1 (role_after r a) (role_behind_act r a none.0 out)

-- lists that settle do so one behind the other
pub both_settle : (xs ys : List Act) → Settles xs → Settles ys → Settles (xs ++ ys)
both_settle xs ys first second r out e = second (role_from r xs) (first r out) (sym (role_from_append r xs ys) ∙ e)

pub many_deleted : (xs ys : List Act)
    → length (deleted_in (xs ++ ys)) ≡ length (deleted_in xs) + length (deleted_in ys)
many_deleted [] ys = omega arith
many_deleted (Delete h ∷ xs) ys = let rest = many_deleted xs ys in omega arith
many_deleted (_ ∷ xs) ys = many_deleted xs ys

-- acts that change nothing are such, and so are those before a refusal
harmless_uncounted : (a : Act) → is_harmless a ≡ true → IsUncounted a
harmless_uncounted (LocalPut q o) h = absurd cc
harmless_uncounted (Delete g) h = absurd cc
harmless_uncounted (Gate Shut) h = absurd cc
harmless_uncounted _ h = tt

pub precede_uncounted : (e : Fault) (a : Act) → may_precede e a ≡ true → IsUncounted a
precede_uncounted ObjectsFull (Reserve n) h = tt
precede_uncounted ObjectsFull a h = harmless_uncounted a h
precede_uncounted e a h = harmless_uncounted a h

pub drops_uncounted : (rs : List LocalRef) → AreUncounted (drop_all rs)
drops_uncounted rs = all_map IsUncounted (λ (r : LocalRef). LocalDrop r.handle.index) rs (λ r. tt)

reads_uncounted : (o start : ℕ) (vs : List ℕ) → AreUncounted (read_acts o start vs)
reads_uncounted o start [] = tt
reads_uncounted o start (v ∷ vs) = (tt, reads_uncounted o (start + 1) vs)

writes_uncounted : (o start : ℕ) (vs : List ℕ) → AreUncounted (write_acts o start vs)
writes_uncounted o start [] = tt
writes_uncounted o start (v ∷ vs) = (tt, writes_uncounted o (start + 1) vs)

-- FRAMES

-- as much is left as this, where more is
less_left : {last k n : ℕ} {f : Frames} → k ≤ n → HasLeft last n f → HasLeft last k f
less_left less left = record {
  some_frame = left.some_frame;
  free = λ p none. let most = left.free p none in omega (arith, less, most);
  all = λ p. let most = left.all p in omega (arith, less, most);
}

-- WHAT A CALL COUNTS, from at least so many frames on: what it adds to the serials that are given. It gives up
-- references so often at the most, and leaves at least so many frames
pub record Counted (last need leave n : ℕ) (old : Frames) (acts : List Act) (new : Frames) : Type 0 where
  pub given : (p : ℕ) → slice_index new.given p ≡ slice_index old.given p + stored_at p acts
  pub framed : need ≤ length old.frames → leave ≤ length new.frames
  pub left : need ≤ length old.frames → (k : ℕ) → HasLeft last (n + k) old → HasLeft last k new
  pub deletes : length (deleted_in acts) ≤ n
  pub settles : Settles acts

-- whatever a refusal leaves
abbrev pub Anyhow : Refusing
Anyhow old acts e new = Unit {0}

-- a call that counts so often
abbrev pub IsCounted : {A : Type 0} → ℕ → ℕ → Call A → Type 0
IsCounted last n call = Gives (Counted last 1 1 n) Anyhow call

module _ {last : ℕ} where
  -- acts that store and delete nothing and settle, by which the frames stay
  pub settled_counts : {m n : ℕ} {old new : Frames} {acts : List Act} → ((p : ℕ) → stored_at p acts ≡ 0)
      → length (deleted_in acts) ≡ 0 → Settles acts → new ≡ old → Counted last m m n old acts new
  settled_counts {m} {n} {old} {new} {acts} puts_none deletes_none settled same = record {
    given = λ p.
        let is : slice_index new.given p ≡ slice_index old.given p = ap (λ (f : Frames). slice_index f.given p) same in
        let zero = puts_none p in
        omega (arith, is, zero);
    framed = λ enough. subst (λ (f : Frames). m ≤ length f.frames) (sym same) enough;
    left = λ enough k left. subst (HasLeft last k) (sym same) (less_left (omega arith) left);
    deletes = omega (arith, deletes_none);
    settles = settled;
  }

  -- .. as acts that don't count
  pub same_counts : {m n : ℕ} {old new : Frames} {acts : List Act} → AreUncounted acts → new ≡ old
      → Counted last m m n old acts new
  same_counts {acts = acts} none same =
      let zero = uncounted acts none in settled_counts zero.0 zero.1 (uncounted_settle acts none) same

  -- .. or some references are given up
  given_up_counts : {need : ℕ} {old new : Frames} {acts : List Act} → AreUncounted acts → new.given ≡ old.given
      → (need ≤ length old.frames → 1 ≤ length new.frames) → Counted last need 1 1 old acts new
  given_up_counts {old = old} {new = new} {acts = acts} none same framed = record {
    given = λ p.
        let is : slice_index new.given p ≡ slice_index old.given p = ap (λ l. slice_index l p) same in
        let zero = (uncounted acts none).0 p in
        omega (arith, is, zero);
    framed = framed;
    left = λ enough k left. record {
      some_frame = framed enough;
      free = λ p away.
          let is : slice_index new.given p ≡ slice_index old.given p = ap (λ l. slice_index l p) same in
          let most = left.all p in
          omega (arith, is, most);
      all = λ p.
          let is : slice_index new.given p ≡ slice_index old.given p = ap (λ l. slice_index l p) same in
          let most = left.all p in
          omega (arith, is, most);
    };
    deletes = let zero = (uncounted acts none).1 in omega (arith, zero);
    settles = uncounted_settle acts none;
  }

  pub both_count : {a b c m n s : ℕ} → m + n ≤ s → (f g h : Frames) (xs ys : List Act) → Counted last a b m f xs g
      → Counted last b c n g ys h → Counted last a c s f (xs ++ ys) h
  both_count {n = n} {s = s} most f g h xs ys p q = record {
    given = λ p'.
        let x = p.given p' in
        let y = q.given p' in
        let all = stored_append p' xs ys in
        omega (arith, x, y, all);
    framed = λ enough. q.framed (p.framed enough);
    left = λ enough k left.
        q.left (p.framed enough) k (p.left enough (n + k) (less_left (omega (arith, most)) left));
    deletes =
        let x = p.deletes in
        let y = q.deletes in
        let all = many_deleted xs ys in
        omega (arith, x, y, all, most);
    settles = both_settle xs ys p.settles q.settles;
  }

  -- .. and where they are given up more often
  pub more_counts : {a b m n : ℕ} {f g : Frames} {xs : List Act} → m ≤ n → Counted last a b m f xs g
      → Counted last a b n f xs g
  more_counts {m = m} less p = record {
    given = p.given;
    framed = p.framed;
    left = λ enough k left. p.left enough k (less_left (omega (arith, less)) left);
    deletes = let most = p.deletes in omega (arith, less, most);
    settles = p.settles;
  }

  -- one call and then another
  composed : {a b c m n s : ℕ} → m + n ≤ s
      → Composes (Counted last a b m) Anyhow (Counted last b c n) Anyhow (Counted last a c s)
  composed most = record { joins = both_count most; behind = λ f g h xs ys e p q. tt }

  -- a part before anything is changed
  quiet : {m : ℕ} {A : Type 0} {call : Call A} → IsPrelude (words_alone 0) call
      → Gives (Counted last m m 0) Anyhow call
  quiet p = weaker_gives
      (λ f g xs q. same_counts (all_weaker harmless_uncounted xs q.harmless) q.same)
      (λ f g xs e q. tt) p

  -- what never counts, and then a call
  first_none : {a b d n : ℕ} {A B : Type 0} {first : Call A} {next : A → Call B}
      → Gives (Counted last a b 0) Anyhow first → ((x : A) → Gives (Counted last b d n) Anyhow (next x))
      → Gives (Counted last a d n) Anyhow (first >>= next)
  first_none {n = n} p q = bind_gives (composed {m = 0} {n = n} (omega arith)) p q

  before : {m l n : ℕ} {A B : Type 0} {first : Call A} {next : A → Call B} → IsPrelude (words_alone 0) first
      → ((x : A) → Gives (Counted last m l n) Anyhow (next x)) → Gives (Counted last m l n) Anyhow (first >>= next)
  before p q = first_none (quiet p) q

  -- an act that doesn't count
  acted : (a : Act) → IsUncounted a → IsCounted last 0 (act a)
  acted a none = act_gives a (λ f. same_counts (none, tt) refl)

  some_acted : {X : Type 0} (a : X → Act) → ((x : X) → IsUncounted (a x)) → IsCounted last 0 (some_act a)
  some_acted a none = some_act_gives a (λ x f. same_counts (none x, tt) refl)

  -- a refusal
  refused : {m l n : ℕ} {A : Type 0} (e : Fault) → Gives (Counted last m l n) Anyhow (refuse {A = A} e)
  refused e = record { goes = λ old new acts x r. absurd (let bad = r.1 in cc); fails = λ old new acts x r. tt }

  -- a call, and then an answer
  answered : {n : ℕ} {A B : Type 0} {first : Call A} → IsCounted last n first → (form : A → B)
      → IsCounted last n (first >>= (λ x. done (form x)))
  answered p form = bind_gives {Second = Counted last 1 1 0} {Worse = Anyhow} (composed (omega arith)) p
      (λ x. done_gives (form x) (λ f. same_counts tt refl))

  -- SLOTS AND OBJECTS

  create_counts : (slots : ℕ) (k : RefKind) (o : ℕ) → IsCounted last 0 (create slots k o)
  create_counts slots k o = at_most_gives (slots + slots) (before probes_prelude (λ x. either_gives
      (record {
        goes = λ old new acts h r. same_counts (subst AreUncounted (sym r.2) (tt, tt)) r.4;
        fails = λ old new acts e r. tt;
      })
      (refused _)))

  created_counts : (slots : ℕ) (k : RefKind) (o : Option ℕ) → IsCounted last 0 (created slots k o)
  created_counts slots k None = quiet (done_prelude None)
  created_counts slots k (Some o) = answered (create_counts slots k o) Some

  -- a reference is deleted
  deleted_once : {f : Frames} (h : Handle) → Counted last 1 1 1 f (Delete h ∷ []) f
  deleted_once h = record {
    given = λ p. omega arith;
    framed = λ enough. enough;
    left = λ enough k left. less_left (omega arith) left;
    deletes = omega arith;
    settles = λ r out. out;
  }

  found_deleted : (h : Handle) → IsCounted last 1 (one_of (act (Delete h)) (act (DeleteStale h) >> refuse fault.Stale))
  found_deleted h = either_gives (act_gives (Delete h) (λ f. deleted_once h))
      (first_none (acted (DeleteStale h) tt) (λ x. refused _))

  delete_found_counts : (h : Handle) (r : Found) → IsCounted last 1 (delete_found h r)
  delete_found_counts h Stale = refused _
  delete_found_counts h (Object o) = found_deleted h
  delete_found_counts h Cleared = found_deleted h

  delete_at_counts : (a : Word) → IsCounted last 1 (delete_at a)
  delete_at_counts Nothing = done_gives tt (λ f. same_counts tt refl)
  delete_at_counts Malformed = done_gives tt (λ f. same_counts tt refl)
  delete_at_counts (Parts h) = before (look_prelude h) (delete_found_counts h)

  read_counts : (o start n : ℕ) → IsCounted last 0 (read o start n)
  read_counts o start n = record {
    goes = λ old new acts x r. same_counts (subst AreUncounted (sym r.2) (reads_uncounted o start r.0)) r.4;
    fails = λ old new acts e r. tt;
  }

  write_counts : (o start : ℕ) (vs : List ℕ) → IsCounted last 0 (write o start vs)
  write_counts o start vs = record {
    goes = λ old new acts x r. same_counts (subst AreUncounted (sym r.0) (writes_uncounted o start vs)) r.2;
    fails = λ old new acts e r. tt;
  }

  reserve_counts : (n : ℕ) → IsCounted last 0 (reserve n)
  reserve_counts zero = quiet (done_prelude tt)
  reserve_counts (suc n) = either_gives (acted (Reserve (suc n)) tt) (either_gives
      (first_none (some_acted (ReserveFull (suc n)) (λ u. tt)) (λ u. refused _))
      (first_none (some_acted {X = ℕ × ℕ} (λ l. ReserveLost (suc n) l.0 l.1) (λ l. tt)) (λ l. refused _)))

  publish_counts : (k : Kind) (ws : List ℕ) → IsCounted last 0 (publish k ws)
  publish_counts k ws = either_gives (some_acted (λ o. New o k ws) (λ o. tt)) (refused _)

-- LOCAL REFERENCES

length_last : (xs : List (List LocalRef)) (r : LocalRef) → length (with_last xs r) ≡ length xs
length_last [] r = refl
length_last (x ∷ []) r = refl
length_last (x ∷ y ∷ xs) r = ap suc (length_last (y ∷ xs) r)

length_before : (x : List LocalRef) (xs : List (List LocalRef))
    → suc (length (frames_before (x ∷ xs))) ≡ length (x ∷ xs)
length_before x [] = refl
length_before x (y ∷ xs) = ap suc (length_before y xs)

one_left : (xs : List (List LocalRef)) → 2 ≤ length xs → 1 ≤ length (frames_before xs)
one_left [] enough = absurd (omega arith)
one_left (x ∷ xs) enough = let more = length_before x xs in omega (arith, enough, more)

-- with one reference more a place that is free was so before, and is not that one's
still_free : (xs : List LocalRef) (r : LocalRef) (p : ℕ) → is_held (xs ++ r ∷ []) p ≡ false
    → (is_held xs p ≡ false) × ((r.handle.index == p) ≡ false)
still_free [] r p free = (refl, (or_parts (r.handle.index == p) false free).0)
still_free (x ∷ xs) r p free =
    let parts = or_parts (x.handle.index == p) (is_held (xs ++ r ∷ []) p) free in
    let rest = still_free xs r p parts.1 in
    (ap (λ b. b || is_held xs p) parts.0 ∙ rest.0, rest.1)

module _ {last : ℕ} where
  module _ (thread : ℕ) (f g : Frames) (r : LocalRef) (is : IsAdded last thread f r g) where
    -- another place gives nothing
    given_elsewhere : (p : ℕ) → (r.handle.index == p) ≡ false → slice_index g.given p ≡ slice_index f.given p
    given_elsewhere p away =
        let zero : ◌≡◌ {A = ℕ} (cond (r.handle.index == p) 1 0) 0 = ap (λ b. cond b 1 0) away in
        let more : slice_index g.given p ≡ slice_index f.given p + (cond (r.handle.index == p) 1 0 + 0) =
        added_given last thread f g r is p in
        omega (arith, zero, more)

    -- its own place gives one more, and had one left
    given_here : (p : ℕ) → (r.handle.index == p) ≡ true → (k : ℕ) → HasLeft last k f
        → slice_index g.given p + k ≤ suc last
    given_here p here k left =
        let one : ◌≡◌ {A = ℕ} (cond (r.handle.index == p) 1 0) 1 = ap (λ b. cond b 1 0) here in
        let more : slice_index g.given p ≡ slice_index f.given p + (cond (r.handle.index == p) 1 0 + 0) =
        added_given last thread f g r is p in
        let same : r.handle.index ≡ p = eq_true r.handle.index p here in
        let most = left.free p (ap (is_held (all_refs f)) (sym same) ∙ not-true _
        (and_left _ (nat_le (slice_index f.given r.handle.index) last) is.free)) in
        omega (arith, one, more, most)

    still_framed : 1 ≤ length f.frames → 1 ≤ length g.frames
    still_framed enough =
        let same : length g.frames ≡ length f.frames =
        ap (λ (x : Frames). length x.frames) is.new_is ∙ length_last f.frames r in
        omega (arith, enough, same)

    added_left : (k : ℕ) → HasLeft last k f → HasLeft last k g
    added_left k left = record {
      some_frame = still_framed left.some_frame;
      free = free;
      all = λ p. all p (r.handle.index == p) refl;
    }
      where
        refs : all_refs g ≡ all_refs f ++ r ∷ []
        refs = ap (λ (x : Frames). all_refs x) is.new_is ∙ joined_last f.frames r left.some_frame

        free : (p : ℕ) → is_held (all_refs g) p ≡ false → slice_index g.given p + k ≤ last
        free p none =
            let parts = still_free (all_refs f) r p (ap (λ l. is_held l p) (sym refs) ∙ none) in
            let same = given_elsewhere p parts.1 in
            let most = left.free p parts.0 in
            omega (arith, same, most)

        all : (p : ℕ) (b : Bool) → (r.handle.index == p) ≡ b → slice_index g.given p + k ≤ suc last
        all p true here = given_here p here k left
        all p false away =
            let same = given_elsewhere p away in
            let most = left.all p in
            omega (arith, same, most)

    added_once : Counted last 1 1 0 f (LocalPut r.handle.index r.object ∷ []) g
    added_once = record {
      given = added_given last thread f g r is;
      framed = still_framed;
      left = λ enough k left. added_left k (less_left (omega arith) left);
      deletes = omega arith;
      settles = λ role out. out;
    }

  added_counts : (c : Config) (thread o : ℕ) → IsCounted last 0 (added c last thread o)
  added_counts c thread o = record {
    goes = λ old new acts x r. subst (λ l. Counted last 1 1 0 old l new) (sym r.1)
        (added_once thread old new (record { handle = r.0; object = o }) r.3);
    fails = λ old new acts e r. tt;
  }

  new_local_counts : (c : Config) (thread : ℕ) (o : Option ℕ) → IsCounted last 0 (new_local c last thread o)
  new_local_counts c thread None = quiet (done_prelude None)
  new_local_counts c thread (Some o) = before (room_prelude c last thread 1) (λ x.
      answered (added_counts c thread o) Some)

  drop_counts : (h : Handle) → IsCounted last 1 (drop_local h)
  drop_counts h = record {
    goes = λ old new acts x r. given_up_counts (subst AreUncounted (sym r.0) (tt, tt))
        (ap (λ (f : Frames). f.given) r.2) (λ enough.
        let same : length new.frames ≡ length old.frames =
        ap (λ (f : Frames). length f.frames) r.2 ∙ length-map old.frames (filter (other_than h)) in
        omega (arith, enough, same));
    fails = λ old new acts e r. tt;
  }

  delete_local_at_counts : (a : Word) → IsCounted last 1 (delete_local_at a)
  delete_local_at_counts Nothing = done_gives tt (λ f. same_counts tt refl)
  delete_local_at_counts Malformed = done_gives tt (λ f. same_counts tt refl)
  delete_local_at_counts (Parts h) = before (looked_at_prelude h) (λ x. drop_counts h)

  -- FRAMES

  freeing_counts : IsCounted last 1 freeing
  freeing_counts = record {
    goes = λ old new acts x r. given_up_counts (subst AreUncounted (sym r.0) (drops_uncounted (all_refs old)))
        (ap (λ (f : Frames). f.given) r.2) (λ enough.
        subst (λ (f : Frames). 1 ≤ length f.frames) (sym r.2) (omega arith));
    fails = λ old new acts e r. tt;
  }

  -- one more frame, which holds nothing
  framed_counts : IsCounted last 0 new_frame
  framed_counts = record {
    goes = λ old new acts x r. subst (λ l. Counted last 1 1 0 old l new) (sym r.0)
        (subst (Counted last 1 1 0 old []) (sym r.2) (one_more old));
    fails = λ old new acts e r. tt;
  }
    where
      one_more : (f : Frames) → Counted last 1 1 0 f [] (pushed f)
      one_more f = record {
        given = λ p. omega arith;
        framed = λ enough. let more = length-append f.frames ([] ∷ []) in omega (arith, enough, more);
        left = λ enough k left. record {
          some_frame = let more = length-append f.frames ([] ∷ []) in omega (arith, enough, more);
          free = λ p none.
              let most = left.free p (ap (λ l. is_held l p) (sym (joined_push f.frames)) ∙ none) in
              omega (arith, most);
          all = λ p. let most = left.all p in omega (arith, most);
        };
        deletes = omega arith;
        settles = λ r out. out;
      }

  pushing_counts : (c : Config) (thread n : ℕ)
      → IsCounted last 0 (frame_left >> (room_for c last thread n >> new_frame))
  pushing_counts c thread n = before
      (framed_gives (λ old. refuse_if (nat_le FRAMES (length old.frames)) LocalsFull) (λ f. check _ _ refl))
      (λ x. before (room_prelude c last thread n) (λ y. framed_counts))

  -- where a frame is popped there are two
  two_counts : Gives (Counted last 1 2 0) Anyhow frame_to_pop
  two_counts = record {
    goes = λ old new acts x r. go old new acts (nat_lt (length old.frames) 2) refl x r;
    fails = λ old new acts e r. tt;
  }
    where
      two : (n : ℕ) → nat_lt n 2 ≡ false → 2 ≤ n
      two n is = grind (arith, nat_tests)

      go : (old new : Frames) (acts : List Act) (b : Bool) → nat_lt (length old.frames) 2 ≡ b → (x : Unit {0})
          → refuse_if b NoFrame old acts (Ok x) new → Counted last 1 2 0 old acts new
      go old new acts true is x r = absurd (let bad = r.1 in cc)
      go old new acts false is x r =
          let same : Counted last 2 2 0 old acts new = same_counts (subst AreUncounted (sym r.0) tt) r.2 in
          let enough = two (length old.frames) is in record {
            given = same.given;
            framed = λ one. same.framed enough;
            left = λ one. same.left enough;
            deletes = same.deletes;
            settles = same.settles;
          }

  take_counts : Gives (Counted last 2 1 1) Anyhow take_frame
  take_counts = record {
    goes = λ old new acts x r. given_up_counts
        (subst AreUncounted (sym r.0) (drops_uncounted (last_frame old.frames)))
        (ap (λ (f : Frames). f.given) r.2) (λ enough.
        subst (λ (f : Frames). 1 ≤ length f.frames) (sym r.2) (one_left old.frames enough));
    fails = λ old new acts e r. tt;
  }

  after_room_counts : (c : Config) (thread : ℕ) (o : Option ℕ)
      → Gives (Counted last 2 2 0) Anyhow (room_after c last thread o)
  after_room_counts c thread o =
      quiet (weaker_gives (λ f g xs q. q.0) (λ f g xs e q. q) (after_room {asked = words_alone 0} c last thread o))

  popping_counts : (c : Config) (thread : ℕ) (a : Word)
      → IsCounted last 1 (frame_to_pop >> (resolved c last thread a >>= popping c last thread))
  popping_counts c thread a = first_none two_counts (λ u.
      before (resolved_prelude c last thread a) (λ o. first_none (after_room_counts c thread o) (λ x.
      bind_gives (composed {m = 1} {n = 0} (omega arith)) take_counts (λ y. new_local_counts c thread o))))

  -- NEW OBJECTS

  made_counts : (c : Config) (thread : ℕ) (k : Kind) (ws : List ℕ) → IsCounted last 0 (made c last thread k ws)
  made_counts c thread k ws = before (room_prelude c last thread 1) (λ x.
      first_none (reserve_counts (length ws)) (λ y. first_none (publish_counts k ws) (λ o. added_counts c thread o)))

-- EACH PROGRAM

-- how often an ending gives up references at the most
abbrev giving : {n : ℕ} {a : AnswerKind} → Ending n a → ℕ
giving (deletes k w) = 1
giving (deletes_local w) = 1
giving (pops_to w) = 1
giving frees = 1
giving _ = 0

module _ {last : ℕ} (c : Config) (thread : ℕ) (words : Which → Word) where
  ended_counts : {n : ℕ} {a : AnswerKind} (e : Ending n a) (known : Which → Option ℕ) (o : ℕ)
      → IsCounted last (giving e) (ended c last thread words e known o)
  ended_counts (gives_kind k) known o = quiet (done_prelude k)
  ended_counts (gives_number n) known o = quiet (done_prelude n)
  ended_counts gives_object known o = quiet (done_prelude o)
  ended_counts compares known o = quiet (done_prelude _)
  ended_counts (types w) known o = quiet (cond_gives _ (done_prelude 0) (type_prelude (words w)))
  ended_counts (creates k w) known o = created_counts c.slots k (known w)
  ended_counts (refers w) known o = new_local_counts c thread (known w)
  ended_counts (deletes k w) known o = before (check _ _ refl) (λ x.
      before (check _ _ refl) (λ y. before (check _ _ refl) (λ z. delete_at_counts (words w))))
  ended_counts (deletes_local w) known o = before (check _ _ refl) (λ x. before (check _ _ refl) (λ y.
      before (check _ _ refl) (λ z. before (check _ _ refl) (λ u. delete_local_at_counts (words w)))))
  ended_counts (asks_room n) known o = quiet (room_prelude c last thread n)
  ended_counts (pushes n) known o = pushing_counts c thread n
  ended_counts (pops_to w) known o = popping_counts c thread (words w)
  ended_counts frees known o = freeing_counts
  ended_counts (makes k ws) known o = made_counts c thread k ws
  ended_counts (fills k n w) known o = made_counts c thread k (replicate n _)
  ended_counts (reads i) known o = some_acted (Read o i) (λ v. tt)
  ended_counts (reads_from start n) known o = read_counts o start n
  ended_counts (copies n) known o = memory_gives n (λ f. tt) (read_counts o 0 n)
  ended_counts (writes i v) known o = acted (Write o i v) tt
  ended_counts (writes_to i w) known o = acted (Write o i _) tt
  ended_counts (writes_from start vs) known o = write_counts o start vs

-- A PROGRAM gives up references so often at the most, however it ends
abbrev pub IsGiving : ℕ → {n : ℕ} {a : AnswerKind} → Program n a → Type 0
IsGiving m (ends e) = giving e ≡ m
IsGiving m (names w p) = IsGiving m p
IsGiving m (names_both p) = IsGiving m p
IsGiving m (wants w p) = IsGiving m p
IsGiving m (looks next) = (k : Kind) (n : ℕ) → IsGiving m (next k n)
IsGiving m (tests ts silent p) = IsGiving m p
IsGiving m (finds i p) = IsGiving m p

tested_counts : {last m : ℕ} {A : Type 0} (ts : Tests) {next : Call A} → AreSilent ts → IsCounted last m next
    → IsCounted last m (tested ts next)
tested_counts [] are counts = counts
tested_counts ((b, e) ∷ ts) are counts =
    before (check b e (silent_unshown e are.0)) (λ x. tested_counts ts are.1 counts)

module _ {last : ℕ} (c : Config) (thread : ℕ) (s : State) (words : Which → Word) where
  pub program_counts : {m n : ℕ} {a : AnswerKind} (p : Program n a) → IsGiving m p → (known : Which → Option ℕ) (o : ℕ)
      → IsCounted last m (call_of c last thread s words p known o)
  program_counts (ends e) is known o = subst (λ m. IsCounted last m (ended c last thread words e known o)) is
      (ended_counts c thread words e known o)
  program_counts (names w p) is known o = before (resolved_prelude c last thread (words w)) (λ x.
      program_counts p is (set_known known w x) o)
  program_counts (names_both p) is known o = before (both_prelude c last thread (words one) (words other)) (λ x.
      program_counts p is (at_both x.0 x.1) o)
  program_counts (wants w p) is known o = before (not_null_prelude (known w)) (λ q. program_counts p is known q)
  program_counts (looks next) is known o = object_gives s o (λ k n. program_counts (next k n) (is k n) known o)
  program_counts (tests ts silent p) is known o = tested_counts ts silent (program_counts p is known o)
  program_counts (finds i p) is known o = before (some_act_prelude (Read o i) (λ v. refl) (λ v. tt)) (λ v.
      program_counts p is (set_known known one _) o)

-- EACH CALL

abbrev pub CallGiving : ℕ → {a : AnswerKind} → CallOf a → Type 0
CallGiving m (enters words p) = IsGiving m p
CallGiving m (stays_out p) = IsGiving m p
CallGiving m (opens words p) = IsGiving m p
CallGiving m (nests levels words p) = IsGiving m p
CallGiving m (keeps elements words p) = IsGiving m p
CallGiving m aborts = Unit {0}

module _ {last : ℕ} where
  in_stay : {m : ℕ} (f g : Frames) (xs : List Act) → Counted last 1 1 m f xs g
      → Counted last 1 1 m f (Gate Enter ∷ xs ++ Gate Leave ∷ []) g
  in_stay {m} f g xs q = both_count {m = 0} {n = m} (omega arith) f f g (Gate Enter ∷ []) (xs ++ Gate Leave ∷ [])
      (same_counts {m = 1} (tt, tt) refl)
      (both_count {m = m} {n = 0} (omega arith) f g g xs (Gate Leave ∷ []) q (same_counts (tt, tt) refl))

  entered_counts : {m : ℕ} {A : Type 0} {work : Call A} → IsCounted last m work → IsCounted last m (entered work)
  entered_counts p = entered_gives in_stay (λ f g xs e q. tt) (λ f. tt) p

  opened_counts : {m : ℕ} {A : Type 0} {work : Call A} → IsCounted last m work → IsCounted last m (opened work)
  opened_counts {m} p = opened_gives (λ f g xs q. both_count {m = 0} {n = m} (omega arith) f f g (Gate Enter ∷ []) xs
      (same_counts {m = 1} (tt, tt) refl) q) (λ f g xs e q. tt) (λ f. tt) p

  pub call_counts : {m : ℕ} {a : AnswerKind} (c : Config) (thread : ℕ) (s : State) (x : CallOf a) → CallGiving m x
      → IsCounted last m (means c last thread s x)
  call_counts c thread s (enters words p) is = entered_counts (program_counts c thread s words p is none_known 0)
  call_counts c thread s (stays_out p) is = program_counts c thread s handed_none p is none_known 0
  call_counts c thread s (opens words p) is = opened_counts (program_counts c thread s words p is none_known 0)
  call_counts c thread s (nests levels words p) is =
      answered (program_counts c thread s words p is none_known 0) (λ o. (length levels, levels ++ o ∷ []))
  call_counts c thread s (keeps elements words p) is =
      answered (entered_counts (program_counts c thread s words p is none_known 0)) (λ x. elements)
  call_counts c thread s aborts is = done_gives None (λ f. same_counts tt refl)

  pub released_counts : (levels : ℕ) → IsCounted last 0 (region_release levels)
  released_counts zero = done_gives tt (λ f. same_counts tt refl)
  released_counts (suc zero) = acted (Gate Leave) tt
  released_counts (suc (suc n)) = done_gives tt (λ f. same_counts tt refl)

-- WHAT IS SO OF A CALL, however it is answered: it counts so often at the most, and never where it is refused
pub record CallCounts (last n : ℕ) {A : Type 0} (call : Call A) : Type 0 where
  pub counts : (old new : Frames) (acts : List Act) (answer : Result A Fault) → call old acts answer new
      → Counted last 1 1 n old acts new
  pub refuses : (old new : Frames) (acts : List Act) (e : Fault) → call old acts (Err e) new
      → Counted last 1 1 0 old acts new

pub lawful_counts : {last thread n : ℕ} {asked : Purpose} {A : Type 0} {call : Call A}
    → IsLawful asked last thread call → IsCounted last n call → CallCounts last n call
lawful_counts {last} {n = n} {A = A} {call = call} lawful counted = record {
  counts = counts;
  refuses = λ old new acts e r. none old new acts e r;
}
  where
    none : {m : ℕ} (old new : Frames) (acts : List Act) (e : Fault) → call old acts (Err e) new
        → Counted last 1 1 m old acts new
    none old new acts e r =
        let x = lawful.fails old new acts e r in
        same_counts (all_weaker (precede_uncounted e) acts x.before) x.same

    counts : (old new : Frames) (acts : List Act) (answer : Result A Fault) → call old acts answer new
        → Counted last 1 1 n old acts new
    counts old new acts (Ok x) r = counted.goes old new acts x r
    counts old new acts (Err e) r = none old new acts e r
