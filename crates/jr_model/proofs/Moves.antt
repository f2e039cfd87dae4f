-- The work of calls that changes the frames.
use Rattle.std.proofs.Common.{◌≡◌, ◌<◌, ◌≤◌, ℕ, Bool, true, false, not, nat_lt, nat_le, ◌==◌, Option, Some, None}
use Rattle.std.proofs.Common.{IsSome, cond, List, [], ◌∷◌, ◌++◌, map, length, Ok, Err, refl, sym, ap, subst, ◌∙◌, arith}
use Rattle.std.proofs.lemmas.Bool.Decides.{nat_tests}
use Rattle.std.specs.List.{AllByRecursion, filter}
use Rattle.jr_word.specs.declared.config.Config.{Config}
use Rattle.jr_word.specs.declared.fault.Fault.{Fault}
use Rattle.jr_word.specs.declared.fault.Fault.TheVariants.{LocalsFull, NoFrame}
use Rattle.jr_model.specs.declared.event.Act.{Act}
use Rattle.jr_model.specs.declared.event.Act.TheVariants.{LocalDrop}
use Rattle.jr_model.specs.declared.frames.LocalRef.{LocalRef}
use Rattle.jr_model.specs.declared.frames.TheConstants.{FRAMES}
use Rattle.jr_model.specs.State.{Handle, same_handle}
use Rattle.jr_model.specs.Frames.{Frames, LeadsTo, all_refs, drop_all, free_places, last_frame, stays, goes_on, pushes}
use Rattle.jr_model.specs.Frames.{adds, deletes, pops, frees, joined, object_where, without_local, object_of, popped}
use Rattle.jr_model.specs.Calls.{Call, ◌>>=◌, ◌>>◌, done, refuse_if}
use Rattle.jr_model.specs.Checks.{Word}
use Rattle.jr_model.specs.Parts.{drop_local, frame_left, frame_to_pop, new_frame, take_frame}
use Rattle.jr_model.specs.References.{resolved, room_after, room_for, added, new_local, freeing, popping}
use Rattle.jr_model.proofs.Agreement.{other_than}
use Rattle.jr_model.proofs.Exactly.{all_map}
use Rattle.jr_model.proofs.Gone.{has}
use Rattle.jr_model.proofs.Composed.{Gives, Never, bind_gives, framed_gives, weaker_gives}
use Rattle.jr_model.proofs.ShownRefusals.{Purpose, words_alone, is_unshown}
use Rattle.jr_model.proofs.Lawful.{IsInside, IsPrelude, IsSure, IsWork, Moved, NoLeave, Quiet, Refused, answered}
use Rattle.jr_model.proofs.Lawful.{before, both_moved, moved, prelude, quiet_moved, quiet_refused, same_leads, sure}
use Rattle.jr_model.proofs.Preludes.{check, done_prelude, resolved_prelude, room_prelude}

-- A LOCAL REFERENCE

-- a handle that doesn't stand is in no frame
absent_both : (h : Handle) (rs rest : List LocalRef) → object_where (has h) (rs ++ rest) ≡ None
    → (filter (other_than h) rs ≡ rs) × (object_where (has h) rest ≡ None)
absent_both h [] rest none = (refl, none)
absent_both h (r ∷ rs) rest none = go (same_handle r.handle h) refl none (absent_both h rs rest)
  where
    go : (b : Bool) → same_handle r.handle h ≡ b → cond b (Some r.object) (object_where (has h) (rs ++ rest)) ≡ None
        → (object_where (has h) (rs ++ rest) ≡ None
        → (filter (other_than h) rs ≡ rs) × (object_where (has h) rest ≡ None))
        → (filter (other_than h) (r ∷ rs) ≡ r ∷ rs) × (object_where (has h) rest ≡ None)
    go true is none behind = absurd cc
    go false is none behind = (
      ap (λ b. cond (not b) (r ∷ filter (other_than h) rs) (filter (other_than h) rs)) is
          ∙ ap (λ l. r ∷ l) (behind none).0,
      (behind none).1,
    )

absent_all : (h : Handle) (frames : List (List LocalRef)) → object_where (has h) (joined frames) ≡ None
    → map (filter (other_than h)) frames ≡ frames
absent_all h [] none = refl
absent_all h (rs ∷ frames) none =
    let both = absent_both h rs (joined frames) none in
    ap (λ l. l ∷ map (filter (other_than h)) frames) both.0 ∙ ap (λ l. rs ∷ l) (absent_all h frames both.1)

-- a handle is taken out of its frame where it stands
taken_out : {last thread : ℕ} (h : Handle) (old : Frames) (o : Option ℕ) → object_of old h ≡ o
    → LeadsTo last thread old (without_local old h)
taken_out h old (Some o) is = goes_on stays (deletes h (subst (λ x. IsSome x) (sym is) refl))
taken_out h old None is = same_leads (ap (λ l. record old { frames = l }) (absent_all h old.frames is))

drops_inside : (rs : List LocalRef) → AllByRecursion IsInside (drop_all rs)
drops_inside rs = all_map IsInside (λ (r : LocalRef). LocalDrop r.handle.index) rs (λ r. tt)

module _ {last thread : ℕ} where
  pub added_sure : (c : Config) (o : ℕ) → IsSure last thread (added c last thread o)
  added_sure c o = record {
    goes = λ old new acts x r. moved (tt, tt) r.1 (goes_on stays (adds (record { handle = r.0; object = o }) r.3));
    fails = λ old new acts e r. absurd (let bad = r.2 in cc);
  }

  pub drop_sure : (h : Handle) → IsSure last thread (drop_local h)
  drop_sure h = record {
    goes = λ old new acts x r.
        moved (tt, tt) r.0 (subst (LeadsTo last thread old) (sym r.2) (taken_out h old (object_of old h) refl));
    fails = λ old new acts e r. absurd (let bad = r.1 in cc);
  }

  pub freeing_sure : IsSure last thread freeing
  freeing_sure = record {
    goes = λ old new acts x r.
        moved (drops_inside (all_refs old)) r.0 (subst (LeadsTo last thread old) (sym r.2) (goes_on stays frees));
    fails = λ old new acts e r. absurd (let bad = r.1 in cc);
  }

-- FRAMES

-- a check that was passed
passed : (b : Bool) (e : Fault) (old new : Frames) (acts : List Act) (x : Unit {0}) → refuse_if b e old acts (Ok x) new
    → (b ≡ false) × (new ≡ old)
passed true e old new acts x r = absurd (let bad = r.1 in cc)
passed false e old new acts x r = (refl, r.2)

few : (n m : ℕ) → nat_le n m ≡ false → m < n
few n m e = grind (arith, nat_tests)

many : (n m : ℕ) → nat_lt n m ≡ false → m ≤ n
many n m e = grind (arith, nat_tests)

module _ {asked : Purpose} {P : Frames → Type 0} where
  -- a test of the frames, which tells this of them where it lets pass
  tested : (b : Frames → Bool) (e : Fault) → is_unshown e ≡ true → ((f : Frames) → b f ≡ false → P f)
      → Gives (λ f xs g. Quiet f xs g × P g) (Refused NoLeave asked) (λ old. refuse_if (b old) e old)
  tested b e none so = record {
    goes = λ old new acts x r. (
      (check {asked = asked} (b old) e none).goes old new acts x r,
      let p = passed (b old) e old new acts x r in subst P (sym p.1) (so old p.0),
    );
    fails = λ old new acts x r. (check (b old) e none).fails old new acts x r;
  }

module _ {asked : Purpose} {last thread : ℕ} {P : Frames → Type 0} where
  -- a prelude, and then work that goes by such frames
  framed : {A B : Type 0} {first : Call A} {next : A → Call B} → IsPrelude asked first
      → ((x : A) → Gives (λ f xs g. P f → Moved NoLeave last thread f xs g) (Refused NoLeave asked) (next x))
      → Gives (λ f xs g. P f → Moved NoLeave last thread f xs g) (Refused NoLeave asked) (first >>= next)
  framed p q = bind_gives (record {
    joins = λ f g h xs ys quiet work so. quiet_moved f g h xs ys quiet (work (subst P (sym quiet.same) so));
    behind = quiet_refused;
  }) p q

  -- a test that tells it, and then that work
  behind_test : {A B : Type 0} {first : Call A} {next : A → Call B}
      → Gives (λ f xs g. Quiet f xs g × P g) (Refused NoLeave asked) first
      → ((x : A) → Gives (λ f xs g. P f → Moved NoLeave last thread f xs g) (Refused NoLeave asked) (next x))
      → IsWork asked last thread (first >>= next)
  behind_test p q = bind_gives (record {
    joins = λ f g h xs ys quiet work. quiet_moved f g h xs ys quiet.0 (work quiet.1);
    behind = λ f g h xs ys e quiet. quiet_refused f g h xs ys e quiet.0;
  }) p q

-- there is a frame above the base frame
abbrev HasTwo : Frames → Type 0
HasTwo f = 2 ≤ length f.frames

-- a place is left for the result
abbrev pub HasRoom : ℕ → Option ℕ → Frames → Type 0
HasRoom last None f = Unit {0}
HasRoom last (Some o) f = (free_places last f == 0) ≡ false

some_room : (n : ℕ) → (n == 0) ≡ false → nat_lt n 1 ≡ false
some_room n e = grind (arith, nat_tests)

room_refused : (b : Bool) (e : Fault) (old new : Frames) (acts : List Act) (x : Fault) → b ≡ false
    → refuse_if b e old acts (Err x) new → ⊥
room_refused true e old new acts x is r = cc
room_refused false e old new acts x is r = let bad = r.1 in cc

module _ {asked : Purpose} (c : Config) (last thread : ℕ) where
  pub new_local_work : (o : Option ℕ) → IsWork asked last thread (new_local c last thread o)
  new_local_work None = prelude (done_prelude None)
  new_local_work (Some o) = before (room_prelude c last thread 1) (λ x. answered (sure (added_sure c o)) Some)

  pub pushing_work : (n : ℕ) → IsWork asked last thread (frame_left >> (room_for c last thread n >> new_frame))
  pushing_work n = behind_test {P = λ f. length f.frames < FRAMES}
      (tested (λ f. nat_le FRAMES (length f.frames)) LocalsFull refl (λ f is. few FRAMES (length f.frames) is))
      (λ x. framed (room_prelude c last thread n) (λ y. record {
        goes =
            λ old new acts z r l. moved tt r.0 (subst (LeadsTo last thread old) (sym r.2) (goes_on stays (pushes l)));
        fails = λ old new acts e r. absurd (let bad = r.1 in cc);
      }))

module _ (c : Config) (last thread : ℕ) where
  -- where it is, the result is not refused
  result_work : (o : Option ℕ)
      → Gives (Moved NoLeave last thread) (λ f xs e g. HasRoom last o f → ⊥) (new_local c last thread o)
  result_work None =
      record {
        goes = (new_local_work {asked = words_alone 0} c last thread None).goes;
        fails = λ old new acts e r. absurd (let bad = r.1 in cc);
      }
  result_work (Some o) = bind_gives {First = Quiet} {Worse = Never} {first = room_for c last thread 1}
      (record { joins = quiet_moved; behind = λ f g h xs ys e quiet never. absurd never })
      (record {
        goes = (room_prelude {asked = words_alone 0} c last thread 1).goes;
        fails = λ old new acts e r room. room_refused (nat_lt (free_places last old) 1) LocalsFull old new acts e
            (some_room (free_places last old) room) r;
      })
      (λ x. answered (added_sure c o) Some)

  pub taking_work : (o : Option ℕ) → Gives (λ f xs g. HasTwo f → Moved NoLeave last thread f xs g)
      (λ f xs e g. HasRoom last o (popped f) → ⊥) (take_frame >> new_local c last thread o)
  taking_work o =
      bind_gives {First = λ f xs g. (xs ≡ drop_all (last_frame f.frames)) × (g ≡ popped f)} {first = take_frame}
      (record {
        joins = λ f g h xs ys taken work two. both_moved f g h xs ys (moved (drops_inside (last_frame f.frames))
            taken.0 (subst (LeadsTo last thread f) (sym taken.1) (goes_on stays (pops two)))) work;
        behind = λ f g h xs ys e taken full room. full (subst (HasRoom last o) (sym taken.1) room);
      })
      (record { goes = λ old new acts x r. (r.0, r.2); fails = λ old new acts e r. absurd (let bad = r.1 in cc) })
      (λ x. result_work o)

module _ {asked : Purpose} (c : Config) (last thread : ℕ) where
  pub after_room : (o : Option ℕ) → Gives (λ f xs g. Quiet f xs g × HasRoom last o (popped g))
      (Refused NoLeave asked) (room_after c last thread o)
  after_room None = framed_gives (λ old. done tt) (λ f.
      weaker_gives (λ f g xs quiet. (quiet, tt)) (λ f g xs e refused. refused) (done_prelude tt))
  after_room (Some o) = tested {P = λ f. HasRoom last (Some o) (popped f)} (λ f. free_places last (popped f) == 0)
      LocalsFull refl (λ f is. is)

  popping_where : (o : Option ℕ) → Gives (λ f xs g. HasTwo f → Moved NoLeave last thread f xs g)
      (Refused NoLeave asked) (popping c last thread o)
  popping_where o = bind_gives (record {
    joins = λ f g h xs ys quiet work two. quiet_moved f g h xs ys quiet.0 (work (subst HasTwo (sym quiet.0.same) two));
    behind = λ f g h xs ys e quiet full. absurd (full quiet.1);
  }) (after_room o) (λ x. taking_work c last thread o)

  two_left : Gives (λ f xs g. Quiet f xs g × HasTwo g) (Refused NoLeave asked) frame_to_pop
  two_left = tested {P = HasTwo} (λ f. nat_lt (length f.frames) 2) NoFrame refl (λ f is. many (length f.frames) 2 is)

  pub popping_work : (o : Option ℕ) → IsWork asked last thread (frame_to_pop >> popping c last thread o)
  popping_work o = behind_test {P = HasTwo} two_left (λ x. popping_where o)

  pub resolved_popping : (a : Word)
      → IsWork asked last thread (frame_to_pop >> (resolved c last thread a >>= popping c last thread))
  resolved_popping a = behind_test {P = HasTwo} two_left (λ x. framed (resolved_prelude c last thread a) popping_where)
