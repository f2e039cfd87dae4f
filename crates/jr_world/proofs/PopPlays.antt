-- The last frame goes with its references, and its result is referred to from the frame before it.
use Rattle.std.proofs.Common.{◌≡◌, ◌⊎◌, inl, inr, ℕ, ◌≤◌, ◌+◌, ◌==◌, ◌&&◌, ◌||◌, Bool, true, false}
use Rattle.std.proofs.Common.{nat_lt, Option, Some, None, is_some, Result, Ok, Err, List, [], ◌∷◌, ◌++◌, map, length}
use Rattle.std.proofs.Common.{slice_index_or, refl, sym, ap, subst, ◌∙◌, arith}
use Rattle.std.specs.List.{AllByRecursion}
use Rattle.std.proofs.lemmas.List.{append-nil, map-append}
use Rattle.std.proofs.lemmas.Bool.Decides.{nat_tests}
use mathlib.Core.List.{IsPrefix}
use Rattle.jr_word.specs.declared.fault.Fault.{Fault}
use Rattle.jr_word.specs.declared.fault.Fault.TheVariants.{LocalsFull, NoFrame}
use Rattle.jr_model.specs.declared.event.Act.{Act}
use Rattle.jr_model.specs.declared.frames.LocalRef.{LocalRef}
use Rattle.jr_model.specs.State.{Handle, same_handle}
use Rattle.jr_model.specs.Frames.{AreSound, Frames, all_refs, drop_all, frames_before, free_places, is_held}
use Rattle.jr_model.specs.Frames.{joined, last_frame, object_of, object_where, popped}
use Rattle.jr_model.specs.History.{History}
use Rattle.jr_model.specs.Calls.{Call, refuse_if}
use Rattle.jr_model.specs.Calls as calls
use Rattle.jr_model.specs.Parts.{take_frame}
use Rattle.jr_model.specs.References as references
use Rattle.jr_model.specs.Programs.{AnswerKind, AnswerOf, Which, handle, perhaps}
use Rattle.jr_model.specs.Programs.Ending.{pops_to}
use Rattle.jr_model.proofs.Agreement.{cut_last, joined_before, not_both, popped_sound}
use Rattle.jr_model.proofs.Moments.{prefix_self}
use Rattle.jr_model.proofs.Updates.{eq_self}
use Rattle.jr_word.specs.declared.handle.Handle.{Handle as WordHandle}
use Rattle.jr_world.specs.World.{MeantOf, World, all_but_last, ask, change, held, new_local, newest_frame, refuse_where}
use Rattle.jr_world.specs.Doing.{Doing, Shared, as_seen, atom, given_up_in_steps, named, unless_refused}
use Rattle.jr_world.specs.Doing as doing
use Rattle.jr_world.specs.Plays.{OthersGoOn, Plays, SharedStands, StandsBy}
use Rattle.jr_world.specs.Plays.Plays.{has_ended}
use Rattle.jr_world.specs.Playing.{AllHaveSerials, AnsweredBy, BothAre, ObjectIs, WordIs}
use Rattle.jr_world.proofs.Joining.{joined_later}
use Rattle.jr_world.proofs.InStay.{EndingPlays, IsAt, Scene, StaysOn, Then, at_now, object_now, at_within}
use Rattle.jr_world.proofs.LocalFrames.{all_places, both_full, frames_long, frames_popped, newest_held, newest_named}
use Rattle.jr_world.proofs.LocalPlays.{behind_test, moves_by, new_local_plays, object_goes, tests_then}
use Rattle.jr_world.proofs.LocalsGivenUp.{all_weaker, as_many_frames, before_left, found_among, given_up, last_left}
use Rattle.jr_world.proofs.LocalsGivenUp.{none_left, same_given, without_all}
use Rattle.jr_world.proofs.FramePlays.{framed_stands}
use Rattle.jr_world.proofs.NamedPlays.{ComesTo, named_plays, word_then}
use Rattle.jr_world.proofs.ProgramPlays.{GoesOnWith, same_fault}
use Rattle.jr_world.proofs.OpenParts.{looks_in}
use Rattle.jr_world.specs.Births.{Births}
use Rattle.one_order.specs.Orders.{Item}
use Rattle.one_order.specs.Orders.Item.{does as acting}

-- FRAMES WITHOUT THE LAST ONE

-- each reference of a list holds its place
held_self : (rs : List LocalRef) → AllByRecursion (λ r. is_held rs r.handle.index ≡ true) rs
held_self [] = tt
held_self (r ∷ rs) = (
  ap (λ b. b || is_held rs r.handle.index) (eq_self r.handle.index),
  all_weaker (λ x. is_held rs x.handle.index ≡ true) (λ x. is_held (r ∷ rs) x.handle.index ≡ true)
      (λ x held. ap (λ b. (r.handle.index == x.handle.index) || b) held ∙ or_true (r.handle.index == x.handle.index)) rs
      (held_self rs),
)
  where
    or_true : (b : Bool) → (b || true) ≡ true
    or_true true = refl
    or_true false = refl

two_frames : (f : Frames) → nat_lt (length f.frames) 2 ≡ false → 2 ≤ length f.frames
two_frames f e = grind (arith, nat_tests)

module _ (f : Frames) (sound : AreSound f) where
  -- the references of the last frame stand
  last_stand : AllByRecursion (λ r. is_some (object_of f r.handle) ≡ true) (last_frame f.frames)
  last_stand = subst (λ l. AllByRecursion (λ r. is_some (object_where (λ q. same_handle q.handle r.handle) l) ≡ true)
      (last_frame f.frames))
      (sym (joined_before f.frames)) (found_among (joined (frames_before f.frames)) (last_frame f.frames))

  -- without them
  abbrev emptied : Frames
  emptied = without_all f (last_frame f.frames)

  apart_places : AllByRecursion (λ r. is_held (joined (frames_before f.frames)) r.handle.index ≡ false)
      (last_frame f.frames)
  apart_places = all_weaker (λ r. is_held (last_frame f.frames) r.handle.index ≡ true)
      (λ r. is_held (joined (frames_before f.frames)) r.handle.index ≡ false)
      (λ r held. not_both (joined (frames_before f.frames)) (last_frame f.frames) r.handle.index
      ((cut_last f sound).between r.handle.index) held)
      (last_frame f.frames) (held_self (last_frame f.frames))

  pub none_last : last_frame emptied.frames ≡ []
  none_last = last_left f (last_frame f.frames) ∙ none_left (last_frame f.frames) (cut_last f sound).right

  pub same_before : frames_before emptied.frames ≡ frames_before f.frames
  same_before = before_left f (last_frame f.frames) apart_places

  pub popped_is : popped emptied ≡ popped f
  popped_is = ap (λ gs. record emptied { frames = gs }) same_before
      ∙ ap (λ (given : List ℕ). record f { frames = frames_before f.frames; given = given })
      (same_given f (last_frame f.frames))

  pub joined_then : joined emptied.frames ≡ joined (frames_before emptied.frames)
  joined_then = joined_before emptied.frames ∙ ap (λ l. joined (frames_before emptied.frames) ++ l) none_last
      ∙ append-nil (joined (frames_before emptied.frames))

module _ (k : Scene) where
  -- a test of the frames that the world makes too, and what follows where it passes
  test_plays : (a : AnswerKind) (test : World → Bool) (e : Fault) (d : Doing (MeantOf a)) (p : Call (AnswerOf a))
      (b : Bool) (past : History) (f g : Frames) (acts : List Act) (answer : Result (AnswerOf a) Fault)
      (behind : List (Item Act)) → IsAt k past acts
      → ((now : History) (s : Shared) → SharedStands k.config k.thread now f s → test (as_seen k.thread s) ≡ b)
      → (b ≡ false → (now : History) → OthersGoOn k.config k.whole k.thread past now → p f acts answer g
      → Plays k.config k.whole k.thread (Then k a answer) g behind d now f (map acting acts))
      → calls.◌>>◌ (λ old. refuse_if b e old) p f acts answer g
      → Plays k.config k.whole k.thread (Then k a answer) g behind (doing.◌>>◌ (atom (refuse_where test e)) d) past f
      (map acting acts)
  test_plays a test e d p b past f g acts answer behind at is follows did = go (behind_test b e p f g acts answer did)
    where
      go : ((b ≡ true) × (acts ≡ []) × (answer ≡ Err e) × (g ≡ f)) ⊎ ((b ≡ false) × p f acts answer g)
          → Plays k.config k.whole k.thread (Then k a answer) g behind
          (doing.◌>>◌ (atom (refuse_where test e)) d) past f
          (map acting acts)
      go (inl x) =
          subst (λ l. Plays k.config k.whole k.thread (Then k a answer) g behind
          (doing.◌>>◌ (atom (refuse_where test e)) d) past f (map acting l)) (sym x.1)
          (subst (λ h. Plays k.config k.whole k.thread (Then k a answer) g behind
          (doing.◌>>◌ (atom (refuse_where test e)) d) past h []) x.3
          (tests_then k.config k.whole k.thread (Then k a answer) g behind test e (unless_refused (λ u. d)) past g
          [] true
          (λ now s st. is now s (subst (λ h. SharedStands k.config k.thread now h s) x.3 st) ∙ x.0)
          (λ now goes. has_ended (Err e) (let there = at_now k past now acts at goes in
          (there.stays, there.begins, subst (λ z. AnsweredBy a z now (Err e)) (sym x.2) (same_fault e))))))
      go (inr x) = tests_then k.config k.whole k.thread (Then k a answer) g behind test e
          (unless_refused (λ u. d)) past f
          (map acting acts) false (λ now s st. is now s st ∙ x.0) (λ now goes. follows x.0 now goes x.1)

  -- what is known of a result goes on
  both_on : (from later : History) (y y' : Option ℕ) → StaysOn k from later → IsPrefix later k.whole
      → BothAre (ObjectIs from) y y' → BothAre (ObjectIs later) y y'
  both_on from later None None stays begins so = tt
  both_on from later (Some o) (Some j) stays begins so =
      let there = object_now k from later stays begins o j so.0 so.1 in (there.0, there.1)
  both_on from later None (Some j) stays begins so = absurd so
  both_on from later (Some o) None stays begins so = absurd so

  both_goes : (past now : History) (acts : List Act) (y y' : Option ℕ) → IsAt k past acts
      → OthersGoOn k.config k.whole k.thread past now → BothAre (ObjectIs past) y y' → BothAre (ObjectIs now) y y'
  both_goes past now acts None None at goes so = tt
  both_goes past now acts (Some o) (Some j) at goes so = object_goes k past now acts at goes o j so
  both_goes past now acts None (Some j) at goes so = absurd so
  both_goes past now acts (Some o) None at goes so = absurd so

  -- the frame is taken away, and its result comes
  abbrev takes : Option ℕ → Doing (Option WordHandle)
  takes y = doing.◌>>=◌ (atom (ask (λ w. newest_frame w.frames))) (λ ns.
      doing.◌>>◌ (given_up_in_steps ns) (doing.◌>>◌ (atom (change (λ w. record w { frames = all_but_last w.frames })))
      (atom (new_local k.config y))))

  module _ (y y' : Option ℕ) (f g : Frames) (rest : List Act) (answer : Result (Option Handle) Fault)
      (behind : List (Item Act)) (serials : AllHaveSerials k.last f) (two : 2 ≤ length f.frames)
      (did : references.new_local k.config k.last k.thread y (popped f) rest answer g) where
    result_comes : (from later : History) → ComesTo k from rest later → AreSound f → BothAre (ObjectIs from) y y'
        → Plays k.config k.whole k.thread (Then k (perhaps handle) answer) g behind
        (doing.◌>>◌ (atom (change (λ w. record w { frames = all_but_last w.frames }))) (atom (new_local k.config y')))
        later (without_all f (last_frame f.frames)) (map acting rest)
    result_comes from later comes sound so =
        moves_by k.config k.whole k.thread (Then k (perhaps handle) answer) g behind
        (change (λ w. record w { frames = all_but_last w.frames })) (unless_refused (λ u. atom (new_local k.config y')))
        later left (popped left) (map acting rest) (λ s. Ok tt)
        (λ s. record (as_seen k.thread s) { frames = all_but_last (slice_index_or s.frames k.thread []) })
        (λ now s goes st. (
          refl,
          framed_stands k.config k.thread now left s true
              (all_but_last (slice_index_or s.frames k.thread [])) (frames_before left.frames) k.small st
              (frames_popped st.frames) (λ p. ap (object_where (λ r. r.handle.index == p)) (joined_then f sound))
              (popped_sound left st.sound (let many = as_many_frames f (last_frame f.frames) in omega arith)),
        ))
        (λ now s goes st. subst (λ h. Plays k.config k.whole k.thread (Then k (perhaps handle) answer) g behind
        (atom (new_local k.config y')) now h (map acting rest)) (sym (popped_is f sound))
        (new_local_plays k y y' now (popped f) g rest answer behind (at_now k later now rest comes.at goes)
        (both_goes later now rest y y' comes.at goes (both_on from later y y' comes.stays comes.at.begins so))
        (λ p free. serials p) did))
      where
        left : Frames
        left = without_all f (last_frame f.frames)

    frame_taken : (past : History) → IsAt k past (drop_all (last_frame f.frames) ++ rest) → BothAre (ObjectIs past) y y'
        → Plays k.config k.whole k.thread (Then k (perhaps handle) answer) g behind (takes y') past f
        (map acting (drop_all (last_frame f.frames)) ++ map acting rest)
    frame_taken past at so = looks_in k.config k.last k.whole k.thread k.legal
        (at_within k past (drop_all (last_frame f.frames) ++ rest) at)
        (λ w. Ok (newest_frame w.frames)) (unless_refused (λ ns.
        doing.◌>>◌ (given_up_in_steps ns) (doing.◌>>◌ (atom (change (λ w. record w { frames = all_but_last w.frames })))
        (atom (new_local k.config y')))))
        (λ now s goes st. given_up k (Then k (perhaps handle) answer) g behind
        (unless_refused (λ u. doing.◌>>◌ (atom (change (λ w. record w { frames = all_but_last w.frames })))
        (atom (new_local k.config y')))) (map acting rest) rest now (newest_named st.frames) now f (prefix_self now)
        (at_now k past now (drop_all (last_frame f.frames) ++ rest) at goes) (cut_last f st.sound).right
        (last_stand f st.sound)
        (λ later comes. result_comes now later comes st.sound
        (both_goes past now (drop_all (last_frame f.frames) ++ rest) y y' at goes so)))

  -- what follows for the result
  abbrev pops : Option ℕ → Doing (Option WordHandle)
  pops y = doing.◌>>◌ (atom (refuse_where
      (λ w. is_some y && (held w == length (newest_frame w.frames) + k.config.locals)) LocalsFull)) (takes y)

  -- a place for the result, once those of the last frame are free
  after_lacks : {b : Births} (now : History) (f : Frames) (s : Shared) → AllHaveSerials k.last f → 2 ≤ length f.frames
      → StandsBy b k.config k.thread now f s
      → (held (as_seen k.thread s)
      == length (newest_frame (slice_index_or s.frames k.thread [])) + k.config.locals)
      ≡ (free_places k.last (popped f) == 0)
  after_lacks now f s serials two st =
      let free : free_places k.last (popped f) + length (all_refs (popped f)) ≡ k.config.locals =
      all_places k.last (popped f) (popped_sound f st.sound two) (λ p none. serials p) ∙ st.places in
      sym (both_full (free_places k.last (popped f)) (length (joined (frames_before f.frames)))
      (length (newest_frame (slice_index_or s.frames k.thread []))) (held (as_seen k.thread s)) k.config.locals
      free (newest_held st.frames))

  module _ (f g : Frames) (acts : List Act) (answer : Result (Option Handle) Fault) (behind : List (Item Act))
      (serials : AllHaveSerials k.last f) (two : 2 ≤ length f.frames) where
    taken_plays : (y y' : Option ℕ) (past : History) → IsAt k past acts → BothAre (ObjectIs past) y y'
        → calls.◌>>◌ take_frame (references.new_local k.config k.last k.thread y) f acts answer g
        → Plays k.config k.whole k.thread (Then k (perhaps handle) answer) g behind (takes y') past f (map acting acts)
    taken_plays y y' past at so (inr d) = absurd (let bad = d.2.1 in cc)
    taken_plays y y' past at so (inl d) =
        let all : acts ≡ drop_all (last_frame f.frames) ++ d.3 = d.4 ∙ ap (λ l. l ++ d.3) d.5.0 in
        subst (λ l. Plays k.config k.whole k.thread (Then k (perhaps handle) answer) g behind (takes y') past f l)
        (sym (ap (map acting) all ∙ map-append acting (drop_all (last_frame f.frames)) d.3))
        (frame_taken y y' f g d.3 answer behind serials two
        (subst (λ h. references.new_local k.config k.last k.thread y h d.3 answer g) d.5.2 d.6)
        past (subst (IsAt k past) all at) so)

    popping_plays : (y y' : Option ℕ) (past : History) → IsAt k past acts → BothAre (ObjectIs past) y y'
        → references.popping k.config k.last k.thread y f acts answer g
        → Plays k.config k.whole k.thread (Then k (perhaps handle) answer) g behind (pops y') past f (map acting acts)
    popping_plays None (Some j) past at so did = absurd so
    popping_plays (Some o) None past at so did = absurd so
    popping_plays None None past at so did = test_plays (perhaps handle)
        (λ w. false) LocalsFull (takes None)
        (calls.◌>>◌ take_frame (references.new_local k.config k.last k.thread None)) false past f g acts answer behind
        at (λ now s st. refl) (λ passed now goes rest. taken_plays None None now
        (at_now k past now acts at goes) tt rest) did
    popping_plays (Some o) (Some j) past at so did = test_plays (perhaps handle)
        (λ w. is_some (Some j) && (held w == length (newest_frame w.frames) + k.config.locals)) LocalsFull
        (takes (Some j))
        (calls.◌>>◌ take_frame (references.new_local k.config k.last k.thread (Some o)))
        (free_places k.last (popped f) == 0) past f g acts answer behind at
        (λ now s st. after_lacks now f s serials two st)
        (λ passed now goes rest. taken_plays (Some o) (Some j) now (at_now k past now acts at goes)
        (both_goes past now acts (Some o) (Some j) at goes so) rest) did

  -- THE LAST FRAME GOES
  pub pops_to_plays : (n : ℕ) (p : Which) → EndingPlays k {n = n} (pops_to p)
  pops_to_plays n p words numbers known known' kind o o' past f g acts answer behind at are knowns hand serials refusal
      did = test_plays (perhaps handle) (λ w. nat_lt (length w.frames) 2) NoFrame
      (doing.◌>>=◌ (named (numbers p)) pops)
      (calls.◌>>=◌ (references.resolved k.config k.last k.thread (words p))
      (references.popping k.config k.last k.thread)) (nat_lt (length f.frames) 2) past f g acts answer behind at
      (λ now s st. ap (λ z. nat_lt z 2) (frames_long st.frames))
      (λ passed now goes rest. named_then passed now (at_now k past now acts at goes)
      (word_then k past now (words p) (numbers p) goes (are p)) rest) did
    where
      -- the result was resolved
      found : (mid : Frames) (rest : List Act) (x : Option ℕ) → mid ≡ f → 2 ≤ length f.frames
          → references.popping k.config k.last k.thread x mid rest answer g → (later : History)
          → (r : Result (Option ℕ) Fault) → GoesOnWith k rest (Ok x) later r
          → Plays k.config k.whole k.thread (Then k (perhaps handle) answer) g behind (unless_refused pops r) later f
          (map acting rest)
      found mid rest x same two work later (Ok y) goes_on = popping_plays f g rest answer behind serials two x y later
          goes_on.0 goes_on.1
          (subst (λ h. references.popping k.config k.last k.thread x h rest answer g) same work)
      found mid rest x same two work later (Err e) goes_on = absurd goes_on.1

      -- or refused
      refused : (e : Fault) → answer ≡ Err e → (later : History) → (r : Result (Option ℕ) Fault)
          → GoesOnWith k [] (Err e) later r
          → Plays k.config k.whole k.thread (Then k (perhaps handle) answer) g behind (unless_refused pops r) later g []
      refused e is later (Ok y) goes_on = absurd goes_on.1
      refused e is later (Err d) goes_on = has_ended (Err d) (
        goes_on.0.stays,
        goes_on.0.begins,
        subst (λ z. AnsweredBy (perhaps handle) z later (Err d)) (sym (is ∙ ap (λ z. Err z) (sym goes_on.1)))
            (same_fault d),
      )

      named_then : nat_lt (length f.frames) 2 ≡ false → (now : History) → IsAt k now acts
          → WordIs now (words p) (numbers p)
          → calls.◌>>=◌ (references.resolved k.config k.last k.thread (words p))
          (references.popping k.config k.last k.thread) f acts answer g
          → Plays k.config k.whole k.thread (Then k (perhaps handle) answer) g behind
          (doing.◌>>=◌ (named (numbers p)) pops) now f (map acting acts)
      named_then passed now there word (inl d) =
          let name = named_plays k (words p) (numbers p) now f d.1 d.2 d.3 (Ok d.0) (map acting d.3 ++ behind)
          (subst (IsAt k now) d.4 there) word d.5 in
          subst (λ l. Plays k.config k.whole k.thread (Then k (perhaps handle) answer) g behind
          (doing.◌>>=◌ (named (numbers p)) pops) now f l) (sym (ap (map acting) d.4 ∙ map-append acting d.2 d.3))
          (joined_later k.config k.whole k.thread (GoesOnWith k d.3 (Ok d.0)) (Then k (perhaps handle) answer) f g
          (unless_refused pops) (map acting d.3) behind (named (numbers p)) now f (map acting d.2) name.1
          (λ later r begins goes_on. found d.1 d.3 d.0 name.0 (two_frames f passed) d.6 later r goes_on))
      named_then passed now there word (inr d) =
          let name = named_plays k (words p) (numbers p) now f g acts [] (Err d.0) behind
          (subst (IsAt k now) (sym (append-nil acts)) there) word d.2 in
          subst (λ l. Plays k.config k.whole k.thread (Then k (perhaps handle) answer) g behind
          (doing.◌>>=◌ (named (numbers p)) pops) now f l) (append-nil (map acting acts))
          (joined_later k.config k.whole k.thread (GoesOnWith k [] (Err d.0)) (Then k (perhaps handle) answer) f g
          (unless_refused pops) [] behind (named (numbers p)) now f (map acting acts) name.1
          (λ later r begins goes_on. subst (λ h. Plays k.config k.whole k.thread (Then k (perhaps handle) answer) g
          behind (unless_refused pops r) later h []) name.0 (refused d.0 d.1 later r goes_on)))
