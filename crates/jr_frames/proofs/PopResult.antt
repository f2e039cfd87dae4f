-- A pop: the newest frame is taken away, and its result goes to the frame below.
use Rattle.std.proofs.Common.{◌≡◌, ◌==◌, ◌≤◌, nat_lt, ℕ, Bool, false, inl, Option, Some, None}
use Rattle.std.proofs.Common.{IsSome, [], Result, Err, length, refl, ap, subst, ◌∙◌, arith}
use Rattle.std.proofs.lemmas.Bool.Decides.{nat_tests}
use mathlib.Core.Logic.{∥∥₁_map}
use Rattle.jr_word.specs.declared.config.Config.{Config}
use Rattle.jr_word.specs.declared.fault.Fault.{Fault}
use Rattle.jr_word.specs.declared.fault.Fault.TheVariants.{LocalsFull, NoFrame}
use Rattle.jr_model.specs.State.{Handle}
use Rattle.jr_model.specs.History.{PassView, IsLegal}
use Rattle.jr_model.specs.Frames.{Frames, free_places, popped}
use Rattle.jr_model.specs.Calls.{Call, Ran, ◌>>=◌, ◌>>◌}
use Rattle.jr_model.specs.Parts.{frame_to_pop, take_frame}
use Rattle.jr_model.specs.References.{new_local, popping, room_after}
use Rattle.jr_model.proofs.Runs.{ran_then}
use Rattle.jr_steps.specs.Knowing.{AreOf, Facts, Standing, HasOptional, Holds, MayKnow}
use Rattle.jr_gate.proofs.Spending.{made_of, spending, spend_first, spend_none}
use Rattle.jr_gate.proofs.SameRoom.{nothing_changed, still_before, but_fresh}
use Rattle.jr_frames.specs.Dropping.{Drops}
use Rattle.jr_frames.specs.OverSteps.{Calls, MakesLocal}
use Rattle.jr_frames.proofs.Reading.{ran_refused, ran_passed, ran_at}
use Rattle.jr_frames.proofs.Resolution.{stays}

-- where a frame stands that is not the base frame, there are two
pub two_frames : (n : ℕ) (b : Bool) → 1 ≤ n → b ≡ (n == 1) → b ≡ false → 2 ≤ n
two_frames n b low is other = grind (arith, nat_tests)

module _ (c : Config) (last t : ℕ) where
  -- no place would be free for the result
  no_room_ran : {p : PassView} {f : Frames} {B : Type 0} (o : ℕ) (next : Unit {0} → Call B)
      → free_places last (popped f) ≡ 0 → IsLegal p.config p.last p.seen
      → Ran p p f f (room_after c last t (Some o) >>= next) (Err LocalsFull)
  no_room_ran {p} {f} o next none l =
      ran_at (room_after c last t (Some o) >>= next) (λ acts is. is)
      (ran_refused p f (free_places last (popped f) == 0) LocalsFull next (ap (λ n. n == 0) none) tt l)

  -- a place would be, or none is needed
  room_after_ran : {p q : PassView} {f g : Frames} {B : Type 0} {answer : Result B Fault} (z : Option ℕ)
      (next : Unit {0} → Call B) → (IsSome z → 1 ≤ free_places last (popped f)) → Ran p q f g (next tt) answer
      → Ran p q f g (room_after c last t z >>= next) answer
  room_after_ran {f = f} None next room r = record {
    acts = r.acts;
    did = r.did;
    is = inl (tt, f, [], r.acts, refl, (refl, refl, refl), r.is);
    begun = r.begun;
    window = r.window;
    grounds = r.grounds;
  }
  room_after_ran {f = f} (Some o) next room r =
      let more = room refl in
      let some : (free_places last (popped f) == 0) ≡ false = grind (arith, nat_tests) in
      ran_at (room_after c last t (Some o) >>= next) (λ acts is. is)
      (ran_passed (free_places last (popped f) == 0) LocalsFull next some r)

-- a frame stands above the base frame
above_ran : {p q : PassView} {f g : Frames} {B : Type 0} {answer : Result B Fault} (next : Unit {0} → Call B)
    → 2 ≤ length f.frames → Ran p q f g (next tt) answer → Ran p q f g (frame_to_pop >>= next) answer
above_ran {f = f} next more r =
    let some : nat_lt (length f.frames) 2 ≡ false = grind (arith, nat_tests) in
    ran_at (frame_to_pop >>= next) (λ acts is. is) (ran_passed (nat_lt (length f.frames) 2) NoFrame next some r)

base_ran : {p : PassView} {f : Frames} {B : Type 0} (next : Unit {0} → Call B) → length f.frames ≡ 1
    → IsLegal p.config p.last p.seen → Ran p p f f (frame_to_pop >>= next) (Err NoFrame)
base_ran {p} {f} next one l =
    ran_at (frame_to_pop >>= next) (λ acts is. is)
    (ran_refused p f (nat_lt (length f.frames) 2) NoFrame next (ap (λ n. nat_lt n 2) one) tt l)

module _ {S : Type 0} {facts : S → Facts} where
  -- no frame stands above the base frame
  pub pops_no_frame : AreOf facts → (a : S) (f : Frames) {A : Type 0} (work : Call A) → length f.frames ≡ 1
      → Calls facts a a f f (frame_to_pop >> work) (Err NoFrame)
  pops_no_frame fits a f work one = stays fits a f (λ p l. base_ran (λ u. work) one l)

  pub pops_above : {a b : S} {f g : Frames} {A : Type 0} {answer : Result A Fault} (work : Call A) → 2 ≤ length f.frames
      → Calls facts a b f g work answer → Calls facts a b f g (frame_to_pop >> work) answer
  pops_above work more p = record {
    stands_is = p.stands_is;
    ran = λ k s m. let x = p.ran k s m in (x.0, x.1, made_of (spending x.2) (above_ran (λ u. work) more x.2.ran), x.3);
  }

  -- no place would be free for the result
  pub pops_full : AreOf facts → (a : S) (f : Frames) (z : Option ℕ) (last : ℕ) → last ≡ (facts a).stands.last → IsSome z
      → free_places last (popped f) ≡ 0 → MakesLocal facts a a f f z
      (popping (facts a).stands.config (facts a).stands.last (facts a).stands.thread z) (Err LocalsFull)
  pops_full fits a f None last is some none = absurd cc
  pops_full fits a f (Some o) last is some none =
      let s = (facts a).stands in
      let none_here = subst (λ n. free_places n (popped f) ≡ 0) is none in record {
        stands_is = nothing_changed;
        ran = λ k v m. let l = (fits a k v).legal in (
          k,
          v,
          made_of (spend_none (facts a) k f f l) (no_room_ran s.config s.last s.thread o _ none_here l),
          (refl, m.0),
        );
      }

  pub may_pop : {a b : S} {f g : Frames} (z : Option ℕ) → Drops facts a b f g take_frame
      → MayKnow facts a (λ k. Holds f k × HasOptional z k) → MayKnow facts b (HasOptional z)
  may_pop z p some = ∥∥₁_map some (λ k. let x = (p z).ran k.0 k.1 k.2 in (x.0, x.1, x.3.2))

  -- the frame is taken away, and the result is made
  pub pops : {a b d : S} {f g h : Frames} {answer : Result (Option Handle) Fault} (z : Option ℕ) (last : ℕ)
      → last ≡ (facts a).stands.last → (IsSome z → 1 ≤ free_places last (popped f)) → Drops facts a b f g take_frame
      → MakesLocal facts b d g h z (new_local (facts b).stands.config (facts b).stands.last (facts b).stands.thread z)
      answer
      → MakesLocal facts a d f h z (popping (facts a).stands.config (facts a).stands.last (facts a).stands.thread z)
      answer
  pops {a} {b} {d} {f} {g} {h} {answer} z last is room p q =
      let s = (facts a).stands in
      let room_here = subst (λ n. IsSome z → 1 ≤ free_places n (popped f)) is room in
      let r = subst (λ (y : Standing). MakesLocal facts b d g h z (new_local y.config y.last y.thread z) answer)
      (but_fresh (p z).stands_is) q in
      record {
        stands_is = still_before (p z).stands_is r.stands_is;
        ran = λ k v m.
            let x = (p z).ran k v m in
            let y = r.ran x.0 x.1 (x.3.1, x.3.2) in (
              y.0,
              y.1,
              made_of (spend_first (spending x.2) (spending y.2))
                  (room_after_ran s.config s.last s.thread z (λ u. take_frame >> new_local s.config s.last s.thread z)
                  room_here (ran_then {next = λ u. new_local s.config s.last s.thread z} tt x.2.ran y.2.ran)),
              (y.3.0 ∙ x.3.0, y.3.1),
            );
      }
