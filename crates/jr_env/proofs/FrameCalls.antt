-- The calls that enter no gate.
use Rattle.std.proofs.Common.{◌≡◌, ◌≤◌, ◌<◌, ◌==◌, ℕ, Bool, true, false, nat_lt, nat_le, []}
use Rattle.std.proofs.Common.{Result, Ok, Err, IfErr, length, inl, inr, refl, sym, ap, subst, ◌∙◌, arith}
use Rattle.std.proofs.lemmas.Bool.Decides.{nat_tests}
use mathlib.Core.Logic.{∥∥₁_map}
use Rattle.jr_word.specs.declared.config.Config.{Config}
use Rattle.jr_word.specs.declared.fault.Fault.{Fault}
use Rattle.jr_word.specs.declared.fault.Fault.TheVariants.{LocalsFull}
use Rattle.jr_model.specs.declared.event.Role.{Role}
use Rattle.jr_model.specs.declared.frames.TheConstants.{FRAMES}
use Rattle.jr_model.specs.State.{State}
use Rattle.jr_model.specs.History.{PassView, state}
use Rattle.jr_model.specs.Frames.{Frames, object_where, pushed, free_places}
use Rattle.jr_model.specs.Refusals.{Grounds}
use Rattle.jr_model.specs.Calls.{Call, Ran, refuse_if, ◌>>◌}
use Rattle.jr_model.specs.Parts.{new_frame}
use Rattle.jr_model.specs.References.{room_for}
use Rattle.jr_model.specs.Programs.{AnswerKind, AnswerOf, Program}
use Rattle.jr_model.specs.CallPrograms.{ensure_local_capacity, push_local_frame}
use Rattle.jr_model.specs.AllCalls.{means, stays_out}
use Rattle.jr_model.proofs.Agreement.{joined_push}
use Rattle.jr_model.proofs.Stays.{did_nothing}
use Rattle.jr_model.proofs.Windows.{window_nothing}
use Rattle.jr_steps.specs.declared.known.Known.{Known}
use Rattle.jr_steps.specs.Knowing.{AreOf, Facts, view, Holds}
use Rattle.jr_frames.specs.Table.{Table, with_frames}
use Rattle.jr_gate.proofs.Spending.{made_of, spend_none}
use Rattle.jr_gate.proofs.SameRoom.{nothing_changed}
use Rattle.jr_frames.specs.Ready.{StandsReady}
use Rattle.jr_env.specs.Deeds.{Deed, DoesDeed, DoesOutside, call_apart}
use Rattle.jr_env.specs.Works.{EndsStay}
use Rattle.jr_env.proofs.EnvCalls.{did_left}

-- a test that refuses, and one that is passed
stops : (b : Bool) (e : Fault) (f : Frames) → b ≡ true → refuse_if b e f [] (Err e) f
stops true e f is = (refl, refl, refl)
stops false e f is = absurd cc

goes_on : (b : Bool) (e : Fault) (f : Frames) → b ≡ false → refuse_if b e f [] (Ok tt) f
goes_on false e f is = (refl, refl, refl)
goes_on true e f is = absurd cc

-- the same, with what follows
stops_first : (b : Bool) (e : Fault) (next : Call (Unit {0})) (f : Frames) → b ≡ true
    → (refuse_if b e >> next) f [] (Err e) f
stops_first b e next f is = inr (e, refl, stops b e f is)

goes_past : (b : Bool) (e : Fault) (next : Call (Unit {0})) (f : Frames) {g : Frames} {answer : Result (Unit {0}) Fault}
    → b ≡ false → next f [] answer g → (refuse_if b e >> next) f [] answer g
goes_past b e next f is rest = inl (tt, f, [], [], refl, goes_on b e f is, rest)

lacks_room : (n free : ℕ) → (n ≤ free → ⊥) → nat_lt free n ≡ true
lacks_room n free lacks = grind (arith, nat_tests)

leaves_room : (n free : ℕ) → n ≤ free → nat_lt free n ≡ false
leaves_room n free l = grind (arith, nat_tests)

at_most : (n : ℕ) → FRAMES ≤ n → nat_le FRAMES n ≡ true
at_most n l = grind (arith, nat_tests)

fewer_frames : (n : ℕ) → n < FRAMES → nat_le FRAMES n ≡ false
fewer_frames n l = grind (arith, nat_tests)

-- an empty frame changes no reference
holds_pushed : (f : Frames) (k : Known) → Holds f k → Holds (pushed f) k
holds_pushed f k m = record {
  locals = λ p. m.locals p ∙ sym (ap (object_where (λ r. r.handle.index == p)) (joined_push f.frames));
  given = m.given;
}

module _ {S : Type 0} {facts : S → Facts} where
  -- an empty frame more leaves a thread as ready
  pub ready_pushed : {role : Role} {a : S} {t u : Table} → StandsReady facts role a t
      → u ≡ with_frames t (pushed t.frames) → StandsReady facts role a u
  ready_pushed {role} {a} {t} r is = subst (StandsReady facts role a) (sym is) (record {
    role_is = r.role_is;
    spent = r.spent;
    own = record {
      owner = r.own.owner;
      last = r.own.last;
      places = r.own.places;
      agrees = ∥∥₁_map r.own.agrees (λ k. (k.0, k.1, holds_pushed t.frames k.0 k.2));
    };
  })

  -- a deed, once a stay that was left has been ended
  pub does_from : {o a b : S} {r t : Table} {g : Frames} {A : Type 0} {deed : Deed A} {answer : Result A Fault}
      → EndsStay facts o a r t → DoesDeed facts a b t.frames g deed answer
      → DoesOutside facts o b r.frames g deed answer
  does_from {o} {a} {b} {r} {t} {g} {deed = deed} {answer = answer} e d = record {
    does = λ out. subst (λ (m : S). DoesDeed facts m b r.frames g deed answer) (e.same out)
        (subst (λ (x : Table). DoesDeed facts a b x.frames g deed answer) e.frames d);
    left = λ no. did_left (e.left no) (subst (λ (x : Table). DoesDeed facts a b x.frames g deed answer) e.frames d);
    outside = d.stands_is.role ∙ e.ready.role_is;
  }

  module _ (fits : AreOf facts) {o a : S} {r t : Table} (ended : EndsStay facts o a r t) where
    does_apart : {n : ℕ} {x : AnswerKind} {g : Frames} {answer : Result (AnswerOf x) Fault} (p : Program n x)
        → ((c : Config) (thread : ℕ) (s : State) → means c t.last thread s (stays_out p) t.frames [] answer g)
        → ((v : PassView) → IfErr answer (Grounds v.seen v)) → ((k : Known) → Holds t.frames k → Holds g k)
        → DoesOutside facts o a r.frames g (call_apart p) answer
    does_apart {g = g} {answer = answer} p is grounds holds = does_from ended (record {
      stands_is = nothing_changed;
      did = λ k s m.
          let i = fits a k s in
          let last : t.last ≡ k.last = ended.ready.own.last ∙ sym i.last in
          let to = state k.seen in
          let ran : Ran (view k) (view k) t.frames g (means k.config k.last k.thread to (stays_out p)) answer = record {
            acts = [];
            did = did_nothing (view k) i.legal;
            is = subst (λ l. means k.config l k.thread to (stays_out p) t.frames [] answer g) last
                (is k.config k.thread to);
            begun = k.seen;
            window = window_nothing (view k);
            grounds = grounds (view k);
          } in
          (k, s, holds k m, (made_of (spend_none (facts a) k t.frames g i.legal) ran, refl));
    })

    pub ensures_room : (n : ℕ) → n ≤ free_places t.last t.frames
        → DoesOutside facts o a r.frames t.frames (call_apart (ensure_local_capacity n)) (Ok tt)
    ensures_room n l = does_apart (ensure_local_capacity n) (λ c thread s.
        goes_on (nat_lt (free_places t.last t.frames) n) LocalsFull t.frames (leaves_room n _ l)) (λ v. tt) (λ k m. m)

    pub lacks_places : (n : ℕ) → (n ≤ free_places t.last t.frames → ⊥)
        → DoesOutside facts o a r.frames t.frames (call_apart (ensure_local_capacity n)) (Err LocalsFull)
    lacks_places n lacks = does_apart (ensure_local_capacity n) (λ c thread s.
        stops (nat_lt (free_places t.last t.frames) n) LocalsFull t.frames (lacks_room n _ lacks)) (λ v. tt) (λ k m. m)

    -- too many frames
    pub pushes_no_frame : (n : ℕ) → FRAMES ≤ length t.frames.frames
        → DoesOutside facts o a r.frames t.frames (call_apart (push_local_frame n)) (Err LocalsFull)
    pushes_no_frame n many = does_apart (push_local_frame n) (λ c thread s.
        stops_first (nat_le FRAMES (length t.frames.frames)) LocalsFull (room_for c t.last thread n >> new_frame)
        t.frames (at_most _ many)) (λ v. tt) (λ k m. m)

    module _ (n : ℕ) (few : length t.frames.frames < FRAMES) where
      -- not too many, but too few places
      pub pushes_no_places : (n ≤ free_places t.last t.frames → ⊥)
          → DoesOutside facts o a r.frames t.frames (call_apart (push_local_frame n)) (Err LocalsFull)
      pushes_no_places lacks = does_apart (push_local_frame n) (λ c thread s.
          goes_past (nat_le FRAMES (length t.frames.frames)) LocalsFull (room_for c t.last thread n >> new_frame)
          t.frames (fewer_frames _ few) (stops_first (nat_lt (free_places t.last t.frames) n) LocalsFull new_frame
          t.frames (lacks_room n _ lacks))) (λ v. tt) (λ k m. m)

      pub pushes : {u : Table} → n ≤ free_places t.last t.frames → u ≡ with_frames t (pushed t.frames)
          → DoesOutside facts o a r.frames u.frames (call_apart (push_local_frame n)) (Ok tt)
      pushes l is = subst (λ (x : Table). DoesOutside facts o a r.frames x.frames (call_apart (push_local_frame n))
          (Ok tt)) (sym is) (does_apart (push_local_frame n) (λ c thread s.
          goes_past (nat_le FRAMES (length t.frames.frames)) LocalsFull (room_for c t.last thread n >> new_frame)
          t.frames (fewer_frames _ few) (goes_past (nat_lt (free_places t.last t.frames) n) LocalsFull new_frame
          t.frames (leaves_room n _ l) (refl, refl, refl))) (λ v. tt) (λ k m. holds_pushed t.frames k m))
