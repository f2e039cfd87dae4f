-- A local reference is made to what was resolved.
use Rattle.std.proofs.Common.{◌≡◌, ◌≢◌, ℕ, Option, Some, None, [], ◌∷◌, Result, Ok, Err, refl, sym, subst, arith, ◌∙◌}
use mathlib.Core.Logic.{∥∥₁_map, ∥∥₁_elim}
use Rattle.jr_word.specs.declared.config.Config.{Config}
use Rattle.jr_word.specs.declared.fault.Fault.{Fault}
use Rattle.jr_word.specs.declared.fault.Fault.TheVariants.{LocalsFull}
use Rattle.jr_model.specs.declared.event.Role.TheVariants.{Within}
use Rattle.jr_model.specs.declared.event.Act.TheVariants.{LocalPut}
use Rattle.jr_model.specs.State.{Handle}
use Rattle.jr_model.specs.History.{PassView, Did}
use Rattle.jr_model.specs.Frames.{Frames, IsAdded, free_places}
use Rattle.jr_model.specs.Calls.{Call, Ran, ◌>>=◌}
use Rattle.jr_model.specs.References.{added, new_local}
use Rattle.jr_model.proofs.Windows.{window_act}
use Rattle.jr_model.proofs.Runs.{ran_done, ran_then, ran_give}
use Rattle.jr_steps.specs.declared.known.Known.{Known}
use Rattle.jr_steps.specs.Knowing.{AreOf, Facts, Standing, view, keeps, HasObject, HasOptional, Holds, MayKnow, Took}
use Rattle.jr_model.proofs.InRoom.{in_room}
use Rattle.jr_steps.proofs.StepFacts.{goes_did}
use Rattle.jr_frames.specs.Table.{Table, IsNext, IsOnly}
use Rattle.jr_frames.specs.OverSteps.{FoundPresent, Resolves, Calls, MakesLocal}
use Rattle.jr_frames.specs.Ready.{StandsReady}
use Rattle.jr_gate.proofs.SameRoom.{nothing_changed, as_before, still_before, but_fresh}
use Rattle.jr_frames.proofs.StillReady.{same_owner, ready_called}
use Rattle.jr_gate.proofs.Spending.{made_of, spending, spend_first, spend_step, spend_none}
use Rattle.jr_frames.proofs.FramesAgree.{holds_added}
use Rattle.jr_frames.proofs.RoomFor.{room_at, room_ran, full_ran}

local_ran : (c : Config) (last t : ℕ) {p q : PassView} {f g : Frames} (h : Handle) (o : ℕ)
    → Did p q (LocalPut h.index o ∷ []) → IsAdded last t f (record { handle = h; object = o }) g
    → Ran p q f g (added c last t o) (Ok h)
local_ran c last t {p} h o d a = record {
  acts = LocalPut h.index o ∷ [];
  did = d;
  is = (h, refl, refl, a);
  begun = p.seen;
  window = window_act (LocalPut h.index o) d tt tt;
  grounds = tt;
}

-- the object that was found, if there is one, is present
pub found_optional : (z : Option ℕ) (k : Known) → FoundPresent (Ok z) k → HasOptional z k
found_optional None k p = tt
found_optional (Some o) k p = p

-- a present object has a number
pub present_number : {S : Type 0} (facts : S → Facts) → AreOf facts → (a : S) (o : ℕ) → MayKnow facts a (HasObject o)
    → o ≢ 0
present_number facts fits a o there none =
    let each : ((k : Known) × (facts a).knows k × HasObject o k) → ⊥ = λ k. let low =
    ((in_room k.0.config k.0.last k.0.seen (fits a k.0 k.1).legal).objects o k.2).0 in omega arith in
    ∥∥₁_elim {P = ⊥} there (hlevel) each

module _ {S : Type 0} {facts : S → Facts} where
  -- no reference is made to no object
  pub makes_none : AreOf facts → (a : S) (f : Frames) (z : Option ℕ) → z ≡ None → MakesLocal facts a a f f z
      (new_local (facts a).stands.config (facts a).stands.last (facts a).stands.thread z) (Ok None)
  makes_none fits a f z is =
      let s = (facts a).stands in
      subst (λ y. MakesLocal facts a a f f y (new_local s.config s.last s.thread y) (Ok None)) (sym is) (record {
        stands_is = nothing_changed;
        ran = λ k v m. let l = (fits a k v).legal in
            (k, v, made_of (spend_none (facts a) k f f l) (ran_done (view k) f None l), (refl, m.0));
      })

  -- no place is free
  pub makes_no_local : {a : S} {t : Table} {z : Option ℕ} {o : ℕ} → AreOf facts → z ≡ Some o
      → StandsReady facts Within a t → free_places t.last t.frames ≡ 0
      → MakesLocal facts a a t.frames t.frames z
      (new_local (facts a).stands.config (facts a).stands.last (facts a).stands.thread z) (Err LocalsFull)
  makes_no_local {a} {t} {z} {o} fits is r none =
      let s = (facts a).stands in
      let none_here = subst (λ n. free_places n t.frames ≡ 0) r.own.last none in
      subst (λ y. MakesLocal facts a a t.frames t.frames y (new_local s.config s.last s.thread y) (Err LocalsFull))
      (sym is) (record {
        stands_is = nothing_changed;
        ran = λ k v m. let l = (fits a k v).legal in (
          k,
          v,
          made_of (spend_none (facts a) k t.frames t.frames l) (full_ran s.config s.last s.thread _ none_here l),
          (refl, m.0),
        );
      })

  pub makes_local : {a b : S} {t : Table} {g : Frames} {z : Option ℕ} {o : ℕ} {h : Handle} → z ≡ Some o
      → StandsReady facts Within a t → IsNext t h
      → Took facts a b (LocalPut h.index o ∷ []) (HasOptional (Some o)) keeps
      → IsAdded t.last t.thread t.frames (record { handle = h; object = o }) g → IsOnly t.frames h.index (Some o) g
      → MakesLocal facts a b t.frames g z
      (new_local (facts a).stands.config (facts a).stands.last (facts a).stands.thread z) (Ok (Some h))
  makes_local {a} {b} {t} {g} {z} {o} {h} is r next u added_is only =
      let s = (facts a).stands in
      let here = subst (λ n. IsAdded n s.thread t.frames (record { handle = h; object = o }) g) r.own.last
      (subst (λ n. IsAdded t.last n t.frames (record { handle = h; object = o }) g) r.own.owner added_is) in
      subst (λ y. MakesLocal facts a b t.frames g y (new_local s.config s.last s.thread y) (Ok (Some h)))
      (sym is) (record {
        stands_is = as_before _ u.stands_is;
        ran = λ k v m.
            let y = u.goes k v m.1 in
            let d = goes_did y.2 in (
              y.0,
              y.1,
              made_of (spend_step u (λ n i. refl) k v m.1 t.frames g) (room_ran s.config s.last s.thread t.frames
                  (room_at h r next) (ran_give (λ x. Some x) h (local_ran s.config s.last s.thread h o d here))),
              (y.3, holds_added k y.0 t.frames g h o d added_is only m.0),
            );
      })

  module _ {a b : S} {z : Option ℕ} where
    -- what was resolved may be stored
    pub may_find : {f : Frames} {first : Call (Option ℕ)} → Resolves facts a b f first (Ok z)
        → MayKnow facts a (Holds f) → MayKnow facts b (HasOptional z)
    may_find p some = ∥∥₁_map some (λ k. let x = p.ran k.0 k.1 k.2 in (x.0, x.1, found_optional z x.0 x.3.2))

    pub ready_resolved : {t : Table} {first : Call (Option ℕ)} → StandsReady facts Within a t
        → Resolves facts a b t.frames first (Ok z) → StandsReady facts Within b t
    ready_resolved {t} {first} r p =
        let q : Calls facts a b t.frames t.frames first (Ok z) =
        record { stands_is = p.stands_is; ran = λ k s m. let x = p.ran k s m in (x.0, x.1, x.2, (x.3.0, x.3.1)) } in
        ready_called r (same_owner t) q

    -- what was resolved, and what is made of it
    pub creates_by : {d : S} {f g : Frames} {first : Call (Option ℕ)} {answer : Result (Option Handle) Fault}
        (next : Config → ℕ → ℕ → Option ℕ → Call (Option Handle)) → Resolves facts a b f first (Ok z)
        → MakesLocal facts b d f g z (next (facts b).stands.config (facts b).stands.last (facts b).stands.thread z)
        answer
        → Calls facts a d f g (first >>= next (facts a).stands.config (facts a).stands.last (facts a).stands.thread)
        answer
    creates_by {d} {f} {g} {first} {answer} next p q =
        let s = (facts a).stands in
        let r = subst (λ (y : Standing). MakesLocal facts b d f g z (next y.config y.last y.thread z) answer)
        (but_fresh p.stands_is) q in
        record {
          stands_is = still_before p.stands_is r.stands_is;
          ran = λ k v m.
              let x = p.ran k v m in
              let y = r.ran x.0 x.1 (x.3.1, found_optional z x.0 x.3.2) in (
                y.0,
                y.1,
                made_of (spend_first (spending x.2) (spending y.2))
                    (ran_then {next = next s.config s.last s.thread} z x.2.ran y.2.ran),
                (y.3.0 ∙ x.3.0, y.3.1),
              );
        }

    pub creates_local : {d : S} {f g : Frames} {first : Call (Option ℕ)} {answer : Result (Option Handle) Fault}
        → Resolves facts a b f first (Ok z)
        → MakesLocal facts b d f g z (new_local (facts b).stands.config (facts b).stands.last (facts b).stands.thread z)
        answer
        → Calls facts a d f g
        (first >>= new_local (facts a).stands.config (facts a).stands.last (facts a).stands.thread) answer
    creates_local p q = creates_by new_local p q

    -- what was resolved may be stored, and the frames agree
    pub may_find_both : {f : Frames} {first : Call (Option ℕ)} → Resolves facts a b f first (Ok z)
        → MayKnow facts a (Holds f) → MayKnow facts b (λ k. Holds f k × HasOptional z k)
    may_find_both p some =
        ∥∥₁_map some (λ k. let x = p.ran k.0 k.1 k.2 in (x.0, x.1, (x.3.1, found_optional z x.0 x.3.2)))
