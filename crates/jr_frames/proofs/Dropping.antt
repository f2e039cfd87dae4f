-- Local references are taken out of frames, one by one, for whatever was known.
use Rattle.std.proofs.Common.{◌≡◌, ◌==◌, ◌<◌, ◌≤◌, ⊎_elim, ℕ, Bool, true, false, cond, Option, Some, slice_index}
use Rattle.std.proofs.Common.{None, IsSome, List, [], ◌∷◌, ◌++◌, Ok, refl, sym, ap, subst, ◌∙◌, arith}
use Rattle.std.proofs.lemmas.Bool.{cases_lt}
use mathlib.Core.Logic.{∥∥₁_elim}
use Rattle.jr_word.specs.declared.config.Config.{Config}
use Rattle.jr_model.specs.declared.event.Role.TheVariants.{Within}
use Rattle.jr_model.specs.declared.event.Act.{Act}
use Rattle.jr_model.specs.declared.event.Act.TheVariants.{LocalDrop}
use Rattle.jr_model.specs.declared.frames.LocalRef.{LocalRef}
use Rattle.jr_model.specs.State.{Handle, same_handle}
use Rattle.jr_model.specs.History.{PassView, Did, role_of}
use Rattle.jr_model.specs.Frames.{Frames, all_refs, object_of, object_at, object_where}
use Rattle.jr_model.specs.Calls.{Call, Ran}
use Rattle.jr_model.proofs.InRoom.{in_room}
use Rattle.jr_model.proofs.Stays.{did_nothing, did_then}
use Rattle.jr_model.proofs.Windows.{window_act, window_nothing, window_then}
use Rattle.jr_steps.specs.declared.known.Known.{Known}
use Rattle.jr_steps.specs.Knowing.{AreOf, Facts, view, state_of, keeps, HasOptional, Holds, Took}
use Rattle.jr_steps.proofs.StepFacts.{goes_did, present_stays}
use Rattle.jr_frames.specs.Table.{Table, IsOnly}
use Rattle.jr_frames.proofs.Places.{index_differs}
use Rattle.jr_gate.specs.declared.inside.Inside.{Inside}
use Rattle.jr_gate.specs.Stays.{IsOwnStay}
use Rattle.jr_gate.proofs.Spending.{made_of, spending, spend_first, spend_step, spend_none}
use Rattle.jr_gate.proofs.SameRoom.{nothing_changed, as_before, still_before}
use Rattle.jr_frames.specs.Dropping.{dropping, Drops}
use Rattle.jr_frames.specs.Ready.{StandsReady, KeepsOwner}
use Rattle.jr_frames.specs.OverSteps.{Calls}
use Rattle.jr_frames.proofs.StillReady.{ready_called}
use Rattle.jr_frames.proofs.FramesAgree.{holds_dropped}

-- an object that is present stays so in a stay
optional_stays : (o : Option ℕ) (k k' : Known) (p : ℕ) → Did (view k) (view k') (LocalDrop p ∷ [])
    → role_of (view k) ≡ Within → HasOptional o k → HasOptional o k'
optional_stays None k k' p d within m = tt
optional_stays (Some o) k k' p d within m = present_stays k k' (LocalDrop p ∷ []) o d within ((λ e. cc), tt) m

-- acts, and then acts
dropped_then : {p q r : PassView} {f g h : Frames} {xs ys : List Act} → Ran p q f g (dropping xs) (Ok tt)
    → Ran q r g h (dropping ys) (Ok tt) → Ran p r f h (dropping (xs ++ ys)) (Ok tt)
dropped_then {xs = xs} a b =
    let w = window_then a.acts b.acts a.did b.did a.window b.window in
    record {
      acts = a.acts ++ b.acts;
      did = did_then a.acts b.acts a.did b.did;
      is = (ap (λ l. l ++ b.acts) a.is.0 ∙ ap (λ l. xs ++ l) b.is.0, refl);
      begun = w.begun;
      window = w.window;
      grounds = tt;
    }

dropped_as : {p q : PassView} {f g h : Frames} {xs : List Act} {call : Call (Unit {0})} → call f xs (Ok tt) h
    → Ran p q f g (dropping xs) (Ok tt) → Ran p q f h call (Ok tt)
dropped_as {f = f} {h = h} {call = call} is a = record {
  acts = a.acts;
  did = a.did;
  is = subst (λ l. call f l (Ok tt) h) (sym a.is.0) is;
  begun = a.begun;
  window = a.window;
  grounds = tt;
}

-- a handle that stands is at a place where an object is
at_place : (h : Handle) (rs : List LocalRef) → IsSome (object_where (λ r. same_handle r.handle h) rs)
    → IsSome (object_where (λ r. r.handle.index == h.index) rs)
at_place h [] some = absurd cc
at_place h (r ∷ rs) some = go (r.handle.index == h.index) (same_handle r.handle h) refl refl (at_place h rs)
  where
    go : (b d : Bool) → (r.handle.index == h.index) ≡ b → same_handle r.handle h ≡ d
        → (IsSome (object_where (λ x. same_handle x.handle h) rs)
        → IsSome (object_where (λ x. x.handle.index == h.index) rs))
        → IsSome (cond (r.handle.index == h.index) (Some r.object) (object_where (λ x. x.handle.index == h.index) rs))
    go true d e e' rest =
        subst (λ b. IsSome (cond b (Some r.object) (object_where (λ x. x.handle.index == h.index) rs))) (sym e) refl
    go false true e e' rest =
        absurd (let other : same_handle r.handle h ≡ false = index_differs _ (r.handle.index == h.index) _ e in cc)
    go false false e e' rest =
        subst (λ b. IsSome (cond b (Some r.object) (object_where (λ x. x.handle.index == h.index) rs))) (sym e)
        (rest (subst (λ b. IsSome (cond b (Some r.object) (object_where (λ x. same_handle x.handle h) rs))) e' some))

place_low : (c : ℕ) (l : ℕ → Option ℕ) (p : ℕ) (z : Option ℕ) → ((o : ℕ) → l p ≡ Some o → p < c) → l p ≡ z → IsSome z
    → p < c
place_low c l p None low e some = absurd cc
place_low c l p (Some o) low e some = low o e

-- frames with the same references, whose places have given as many handles, hold as well
same_hold : (k : Known) (g h : Frames) → all_refs h ≡ all_refs g → h.given ≡ g.given → Holds g k → Holds h k
same_hold k g h same given m = record {
  locals = λ q. m.locals q ∙ sym (ap (object_where (λ r. r.handle.index == q)) same);
  given = λ q. ap (λ l. slice_index l q) given ∙ m.given q;
}

module _ {S : Type 0} {facts : S → Facts} (fits : AreOf facts) where
  -- a reference that stands is at a place of the thread's
  pub standing_place : {a : S} {t : Table} → StandsReady facts Within a t → (h : Handle) → IsSome (object_of t.frames h)
      → h.index < (facts a).stands.config.locals
  standing_place {a} {t} r h some =
      ⊎_elim (λ (l : h.index < (facts a).stands.config.locals). l) (λ (g : (facts a).stands.config.locals ≤ h.index).
      absurd (beyond g)) (cases_lt h.index (facts a).stands.config.locals)
    where
      low : (k : Known) → (facts a).knows k → Holds t.frames k → h.index < (facts a).stands.config.locals
      low k s m =
          let i = fits a k s in
          subst (λ (c : Config). h.index < c.locals) i.config
          (place_low k.config.locals ((state_of k).locals k.thread) h.index (object_at t.frames h.index)
          (λ o e. ((in_room k.config k.last k.seen i.legal).locals k.thread h.index o e).1) (m.locals h.index)
          (at_place h (all_refs t.frames) some))

      beyond : (facts a).stands.config.locals ≤ h.index → ⊥
      beyond g =
          let each : ((k : Known) × (facts a).knows k × Holds t.frames k) → ⊥ = λ k. let l = low k.0 k.1 k.2 in
          omega arith in
          ∥∥₁_elim {P = ⊥} r.own.agrees (hlevel) each

  pub drops_nothing : (a : S) (f : Frames) → Drops facts a a f f (dropping [])
  drops_nothing a f o = record {
    stands_is = nothing_changed;
    ran = λ k s m. let l = (fits a k s).legal in (
      k,
      s,
      made_of (spend_none (facts a) k f f l) (record {
        acts = [];
        did = did_nothing (view k) l;
        is = (refl, refl);
        begun = k.seen;
        window = window_nothing (view k);
        grounds = tt;
      }),
      (refl, m.0, m.1),
    );
  }

  pub drops_one : {a b : S} {f g : Frames} (h : Handle) → (facts a).stands.role ≡ Within
      → Took facts a b (LocalDrop h.index ∷ []) (HasOptional None) keeps → IsOnly f h.index None g → g.given ≡ f.given
      → Drops facts a b f g (dropping (LocalDrop h.index ∷ []))
  drops_one {a} {b} {f} {g} h within u only same o = record {
    stands_is = as_before _ u.stands_is;
    ran = λ k s m.
        let y = u.goes k s tt in
        let d = goes_did y.2 in (
          y.0,
          y.1,
          made_of (spend_step u (λ n i. refl) k s tt f g) (record {
            acts = LocalDrop h.index ∷ [];
            did = d;
            is = (refl, refl);
            begun = k.seen;
            window = window_act (LocalDrop h.index) d tt tt;
            grounds = tt;
          }),
          (
            y.3,
            holds_dropped k y.0 f g h.index d only same m.0,
            optional_stays o k y.0 h.index d ((fits a k s).role ∙ within) m.1,
          ),
        );
  }

  -- what was dropped is what the call drops, and it leaves frames with the same references
  pub drops_as : {a b : S} {f g h : Frames} {acts : List Act} {call : Call (Unit {0})} → call f acts (Ok tt) h
      → all_refs h ≡ all_refs g → h.given ≡ g.given → Drops facts a b f g (dropping acts) → Drops facts a b f h call
  drops_as {a} {b} {f} {g} {h} is same given p o = record {
    stands_is = (p o).stands_is;
    ran = λ k s m.
        let x = (p o).ran k s m in
        let none = spend_none (facts b) x.0 g h (fits b x.0 x.1).legal in (
          x.0,
          x.1,
          made_of (spend_first (spending x.2) none) (dropped_as is x.2.ran),
          (x.3.0, same_hold x.0 g h same given x.3.1, x.3.2),
        );
  }

module _ {S : Type 0} {facts : S → Facts} where
  pub drops_then : {a b c : S} {f g h : Frames} {xs ys : List Act} → Drops facts a b f g (dropping xs)
      → Drops facts b c g h (dropping ys) → Drops facts a c f h (dropping (xs ++ ys))
  drops_then p q o = record {
    stands_is = still_before (p o).stands_is (q o).stands_is;
    ran = λ k s m.
        let x = (p o).ran k s m in
        let y = (q o).ran x.0 x.1 (x.3.1, x.3.2) in (
          y.0,
          y.1,
          made_of (spend_first (spending x.2) (spending y.2)) (dropped_then x.2.ran y.2.ran),
          (y.3.0 ∙ x.3.0, y.3.1, y.3.2),
        );
  }

  -- whatever object is kept, the call was made
  pub calls_dropped : {a b : S} {f g : Frames} {call : Call (Unit {0})} → Drops facts a b f g call
      → Calls facts a b f g call (Ok tt)
  calls_dropped p = record {
    stands_is = (p None).stands_is;
    ran = λ k s m. let x = (p None).ran k s (m, tt) in (x.0, x.1, x.2, (x.3.0, x.3.1));
  }

  -- a stay goes on being the thread's own
  pub stay_dropped : {a b : S} {f g : Frames} {call : Call (Unit {0})} (i : Inside) → IsOwnStay i (facts a).stands
      → Drops facts a b f g call → IsOwnStay i (facts b).stands
  stay_dropped i own p = let same = (p None).stands_is in (own.0 ∙ sym same.thread, same.role ∙ own.1)

  pub ready_dropped : {a b : S} {t u : Table} {call : Call (Unit {0})} → StandsReady facts Within a t → KeepsOwner t u
      → Drops facts a b t.frames u.frames call → StandsReady facts Within b u
  ready_dropped r o p = ready_called r o (calls_dropped p)

pub owner_then : {t u v : Table} → KeepsOwner t u → KeepsOwner u v → KeepsOwner t v
owner_then p q = record { thread = q.thread ∙ p.thread; last = q.last ∙ p.last; places = q.places ∙ p.places }
