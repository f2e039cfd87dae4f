-- A range of the pass's own becomes a new object, and a local reference to it is made.
use Rattle.std.proofs.Common.{◌≡◌, ◌≤◌, ◌-◌, ⊎_elim, ℕ, Bool, true, false, nat_lt, Some, List, [], ◌∷◌, Result}
use Rattle.std.proofs.Common.{Ok, Err, IsSome, length, cond, eq-eqb, inl, refl, sym, ap, subst, ◌∙◌, arith}
use Rattle.std.specs.List.{AllByRecursion}
use Rattle.std.specs.Result.{IsErrAnd}
use Rattle.std.proofs.lemmas.Result.{err_from_is_err_and}
use mathlib.Core.Logic.{∥∥₁_map}
use Rattle.jr_word.specs.declared.config.Config.{Config}
use Rattle.jr_word.specs.declared.kind.Kind.{Kind}
use Rattle.jr_word.specs.declared.kind.Kind.TheVariants.{Plain}
use Rattle.jr_word.specs.declared.fault.Fault.{Fault}
use Rattle.jr_word.specs.declared.fault.Fault.TheVariants.{LocalsFull, ObjectsFull}
use Rattle.jr_model.specs.declared.event.Role.TheVariants.{Within}
use Rattle.jr_model.specs.declared.event.Act.{Act}
use Rattle.jr_model.specs.declared.event.Act.TheVariants.{New, LocalPut}
use Rattle.jr_model.specs.State.{Handle}
use Rattle.jr_model.specs.History.{PassView, Did}
use Rattle.jr_model.specs.Frames.{Frames, IsAdded, free_places, object_at}
use Rattle.jr_model.specs.Calls.{Call, Ran, ◌>>=◌, ◌>>◌}
use Rattle.jr_model.specs.Parts.{publish, reserve}
use Rattle.jr_model.specs.References.{added, made}
use Rattle.jr_model.proofs.Agreement.{spares_places}
use Rattle.jr_model.proofs.Windows.{window_act}
use Rattle.jr_model.proofs.Runs.{ran_then, ran_err}
use Rattle.jr_steps.specs.declared.known.Known.{Known}
use Rattle.jr_steps.specs.Knowing.{AreOf, Facts, Standing, view, anything, keeps, HasObject}
use Rattle.jr_steps.specs.Knowing.{HasOptional, Holds, MayKnow, Took, fresh_from}
use Rattle.jr_steps.proofs.StepFacts.{goes_did}
use Rattle.jr_frames.specs.Table.{Table, IsNext, IsOnly}
use Rattle.jr_gate.specs.Performing.{Performed, hint_from, thread_state}
use Rattle.jr_heap.specs.Heap.{Called, IsReady, Publishes, own_words, by_between, publish_steps}
use Rattle.jr_frames.specs.OverSteps.{Calls}
use Rattle.jr_env.specs.Works.{LearnsMade, LearnsNew, Refers, object_made}
use Rattle.jr_frames.specs.Ready.{StandsReady}
use Rattle.jr_frames.proofs.RoomFor.{room_at, room_ran, full_ran as none_ran}
use Rattle.jr_frames.proofs.Resolution.{stays}
use Rattle.jr_gate.proofs.SameRoom.{as_before, still_before}
use Rattle.jr_frames.proofs.FramesAgree.{holds_did, holds_added}
use Rattle.jr_gate.proofs.Spending.{Spending, made_of, spending, spend_first, spend_step, spend_acts, spend_more}

module _ (c : Config) (last t : ℕ) where
  -- what follows the test for room
  pub roomy : {p q : PassView} (f : Frames) {g : Frames} (kind : Kind) (ws : List ℕ) {answer : Result Handle Fault}
      → nat_lt (free_places last f) 1 ≡ false
      → Ran p q f g (reserve (length ws) >> (publish kind ws >>= added c last t)) answer
      → Ran p q f g (made c last t kind ws) answer
  roomy f kind ws room r =
      room_ran c last t f {next = λ u. reserve (length ws) >> (publish kind ws >>= added c last t)} room r

  -- a plain object needs no words
  plain_ran : {p q : PassView} (f : Frames) {g : Frames} {answer : Result Handle Fault}
      → nat_lt (free_places last f) 1 ≡ false → Ran p q f g (publish Plain [] >>= added c last t) answer
      → Ran p q f g (made c last t Plain []) answer
  plain_ran f room r = roomy f Plain [] room (record {
    acts = r.acts;
    did = r.did;
    is = inl (tt, f, [], r.acts, refl, (refl, refl, refl), r.is);
    begun = r.begun;
    window = r.window;
    grounds = r.grounds;
  })

  -- an object that was published, and its local reference
  placed_ran : {p q r : PassView} {f g : Frames} (kind : Kind) (ws : List ℕ) (h : Handle) (o : ℕ)
      → Ran p q f f (publish kind ws) (Ok o) → Did q r (LocalPut h.index o ∷ [])
      → IsAdded last t f (record { handle = h; object = o }) g → Ran p r f g (publish kind ws >>= added c last t) (Ok h)
  placed_ran {p} {q} {r} {f} {g} kind ws h o x e a =
      let y : Ran q r f g (added c last t o) (Ok h) = record {
        acts = LocalPut h.index o ∷ [];
        did = e;
        is = (h, refl, refl, a);
        begun = q.seen;
        window = window_act (LocalPut h.index o) e tt tt;
        grounds = tt;
      } in
      ran_then {next = added c last t} o x y

-- the acts of a publication: no more than its steps, and none at a local word or at a slot
record ArePublications (n : ℕ) (answer : Result ℕ Fault) (acts : List Act) : Type 0 where
  pub few : length acts ≤ publish_steps n answer
  pub fresh : (b : Bool) → fresh_from b acts ≡ b
  pub hint : (slots i : ℕ) → hint_from slots i acts ≡ i
  pub spares : AllByRecursion (λ a. spares_places a ≡ true) acts

publications : (n : ℕ) (f : Frames) (kind : Kind) (ws : List ℕ) {acts : List Act} {answer : Result ℕ Fault}
    → publish kind ws f acts answer f → ArePublications n answer acts
publications n f kind ws {acts} {answer} is = ⊎_elim
    (λ x.
    let new : ArePublications n (Ok x.0) (New x.0 kind ws ∷ []) =
    record { few = let e : 1 ≤ 1 = omega arith in e; fresh = λ b. refl; hint = λ slots i. refl; spares = (refl, tt) } in
    subst (λ r. ArePublications n r acts) (sym x.2) (subst (ArePublications n (Ok x.0)) (sym x.1) new))
    (λ x.
    let none : ArePublications n (Err ObjectsFull) [] =
    record { few = let e : 0 ≤ n = omega arith in e; fresh = λ b. refl; hint = λ slots i. refl; spares = tt } in
    subst (λ r. ArePublications n r acts) (sym x.1) (subst (ArePublications n (Err ObjectsFull)) (sym x.0) none))
    is

-- a plain object has no words, which are ready at any time
no_words : (k : Known) → IsReady Plain 0 0 k
no_words k = record { long = refl; words = λ i v e. cc }

module _ {S : Type 0} (facts : S → Facts) where
  -- an object was published, or every number found present
  abbrev pub Publishing : S → S → Kind → ℕ → ℕ → Result ℕ Fault → Type 0
  Publishing a b kind place n answer =
      Called facts a b (IsReady kind place n) (λ j k. publish kind (own_words place n j)) answer
      (by_between (publish_steps (facts a).stands.config.objects answer) (facts a).stands.config.objects
      (Publishes kind place n answer))

  pub may_publish : (a : S) (place n : ℕ) → place ≡ 0 → n ≡ 0 → MayKnow facts a anything
      → MayKnow facts a (IsReady Plain place n)
  may_publish a place n first none some = subst (λ p. MayKnow facts a (IsReady Plain p n)) (sym first)
      (subst (λ m. MayKnow facts a (IsReady Plain 0 m)) (sym none) (∥∥₁_map some (λ k. (k.0, k.1, no_words k.0))))

module _ {S : Type 0} {facts : S → Facts} {a b : S} (same : (facts b).stands ≡ (facts a).stands) (kind : Kind)
    (place n : ℕ) where
  -- what a publication takes
  spent_publishing : {answer : Result ℕ Fault} (p : Publishing facts a b kind place n answer) (k : Known)
      (s : (facts a).knows k) (m : IsReady kind place n k) (f : Frames)
      → Spending (facts a).stands.config.objects (thread_state (facts a) k f) (thread_state (facts b) (p.ran k s m).0 f)
  spent_publishing {answer} p k s m f =
      let x = p.ran k s m in
      let r = x.2 f in
      let acts = publications (facts a).stands.config.objects f kind (own_words place n k) r.is in
      let few = acts.few in
      let low = x.3.1.low in
      let high = x.3.1.high in
      let takes = x.3.1.takes in
      spend_acts f f (facts a).stands.config.objects r.acts (x.3.1.count - length r.acts) (omega arith) r.did
      (omega arith) (ap (λ (z : Standing). z.fresh) same ∙ sym (acts.fresh (facts a).stands.fresh)) (p.hint_is
      ∙ sym (acts.hint k.config.slots (facts a).hint))

  pub refers_full : {e : Fault} {f : Frames} (answer : Result Handle Fault) → IsErrAnd answer (λ y. y ≡ e)
      → Publishing facts a b kind place n (Err e) → (ws : List ℕ) → Refers facts a b f f kind place n ws answer
  refers_full {e} {f} answer given p ws =
      let c = (facts a).stands in
      let err = err_from_is_err_and answer given in
      subst (λ z. Refers facts a b f f kind place n ws z) (sym (err.1 ∙ ap (λ (y : Fault). Err y) err.2)) (record {
        stands_is = as_before _ same;
        ran = λ k s m.
            let x = p.ran k s m.1 in
            let y = subst (λ us. Ran (view k) (view x.0) f f (publish kind us) (Err e)) m.2 (x.2 f) in
            let acts = publications 0 f kind ws y.is in (
              x.0,
              x.1,
              made_of (spent_publishing p k s m.1 f) (ran_err (added c.config c.last c.thread) e y),
              (x.3.0, holds_did k x.0 f y.acts y.did acts.spares m.0),
            );
      })

  pub refers : {c : S} {o : ℕ} {t : Table} {g : Frames} {h : Handle} → StandsReady facts Within a t
      → Publishing facts a b kind place n (Ok o) → Took facts b c (LocalPut h.index o ∷ []) (HasOptional (Some o)) keeps
      → IsAdded t.last t.thread t.frames (record { handle = h; object = o }) g → IsOnly t.frames h.index (Some o) g
      → (ws : List ℕ) → Refers facts a c t.frames g kind place n ws (Ok h)
  refers {o = o} {t = t} {g = g} {h = h} r p u added_is only ws = let there : object_made g (Ok h) ≡ Some o =
      only h.index ∙ ap (λ b. cond b (Some o) (object_at t.frames h.index)) (eq-eqb h.index h.index refl) in record {
        stands_is = still_before (as_before _ same) (as_before _ u.stands_is);
        ran = λ k s m.
            let x = p.ran k s m.1 in
            let z =
            subst (λ us. Ran (view k) (view x.0) t.frames t.frames (publish kind us) (Ok o)) m.2 (x.2 t.frames) in
            let acts = publications 0 t.frames kind ws z.is in
            let present : HasObject o x.0 = subst (λ c. IsSome c) (sym x.3.0.0) refl in
            let y = u.goes x.0 x.1 present in
            let d = goes_did y.2 in
            let here =
            subst (λ n. IsAdded n (facts a).stands.thread t.frames (record { handle = h; object = o }) g) r.own.last
            (subst (λ n. IsAdded t.last n t.frames (record { handle = h; object = o }) g) r.own.owner added_is) in (
              y.0,
              y.1,
              made_of (spend_first (spent_publishing p k s m.1 t.frames)
                  (spend_step u (λ n i. refl) x.0 x.1 present t.frames g))
                  (placed_ran (facts a).stands.config (facts a).stands.last (facts a).stands.thread kind ws h o z d
                  here),
              (
                subst (λ z. LearnsMade kind place n z k y.0) (sym there) (y.3 ∙ x.3.0.1),
                holds_added x.0 y.0 t.frames g h o d added_is only
                    (holds_did k x.0 t.frames z.acts z.did acts.spares m.0),
              ),
            );
      }

module _ {S : Type 0} (facts : S → Facts) where
  -- a plain object and a local reference to it were made in a stay
  abbrev pub MakesPlain : S → S → Frames → Frames → Result Handle Fault → Type 0
  MakesPlain old new f g answer = Performed facts old new f g (facts old).stands.config.objects (Holds f)
      (λ s. made (facts old).stands.config (facts old).stands.last (facts old).stands.thread Plain []) answer (λ j k.
      LearnsNew (object_made g answer) j k × Holds g k)

module _ {S : Type 0} {facts : S → Facts} where
  -- a plain object was made
  pub makes : {a b : S} {t : Table} {g : Frames} {h : Handle} {place n : ℕ} (answer : Result Handle Fault)
      → StandsReady facts Within a t → IsNext t h → place ≡ 0 → n ≡ 0
      → ((ws : List ℕ) → Refers facts a b t.frames g Plain place n ws answer)
      → MakesPlain facts a b t.frames g answer
  makes {a} {b} {t} {g} {h} {place} {n} answer r next first none each =
      let q = subst (λ m. Refers facts a b t.frames g Plain 0 m [] answer) none
      (subst (λ p. Refers facts a b t.frames g Plain p n [] answer) first (each [])) in
      record {
        stands_is = q.stands_is;
        ran = λ k s m. let x = q.ran k s (m, no_words k, refl) in (
          x.0,
          x.1,
          made_of (spending x.2) (plain_ran (facts a).stands.config (facts a).stands.last (facts a).stands.thread
              t.frames (room_at h r next) x.2.ran),
          x.3,
        );
      }

  -- a call that makes no object is refused
  pub refused_making : {a b : S} {f g : Frames} {call : Call Handle} {e : Fault} {so : Known → Known → Type 0}
      (silent : ℕ) → ((j k : Known) → keeps j k → so j k) → Calls facts a b f g call (Err e)
      → Performed facts a b f g silent (Holds f) (λ s. call) (Err e) (λ j k. so j k × Holds g k)
  refused_making silent weaker p = record {
    stands_is = p.stands_is;
    ran = λ k s m. let x = p.ran k s m in
        (x.0, x.1, made_of (spend_more silent (spending x.2)) x.2.ran, (weaker k x.0 x.3.0, x.3.1));
  }

  -- no place is free for a new object's reference
  pub makes_nothing : {a : S} {t : Table} (fits : AreOf facts) (silent : ℕ) (so : Known → Known → Type 0)
      → ((j k : Known) → keeps j k → so j k) → (kind : Kind) (ws : List ℕ) → StandsReady facts Within a t
      → free_places t.last t.frames ≡ 0
      → Performed facts a a t.frames t.frames silent (Holds t.frames) (λ s. made (facts a).stands.config
      (facts a).stands.last (facts a).stands.thread kind ws) (Err LocalsFull) (λ j k. so j k × Holds t.frames k)
  makes_nothing {a} {t} fits silent so weaker kind ws r none =
      let s = (facts a).stands in
      let none_here = subst (λ n. free_places n t.frames ≡ 0) r.own.last none in
      refused_making {so = so} silent weaker
      (stays fits a t.frames (λ p l. none_ran s.config s.last s.thread _ none_here l))
