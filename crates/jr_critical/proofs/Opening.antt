-- A region is opened, or refused.
use Rattle.std.proofs.Common.{◌≡◌, ℕ, List, [], ◌∷◌, length, map, slice_index_or, Result}
use Rattle.std.proofs.Common.{Ok, Err, inl, inr, refl, sym, ap, subst, ◌∙◌, arith}
use Rattle.std.specs.Result.{IsErrAnd}
use Rattle.std.proofs.lemmas.Result.{err_from_is_err_and}
use mathlib.Core.Logic.{∥∥₁_map}
use Rattle.jr_word.specs.declared.config.Config.{Config}
use Rattle.jr_word.specs.declared.fault.Fault.{Fault}
use Rattle.jr_word.specs.declared.fault.Fault.TheVariants.{Barred}
use Rattle.jr_model.specs.declared.event.Role.TheVariants.{Outside, Within}
use Rattle.jr_model.specs.declared.event.Act.{Act}
use Rattle.jr_model.specs.declared.event.Act.TheVariants.{Gate}
use Rattle.jr_model.specs.declared.event.GateAct.TheVariants.{Enter, Knock, Leave, Withdraw}
use Rattle.jr_model.specs.State.{State}
use Rattle.jr_model.specs.Frames.{Frames}
use Rattle.jr_model.specs.History.{PassView}
use Rattle.jr_model.specs.Windows.{IsWindow, Stepped}
use Rattle.jr_model.specs.Calls.{Call, Ran, entered, opened}
use Rattle.jr_model.specs.Checks.{Word}
use Rattle.jr_model.specs.Programs.{handed_one, none_known}
use Rattle.jr_model.specs.CallPrograms.{get_array_critical, get_string_critical}
use Rattle.jr_model.proofs.Moments.{prefix_self}
use Rattle.jr_model.proofs.Stays.{did_then}
use Rattle.jr_model.proofs.Windows.{window_then}
use Rattle.jr_steps.specs.Knowing.{AreOf, Facts, Standing, anything, keeps, lets_go, view, state_of, Holds, Took}
use Rattle.jr_steps.proofs.StepFacts.{goes_did, goes_stepped}
use Rattle.jr_gate.specs.declared.inside.Inside.{Inside}
use Rattle.jr_gate.specs.Acting.{ActedTo, LetsGoInTwo}
use Rattle.jr_gate.specs.Performing.{Performed}
use Rattle.jr_gate.specs.Stays.{IsOwnStay}
use Rattle.jr_gate.proofs.Spending.{made_of, spending, spend_last, spend_more, spend_step}
use Rattle.jr_heap.specs.Heap.{Learns}
use Rattle.jr_heap.proofs.Headers.{learnt}
use Rattle.jr_frames.specs.OverSteps.{CallsWhole}
use Rattle.jr_frames.specs.Ready.{StandsReady}
use Rattle.jr_frames.specs.Table.{Table}
use Rattle.jr_frames.proofs.FoundObject.{learns_since}
use Rattle.jr_frames.proofs.FramesAgree.{holds_did}
use Rattle.jr_frames.proofs.Steady.{IsSteady, steady_program}
use Rattle.jr_frames.proofs.StillReady.{ready_after, ready_entered, same_owner}
use Rattle.jr_frames.proofs.WholeCalls.{calls_barred, calls_entered}
use Rattle.jr_critical.specs.declared.level.Level.{Level}
use Rattle.jr_critical.specs.declared.level.Wanted.{Wanted}
use Rattle.jr_critical.specs.declared.level.Wanted.TheVariants.{Array, Text}
use Rattle.jr_critical.specs.declared.levels.Levels.{Levels}
use Rattle.jr_critical.specs.Finding.{level_work, FindsLevel, LearnsLevel}
use Rattle.jr_critical.specs.Levels.{AreKnown, HasOpened, LearnsFirst, Stand, object_opened, objects_of}
use Rattle.jr_critical.proofs.KnownLevels.{blank}

-- an entry, and work that goes on in its stay
ran_opened : {A : Type 0} {p q r : PassView} {f g : Frames} {work : Call A} {x : A} → Stepped p q (Gate Enter)
    → Ran q r f g work (Ok x) → Ran p r f g (opened work) (Ok x)
ran_opened {p} {q} a w =
    let first : IsWindow p q (Gate Enter ∷ []) q.seen =
    record { from = a.did.begins; to = prefix_self q.seen; first = λ out. a.behind; last = λ out. absurd cc } in
    let v = window_then (Gate Enter ∷ []) w.acts a.did w.did first w.window in
    record {
      acts = Gate Enter ∷ w.acts;
      did = did_then (Gate Enter ∷ []) w.acts a.did w.did;
      is = inr (w.acts, (refl, w.is));
      begun = v.begun;
      window = v.window;
      grounds = tt;
    }

-- work that was refused is left as any other
refused_as : {A : Type 0} (work : Call A) {e : Fault} (f g : Frames) (acts : List Act) → entered work f acts (Err e) g
    → opened work f acts (Err e) g
refused_as work f g acts (inl y) = inl y
refused_as work f g acts (inr y) = inr (y.0, (y.1, y.2))

ran_refused_open : {A : Type 0} {p q : PassView} {f g : Frames} {work : Call A} {e : Fault}
    → Ran p q f g (entered work) (Err e) → Ran p q f g (opened work) (Err e)
ran_refused_open {f = f} {g = g} {work = work} r = record {
  acts = r.acts;
  did = r.did;
  is = refused_as work f g r.acts r.is;
  begun = r.begun;
  window = r.window;
  grounds = r.grounds;
}

-- the object for a first level
abbrev first_work : Wanted → Word → Config → ℕ → ℕ → State → Call ℕ
first_work wanted w c last t s = level_work wanted c last t s 0 w

steady_level : (wanted : Wanted) (w : Word) (c : Config) (last t : ℕ) → IsSteady (first_work wanted w c last t)
steady_level Array w c last t = steady_program c last t (handed_one w) (get_array_critical 0) none_known 0
steady_level Text w c last t = steady_program c last t (handed_one w) (get_string_critical 0) none_known 0

module _ {S : Type 0} {facts : S → Facts} where
  whole_more : {A : Type 0} {a b : S} {f g : Frames} {call : State → Call A} {answer : Result A Fault}
      → CallsWhole facts a b f g 0 call answer → CallsWhole facts a b f g 1 call answer
  whole_more p = record {
    stands_is = p.stands_is;
    ran = λ k s m. let x = p.ran k s m in (x.0, x.1, made_of (spend_more 1 (spending x.2)) x.2.ran, x.3);
  }

  module _ (wanted : Wanted) (w : Word) {a d : S} {t : Table} (r : StandsReady facts Outside a t) where
    -- a region that was refused
    has_not_opened : {e : Fault} (answer : Result Levels Fault) → IsErrAnd answer (λ y. y ≡ e)
        → CallsWhole facts a d t.frames t.frames 1 (λ s.
        entered (first_work wanted w (facts a).stands.config (facts a).stands.last (facts a).stands.thread s)) (Err e)
        → HasOpened facts a d t.frames (λ s.
        opened (first_work wanted w (facts a).stands.config (facts a).stands.last (facts a).stands.thread s)) answer
    has_not_opened {e} answer given p =
        let why = err_from_is_err_and answer given in
        let z = p.stands_is in
        subst (λ (y : Result Levels Fault). HasOpened facts a d t.frames
        (λ s. opened (first_work wanted w (facts a).stands.config (facts a).stands.last (facts a).stands.thread s)) y)
        (sym (why.1 ∙ ap (λ (y : Fault). Err y) why.2)) (record {
          stands_is =
              record { room = z.room; config = z.config; last = z.last; thread = z.thread; role = z.role ∙ r.role_is };
          ran = λ k s m. let x = p.ran k s m in (x.0, x.1, made_of (spending x.2) (ran_refused_open x.2.ran), x.3);
        })

    ready_whole : {A : Type 0} {call : State → Call A} {answer : Result A Fault}
        → CallsWhole facts a d t.frames t.frames 1 call answer → StandsReady facts Outside d t
    ready_whole p = ready_after {so = lets_go} r (same_owner t) p

    -- the gate was shut
    barred : (e : Fault) → (e ≡ Barred) × ActedTo facts a d (Gate Knock ∷ Gate Withdraw ∷ []) anything LetsGoInTwo
        → CallsWhole facts a d t.frames t.frames 1 (λ s.
        entered (first_work wanted w (facts a).stands.config (facts a).stands.last (facts a).stands.thread s)) (Err e)
    barred e why = whole_more (subst (λ (y : Fault). CallsWhole facts a d t.frames t.frames 0 (λ s.
        entered (first_work wanted w (facts a).stands.config (facts a).stands.last (facts a).stands.thread s)) (Err y))
        (sym why.0) (calls_barred (first_work wanted w) t.frames r.role_is why.1))

    pub opens_barred : {e : Fault} (answer : Result Levels Fault) → IsErrAnd answer (λ y. y ≡ e)
        → (e ≡ Barred) × ActedTo facts a d (Gate Knock ∷ Gate Withdraw ∷ []) anything LetsGoInTwo
        → HasOpened facts a d t.frames (λ s.
        opened (first_work wanted w (facts a).stands.config (facts a).stands.last (facts a).stands.thread s)) answer
    opens_barred {e} answer given why = has_not_opened answer given (barred e why)

    pub ready_barred : (e : Fault)
        → (e ≡ Barred) × ActedTo facts a d (Gate Knock ∷ Gate Withdraw ∷ []) anything LetsGoInTwo
        → StandsReady facts Outside d t
    ready_barred e why = ready_whole (barred e why)

    -- what was named was refused
    module _ (fits : AreOf facts) {b c : S} {e : Fault} (enter : Took facts a b (Gate Enter ∷ []) anything keeps)
        (p : FindsLevel facts b c t.frames wanted 0 w (Err e))
        (leave : Took facts c d (Gate Leave ∷ []) anything lets_go) where
      whole : CallsWhole facts a d t.frames t.frames 1 (λ s.
          entered (first_work wanted w (facts a).stands.config (facts a).stands.last (facts a).stands.thread s)) (Err e)
      whole = let s = (facts b).stands in calls_entered (first_work wanted w) fits (λ z. 1)
          {so = λ j k. LearnsLevel (Err e) j k} r.role_is enter p (steady_level wanted w s.config s.last s.thread) leave

      pub opens_not : HasOpened facts a d t.frames (λ s.
          opened (first_work wanted w (facts a).stands.config (facts a).stands.last (facts a).stands.thread s)) (Err e)
      opens_not = has_not_opened (Err e) refl whole

      pub ready_not : StandsReady facts Outside d t
      ready_not = ready_whole whole

  -- it was found, and the stay goes on
  module _ (wanted : Wanted) (w : Word) {a b c : S} {t : Table} (r : StandsReady facts Outside a t) {l : Level}
      (enter : Took facts a b (Gate Enter ∷ []) anything keeps)
      (p : FindsLevel facts b c t.frames wanted 0 w (Ok l)) where
    pub ready_opened : StandsReady facts Within c t
    ready_opened = ready_after {so = λ j k. LearnsLevel (Ok l) j k} (ready_entered r enter) (same_owner t) p

    module _ (v : Levels) (items : v.levels.items ≡ l ∷ []) where
      pub opens : HasOpened facts a c t.frames (λ s.
          opened (first_work wanted w (facts a).stands.config (facts a).stands.last (facts a).stands.thread s)) (Ok v)
      opens =
          let e = enter.stands_is in
          let q = subst (λ (s : Standing). Performed facts b c t.frames t.frames 1 (Holds t.frames) (first_work wanted w
          s.config s.last s.thread) (Ok l.object) (λ j k. LearnsLevel (Ok l) j k × Holds t.frames k)) e p in
          let z = p.stands_is in
          record {
            stands_is = record {
              room = z.room ∙ ap (λ (s : Standing). s.room) e;
              config = z.config ∙ ap (λ (s : Standing). s.config) e;
              last = z.last ∙ ap (λ (s : Standing). s.last) e;
              thread = z.thread ∙ ap (λ (s : Standing). s.thread) e;
              role = z.role ∙ ap (λ (s : Standing). s.role) e;
            };
            ran = λ k s m.
                let x = enter.goes k s tt in
                let y = q.ran x.0 x.1 (holds_did k x.0 t.frames (Gate Enter ∷ []) (goes_did x.2) (refl, tt) m) in
                let learns = learns_since l.object l.header k x.0 y.0 x.3 y.3.0 in
                let shows : LearnsFirst (Ok v) k y.0
                = subst (λ ls. AreKnown ls y.0
                × Learns (slice_index_or ls 0 blank).object (slice_index_or ls 0 blank).header k y.0) (sym items)
                ((learnt l.object l.header k y.0 learns, tt), learns) in
                let answer : ◌≡◌ {A = Result ℕ Fault} (Ok l.object) (object_opened (Ok v)) =
                ap (λ (ls : List Level). Ok (slice_index_or ls 0 blank).object) (sym items) in
                let ran = ran_opened (goes_stepped x.2) y.2.ran in
                let count = spend_last (spend_step enter (λ n i. refl) k s tt t.frames t.frames) (spending y.2) in (
                  y.0,
                  y.1,
                  made_of count (subst (λ (z : Result ℕ Fault).
                      Ran (view k) (view y.0) t.frames t.frames (opened (first_work wanted w (facts a).stands.config
                      (facts a).stands.last (facts a).stands.thread (state_of y.0))) z) answer ran),
                  (shows, y.3.1),
                );
          }

      pub one_level : length (objects_of v) ≡ 1
      one_level = ap (λ (ls : List Level). length (map (λ (x : Level). x.object) ls)) items

      pub stands : (i : Inside) → IsOwnStay i (facts b).stands → v.inside ≡ i → Stand facts v c t
      stands i own same = record {
        stay = (ap (λ (j : Inside). j.thread) same ∙ (own.0 ∙ sym p.stands_is.thread), ready_opened.role_is);
        ready = ready_opened;
        some = let e = one_level in omega arith;
        known = ∥∥₁_map (ready_entered r enter).own.agrees (λ k. let x = p.ran k.0 k.1 k.2 in (
          x.0,
          x.1,
          (subst (λ ls. AreKnown ls x.0) (sym items) (learnt l.object l.header k.0 x.0 x.3.0, tt), x.3.1),
        ));
      }
