-- A collection of an env is the machine's, and leaves the thread ready.
use Rattle.std.proofs.Common.{◌≡◌, ◌≤◌, ℕ, Bool, true, List, [], ◌∷◌, ◌++◌, map, length, Result}
use Rattle.std.proofs.Common.{Ok, Err, IfOk, IfErr, inl, inr, refl, sym, ap, subst, ◌∙◌}
use Rattle.std.specs.List.{AllByRecursion}
use mathlib.Core.Logic.{∥∥₁_map}
use Rattle.jr_word.specs.declared.config.Config.{Config}
use Rattle.jr_word.specs.declared.fault.Fault.{Fault}
use Rattle.jr_word.specs.declared.fault.Fault.TheVariants.{Busy}
use Rattle.jr_model.specs.declared.event.Role.TheVariants.{Outside}
use Rattle.jr_model.specs.declared.event.Act.{Act}
use Rattle.jr_model.specs.declared.event.Act.TheVariants.{Gate, ShutBusy, Clear, Drop, Settle}
use Rattle.jr_model.specs.declared.event.GateAct.TheVariants.{Reopen}
use Rattle.jr_model.specs.State.{Handle}
use Rattle.jr_model.specs.Calls.{Call}
use Rattle.jr_model.specs.CollectionCalls.{collection_acts, sweeping_acts}
use Rattle.jr_model.specs.History.{Did, PassView}
use Rattle.jr_model.specs.Parts as parts
use Rattle.jr_model.specs.Refusals.{Grounds}
use Rattle.jr_model.proofs.Agreement.{spares_places}
use Rattle.jr_model.proofs.Exactly.{append_all}
use Rattle.jr_model.proofs.Windows.{window_act}
use Rattle.jr_steps.specs.declared.known.Known.{Known}
use Rattle.jr_steps.specs.Knowing.{Facts, Standing, Took, Went, anything, keeps, view}
use Rattle.jr_steps.proofs.StepFacts.{goes_did}
use Rattle.jr_gate.specs.Performing.{ThreadState}
use Rattle.jr_gate.proofs.SameRoom.{as_before}
use Rattle.jr_gate.proofs.Spending.{made_of, spend_step}
use Rattle.jr_frames.specs.Table.{Table}
use Rattle.jr_frames.specs.Ready.{AreOwn, StandsReady}
use Rattle.jr_frames.proofs.FramesAgree.{holds_did}
use Rattle.jr_frames.proofs.StillReady.{own_stepped}
use Rattle.jr_weak.specs.declared.collecting.Collected.{Collected}
use Rattle.jr_weak.specs.Collecting.{CollectsMarking, MakesAfter, MakesListing}
use Rattle.jr_weak.specs.Counting.{collection_steps}
use Rattle.jr_env.specs.Collections.{HasCollected, collection}
use Rattle.jr_env.specs.Deeds.{DoesDeed, DoesOutside}
use Rattle.jr_env.specs.Listings.{listed_collection}
use Rattle.jr_env.specs.Works.{EndsStay}
use Rattle.jr_env.proofs.FrameCalls.{does_from}

-- no act of a collection is at the thread's places
abbrev pub AllSpare : List Act → Type 0
AllSpare acts = AllByRecursion (λ a. spares_places a ≡ true) acts

clears_spare : (hs : List Handle) → AllSpare (map Clear hs)
clears_spare [] = tt
clears_spare (h ∷ hs) = (refl, clears_spare hs)

drops_spare : (os : List ℕ) → AllSpare (map Drop os)
drops_spare [] = tt
drops_spare (o ∷ os) = (refl, drops_spare os)

pub collection_spares : (hs : List Handle) (os : List ℕ) (used : ℕ) → AllSpare (collection_acts hs os used)
collection_spares hs os used = (
  refl,
  append_all _ (sweeping_acts hs os used) (Gate Reopen ∷ []) (append_all _ (map Clear hs ++ map Drop os) (Settle used
      ∷ []) (append_all _ (map Clear hs) (map Drop os) (clears_spare hs) (drops_spare os)) (refl, tt)) (refl, tt),
)

module _ {S : Type 0} {facts : S → Facts} where
  -- THE THREAD STANDS READY OUTSIDE, as before, after steps whose acts leave its places alone
  own_after : {a b : S} {t : Table} {made shows : Known → Known → Type 0} → AreOwn facts a t
      → Went facts a b (facts a).stands anything made shows
      → ((j k : Known) → made j k → shows j k → (acts : List Act) × Did (view j) (view k) acts × AllSpare acts)
      → AreOwn facts b t
  own_after {t = t} r w did = record {
    owner = r.owner ∙ sym (ap (λ (s : Standing). s.thread) w.stands_is);
    last = r.last ∙ sym (ap (λ (s : Standing). s.last) w.stands_is);
    places = r.places ∙ sym (ap (λ (s : Standing). s.config.locals) w.stands_is);
    agrees = ∥∥₁_map r.agrees (λ k.
        let x = w.leads k.0 k.1 tt in
        let d = did k.0 x.0 x.2 x.3 in
        (x.0, x.1, holds_did k.0 x.0 t.frames d.0 d.1 d.2 k.2));
  }

  pub ready_after : {a b : S} {t : Table} {made shows : Known → Known → Type 0} → StandsReady facts Outside a t
      → Went facts a b (facts a).stands anything made shows
      → ((j k : Known) → made j k → shows j k → (acts : List Act) × Did (view j) (view k) acts × AllSpare acts)
      → StandsReady facts Outside b t
  ready_after r w did = record {
    role_is = ap (λ (s : Standing). s.role) w.stands_is ∙ r.role_is;
    spent = ap (λ (s : Standing). s.fresh) w.stands_is ∙ r.spent;
    own = own_after r.own w did;
  }

  -- and after one that was refused
  pub ready_refused : {a b : S} {t : Table} (n : ℕ) → StandsReady facts Outside a t
      → Took facts a b (ShutBusy n ∷ []) anything keeps → StandsReady facts Outside b t
  ready_refused n r z = record {
    role_is = ap (λ (s : Standing). s.role) z.stands_is ∙ r.role_is;
    spent = ap (λ (s : Standing). s.fresh) z.stands_is ∙ r.spent;
    own = own_stepped (ShutBusy n) refl r.own z;
  }

  module _ {a b : S} (t : Table) where
    -- THE MACHINE'S COLLECTION WAS MADE, with these acts before its shut
    pub made_deed : (before : List Act) (most : Config → ℕ)
        (does : PassView → PassView → List Handle → List ℕ → ℕ → Type 0) (asked : Call (ℕ × ℕ × ℕ))
        (tells : List Handle → List ℕ → Type 0) (x : Collected)
        → (m : MakesAfter facts a b before most does x.cleared x.dropped x.used) → tells m.cleared m.dropped
        → ((p q : PassView) → does p q m.cleared m.dropped x.used
        → Did p q (before ++ collection_acts m.cleared m.dropped x.used))
        → AllSpare (before ++ collection_acts m.cleared m.dropped x.used)
        → asked t.frames (before ++ collection_acts m.cleared m.dropped x.used)
        (Ok (length m.cleared, length m.dropped, x.used)) t.frames
        → DoesDeed facts a b t.frames t.frames
        (λ old answer new. (z : HasCollected does asked (most old.pass.config) old new x) × tells z.cleared z.dropped)
        (Ok x)
    made_deed before most does asked tells x m told did spares is =
        let acts = before ++ collection_acts m.cleared m.dropped x.used in
        let count : ◌≡◌ {A = ℕ × ℕ × ℕ} (length m.cleared, length m.dropped, x.used) (x.cleared, x.dropped, x.used) =
        ap (λ n. (n, length m.dropped, x.used)) m.clears ∙ ap (λ n. (x.cleared, n, x.used)) m.drops in
        record {
          stands_is = as_before (facts a).stands {f = (facts a).stands.fresh} m.went.stands_is;
          did = λ k s h.
              let y = m.went.leads k s tt in (
                y.0,
                y.1,
                holds_did k y.0 t.frames acts (did (view k) (view y.0) y.2) spares h,
                (
                  record {
                    cleared = m.cleared;
                    dropped = m.dropped;
                    clears = m.clears;
                    drops = m.drops;
                    collects = y.2;
                    ran = record {
                      acts = acts;
                      did = did (view k) (view y.0) y.2;
                      is = subst (λ (n : ℕ × ℕ × ℕ). asked t.frames acts (Ok n) t.frames) count is;
                      begun = y.3.1.0;
                      window = y.3.1.1;
                      grounds = tt;
                    };
                    taken = y.3.2;
                    fresh = ap (λ (s : Standing). s.fresh) m.went.stands_is;
                    hint = m.went.hint_is;
                    lets_go = y.3.0;
                  },
                  told,
                ),
              );
        }

    collected_deed : (marks : List Bool) (tells : List Handle → List ℕ → Type 0) (x : Collected)
        → MakesListing facts a b marks tells x.cleared x.dropped x.used
        → DoesDeed facts a b t.frames t.frames (listed_collection marks tells) (Ok x)
    collected_deed marks tells x made =
        let m = made.0 in
        let d = made_deed [] collection_steps (CollectsMarking marks) parts.collect tells x m made.1
        (λ p q y. y.collects.did) (collection_spares m.cleared m.dropped x.used)
        (inl (m.cleared, m.dropped, x.used, refl, refl, refl)) in
        record { stands_is = d.stands_is; did = d.did }

    pub kept_out : (e : Fault) (n : ℕ) → e ≡ Busy n → 1 ≤ n → Took facts a b (ShutBusy n ∷ []) anything keeps
        → DoesDeed facts a b t.frames t.frames collection (Err e)
    kept_out e n is some z = record {
      stands_is = as_before (facts a).stands {f = (facts a).stands.fresh} z.stands_is;
      did = λ k s h.
          let y = z.goes k s tt in
          let did = goes_did y.2 in (
            y.0,
            y.1,
            holds_did k y.0 t.frames (ShutBusy n ∷ []) did (refl, tt) h,
            record {
              count = n;
              busy = is;
              some = some;
              made = made_of (spend_step z (λ n i. refl) k s tt t.frames t.frames) (record {
                acts = ShutBusy n ∷ [];
                did = did;
                is = inr (inl
                    (n, t.frames, ShutBusy n ∷ [], [], refl, (n, refl, refl, refl), (refl, ap (λ f. Err f) is, refl)));
                begun = k.seen;
                window = window_act (ShutBusy n) did tt tt;
                grounds = subst (λ f. Grounds k.seen (view y.0) f) (sym is) tt;
              });
              holds = y.3;
            },
          );
    }

    -- one that was refused lists nothing
    kept_listed : (marks : List Bool) (tells : List Handle → List ℕ → Type 0) (e : Fault)
        → DoesDeed facts a b t.frames t.frames collection (Err e)
        → DoesDeed facts a b t.frames t.frames (listed_collection marks tells) (Err e)
    kept_listed marks tells e d = record { stands_is = d.stands_is; did = d.did }

  -- THE DEED WAS DONE, once a stay that was left has been ended, and the thread stands ready
  pub collected : {o a b : S} {r t : Table} (marks : List Bool) (tells : List Handle → List ℕ → Type 0)
      (answer : Result Collected Fault) → EndsStay facts o a r t
      → IfOk answer (λ c. MakesListing facts a b marks tells c.cleared c.dropped c.used)
      → IfErr answer (λ e. (n : ℕ) × (e ≡ Busy n) × (1 ≤ n) × Took facts a b (ShutBusy n ∷ []) anything keeps)
      → StandsReady facts Outside b t
      × DoesOutside facts o b r.frames t.frames (listed_collection marks tells) answer
  collected {t = t} marks tells (Ok x) ends ok err = let m = ok.0 in (
    ready_after ends.ready m.went (λ j k y shown. (
      collection_acts m.cleared m.dropped x.used,
      y.collects.did,
      collection_spares m.cleared m.dropped x.used,
    )),
    does_from ends (collected_deed t marks tells x ok),
  )
  collected {t = t} marks tells (Err e) ends ok err = (
    ready_refused err.0 ends.ready err.3,
    does_from ends (kept_listed t marks tells e (kept_out t e err.0 err.1 err.2 err.3)),
  )

-- whatever is told of it
pub plain_collection : (marks : List Bool) (tells : List Handle → List ℕ → Type 0) (p q : ThreadState)
    (r : Result Collected Fault) → listed_collection marks tells p r q → collection p r q
plain_collection marks tells p q (Ok c) z =
    let y = z.0 in
    record {
      cleared = y.cleared;
      dropped = y.dropped;
      clears = y.clears;
      drops = y.drops;
      collects = (y.collects).collects;
      ran = y.ran;
      taken = y.taken;
      fresh = y.fresh;
      hint = y.hint;
      lets_go = y.lets_go;
    }
plain_collection marks tells p q (Err e) z = z
