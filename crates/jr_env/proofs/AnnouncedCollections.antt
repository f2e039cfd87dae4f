-- An announced collection of an env is the machine's, and leaves the thread ready, as does one that got no turn.
use Rattle.std.proofs.Common.{◌≡◌, ◌≢◌, inl, inr, ◌≤◌, ◌+◌, ℕ, Bool, List, [], ◌∷◌, ◌++◌, map, length}
use Rattle.std.proofs.Common.{Result, Ok, Err, IfOk, IfErr, refl, sym, ap, subst, ◌∙◌, arith}
use Rattle.std.proofs.Math.Bridge.{le_prop}
use Rattle.std.proofs.Math.Logic.{∥∥₁_elim}
use Rattle.jr_word.specs.declared.config.Config.{Config}
use Rattle.jr_word.specs.declared.fault.Fault.{Fault}
use Rattle.jr_word.specs.declared.fault.Fault.TheVariants.{Busy, Moved}
use Rattle.jr_model.specs.declared.event.Role.TheVariants.{Outside}
use Rattle.jr_model.specs.declared.event.Act.{Act}
use Rattle.jr_model.specs.declared.event.Act.TheVariants.{Gate, ShutBusy, Meet}
use Rattle.jr_model.specs.declared.event.GateAct.TheVariants.{Announce, Cancel}
use Rattle.jr_model.specs.CollectionCalls.{announcing_acts, collection_acts}
use Rattle.jr_model.specs.Frames.{Frames}
use Rattle.jr_model.specs.Calls.{◌>>◌, act, one_of}
use Rattle.jr_model.specs.History.{PassView}
use Rattle.jr_model.specs.State.{Handle}
use Rattle.jr_model.specs.Parts.{announce, collect_announced, found_closed, found_moved}
use Rattle.jr_model.specs.Refusals.{Grounds}
use Rattle.jr_model.proofs.Stays.{did_then}
use Rattle.jr_steps.specs.declared.known.Holdings.{Holdings}
use Rattle.jr_steps.specs.declared.known.Known.{Known}
use Rattle.jr_steps.specs.Knowing.{Facts, MayKnow, Standing, anything, fresh_from}
use Rattle.jr_gate.specs.Performing.{ThreadState, hint_from}
use Rattle.jr_gate.proofs.SameRoom.{as_before}
use Rattle.jr_frames.specs.Table.{Table}
use Rattle.jr_frames.specs.Ready.{StandsReady}
use Rattle.jr_frames.proofs.FramesAgree.{holds_did}
use Rattle.jr_weak.specs.declared.collecting.Collected.{Collected}
use Rattle.jr_weak.specs.Collecting.{CollectsAnnouncedMarking, GivesUp, MakesAnnouncedListing, WasGivenUp}
use Rattle.jr_weak.specs.Collecting.{announced_steps, closed_at_look, closed_at_exchange, moved_at_exchange, taken_back}
use Rattle.jr_weak.specs.Counting.{collection_steps}
use Rattle.jr_weak.specs.Waiting.{ShutsActByAct}
use Rattle.jr_env.specs.Collections.{IsNoTurn, announced_collection}
use Rattle.jr_env.specs.Deeds.{DoesDeed, DoesOutside}
use Rattle.jr_env.specs.Listings.{listed_announced}
use Rattle.jr_env.specs.OpenStays.{Leaves}
use Rattle.jr_env.specs.Works.{EndsStay}
use Rattle.jr_env.proofs.EndedStays.{leaves}
use Rattle.jr_env.proofs.FrameCalls.{does_from}
use Rattle.jr_env.proofs.WholeCollections.{AllSpare, collection_spares, made_deed, ready_after}

-- what comes before other acts leaves the places alone, and the pass as fresh and its hint as they were
pub waiting_spares : (refused : List ℕ) (acts : List Act) → AllSpare acts → AllSpare (announcing_acts refused ++ acts)
waiting_spares refused acts rest = (refl, (refl, go refused))
  where
    go : (refused : List ℕ) → AllSpare (map ShutBusy refused ++ acts)
    go [] = rest
    go (n ∷ refused) = (refl, go refused)

waiting_fresh : (f : Bool) (refused : List ℕ) (acts : List Act)
    → fresh_from f (announcing_acts refused ++ acts) ≡ fresh_from f acts
waiting_fresh f [] acts = refl
waiting_fresh f (n ∷ refused) acts = waiting_fresh f refused acts

waiting_hint : (slots hint : ℕ) (refused : List ℕ) (acts : List Act)
    → hint_from slots hint (announcing_acts refused ++ acts) ≡ hint_from slots hint acts
waiting_hint slots hint [] acts = refl
waiting_hint slots hint (n ∷ refused) acts = waiting_hint slots hint refused acts

-- THE CALL'S ANSWERS, by its acts
module _ (tries : ℕ) (f : Frames) where
  closed_is : {A : Type 0} (n : ℕ) (e : Fault) → e ≡ Busy n → found_closed {A = A} f (ShutBusy n ∷ []) (Err e) f
  closed_is n e is = inl (n, f, ShutBusy n ∷ [], [], refl, (n, refl, refl, refl), (refl, ap (λ z. Err z) is, refl))

  announced_is : announce f (Meet ∷ Gate Announce ∷ []) (Ok tt) f
  announced_is = inr (inl (tt, f, Meet ∷ [], Gate Announce ∷ [], refl, (refl, refl, refl), inl (refl, refl, refl)))

  lost_is : (a : Act) (answer : Result (Unit {0}) Fault)
      → one_of found_closed (act Meet >> found_moved) f (a ∷ []) answer f → announce f (Meet ∷ a ∷ []) answer f
  lost_is a answer lost = inr (inl (tt, f, Meet ∷ [], a ∷ [], refl, (refl, refl, refl), inr lost))

  taken_back_is : (refused : List ℕ) (n : ℕ) (e : Fault) → e ≡ Busy n → length refused + 1 ≡ tries
      → collect_announced tries f (announcing_acts refused ++ ShutBusy n ∷ Gate Cancel ∷ []) (Err e) f
  taken_back_is refused n e is all =
      let last = ShutBusy n ∷ Gate Cancel ∷ [] in
      inl (
        tt,
        f,
        Meet ∷ Gate Announce ∷ [],
        map ShutBusy refused ++ last,
        refl,
        announced_is,
        inr (inl (
          tt,
          f,
          map ShutBusy refused,
          last,
          refl,
          (refused, all, refl, refl, refl),
          inl (
            n,
            f,
            ShutBusy n ∷ [],
            Gate Cancel ∷ [],
            refl,
            (n, refl, refl, refl),
            inl (tt, f, Gate Cancel ∷ [], [], refl, (refl, refl, refl), (refl, ap (λ z. Err z) is, refl)),
          ),
        )),
      )

  -- EACH OF THE FOUR ENDS is the model's
  given_up_is : {p q : PassView} {had has : Holdings} {acts : List Act} {e : Fault}
      → WasGivenUp tries p q had has acts e → collect_announced tries f acts (Err e) f
  given_up_is {e = e} (closed_at_look n acts is some closed holds) =
      subst (λ l. collect_announced tries f l (Err e) f) (sym acts) (inr (e, refl, inl (closed_is n e is)))
  given_up_is {e = e} (closed_at_exchange n acts is some closed holds) =
      subst (λ l. collect_announced tries f l (Err e) f) (sym acts)
      (inr (e, refl, lost_is (ShutBusy n) (Err e) (inl (closed_is n e is))))
  given_up_is {e = e} (moved_at_exchange n m acts is moved holds) =
      subst (λ l. collect_announced tries f l (Err e) f) (sym acts) (inr (
        e,
        refl,
        lost_is Meet (Err e)
            (inr (inl (tt, f, Meet ∷ [], [], refl, (refl, refl, refl), (n, m, (refl, ap (λ z. Err z) is, refl))))),
      ))
  given_up_is {e = e} (taken_back refused n acts is some all until holds) =
      subst (λ l. collect_announced tries f l (Err e) f) (sym acts) (taken_back_is refused n e is all)

-- what holds of the acts of each end
at_each_end : {tries : ℕ} {p q : PassView} {had has : Holdings} {acts : List Act} {e : Fault} (P : List Act → Type 0)
    → ((n : ℕ) → P (ShutBusy n ∷ [])) → ((n : ℕ) → P (Meet ∷ ShutBusy n ∷ [])) → P (Meet ∷ Meet ∷ [])
    → ((refused : List ℕ) (n : ℕ) → P (announcing_acts refused ++ ShutBusy n ∷ Gate Cancel ∷ []))
    → WasGivenUp tries p q had has acts e → P acts
at_each_end P closed between moved back (closed_at_look n acts is some by holds) = subst P (sym acts) (closed n)
at_each_end P closed between moved back (closed_at_exchange n acts is some by holds) = subst P (sym acts) (between n)
at_each_end P closed between moved back (moved_at_exchange n m acts is gate holds) = subst P (sym acts) moved
at_each_end P closed between moved back (taken_back refused n acts is some all until holds) =
    subst P (sym acts) (back refused n)

ending_spares : {tries : ℕ} {p q : PassView} {had has : Holdings} {acts : List Act} {e : Fault}
    → WasGivenUp tries p q had has acts e → AllSpare acts
ending_spares = at_each_end AllSpare (λ n. (refl, tt)) (λ n. (refl, (refl, tt))) (refl, (refl, tt)) (λ refused n.
    waiting_spares refused (ShutBusy n ∷ Gate Cancel ∷ []) (refl, (refl, tt)))

ending_fresh : {tries : ℕ} {p q : PassView} {had has : Holdings} {acts : List Act} {e : Fault} (f : Bool)
    → WasGivenUp tries p q had has acts e → fresh_from f acts ≡ f
ending_fresh f = at_each_end (λ acts. fresh_from f acts ≡ f) (λ n. refl) (λ n. refl) refl (λ refused n.
    waiting_fresh f refused (ShutBusy n ∷ Gate Cancel ∷ []))

ending_hint : {tries : ℕ} {p q : PassView} {had has : Holdings} {acts : List Act} {e : Fault} (slots hint : ℕ)
    → WasGivenUp tries p q had has acts e → hint_from slots hint acts ≡ hint
ending_hint slots hint = at_each_end (λ acts. hint_from slots hint acts ≡ hint) (λ n. refl) (λ n. refl) refl
    (λ refused n. waiting_hint slots hint refused (ShutBusy n ∷ Gate Cancel ∷ []))

-- its grounds
ending_grounds : {tries : ℕ} {p q : PassView} {had has : Holdings} {acts : List Act} {e : Fault}
    → WasGivenUp tries p q had has acts e → Grounds p.seen q e
ending_grounds {p = p} {q = q} (closed_at_look n acts is some closed holds) = subst (Grounds p.seen q) (sym is) tt
ending_grounds {p = p} {q = q} (closed_at_exchange n acts is some closed holds) = subst (Grounds p.seen q) (sym is) tt
ending_grounds {p = p} {q = q} (moved_at_exchange n m acts is moved holds) = subst (Grounds p.seen q) (sym is) moved
ending_grounds {p = p} {q = q} (taken_back refused n acts is some all until holds) =
    subst (Grounds p.seen q) (sym is) tt

-- and why there was no turn
no_turn_of : {tries : ℕ} {p q : PassView} {had has : Holdings} {acts : List Act} {e : Fault}
    → WasGivenUp tries p q had has acts e → IsNoTurn e
no_turn_of (closed_at_look n acts is some closed holds) = subst IsNoTurn (sym is) some
no_turn_of (closed_at_exchange n acts is some closed holds) = subst IsNoTurn (sym is) some
no_turn_of (moved_at_exchange n m acts is moved holds) = subst IsNoTurn (sym is) moved.other
no_turn_of (taken_back refused n acts is some all until holds) = subst IsNoTurn (sym is) some

bottom_prop : (x y : ⊥) → x ≡ y
bottom_prop x y = absurd x

no_turn_prop : (e : Fault) (x y : IsNoTurn e) → x ≡ y
no_turn_prop (Busy n) = le_prop
no_turn_prop (Moved n m) = λ x y i z. bottom_prop (x z) (y z) i
no_turn_prop _ = λ x y. absurd x

module _ {S : Type 0} {facts : S → Facts} where
  -- THE THREAD STANDS READY OUTSIDE, as before
  pub ready_given_up : {a b : S} {t : Table} (tries : ℕ) (e : Fault) → StandsReady facts Outside a t
      → GivesUp facts a b tries e → StandsReady facts Outside b t
  ready_given_up tries e r z = ready_after r z.went (λ j k y shown. (z.acts, y, ending_spares shown.0))

  module _ {a b : S} (tries : ℕ) (t : Table) where
    announced_deed : (marks : List Bool) (tells : List Handle → List ℕ → Type 0) (x : Collected)
        → MakesAnnouncedListing facts a b tries marks tells x.cleared x.dropped x.used
        → DoesDeed facts a b t.frames t.frames (listed_announced tries marks tells) (Ok x)
    announced_deed marks tells x m =
        let refused = m.refused in
        let made = (m.done).0 in
        let cleared = made.cleared in
        let dropped = made.dropped in
        let rest = collection_acts cleared dropped x.used in
        let d = made_deed t (announcing_acts refused) (λ c. announced_steps refused (collection_steps c))
        (CollectsAnnouncedMarking marks refused) (collect_announced tries) tells x made (m.done).1
        (λ p q y. did_then (announcing_acts refused) rest y.announced y.done.collects.did)
        (waiting_spares refused rest (collection_spares cleared dropped x.used)) (inl (
          tt,
          t.frames,
          Meet ∷ Gate Announce ∷ [],
          map ShutBusy refused ++ rest,
          refl,
          announced_is tries t.frames,
          inl (inl (
            tt,
            t.frames,
            map ShutBusy refused,
            rest,
            refl,
            (refused, m.few, refl, refl, refl),
            (cleared, dropped, x.used, refl, refl, refl),
          )),
        )) in
        record {
          stands_is = d.stands_is;
          did = λ k s h. let y = d.did k s h in
              (y.0, y.1, y.2, record { refused = refused; few = m.few; done = y.3 });
        }

    pub given_up_deed : (e : Fault) → GivesUp facts a b tries e
        → DoesDeed facts a b t.frames t.frames (announced_collection tries) (Err e)
    given_up_deed e z = record {
      stands_is = as_before (facts a).stands {f = (facts a).stands.fresh} z.went.stands_is;
      did = λ k s h.
          let y = z.went.leads k s tt in
          let end = y.3.0 in
          let took = y.3.1 in (
            y.0,
            y.1,
            holds_did k y.0 t.frames z.acts y.2 (ending_spares end) h,
            record {
              made = record {
                ran = record {
                  acts = z.acts;
                  did = y.2;
                  is = given_up_is tries t.frames end;
                  begun = k.seen;
                  window = y.3.2;
                  grounds = ending_grounds end;
                };
                spent = record {
                  without = 0;
                  most = let none : 0 ≤ 0 = omega arith in none;
                  taken = omega (arith, took);
                  fresh =
                      ap (λ (s : Standing). s.fresh) z.went.stands_is ∙ sym (ending_fresh (facts a).stands.fresh end);
                  hint = z.went.hint_is ∙ sym (ending_hint k.config.slots (facts a).hint end);
                };
              };
              ended = end;
            },
          );
    }

    -- one that was given up lists nothing
    given_up_listed : (marks : List Bool) (tells : List Handle → List ℕ → Type 0) (e : Fault)
        → DoesDeed facts a b t.frames t.frames (announced_collection tries) (Err e)
        → DoesDeed facts a b t.frames t.frames (listed_announced tries marks tells) (Err e)
    given_up_listed marks tells e d = record { stands_is = d.stands_is; did = d.did }

  -- THE DEED WAS DONE, once a stay that was left has been ended, and the thread stands ready
  pub collected_announced : {o a b : S} {r t : Table} (tries : ℕ) (marks : List Bool)
      (tells : List Handle → List ℕ → Type 0) (answer : Result Collected Fault) → EndsStay facts o a r t
      → IfOk answer (λ c. MakesAnnouncedListing facts a b tries marks tells c.cleared c.dropped c.used)
      → IfErr answer (λ e. GivesUp facts a b tries e)
      → StandsReady facts Outside b t
      × DoesOutside facts o b r.frames t.frames (listed_announced tries marks tells) answer
  collected_announced {t = t} tries marks tells (Ok x) ends ok err =
      let made = (ok.done).0 in
      let acts = collection_acts made.cleared made.dropped x.used in (
        ready_after ends.ready made.went (λ j k y shown. (
          announcing_acts ok.refused ++ acts,
          did_then (announcing_acts ok.refused) acts y.announced y.done.collects.did,
          waiting_spares ok.refused acts (collection_spares made.cleared made.dropped x.used),
        )),
        does_from ends (announced_deed tries t marks tells x ok),
      )
  collected_announced {t = t} tries marks tells (Err e) ends ok err = (
    ready_given_up tries e ends.ready err,
    does_from ends (given_up_listed tries t marks tells e (given_up_deed tries t e err)),
  )

-- whatever is told of it
pub plain_announced : (tries : ℕ) (marks : List Bool) (tells : List Handle → List ℕ → Type 0) (p q : ThreadState)
    (r : Result Collected Fault) → listed_announced tries marks tells p r q → announced_collection tries p r q
plain_announced tries marks tells p q (Ok c) z =
    let y = (z.done).0 in
    let did = y.collects in
    record {
      refused = z.refused;
      few = z.few;
      done = record {
        cleared = y.cleared;
        dropped = y.dropped;
        clears = y.clears;
        drops = y.drops;
        collects = record {
          shutting = did.shutting;
          announced = did.announced;
          done = (did.done).collects;
          until = did.until;
        };
        ran = y.ran;
        taken = y.taken;
        fresh = y.fresh;
        hint = y.hint;
        lets_go = y.lets_go;
      };
    }
plain_announced tries marks tells p q (Err e) z = z

-- why there was no turn
pub no_turn_why : {S : Type 0} (facts : S → Facts) (a b : S) (tries : ℕ) (e : Fault) → MayKnow facts a anything
    → GivesUp facts a b tries e → IsNoTurn e
no_turn_why facts a b tries e may z =
    let each : ((k : Known) × (facts a).knows k × anything k)
    → IsNoTurn e = λ k. no_turn_of (z.went.leads k.0 k.1 tt).3.0 in
    ∥∥₁_elim may (no_turn_prop e) each

pub no_turn : {S A : Type 0} (facts : S → Facts) (a b : S) (tries : ℕ) (answer : Result A Fault)
    → MayKnow facts a anything → IfErr answer (λ e. GivesUp facts a b tries e) → IfErr answer IsNoTurn
no_turn facts a b tries (Ok x) may z = tt
no_turn facts a b tries (Err e) may z = no_turn_why facts a b tries e may z

-- UP TO THE SHUT EACH OPERATION IS AN ACT, from where the thread stood outside, or from behind its exit
pub counts_from : {S A : Type 0} (facts : S → Facts) {o a : S} (b : S) {r t : Table} (tries : ℕ) (most : Config → ℕ)
    (answer : Result A Fault) → EndsStay facts o a r t → IfOk answer (λ _. ShutsActByAct facts a b tries most)
    → IfOk answer (λ _. ((facts o).stands.role ≡ Outside → ShutsActByAct facts o b tries most)
    × ((facts o).stands.role ≢ Outside
    → (mid : S) × Leaves facts o mid r.frames × ShutsActByAct facts mid b tries most))
counts_from facts {o} {a} b {r} tries most (Ok x) ends ok = (
  (λ out. subst (λ s. ShutsActByAct facts s b tries most) (ends.same out) ok),
  (λ inside. (a, leaves facts o a r.frames (ends.left inside), ok)),
)
counts_from facts b tries most (Err e) ends ok = tt
