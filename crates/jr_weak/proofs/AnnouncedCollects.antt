-- What is done behind an announcement, and a collection so made; and one that was given up is the model's.
use Rattle.std.proofs.Common.{◌≡◌, ◌≢◌, ◌+◌, ℕ, Bool, inl, inr, List, [], ◌∷◌, ◌++◌, map}
use Rattle.std.proofs.Common.{Result, Ok, Err, IfOk, IfErr, length, refl, sym, ap, subst, ◌∙◌, arith, append_assoc}
use Rattle.std.proofs.lemmas.List.{length-append, length-map}
use Rattle.std.specs.List.{AllByRecursion}
use Rattle.jr_word.specs.declared.config.Config.{Config}
use Rattle.jr_word.specs.declared.fault.Fault.{Fault}
use Rattle.jr_model.specs.declared.event.Role.TheVariants.{Outside}
use Rattle.jr_model.specs.declared.event.Act.{Act}
use Rattle.jr_model.specs.declared.event.Act.TheVariants.{Gate, ShutBusy, Clear, Drop, Settle, Meet}
use Rattle.jr_model.specs.declared.event.GateAct.TheVariants.{Announce, Cancel, Shut, Reopen}
use Rattle.jr_model.specs.State.{Handle}
use Rattle.jr_model.specs.History.{PassView, Did}
use Rattle.jr_model.specs.CollectionCalls.{announcing_acts, sweeping_acts}
use Rattle.jr_model.specs.Windows.{IsLastSeen, IsWindow}
use Rattle.jr_model.proofs.Announcements.{announced_until}
use Rattle.jr_model.proofs.Moments.{prefix_self}
use Rattle.jr_model.proofs.Stays.{did_then}
use Rattle.jr_model.proofs.Windows.{ends_behind, stepped_last, window_act, window_some}
use Rattle.jr_steps.specs.declared.known.Holdings.{Holdings}
use Rattle.jr_steps.specs.declared.known.Known.{Known}
use Rattle.jr_steps.specs.Knowing.{CanReopen, Facts, Goes, Takes, Went, anything, lets_go, standing_after, view}
use Rattle.jr_steps.proofs.StepFacts.{goes_did, goes_stepped}
use Rattle.jr_gate.specs.Acting.{ActedTo}
use Rattle.jr_gate.specs.Announcing.{AnnouncesInTwo, WasNotAnnounced}
use Rattle.jr_compact.specs.Counting.{TakesWithin}
use Rattle.jr_weak.specs.Counting.{collection_steps, sweeping_steps}
use Rattle.jr_weak.specs.declared.collecting.Collected.{Collected}
use Rattle.jr_weak.specs.Collecting.{CollectsFrom, CollectsMarking, Finishes, GivesUp, MakesAnnouncedCollection}
use Rattle.jr_weak.specs.Collecting.{MakesAnnouncedListing, WentAnnounced}
use Rattle.jr_weak.specs.Collecting.{closed_at_look, shut_acts, closed_at_exchange, moved_at_exchange, taken_back}
use Rattle.jr_weak.specs.Waiting.{CancelsAfter, ShutsActByAct, ShutsAfter, ShutsAnnounced}
use Rattle.jr_weak.proofs.Collects.{collects_since, within_since}
use Rattle.jr_weak.proofs.Tries.{one_more}

-- a call that begins with a look, and ends with an act that takes its thread outside
shut_window : {old new : PassView} (refused : List ℕ) (acts : List Act)
    → Did old new (announcing_acts refused ++ shut_acts acts) → IsLastSeen new (Gate Reopen)
    → IsWindow old new (announcing_acts refused ++ shut_acts acts) old.seen
shut_window {old} {new} refused acts d last = record {
  from = prefix_self old.seen;
  to = d.begins;
  first = tt;
  last = ends_behind old new (announcing_acts refused) (Gate Shut) (acts ++ Gate Reopen ∷ [])
      (ends_behind old new (Gate Shut ∷ acts) (Gate Reopen) [] (λ out. last));
}

cancel_window : {old new : PassView} (refused : List ℕ) (n : ℕ)
    → Did old new (announcing_acts refused ++ ShutBusy n ∷ Gate Cancel ∷ []) → IsLastSeen new (Gate Cancel)
    → IsWindow old new (announcing_acts refused ++ ShutBusy n ∷ Gate Cancel ∷ []) old.seen
cancel_window {old} {new} refused n d last = record {
  from = prefix_self old.seen;
  to = d.begins;
  first = tt;
  last = ends_behind old new (announcing_acts refused) (ShutBusy n) (Gate Cancel ∷ []) (λ out. last);
}

-- AN ACT x THAT IS NONE of refused shuts, of a sweep, or of both with a shut between them
abbrev Spares : Act → List Act → Type 0
Spares x acts = AllByRecursion (λ a. a ≢ x) acts

busy_spares : (x : Act) → ((n : ℕ) → ShutBusy n ≢ x) → (refused : List ℕ) (n : ℕ)
    → Spares x (map ShutBusy refused ++ ShutBusy n ∷ [])
busy_spares x ne [] n = (ne n, tt)
busy_spares x ne (m ∷ refused) n = (ne m, busy_spares x ne refused n)

shut_spares : (x : Act) → ((n : ℕ) → ShutBusy n ≢ x) → Gate Shut ≢ x → (refused : List ℕ) (acts : List Act)
    → Spares x acts → Spares x (map ShutBusy refused ++ Gate Shut ∷ acts)
shut_spares x ne shut [] acts rest = (shut, rest)
shut_spares x ne shut (m ∷ refused) acts rest = (ne m, shut_spares x ne shut refused acts rest)

sweeping_spares : (x : Act) → ((h : Handle) → Clear h ≢ x) → ((o : ℕ) → Drop o ≢ x) → ((n : ℕ) → Settle n ≢ x)
    → (cleared : List Handle) (dropped : List ℕ) (used : ℕ) → Spares x (sweeping_acts cleared dropped used)
sweeping_spares x clear drop settle [] [] used = (settle used, tt)
sweeping_spares x clear drop settle [] (o ∷ dropped) used =
    (drop o, sweeping_spares x clear drop settle [] dropped used)
sweeping_spares x clear drop settle (h ∷ cleared) dropped used =
    (clear h, sweeping_spares x clear drop settle cleared dropped used)

-- one operation for each of the acts up to the shut
announcing_takes : (refused : List ℕ) (j k l : Known) → Takes 2 j k → Takes (length refused) k l
    → Takes (length (announcing_acts refused)) j l
announcing_takes refused j k l a b =
    let long : length (map ShutBusy refused) ≡ length refused = length-map refused ShutBusy in omega (arith, a, b, long)

-- and then no more than these from the shut on
then_within : (n m : ℕ) (j k l : Known) → Takes n j k → TakesWithin m k l → TakesWithin (n + m) j l
then_within n m j k l a b = omega arith

-- one for each act up to the cancel
cancel_long : (refused : List ℕ) (n : ℕ)
    → length (announcing_acts refused ++ ShutBusy n ∷ Gate Cancel ∷ []) ≡ length refused + 4
cancel_long refused n =
    let both : length (map ShutBusy refused ++ ShutBusy n ∷ Gate Cancel ∷ []) ≡ length (map ShutBusy refused) + 2 =
    length-append (map ShutBusy refused) (ShutBusy n ∷ Gate Cancel ∷ []) in
    let long : length (map ShutBusy refused) ≡ length refused = length-map refused ShutBusy in
    omega arith

-- IT WAS NOT ANNOUNCED, and so it was given up
pub not_announced : {S : Type 0} (facts : S → Facts) {a b : S} (tries : ℕ) (e : Fault) → WasNotAnnounced facts a b e
    → GivesUp facts a b tries e
not_announced facts tries e (inl z) = record {
  acts = ShutBusy z.0 ∷ [];
  went = record {
    stands_is = (z.3).stands_is;
    hint_is = (z.3).hint_is;
    leads = λ k s m.
        let y = (z.3).goes k s tt in
        let did = goes_did y.2 in
        let one = (y.2).taken in (
          y.0,
          y.1,
          did,
          (closed_at_look z.0 refl z.1 z.2 y.3.1 y.3.0, omega arith, window_act (ShutBusy z.0) did tt tt),
        );
  };
}
not_announced facts tries e (inr (inl z)) = record {
  acts = Meet ∷ ShutBusy z.0 ∷ [];
  went = record {
    stands_is = (z.3).stands_is;
    hint_is = (z.3).hint_is;
    leads = λ k s m.
        let y = (z.3).leads k s tt in
        let two = y.3.0.0.1 in (
          y.0,
          y.1,
          y.2,
          (
            closed_at_exchange z.0 refl z.1 z.2 y.3.0.1 y.3.0.0.0,
            omega arith,
            window_some Meet (ShutBusy z.0 ∷ []) y.2 (refl, (refl, tt)),
          ),
        );
  };
}
not_announced facts tries e (inr (inr z)) = record {
  acts = Meet ∷ Meet ∷ [];
  went = record {
    stands_is = (z.4).stands_is;
    hint_is = (z.4).hint_is;
    leads = λ k s m.
        let y = (z.4).leads k s tt in
        let shown = y.3.0 in
        let two = shown.1.1 in (
          y.0,
          y.1,
          y.2,
          (
            moved_at_exchange z.0 z.1 refl z.2 shown.0 shown.1.0,
            omega arith,
            window_some Meet (Meet ∷ []) y.2 (refl, (refl, tt)),
          ),
        );
  };
}

-- WHAT IS KNOWN FROM THE SHUT ON of what was done with these acts, before the gate was opened
pub record ShutFor (acts : List Act) (most : ℕ) (does : PassView → PassView → Type 0) (k k1 k' : Known) : Type 0 where
  pub opening : Known
  pub swept : Did (view k1) (view opening) acts
  pub opened : Goes opening (Gate Reopen ∷ []) k'
  pub did : Did (view k) (view k') (shut_acts acts)
  pub done : does (view k) (view k')
  pub within : TakesWithin most k k'

-- IT WAS DONE BEHIND AN ANNOUNCEMENT, whatever it was
pub does_announced : {S : Type 0} (facts : S → Facts) {a d z : S} {tries : ℕ} (acts : List Act) (most : Config → ℕ)
    (does : PassView → PassView → Type 0) (rest : Known → Known → Type 0) → (facts a).stands.role ≡ Outside
    → Spares (Gate Cancel) acts → Spares (Gate Reopen) acts
    → ((k k1 k' : Known) → Goes k (Gate Shut ∷ []) k1 → rest k1 k' → ShutFor acts (most k.config) does k k1 k')
    → (sh : ShutsAnnounced facts a d tries)
    → Went facts d z (standing_after (facts d).stands (Gate Reopen ∷ [])) CanReopen rest lets_go
    → WentAnnounced facts a z sh.after.refused acts most does
does_announced facts {a} acts most does rest outside cancels reopens since sh then' =
    let refused = sh.after.refused in
    record {
      stands_is = then'.stands_is ∙ (ap (λ s. standing_after s (Gate Reopen ∷ [])) sh.after.shut.stands_is
          ∙ (ap (λ s. standing_after s (Gate Shut ∷ Gate Reopen ∷ []))
          (sh.after.waited.went.stands_is ∙ sh.announced.stands_is)
          ∙ ap (λ r. record ((facts a).stands) { role = r }) (sym outside)));
      hint_is = then'.hint_is ∙ (sh.after.shut.hint_is ∙ (sh.after.waited.went.hint_is ∙ sh.announced.hint_is));
      leads = λ k s m.
          let kb = sh.announced.leads k s tt in
          let kc = sh.after.waited.went.leads kb.0 kb.1 tt in
          let kd = sh.after.shut.goes kc.0 kc.1 tt in
          let kz = then'.leads kd.0 kd.1 (kd.3.0, ap (λ (g : Holdings). g.moving) kd.3.1) in
          let done = since kc.0 kd.0 kz.0 kd.2 kz.2 in
          let waiting : Did (view k) (view kc.0) (announcing_acts refused) =
          did_then (Meet ∷ Gate Announce ∷ []) (map ShutBusy refused) kb.2 kc.2 in
          let swept : Did (view kb.0) (view done.opening) (map ShutBusy refused ++ Gate Shut ∷ acts) =
          did_then (map ShutBusy refused) (Gate Shut ∷ acts) kc.2
          (did_then (Gate Shut ∷ []) acts (goes_did kd.2) done.swept) in
          let did : Did (view k) (view kz.0) (announcing_acts refused ++ shut_acts acts) =
          did_then (announcing_acts refused) (shut_acts acts) waiting done.did in (
            kz.0,
            kz.1,
            record {
              shutting = view kc.0;
              announced = waiting;
              done = done.done;
              until = announced_until (map ShutBusy refused ++ Gate Shut ∷ acts) Reopen
                  (shut_spares (Gate Cancel) (λ n e. cc) (λ e. cc) refused acts cancels)
                  (shut_spares (Gate Reopen) (λ n e. cc) (λ e. cc) refused acts reopens)
                  kb.3.0.1 swept (goes_stepped done.opened);
            },
            (
              kz.3,
              (k.seen, shut_window refused acts did (stepped_last (goes_stepped done.opened))),
              then_within (length (announcing_acts refused)) (most k.config) k kc.0 kz.0
                  (announcing_takes refused k kb.0 kc.0 kb.3.0.0.1 kc.3.1)
                  (subst (λ (c : Config). TakesWithin (most c) kc.0 kz.0) waiting.config done.within),
            ),
          );
    }

-- one operation for each act up to the shut, and the shut
shut_takes : (refused : List ℕ) (j k l m : Known) → Takes 2 j k → Takes (length refused) k l → Takes 1 l m
    → Takes (length (announcing_acts refused) + 1) j m
shut_takes refused j k l m a b one = let until = announcing_takes refused j k l a b in omega (arith, until, one)

-- what comes behind the shut takes no more operations than these, and opens the gate by its last act
abbrev pub EndsWithin : (Config → ℕ) → Known → Known → Type 0
EndsWithin most j k =
    ((acts : List Act) × Did (view j) (view k) (acts ++ Gate Reopen ∷ [])) × TakesWithin (most j.config) j k

-- UP TO THE SHUT EACH OPERATION IS AN ACT, whatever is done behind it
pub act_by_act : {S : Type 0} (facts : S → Facts) {a d z : S} {tries : ℕ} (most : Config → ℕ)
    (rest : Known → Known → Type 0) → ((j k : Known) → rest j k → EndsWithin most j k) → ShutsAnnounced facts a d tries
    → Went facts d z (standing_after (facts d).stands (Gate Reopen ∷ [])) CanReopen rest lets_go
    → ShutsActByAct facts a z tries most
act_by_act facts {d = d} most rest ends sh then' =
    let refused = sh.after.refused in
    record {
      refused = refused;
      few = sh.after.few;
      shutting = d;
      shut = record {
        stands_is = sh.after.shut.stands_is ∙ ap (λ s. standing_after s (Gate Shut ∷ []))
            (sh.after.waited.went.stands_is ∙ sh.announced.stands_is);
        hint_is = sh.after.shut.hint_is ∙ (sh.after.waited.went.hint_is ∙ sh.announced.hint_is);
        leads = λ k s m.
            let kb = sh.announced.leads k s tt in
            let kc = sh.after.waited.went.leads kb.0 kb.1 tt in
            let kd = sh.after.shut.goes kc.0 kc.1 tt in
            let waiting : Did (view k) (view kc.0) (announcing_acts refused) =
            did_then (Meet ∷ Gate Announce ∷ []) (map ShutBusy refused) kb.2 kc.2 in (
              kd.0,
              kd.1,
              did_then (announcing_acts refused) (Gate Shut ∷ []) waiting (goes_did kd.2),
              (
                (kd.3.0, ap (λ (g : Holdings). g.moving) kd.3.1),
                shut_takes refused k kb.0 kc.0 kd.0 kb.3.0.0.1 kc.3.1 (kd.2).taken,
              ),
            );
      };
      rest = record {
        stands_is = then'.stands_is;
        hint_is = then'.hint_is;
        leads = λ k s can.
            let y = then'.leads k s can in
            let e = ends k y.0 y.2 in
            (y.0, y.1, e.0, e.1);
      };
    }

-- A COLLECTION
pub collects_act_by_act : {S : Type 0} (facts : S → Facts) {a d z : S} {marks : List Bool}
    {tells : List Handle → List ℕ → Type 0} {tries cleared_count dropped_count used : ℕ}
    → ShutsAnnounced facts a d tries → Finishes facts d z marks tells cleared_count dropped_count used
    → ShutsActByAct facts a z tries (λ c. sweeping_steps c + 1)
collects_act_by_act facts {marks = marks} {used = used} sh rest =
    act_by_act facts (λ c. sweeping_steps c + 1)
    (λ j k. CollectsFrom marks j k rest.cleared rest.dropped used) (λ j k from. (
      (
        sweeping_acts rest.cleared rest.dropped used,
        did_then (sweeping_acts rest.cleared rest.dropped used) (Gate Reopen ∷ []) from.swept (goes_did from.opened),
      ),
      from.taken,
    )) sh rest.went

collected_for : (marks : List Bool) (cleared : List Handle) (dropped : List ℕ) (used : ℕ) (k k1 k' : Known)
    → Goes k (Gate Shut ∷ []) k1 → CollectsFrom marks k1 k' cleared dropped used
    → ShutFor (sweeping_acts cleared dropped used) (collection_steps k.config)
    (λ p q. CollectsMarking marks p q cleared dropped used) k k1 k'
collected_for marks cleared dropped used k k1 k' g rest =
    let since = collects_since marks cleared dropped used g rest in
    record {
      opening = rest.opening;
      swept = rest.swept;
      opened = rest.opened;
      did = (since.does).collects.did;
      done = since.does;
      within = within_since k' g rest.taken;
    }

pub makes_announced : {S : Type 0} (facts : S → Facts) {a d z : S} {marks : List Bool}
    {tells : List Handle → List ℕ → Type 0} {tries cleared_count dropped_count used : ℕ}
    → (facts a).stands.role ≡ Outside → ShutsAnnounced facts a d tries
    → Finishes facts d z marks tells cleared_count dropped_count used
    → MakesAnnouncedListing facts a z tries marks tells cleared_count dropped_count used
makes_announced facts {marks = marks} {used = used} outside sh rest = record {
  refused = sh.after.refused;
  few = sh.after.few;
  done = (
    record {
      cleared = rest.cleared;
      dropped = rest.dropped;
      clears = rest.clears;
      drops = rest.drops;
      went = does_announced facts (sweeping_acts rest.cleared rest.dropped used) collection_steps
          (λ p q. CollectsMarking marks p q rest.cleared rest.dropped used)
          (λ j k. CollectsFrom marks j k rest.cleared rest.dropped used)
          outside (sweeping_spares (Gate Cancel) (λ h e. cc) (λ o e. cc) (λ n e. cc) rest.cleared rest.dropped used)
          (sweeping_spares (Gate Reopen) (λ h e. cc) (λ o e. cc) (λ n e. cc) rest.cleared rest.dropped used)
          (collected_for marks rest.cleared rest.dropped used) sh rest.went;
    },
    rest.told,
  );
}

-- whatever is told of it
pub made_announced_plain : {S : Type 0} (facts : S → Facts) (a z : S) (tries : ℕ) (marks : List Bool)
    (tells : List Handle → List ℕ → Type 0) (r : Result Collected Fault)
    → IfOk r (λ c. MakesAnnouncedListing facts a z tries marks tells c.cleared c.dropped c.used)
    → IfOk r (λ c. MakesAnnouncedCollection facts a z tries c.cleared c.dropped c.used)
made_announced_plain facts a z tries marks tells (Ok c) made =
    let all = (made.done).0 in
    record {
      refused = made.refused;
      few = made.few;
      done = record {
        cleared = all.cleared;
        dropped = all.dropped;
        clears = all.clears;
        drops = all.drops;
        went = record {
          stands_is = all.went.stands_is;
          hint_is = all.went.hint_is;
          leads = λ k s m.
              let y = all.went.leads k s m in
              let did = y.2 in (
                y.0,
                y.1,
                record {
                  shutting = did.shutting;
                  announced = did.announced;
                  done = (did.done).collects;
                  until = did.until;
                },
                y.3,
              );
        };
      };
    }
made_announced_plain facts a z tries marks tells (Err e) made = tt

module _ {S : Type 0} (facts : S → Facts) {a b : S} (tries : ℕ) (outside : (facts a).stands.role ≡ Outside)
    (announced : ActedTo facts a b (Meet ∷ Gate Announce ∷ []) anything AnnouncesInTwo) where
  pub shuts_announced : {A : Type 0} (d : S) (r : Result A Fault) → IfOk r (λ _. ShutsAfter facts b d tries)
      → IfOk r (λ _. ShutsAnnounced facts a d tries)
  shuts_announced d (Ok x) after = record { announcing = b; announced = announced; after = after }
  shuts_announced d (Err e) after = tt

  gives_up : {z : S} (e : Fault) → CancelsAfter facts b z tries e → GivesUp facts a z tries e
  gives_up e u = record {
    acts = announcing_acts u.refused ++ ShutBusy u.count ∷ Gate Cancel ∷ [];
    went = record {
      stands_is = u.cancelled.stands_is
          ∙ (ap (λ s. standing_after s (Gate Cancel ∷ [])) (u.waited.went.stands_is ∙ announced.stands_is)
          ∙ ap (λ r. record ((facts a).stands) { role = r }) (sym outside));
      hint_is = u.cancelled.hint_is ∙ (u.waited.went.hint_is ∙ announced.hint_is);
      leads = λ k s m.
          let kb = announced.leads k s tt in
          let kc = u.waited.went.leads kb.0 kb.1 tt in
          let kz = u.cancelled.goes kc.0 kc.1 tt in
          let acts = map ShutBusy u.refused ++ ShutBusy u.count ∷ [] in
          let waiting : Did (view kb.0) (view kc.0) acts =
          subst (λ (l : List Act). Did (view kb.0) (view kc.0) l) (one_more u.refused u.count) kc.2 in
          let both : Did (view kb.0) (view kz.0) (map ShutBusy u.refused ++ ShutBusy u.count ∷ Gate Cancel ∷ []) =
          subst (λ (l : List Act). Did (view kb.0) (view kz.0) l)
          (append_assoc (map ShutBusy u.refused) (ShutBusy u.count ∷ []) (Gate Cancel ∷ []))
          (did_then acts (Gate Cancel ∷ []) waiting (goes_did kz.2)) in
          let did = did_then (Meet ∷ Gate Announce ∷ []) (map ShutBusy u.refused ++ ShutBusy u.count ∷ Gate Cancel ∷ [])
          kb.2 both in
          let long : length (u.refused ++ u.count ∷ []) ≡ length u.refused + 1 =
          length-append u.refused (u.count ∷ []) in
          let first = kb.3.0.0.1 in
          let then' = kc.3.1 in
          let last = (kz.2).taken in
          let until = announced_until acts Cancel (busy_spares (Gate Cancel) (λ n e. cc) u.refused u.count)
          (busy_spares (Gate Reopen) (λ n e. cc) u.refused u.count) kb.3.0.1 waiting (goes_stepped kz.2) in
          let all = cancel_long u.refused u.count in (
            kz.0,
            kz.1,
            did,
            (
              taken_back u.refused u.count refl u.busy u.some u.all until kz.3,
              omega arith,
              cancel_window u.refused u.count did (stepped_last (goes_stepped kz.2)),
            ),
          );
    };
  }

  pub gives_up_all : {A : Type 0} (z : S) (r : Result A Fault) → IfErr r (λ e. CancelsAfter facts b z tries e)
      → IfErr r (λ e. GivesUp facts a z tries e)
  gives_up_all z (Ok x) u = tt
  gives_up_all z (Err e) u = gives_up e u
