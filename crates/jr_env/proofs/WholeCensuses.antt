-- A census or a dump of an env is told of one step, and leaves the thread ready, as does an announced one.
use Rattle.std.proofs.Common.{◌≤◌, ◌≡◌, ◌+◌, ℕ, List, [], ◌∷◌, ◌++◌, Result, Ok, Err, IfOk, IfErr, refl, ap}
use Rattle.jr_word.specs.declared.config.Config.{Config}
use Rattle.jr_word.specs.declared.fault.Fault.{Fault}
use Rattle.jr_word.specs.declared.fault.Fault.TheVariants.{Busy}
use Rattle.jr_model.specs.declared.event.Role.TheVariants.{Outside}
use Rattle.jr_model.specs.declared.event.Act.{Act}
use Rattle.jr_model.specs.declared.event.Act.TheVariants.{ShutBusy}
use Rattle.jr_model.specs.CollectionCalls.{announcing_acts}
use Rattle.jr_model.specs.History.{Did, PassView}
use Rattle.jr_model.specs.State.{State}
use Rattle.jr_model.proofs.Stays.{did_then}
use Rattle.jr_steps.specs.Knowing.{Facts, Standing, Took, anything, keeps, view}
use Rattle.jr_gate.proofs.SameRoom.{as_before}
use Rattle.jr_frames.specs.Table.{Table}
use Rattle.jr_frames.specs.Ready.{StandsReady}
use Rattle.jr_frames.proofs.FramesAgree.{holds_did}
use Rattle.jr_weak.specs.Collecting.{DoesAnnounced, GivesUp, WentShut, announced_steps, shut_acts}
use Rattle.jr_census.specs.Taking.{IsTold, TakesTold, TakesToldAnnounced}
use Rattle.jr_env.specs.Censuses.{WasTold, telling, telling_announced}
use Rattle.jr_env.specs.Deeds.{DoesDeed, DoesOutside}
use Rattle.jr_env.specs.Works.{EndsStay}
use Rattle.jr_env.proofs.AnnouncedCollections.{given_up_deed, ready_given_up, waiting_spares}
use Rattle.jr_env.proofs.FrameCalls.{does_from}
use Rattle.jr_env.proofs.WholeCollections.{AllSpare, kept_out, ready_after, ready_refused}

-- the acts of one leave the thread's places alone
shut_spares : AllSpare (shut_acts [])
shut_spares = (refl, (refl, tt))

announced_spares : (refused : List ℕ) → AllSpare (announcing_acts refused ++ shut_acts [])
announced_spares refused = waiting_spares refused (shut_acts []) shut_spares

-- IT WAS TOLD, with these acts before its shut
told_deed : {S A : Type 0} {facts : S → Facts} {a b : S} (t : Table) (before : List Act) (most : Config → ℕ)
    (does : PassView → PassView → Type 0) (answer : Result A Fault) → WentShut facts a b before [] most does
    → ((p q : PassView) → does p q → Did p q (before ++ shut_acts [])) → AllSpare (before ++ shut_acts [])
    → DoesDeed facts a b t.frames t.frames
    (λ old answer new. WasTold does (before ++ shut_acts []) (most old.pass.config) old new) answer
told_deed {facts = facts} {a = a} t before most does answer m did spares = record {
  stands_is = as_before (facts a).stands {f = (facts a).stands.fresh} m.stands_is;
  did = λ k s h.
      let y = m.leads k s tt in (
        y.0,
        y.1,
        holds_did k y.0 t.frames (before ++ shut_acts []) (did (view k) (view y.0) y.2) spares h,
        record {
          told = y.2;
          begun = y.3.1.0;
          window = y.3.1.1;
          frames = refl;
          taken = y.3.2;
          fresh = ap (λ (s : Standing). s.fresh) m.stands_is;
          hint = m.hint_is;
          lets_go = y.3.0;
        },
      );
}

module _ {S A : Type 0} (facts : S → Facts) (most : Config → ℕ) (tells : A → Config → ℕ → State → Type 0) where
  -- THE DEED WAS DONE, once a stay that was left has been ended, and the thread stands ready
  pub told : {o a b : S} {r t : Table} (answer : Result A Fault) → EndsStay facts o a r t
      → IfOk answer (λ x. TakesTold facts most (tells x) a b)
      → IfErr answer (λ e. (n : ℕ) × (e ≡ Busy n) × (1 ≤ n) × Took facts a b (ShutBusy n ∷ []) anything keeps)
      → StandsReady facts Outside b t × DoesOutside facts o b r.frames t.frames (telling most tells) answer
  told {t = t} (Ok x) ends ok err =
      let d = told_deed {A = A} t [] (λ c. most c + 2) (λ p q. IsTold p q (tells x)) (Ok x) ok (λ p q y. y.did)
      shut_spares in (
        ready_after ends.ready ok (λ j k y shown. (shut_acts [], y.did, shut_spares)),
        does_from ends (record { stands_is = d.stands_is; did = d.did }),
      )
  told {t = t} (Err e) ends ok err = let d = kept_out t e err.0 err.1 err.2 err.3 in (
    ready_refused err.0 ends.ready err.3,
    does_from ends (record { stands_is = d.stands_is; did = d.did }),
  )

  pub told_announced : {o a b : S} {r t : Table} (tries : ℕ) (answer : Result A Fault) → EndsStay facts o a r t
      → IfOk answer (λ x. TakesToldAnnounced facts most (tells x) tries a b)
      → IfErr answer (λ e. GivesUp facts a b tries e)
      → StandsReady facts Outside b t
      × DoesOutside facts o b r.frames t.frames (telling_announced most tells tries) answer
  told_announced {t = t} tries (Ok x) ends ok err =
      let refused = ok.refused in
      let d = told_deed {A = A} t (announcing_acts refused) (λ c. announced_steps refused (most c + 2))
      (λ p q. DoesAnnounced p q refused [] (λ r s. IsTold r s (tells x))) (Ok x) ok.done
      (λ p q y. did_then (announcing_acts refused) (shut_acts []) y.announced y.done.did)
      (announced_spares refused) in (
        ready_after ends.ready ok.done (λ j k y shown. (
          announcing_acts refused ++ shut_acts [],
          did_then (announcing_acts refused) (shut_acts []) y.announced y.done.did,
          announced_spares refused,
        )),
        does_from ends (record {
          stands_is = d.stands_is;
          did = λ k s h. let y = d.did k s h in
              (y.0, y.1, y.2, record { refused = refused; few = ok.few; done = y.3 });
        }),
      )
  told_announced {t = t} tries (Err e) ends ok err = let d = given_up_deed tries t e err in (
    ready_given_up tries e ends.ready err,
    does_from ends (record { stands_is = d.stands_is; did = d.did }),
  )
