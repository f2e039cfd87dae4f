-- A thread and its frames go on standing ready.
use Rattle.std.proofs.Common.{◌≡◌, ℕ, Option, Bool, Ok, true, false, List, [], ◌∷◌, Result, length}
use Rattle.std.proofs.Common.{refl, sym, ap, subst, ◌∙◌}
use Rattle.std.proofs.Math.Logic.{∥∥₁_elim}
use Rattle.std.proofs.Props.{props}
use Rattle.std.proofs.lemmas.List.{length-replicate}
use mathlib.Core.Logic.{∥∥₁_map}
use Rattle.jr_word.specs.declared.config.Config.{Config}
use Rattle.jr_word.specs.declared.fault.Fault.{Fault}
use Rattle.jr_model.specs.declared.event.Role.{Role}
use Rattle.jr_model.specs.declared.event.Role.TheVariants.{Outside, Within}
use Rattle.jr_model.specs.declared.event.Act.{Act}
use Rattle.jr_model.specs.declared.event.Act.TheVariants.{Gate, LocalPut, LocalDrop}
use Rattle.jr_model.specs.declared.event.GateAct.TheVariants.{Enter, Leave}
use Rattle.jr_model.specs.State.{State}
use Rattle.jr_model.specs.Frames.{Frames, fresh_frames}
use Rattle.jr_model.specs.History.{PassView, role_after}
use Rattle.jr_model.specs.Windows.{Stepped}
use Rattle.jr_model.specs.Calls.{Call, Ran}
use Rattle.jr_model.specs.Parts.{leave}
use Rattle.jr_model.proofs.Runs.{ran_act}
use Rattle.jr_model.proofs.Windows.{stepped_last}
use Rattle.jr_model.proofs.Agreement.{fresh_agree, spares_places}
use Rattle.jr_steps.specs.declared.known.Known.{Known}
use Rattle.jr_steps.specs.Knowing.{Facts, Leads, Standing, view, fresh_after, fresh_from, anything, keeps, lets_go}
use Rattle.jr_steps.specs.Knowing.{AreOf, Holds, MayKnow, Took, Spent}
use Rattle.jr_steps.proofs.StepFacts.{goes_did, goes_stepped}
use Rattle.jr_gate.specs.Performing.{Performed, IsAsBefore, IsMade, thread_state}
use Rattle.jr_gate.proofs.Spending.{KeepsHint, made_of, spend_step}
use Rattle.jr_frames.specs.Table.{Table}
use Rattle.jr_frames.specs.OverSteps.{Resolves, Calls}
use Rattle.jr_frames.specs.Ready.{AreOwn, StandsReady, KeepsOwner}
use Rattle.jr_frames.proofs.FramesAgree.{holds_did}

-- frames that are left as they are
pub same_owner : (t : Table) → KeepsOwner t t
same_owner t = record { thread = refl; last = refl; places = refl }

abbrev fresh_table : Standing → Table
fresh_table s = record { frames = fresh_frames s.config.locals; thread = s.thread; last = s.last }

-- no act makes a pass fresh again
never_fresh : (acts : List Act) → fresh_from false acts ≡ false
never_fresh [] = refl
never_fresh (LocalPut p o ∷ acts) = never_fresh acts
never_fresh (LocalDrop p ∷ acts) = never_fresh acts
never_fresh (_ ∷ acts) = never_fresh acts

module _ {S : Type 0} {facts : S → Facts} where
  -- frames of a thread that stands as before, of the same owner, which go on agreeing, are its own still
  own_after : {a b : S} {t u : Table} → AreOwn facts a t → KeepsOwner t u → IsAsBefore (facts a).stands (facts b).stands
      → MayKnow facts b (Holds u.frames) → AreOwn facts b u
  own_after r o same agrees = record {
    owner = o.thread ∙ (r.owner ∙ sym same.thread);
    last = o.last ∙ (r.last ∙ sym same.last);
    places = o.places ∙ (r.places ∙ sym (ap (λ (c : Config). c.locals) same.config));
    agrees = agrees;
  }

  -- after a reference was resolved the frames are the thread's own still
  pub own_resolved : {a b : S} {t : Table} {work : Call (Option ℕ)} {answer : Result (Option ℕ) Fault}
      → AreOwn facts a t → Resolves facts a b t.frames work answer → AreOwn facts b t
  own_resolved {t = t} r p =
      own_after r (same_owner t) p.stands_is (∥∥₁_map r.agrees (λ k. let x = p.ran k.0 k.1 k.2 in (x.0, x.1, x.3.1)))

  -- after a call the frames are as ready as before
  pub ready_after : {A : Type 0} {a b : S} {t u : Table} {role : Role} {silent : ℕ} {so : Known → Known → Type 0}
      {work : State → Call A} {answer : Result A Fault} → StandsReady facts role a t → KeepsOwner t u
      → Performed facts a b t.frames u.frames silent (Holds t.frames) work answer (λ j k. so j k × Holds u.frames k)
      → StandsReady facts role b u
  ready_after r o p = record {
    role_is = p.stands_is.role ∙ r.role_is;
    spent = ∥∥₁_elim r.own.agrees (hlevel props) (λ k. let x = p.ran k.0 k.1 k.2 in
        x.2.spent.fresh ∙ (ap (λ b. fresh_from b x.2.ran.acts) r.spent ∙ never_fresh x.2.ran.acts));
    own = own_after r.own o p.stands_is (∥∥₁_map r.own.agrees (λ k. let x = p.ran k.0 k.1 k.2 in (x.0, x.1, x.3.1)));
  }

  pub ready_called : {A : Type 0} {a b : S} {t u : Table} {role : Role} {work : Call A} {answer : Result A Fault}
      → StandsReady facts role a t → KeepsOwner t u → Calls facts a b t.frames u.frames work answer
      → StandsReady facts role b u
  ready_called r o p = ready_after {so = keeps} r o p

  -- a thread whose pass was fresh, and is spent
  pub ready_new : {a b : S} (t : Table) → AreOf facts → Spent facts a b → t ≡ fresh_table (facts b).stands
      → (facts a).stands.role ≡ Outside → (facts a).stands.fresh ≡ true → MayKnow facts a anything
      → StandsReady facts Outside b t
  ready_new {a} {b} t fits spent is out fresh some = record {
    role_is = ap (λ (s : Standing). s.role) spent.stands_is ∙ out;
    spent = ap (λ (s : Standing). s.fresh) spent.stands_is;
    own = record {
      owner = ap (λ (u : Table). u.thread) is;
      last = ap (λ (u : Table). u.last) is;
      places = ap (λ (u : Table). length u.frames.given) is ∙ length-replicate (facts b).stands.config.locals 0;
      agrees = ∥∥₁_map some (λ k. (
        k.0,
        ((spent.same k.0).0 k.1).0,
        subst (λ (u : Table). Holds u.frames k.0) (sym is)
            (fresh_agree (facts b).stands.config.locals k.0.thread k.0.seen ((fits a k.0 k.1).unused fresh)),
      ));
    };
  }

  -- after a step that stores no local word the frames are the thread's own still
  pub own_stepped : {a b : S} {t : Table} {shows : Known → Known → Type 0} (act : Act) → spares_places act ≡ true
      → AreOwn facts a t → Took facts a b (act ∷ []) anything shows → AreOwn facts b t
  own_stepped {t = t} act spares r e = record {
    owner = r.owner ∙ sym (ap (λ (s : Standing). s.thread) e.stands_is);
    last = r.last ∙ sym (ap (λ (s : Standing). s.last) e.stands_is);
    places = r.places ∙ sym (ap (λ (s : Standing). s.config.locals) e.stands_is);
    agrees = ∥∥₁_map r.agrees (λ k. let x = e.goes k.0 k.1 tt in
        (x.0, x.1, holds_did k.0 x.0 t.frames (act ∷ []) (goes_did x.2) (spares, tt) k.2));
  }

  -- a step that stores no local word, and leaves the pass as fresh as it was, leaves the thread ready in its new role
  pub ready_stepped : {a b : S} {t : Table} {role : Role} {shows : Known → Known → Type 0} (act : Act)
      → spares_places act ≡ true → ((f : Bool) → fresh_after f act ≡ f) → StandsReady facts role a t
      → Took facts a b (act ∷ []) anything shows → StandsReady facts (role_after role act) b t
  ready_stepped {a} act spares as_fresh r e = record {
    role_is = ap (λ (s : Standing). s.role) e.stands_is ∙ ap (λ x. role_after x act) r.role_is;
    spent = ap (λ (s : Standing). s.fresh) e.stands_is ∙ (as_fresh (facts a).stands.fresh ∙ r.spent);
    own = own_stepped act spares r.own e;
  }

  pub ready_entered : {a b : S} {t : Table} → StandsReady facts Outside a t
      → Took facts a b (Gate Enter ∷ []) anything keeps → StandsReady facts Within b t
  ready_entered = ready_stepped (Gate Enter) refl (λ f. refl)

  pub ready_left : {a b : S} {t : Table} {role : Role} → StandsReady facts role a t
      → Took facts a b (Gate Leave ∷ []) anything lets_go → StandsReady facts Outside b t
  ready_left = ready_stepped (Gate Leave) refl (λ f. refl)

  -- A CALL OF ONE ACT that stores no local word and makes no reference, over frames that stay as they are
  pub one_act : {A : Type 0} {a b : S} {act : Act} {call : Call A} {answer : Result A Fault} {met : Known → Type 0}
      {shows : Known → Known → Type 0} (f : Frames) → spares_places act ≡ true → KeepsHint act
      → ((k : Known) → met k → Holds f k) → ((p q : PassView) → Stepped p q act → Ran p q f f call answer)
      → Took facts a b (act ∷ []) anything shows
      → Leads facts a b met (λ k k'. IsMade 0 (thread_state (facts a) k f) (thread_state (facts b) k' f) call answer)
      (λ j k. shows j k × Holds f k)
  one_act {act = act} f spares keeps_hint holds ran took k s m =
      let y = took.goes k s tt in (
        y.0,
        y.1,
        made_of (spend_step took keeps_hint k s tt f f) (ran (view k) (view y.0) (goes_stepped y.2)),
        (y.3, holds_did k y.0 f (act ∷ []) (goes_did y.2) (spares, tt) (holds k m)),
      )

  -- the exit
  pub exit_made : {a b : S} {met : Known → Type 0} (f : Frames) → ((k : Known) → met k → Holds f k)
      → Took facts a b (Gate Leave ∷ []) anything lets_go
      → Leads facts a b met (λ k k'. IsMade 0 (thread_state (facts a) k f) (thread_state (facts b) k' f) leave (Ok tt))
      (λ j k. lets_go j k × Holds f k)
  exit_made f holds =
      one_act f refl (λ n i. refl) holds
      (λ p q s. ran_act f (Gate Leave) (λ out. absurd cc) (λ out. stepped_last s) s.did)
