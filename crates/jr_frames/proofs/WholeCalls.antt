-- A whole call: work between an entry and an exit, or an entry that found the gate shut;
-- and what stays when a thread leaves the gate.
use Rattle.std.proofs.Common.{◌≡◌, ℕ, [], ◌∷◌, Result, Err, refl, sym, ap, subst, ◌∙◌, ◌++◌}
use Rattle.jr_word.specs.declared.config.Config.{Config}
use Rattle.jr_word.specs.declared.fault.Fault.{Fault}
use Rattle.jr_word.specs.declared.fault.Fault.TheVariants.{Barred}
use Rattle.jr_model.specs.declared.event.Role.{Role}
use Rattle.jr_model.specs.declared.event.Role.TheVariants.{Outside, Within}
use Rattle.jr_model.specs.declared.event.Act.TheVariants.{Gate}
use Rattle.jr_model.specs.declared.event.GateAct.TheVariants.{Enter, Knock, Leave, Withdraw}
use Rattle.jr_model.specs.Frames.{Frames}
use Rattle.jr_model.specs.State.{State}
use Rattle.jr_model.specs.Calls.{Call, entered, Ran}
use Rattle.jr_model.proofs.Runs.{ran_barred, ran_entered}
use Rattle.jr_steps.specs.declared.known.Known.{Known}
use Rattle.jr_steps.specs.Knowing.{AreOf, Facts, Standing, state_of, anything, keeps}
use Rattle.jr_steps.specs.Knowing.{lets_go, Holds, Took, standing_after, view, IsOf, Goes}
use Rattle.jr_steps.proofs.StepFacts.{goes_did, goes_stepped}
use Rattle.jr_gate.specs.Acting.{ActedTo, LetsGoInTwo}
use Rattle.jr_gate.specs.Performing.{Performed, IsAsBefore}
use Rattle.jr_gate.proofs.SameRoom.{as_before}
use Rattle.jr_gate.proofs.Spending.{made_of, spending, spend_first, spend_last, spend_step, spend_barred}
use Rattle.jr_frames.specs.OverSteps.{CallsWhole}
use Rattle.jr_frames.proofs.Steady.{IsSteady, KeepsObjects}
use Rattle.jr_frames.proofs.FramesAgree.{holds_did}
use Rattle.std.proofs.lemmas.List.{append-nil}
use Rattle.jr_model.specs.History.{History, PassView, by, state, IsLegal}
use Rattle.jr_model.proofs.Histories.{state_push, legal_append}
use Rattle.jr_model.proofs.Stays.{did_added, still_did}

-- up to its exit nobody drops what is present, and the exit itself changes no object
kept_by_leave : (k k' : Known) {s : Standing} → IsOf s k → s.role ≡ Within → Goes k (Gate Leave ∷ []) k'
    → KeepsObjects (state_of k) (state_of k')
kept_by_leave k k' is within g =
    let middle : History = k.seen ++ g.between in
    let legal = (legal_append k.config k.last middle (by k.thread (Gate Leave) ∷ [])).0
    (subst (IsLegal k.config k.last) g.seen g.legal) in
    let did = did_added {old = view k} {new = record (view k) { seen = middle }} g.between [] refl refl refl
    (sym (append-nil middle)) g.others legal.0 in
    let still = still_did [] did (is.role ∙ within) tt in
    let left = ap (λ (t : State). t.objects) (state_push middle (by k.thread (Gate Leave))) in
    λ o x e. let y = still.objects o x e in
    (y.0, ap (λ objects. objects o) (ap (λ es. (state es).objects) g.seen ∙ left) ∙ y.1, y.2, y.3)

-- an entry, work in between, and an exit
pub left_before : {r s t u : Standing} → r.role ≡ Outside → s ≡ standing_after r (Gate Enter ∷ []) → IsAsBefore s t
    → u ≡ standing_after t (Gate Leave ∷ []) → IsAsBefore r u
left_before {r} out e p l = record {
  room = ap (λ (x : Standing). x.room) l ∙ (p.room ∙ ap (λ (x : Standing). x.room) e);
  config = ap (λ (x : Standing). x.config) l ∙ (p.config ∙ ap (λ (x : Standing). x.config) e);
  last = ap (λ (x : Standing). x.last) l ∙ (p.last ∙ ap (λ (x : Standing). x.last) e);
  thread = ap (λ (x : Standing). x.thread) l ∙ (p.thread ∙ ap (λ (x : Standing). x.thread) e);
  role = ap (λ (x : Standing). x.role) l ∙ sym out;
}

-- a steady call, for a later state
ran_later : {A : Type 0} {p q : PassView} {f g : Frames} {call : State → Call A} {answer : Result A Fault}
    {s s' : State} → IsSteady call → KeepsObjects s s' → Ran p q f g (call s) answer → Ran p q f g (call s') answer
ran_later {f = f} {g = g} {answer = answer} {s = s} {s' = s'} steady keeps r = record {
  acts = r.acts;
  did = r.did;
  is = steady s s' keeps f g r.acts answer r.is;
  begun = r.begun;
  window = r.window;
  grounds = r.grounds;
}

abbrev with_role : Standing → Role → Standing
with_role s r = record s { role = r }

module _ {S : Type 0} {facts : S → Facts} where
  module _ {A : Type 0} (work : Config → ℕ → ℕ → State → Call A) where
    pub calls_barred : {a b : S} (f : Frames) → (facts a).stands.role ≡ Outside
        → ActedTo facts a b (Gate Knock ∷ Gate Withdraw ∷ []) anything LetsGoInTwo → CallsWhole facts a b f f 0 (λ s.
        entered (work (facts a).stands.config (facts a).stands.last (facts a).stands.thread s)) (Err Barred)
    calls_barred {a} f out t = record {
      stands_is = as_before _ (t.stands_is ∙ ap (with_role (facts a).stands) (sym out));
      ran = λ k s m. let g = t.leads k s tt in (
        g.0,
        g.1,
        made_of (spend_barred t k s f f) (ran_barred f
            (work (facts a).stands.config (facts a).stands.last (facts a).stands.thread (state_of g.0)) g.2 g.3.2),
        (g.3.0.0, holds_did k g.0 f (Gate Knock ∷ Gate Withdraw ∷ []) g.2 (refl, (refl, tt)) m),
      );
    }

    pub calls_entered : {a b c d : S} {f g : Frames} (fits : AreOf facts) (silent : Config → ℕ)
        {so : Known → Known → Type 0} {answer : Result A Fault} → (facts a).stands.role ≡ Outside
        → Took facts a b (Gate Enter ∷ []) anything keeps
        → Performed facts b c f g (silent (facts b).stands.config) (Holds f)
        (work (facts b).stands.config (facts b).stands.last (facts b).stands.thread) answer (λ j k. so j k × Holds g k)
        → IsSteady (work (facts b).stands.config (facts b).stands.last (facts b).stands.thread)
        → Took facts c d (Gate Leave ∷ []) anything lets_go
        → CallsWhole facts a d f g (silent (facts a).stands.config)
        (λ s. entered (work (facts a).stands.config (facts a).stands.last (facts a).stands.thread s)) answer
    calls_entered {a} {b} {c} {f} {g} fits silent {so} {answer} out e p steady u =
        let q = subst (λ (s : Standing). Performed facts b c f g (silent s.config) (Holds f)
        (work s.config s.last s.thread) answer (λ j k. so j k × Holds g k)) e.stands_is p in
        let same = subst (λ (s : Standing). IsSteady (work s.config s.last s.thread)) e.stands_is steady in
        let within = p.stands_is.role ∙ ap (λ (s : Standing). s.role) e.stands_is in
        record {
          stands_is = left_before out e.stands_is p.stands_is u.stands_is;
          ran = λ k s m.
              let x = e.goes k s tt in
              let y = q.ran x.0 x.1 (holds_did k x.0 f (Gate Enter ∷ []) (goes_did x.2) (refl, tt) m) in
              let z = u.goes y.0 y.1 tt in
              let h = holds_did k x.0 f (Gate Enter ∷ []) (goes_did x.2) (refl, tt) m in
              let run = ran_later {call = work (facts a).stands.config (facts a).stands.last (facts a).stands.thread}
              same (kept_by_leave y.0 z.0 (fits c y.0 y.1) within z.2) y.2.ran in
              let count = spend_first (spend_last (spend_step e (λ n i. refl) k s tt f f) (spending y.2))
              (spend_step u (λ n i. refl) y.0 y.1 tt g g) in (
                z.0,
                z.1,
                made_of count (ran_entered (goes_stepped x.2) run (goes_stepped z.2)),
                (z.3, holds_did y.0 z.0 g (Gate Leave ∷ []) (goes_did z.2) (refl, tt) y.3.1),
              );
        }
