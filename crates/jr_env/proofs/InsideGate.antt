-- A call between an entry and its exit.
use Rattle.std.proofs.Common.{◌≡◌, ℕ, [], ◌∷◌, Result, subst}
use Rattle.std.specs.Result.{IsErrAnd}
use Rattle.jr_word.specs.declared.config.Config.{Config}
use Rattle.jr_word.specs.declared.fault.Fault.{Fault}
use Rattle.jr_word.specs.declared.fault.Fault.TheVariants.{Barred}
use Rattle.jr_model.specs.declared.event.Role.TheVariants.{Outside}
use Rattle.jr_model.specs.declared.event.Act.TheVariants.{Gate}
use Rattle.jr_model.specs.declared.event.GateAct.TheVariants.{Enter, Knock, Leave, Withdraw}
use Rattle.jr_model.specs.State.{State}
use Rattle.jr_model.specs.Frames.{Frames}
use Rattle.jr_model.specs.Calls.{Call, entered}
use Rattle.jr_model.specs.Checks.{Word}
use Rattle.jr_model.specs.Programs.{AnswerKind, AnswerOf, Program, Which, none_known, work_of}
use Rattle.jr_steps.specs.declared.known.Known.{Known}
use Rattle.jr_steps.specs.Knowing.{AreOf, Facts, Standing, anything, keeps, lets_go, Holds, Took}
use Rattle.jr_gate.specs.Acting.{ActedTo, LetsGoInTwo}
use Rattle.jr_frames.specs.Table.{Table}
use Rattle.jr_gate.specs.Performing.{Performed}
use Rattle.jr_frames.specs.Ready.{StandsReady, KeepsOwner}
use Rattle.jr_frames.proofs.StillReady.{same_owner, ready_after}
use Rattle.jr_frames.proofs.Steady.{steady_program}
use Rattle.jr_env.specs.Works.{Completes, EndsStay}
use Rattle.jr_frames.specs.OverSteps.{CallsWhole}
use Rattle.jr_frames.proofs.WholeCalls.{calls_barred, calls_entered}
use Rattle.jr_gate.proofs.Spending.{made_of, spending, spend_more}
use Rattle.jr_gate.proofs.HandedOn.{handed_on}

module _ {S : Type 0} {facts : S → Facts} where
  -- a call that takes nothing beside its acts takes no more than this
  whole_more : {A : Type 0} {a b : S} {f g : Frames} {call : State → Call A} {answer : Result A Fault} (silent : ℕ)
      → CallsWhole facts a b f g 0 call answer → CallsWhole facts a b f g silent call answer
  whole_more silent p = record {
    stands_is = p.stands_is;
    ran = λ k s m. let x = p.ran k s m in (x.0, x.1, made_of (spend_more silent (spending x.2)) x.2.ran, x.3);
  }

  pub completes_more : {A : Type 0} {a b : S} {t u : Table} {call : State → Call A} {answer : Result A Fault}
      (silent : ℕ) → Completes facts a b t u 0 call answer → Completes facts a b t u silent call answer
  completes_more silent p = record {
    call = λ out. whole_more silent (p.call out);
    left = λ no. let x = p.left no in (x.0, x.1, whole_more silent x.2);
    ready = p.ready;
  }

  -- a program between an entry and its exit
  pub completes : {n : ℕ} {r : AnswerKind} (words : Which → Word) (p : Program n r) {a b c d : S} {t u : Table}
      (fits : AreOf facts) (silent : Config → ℕ) {so : Known → Known → Type 0} {answer : Result (AnswerOf r) Fault}
      → StandsReady facts Outside a t → Took facts a b (Gate Enter ∷ []) anything keeps
      → Performed facts b c t.frames u.frames (silent (facts b).stands.config) (Holds t.frames) (λ s. work_of
      (facts b).stands.config (facts b).stands.last (facts b).stands.thread s words p) answer (λ j k. so j k
      × Holds u.frames k)
      → KeepsOwner t u → Took facts c d (Gate Leave ∷ []) anything lets_go
      → Completes facts a d t u (silent (facts a).stands.config)
      (λ s. entered (work_of (facts a).stands.config (facts a).stands.last (facts a).stands.thread s words p)) answer
  completes words p {b = b} fits silent {so = so} r e q o l =
      let at = (facts b).stands in
      let whole = calls_entered (λ c last t s. work_of c last t s words p) fits silent {so = so} r.role_is e q
      (steady_program at.config at.last at.thread words p none_known 0) l in
      record { call = λ out. whole; left = λ no. absurd (no r.role_is); ready = ready_after {so = lets_go} r o whole }

  module _ {A : Type 0} (work : Config → ℕ → ℕ → State → Call A) where
    -- an entry that found the gate shut
    pub completes_barred : {a b : S} {t : Table} {e : Fault} → StandsReady facts Outside a t → (answer : Result A Fault)
        → IsErrAnd answer (λ y. y ≡ e)
        → (e ≡ Barred) × ActedTo facts a b (Gate Knock ∷ Gate Withdraw ∷ []) anything LetsGoInTwo
        → Completes facts a b t t 0
        (λ s. entered (work (facts a).stands.config (facts a).stands.last (facts a).stands.thread s)) answer
    completes_barred {t} r answer given why =
        let p = handed_on answer (subst (λ y. IsErrAnd answer (λ z. z ≡ y)) why.0 given)
        (calls_barred work t.frames r.role_is why.1) in
        record {
          call = λ out. p;
          left = λ no. absurd (no r.role_is);
          ready = ready_after {so = lets_go} r (same_owner t) p;
        }

    -- the same, once a stay that was left has been ended
    pub completes_from : {o a b : S} {r t u : Table} (silent : Config → ℕ) {answer : Result A Fault}
        → EndsStay facts o a r t → Completes facts a b t u (silent (facts a).stands.config)
        (λ s. entered (work (facts a).stands.config (facts a).stands.last (facts a).stands.thread s)) answer
        → Completes facts o b r u (silent (facts o).stands.config)
        (λ s. entered (work (facts o).stands.config (facts o).stands.last (facts o).stands.thread s)) answer
    completes_from {o} {a} {b} {r} {t} {u} silent {answer} e p = record {
      call = λ out.
          subst (λ (m : S). CallsWhole facts m b r.frames u.frames (silent (facts m).stands.config) (λ s.
          entered (work (facts m).stands.config (facts m).stands.last (facts m).stands.thread s)) answer) (e.same out)
          (subst (λ (x : Table). CallsWhole facts a b x.frames u.frames (silent (facts a).stands.config)
          (λ s. entered (work (facts a).stands.config (facts a).stands.last (facts a).stands.thread s)) answer) e.frames
          (p.call e.ready.role_is));
      left = λ no. (
        a,
        e.left no,
        subst (λ (s : Standing). CallsWhole facts a b r.frames u.frames (silent s.config)
            (λ z. entered (work s.config s.last s.thread z)) answer) (e.left no).stands_is
            (subst (λ (x : Table). CallsWhole facts a b x.frames u.frames (silent (facts a).stands.config) (λ s.
            entered (work (facts a).stands.config (facts a).stands.last (facts a).stands.thread s)) answer) e.frames
            (p.call e.ready.role_is)),
      );
      ready = p.ready;
    }
