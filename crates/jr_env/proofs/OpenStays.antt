-- A stay that goes on from call to call, for whatever was known: which no collection disturbs.
use Rattle.std.proofs.Common.{◌≡◌, ℕ, [], ◌∷◌, Result, Ok, Err, IfOk, IfErr, ⊎_elim, inl, inr, refl, sym, subst, ◌∙◌}
use Rattle.jr_word.specs.declared.config.Config.{Config}
use Rattle.jr_word.specs.declared.fault.Fault.{Fault}
use Rattle.jr_word.specs.declared.fault.Fault.TheVariants.{Barred}
use Rattle.jr_model.specs.declared.event.Act.TheVariants.{Gate}
use Rattle.jr_model.specs.declared.event.GateAct.TheVariants.{Enter, Knock, Leave, Withdraw}
use Rattle.jr_model.specs.declared.event.Role.TheVariants.{Outside, Within}
use Rattle.jr_model.specs.State.{State}
use Rattle.jr_model.specs.Frames.{Frames}
use Rattle.jr_model.specs.History.{History, Did, PassView}
use Rattle.jr_model.specs.Windows.{Ends, IsWindow, Stepped}
use Rattle.jr_model.specs.Calls.{Call, Ran, done}
use Rattle.jr_model.specs.Parts.{enter}
use Rattle.jr_model.specs.OpenStays.{HasStayed}
use Rattle.jr_model.proofs.EachCall.{Stays}
use Rattle.jr_model.proofs.OpenStays.{one_stay, one_stay_left, stays_more}
use Rattle.jr_model.proofs.Moments.{prefix_self}
use Rattle.jr_steps.specs.declared.known.Known.{Known}
use Rattle.jr_steps.specs.declared.steps.Steps.{Ghosts}
use Rattle.jr_steps.specs.Knowing.{AreOf, Facts, anything, keeps, lets_go, state_of, view, Holds, Took}
use Rattle.jr_gate.specs.declared.inside.Inside.{Inside}
use Rattle.jr_gate.specs.Acting.{ActedTo, LetsGoInTwo}
use Rattle.jr_gate.specs.Performing.{Performed}
use Rattle.jr_gate.specs.Stays.{IsOwnStay}
use Rattle.jr_gate.proofs.SameRoom.{as_before}
use Rattle.jr_gate.proofs.Spending.{made_of, spend_barred}
use Rattle.jr_frames.specs.declared.held.Held.{Held}
use Rattle.jr_frames.specs.Table.{Table}
use Rattle.jr_frames.specs.Ready.{AreOwn, StandsReady}
use Rattle.jr_frames.proofs.FramesAgree.{holds_did}
use Rattle.jr_frames.proofs.StillReady.{one_act, ready_entered}
use Rattle.jr_elements.specs.Copies.{answer_in}
use Rattle.jr_env.specs.Calling.{CanCall}
use Rattle.jr_env.specs.OpenStays.{BehindExit, EndsAsOneStay, Enters, EntersOver, StaysOn, StaysSince}
use Rattle.jr_env.specs.Works.{EndsStayOver}
use Rattle.jr_env.proofs.EndedStays.{can_call, leaves}
use Rattle.jr_env.proofs.InsideGate.{completes_barred}

-- THE ENTRY AND THE EXIT, as calls of the machine

ran_in : {p q : PassView} (f : Frames) → Stepped p q (Gate Enter) → Ran p q f f enter (Ok tt)
ran_in {q = q} f a = record {
  acts = Gate Enter ∷ [];
  did = a.did;
  is = inl (refl, refl, refl);
  begun = q.seen;
  window = record { from = a.did.begins; to = prefix_self q.seen; first = λ out. a.behind; last = λ out. absurd cc };
  grounds = tt;
}

ran_shut : {p r : PassView} {begun : History} (f : Frames) → Did p r (Gate Knock ∷ Gate Withdraw ∷ [])
    → IsWindow p r (Gate Knock ∷ Gate Withdraw ∷ []) begun → Ran p r f f enter (Err Barred)
ran_shut {begun = begun} f d w = record {
  acts = Gate Knock ∷ Gate Withdraw ∷ [];
  did = d;
  is = inr (inl (
    tt,
    f,
    Gate Knock ∷ [],
    Gate Withdraw ∷ [],
    refl,
    (refl, refl, refl),
    inl (tt, f, Gate Withdraw ∷ [], [], refl, (refl, refl, refl), (refl, refl, refl)),
  ));
  begun = begun;
  window = w;
  grounds = tt;
}

-- the entry that was made is the first of a stay
entered : {old new : PassView} {f g : Frames} → Ran old new f g enter (Ok tt) → HasStayed old new
entered {old} {new} {f} {g} r = go r.is
  where
    go : enter f r.acts (Ok tt) g → HasStayed old new
    go (inl is) = record { acts = []; did = subst (Did old new) is.0 r.did; stays = tt }
    go (inr (inl x)) = absurd (⊎_elim (λ y. let bad = y.6.1 in cc) (λ y. let bad = y.1 in cc) x.6)
    go (inr (inr x)) = absurd (let bad = x.1 in cc)

module _ {S : Type 0} {facts : S → Facts} where
  -- a thread that stands ready within can make a call
  pub can_within : {a : S} {t : Table} → StandsReady facts Within a t → CanCall (facts a).stands
  can_within r = record {
    spent = r.spent;
    not_knocking = λ e. let within = r.role_is in cc;
    not_announcing = λ e. let within = r.role_is in cc;
    not_collecting = λ e. let within = r.role_is in cc;
  }

-- what the entry ensures, where it went in and where it was refused
abbrev pub WentIn : {S : Type 0} → (S → Facts) → S → S → Result Inside Fault → Type 0
WentIn facts a b answer =
    IfOk answer (λ i. IsOwnStay i (facts b).stands × Took facts a b (Gate Enter ∷ []) anything keeps)

abbrev pub WasShut : {S : Type 0} → (S → Facts) → S → S → Result Inside Fault → Type 0
WasShut facts a b answer =
    IfErr answer (λ e. (e ≡ Barred) × ActedTo facts a b (Gate Knock ∷ Gate Withdraw ∷ []) anything LetsGoInTwo)

module _ {S : Type 0} (facts : S → Facts) (a b : S) (t : Table) where
  -- THE ENTRY

  enters : Took facts a b (Gate Enter ∷ []) anything keeps → Enters facts a b t.frames (Ok tt)
  enters took = record {
    stands_is = as_before (record ((facts a).stands) { role = Within }) took.stands_is;
    ran = one_act t.frames refl (λ n i. refl) (λ k m. m) (λ p q s. ran_in t.frames s) took;
  }

  enters_barred : ActedTo facts a b (Gate Knock ∷ Gate Withdraw ∷ []) anything LetsGoInTwo
      → Enters facts a b t.frames (Err Barred)
  enters_barred took = record {
    stands_is = as_before (record ((facts a).stands) { role = Outside }) took.stands_is;
    ran = λ k s m.
        let y = took.leads k s tt in (
          y.0,
          y.1,
          made_of (spend_barred took k s t.frames t.frames) (ran_shut t.frames y.2 y.3.2),
          (y.3.0.0, holds_did k y.0 t.frames (Gate Knock ∷ Gate Withdraw ∷ []) y.2 (refl, (refl, tt)) m),
        );
  }

  enters_so : (answer : Result Inside Fault) → WentIn facts a b answer → WasShut facts a b answer
      → Enters facts a b t.frames (answer_in (λ (i : Inside). tt) answer)
  enters_so (Ok i) went shut = enters went.1
  enters_so (Err e) went shut =
      subst (λ (x : Fault). Enters facts a b t.frames (Err x)) (sym shut.0) (enters_barred shut.1)

  module _ (r : StandsReady facts Outside a t) where
    pub shut_ready : ActedTo facts a b (Gate Knock ∷ Gate Withdraw ∷ []) anything LetsGoInTwo
        → StandsReady facts Outside b t
    shut_ready took =
        (completes_barred {A = Unit {0}} (λ c last thread s. done tt) r (Err Barred) refl (refl, took)).ready

    pub own_entered : (answer : Result Inside Fault) → WentIn facts a b answer → WasShut facts a b answer
        → AreOwn facts b t
    own_entered (Ok i) went shut = (ready_entered r went.1).own
    own_entered (Err e) went shut = (shut_ready shut.1).own

    pub can_entered : (answer : Result Inside Fault) → WentIn facts a b answer → WasShut facts a b answer
        → CanCall (facts b).stands
    can_entered (Ok i) went shut = can_within (ready_entered r went.1)
    can_entered (Err e) went shut = can_call (shut_ready shut.1)

    pub refused_entered : (answer : Result Inside Fault) → WasShut facts a b answer
        → IfErr answer (λ e. (e ≡ Barred) × ((facts b).stands.role ≡ Outside))
    refused_entered (Ok i) shut = tt
    refused_entered (Err e) shut = (shut.0, (shut_ready shut.1).role_is)

-- OVER WHAT A THREAD HOLDS

module _ {S : Type 0} {G : Ghosts S} where
  -- what was entered stands
  since_entry : (old new : Held S G) → new.frames ≡ old.frames → EntersOver old new (Ok tt) → StaysSince old new
  since_entry old new same e j s m =
      let x = e.ran j s m in
      let stay : HasStayed (view j) (view x.0) = entered x.2.ran in
      (x.0, x.1, stay, (one_stay stay, subst (λ (t : Table). Holds t.frames x.0) (sym same) x.3.1))

  -- the entry, once a stay that was left has been ended
  module _ (old mid new : Held S G) (ended : EndsStayOver old mid) (same : new.frames ≡ mid.frames) where
    pub goes_in : (answer : Result Inside Fault) → WentIn G.facts mid.steps new.steps answer
        → WasShut G.facts mid.steps new.steps answer → (G.facts old.steps).stands.role ≡ Outside
        → EntersOver old new (answer_in (λ (i : Inside). tt) answer)
    goes_in answer went shut out =
        subst (λ (a : S). Enters G.facts a new.steps old.frames.frames (answer_in (λ (i : Inside). tt) answer))
        (ended.same out)
        (subst (λ (t : Table). Enters G.facts mid.steps new.steps t.frames (answer_in (λ (i : Inside). tt) answer))
        ended.frames (enters_so G.facts mid.steps new.steps mid.frames answer went shut))

    -- and once one that was left has been ended
    pub goes_in_behind : (answer : Result Inside Fault) → WentIn G.facts mid.steps new.steps answer
        → WasShut G.facts mid.steps new.steps answer
        → BehindExit old (λ m. Enters G.facts m new.steps old.frames.frames (answer_in (λ (i : Inside). tt) answer))
    goes_in_behind answer went shut inside = (
      mid.steps,
      leaves G.facts old.steps mid.steps old.frames.frames (ended.left inside),
      subst (λ (t : Table). Enters G.facts mid.steps new.steps t.frames (answer_in (λ (i : Inside). tt) answer))
          ended.frames (enters_so G.facts mid.steps new.steps mid.frames answer went shut),
    )

    pub stays_since : (answer : Result Inside Fault) → WentIn G.facts mid.steps new.steps answer
        → WasShut G.facts mid.steps new.steps answer
        → IfOk answer (λ i. (G.facts old.steps).stands.role ≡ Outside → StaysSince old new)
    stays_since (Ok i) went shut = λ out. since_entry old new (same ∙ ended.frames) (goes_in (Ok i) went shut out)
    stays_since (Err e) went shut = tt

  pub ends_as_one : (old new : Held S G) → new.frames ≡ old.frames
      → Took G.facts old.steps new.steps (Gate Leave ∷ []) anything lets_go → EndsAsOneStay old new
  ends_as_one old new same took begun since i s m =
      let x = since i s m in
      let y = (leaves G.facts old.steps new.steps old.frames.frames took).ran x.0 x.1 x.3.1 in
      let r = y.2.ran in (
        y.0,
        y.1,
        one_stay_left x.2 (subst (Did (view x.0) (view y.0)) r.is.0 r.did)
            (subst (Ends (view x.0) (view y.0)) r.is.0 r.window.last refl),
        subst (λ (t : Table). Holds t.frames y.0) (sym same) y.3.1,
      )

  module _ (fits : AreOf G.facts) (old new : Held S G) where
    -- a work in a stay, with which it goes on
    pub performs_on : {A : Type 0} (silent : ℕ) (so : Known → Known → Type 0) (asked : Config → ℕ → ℕ → State → Call A)
        {answer : Result A Fault} → ((c : Config) (last t : ℕ) (s : State) → Stays (asked c last t s))
        → Performed G.facts old.steps new.steps old.frames.frames new.frames.frames silent (Holds old.frames.frames)
        (asked (G.facts old.steps).stands.config (G.facts old.steps).stands.last (G.facts old.steps).stands.thread)
        answer (λ j k. so j k × Holds new.frames.frames k)
        → StaysOn old new
    performs_on silent so asked {answer} law p begun since i s m =
        let x = since i s m in
        let y = p.ran x.0 x.1 x.3.1 in
        let r = y.2.ran in
        let at = (G.facts old.steps).stands in
        let none =
        law at.config at.last at.thread (state_of y.0) old.frames.frames new.frames.frames r.acts answer r.is in
        let stay = stays_more x.2 r.acts r.did none in
        (y.0, y.1, stay, (one_stay stay, y.3.1))
