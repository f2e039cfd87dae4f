-- What a call of a thread that is alone leads to, whatever call it is.
use Rattle.std.proofs.Common.{◌≡◌, ℕ, true, false, Option, None, List, [], ◌∷◌, ◌++◌, Result, Ok, Err, IfErr}
use Rattle.std.proofs.Common.{refl, sym, subst, ◌∙◌, ap, append_assoc}
use Rattle.std.specs.List.{AllByRecursion}
use mathlib.Core.List.{IsPrefix}
use Rattle.jr_word.specs.declared.config.Config.{Config}
use Rattle.jr_word.specs.declared.fault.Fault.{Fault}
use Rattle.jr_word.specs.declared.fault.Fault.TheVariants.{RowFull, ObjectsFull, Raced, Barred, Busy, Moved}
use Rattle.jr_model.specs.declared.event.Event.{Event}
use Rattle.jr_model.specs.declared.event.Act.{Act}
use Rattle.jr_model.specs.declared.event.Act.TheVariants.{Gate, ReserveLost, ShutBusy}
use Rattle.jr_model.specs.declared.event.GateAct.TheVariants.{Knock}
use Rattle.jr_model.specs.State.{State, EachPresent, IsOccupied}
use Rattle.jr_model.specs.Steps.{after}
use Rattle.jr_model.specs.History.{History, by, state, Did, PassView}
use Rattle.jr_model.specs.Frames.{Frames}
use Rattle.jr_model.specs.Calls.{Call, Ran}
use Rattle.jr_model.specs.Refusals.{Sometime, LostSpace, RowWasFull}
use Rattle.jr_model.specs.RefusedCalls.{is_harmless, may_precede}
use Rattle.jr_model.proofs.Exactly.{append_all}
use Rattle.jr_model.proofs.Lawful.{IsLawful}
use Rattle.jr_model.proofs.Moments.{prefix_trans}
use Rattle.jr_model.proofs.RefusedCalls.{harmless_changes_nothing}
use Rattle.jr_model.proofs.ShownRefusals.{LoseOnly, LosesOnly, Purpose, lost_at}
use Rattle.jr_model.proofs.Stays.{append_cancel, mine_did}
use Rattle.jr_model.proofs.TrueRefusals.{truly}
use Rattle.jr_gate.specs.Performing.{HasLearned, ThreadState}
use Rattle.jr_env.specs.Deeds.{Deed, within_by}
use Rattle.jr_scripts.specs.AloneAnswers.{IsAloneFault, IsRowFull}
use Rattle.jr_scripts.proofs.Alone.{IsUndisturbed, undisturbed}
use Rattle.jr_scripts.proofs.AloneHistories.{all_back, all_front, all_map, own_events, still_so, stays_occupied}
use Rattle.jr_scripts.proofs.AloneHistories.{stays_present}

-- the room has one thread, and the pass is that thread's
pub record IsAlone (p : PassView) : Type 0 where
  pub one : p.config.threads ≡ 1
  pub first : p.thread ≡ 0

-- no event is a reservation that was lost
abbrev pub NoneLost : History → Type 0
NoneLost es = AllByRecursion (λ e. LosesOnly None e.act) es

-- from one moment of a lone pass to another:
-- what was seen begins what is seen, no reservation was lost in between, and a refusal is a lone thread's
pub record LedAlone {A : Type 0} (old new : PassView) (answer : Result A Fault) : Type 0 where
  pub config : new.config ≡ old.config
  pub thread : new.thread ≡ old.thread
  pub begins : IsPrefix old.seen new.seen
  pub none_lost : NoneLost old.seen → NoneLost new.seen
  pub fault : IfErr answer (IsAloneFault new)

-- what the deed leads to, of a thread that is alone
pub record LeadsAlone {A : Type 0} (deed : Deed A) : Type 0 where
  pub led : (old new : ThreadState) (answer : Result A Fault) → IsAlone new.pass → deed old answer new
      → LedAlone old.pass new.pass answer

-- WHAT IT DID

module _ (old new : PassView) (acts : List Act) (d : Did old new acts) (alone : IsAlone new) where
  pub all_undisturbed : AllByRecursion IsUndisturbed new.seen
  all_undisturbed =
      undisturbed old.config old.last (ap (λ (c : Config). c.threads) (sym d.config) ∙ alone.one) new.seen d.legal

  -- all that it has seen is its own
  own_seen : AllByRecursion (λ e. e.thread ≡ new.thread) new.seen
  own_seen = all_map (λ e u. u.own ∙ sym alone.first) new.seen all_undisturbed

  -- its acts are those of the events since
  pub since : (P : Act → Type 0) → AllByRecursion P acts → AllByRecursion (λ e. P e.act) d.begins.0
  since P all =
      let own = all_back (λ e. e.thread ≡ new.thread) old.seen d.begins.0
      (subst (AllByRecursion (λ e. e.thread ≡ new.thread)) (sym d.begins.1) own_seen) in
      own_events P old.thread d.begins.0 (subst (λ t. AllByRecursion (λ e. e.thread ≡ t) d.begins.0) d.thread own)
      (subst (AllByRecursion P) (sym (mine_did acts d)) all)

  pub led_by : {A : Type 0} (answer : Result A Fault) → LoseOnly None acts → IfErr answer (IsAloneFault new)
      → LedAlone old new answer
  led_by answer none fault = record {
    config = d.config;
    thread = d.thread;
    begins = d.begins;
    none_lost = λ before. subst NoneLost d.begins.1
        (append_all (λ e. LosesOnly None e.act) old.seen d.begins.0 before (since (LosesOnly None) none));
    fault = fault;
  }

-- a lone thread learns of nothing that others did
pub learned_alone : {A : Type 0} (old new : ThreadState) (x : A) → IsAlone new.pass → HasLearned old new
    → LedAlone old.pass new.pass (Ok x)
learned_alone old new x alone l = led_by old.pass new.pass [] l.did alone (Ok x) tt tt

-- WHAT IT IS REFUSED FOR

used_stays : (s : State) (e : Event) → is_harmless e.act ≡ true → (after s e).used ≡ s.used
used_stays s e h = (harmless_changes_nothing s e.thread e.act h).used

-- where nothing else happened between look and exchange, no reservation is lost
never_lost : (old begun : History) (new : PassView) (looked found : ℕ) (begins : IsPrefix old new.seen)
    → AllByRecursion (λ e. is_harmless e.act ≡ true) begins.0 → IsPrefix old begun
    → ((n : ℕ) × LostSpace n begun new looked found) → ⊥
never_lost old begun new looked found begins all from w =
    let l = w.1.lost in
    let e : Event = by new.thread (ReserveLost w.0 looked found) in
    let front : IsPrefix old l.before = prefix_trans old begun l.before from l.from in
    let cut : old ++ (front.0 ++ e ∷ l.since) ≡ old ++ begins.0 = sym (append_assoc old front.0 (e ∷ l.since))
    ∙ (ap (λ es. es ++ e ∷ l.since) front.1 ∙ (sym l.taken ∙ sym begins.1)) in
    let same : begins.0 ≡ front.0 ++ e ∷ l.since = sym (append_cancel old (front.0 ++ e ∷ l.since) begins.0 cut) in
    let before = all_front (λ (x : Event). is_harmless x.act ≡ true) front.0 (e ∷ l.since)
    (subst (AllByRecursion (λ (x : Event). is_harmless x.act ≡ true)) same all) in
    let used = still_so (λ x. is_harmless x.act ≡ true) (λ s. s.used ≡ looked) (λ s x h is. used_stays s x h ∙ is) old
    begun l.before front before from w.1.looked_at in
    l.needs.1.2 (l.needs.1.1 ∙ used)

there : (P : Event → Type 0) (front rest es : History) (e : Event) → es ≡ front ++ e ∷ rest → AllByRecursion P es
    → P e
there P front rest es e is all = (all_back P front (e ∷ rest) (subst (AllByRecursion P) is all)).0

-- a lone thread's refusal that is not that a reservation was lost
lost_no : (asked : Purpose) (p : PassView) (e : Fault) → IsAloneFault p e → ◌≡◌ {A = Option ℕ} (lost_at asked e) None
lost_no asked p (Raced looked found) fault = absurd fault
lost_no asked p _ fault = refl

-- THE LAW, of whatever call is by the laws and announces nothing
module _ {A : Type 0} {asked : Purpose} {last thread : ℕ} {call : Call A} (lawful : IsLawful asked last thread call)
    (old new : PassView) (f g : Frames) (alone : IsAlone new) where
  module _ (e : Fault) (r : Ran old new f g call (Err e)) where
    refused_since : AllByRecursion (λ x. may_precede e x.act ≡ true) r.did.begins.0
    refused_since = since old new r.acts r.did alone (λ a. may_precede e a ≡ true)
        (lawful.fails f g r.acts e r.is).before

    event_is : (front rest : History) (x : Event) → new.seen ≡ front ++ x ∷ rest → IsUndisturbed x
    event_is front rest x is =
        there IsUndisturbed front rest new.seen x is (all_undisturbed old new r.acts r.did alone)

  row_is_full : Ran old new f g call (Err RowFull) → IsRowFull new.config new.last (state new.seen)
  row_is_full r i small =
      let grounds : RowWasFull r.begun new = r.grounds in
      let w = grounds i small in
      still_so (λ e. is_harmless e.act ≡ true) (λ s. IsOccupied new.last s i) (λ s e. stays_occupied new.last i s e)
      old.seen _ new.seen r.did.begins (refused_since RowFull r)
      (prefix_trans old.seen w.probed.before _
      (prefix_trans old.seen r.begun w.probed.before r.window.from w.probed.from) (_, refl))
      w.occupied

  objects_are_full : Ran old new f g call (Err ObjectsFull) → EachPresent new.config (state new.seen)
  objects_are_full r =
      let grounds : Sometime (EachPresent new.config) r.begun new.seen = r.grounds in
      still_so (λ e. may_precede ObjectsFull e.act ≡ true) (EachPresent new.config)
      (λ s e h all o least most. stays_present ObjectsFull o s e h (all o least most)) old.seen r.begun new.seen
      r.did.begins (refused_since ObjectsFull r) r.window.from grounds

  pub fault_alone : asked.announces ≡ false → (e : Fault) → Ran old new f g call (Err e) → IsAloneFault new e
  fault_alone silent RowFull r = row_is_full r
  fault_alone silent ObjectsFull r = objects_are_full r
  fault_alone silent (Raced looked found) r = never_lost old.seen r.begun new looked found r.did.begins
      (refused_since (Raced looked found) r) r.window.from r.grounds
  fault_alone silent Barred r =
      let w = truly lawful old new f g Barred r in
      (event_is Barred r w.before w.since (by new.thread (Gate Knock)) w.taken).enters refl
  fault_alone silent (Busy n) r =
      let w = truly lawful old new f g (Busy n) r in
      (event_is (Busy n) r w.before w.since (by new.thread (ShutBusy n)) w.taken).shuts n refl
  fault_alone silent (Moved looked found) r =
      let announces = (lawful.fails f g r.acts (Moved looked found) r.is).shown.2 in
      let bad = sym silent ∙ announces in absurd cc
  fault_alone silent _ r = tt

  pub none_lost_by : (answer : Result A Fault) (r : Ran old new f g call answer) → IfErr answer (IsAloneFault new)
      → LoseOnly None r.acts
  none_lost_by (Ok x) r fault = (lawful.goes f g r.acts x r.is).lose
  none_lost_by (Err e) r fault = subst (λ l. LoseOnly l r.acts) (lost_no asked new e fault)
      (lawful.fails f g r.acts e r.is).shown.1

  -- what was so answered, where the refusal is known to be a lone thread's
  pub answered_so : {B : Type 0} (answer : Result A Fault) (other : Result B Fault) → Ran old new f g call answer
      → IfErr answer (IsAloneFault new) → IfErr other (IsAloneFault new) → LedAlone old new other
  answered_so answer other r fault told =
      led_by old new r.acts r.did alone other (none_lost_by answer r fault) told

  pub ran_alone : asked.announces ≡ false → (answer : Result A Fault) → Ran old new f g call answer
      → LedAlone old new answer
  ran_alone silent answer r = answered_so answer answer r (fault_of answer r) (fault_of answer r)
    where
      fault_of : (answer : Result A Fault) → Ran old new f g call answer → IfErr answer (IsAloneFault new)
      fault_of (Ok x) r = tt
      fault_of (Err e) r = fault_alone silent e r

-- the same of a deed
pub made_alone : {A : Type 0} {asked : Purpose} (silent : Config → ℕ) {work : Config → ℕ → ℕ → State → Call A}
    → ((c : Config) (last t : ℕ) (s : State) → IsLawful asked last t (work c last t s)) → asked.announces ≡ false
    → LeadsAlone (within_by silent work)
made_alone silent lawful quiet = record {
  led = λ old new answer alone d. ran_alone (lawful old.pass.config old.pass.last old.pass.thread (state new.pass.seen))
      old.pass new.pass old.frames new.frames alone quiet answer d.ran;
}
