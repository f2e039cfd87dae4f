-- What a refused creation tells of the room is so, and calls are their stays.
use Rattle.std.proofs.Common.{◌≡◌, ◌⊎◌, ⊎_elim, inl, inr, ℕ, Bool, ◌<◌, List, ◌∷◌, ◌++◌}
use Rattle.std.proofs.Common.{Result, Ok, Err, ap, refl, sym, subst, ◌∙◌}
use Rattle.std.proofs.lemmas.List.{append-nil}
use Rattle.jr_word.specs.declared.config.Config.{Config}
use Rattle.jr_word.specs.declared.fault.Fault.{Fault}
use Rattle.jr_word.specs.declared.fault.Fault.TheVariants.{RowFull, Barred}
use Rattle.jr_model.specs.declared.event.Act.{Act}
use Rattle.jr_model.specs.declared.event.Act.TheVariants.{Gate, Probe}
use Rattle.jr_model.specs.declared.event.GateAct.TheVariants.{Enter, Knock, Leave, Withdraw}
use Rattle.jr_model.specs.History.{History, by, state, PassView}
use Rattle.jr_model.specs.Frames.{Frames}
use Rattle.jr_model.specs.Windows.{IsBehind, IsLastSeen, Begins, Ends}
use Rattle.jr_model.specs.Refusals.{RowWasFull}
use Rattle.jr_model.specs.Calls.{Call, Ran, done, entered, ◌>>◌}
use Rattle.jr_model.specs.Programs.{work_of}
use Rattle.jr_model.specs.AllCalls.{aborts, enters, keeps, nests, opens, stays_out}
use Rattle.jr_model.specs.Grounded.{RefusedInItsStay, EachIsProbed, IsItsStay, CallsAreTheirStays}
use Rattle.jr_model.proofs.Moments.{prefix_trans}
use Rattle.jr_model.proofs.OwnActs.{seen_among}
use Rattle.jr_model.proofs.Windows.{ends_last}

module _ (old new : PassView) (f g : Frames) where
  -- the entry and the exit of work in a stay that begins and ends with its own acts
  stay_by : {A : Type 0} (work : Call A) (acts : List Act) (begun : History) → Begins old acts begun → Ends old new acts
      → (answer : Result A Fault) (h : Frames) → entered work f acts answer h
      → ((answer ≡ Err Barred) × IsBehind old (Gate Knock) begun × IsLastSeen new (Gate Withdraw))
      ⊎ (IsBehind old (Gate Enter) begun × IsLastSeen new (Gate Leave))
  stay_by work acts begun first last answer h (inl x) =
      inl (x.1, subst (λ acts. Begins old acts begun) x.0 first refl, subst (Ends old new) x.0 last refl)
  stay_by work acts begun first last answer h (inr x) = inr (
    subst (λ acts. Begins old acts begun) x.1 first refl,
    ends_last old new (Gate Enter ∷ x.0) (Gate Leave) (subst (Ends old new) x.1 last) refl,
  )

  -- the entry and the exit of a call
  stay_of : {A : Type 0} (work : Call A) (answer : Result A Fault) (r : Ran old new f g (entered work) answer)
      → ((answer ≡ Err Barred) × IsBehind old (Gate Knock) r.begun × IsLastSeen new (Gate Withdraw))
      ⊎ (IsBehind old (Gate Enter) r.begun × IsLastSeen new (Gate Leave))
  stay_of work answer r = stay_by work r.acts r.begun r.window.first r.window.last answer g r.is

  -- the same of a call that goes on with no act
  stay_then : {A B : Type 0} (work : Call A) (b : B) (answer : Result B Fault)
      (r : Ran old new f g (do entered work; done b) answer)
      → ((answer ≡ Err Barred) × IsBehind old (Gate Knock) r.begun × IsLastSeen new (Gate Withdraw))
      ⊎ (IsBehind old (Gate Enter) r.begun × IsLastSeen new (Gate Leave))
  stay_then {A} {B} work b answer r = go r.is
    where
      go : (do entered work; done b) f r.acts answer g
          → ((answer ≡ Err Barred) × IsBehind old (Gate Knock) r.begun × IsLastSeen new (Gate Withdraw))
          ⊎ (IsBehind old (Gate Enter) r.begun × IsLastSeen new (Gate Leave))
      go (inl x) =
          let own : r.acts ≡ x.2 = x.4 ∙ (ap (λ rest. x.2 ++ rest) x.6.0 ∙ append-nil x.2) in
          ⊎_elim (λ barred. absurd (let bad = barred.0 in cc)) (λ stay. inr stay)
          (stay_by work x.2 r.begun (subst (λ acts. Begins old acts r.begun) own r.window.first)
          (subst (Ends old new) own r.window.last) (Ok x.0) x.1 x.5)
      go (inr x) =
          ⊎_elim (λ barred. inl ((let why = x.1 in let is = barred.0 in cc), barred.1, barred.2)) (λ stay. inr stay)
          (stay_by work r.acts r.begun r.window.first r.window.last (Err x.0) g x.2)

  -- what was refused within a stay was refused between its entry and its exit
  refused_inside : {A : Type 0} (work : Call A) → Ran old new f g (entered work) (Err RowFull)
      → (begun : History) × IsBehind old (Gate Enter) begun × IsLastSeen new (Gate Leave) × RowWasFull begun new
  refused_inside work r = ⊎_elim (λ barred. absurd (let bad = barred.0 in cc))
      (λ stay. (r.begun, stay.0, stay.1, r.grounds)) (stay_of work (Err RowFull) r)

  -- a probe after the beginning of a call is one of its acts
  probed_act : {A : Type 0} (call : Call A) (r : Ran old new f g call (Err RowFull)) (i : ℕ) → i < old.config.slots
      → (front rest : List Act) × (found : Bool) × (r.acts ≡ front ++ Probe i found ∷ rest)
  probed_act call r i l =
      let w = r.grounds i (subst (λ c. i < c.slots) (sym r.did.config) l) in
      let among =
      seen_among (Probe i w.found) w.probed.before w.probed.since
      (prefix_trans old.seen r.begun w.probed.before r.window.from w.probed.from)
      (subst (λ t. new.seen ≡ w.probed.before ++ by t (Probe i w.found) ∷ w.probed.since) r.did.thread w.probed.taken)
      r.acts r.did in (among.0, among.1, w.found, among.2)

pub refused_in_its_stay : RefusedInItsStay
refused_in_its_stay old new f g k a r = refused_inside old new f g _ r

pub each_is_probed : EachIsProbed
each_is_probed old new f g k a r i l = probed_act old new f g _ r i l

its_stay : {A : Type 0} (old new : PassView) (work : Call A) → IsItsStay old new (entered work)
its_stay old new work f g answer r = stay_of old new f g work answer r

-- a call that goes on with no act
its_stay_then : {A B : Type 0} (old new : PassView) (work : Call A) (b : B)
    → IsItsStay old new (do entered work; done b)
its_stay_then old new work b f g answer r = stay_then old new f g work b answer r

module _ (c : Config) (last thread : ℕ) (old new : PassView) where
  pub calls_are_their_stays : CallsAreTheirStays c last thread old new
  calls_are_their_stays _ (enters words p) own = its_stay old new _
  calls_are_their_stays _ (keeps elements words p) own =
      its_stay_then old new (work_of c last thread (state new.seen) words p) elements
  calls_are_their_stays _ (stays_out p) own = absurd (let bad = own in cc)
  calls_are_their_stays _ (opens words p) own = absurd (let bad = own in cc)
  calls_are_their_stays _ (nests levels words p) own = absurd (let bad = own in cc)
  calls_are_their_stays _ aborts own = absurd (let bad = own in cc)
