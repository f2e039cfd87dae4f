-- What the acts of steps make of the role, of the freshness and of the state.
use Rattle.std.proofs.Common.{◌≡◌, ◌⊎◌, ⊎_elim, ◌+◌, if◌then◌else◌, nat_lt, cond, List, ℕ, Bool, true}
use Rattle.std.proofs.Common.{false, Option, Some, None, Result, Ok, Err, [], ◌∷◌, ◌++◌, refl, sym, subst}
use Rattle.jr_word.specs.declared.gate.GateParts.{GateParts}
use Rattle.jr_word.specs.declared.handle.RefKind.{RefKind}
use Rattle.jr_word.specs.declared.kind.Kind.{Kind}
use Rattle.jr_word.specs.declared.slot.SlotParts.{SlotParts}
use Rattle.jr_model.specs.declared.event.Role.{Role}
use Rattle.jr_model.specs.declared.event.Act.TheVariants.{ReserveFull, ShutBusy, Meet}
use Rattle.jr_model.specs.declared.event.Role.TheVariants.{Outside, Within, Knocking}
use Rattle.jr_model.specs.State.{Handle}
use Rattle.jr_model.specs.History.{History, by, state, role_after, role_from}
use Rattle.jr_model.proofs.Histories.{state_push}
use Rattle.jr_steps.specs.declared.loads.GateLoad.{GateLoad}
use Rattle.jr_steps.specs.declared.loads.GateLoad.TheVariants as gate
use Rattle.jr_steps.specs.declared.loads.SlotLoad.{SlotLoad}
use Rattle.jr_steps.specs.declared.loads.SlotLoad.TheVariants as loads
use Rattle.jr_steps.specs.declared.loads.TopLoad.{TopLoad}
use Rattle.jr_steps.specs.declared.loads.TopLoad.TheVariants as top
use Rattle.jr_steps.specs.Acts.{act_of_entry, act_of_exit, is_closed, all_counted, act_of_gate_load, act_of_slot_load}
use Rattle.jr_steps.specs.Acts.{act_of_claim, act_of_free, act_of_put, acts_of_publication, acts_of_top_load}
use Rattle.jr_steps.specs.Knowing.{fresh_after, fresh_from}

-- THE GATE
-- no step of the gate leaves the pass less fresh
pub entered_fresh : (b f : Bool) → f ≡ fresh_after f (act_of_entry b)
entered_fresh true f = refl
entered_fresh false f = refl

-- who goes out is outside
pub left_role : (r : Role) → (r ≡ Within) ⊎ (r ≡ Knocking) → Outside ≡ role_after r (act_of_exit r)
left_role r counts = ⊎_elim
    (λ (e : r ≡ Within). subst (λ z. Outside ≡ role_after z (act_of_exit z)) (sym e) refl)
    (λ (e : r ≡ Knocking). subst (λ z. Outside ≡ role_after z (act_of_exit z)) (sym e) refl)
    counts

pub left_fresh : (r : Role) (f : Bool) → f ≡ fresh_after f (act_of_exit r)
left_fresh Outside f = refl
left_fresh _ f = refl

-- a load of the gate changes no role
pub gate_load_role : (name : GateLoad) (p : GateParts) (r : Role) → r ≡ role_after r (act_of_gate_load name p)
gate_load_role gate.Meet p r = refl
gate_load_role gate.Busy p r = go (is_closed p.state) (all_counted p) r
  where
    go : (closed : Bool) (n : ℕ) (r : Role) → r ≡ role_after r (if closed then ShutBusy n else Meet)
    go true n r = refl
    go false n r = refl

pub gate_load_fresh : (name : GateLoad) (p : GateParts) (f : Bool) → f ≡ fresh_after f (act_of_gate_load name p)
gate_load_fresh gate.Meet p f = refl
gate_load_fresh gate.Busy p f = go (is_closed p.state) (all_counted p) f
  where
    go : (closed : Bool) (n : ℕ) (f : Bool) → f ≡ fresh_after f (if closed then ShutBusy n else Meet)
    go true n f = refl
    go false n f = refl

-- and nothing else
pub gate_load_state : (log : History) (t : ℕ) (name : GateLoad) (p : GateParts)
    → state (log ++ by t (act_of_gate_load name p) ∷ []) ≡ state log
gate_load_state log t gate.Meet p = state_push log (by t Meet)
gate_load_state log t gate.Busy p = go (is_closed p.state) (all_counted p)
  where
    go : (closed : Bool) (n : ℕ) → state (log ++ by t (if closed then ShutBusy n else Meet) ∷ []) ≡ state log
    go true n = state_push log (by t (ShutBusy n))
    go false n = state_push log (by t Meet)

-- SLOTS
-- the name of a load leaves the role
pub slot_load_role : (i : ℕ) (name : SlotLoad) (p : SlotParts) (r : Role) → r ≡ role_after r (act_of_slot_load i name p)
slot_load_role i (loads.Look h) p r = refl
slot_load_role i loads.Probe p r = refl
slot_load_role i loads.Meet p r = refl

-- the name of a load leaves the pass as fresh as it was
pub slot_load_fresh : (i : ℕ) (name : SlotLoad) (p : SlotParts) (f : Bool)
    → f ≡ fresh_after f (act_of_slot_load i name p)
slot_load_fresh i (loads.Look h) p f = refl
slot_load_fresh i loads.Probe p f = refl
slot_load_fresh i loads.Meet p f = refl

-- and the state
pub slot_load_state : (log : History) (t i : ℕ) (name : SlotLoad) (p : SlotParts)
    → state (log ++ by t (act_of_slot_load i name p) ∷ []) ≡ state log
slot_load_state log t i (loads.Look h) p = state_push log (by t (act_of_slot_load i (loads.Look h) p))
slot_load_state log t i loads.Probe p = state_push log (by t (act_of_slot_load i loads.Probe p))
slot_load_state log t i loads.Meet p = state_push log (by t (act_of_slot_load i loads.Meet p))

-- an exchange at a slot leaves the role, and the pass as fresh as it was
pub claiming_role : (i serial : ℕ) (kind : RefKind) (o : ℕ) (x : Result (Unit {0}) SlotParts) (r : Role)
    → r ≡ role_after r (act_of_claim i serial kind o x)
claiming_role i serial kind o (Ok u) r = refl
claiming_role i serial kind o (Err p) r = refl

pub claiming_fresh : (i serial : ℕ) (kind : RefKind) (o : ℕ) (x : Result (Unit {0}) SlotParts) (f : Bool)
    → f ≡ fresh_after f (act_of_claim i serial kind o x)
claiming_fresh i serial kind o (Ok u) f = refl
claiming_fresh i serial kind o (Err p) f = refl

pub freeing_role : (h : Handle) (b : Bool) (r : Role) → r ≡ role_after r (act_of_free h b)
freeing_role h true r = refl
freeing_role h false r = refl

pub freeing_fresh : (h : Handle) (b : Bool) (f : Bool) → f ≡ fresh_after f (act_of_free h b)
freeing_fresh h true f = refl
freeing_fresh h false f = refl

-- LOCAL WORDS AND HEADERS
pub putting_role : (p : ℕ) (o : Option ℕ) (r : Role) → r ≡ role_after r (act_of_put p o)
putting_role p None r = refl
putting_role p (Some o) r = refl

-- a store to a local word leaves the pass not fresh
pub putting_spends : (p : ℕ) (o : Option ℕ) (f : Bool) → false ≡ fresh_after f (act_of_put p o)
putting_spends p None f = refl
putting_spends p (Some o) f = refl

pub publishing_role : (o : ℕ) (kind : Kind) (ws : List ℕ) (b : Bool) (r : Role)
    → r ≡ role_from r (acts_of_publication o kind ws b)
publishing_role o kind ws true r = refl
publishing_role o kind ws false r = refl

pub publishing_fresh : (o : ℕ) (kind : Kind) (ws : List ℕ) (b : Bool) (f : Bool)
    → f ≡ fresh_from f (acts_of_publication o kind ws b)
publishing_fresh o kind ws true f = refl
publishing_fresh o kind ws false f = refl

-- THE TOP
pub top_load_role : (words : ℕ) (name : TopLoad) (u : ℕ) (r : Role) → r ≡ role_from r (acts_of_top_load words name u)
top_load_role words top.Look u r = refl
top_load_role words (top.Full n) u r = go (nat_lt words (u + n))
  where
    go : (b : Bool) → r ≡ role_from r (cond b (ReserveFull n u ∷ []) [])
    go true = refl
    go false = refl

pub top_load_fresh : (words : ℕ) (name : TopLoad) (u : ℕ) (f : Bool) → f ≡ fresh_from f (acts_of_top_load words name u)
top_load_fresh words top.Look u f = refl
top_load_fresh words (top.Full n) u f = go (nat_lt words (u + n))
  where
    go : (b : Bool) → f ≡ fresh_from f (cond b (ReserveFull n u ∷ []) [])
    go true = refl
    go false = refl
