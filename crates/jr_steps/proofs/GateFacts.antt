-- What the parts of a gate's word say of those who keep it closed.
use Rattle.std.proofs.Common.{◌≡◌, ⊎_elim, ℕ, true, false, refl, ap}
use Rattle.jr_word.specs.declared.config.Config.{Config}
use Rattle.jr_word.specs.declared.gate.GateParts.{GateParts}
use Rattle.jr_word.specs.declared.gate.GateState.{GateState}
use Rattle.jr_word.specs.declared.gate.GateState.TheVariants.{Open, Announced, Shut}
use Rattle.jr_model.specs.declared.event.Role.{Role}
use Rattle.jr_model.specs.declared.event.Role.TheVariants.{Announcing, Collecting}
use Rattle.jr_model.specs.State.{is_barring}
use Rattle.jr_model.proofs.Announcements.{closes_by}
use Rattle.jr_model.proofs.Counts.{not_true}
use Rattle.jr_steps.specs.Acts.{is_closed}
use Rattle.jr_steps.specs.Says.{SaysOfGate}

-- a gate that is not open is kept closed by somebody, and an open one by nobody
pub somebody_closes : {c : Config} {role : ℕ → Role} {p : GateParts} → SaysOfGate c role p → is_closed p.state ≡ true
    → (t : ℕ) × (is_barring (role t) ≡ true)
somebody_closes {role = role} {p} says = go p.state refl
  where
    go : (st : GateState) → p.state ≡ st → is_closed st ≡ true → (t : ℕ) × (is_barring (role t) ≡ true)
    go Open e closed = absurd cc
    go Announced e closed = let u = says.announced.0 e in (u.0, ap is_barring u.1)
    go Shut e closed = let u = says.shut.0 e in (u.0, ap is_barring u.1)

pub nobody_closes : {c : Config} {role : ℕ → Role} {p : GateParts} → SaysOfGate c role p → is_closed p.state ≡ false
    → (t : ℕ) → is_barring (role t) ≡ false
nobody_closes {role = role} {p} says is_open t = not_true (is_barring (role t)) (λ e. ⊎_elim
    (λ (z : role t ≡ Announcing). let state = ap is_closed (says.announced.1 (t, z)) in cc)
    (λ (z : role t ≡ Collecting). let state = ap is_closed (says.shut.1 (t, z)) in cc)
    (closes_by (role t) e))
