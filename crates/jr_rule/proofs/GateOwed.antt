-- What the steps of the gate owe, wherever they find the row.
use Rattle.std.proofs.Common.{◌≡◌, ◌⊎◌, inr, ⊎_elim, ◌<◌, ◌+◌, ◌-◌, ◌%◌, ◌^◌, ℕ, not, List, []}
use Rattle.std.proofs.Common.{◌∷◌, get_or, slice_set, eqb, Err, refl, sym, subst, ◌∙◌, arith}
use mathlib.Core.Logic.{dite}
use native.Mathlib.Decide.{ℕ_discrete}
use prog.Atomic.{either}
use Rattle.jr_model.specs.declared.event.Role.TheVariants.{Outside, Within, Knocking, Announcing, Collecting}
use Rattle.jr_model.specs.declared.event.Act.{Act}
use Rattle.jr_model.specs.declared.event.Act.TheVariants.{Gate, ShutBusy, Meet}
use Rattle.jr_model.specs.declared.event.GateAct.TheVariants.{Announce, Cancel, Shut, Reopen}
use Rattle.jr_model.specs.History.{History, state, role_of}
use Rattle.jr_steps.specs.declared.known.Known.{Known}
use Rattle.jr_steps.specs.declared.loads.GateLoad.{GateLoad}
use Rattle.jr_steps.specs.declared.loads.GateLoad.TheVariants as gate
use Rattle.jr_word.specs.declared.gate.GateState.{GateState}
use Rattle.jr_word.specs.declared.gate.GateState.TheVariants as gates
use Rattle.jr_word.specs.Gate.{state_bits}
use Rattle.jr_steps.specs.Acts.{act_of_entry, act_of_exit, act_of_announcement}
use Rattle.jr_steps.specs.Acts.{others_counted, is_closed, act_of_gate_load, GateLoadFits}
use Rattle.jr_steps.specs.Knowing.{view, IsClosedNow, IsSettled}
use Rattle.jr_steps.specs.declared.known.Holdings.{Holdings}
use Rattle.jr_steps.specs.Holdings.{empty, hold}
use Rattle.jr_rule.specs.Image.{MayHold}
use Rattle.jr_rule.specs.Rule.{known_at, IsFound, Owes, LookedBy}
use Rattle.jr_rule.proofs.StillSo.{role_at, closed_now, moves_as_known}
use Rattle.jr_rule.proofs.Images.{image_let_go}
use Rattle.jr_rule.proofs.Spaces.{hold_here}
use Rattle.jr_rule.proofs.GateSteps.{CanShutFrom, shutter, gate_fits, gate_most, shows_gate, goes_in}
use Rattle.jr_rule.proofs.GateSteps.{goes_out, counted, shut_counted, announced_counted, gate_seen}
use Rattle.jr_rule.proofs.GateSteps.{holds_nothing, bars, bars_lost, announces, cancels, unbars}
use Rattle.jr_rule.proofs.LegalSteps.{quiet, gaining, written, unwritten, won, lost, one_legal, none_legal}
use Rattle.jr_rule.proofs.Told.{Entered, Exited, Barred, Announced, Cancelled, Reopened, SawGate}
use Rattle.jr_rule.proofs.ActEffects.{gate_load_state}

-- who is within or knocking has no move unfinished
may_let_go : (k : Known) (log : History) (words : List ℕ) (held : ℕ → Holdings) (f : IsFound k log words held)
    → (role_of (view k) ≡ Within) ⊎ (role_of (view k) ≡ Knocking)
    → MayHold f.image.moving ((state log).role k.thread) empty
may_let_go k log words held f counts = ⊎_elim
    (λ e. subst (λ r. MayHold f.image.moving r empty) (sym (role_at k log words held f ∙ e)) refl)
    (λ e. subst (λ r. MayHold f.image.moving r empty) (sym (role_at k log words held f ∙ e)) refl)
    counts

-- who is outside holds nothing
nothing_outside : (k : Known) (log : History) (words : List ℕ) (held : ℕ → Holdings) (f : IsFound k log words held)
    → role_of (view k) ≡ Outside → held k.thread ≡ empty
nothing_outside k log words held f out = subst (λ r. MayHold f.image.moving r (held k.thread))
    (role_at k log words held f ∙ out) (f.image.held_by_role.each k.thread)

module _ (k : Known) where
  pub enters : role_of (view k) ≡ Outside → Owes k 0 (λ n. (n + 1) % 2 ^ 64) (Entered k)
  enters out log words held f =
      let n : ℕ = get_or words 0 0 in
      let g = f.image.gate in
      let few = (f.sized).limited.threads.1 in
      let most = gate_most k.config (state log).role n few g in
      let t = goes_in k.config k.last log k.thread words f.legal held f.image f.fits.row n (is_closed g.parts.state)
      refl refl (role_at k log words held f ∙ out) in
      quiet k log words held f (slice_set words 0 ((n + 1) % 2 ^ 64)) (Entered k n)
      (act_of_entry (not (is_closed g.parts.state)) ∷ [])
      (written k log words held 0 (n + 1) ((n + 1) % 2 ^ 64) (omega arith) t)
      (g.parts, gate_fits k.config (state log).role n few g, g.word, refl, refl)

  pub leaves : (role_of (view k) ≡ Within) ⊎ (role_of (view k) ≡ Knocking)
      → Owes k 0 (λ n. (n + (2 ^ 64 - 1)) % 2 ^ 64) (Exited k)
  leaves counts log words held f =
      let n : ℕ = get_or words 0 0 in
      let role = role_of (view k) in
      let most = gate_most k.config (state log).role n (f.sized).limited.threads.1 f.image.gate in
      let some = counted k.config k.last log k.thread words f.legal held f.image f.fits.row role counts
      (role_at k log words held f) in
      let image =
      image_let_go k.config k.last words (state log) held f.image k.thread (may_let_go k log words held f counts) in
      let t = goes_out k.config k.last log k.thread words f.legal (hold held k.thread empty) image f.fits.row role
      ((n + (2 ^ 64 - 1)) % 2 ^ 64) (hold_here held k.thread empty) (omega arith) counts (role_at k log words held f) in
      gaining k log (slice_set words 0 ((n + (2 ^ 64 - 1)) % 2 ^ 64)) held (Exited k n) (act_of_exit role ∷ []) empty
      t (refl, refl)

  pub shuts : (from : GateState) → CanShutFrom from → role_of (view k) ≡ shutter from
      → Owes k 0 (λ n. either (eqb n (state_bits from)) 65536 n) (Barred from k)
  shuts from can at log words held f =
      let n : ℕ = get_or words 0 0 in
      let g = f.image.gate in
      let few = (f.sized).limited.threads.1 in
      let here = role_at k log words held f ∙ at in
      dite (ℕ_discrete n (state_bits from))
      (λ none. quiet k log words held f (slice_set words 0 (either (eqb n (state_bits from)) 65536 n)) (Barred from k n)
      (Gate Shut ∷ [])
      (written k log words held 0 65536 (either (eqb n (state_bits from)) 65536 n) (won (state_bits from) 65536 n none)
      (bars k.config k.last log k.thread words f.legal held f.image f.fits.row few from can here none)) (
        λ e. (
          refl,
          sym f.fits.holdings
              ∙ holds_nothing k.config k.last log k.thread words f.legal held f.image f.fits.row few from can here,
        ),
        λ ne. absurd (ne none),
      ))
      (λ some. quiet k log words held f (slice_set words 0 (either (eqb n (state_bits from)) 65536 n)) (Barred from k n)
      (ShutBusy (others_counted from g.parts) ∷ [])
      (written k log words held 0 n (either (eqb n (state_bits from)) 65536 n) (lost (state_bits from) 65536 n some)
      (unwritten k log words held 0
      (bars_lost k.config k.last log k.thread words f.legal held f.image f.fits.row few from can here some)))
      (λ e. absurd (some e), λ ne. (g.parts, gate_fits k.config (state log).role n few g, g.word, refl, refl)))

  pub announces_shut : (looked : ℕ) → looked < 2 ^ 16 → role_of (view k) ≡ Outside
      → Owes k 0 (λ n. either (eqb n looked) (looked + 131072) n) (Announced looked k)
  announces_shut looked fits out log words held f =
      let n : ℕ = get_or words 0 0 in
      let g = f.image.gate in
      let few = (f.sized).limited.threads.1 in
      let here = role_at k log words held f ∙ out in
      let acts : List Act = act_of_announcement (Err g.parts) ∷ [] in
      dite (ℕ_discrete n looked)
      (λ same. quiet k log words held f (slice_set words 0 (either (eqb n looked) (looked + 131072) n))
      (Announced looked k n) (Gate Announce ∷ [])
      (written k log words held 0 (looked + 131072) (either (eqb n looked) (looked + 131072) n)
      (won looked (looked + 131072) n same)
      (announces k.config k.last log k.thread words f.legal held f.image f.fits.row few looked fits same here))
      (λ e. (refl, sym f.fits.holdings ∙ nothing_outside k log words held f out), λ ne. absurd (ne same)))
      (λ other. quiet k log words held f (slice_set words 0 (either (eqb n looked) (looked + 131072) n))
      (Announced looked k n) acts
      (written k log words held 0 n (either (eqb n looked) (looked + 131072) n) (lost looked (looked + 131072) n other)
      (unwritten k log words held 0
      (gate_seen k.config k.last log k.thread words f.legal held f.image f.fits.row gate.Busy here))) (
        λ e. absurd (other e),
        λ ne. (
          g.parts,
          gate_fits k.config (state log).role n few g,
          g.word,
          refl,
          shows_gate g.parts k.config (state log) (known_at k log acts k.holdings) g.says refl
              (gate_load_state log k.thread gate.Busy g.parts),
          refl,
        ),
      ))

  pub takes_back : role_of (view k) ≡ Announcing → Owes k 0 (λ n. (n + (2 ^ 64 - 131072)) % 2 ^ 64) (Cancelled k)
  takes_back at log words held f =
      let n : ℕ = get_or words 0 0 in
      let few = (f.sized).limited.threads.1 in
      let here = role_at k log words held f ∙ at in
      let most = gate_most k.config (state log).role n few f.image.gate in
      let some = announced_counted k.config k.last log k.thread words f.legal held f.image f.fits.row here in
      let left = (n + (2 ^ 64 - 131072)) % 2 ^ 64 in
      quiet k log words held f (slice_set words 0 left) (Cancelled k n) (Gate Cancel ∷ [])
      (cancels k.config k.last log k.thread words f.legal held f.image f.fits.row left (omega arith) here) (
        refl,
        sym f.fits.holdings ∙ holds_nothing k.config k.last log k.thread words f.legal held f.image f.fits.row few
            gates.Announced (inr refl) here,
      )

  pub reopens : role_of (view k) ≡ Collecting → IsSettled k
      → ∥ IsClosedNow k ∥₁ → Owes k 0 (λ n. (n + (2 ^ 64 - 65536)) % 2 ^ 64) (Reopened k)
  reopens collects settled closed log words held f =
      let n : ℕ = get_or words 0 0 in
      let most = gate_most k.config (state log).role n (f.sized).limited.threads.1 f.image.gate in
      let some = shut_counted k.config k.last log k.thread words f.legal held f.image f.fits.row
      (role_at k log words held f ∙ collects) in
      let inside = role_at k log words held f ∙ collects in
      let still = moves_as_known k log words held f collects ∙ settled in
      let image = image_let_go k.config k.last words (state log) held f.image k.thread
      (subst (λ r. MayHold f.image.moving r empty) (sym inside) (sym still, refl)) in
      let t = unbars k.config k.last log k.thread words f.legal (hold held k.thread empty) image f.fits.row
      ((n + (2 ^ 64 - 65536)) % 2 ^ 64) (hold_here held k.thread empty) (omega arith) inside
      (closed_now k log words held f collects closed) in
      gaining k log (slice_set words 0 ((n + (2 ^ 64 - 65536)) % 2 ^ 64)) held (Reopened k n) (Gate Reopen ∷ []) empty
      t (refl, refl)

  pub sees_gate : (name : GateLoad) → GateLoadFits (role_of (view k)) name → Owes k 0 (λ n. n) (SawGate name k)
  sees_gate name fits log words held f =
      let n : ℕ = get_or words 0 0 in
      let g = f.image.gate in
      let acts : List Act = act_of_gate_load name g.parts ∷ [] in
      let t = gate_seen k.config k.last log k.thread words f.legal held f.image f.fits.row name
      (subst (λ r. GateLoadFits r name) (sym (role_at k log words held f)) fits) in
      quiet k log words held f (slice_set words 0 n) (SawGate name k n) acts (unwritten k log words held 0 t) (
        g.parts,
        gate_fits k.config (state log).role n (f.sized).limited.threads.1 g,
        g.word,
        refl,
        shows_gate g.parts k.config (state log) (known_at k log acts k.holdings) g.says refl
            (gate_load_state log k.thread name g.parts),
        refl,
      )

  -- loads that only show what others did:
  -- of a pass that meets another, which is an event, and of one that learns a note, which is none
  pub meets : Owes k 0 (λ n. n) (LookedBy (Meet ∷ []) k)
  meets log words held f =
      let n : ℕ = get_or words 0 0 in
      quiet k log words held f (slice_set words 0 n) (LookedBy (Meet ∷ []) k n) (Meet ∷ []) (unwritten k log words held
      0 (one_legal k.config k.last log k.thread words held f.legal Meet (f.fits.row, tt) f.image)) (refl, refl)

  pub learns : Owes k 0 (λ n. n) (LookedBy [] k)
  learns log words held f =
      let n : ℕ = get_or words 0 0 in
      quiet k log words held f (slice_set words 0 n) (LookedBy [] k n) []
      (unwritten k log words held 0 (none_legal k.config k.last log k.thread words held f.legal f.image)) (refl, refl)
