-- What steps over words are and know;
-- and, for the crate's own functions, what a look at the gate makes of it.
use Rattle.std.specs.Prelude.{◌≡◌, [], ◌∷◌}
use Rattle.jr_word.specs.declared.gate.GateParts.{GateParts}
use Rattle.jr_model.specs.declared.event.Role.{Role}
use Rattle.jr_model.specs.History.{role_of}
use Rattle.jr_steps.specs.Acts.{act_of_gate_load}
use Rattle.jr_steps.specs.declared.known.Known.{Known}
use Rattle.jr_steps.specs.declared.loads.GateLoad.{GateLoad}
use Rattle.jr_steps.specs.Knowing.{Facts, Goes, ShowsGate, view}
use Rattle.jr_rule.specs.declared.cells.Cells.{Ghosts}
use Rattle.jr_rule.specs.declared.over.StepsOver.{StepsOver}
use Rattle.jr_rule.specs.Cells.{Sight, IsAmong, facts_at}

-- WHAT STEPS OVER WORDS ARE, and what may be known of them
abbrev pub facts_over : {C P : Type 0} {G : Ghosts C P} → StepsOver C P G → Facts
facts_over {G = G} s = facts_at (G.sight s.cells) s.role s.fresh s.hint

-- THE GATE WAS LOOKED AT: whatever was known of a thread in this role, something
-- is known then that the look made of it, and that shows what it found
abbrev pub LooksSo : Sight → Sight → Role → GateLoad → GateParts → Type 0
LooksSo z z' r name found = (k : Known) → IsAmong z k → role_of (view k) ≡ r
    → (k' : Known) × IsAmong z' k' × Goes k (act_of_gate_load name found ∷ []) k' × ShowsGate found k'
