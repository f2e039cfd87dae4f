-- The word of the gate.
use Rattle.std.specs.Prelude.{ℕ, ◌+◌, ◌^◌, ◌<◌}
use Rattle.jr_word.specs.declared.gate.GateParts.{GateParts}
use Rattle.jr_word.specs.declared.gate.GateState.{GateState}
use Rattle.jr_word.specs.declared.gate.GateState.TheVariants.{Open, Announced, Shut}

-- the parts that the gate can have
pub record IsGate (p : GateParts) : Type 0 where
  pub count : p.count < 2 ^ 16

-- what the word of a gate in this state has above the count: bit 16 where it is shut, bit 17 where that is announced
abbrev pub state_bits : GateState → ℕ
state_bits Open = 0
state_bits Announced = 2 ^ 17
state_bits Shut = 2 ^ 16

-- THE WORD of the gate: bits 0 to 15 the count of threads, and its state
abbrev pub gate_word : GateParts → ℕ
gate_word p = p.count + state_bits p.state
