-- No two parts in range have one word.
use Rattle.std.proofs.Common.{◌≡◌, arith}
use Rattle.std.proofs.lemmas.Grind.{common_steps}
use Rattle.jr_word.specs.declared.gate.GateParts.{GateParts}
use Rattle.jr_word.specs.declared.handle.HandleParts.{HandleParts}
use Rattle.jr_word.specs.declared.header.HeaderParts.{HeaderParts}
use Rattle.jr_word.specs.declared.slot.SlotParts.{SlotParts}
use Rattle.jr_word.specs.Gate.{gate_word, IsGate}
use Rattle.jr_word.specs.Handle.{handle_word, IsHandle}
use Rattle.jr_word.specs.Header.{header_word, IsHeader}
use Rattle.jr_word.specs.Slot.{slot_word, IsSlot}

pub handle_word-injective : (p q : HandleParts) → IsHandle p → IsHandle q → handle_word p ≡ handle_word q → p ≡ q
handle_word-injective p q hp hq e = grind (arith, common_steps)

pub slot_word-injective : (p q : SlotParts) → IsSlot p → IsSlot q → slot_word p ≡ slot_word q → p ≡ q
slot_word-injective p q hp hq e = grind (arith, common_steps)

pub gate_word-injective : (p q : GateParts) → IsGate p → IsGate q → gate_word p ≡ gate_word q → p ≡ q
gate_word-injective p q hp hq e = grind (arith, common_steps)

pub header_word-injective : (p q : HeaderParts) → IsHeader p → IsHeader q → header_word p ≡ header_word q → p ≡ q
header_word-injective p q hp hq e = grind (arith, common_steps)
