-- Refusals, by number.
use Rattle.std.specs.Prelude.{ℕ, ℤ, negsuc, Option, Some, None}
use Rattle.jr_word.specs.declared.fault.Fault.{Fault}
use Rattle.jr_word.specs.declared.fault.Fault.TheVariants.{Null, Stale, Foreign, WrongKind, NotArray, WrongElement}
use Rattle.jr_word.specs.declared.fault.Fault.TheVariants.{Range, RowFull, LocalsFull, SpaceFull, ObjectsFull}
use Rattle.jr_word.specs.declared.fault.Fault.TheVariants.{Raced, Barred, Busy, NoFrame, Memory, Size, Value}
use Rattle.jr_word.specs.declared.fault.Fault.TheVariants.{InCritical, Turns, NotFresh, LeftInside, Moved}

-- the number of a refusal
abbrev pub fault_number : Fault → ℕ
fault_number Null = 1
fault_number Stale = 2
fault_number Foreign = 3
fault_number WrongKind = 4
fault_number NotArray = 5
fault_number WrongElement = 6
fault_number Range = 7
fault_number RowFull = 8
fault_number LocalsFull = 9
fault_number (SpaceFull found) = 10
fault_number ObjectsFull = 11
fault_number (Raced looked found) = 12
fault_number Barred = 13
fault_number (Busy threads) = 14
fault_number NoFrame = 15
fault_number Memory = 16
fault_number Size = 17
fault_number Value = 18
fault_number InCritical = 19
fault_number Turns = 20
fault_number NotFresh = 21
fault_number (LeftInside threads) = 22
fault_number (Moved looked found) = 23

-- the status that JNI has for a refusal: -4, that memory is out, where no local place is left or a growth was refused
abbrev pub jni_code_of : Fault → Option ℤ
jni_code_of LocalsFull = Some (negsuc 3)
jni_code_of Memory = Some (negsuc 3)
jni_code_of _ = None
