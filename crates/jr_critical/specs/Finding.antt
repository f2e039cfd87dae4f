-- For the crate's own functions: how the object of a new level is found.
use Rattle.std.specs.Prelude.{ℕ, not, nat_le, Result, Ok, Err, List, length}
use Rattle.jr_word.specs.declared.config.Config.{Config}
use Rattle.jr_word.specs.declared.fault.Fault.{Fault}
use Rattle.jr_word.specs.declared.fault.Fault.TheVariants.{WrongKind, NotArray, WrongElement, Size}
use Rattle.jr_word.specs.declared.kind.Kind.{Kind}
use Rattle.jr_word.specs.declared.kind.Kind.TheVariants as kind
use Rattle.jr_model.specs.declared.frames.TheConstants.{LEVELS}
use Rattle.jr_model.specs.State.{State}
use Rattle.jr_model.specs.Frames.{Frames}
use Rattle.jr_model.specs.Calls.{Call, done, for_object, refuse_if, ◌>>=◌, ◌>>◌}
use Rattle.jr_model.specs.Checks.{Word, is_array, is_primitive, is_text}
use Rattle.jr_model.specs.Parts.{nested, not_null}
use Rattle.jr_model.specs.References.{resolved}
use Rattle.jr_steps.specs.declared.known.Known.{Known}
use Rattle.jr_steps.specs.Knowing.{Facts, Holds}
use Rattle.jr_gate.specs.Performing.{Performed}
use Rattle.jr_heap.specs.Heap.{Learns}
use Rattle.jr_heap.specs.Laws.{GoesOnKnowing}
use Rattle.jr_critical.specs.declared.level.Level.{Level}
use Rattle.jr_critical.specs.declared.level.Wanted.{Wanted}
use Rattle.jr_critical.specs.declared.level.Wanted.TheVariants.{Array, Text}

-- whether an object of the kind may be a level
abbrev pub kind_answer : Wanted → Kind → Result (Unit {0}) Fault
kind_answer Array kind.Plain = Err NotArray
kind_answer Array kind.Text = Err NotArray
kind_answer Array kind.Objects = Err WrongElement
kind_answer Array _ = Ok tt
kind_answer Text kind.Text = Ok tt
kind_answer Text _ = Err WrongKind

-- what a new level asks of an object, where n of them stand
abbrev pub level_checks : Wanted → Kind → ℕ → ℕ → Call ℕ
level_checks Array k n o = do
  refuse_if (not (is_array k)) NotArray
  refuse_if (not (is_primitive k)) WrongElement
  refuse_if (nat_le LEVELS n) Size
  done o
level_checks Text k n o = do
  refuse_if (not (is_text k)) WrongKind
  refuse_if (nat_le LEVELS n) Size
  done o

-- the object for a new level, where n of them stand
abbrev pub level_work : Wanted → Config → ℕ → ℕ → State → ℕ → Word → Call ℕ
level_work wanted c last t s n a = do
  x ← resolved c last t a
  o ← not_null x
  for_object s o (λ k m. level_checks wanted k n o)

-- it is the new level
abbrev pub level_nesting : Wanted → Config → ℕ → ℕ → State → List ℕ → Word → Call (ℕ × List ℕ)
level_nesting wanted c last t s levels a = do
  o ← level_work wanted c last t s (length levels) a
  nested levels o

-- the object of a level that was found, as the call answers it
abbrev pub object_found : Result Level Fault → Result ℕ Fault
object_found (Ok l) = Ok l.object
object_found (Err e) = Err e

-- the header of a level that was found is known beside what the
-- pass held, and a refusal lets each header be known that was
abbrev pub LearnsLevel : Result Level Fault → Known → Known → Type 0
LearnsLevel (Ok l) j k = Learns l.object l.header j k
LearnsLevel (Err e) j k = GoesOnKnowing j k

-- the object for a new level was found in a stay, or refused, by at most one operation beside the acts
abbrev pub FindsLevel : {S : Type 0} → (S → Facts) → S → S → Frames → Wanted → ℕ → Word → Result Level Fault → Type 0
FindsLevel facts old new f wanted n a answer = Performed facts old new f f 1 (Holds f)
    (λ s. level_work wanted (facts old).stands.config (facts old).stands.last (facts old).stands.thread s n a)
    (object_found answer) (λ j k. LearnsLevel answer j k × Holds f k)
