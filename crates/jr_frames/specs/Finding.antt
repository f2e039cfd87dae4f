-- What a reference names, with its header, found over any steps and frames within a stay, for whatever was known.
use Rattle.std.specs.Prelude.{ℕ, Result, Ok, Err, IfOk}
use Rattle.jr_word.specs.declared.config.Config.{Config}
use Rattle.jr_word.specs.declared.fault.Fault.{Fault}
use Rattle.jr_word.specs.declared.header.HeaderParts.{HeaderParts}
use Rattle.jr_word.specs.declared.kind.Kind.{Kind}
use Rattle.jr_model.specs.State.{State}
use Rattle.jr_model.specs.Frames.{Frames}
use Rattle.jr_model.specs.Calls.{Call, ◌>>=◌, done, for_object}
use Rattle.jr_model.specs.Checks.{Word}
use Rattle.jr_model.specs.Parts.{not_null}
use Rattle.jr_model.specs.References.{resolved}
use Rattle.jr_steps.specs.declared.known.Known.{Known}
use Rattle.jr_steps.specs.Knowing.{Facts, keeps, Holds}
use Rattle.jr_gate.specs.Performing.{Performed}
use Rattle.jr_heap.specs.Heap.{HoldsHeader, Learns}

-- what a reference names, its kind and its length
abbrev pub finding : Config → ℕ → ℕ → State → Word → Call (ℕ × Kind × ℕ)
finding c last thread s a = do
  x ← resolved c last thread a
  o ← not_null x
  for_object s o (λ k n. done (o, k, n))

-- an object that was found by its header, as the call answers it
abbrev pub found_parts : Result (ℕ × HeaderParts) Fault → Result (ℕ × Kind × ℕ) Fault
found_parts (Ok x) = Ok (x.0, x.1.kind, x.1.length)
found_parts (Err e) = Err e

-- the header of what was found is known beside what the pass held, and a refusal leaves what it held
abbrev pub LearnsFound : Result (ℕ × HeaderParts) Fault → Known → Known → Type 0
LearnsFound (Ok x) j k = Learns x.0 x.1 j k
LearnsFound (Err e) j k = keeps j k

module _ {S : Type 0} (facts : S → Facts) where
  -- what a reference names was found in a stay, by at most one operation beside the acts:
  -- the pass knows its header, and the frames go on agreeing with the locals
  abbrev pub Finds : S → S → Frames → Word → Result (ℕ × HeaderParts) Fault → Type 0
  Finds old new f a answer = Performed facts old new f f 1 (Holds f)
      (λ s. finding (facts old).stands.config (facts old).stands.last (facts old).stands.thread s a)
      (found_parts answer) (λ j k. IfOk answer (λ x. HoldsHeader x.0 x.1 k) × Holds f k)

  -- the same, with just what the pass holds then
  abbrev pub FindsBeside : S → S → Frames → Word → Result (ℕ × HeaderParts) Fault → Type 0
  FindsBeside old new f a answer = Performed facts old new f f 1 (Holds f)
      (λ s. finding (facts old).stands.config (facts old).stands.last (facts old).stands.thread s a)
      (found_parts answer) (λ j k. LearnsFound answer j k × Holds f k)
