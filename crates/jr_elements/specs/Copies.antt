-- Copies of elements: what is answered of them, and what a release leaves of them.
use Rattle.std.specs.Prelude.{ℕ, Result, Ok, Err, Option, Some, None, []}
use Rattle.jr_word.specs.declared.fault.Fault.{Fault}
use Rattle.jr_model.specs.declared.frames.Mode.{Mode}
use Rattle.jr_model.specs.declared.frames.Mode.TheVariants.{Commit}
use Rattle.jr_model.specs.Frames.{Frames}
use Rattle.jr_model.specs.Calls.{Call}

-- an answer as the model's call gives it, or the refusal
abbrev pub answer_in : {A B : Type 0} → (A → B) → Result A Fault → Result B Fault
answer_in form (Ok x) = Ok (form x)
answer_in form (Err e) = Err e

-- what the model's call at copied elements answers: it has no act, and leaves the frames as they were
abbrev pub AnswersAs : {A : Type 0} → Call A → Result A Fault → Type 0
AnswersAs call answer = (f : Frames) → call f [] answer f

-- a copy of n elements takes a load for each, and none where the memory was refused
abbrev pub copy_steps : {A : Type 0} → ℕ → Result A Fault → ℕ
copy_steps n (Ok x) = n
copy_steps n (Err e) = 0

-- what a release was answered, without the elements that it left or handed back
abbrev pub without_elements : {A : Type 0} → Result (Option A) (A × Fault) → Result (Unit {0}) Fault
without_elements (Ok left) = Ok tt
without_elements (Err refused) = Err refused.1

-- what a release by mode leaves with the caller
abbrev pub kept : {A : Type 0} → Mode → A → Option A
kept Commit x = Some x
kept mode x = None
