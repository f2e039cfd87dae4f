-- That the refusals which a stress may make are those of the machine.
use Rattle.std.specs.Prelude.{◌≤◌, ℕ, Option, IsSome, Err, List, [], ◌∷◌}
use Rattle.jr_word.specs.declared.config.Config.{Config}
use Rattle.jr_word.specs.declared.fault.Fault.{Fault}
use Rattle.jr_word.specs.declared.fault.Fault.TheVariants.{Barred}
use Rattle.jr_model.specs.declared.event.Act.{Act}
use Rattle.jr_model.specs.declared.event.Act.TheVariants.{Gate}
use Rattle.jr_model.specs.declared.event.GateAct.TheVariants.{Knock, Withdraw}
use Rattle.jr_model.specs.State.{State}
use Rattle.jr_model.specs.Calls.{entered}
use Rattle.jr_model.specs.Checks.{Word}
use Rattle.jr_model.specs.Frames.{Frames, free_places}
use Rattle.jr_model.specs.Programs.{AnswerKind, Ending, Program, Which, ended, work_of}
use Rattle.jr_env.specs.Demands.{demand_of}
use Rattle.jr_stressed.specs.Refusals.{IsWant}

-- EACH REFUSAL THAT IS LISTED IS ONE OF THE MACHINE'S CALL, and leaves the frames as they were: E13 of each that
-- enters, and the others of its ending, where its thread has a local place left and it an object to refer to
pub record ListsTheMachines (c : Config) : Type 0 where
  pub barred : (last thread : ℕ) (s : State) (words : Which → Word) {n : ℕ} {a : AnswerKind} (p : Program n a)
      (old : Frames) → entered (work_of c last thread s words p) old (Gate Knock ∷ Gate Withdraw ∷ []) (Err Barred) old
  pub ending : (last thread : ℕ) (words : Which → Word) {n : ℕ} {a : AnswerKind} (e : Ending n a)
      (known : Which → Option ℕ) (o : ℕ) (old : Frames) (f : Fault) → 1 ≤ free_places last old
      → ((w : Which) → IsSome (known w)) → IsWant c (demand_of e) f
      → (acts : List Act) × ended c last thread words e known o old acts (Err f) old
