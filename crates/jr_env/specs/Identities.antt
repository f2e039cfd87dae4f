-- What an identity tells: which references are to one object, and for how long.
use Rattle.std.specs.Prelude.{◌≡◌, ◌==◌, ◌++◌, ℕ, Bool, Ok, List}
use Rattle.std.specs.List.{AllByRecursion}
use Rattle.jr_word.specs.declared.config.Config.{Config}
use Rattle.jr_model.specs.declared.event.Act.{Act}
use Rattle.jr_model.specs.State.{State}
use Rattle.jr_model.specs.History.{History, IsLegal, state}
use Rattle.jr_model.specs.Frames.{AreSound, Frames, LeadsTo}
use Rattle.jr_model.specs.Checks.{Word}
use Rattle.jr_model.specs.Programs.{AnswerKind, AnswerOf, Program, Which, at_both, handed_one, work_of}
use Rattle.jr_model.specs.CallPrograms.{is_same_object}
use Rattle.jr_model.specs.Steps.{ActNeeds}
use Rattle.jr_env.specs.Requests.{identity_of}

-- A PROGRAM ANSWERS SO IN THIS STATE, to a thread with these frames: by acts each of which the machine allows there
pub record AnswersIn (c : Config) (last thread : ℕ) (s : State) (f : Frames) (words : Which → Word) {n : ℕ}
    {a : AnswerKind} (p : Program n a) (x : AnswerOf a) : Type 0 where
  pub acts : List Act
  pub left : Frames
  pub did : work_of c last thread s words p f acts (Ok x) left
  pub allowed : AllByRecursion (ActNeeds c last s thread) acts

module _ (c : Config) (last : ℕ) where
  -- REFERENCES ARE TO ONE OBJECT EXACTLY WHERE THEY HAVE ONE IDENTITY, as IsSameObject tells in the same state
  abbrev pub OneIdentityEach : Type 0
  OneIdentityEach = (thread : ℕ) (s : State) (f : Frames) (v w : Word) (o p : ℕ) (same : Bool)
      → AnswersIn c last thread s f (handed_one v) identity_of o
      → AnswersIn c last thread s f (handed_one w) identity_of p
      → AnswersIn c last thread s f (at_both v w) is_same_object same → same ≡ (o == p)

  -- AN IDENTITY LASTS: whatever happens from one moment to a later one, and so whatever collections are made, a
  -- reference that has an identity at both has the same one, whichever threads ask for it. A local reference is asked
  -- for by its own thread alone, whose frames come from those before
  abbrev pub IdentityLasts : Type 0
  IdentityLasts = (thread later : ℕ) (f g : Frames) (w : Word) (o p : ℕ) (before since : History)
      → IsLegal c last (before ++ since) → AreSound f → (later ≡ thread → LeadsTo last thread f g)
      → AnswersIn c last thread (state before) f (handed_one w) identity_of o
      → AnswersIn c last later (state (before ++ since)) g (handed_one w) identity_of p → p ≡ o
