-- What was done over any steps and frames within a stay, for whatever was known.
use Rattle.std.specs.Prelude.{ℕ, Result, Ok, Err, Option, Some}
use Rattle.jr_word.specs.declared.fault.Fault.{Fault}
use Rattle.jr_model.specs.State.{Handle, State}
use Rattle.jr_model.specs.Frames.{Frames}
use Rattle.jr_model.specs.Calls.{Call}
use Rattle.jr_model.specs.Checks.{Word}
use Rattle.jr_model.specs.References.{resolved}
use Rattle.jr_steps.specs.declared.known.Known.{Known}
use Rattle.jr_steps.specs.Knowing.{Facts, keeps, lets_go, HasObject, HasOptional, Holds}
use Rattle.jr_gate.specs.Performing.{Performed}
use Rattle.jr_frames.specs.Reading.{IsReadAs}

-- the object that was found is present
abbrev pub FoundPresent : Result (Option ℕ) Fault → Known → Type 0
FoundPresent (Ok (Some o)) k = HasObject o k
FoundPresent _ k = Unit {0}

-- each of the two objects that were found, if there is one, is present
abbrev pub FoundBoth : Result (Option ℕ × Option ℕ) Fault → Known → Type 0
FoundBoth (Ok x) k = HasOptional x.0 k × HasOptional x.1 k
FoundBoth (Err e) k = Unit {0}

module _ {S : Type 0} (facts : S → Facts) where
  -- a reference was resolved: the object that was found is present
  abbrev pub Resolves : S → S → Frames → Call (Option ℕ) → Result (Option ℕ) Fault → Type 0
  Resolves old new f call answer =
      Performed facts old new f f 0 (Holds f) (λ s. call) answer (λ j k. keeps j k × Holds f k × FoundPresent answer k)

  -- two references were resolved: the objects that were found are present
  abbrev pub ResolvesBoth : S → S → Frames → Call (Option ℕ × Option ℕ) → Result (Option ℕ × Option ℕ) Fault → Type 0
  ResolvesBoth old new f call answer =
      Performed facts old new f f 0 (Holds f) (λ s. call) answer (λ j k. keeps j k × Holds f k × FoundBoth answer k)

  -- a word that native code handed in was read, and the reference resolved
  abbrev pub ResolvesWord : S → S → Frames → ℕ → Result (Option ℕ) Fault → Type 0
  ResolvesWord old new f w answer = (a : Word) × IsReadAs w a × Resolves old new f
      (resolved (facts old).stands.config (facts old).stands.last (facts old).stands.thread a) answer

  -- a call was made in a stay: the pass holds what it held, and the frames go on agreeing with the locals
  abbrev pub Calls : {A : Type 0} → S → S → Frames → Frames → Call A → Result A Fault → Type 0
  Calls old new f g call answer =
      Performed facts old new f g 0 (Holds f) (λ s. call) answer (λ j k. keeps j k × Holds g k)

  -- a local reference was made to a present object, or none to none, and the frames go on agreeing with the locals
  abbrev pub MakesLocal : S → S → Frames → Frames → Option ℕ → Call (Option Handle) → Result (Option Handle) Fault
      → Type 0
  MakesLocal old new f g o call answer =
      Performed facts old new f g 0 (λ k. Holds f k × HasOptional o k) (λ s. call) answer (λ j k. keeps j k × Holds g k)

  -- a whole call was made, for the state that it leaves:
  -- the pass holds nothing, and the frames go on agreeing with the locals
  abbrev pub CallsWhole : {A : Type 0} → S → S → Frames → Frames → ℕ → (State → Call A) → Result A Fault → Type 0
  CallsWhole old new f g silent call answer =
      Performed facts old new f g silent (Holds f) call answer (λ j k. lets_go j k × Holds g k)
