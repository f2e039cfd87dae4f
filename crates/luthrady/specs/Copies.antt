-- What the calls did that copy all elements of an array out, and back.
use Rattle.std.specs.Prelude.{◌≡◌, ◌≢◌, ℕ, List, Option, Some, None, Result, Ok, Err, IfErr}
use Rattle.jr_word.specs.declared.fault.Fault.{Fault}
use Rattle.jr_word.specs.declared.fault.Fault.TheVariants.{Range}
use Rattle.jr_word.specs.declared.kind.Kind.{Kind}
use Rattle.jr_model.specs.declared.frames.Mode.{Mode}
use Rattle.jr_model.specs.declared.frames.Mode.TheVariants.{Copy, Commit, Abort}
use Rattle.jr_steps.specs.declared.steps.Steps.{Ghosts}
use Rattle.jr_critical.specs.LevelParts.{part_read}
use Rattle.jr_env.specs.declared.env.Env.{Env}
use Rattle.luthrady.specs.declared.handles.EnvHandle.{EnvHandle}
use Rattle.luthrady.specs.declared.reply.Reply.{Reply}
use Rattle.luthrady.specs.Doings.{WasDoneBy}
use Rattle.luthrady.specs.InRegions.{DoneInRegion, ReadsAll, WritesAll, over_array}
use Rattle.luthrady.specs.Places.{absence}
use Rattle.luthrady.specs.Replies.{reply_of, nothing_told}

-- the number of a mode, as JNI has it
abbrev pub mode_number : Mode → ℕ
mode_number Copy = 0
mode_number Commit = 1
mode_number Abort = 2

-- the mode whose number this is, or none where none has it
abbrev pub IsModeNumber : ℕ → Option Mode → Type 0
IsModeNumber n (Some m) = n ≡ mode_number m
IsModeNumber n None = (m : Mode) → n ≢ mode_number m

module _ {S : Type 0} {G : Ghosts S} where
  -- ALL ELEMENTS OF AN ARRAY WERE READ, as many as these, in a region of its own
  abbrev pub CopiesOut : Kind → Env S G → Env S G → ℕ → ℕ → Result (List ℕ) Fault → Type 0
  CopiesOut kind old new w n answer = DoneInRegion old new w over_array (ReadsAll kind n) answer

  -- ALL ELEMENTS OF AN ARRAY WERE WRITTEN, as many as these words, in a region of its own
  abbrev pub CopiesBack : Kind → Env S G → Env S G → ℕ → List ℕ → Result (Unit {0}) Fault → Type 0
  CopiesBack kind old new w words answer = DoneInRegion old new w over_array (WritesAll kind words) answer

  -- a copy was released by a mode: to copy or to commit writes it back, and to abort does nothing; by none it is E7
  abbrev pub ReleasesBy : Option Mode → Kind → Env S G → Env S G → ℕ → List ℕ → Result (Unit {0}) Fault → Type 0
  ReleasesBy (Some Copy) kind old new w words answer = CopiesBack kind old new w words answer
  ReleasesBy (Some Commit) kind old new w words answer = CopiesBack kind old new w words answer
  ReleasesBy (Some Abort) kind old new w words answer = (answer ≡ Ok tt) × (new ≡ old)
  ReleasesBy None kind old new w words answer = (answer ≡ Err Range) × (new ≡ old)

-- ALL ELEMENTS, so many, WERE COPIED OUT by the env behind the handle, with an answer that the reply tells, and
-- stand in the slice; a refusal leaves it
abbrev pub CopyReplied : Kind → EnvHandle → EnvHandle → ℕ → ℕ → Reply → List ℕ → List ℕ → Type 0
CopyReplied kind old new w n reply before after =
    (answer : Result (Unit {0}) Fault) × (reply ≡ reply_of nothing_told answer)
    × WasDoneBy (λ a b. CopiesOut kind a.env b.env w n (part_read answer after)) (answer ≡ Err (absence old))
    old new × IfErr answer (λ e. after ≡ before)

-- A COPY WAS RELEASED by it, by the mode of a number, with an answer that the reply tells
abbrev pub ReleaseOfCopyReplied : ℕ → Kind → EnvHandle → EnvHandle → ℕ → List ℕ → Reply → Type 0
ReleaseOfCopyReplied mode kind old new w words reply = (m : Option Mode) × IsModeNumber mode m
    × (answer : Result (Unit {0}) Fault) × (reply ≡ reply_of nothing_told answer)
    × WasDoneBy (λ a b. ReleasesBy m kind a.env b.env w words answer) (answer ≡ Err (absence old)) old new
