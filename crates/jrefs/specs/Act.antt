-- What the program does, from the bytes that are there to be read to those that are written, where these are known.
use Rattle.std.specs.Prelude.{◌≡◌, ◌≤◌, ℕ, List, Option, Some, IfSome, length, take, ⊤}
use Rattle.std.specs.Io.KnownBytes.{Appends, Consumes, Keeps}
use Rattle.clap.specs.Words.{Text}
use Rattle.jr_syntax.specs.Faults.{first_fault}
use Rattle.jrefs.specs.declared.request.Request.{Request}
use Rattle.jrefs.specs.declared.request.Request.TheVariants.{Run, Check, Word, Widen}
use Rattle.jrefs.specs.declared.trouble.Trouble.{Trouble}
use Rattle.jrefs.specs.declared.trouble.Trouble.TheVariants as troubles
use Rattle.jrefs.specs.Answer.{IsAnswer}
use Rattle.jrefs.specs.Check.{IsCheck}
use Rattle.jrefs.specs.Describe.{Describes, SaysWidened}
use Rattle.jrefs.specs.Request.{AskNothing, AsksOfScript, asked_for}
use Rattle.jrefs.specs.Trouble.{status_of, trouble_line}

-- what each request is answered, where this text is given
abbrev pub IsReply : Request → List ℕ → List ℕ → Type 0
IsReply Run text output = IsAnswer 10000000 4294967295 text output
IsReply Check text output = IsCheck text output
IsReply (Word w) text output = Describes w output
IsReply (Widen w) text output = SaysWidened w output

-- the output answers a request, where the text is all that was there to be read
pub record IsOutput (r : Request) (known : Option (List ℕ)) (output : List ℕ) : Type 0 where
  pub text : List ℕ
  pub read : IfSome known (λ bytes. bytes ≡ text)
  pub reply : IsReply r text output

-- such an output was written, and nothing else
pub record Answers (r : Request) (known old new : Option (List ℕ)) : Type 0 where
  pub output : List ℕ
  pub is_output : IsOutput r known output
  pub written : Appends old new output

-- the output answers the request that the words ask for
abbrev pub IsOutputFor : List Text → Option (List ℕ) → List ℕ → Type 0
IsOutputFor words known output = (r : Request) × (asked_for words ≡ Some r) × IsOutput r known output

-- it was written, and nothing else
abbrev pub AnswersWords : List Text → Option (List ℕ) → Option (List ℕ) → Option (List ℕ) → Type 0
AnswersWords words known old new = (r : Request) × (asked_for words ≡ Some r) × Answers r known old new

-- known bytes grow by a beginning of these
abbrev pub AppendsBeginning : Option (List ℕ) → Option (List ℕ) → List ℕ → Type 0
AppendsBeginning old new bytes = (n : ℕ) × Appends old new (take n bytes)

-- at most so many known bytes were taken from a reader
abbrev pub ReadsAtMost : ℕ → Option (List ℕ) → Option (List ℕ) → Type 0
ReadsAtMost most old new = (bytes : List ℕ) × (length bytes ≤ most) × Consumes old new bytes

-- why a request has no output: the first fault of what was there to be read, or a reader that failed before the limit;
-- of want of memory nothing is said
abbrev pub Stops : Trouble → Request → Option (List ℕ) → Option (List ℕ) → Type 0
Stops (troubles.Script line reason) r old new =
    AsksOfScript r × IfSome old (λ text. first_fault text ≡ Some (line, reason))
Stops troubles.Memory r old new = ⊤
Stops troubles.Input r old new = AsksOfScript r × ReadsAtMost 65536 old new
Stops _ r old new = ⊥

-- why words have no output: they ask for nothing, or something stops their request
abbrev pub Prevents : Trouble → List Text → Option (List ℕ) → Option (List ℕ) → Type 0
Prevents troubles.Usage words old new = AskNothing words
Prevents troubles.Memory words old new = ⊤
Prevents t words old new = (r : Request) × (asked_for words ≡ Some r) × Stops t r old new

-- what a trouble leaves written: a beginning of the output where a write failed, and else nothing
abbrev pub LeavesWritten : Trouble → List Text → Option (List ℕ) → Option (List ℕ) → Option (List ℕ) → Option (List ℕ)
    → Type 0
LeavesWritten troubles.Output words read left old new =
    (output : List ℕ) × IsOutputFor words read output × AppendsBeginning old new output
LeavesWritten t words read left old new = Prevents t words read left × Keeps old new

-- the program failed with this status:
-- a trouble left what it leaves, and of the line that tells of it a beginning was told
pub record Fails (status : ℕ) (words : List Text) (read left old new told tells : Option (List ℕ)) : Type 0 where
  pub trouble : Trouble
  pub status_is : status ≡ status_of trouble
  pub leaves : LeavesWritten trouble words read left old new
  pub told_line : AppendsBeginning told tells (trouble_line trouble)
