-- Runs of whole threads and scripts, for whatever was known.
use Rattle.std.specs.Prelude.{◌≡◌, ◌≢◌, ℕ, true, false, List, [], ◌∷◌, ◌++◌, Result, Ok, Err}
use Rattle.std.specs.List.{AllByRecursion}
use Rattle.std.specs.declared.alloc.AllocError.{AllocError}
use Rattle.jr_word.specs.declared.config.Config.{Config}
use Rattle.jr_word.specs.declared.fault.Fault.{Fault}
use Rattle.jr_word.specs.Config.{in_limits}
use Rattle.jr_model.specs.declared.event.Event.{Event}
use Rattle.jr_model.specs.declared.event.Act.TheVariants.{Gate, ShutBusy, ReserveLost}
use Rattle.jr_model.specs.declared.event.GateAct.TheVariants.{Knock}
use Rattle.jr_model.specs.State.{summary}
use Rattle.jr_model.specs.History.{History, state, IsLegal, PassView}
use Rattle.jr_model.specs.Frames.{fresh_frames}
use Rattle.jr_syntax.specs.declared.command.Command.{Command}
use Rattle.jr_syntax.specs.declared.thread.ThreadPart.{ThreadPart}
use Rattle.jr_syntax.specs.declared.script.Script.{Script}
use Rattle.jr_syntax.specs.Script.{all_apart, posts_of}
use Rattle.jr_steps.specs.declared.steps.Steps.{Ghosts}
use Rattle.jr_steps.specs.Holdings.{empty}
use Rattle.jr_gate.specs.Performing.{ThreadState}
use Rattle.jr_env.specs.declared.env.Env.{Env}
use Rattle.jr_env.specs.Deeds.{Deed, free_locals}
use Rattle.jr_env.specs.Envs.{WasDone}
use Rattle.jr_scripts.specs.declared.reply.Reply.{Reply}
use Rattle.jr_scripts.specs.Names.{Names}
use Rattle.jr_scripts.specs.Posting.{Speech, ThreadWords, said_alone, words_after}
use Rattle.jr_scripts.specs.Commands.{tried}
use Rattle.jr_scripts.specs.Text.{printed, names_set, heading, ending}
use Rattle.jr_scripts.specs.Explains.{Explained, LeavesText}
use Rattle.jr_scripts.specs.AloneAnswers.{AnswersAlone}
use Rattle.jr_scripts.specs.Meaning.{MeansText}

-- THE COMMANDS RUN, and add the text: from one moment to the other all of it is explained, or memory was refused
abbrev pub running : Speech → ℕ → ℕ → List Command → List ℕ → Deed (Unit {0})
running speech turns first commands text begun answer told =
    LeavesText speech turns first begun commands answer text told

-- A THREAD'S END: from one moment to the other its local references were freed, by a
-- call that was made again where it was barred, up to so many in all, with this answer
pub record IsFreed (turns : ℕ) (told left : ThreadState) : Type 0 where
  pub answer : Result (Unit {0}) Fault
  pub tries : tried turns free_locals told answer left

-- the commands run, and then the local references are freed: the text is explained up to a moment in between
abbrev pub running_to_end : Speech → ℕ → ℕ → List Command → List ℕ → Deed (Unit {0})
running_to_end speech turns first commands text begun answer left =
    (told : ThreadState) × LeavesText speech turns first begun commands answer text told × IsFreed turns told left

module _ {S : Type 0} {G : Ghosts S} where
  -- the commands were run
  abbrev pub RanThread : Env S G → Env S G → Speech → ℕ → ℕ → List Command → Result (Unit {0}) Fault → List ℕ → Type 0
  RanThread old new speech turns first commands answer text =
      WasDone old new (running speech turns first commands text) answer

  -- the commands were run, and then the local references were freed
  abbrev pub RanToEnd : Env S G → Env S G → Speech → ℕ → ℕ → List Command → Result (Unit {0}) Fault → List ℕ → Type 0
  RanToEnd old new speech turns first commands answer text =
      WasDone old new (running_to_end speech turns first commands text) answer

-- what is kept of a command that was done:
-- its line is written, its name set, and its word kept, or memory was refused and nothing is written
abbrev pub WritesDown : ℕ → Command → Result Reply Fault → Names → Names → ThreadWords → ThreadWords
    → Result (Unit {0}) AllocError → List ℕ → List ℕ → Type 0
WritesDown number c answer names names' words words' (Ok _) old new = (names' ≡ names_set c answer names)
    × (words' ≡ words_after names c answer words) × (new ≡ old ++ printed number c answer)
WritesDown number c answer names names' words words' (Err _) old new = new ≡ old

-- a pass of thread 0 that has seen this
abbrev pub seeing : Config → ℕ → History → PassView
seeing c last seen = record { config = c; last = last; thread = 0; seen = seen }

-- before the first command: nothing has happened, no local reference stands,
-- the pass is spent, and the first search for a free slot begins at slot 0
abbrev pub opening_moment : Config → ℕ → ThreadState
opening_moment c last =
    record { pass = seeing c last []; frames = fresh_frames c.locals; held = empty; fresh = false; hint = 0; taken = 0 }

-- thread 0 did it, and it is no knock at a shut gate, no shut that others
-- were in the way of, and no reservation that another was faster at
pub record IsUnbarred (e : Event) : Type 0 where
  pub own : e.thread ≡ 0
  pub enters : e.act ≢ Gate Knock
  pub shuts : (n : ℕ) → e.act ≢ ShutBusy n
  pub reserves : (n looked found : ℕ) → e.act ≢ ReserveLost n looked found

-- A RUN of a script of one thread: there is a legal history of the sequential machine, with the events
-- of its commands' calls and then of freeing its local references, and no others, that explains the
-- text; no call was barred, refused a shut or raced, each answer that is a refusal is a lone thread's,
-- and where there are turns the references were freed; each wait has the word that an earlier line
-- posted under its name, and is E20 where none did; and the last lines tell of the last state
pub record IsRun (turns last : ℕ) (c : Config) (part : ThreadPart) (text : List ℕ) : Type 0 where
  pub seen : History
  pub lines : List ℕ
  pub legal : IsLegal c last seen
  pub alone : AllByRecursion IsUnbarred seen
  pub told : ThreadState
  pub explained : Explained said_alone turns 3 (opening_moment c last) part.commands lines told
  pub answers : AnswersAlone explained.explains
  pub left : ThreadState
  pub freed : IsFreed turns told left
  pub freed_all : turns ≢ 0 → freed.answer ≡ Ok tt
  pub saw : left.pass ≡ seeing c last seen
  pub text_is : text ≡ heading part.name ++ lines ++ ending (summary c last (state seen))

-- the part of a script of one thread, whose sizes are within the limits, and which posts no name twice
pub record HasPart (s : Script) (part : ThreadPart) : Type 0 where
  pub part_is : s.threads ≡ part ∷ []
  pub one : s.config.threads ≡ 1
  pub limits : in_limits s.config ≡ true
  pub once : all_apart (posts_of s.threads) ≡ true

abbrev pub IsSingle : Script → Type 0
IsSingle s = (part : ThreadPart) × HasPart s part

-- the script was run, and the output grew by its text, which is what the part means
pub record RunsSingle (turns last : ℕ) (s : Script) (old new : List ℕ) : Type 0 where
  pub part : ThreadPart
  pub has : HasPart s part
  pub text : List ℕ
  pub grew : new ≡ old ++ text
  pub run : IsRun turns last s.config part text
  pub means : MeansText turns last s.config part text
