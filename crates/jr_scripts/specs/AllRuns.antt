-- Runs of scripts of several threads, in one room and one history.
use Rattle.std.specs.Prelude.{◌≡◌, Option, ◌+◌, ◌<◌, ◌≤◌, ◌^◌, ℕ, zero, suc}
use Rattle.std.specs.Prelude.{true, false, List, [], ◌∷◌, ◌++◌, length, Result}
use mathlib.Core.List.{IsPrefix}
use Rattle.jr_word.specs.declared.config.Config.{Config}
use Rattle.jr_word.specs.declared.fault.Fault.{Fault}
use Rattle.jr_word.specs.Config.{in_limits}
use Rattle.jr_model.specs.declared.event.Act.{Act}
use Rattle.jr_model.specs.declared.event.Act.TheVariants.{Meet}
use Rattle.jr_model.specs.State.{summary}
use Rattle.jr_model.specs.History.{History, state, mine, IsLegal, PassView}
use Rattle.jr_model.specs.Laws.{KeepsTheLaws}
use Rattle.jr_model.specs.Frames.{Frames, fresh_frames}
use Rattle.jr_syntax.specs.declared.command.Command.{Command}
use Rattle.jr_syntax.specs.declared.thread.ThreadPart.{ThreadPart}
use Rattle.jr_syntax.specs.declared.script.Script.{Script}
use Rattle.jr_syntax.specs.Script.{all_apart, posts_of}
use Rattle.jr_rule.specs.declared.pass.Pass.{Pass}
use Rattle.jr_rule.specs.Passes.{Holder, facts_of, holder_of, standing_of}
use Rattle.jr_gate.specs.Performing.{ThreadState}
use Rattle.jr_world.specs.World.{how_many}
use Rattle.jr_steps.specs.Holdings.{empty}
use Rattle.jr_steps.specs.Knowing.{Spent}
use Rattle.jr_env.specs.Deeds.{DoesDeed}
use Rattle.jr_scripts.specs.Text.{ending, text_of_parts}
use Rattle.jr_scripts.specs.PostedNames.{IsOfPosts, commands_of}
use Rattle.jr_scripts.specs.Posting.{Speech, said}
use Rattle.jr_scripts.specs.Explains.{Explained}
use Rattle.jr_scripts.specs.Commands.{gives_up}
use Rattle.jr_scripts.specs.Together.{MeansTogether}
use Rattle.jr_scripts.specs.Runs.{IsFreed, RunsSingle, running_to_end}

-- a thread ran these commands with its pass, which was spent first,
-- freed its local references, and handed the pass back, not fresh
pub record RanPass (speech : Speech) (turns first : ℕ) (commands : List Command) (old new : Pass)
    (answer : Result (Unit {0}) Fault) (text : List ℕ) : Type 0 where
  pub spent : Holder
  pub spends : Spent facts_of (holder_of old) spent
  pub used_up : new.fresh ≡ false
  pub frames : Frames
  pub ran : DoesDeed facts_of spent (holder_of new) (fresh_frames (standing_of old).config.locals) frames
      (running_to_end speech turns first commands text) answer

-- a pass of the thread that has seen this
abbrev pub seeing_as : Config → ℕ → ℕ → History → PassView
seeing_as c last t seen = record { config = c; last = last; thread = t; seen = seen }

-- before the thread's first command: it has seen nothing, no local reference
-- stands, its pass is spent, and its first search for a free slot begins at slot 0
abbrev pub opening_of : Config → ℕ → ℕ → ThreadState
opening_of c last t = record {
  pass = seeing_as c last t [];
  frames = fresh_frames c.locals;
  held = empty;
  fresh = false;
  hint = 0;
  taken = 0;
}

-- what closing the room adds: the first thread looks at the gate
abbrev pub closing_acts : ℕ → List Act
closing_acts zero = Meet ∷ []
closing_acts (suc t) = []

-- A THREAD'S PART in the one history: up to a moment it explains the thread's lines. Up to a later one the thread's
-- local references were freed, and from there on it has no more of the thread's events
pub record IsPartOf (board : List ℕ → Option (ℕ × History)) (rank : List ℕ → ℕ) (turns last : ℕ) (c : Config)
    (whole : History) (t first : ℕ) (part : ThreadPart) (lines : List ℕ) : Type 0 where
  pub told : ThreadState
  pub explained : Explained (said board rank) turns first (opening_of c last t) part.commands lines told
  pub left : ThreadState
  pub freed : IsFreed turns told left
  pub seen : History
  pub saw : left.pass ≡ seeing_as c last t seen
  pub begins : IsPrefix seen whole
  pub own : mine whole t ≡ mine seen t ++ closing_acts t

-- the parts of the threads from t on, of which the first stands on this line
abbrev pub ArePartsOf : (List ℕ → Option (ℕ × History)) → (List ℕ → ℕ) → ℕ → ℕ → Config → History → ℕ → ℕ
    → List ThreadPart → List (List ℕ) → Type 0
ArePartsOf board rank turns last c whole t line [] [] = Unit {0}
ArePartsOf board rank turns last c whole t line (p ∷ ps) (lines ∷ rest) =
    IsPartOf board rank turns last c whole t (line + 1) p lines
    × ArePartsOf board rank turns last c whole (suc t) (line + 1 + length p.commands) ps rest
ArePartsOf board rank turns last c whole t line _ _ = ⊥

-- how many lines these parts are: each thread's own, and one for each command
abbrev pub lines_of_parts : List ThreadPart → ℕ
lines_of_parts [] = 0
lines_of_parts (p ∷ ps) = 1 + length p.commands + lines_of_parts ps

-- A SCRIPT THAT CAN BE RUN has one part a thread and sizes within the limits, and posts no name twice;
-- and the line behind its parts, which begin on line 2, has a number of 64 bits
pub record CanBeRun (s : Script) : Type 0 where
  pub one_each : length s.threads ≡ s.config.threads
  pub limits : in_limits s.config ≡ true
  pub once : all_apart (posts_of s.threads) ≡ true
  pub numbered : 2 + lines_of_parts s.threads < 2 ^ 64

-- A RUN OF ALL: the script can be run, and one legal history, which keeps the laws, explains each thread's part of the
-- text. It has the events of the threads' calls and of their ends, and no others, but for the look as the room closes.
-- There is one board, with words only under names that a line posts, each with what its poster had seen. A post has the
-- word there, and just what its thread had seen; behind a wait, which has it too, all that is seen. Each name has a
-- rank, and no post hangs on one of no lower rank. The last lines tell of the last state
pub record IsRunOfAll (turns last : ℕ) (s : Script) (text : List ℕ) : Type 0 where
  pub whole : History
  pub legal : IsLegal s.config last whole
  pub lawful : KeepsTheLaws whole
  pub lines : List (List ℕ)
  pub board : List ℕ → Option (ℕ × History)
  pub rank : List ℕ → ℕ
  pub posted : IsOfPosts (commands_of s.threads) board
  pub right : CanBeRun s
  pub parts : ArePartsOf board rank turns last s.config whole 0 2 s.threads lines
  pub text_is : text ≡ text_of_parts s.threads lines ++ ending (summary s.config last (state whole))

-- THE TEXT OF A RUN of several threads is what its script means. Serials have 32 bits, and there are more of them than
-- commands that give up references
abbrev pub MeansAll : ℕ → ℕ → Script → List ℕ → Type 0
MeansAll turns last s text =
    last < 2 ^ 32 → how_many gives_up (commands_of s.threads) ≤ last → MeansTogether turns s text

-- what explains a text explains one that its script means
abbrev pub RunsMean : Type 0
RunsMean = (turns last : ℕ) (s : Script) (text : List ℕ) → IsRunOfAll turns last s text → MeansAll turns last s text

-- the script was run, and the output grew by its text, which is what the script means;
-- that of a script of one thread is the text of a run of that thread alone
pub record RunsAll (turns last : ℕ) (s : Script) (old new : List ℕ) : Type 0 where
  pub text : List ℕ
  pub grew : new ≡ old ++ text
  pub run : IsRunOfAll turns last s text
  pub means : MeansAll turns last s text
  pub alone : s.config.threads ≡ 1 → RunsSingle turns last s old new
