-- What explains the text of a thread: the events of its commands' calls.
use Rattle.std.specs.Prelude.{◌≡◌, ◌+◌, ℕ, List, [], ◌∷◌, ◌++◌, length, Result, Ok, Err}
use Rattle.jr_word.specs.declared.fault.Fault.{Fault}
use Rattle.jr_word.specs.declared.fault.Fault.TheVariants as fault
use Rattle.jr_syntax.specs.declared.command.Command.{Command}
use Rattle.jr_scripts.specs.declared.reply.Reply.{Reply}
use Rattle.jr_gate.specs.Performing.{ThreadState}
use Rattle.jr_scripts.specs.Places.{Place, nowhere, place_after}
use Rattle.jr_scripts.specs.Posting.{Speech, ThreadWords, words_after}
use Rattle.jr_scripts.specs.RegionCommands.{deed_at, giving_up_all}
use Rattle.jr_scripts.specs.Text.{printed}

module _ (speech : Speech) (turns first : ℕ) (old : ThreadState) where
  -- From the old moment to the new one the commands were done, each once and in order, the
  -- first on the line `first`, and printed the text; what they posted and waited for is said
  -- so, with what the thread had seen; then the thread stands there, and has these words
  pub data Explains : List Command → List ℕ → ThreadState → Place → ThreadWords → Type 0 where
    nothing : Explains [] [] old nowhere []
    then : {before : List Command} {text : List ℕ} {mid new : ThreadState} {place : Place} {words : ThreadWords}
        (c : Command) (answer : Result Reply Fault)
        → Explains before text mid place words → deed_at turns place c mid answer new
        → speech place.names words c mid.pass.seen answer new.pass.seen
        → Explains (before ++ c ∷ []) (text ++ printed (first + length before) c answer) new
        (place_after c answer place) (words_after place.names c answer words)

  -- THE TEXT IS EXPLAINED: it is that of all commands, and a region that stood then was given up
  pub record Explained (commands : List Command) (text : List ℕ) (new : ThreadState) : Type 0 where
    pub place : Place
    pub words : ThreadWords
    pub done : ThreadState
    pub explains : Explains commands text done place words
    pub ended : giving_up_all place.objects done (Ok tt) new

  -- the first commands were done and no others, and a region that stood then was given up;
  -- the text has all their lines, or lacks that of the last
  pub data IsCutOff (commands : List Command) (text : List ℕ) (new : ThreadState) : Type 0 where
    written : (before rest : List Command) (place : Place) (words : ThreadWords) (done : ThreadState)
        → commands ≡ before ++ rest → Explains before text done place words
        → giving_up_all place.objects done (Ok tt) new → IsCutOff commands text new
    unwritten : (before : List Command) (last : Command) (rest : List Command) (mid done : ThreadState) (place : Place)
        (words : ThreadWords) (answer : Result Reply Fault)
        → commands ≡ before ++ last ∷ rest → Explains before text mid place words
        → deed_at turns place last mid answer done → speech place.names words last mid.pass.seen answer done.pass.seen
        → giving_up_all (place_after last answer place).objects done (Ok tt) new → IsCutOff commands text new

  -- WHAT A RUN of the commands leaves, where it added the text: all of it explained, or memory was refused
  abbrev pub LeavesText : List Command → Result (Unit {0}) Fault → List ℕ → ThreadState → Type 0
  LeavesText commands (Ok _) text new = Explained commands text new
  LeavesText commands (Err e) text new = (e ≡ fault.Memory) × IsCutOff commands text new
