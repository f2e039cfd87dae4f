-- WHAT A SCRIPT OF ONE THREAD MEANS: its text, by the steps of its commands with nobody between
use Rattle.std.specs.Prelude.{◌≡◌, ◌<◌, ◌≤◌, ◌^◌, ◌+◌, ℕ, Bool, true, Result, List, [], ◌∷◌, ◌++◌, drop, slice_index_or}
use Rattle.jr_word.specs.declared.config.Config.{Config}
use Rattle.jr_word.specs.declared.fault.Fault.{Fault}
use Rattle.jr_world.specs.World.{how_many}
use Rattle.jr_world.specs.Doing.{Shared, as_seen, first_shared, run_alone}
use Rattle.jr_syntax.specs.declared.thread.ThreadPart.{ThreadPart}
use Rattle.jr_syntax.specs.declared.command.Command.{Command}
use Rattle.jr_syntax.specs.declared.command.Command.TheVariants as commands
use Rattle.jr_syntax.specs.declared.verb.MakeFrom.TheVariants as make_from
use Rattle.jr_syntax.specs.declared.verb.On.TheVariants as on
use Rattle.jr_scripts.specs.declared.reply.Reply.{Reply}
use Rattle.jr_scripts.specs.Commands.{gives_up}
use Rattle.jr_scripts.specs.Places.{Place, nowhere, place_after}
use Rattle.jr_scripts.specs.Posting.{ThreadWords, words_after}
use Rattle.jr_scripts.specs.Text.{ending, heading, printed}
use Rattle.jr_scripts.specs.Together.{MeansTogether, doing_at, ends_thread, summary_of}

-- MEMORY, for the copies to come: `elems` and `chars` are one, and find it so. No other luck counts for a thread alone
abbrev pub luck_of : Command → List Bool → Bool
luck_of (commands.MakeFrom make_from.Elements n r) memory = slice_index_or memory 0 true
luck_of (commands.On on.Chars r) memory = slice_index_or memory 0 true
luck_of _ memory = true

abbrev pub memory_left : Command → List Bool → List Bool
memory_left (commands.MakeFrom make_from.Elements n r) memory = drop 1 memory
memory_left (commands.On on.Chars r) memory = drop 1 memory
memory_left _ memory = memory

-- WHERE THE COMMANDS HAVE LED: the text, the place, the words that were posted or heard, the memory that is left, and
-- what stands then
pub record Told : Type 0 where
  pub text : List ℕ
  pub place : Place
  pub words : ThreadWords
  pub memory : List Bool
  pub shared : Shared

-- one more command, on this line
abbrev pub tells : ℕ → Command → Told → Result Reply Fault × Shared → Told
tells line x t (answer, s) = record {
  text = t.text ++ printed line x answer;
  place = place_after x answer t.place;
  words = words_after t.place.names x answer t.words;
  memory = memory_left x t.memory;
  shared = s;
}

module _ (c : Config) (turns : ℕ) where
  abbrev pub told_after : ℕ → Command → Told → Told
  told_after line x t = tells line x t
      (run_alone 0 (luck_of x t.memory) (doing_at c turns t.place t.words t.place.objects x) t.shared)

  -- THE TEXT of commands, of which the first stands on this line
  abbrev pub told_from : ℕ → List Command → Told → Told
  told_from line [] t = t
  told_from line (x ∷ xs) t = told_from (line + 1) xs (told_after line x t)

  -- what stands behind the thread's end
  abbrev pub left_behind : Told → Shared
  left_behind t = (run_alone 0 true (ends_thread c turns t.place.names t.words t.place.objects) t.shared).1

abbrev pub first_told : List Bool → Told
first_told memory =
    record { text = []; place = nowhere; words = []; memory = memory; shared = first_shared 1 }

-- THE TEXT OF A PART, where copies find memory so
abbrev pub text_of_part : List Bool → ℕ → Config → ThreadPart → List ℕ
text_of_part memory turns c part =
    heading part.name ++ (told_from c turns 3 part.commands (first_told memory)).text
    ++ ending (summary_of (as_seen 0
    (left_behind c turns (told_from c turns 3 part.commands (first_told memory)))))

-- THE TEXT OF A RUN IS WHAT ITS SCRIPT MEANS, where serials have 32 bits, and there are more of them than commands that
-- give up references
abbrev pub MeansText : ℕ → ℕ → Config → ThreadPart → List ℕ → Type 0
MeansText turns last c part text = last < 2 ^ 32 → how_many gives_up part.commands ≤ last
    → (memory : List Bool) × (text ≡ text_of_part memory turns c part)

-- ONE THREAD IS A CASE of several: what a script of one thread means is the text of its part, for some choice of which
-- copies find memory
abbrev pub AloneIsACase : Type 0
AloneIsACase = (turns : ℕ) (c : Config) (part : ThreadPart) (text : List ℕ) → c.threads ≡ 1
    → MeansTogether turns (record { config = c; threads = part ∷ [] }) text
    → (memory : List Bool) × (text ≡ text_of_part memory turns c part)
