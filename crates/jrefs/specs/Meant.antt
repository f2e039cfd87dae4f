-- What `jrefs run` writes of a script, from bytes to bytes.
use Rattle.std.specs.Prelude.{◌≡◌, ℕ, Bool, List, [], ◌∷◌, Option, Some, codes}
use Rattle.std.specs.Io.KnownBytes.{Appends, Keeps}
use Rattle.clap.specs.Words.{Text}
use Rattle.jr_word.specs.declared.config.Config.{Config}
use Rattle.jr_syntax.specs.declared.thread.ThreadPart.{ThreadPart}
use Rattle.jr_syntax.specs.declared.script.Script.{Script}
use Rattle.jr_syntax.specs.Script.{IsScript, text_of}
use Rattle.jr_scripts.specs.Meaning.{text_of_part}
use Rattle.jr_scripts.specs.Together.{MeansTogether}
use Rattle.jrefs.specs.Act.{AppendsBeginning}

-- WHAT IS WRITTEN OF A TEXT of which this holds: all of it at status 0, nothing at status 3, and at status 4 nothing or
-- a beginning; there is no other status
pub data WritesText (IsText : List ℕ → Type 0) (old new : Option (List ℕ)) : ℕ → Type 0 where
  wrote_all : (text : List ℕ) → IsText text → Appends old new text → WritesText IsText old new 0
  wrote_nothing : Keeps old new → WritesText IsText old new 3
  stopped_before : Keeps old new → WritesText IsText old new 4
  stopped_within : (text : List ℕ) → IsText text → AppendsBeginning old new text → WritesText IsText old new 4

-- THE WORDS ARE `run`, and a script is all that is there to be read: so that is written of such a text
abbrev pub WritesOf : Script → (List ℕ → Type 0) → List Text → Option (List ℕ) → Option (List ℕ) → Option (List ℕ) → ℕ
    → Type 0
WritesOf s IsText words known old new status =
    words ≡ codes "run" ∷ [] → IsScript s → known ≡ Some (text_of s) → WritesText IsText old new status

-- a script of these sizes, with the part of one thread
abbrev pub single : Config → ThreadPart → Script
single c part = record { config = c; threads = part ∷ [] }

-- the text of the part, for some choice of which copies find memory
abbrev pub IsTextOf : Config → ThreadPart → List ℕ → Type 0
IsTextOf c part text = (memory : List Bool) × (text ≡ text_of_part memory 10000000 c part)

-- WHAT IS WRITTEN IS WHAT THE SCRIPT MEANS: of one thread, the text of its part; of any number of threads, a text
-- that they mean together
abbrev pub WritesWhatIsMeant : List Text → Option (List ℕ) → Option (List ℕ) → Option (List ℕ) → ℕ → Type 0
WritesWhatIsMeant words known old new status =
    ((c : Config) (part : ThreadPart) → WritesOf (single c part) (IsTextOf c part) words known old new status)
    × ((s : Script) → WritesOf s (MeansTogether 10000000 s) words known old new status)
