-- THREADS THAT SHARE NOTHING print what each prints alone, where all that they make fits together
use Rattle.std.specs.Prelude.{◌≡◌, ◌<◌, ◌≤◌, ◌+◌, ℕ, Bool, true, false, List, [], ◌∷◌, ◌++◌, map, length}
use Rattle.std.specs.List.{AllByRecursion, sum_by}
use Rattle.jr_word.specs.declared.config.Config.{Config}
use Rattle.jr_model.specs.declared.summary.Summary.{Summary}
use Rattle.jr_world.specs.Doing.{as_seen, first_shared}
use Rattle.jr_syntax.specs.declared.thread.ThreadPart.{ThreadPart}
use Rattle.jr_syntax.specs.declared.script.Script.{Script}
use Rattle.jr_syntax.specs.declared.command.Command.{Command}
use Rattle.jr_syntax.specs.declared.command.Command.TheVariants as commands
use Rattle.jr_syntax.specs.declared.verb.Make.TheVariants as make
use Rattle.jr_syntax.specs.declared.verb.MakeFrom.TheVariants as make_from
use Rattle.jr_scripts.specs.Places.{nowhere}
use Rattle.jr_scripts.specs.Text.{ending, text_of_parts}
use Rattle.jr_scripts.specs.Together.{MeansTogether, summary_of}
use Rattle.jr_scripts.specs.OneRow.{Course, IsUndisturbed, Manner, course_of, manner_of}
use Rattle.jr_scripts.specs.OneRow.Manner.{collects, waits}

-- a command that neither waits for others nor collects
abbrev pub is_for_itself : Manner → Bool
is_for_itself (waits n) = false
is_for_itself collects = false
is_for_itself _ = true

-- WHAT A COMMAND MAY MAKE: references in slots, objects, and words of array space
abbrev pub slots_wanted : Command → ℕ
slots_wanted (commands.MakeFrom make_from.Global n r) = 1
slots_wanted (commands.MakeFrom make_from.Weak n r) = 1
slots_wanted _ = 0

abbrev pub objects_wanted : Command → ℕ
objects_wanted (commands.Make make.Plain n) = 1
objects_wanted (commands.MakeSized v n len) = 1
objects_wanted (commands.MakeFilled v n len r) = 1
objects_wanted (commands.MakeText v n units) = 1
objects_wanted _ = 0

abbrev pub words_wanted : Command → ℕ
words_wanted (commands.MakeSized v n len) = len
words_wanted (commands.MakeFilled v n len r) = len
words_wanted (commands.MakeText v n units) = length units
words_wanted _ = 0

-- what all commands of all parts ask for
abbrev pub in_all : (Command → ℕ) → List ThreadPart → ℕ
in_all asked parts = sum_by (λ p. sum_by asked p.commands) parts

-- THEY SHARE NOTHING
pub record SharesNothing (s : Script) : Type 0 where
  pub for_itself : AllByRecursion (λ p. AllByRecursion (λ x. is_for_itself (manner_of x) ≡ true) p.commands) s.threads
  pub slots : in_all slots_wanted s.threads ≤ s.config.slots
  pub objects : in_all objects_wanted s.threads ≤ s.config.objects
  pub words : in_all words_wanted s.threads ≤ s.config.words

module _ (c : Config) (turns : ℕ) where
  -- THE COURSE OF A PART ALONE, which stands on this line
  abbrev pub course_alone : ℕ → ThreadPart → Course
  course_alone line p = course_of c turns (map (λ x. (0, x)) p.commands) (record {
    threads = λ t. record { place = nowhere; words = []; line = line + 1; text = [] };
    shared = first_shared 1;
  })

  -- those of these parts, of which the first stands on this line
  abbrev pub courses_alone : ℕ → List ThreadPart → List Course
  courses_alone line [] = []
  courses_alone line (p ∷ ps) = course_alone line p ∷ courses_alone (line + 1 + length p.commands) ps

abbrev pub summary_of_course : Course → Summary
summary_of_course w = summary_of (as_seen 0 w.shared)

-- what stands at their ends, together
abbrev pub summary_of_all : List Course → Summary
summary_of_all ws = record {
  globals = sum_by (λ w. (summary_of_course w).globals) ws;
  weaks = sum_by (λ w. (summary_of_course w).weaks) ws;
  live = sum_by (λ w. (summary_of_course w).live) ws;
  used = sum_by (λ w. (summary_of_course w).used) ws;
}

-- THE TEXT of the parts, each alone
abbrev pub text_of_courses : List ThreadPart → List Course → List ℕ
text_of_courses parts ws = text_of_parts parts (map (λ w. (w.threads 0).text) ws) ++ ending (summary_of_all ws)

abbrev pub text_alone : ℕ → Script → List ℕ
text_alone turns s = text_of_courses s.threads (courses_alone s.config turns 2 s.threads)

-- WHERE THEY SHARE NOTHING, they print so, by each schedule by which no copy is in vain
abbrev pub PrintAsAlone : Type 0
PrintAsAlone = (turns : ℕ) (s : Script) (text : List ℕ) → 0 < turns → length s.threads ≡ s.config.threads
    → SharesNothing s → MeansTogether turns s text → IsUndisturbed text → text ≡ text_alone turns s
