-- SCRIPTS WHOSE COMMANDS STAND IN ONE ROW, by what their threads post and wait for: they print what their commands do
-- one after the other
use Rattle.std.specs.Prelude.{◌≡◌, ◌<◌, ◌+◌, ◌==◌, ◌&&◌, ◌||◌, ℕ, zero, suc, Bool, true, false, cond, not, nat_eq}
use Rattle.std.specs.Prelude.{Result, List, [], ◌∷◌, ◌++◌, length}
use Rattle.std.specs.List.{AllByRecursion}
use Rattle.std.specs.Str.{bytes_eq}
use Rattle.jr_word.specs.declared.config.Config.{Config}
use Rattle.jr_word.specs.declared.fault.Fault.{Fault}
use Rattle.jr_word.specs.declared.fault.Fault.TheVariants as fault
use Rattle.jr_model.specs.declared.frames.Mode.TheVariants.{Abort}
use Rattle.jr_model.specs.Maps.{update}
use Rattle.one_order.specs.Orders.{done_by}
use Rattle.jr_world.specs.Doing.{Shared, as_seen, first_shared, run_alone}
use Rattle.jr_syntax.specs.declared.thread.ThreadPart.{ThreadPart}
use Rattle.jr_syntax.specs.declared.script.Script.{Script}
use Rattle.jr_syntax.specs.declared.command.Command.{Command}
use Rattle.jr_syntax.specs.declared.command.Command.TheVariants as commands
use Rattle.jr_syntax.specs.declared.verb.Make.TheVariants as make
use Rattle.jr_syntax.specs.declared.verb.OnNameAt.TheVariants as on_name_at
use Rattle.jr_syntax.specs.declared.verb.PutAt.TheVariants as put_at
use Rattle.jr_scripts.specs.declared.reply.Reply.{Reply}
use Rattle.jr_scripts.specs.Places.{Place, nowhere, place_after}
use Rattle.jr_scripts.specs.Posting.{ThreadWords, words_after}
use Rattle.jr_scripts.specs.Text.{ending, printed, refused, text_of_parts}
use Rattle.jr_scripts.specs.Together.{MeansTogether, doing_at, summary_of}

-- A ROW: the commands of all threads in one order, each behind its thread
abbrev pub CommandRow : Type 0
CommandRow = List (ℕ × Command)

abbrev pub part_commands : List ThreadPart → ℕ → List Command
part_commands [] t = []
part_commands (p ∷ ps) zero = p.commands
part_commands (p ∷ ps) (suc t) = part_commands ps t

pub record IsRowOf (s : Script) (row : CommandRow) : Type 0 where
  pub threads : AllByRecursion (λ x. x.0 < s.config.threads) row
  pub commands : (t : ℕ) → t < s.config.threads → done_by row t ≡ part_commands s.threads t

-- WHAT A COMMAND IS TO OTHER THREADS: it posts a name, or waits for it; it takes no step; it collects; or it takes
-- steps of another kind
pub data Manner : Type 0 where
  posts : List ℕ → Manner
  waits : List ℕ → Manner
  apart : Manner
  collects : Manner
  acts : Manner

abbrev pub manner_of : Command → Manner
manner_of (commands.OnName v n) = posts n
manner_of (commands.Make make.Wait n) = waits n
manner_of (commands.OnNameAt on_name_at.Get n i) = apart
manner_of (commands.PutAt put_at.Put n i x) = apart
manner_of (commands.Release v n r Abort) = apart
manner_of (commands.OfRoom v) = collects
manner_of (commands.WithTries v tries) = collects
manner_of _ = acts

-- THE NEWS of the last command that took steps: which threads know of it, and under which names it was posted since;
-- and which names were posted or waited for at all
pub record News : Type 0 where
  pub is_known_to : ℕ → Bool
  pub is_told_by : List ℕ → Bool
  pub is_spoken : List ℕ → Bool

-- at first each thread knows of all that was done
abbrev pub no_news : News
no_news = record { is_known_to = λ t. true; is_told_by = λ n. false; is_spoken = λ n. false }

abbrev pub and_name : List ℕ → (List ℕ → Bool) → List ℕ → Bool
and_name n f m = bytes_eq m n || f m

-- a command of thread t took steps: itself alone knows
abbrev pub news_of : ℕ → News → News
news_of t k = record k { is_known_to = λ u. u == t; is_told_by = λ n. false }

-- who posts tells what it knows, and who waits for a name knows what was told by it
abbrev pub news_after : ℕ → Manner → News → News
news_after t (posts n) k = record k {
  is_told_by = cond (k.is_known_to t) (and_name n k.is_told_by) k.is_told_by;
  is_spoken = and_name n k.is_spoken;
}
news_after t (waits n) k = record k {
  is_known_to = λ u. (k.is_told_by n && u == t) || k.is_known_to u;
  is_spoken = and_name n k.is_spoken;
}
news_after t apart k = k
news_after t collects k = news_of t k
news_after t acts k = news_of t k

-- thread t comes to know of it in what follows
abbrev pub hears : ℕ → News → CommandRow → Bool
hears t k [] = k.is_known_to t
hears t k (x ∷ xs) = k.is_known_to t || hears t (news_after x.0 (manner_of x.1) k) xs

abbrev pub each_hears : ℕ → News → CommandRow → Bool
each_hears zero k xs = true
each_hears (suc t) k xs = each_hears t k xs && hears t k xs

module _ (threads : ℕ) where
  -- A COMMAND MAY COME NEXT: who takes steps knows of the last that did; of a collection each thread hears before its
  -- end; and a name is posted once, before any wait for it
  abbrev pub may_come : ℕ → Manner → News → CommandRow → Bool
  may_come t (posts n) k xs = not (k.is_spoken n)
  may_come t (waits n) k xs = true
  may_come t apart k xs = true
  may_come t collects k xs = k.is_known_to t && each_hears threads (news_of t k) xs
  may_come t acts k xs = k.is_known_to t

  -- THE ROW IS ORDERED
  abbrev pub is_ordered : News → CommandRow → Bool
  is_ordered k [] = true
  is_ordered k (x ∷ xs) =
      may_come x.0 (manner_of x.1) k xs && is_ordered (news_after x.0 (manner_of x.1) k) xs

-- WHERE A THREAD STANDS between its commands: its place, the words that it posted or heard, the line of the next, and
-- its text
pub record ThreadStand : Type 0 where
  pub place : Place
  pub words : ThreadWords
  pub line : ℕ
  pub text : List ℕ

-- WHERE ALL STAND, and what they share
pub record Course : Type 0 where
  pub threads : ℕ → ThreadStand
  pub shared : Shared

abbrev pub stand_after : Command → Result Reply Fault → ThreadStand → ThreadStand
stand_after x answer p = record {
  place = place_after x answer p.place;
  words = words_after p.place.names x answer p.words;
  line = p.line + 1;
  text = p.text ++ printed p.line x answer;
}

abbrev pub course_with : ℕ → Command → Course → Result Reply Fault × Shared → Course
course_with t x w (answer, s) =
    record { threads = update nat_eq w.threads t (stand_after x answer (w.threads t)); shared = s }

module _ (c : Config) (turns : ℕ) where
  -- one more command of a thread, whole and with luck
  abbrev pub course_after : ℕ → Command → Course → Course
  course_after t x w = course_with t x w (run_alone t true
      (doing_at c turns (w.threads t).place (w.threads t).words (w.threads t).place.objects x) w.shared)

  -- THE COURSE OF A ROW
  abbrev pub course_of : CommandRow → Course → Course
  course_of [] w = w
  course_of (x ∷ xs) w = course_of xs (course_after x.0 x.1 w)

-- before its first command: the first thread's part stands on this line
abbrev pub first_stand : ℕ → List ThreadPart → ℕ → ThreadStand
first_stand line (p ∷ ps) (suc t) = first_stand (line + 1 + length p.commands) ps t
first_stand line _ _ = record { place = nowhere; words = []; line = line + 1; text = [] }

abbrev pub first_course : Script → Course
first_course s = record { threads = first_stand 2 s.threads; shared = first_shared s.config.threads }

-- the texts of threads, the first of them this one
abbrev pub texts_from : ℕ → List ThreadPart → (ℕ → ThreadStand) → List (List ℕ)
texts_from t [] stands = []
texts_from t (p ∷ ps) stands = (stands t).text ∷ texts_from (suc t) ps stands

abbrev pub text_of_course : Script → Course → List ℕ
text_of_course s w = text_of_parts s.threads (texts_from 0 s.threads w.threads)
    ++ ending (summary_of (as_seen 0 w.shared))

-- THE TEXT OF A ROW: what its commands print one after the other. What a thread gives up at its end changes no number
-- of the last line
abbrev pub text_of_row : ℕ → Script → CommandRow → List ℕ
text_of_row turns s row = text_of_course s (course_of s.config turns row (first_course s))

-- NO LINE SAYS THAT A COPY FOUND NO MEMORY, or that a wait was in vain, or a call made again too often
abbrev pub IsUndisturbed : List ℕ → Type 0
IsUndisturbed text = (number : ℕ) (before after : List ℕ)
    → (text ≡ before ++ refused number fault.Memory ++ after → ⊥)
    × (text ≡ before ++ refused number fault.Turns ++ after → ⊥)

-- WHOSE COMMANDS STAND IN ONE ROW, they print its text, by each schedule by which no copy and no wait is in vain
abbrev pub PrintOneText : Type 0
PrintOneText = (turns : ℕ) (s : Script) (row : CommandRow) (text : List ℕ) → 0 < turns
    → length s.threads ≡ s.config.threads → IsRowOf s row → is_ordered s.config.threads no_news row ≡ true
    → MeansTogether turns s text
    → IsUndisturbed text → text ≡ text_of_row turns s row
