-- What commands do in a critical region, and the commands that open one.
use Rattle.std.specs.Prelude.{◌≡◌, ℕ, ℤ, suc, zero, List, [], ◌∷◌, length, Err}
use Rattle.jr_word.specs.declared.config.Config.{Config}
use Rattle.jr_word.specs.declared.kind.Kind.{Kind}
use Rattle.jr_word.specs.declared.kind.Kind.TheVariants.{Char, Text}
use Rattle.jr_word.specs.declared.fault.Fault.TheVariants as fault
use Rattle.jr_model.specs.State.{State}
use Rattle.jr_model.specs.Calls.{Call}
use Rattle.jr_model.specs.Checks.{Word}
use Rattle.jr_model.specs.Parts.{region_release}
use Rattle.jr_model.specs.Programs.{at_object}
use Rattle.jr_model.specs.CallPrograms.{region_get, region_kind, region_set}
use Rattle.jr_steps.specs.Holdings.{empty}
use Rattle.jr_frames.specs.Reading.{IsReadAs}
use Rattle.jr_critical.specs.Levels.{nested_by}
use Rattle.jr_gate.specs.Performing.{ThreadState}
use Rattle.jr_env.specs.Deeds.{Deed, decided, done, ◌>>=◌, ◌>>◌, within_by}
use Rattle.jr_syntax.specs.declared.command.Command.{Command}
use Rattle.jr_syntax.specs.declared.command.Command.TheVariants as commands
use Rattle.jr_syntax.specs.declared.verb.Make.{Make}
use Rattle.jr_syntax.specs.declared.verb.Make.TheVariants as make
use Rattle.jr_syntax.specs.declared.verb.OnName.TheVariants as on_name
use Rattle.jr_syntax.specs.declared.verb.OnNameAt.{OnNameAt}
use Rattle.jr_syntax.specs.declared.verb.OnNameAt.TheVariants as on_name_at
use Rattle.jr_syntax.specs.declared.verb.PutAt.{PutAt}
use Rattle.jr_syntax.specs.declared.verb.PutAt.TheVariants as put_at
use Rattle.jr_syntax.specs.declared.verb.OpenLevel.{OpenLevel}
use Rattle.jr_scripts.specs.declared.reply.Reply.{Reply}
use Rattle.jr_scripts.specs.declared.reply.Reply.TheVariants as replies
use Rattle.jr_scripts.specs.Numbers.{has_numbers, number_of_word, word_of_number}
use Rattle.jr_scripts.specs.Places.{Place, by_region, level_wanted, newest, nth_object}
use Rattle.jr_scripts.specs.Commands.{awaited, deed, get_critical, the_reference}

-- the call that adds a level to a region whose levels have these objects
abbrev pub nests : OpenLevel → Config → ℕ → ℕ → State → List ℕ → Word → Call (ℕ × List ℕ)
nests v = nested_by (get_critical v)

-- a level is added over what a word names: its number, and the objects then
abbrev pub nesting : OpenLevel → List ℕ → ℕ → Deed (ℕ × List ℕ)
nesting v objects w old answer new =
    (a : Word) × IsReadAs w a × within_by (λ c. 1) (λ c last t s. nests v c last t s objects a) old answer new

-- the kind of which elements are read: the units of a string are chars
abbrev pub read_kind : Kind → Kind
read_kind Text = Char
read_kind k = k

-- the kind of a level's object, which takes no operation
abbrev pub kind_of_level : ℕ → Deed Kind
kind_of_level o = within_by (λ c. 0) (λ c last t s. at_object c last t s o region_kind)

-- the number at an index of a level's object that is read as of a kind
abbrev pub reading_as : ℕ → ℕ → Kind → Deed Reply
reading_as o i k = do
  word ← within_by (λ c. 0) (λ c last t s. at_object c last t s o (region_get k i))
  done (replies.Value (number_of_word k word))

-- the number at an index of a level's object
abbrev pub level_reading : ℕ → ℕ → Deed Reply
level_reading o i = do
  k ← kind_of_level o
  decided (has_numbers (read_kind k))
  reading_as o i (read_kind k)

-- a number is stored at an index of a level's array of a kind
abbrev pub writing_as : ℕ → ℕ → ℤ → Kind → Deed Reply
writing_as o i x k = do
  word ← decided (word_of_number k x)
  within_by (λ c. 0) (λ c last t s. at_object c last t s o (region_set k i word))
  done replies.Done

-- a number is stored at an index of a level's array:
-- E5 at a string, then E18 where no element is that number, and then E7
abbrev pub level_writing : ℕ → ℕ → ℤ → Deed Reply
level_writing o i x = do
  k ← kind_of_level o
  decided (has_numbers k)
  writing_as o i x k

-- the number at an index of the level that a name means, where levels of these names have these objects
abbrev pub reading_at : List (List ℕ) → List ℕ → List ℕ → ℕ → Deed Reply
reading_at levels objects n i = do
  l ← decided (level_wanted (newest levels n))
  level_reading (nth_object objects l) i

-- a number is stored at an index of it
abbrev pub writing_at : List (List ℕ) → List ℕ → List ℕ → ℕ → ℤ → Deed Reply
writing_at levels objects n i x = do
  l ← decided (level_wanted (newest levels n))
  level_writing (nth_object objects l) i x

-- in a region, only the elements of its levels are read by an index
abbrev pub reading_by : OnNameAt → List (List ℕ) → List ℕ → List ℕ → ℕ → Deed Reply
reading_by on_name_at.GetInLevel levels objects n i = reading_at levels objects n i
reading_by on_name_at.Get levels objects n i = decided (Err fault.InCritical)

-- and only they are written
abbrev pub writing_by : PutAt → List (List ℕ) → List ℕ → List ℕ → ℕ → ℤ → Deed Reply
writing_by put_at.PutInLevel levels objects n i x = writing_at levels objects n i x
writing_by put_at.Put levels objects n i x = decided (Err fault.InCritical)

-- a thread may wait in a region, and make nothing there
abbrev pub waiting_by : Make → Deed Reply
waiting_by make.Wait = awaited
waiting_by make.Plain = decided (Err fault.InCritical)

-- with the first level the stay ends, and the thread holds nothing afterwards
abbrev pub HoldsAfter : ℕ → ThreadState → Type 0
HoldsAfter (suc zero) new = new.held ≡ empty
HoldsAfter _ new = Unit {0}

-- the last of so many levels is given up
abbrev pub giving_up : ℕ → Deed (Unit {0})
giving_up n old answer new = within_by (λ c. 0) (λ c last t s. region_release n) old answer new × HoldsAfter n new

-- all levels are given up, as at the thread's end: where there are some, the thread leaves the gate
abbrev pub giving_up_all : List ℕ → Deed (Unit {0})
giving_up_all [] = done tt
giving_up_all (o ∷ os) = giving_up 1

-- WHAT A COMMAND DOES IN A REGION, and its reply: E19 where it is none of a region, `post` or `wait`
abbrev pub deed_within : Place → Command → Deed Reply
deed_within p (commands.OpenLevel v n r) = do
  w ← the_reference p.names r
  level ← nesting v p.objects w.0
  done (replies.Level (nth_object level.1 level.0))
deed_within p (commands.OnNameAt v n i) = reading_by v p.levels p.objects n i
deed_within p (commands.PutAt v n i x) = writing_by v p.levels p.objects n i x
deed_within p (commands.CloseLevel v mode) = do
  giving_up (length p.objects)
  done replies.Done
deed_within p (commands.OnName on_name.Post n) = done replies.Done
deed_within p (commands.Make v n) = waiting_by v
deed_within p _ = decided (Err fault.InCritical)

-- WHAT A COMMAND DOES where the thread stands, and its reply
abbrev pub deed_at : ℕ → Place → Command → Deed Reply
deed_at turns p c = by_region p.objects (deed turns p.names c) (deed_within p c)
