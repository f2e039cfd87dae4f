-- For the crate's own functions: where a thread stands with its region, and what it did there.
use Rattle.std.specs.Prelude.{◌≡◌, ℕ, List, [], length, Option, Some, None, Result, Ok, Err, Bool, true, false}
use Rattle.jr_word.specs.declared.handle.Handle.{Handle}
use Rattle.jr_word.specs.declared.fault.Fault.{Fault}
use Rattle.jr_word.specs.declared.fault.Fault.TheVariants as fault
use Rattle.jr_model.specs.declared.event.Role.{Role}
use Rattle.jr_model.specs.declared.event.Role.TheVariants.{Outside, Within}
use Rattle.jr_model.specs.Frames.{Frames}
use Rattle.jr_steps.specs.declared.known.Known.{Known}
use Rattle.jr_steps.specs.declared.steps.Steps.{Ghosts}
use Rattle.jr_steps.specs.Knowing.{Holds}
use Rattle.jr_critical.specs.declared.levels.Levels.{Levels}
use Rattle.jr_critical.specs.Levels.{KnowsLevels, StandOver, object_opened, objects_of, role_opened}
use Rattle.jr_env.specs.declared.env.Env.{Env}
use Rattle.jr_env.specs.declared.levels_beside.First.{First}
use Rattle.jr_env.specs.declared.levels_beside.First.TheVariants.{Array, Text}
use Rattle.jr_env.specs.Deeds.{Deed}
use Rattle.jr_env.specs.Envs.{IsOutside, WasDoneFrom}
use Rattle.jr_syntax.specs.declared.command.Command.{Command}
use Rattle.jr_syntax.specs.declared.command.Command.TheVariants as commands
use Rattle.jr_syntax.specs.declared.verb.OpenLevel.{OpenLevel}
use Rattle.jr_syntax.specs.declared.verb.OpenLevel.TheVariants as at
use Rattle.jr_syntax.specs.declared.verb.OnNameAt.{OnNameAt}
use Rattle.jr_syntax.specs.declared.verb.OnNameAt.TheVariants as on_name_at
use Rattle.jr_syntax.specs.declared.verb.PutAt.{PutAt}
use Rattle.jr_syntax.specs.declared.verb.PutAt.TheVariants as put_at
use Rattle.jr_scripts.specs.declared.region.NamedLevels.{NamedLevels}
use Rattle.jr_scripts.specs.declared.reply.Reply.{Reply}
use Rattle.jr_elements.specs.Copies.{answer_in}
use Rattle.jr_scripts.specs.declared.reply.Reply.TheVariants as replies
use Rattle.jr_scripts.specs.Names.{Names, binding, getting, putting}
use Rattle.jr_scripts.specs.Layouts.{Layout}
use Rattle.jr_scripts.specs.Text.{buffers_after}
use Rattle.jr_scripts.specs.Posting.{Account, Keeps, Speech, ThreadWords, talk_of, words_after}
use Rattle.jr_scripts.specs.Places.{Place, levels_after, objects_after}
use Rattle.jr_scripts.specs.RegionCommands.{deed_at}

-- the answer of a command at an index where no region stands: E19 where it is about a level
abbrev pub got_by : OnNameAt → Result Reply Fault → Result Reply Fault
got_by on_name_at.Get answer = answer
got_by on_name_at.GetInLevel answer = Err fault.InCritical

-- the same of one that stores a number
abbrev pub put_by : PutAt → Result Reply Fault → Result Reply Fault
put_by put_at.Put answer = answer
put_by put_at.PutInLevel answer = Err fault.InCritical

-- the answer of a command that makes no call where no region stands: E19 where it is none about an element
abbrev pub answer_without_call : Names → Command → Result Reply Fault
answer_without_call names (commands.OnNameAt v n i) =
    got_by v (answer_in (λ x. replies.Value x) (getting i (binding names n)))
answer_without_call names (commands.PutAt v n i x) =
    put_by v (answer_in (λ _. replies.Done) (putting i x (binding names n)))
answer_without_call names _ = Err fault.InCritical

-- whether a command opens a level
abbrev pub is_opening : Command → Bool
is_opening (commands.OpenLevel v n r) = true
is_opening _ = false

-- what a command does where the thread stands, with what it says and hears
abbrev pub deed_spoken : Speech → ℕ → Place → ThreadWords → Command → Deed Reply
deed_spoken speech turns p words c old answer new =
    deed_at turns p c old answer new × speech p.names words c old.pass.seen answer new.pass.seen

-- the names of the levels of a region, the first first
abbrev pub level_names : Option NamedLevels → List (List ℕ)
level_names None = []
level_names (Some r) = r.names.items

-- their objects
abbrev pub objects_in : Option NamedLevels → List ℕ
objects_in None = []
objects_in (Some r) = objects_of r.levels

-- the place of a thread whose names stand for this, with its region
abbrev pub place_with : Names → Option NamedLevels → Place
place_with names region = record { names = names; levels = level_names region; objects = objects_in region }

-- the thread is within while a region stands
abbrev pub role_with : Option NamedLevels → Role
role_with None = Outside
role_with (Some r) = Within

-- the frames are those of the thread's locals, and the header of each level is known
abbrev pub KnowsWith : Option NamedLevels → Frames → Known → Type 0
KnowsWith None f k = Holds f k
KnowsWith (Some r) f k = KnowsLevels r.levels f k

-- the same of the levels that an opening answered
abbrev pub KnowsOpened : Result Levels Fault → Frames → Known → Type 0
KnowsOpened (Ok v) f k = KnowsLevels v f k
KnowsOpened (Err e) f k = Holds f k

module _ {S : Type 0} {G : Ghosts S} where
  -- a region stands over the env, and each of its levels has a name
  pub record StandsIn (r : NamedLevels) (env : Env S G) : Type 0 where
    pub stand : StandOver r.levels env.held
    pub named : length r.names.items ≡ length (objects_of r.levels)

  -- the thread of the env stands outside, or in a region
  abbrev pub StandsWith : Option NamedLevels → Env S G → Type 0
  StandsWith None env = IsOutside env
  StandsWith (Some r) env = StandsIn r env

module _ {S A : Type 0} {G : Ghosts S} where
  -- the deed was done, from one region to another
  abbrev pub DidWith : Env S G → Env S G → Option NamedLevels → Option NamedLevels → Deed A → Result A Fault → Type 0
  DidWith old new region left deed answer =
      WasDoneFrom old new (KnowsWith region) (KnowsWith left) (role_with left) deed answer

  -- the deed was done in the stay of a region, from its levels to these
  abbrev pub DidWithin : Env S G → Env S G → Levels → Levels → Deed A → Result A Fault → Type 0
  DidWithin old new v w deed answer = WasDoneFrom old new (KnowsLevels v) (KnowsLevels w) Within deed answer

-- what a verb opens a region over, by the handle of it
abbrev pub opened_over : OpenLevel → Handle → First
opened_over at.Array h = Array h
opened_over at.Text h = Text h

module _ {S : Type 0} {G : Ghosts S} where
  -- a region was opened, or refused
  abbrev pub DidOpen : Env S G → Env S G → Deed ℕ → Result Levels Fault → Type 0
  DidOpen old new deed answer =
      WasDoneFrom old new Holds (KnowsOpened answer) (role_opened answer) deed (object_opened answer)

-- A COMMAND WAS DONE where the thread stood, with its board: it did what the command does there, with what it said and
-- heard, and stands where the command leaves it; nothing else of the names, the region and the board was changed
module _ {S B : Type 0} {G : Ghosts S} (layout : B → Layout) (tells : B → Account)
    (looked : B → List ℕ → Option ℕ → B → Type 0) (has : B → ThreadWords → Type 0) where
  pub record DidCommand (turns : ℕ) (c : Command) (words : ThreadWords) (old new : Env S G) (named named' : Names)
      (region region' : Option NamedLevels) (board board' : B) (answer : Result Reply Fault) : Type 0 where
    pub does : DidWith old new region region'
        (deed_spoken (talk_of tells looked turns board') turns (place_with named region) words c) answer
    pub stand : StandsWith region' new
    pub levels : level_names region' ≡ levels_after c answer (level_names region)
    pub objects : objects_in region' ≡ objects_after c answer (objects_in region)
    pub names : named' ≡ buffers_after c answer named
    pub follows : has board' (words_after named c answer words)
    pub kept : Keeps layout tells board board'
