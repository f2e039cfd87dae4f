-- Where a thread stands between its commands: what its names stand for, and the levels of its critical region.
use Rattle.std.specs.Prelude.{ℕ, suc, Bool, true, false, Option, Some, None, List}
use Rattle.std.specs.Prelude.{[], ◌∷◌, ◌++◌, slice_index_or, Result, Ok, Err}
use Rattle.std.specs.Str.{bytes_eq}
use Rattle.jr_word.specs.declared.fault.Fault.{Fault}
use Rattle.jr_word.specs.declared.fault.Fault.TheVariants as fault
use Rattle.jr_syntax.specs.declared.command.Command.{Command}
use Rattle.jr_syntax.specs.declared.command.Command.TheVariants as commands
use Rattle.jr_syntax.specs.declared.verb.Make.TheVariants as make
use Rattle.jr_world.specs.World.{all_but_last}
use Rattle.jr_scripts.specs.declared.reply.Reply.{Reply}
use Rattle.jr_scripts.specs.declared.reply.Reply.TheVariants as replies
use Rattle.jr_scripts.specs.Names.{Names, no_names}
use Rattle.jr_scripts.specs.Text.{names_after}

-- A PLACE in a script: what the names stand for, and the names of the levels of the
-- region with their objects, the first first; there are none where no region stands
pub record Place : Type 0 where
  pub names : Names
  pub levels : List (List ℕ)
  pub objects : List ℕ

-- before the first command no name stands for anything, and no region stands
abbrev pub nowhere : Place
nowhere = record { names = no_names; levels = []; objects = [] }

-- one of two, as a region stands or not
abbrev pub by_region : {A : Type 1} → List ℕ → A → A → A
by_region [] outside within = outside
by_region (o ∷ os) outside within = within

-- the index of a level, where there may be a newer one
abbrev pub or_newer : Bool → Option ℕ → Option ℕ
or_newer here (Some i) = Some (suc i)
or_newer true None = Some 0
or_newer false None = None

-- THE LEVEL THAT A NAME MEANS: the newest of that name, none where no level has it
abbrev pub newest : List (List ℕ) → List ℕ → Option ℕ
newest [] n = None
newest (l ∷ ls) n = or_newer (bytes_eq l n) (newest ls n)

-- a level that is wanted: E2 where it doesn't stand
abbrev pub level_wanted : Option ℕ → Result ℕ Fault
level_wanted (Some i) = Ok i
level_wanted None = Err fault.Stale

-- the object of a level
abbrev pub nth_object : List ℕ → ℕ → ℕ
nth_object objects i = slice_index_or objects i 0

-- the names of the levels after a command: one more where it opened a level, and one less where it gave up the last
abbrev pub levels_after : Command → Result Reply Fault → List (List ℕ) → List (List ℕ)
levels_after (commands.OpenLevel v n r) (Ok (replies.Level o)) levels = levels ++ n ∷ []
levels_after (commands.CloseLevel v mode) (Ok reply) levels = all_but_last levels
levels_after _ _ levels = levels

-- and their objects
abbrev pub objects_after : Command → Result Reply Fault → List ℕ → List ℕ
objects_after (commands.OpenLevel v n r) (Ok (replies.Level o)) objects = objects ++ o ∷ []
objects_after (commands.CloseLevel v mode) (Ok reply) objects = all_but_last objects
objects_after _ _ objects = objects

-- THE PLACE AFTER A COMMAND
abbrev pub place_after : Command → Result Reply Fault → Place → Place
place_after c answer p = record {
  names = names_after c answer p.names;
  levels = levels_after c answer p.levels;
  objects = objects_after c answer p.objects;
}

-- whether threads hand each other something by a command
abbrev pub is_speaking : Command → Bool
is_speaking (commands.OnName v n) = true
is_speaking (commands.Make make.Wait n) = true
is_speaking _ = false
