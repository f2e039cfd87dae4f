-- Which names a board has: those that commands post.
use Rattle.std.specs.Prelude.{◌≡◌, ◌⊎◌, ◌++◌, ℕ, Option, Some, List, [], ◌∷◌, IsSome}
use Rattle.std.specs.List.{Contains}
use Rattle.jr_syntax.specs.declared.command.Command.{Command}
use Rattle.jr_syntax.specs.declared.command.Command.TheVariants as commands
use Rattle.jr_syntax.specs.declared.verb.OnName.TheVariants as on_name
use Rattle.jr_syntax.specs.declared.thread.ThreadPart.{ThreadPart}
use Rattle.jr_scripts.specs.Layouts.{cell_number}

-- one of the commands posts the name
abbrev pub IsPosted : List Command → List ℕ → Type 0
IsPosted cs n = Contains cs (commands.OnName on_name.Post n)

-- the commands of all parts
abbrev pub commands_of : List ThreadPart → List Command
commands_of [] = []
commands_of (p ∷ ps) = p.commands ++ commands_of ps

-- a board has words only under names that one of the commands posts
abbrev pub IsOfPosts : {A : Type 0} → List Command → (List ℕ → Option A) → Type 0
IsOfPosts {A = A} cs board = (n : List ℕ) (x : A) → board n ≡ Some x → IsPosted cs n

-- a name that has a number had one before, or one of the commands posts it
abbrev pub AddsPosted : List Command → List (List ℕ × ℕ) → List (List ℕ × ℕ) → Type 0
AddsPosted cs old new = (n : List ℕ) → IsSome (cell_number new n) → IsSome (cell_number old n) ⊎ IsPosted cs n
