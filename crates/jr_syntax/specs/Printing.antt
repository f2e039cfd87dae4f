-- For the crate's own functions: the arguments of a command as it is printed.
use Rattle.std.specs.Prelude.{ℕ, Bool, true, false, List}
use Rattle.jr_syntax.specs.declared.command.Command.{Command}
use Rattle.jr_syntax.specs.declared.command.Command.TheVariants as commands
use Rattle.jr_syntax.specs.Line.{behind}
use Rattle.jr_syntax.specs.Command.{words_of_command}

-- whether a command's shape has three arguments
abbrev pub has_three_arguments : Command → Bool
has_three_arguments (commands.MakeFilled v n l r) = true
has_three_arguments (commands.MakeAt v n r i) = true
has_three_arguments (commands.SetAt v r i x) = true
has_three_arguments (commands.StoreAt v r i x) = true
has_three_arguments (commands.PutAt v n i x) = true
has_three_arguments (commands.Release v n r m) = true
has_three_arguments _ = false

-- the words behind a command's verb
abbrev pub arguments_of : Command → List (List ℕ)
arguments_of c = behind (words_of_command c)
