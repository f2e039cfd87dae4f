-- Scripts: THE GRAMMAR, as the one text of each script.
use Rattle.std.specs.Prelude.{◌≡◌, ℕ, Bool, true, ◌&&◌, not, List, [], ◌∷◌, ◌++◌, length, map, nat_le, ◌==◌, codes}
use Rattle.std.specs.List.{list_all, list_any, flat_map}
use Rattle.std.specs.Str.{bytes_eq}
use Rattle.std.specs.Fmt.{decimal}
use Rattle.jr_word.specs.declared.config.Config.{Config}
use Rattle.jr_word.specs.Config.{in_limits}
use Rattle.jr_syntax.specs.declared.command.Command.{Command}
use Rattle.jr_syntax.specs.declared.command.Command.TheVariants as commands
use Rattle.jr_syntax.specs.declared.verb.OnName.TheVariants.{Post}
use Rattle.jr_syntax.specs.declared.thread.ThreadPart.{ThreadPart}
use Rattle.jr_syntax.specs.declared.script.Script.{Script}
use Rattle.jr_syntax.specs.Line.{line, word_at, behind}
use Rattle.jr_syntax.specs.Number.{is_number, number_of_digits}
use Rattle.jr_syntax.specs.Kind.{Arguments, one, name}
use Rattle.jr_syntax.specs.Command.{words_of_command, is_command}

-- ---- line 1

-- whether words begin with a key and a number
abbrev pub is_pair : List ℕ → List (List ℕ) → Bool
is_pair key ws = nat_le 2 (length ws) && bytes_eq (word_at ws 0) key && is_number (word_at ws 1)

-- whether words are these keys, each with a number
abbrev pub are_pairs : List (List ℕ) → List (List ℕ) → Bool
are_pairs [] ws = length ws == 0
are_pairs (key ∷ keys) ws = is_pair key ws && are_pairs keys (behind (behind ws))

abbrev pub vm_keys : List (List ℕ)
vm_keys = codes "threads" ∷ codes "slots" ∷ codes "objects" ∷ codes "words" ∷ codes "locals" ∷ []

-- the sizes that such words say
abbrev pub config_at : List (List ℕ) → Config
config_at ws = record {
  threads = number_of_digits (word_at ws 2);
  slots = number_of_digits (word_at ws 4);
  objects = number_of_digits (word_at ws 6);
  words = number_of_digits (word_at ws 8);
  locals = number_of_digits (word_at ws 10);
}

-- `vm threads N slots N objects N words N locals N`
abbrev pub vm : Arguments Config
vm = record {
  has_form = λ ws. nat_le 1 (length ws) && bytes_eq (word_at ws 0) (codes "vm") && are_pairs vm_keys (behind ws);
  in_range = λ ws. in_limits (config_at ws);
  value = config_at;
  spell = λ c. codes "vm" ∷ codes "threads" ∷ decimal c.threads ∷ codes "slots" ∷ decimal c.slots ∷ codes "objects"
      ∷ decimal c.objects ∷ codes "words" ∷ decimal c.words ∷ codes "locals" ∷ decimal c.locals ∷ [];
  is_good = in_limits;
}

-- ---- the parts of the threads

-- `thread NAME`
abbrev pub thread : Arguments (List ℕ)
thread = record {
  has_form = λ ws. nat_le 1 (length ws) && bytes_eq (word_at ws 0) (codes "thread") && (one name).has_form (behind ws);
  in_range = λ _. true;
  value = λ ws. word_at ws 1;
  spell = λ n. codes "thread" ∷ n ∷ [];
  is_good = name.is_good;
}

-- the lines of a thread's part: its thread line, and a line for each command
abbrev pub part_lines : ThreadPart → List (List ℕ)
part_lines p = line (thread.spell p.name) ∷ map (λ c. line (words_of_command c)) p.commands

-- the lines of a script
abbrev pub script_lines : Config → List ThreadPart → List (List ℕ)
script_lines config parts = line (vm.spell config) ∷ flat_map part_lines parts

-- THE GRAMMAR: the text of a script, each line with its line feed
abbrev pub text_of : Script → List ℕ
text_of s = flat_map (λ l. l ++ 10 ∷ []) (script_lines s.config s.threads)

-- ---- which scripts there are

-- no word stands twice
abbrev pub all_apart : List (List ℕ) → Bool
all_apart [] = true
all_apart (x ∷ xs) = not (list_any (bytes_eq x) xs) && all_apart xs

-- the names of threads
abbrev pub names_of : List ThreadPart → List (List ℕ)
names_of parts = map (λ p. p.name) parts

-- the names that a command posts
abbrev pub posted : Command → List (List ℕ)
posted (commands.OnName Post n) = n ∷ []
posted _ = []

-- the names that the commands of parts post
abbrev pub posts_of : List ThreadPart → List (List ℕ)
posts_of parts = flat_map (λ p. flat_map posted p.commands) parts

-- whether its names are names and its numbers within bounds
abbrev pub is_part : ThreadPart → Bool
is_part p = name.is_good p.name && list_all is_command p.commands

-- the limits of a script's text
abbrev pub most_lines : ℕ
most_lines = 4096

abbrev pub most_bytes : ℕ
most_bytes = 65536

-- A script: sizes within their limits, a part for each thread, names of threads
-- that differ, names that are posted once, and a text within its limits.
pub record IsScript (s : Script) : Type 0 where
  pub config : in_limits s.config ≡ true
  pub threads : length s.threads ≡ s.config.threads
  pub parts : list_all is_part s.threads ≡ true
  pub names : all_apart (names_of s.threads) ≡ true
  pub posts : all_apart (posts_of s.threads) ≡ true
  pub lines : nat_le (length (script_lines s.config s.threads)) most_lines ≡ true
  pub bytes : nat_le (length (text_of s)) most_bytes ≡ true
