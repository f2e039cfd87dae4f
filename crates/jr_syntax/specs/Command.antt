-- The commands: their words, their arguments, and what a line of words is.
use Rattle.std.specs.Prelude.{◌≡◌, ℕ, Bool, true, false, List, [], ◌∷◌, Option, Some, None, Result, Ok, Err, codes}
use Rattle.std.specs.List.{find}
use Rattle.std.specs.Option.{option_map, option_map_or}
use Rattle.std.specs.Str.{bytes_eq}
use Rattle.jr_syntax.specs.declared.argument.LineError.{LineError}
use Rattle.jr_syntax.specs.declared.argument.LineError.TheVariants as errors
use Rattle.jr_syntax.specs.declared.verb.Verb.{Verb}
use Rattle.jr_syntax.specs.declared.verb.Verb.TheVariants.{Make, MakeFrom, On, OnBoth, OnName, WithCount, MakeSized}
use Rattle.jr_syntax.specs.declared.verb.Verb.TheVariants.{MakeFilled, MakeText, MakeAt, OnAt, SetAt, StoreAt, OnNameAt}
use Rattle.jr_syntax.specs.declared.verb.Verb.TheVariants.{PutAt, Release, OpenLevel, CloseLevel, OfRoom, WithTries}
use Rattle.jr_syntax.specs.declared.verb.Make.TheVariants.{Plain, Wait}
use Rattle.jr_syntax.specs.declared.verb.MakeFrom.TheVariants.{Global, Weak, Local, Pop, Elements}
use Rattle.jr_syntax.specs.declared.verb.On.TheVariants as on
use Rattle.jr_syntax.specs.declared.verb.OnBoth.TheVariants.{Same}
use Rattle.jr_syntax.specs.declared.verb.OnName.TheVariants.{Post}
use Rattle.jr_syntax.specs.declared.verb.WithCount.TheVariants.{Push, Ensure}
use Rattle.jr_syntax.specs.declared.verb.MakeSized.TheVariants as sized
use Rattle.jr_syntax.specs.declared.verb.MakeFilled.TheVariants.{Objects}
use Rattle.jr_syntax.specs.declared.verb.MakeText.TheVariants as text
use Rattle.jr_syntax.specs.declared.verb.MakeAt.TheVariants.{Get}
use Rattle.jr_syntax.specs.declared.verb.OnAt.TheVariants.{Load}
use Rattle.jr_syntax.specs.declared.verb.SetAt.TheVariants as set_at
use Rattle.jr_syntax.specs.declared.verb.StoreAt.TheVariants.{Store}
use Rattle.jr_syntax.specs.declared.verb.OnNameAt.TheVariants as named_at
use Rattle.jr_syntax.specs.declared.verb.PutAt.TheVariants.{Put, PutInLevel}
use Rattle.jr_syntax.specs.declared.verb.Release.TheVariants as releases
use Rattle.jr_syntax.specs.declared.verb.OpenLevel.TheVariants as opens
use Rattle.jr_syntax.specs.declared.verb.CloseLevel.TheVariants.{Newest}
use Rattle.jr_syntax.specs.declared.verb.OfRoom.TheVariants.{Collect}
use Rattle.jr_syntax.specs.declared.verb.WithTries.TheVariants.{CollectAnnounced}
use Rattle.jr_syntax.specs.declared.verb.TheConstants.{VERBS}
use Rattle.jr_syntax.specs.declared.command.Command.{Command}
use Rattle.jr_syntax.specs.declared.command.Command.TheVariants as commands
use Rattle.jr_syntax.specs.Kind.{Arguments, Reading, nothing, one, two, three, before, name}
use Rattle.jr_syntax.specs.Reference.{reference}
use Rattle.jr_syntax.specs.Count.{count, tries}
use Rattle.jr_syntax.specs.Units.{units}
use Rattle.jr_syntax.specs.Value.{value}
use Rattle.jr_syntax.specs.Modes.{mode}

-- ---- the verbs, a row for each

-- the word of a verb
abbrev pub verb_word : Verb → List ℕ
verb_word (Make Plain) = codes "plain"
verb_word (Make Wait) = codes "wait"
verb_word (MakeFrom Global) = codes "global"
verb_word (MakeFrom Weak) = codes "weak"
verb_word (MakeFrom Local) = codes "local"
verb_word (MakeFrom Pop) = codes "pop"
verb_word (MakeFrom Elements) = codes "elems"
verb_word (On on.Drop) = codes "drop"
verb_word (On on.Type) = codes "type"
verb_word (On on.Len) = codes "len"
verb_word (On on.TextLength) = codes "slen"
verb_word (On on.Chars) = codes "chars"
verb_word (OnBoth Same) = codes "same"
verb_word (OnName Post) = codes "post"
verb_word (WithCount Push) = codes "push"
verb_word (WithCount Ensure) = codes "ensure"
verb_word (MakeSized sized.Boolean) = codes "boolean"
verb_word (MakeSized sized.Byte) = codes "byte"
verb_word (MakeSized sized.Char) = codes "char"
verb_word (MakeSized sized.Short) = codes "short"
verb_word (MakeSized sized.Int) = codes "int"
verb_word (MakeSized sized.Long) = codes "long"
verb_word (MakeFilled Objects) = codes "objs"
verb_word (MakeText text.String) = codes "string"
verb_word (MakeAt Get) = codes "get"
verb_word (OnAt Load) = codes "load"
verb_word (SetAt set_at.Set) = codes "set"
verb_word (StoreAt Store) = codes "store"
verb_word (OnNameAt named_at.Get) = codes "eget"
verb_word (OnNameAt named_at.GetInLevel) = codes "cget"
verb_word (PutAt Put) = codes "eput"
verb_word (PutAt PutInLevel) = codes "cset"
verb_word (Release releases.Elements) = codes "release"
verb_word (OpenLevel opens.Array) = codes "crit"
verb_word (OpenLevel opens.Text) = codes "critstr"
verb_word (CloseLevel Newest) = codes "endcrit"
verb_word (OfRoom Collect) = codes "gc"
verb_word (WithTries CollectAnnounced) = codes "gcann"

-- ---- the shapes of commands: the arguments behind a verb

-- how arguments are read as a command
abbrev pub command_of : {X : Type 0} → Arguments X → (X → Command) → Reading (List (List ℕ)) Command
command_of a make = record { has_form = a.has_form; in_range = a.in_range; value = λ ws. make (a.value ws) }

-- how the words behind a verb are read
unfoldable pub behind_verb : Verb → Reading (List (List ℕ)) Command
behind_verb (Make v) = command_of (one name) (λ n. commands.Make v n)
behind_verb (MakeFrom v) = command_of (two name reference) (λ x. commands.MakeFrom v x.0 x.1)
behind_verb (On v) = command_of (one reference) (λ r. commands.On v r)
behind_verb (OnBoth v) = command_of (two reference reference) (λ x. commands.OnBoth v x.0 x.1)
behind_verb (OnName v) = command_of (one name) (λ n. commands.OnName v n)
behind_verb (WithCount v) = command_of (one count) (λ n. commands.WithCount v n)
behind_verb (MakeSized v) = command_of (two name count) (λ x. commands.MakeSized v x.0 x.1)
behind_verb (MakeFilled v) = command_of (three name count reference) (λ x. commands.MakeFilled v x.0 x.1 x.2)
behind_verb (MakeText v) = command_of (before name units) (λ x. commands.MakeText v x.0 x.1)
behind_verb (MakeAt v) = command_of (three name reference count) (λ x. commands.MakeAt v x.0 x.1 x.2)
behind_verb (OnAt v) = command_of (two reference count) (λ x. commands.OnAt v x.0 x.1)
behind_verb (SetAt v) = command_of (three reference count reference) (λ x. commands.SetAt v x.0 x.1 x.2)
behind_verb (StoreAt v) = command_of (three reference count value) (λ x. commands.StoreAt v x.0 x.1 x.2)
behind_verb (OnNameAt v) = command_of (two name count) (λ x. commands.OnNameAt v x.0 x.1)
behind_verb (PutAt v) = command_of (three name count value) (λ x. commands.PutAt v x.0 x.1 x.2)
behind_verb (Release v) = command_of (three name reference mode) (λ x. commands.Release v x.0 x.1 x.2)
behind_verb (OpenLevel v) = command_of (two name reference) (λ x. commands.OpenLevel v x.0 x.1)
behind_verb (CloseLevel v) = command_of (one mode) (λ m. commands.CloseLevel v m)
behind_verb (OfRoom v) = command_of nothing (λ _. commands.OfRoom v)
behind_verb (WithTries v) = command_of (one tries) (λ n. commands.WithTries v n)

-- A command's verb and words, and whether its names are names and its numbers within bounds.
pub record Spelling : Type 0 where
  pub verb : Verb
  pub words : List (List ℕ)
  pub is_good : Bool

abbrev pub spelled : {X : Type 0} → Verb → Arguments X → X → Spelling
spelled v a x = record { verb = v; words = verb_word v ∷ a.spell x; is_good = a.is_good x }

-- how a command is spelled
unfoldable pub spelling_of : Command → Spelling
spelling_of (commands.Make v n) = spelled (Make v) (one name) n
spelling_of (commands.MakeFrom v n r) = spelled (MakeFrom v) (two name reference) (n, r)
spelling_of (commands.On v r) = spelled (On v) (one reference) r
spelling_of (commands.OnBoth v l r) = spelled (OnBoth v) (two reference reference) (l, r)
spelling_of (commands.OnName v n) = spelled (OnName v) (one name) n
spelling_of (commands.WithCount v n) = spelled (WithCount v) (one count) n
spelling_of (commands.MakeSized v n l) = spelled (MakeSized v) (two name count) (n, l)
spelling_of (commands.MakeFilled v n l r) = spelled (MakeFilled v) (three name count reference) (n, l, r)
spelling_of (commands.MakeText v n us) = spelled (MakeText v) (before name units) (n, us)
spelling_of (commands.MakeAt v n r i) = spelled (MakeAt v) (three name reference count) (n, r, i)
spelling_of (commands.OnAt v r i) = spelled (OnAt v) (two reference count) (r, i)
spelling_of (commands.SetAt v r i x) = spelled (SetAt v) (three reference count reference) (r, i, x)
spelling_of (commands.StoreAt v r i x) = spelled (StoreAt v) (three reference count value) (r, i, x)
spelling_of (commands.OnNameAt v n i) = spelled (OnNameAt v) (two name count) (n, i)
spelling_of (commands.PutAt v n i x) = spelled (PutAt v) (three name count value) (n, i, x)
spelling_of (commands.Release v n r m) = spelled (Release v) (three name reference mode) (n, r, m)
spelling_of (commands.OpenLevel v n r) = spelled (OpenLevel v) (two name reference) (n, r)
spelling_of (commands.CloseLevel v m) = spelled (CloseLevel v) (one mode) m
spelling_of (commands.OfRoom v) = spelled (OfRoom v) nothing tt
spelling_of (commands.WithTries v n) = spelled (WithTries v) (one tries) n

-- ---- what follows from them

abbrev pub words_of_command : Command → List (List ℕ)
words_of_command c = (spelling_of c).words

abbrev pub is_command : Command → Bool
is_command c = (spelling_of c).is_good

-- the verb with a word, as it is found among the code's verbs: no verb is missing there
unfoldable pub verb_of : List ℕ → Option Verb
verb_of word = find (λ v. bytes_eq (verb_word v) word) VERBS

-- whether a line of words has the form of a command, sizes of numbers aside
unfoldable pub line_has_form : List (List ℕ) → Bool
line_has_form [] = false
line_has_form (w ∷ ws) = option_map_or (λ v. (behind_verb v).has_form ws) (verb_of w) false

-- whether its numbers are within bounds
unfoldable pub line_in_range : List (List ℕ) → Bool
line_in_range [] = false
line_in_range (w ∷ ws) = option_map_or (λ v. (behind_verb v).in_range ws) (verb_of w) false

-- the command that it is
unfoldable pub line_command : List (List ℕ) → Option Command
line_command [] = None
line_command (w ∷ ws) = option_map (λ v. (behind_verb v).value ws) (verb_of w)

-- What a line of words was read as.
abbrev pub ReadsLine : List (List ℕ) → Result Command LineError → Type 0
ReadsLine ws (Ok c) = (line_has_form ws ≡ true) × (line_in_range ws ≡ true) × (line_command ws ≡ Some c)
ReadsLine ws (Err errors.Form) = line_has_form ws ≡ false
ReadsLine ws (Err errors.Range) = (line_has_form ws ≡ true) × (line_in_range ws ≡ false)
