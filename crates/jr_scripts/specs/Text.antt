-- What commands print, and the names that they set.
use Rattle.std.specs.Prelude.{ℕ, Bool, true, false, Option, Some, None, List}
use Rattle.std.specs.Prelude.{[], ◌∷◌, ◌++◌, map, Result, Ok, Err, codes}
use Rattle.std.specs.Fmt.{decimal, signed_decimal}
use Rattle.jr_word.specs.declared.fault.Fault.{Fault}
use Rattle.jr_word.specs.declared.fault.Fault.TheVariants as fault
use Rattle.jr_word.specs.declared.handle.Handle.{Handle}
use Rattle.jr_word.specs.Fault.{fault_number}
use Rattle.jr_model.specs.declared.frames.Mode.{Mode}
use Rattle.jr_model.specs.declared.frames.Mode.TheVariants.{Commit}
use Rattle.jr_model.specs.declared.summary.Summary.{Summary}
use Rattle.jr_syntax.specs.Line.{line as words_line}
use Rattle.jr_syntax.specs.Reference.{reference_word}
use Rattle.jr_syntax.specs.Command.{verb_word}
use Rattle.jr_syntax.specs.declared.verb.Verb.TheVariants.{MakeFrom, On, OnBoth, MakeAt, OnAt, OnNameAt, OfRoom}
use Rattle.jr_syntax.specs.declared.verb.OfRoom.TheVariants.{Collect}
use Rattle.jr_syntax.specs.declared.verb.PutAt.TheVariants as put_at
use Rattle.jr_syntax.specs.declared.verb.Release.TheVariants as release
use Rattle.jr_syntax.specs.declared.thread.ThreadPart.{ThreadPart}
use Rattle.jr_syntax.specs.declared.command.Command.{Command}
use Rattle.jr_syntax.specs.declared.command.Command.TheVariants as commands
use Rattle.jr_scripts.specs.declared.reply.Reply.{Reply}
use Rattle.jr_scripts.specs.declared.reply.Reply.TheVariants as replies
use Rattle.jr_scripts.specs.declared.binding.Binding.{Binding}
use Rattle.jr_scripts.specs.declared.binding.Binding.TheVariants as bound
use Rattle.jr_scripts.specs.Names.{Names, names_put, null, putting, binding, with_name}

-- a line of words with its line feed
abbrev pub text_line : List (List ℕ) → List ℕ
text_line words = words_line words ++ 10 ∷ []

-- the word of an answer
abbrev pub verdict : Bool → List ℕ
verdict true = codes "true"
verdict false = codes "false"

-- what is printed of a collection, announced or not
abbrev pub said_of_collection : Reply → List ℕ
said_of_collection (replies.Collected c) = text_line (verb_word (OfRoom Collect) ∷ codes "cleared" ∷ decimal c.cleared
    ∷ codes "dropped" ∷ decimal c.dropped ∷ codes "used" ∷ decimal c.used ∷ [])
said_of_collection (replies.Busy n) = text_line (verb_word (OfRoom Collect) ∷ codes "busy" ∷ decimal n ∷ [])
said_of_collection _ = []

-- what is printed for a command that was not refused
abbrev pub says : Command → Reply → List ℕ
-- `global N null`, `weak`, `local`, `pop`
says (commands.MakeFrom v n r) (replies.Made None) = text_line (verb_word (MakeFrom v) ∷ n ∷ codes "null" ∷ [])
-- `type REF T`
says (commands.On v r) (replies.Type t) = text_line (verb_word (On v) ∷ reference_word r ∷ decimal t ∷ [])
-- `len REF L`, `slen`
says (commands.On v r) (replies.Length n) = text_line (verb_word (On v) ∷ reference_word r ∷ decimal n ∷ [])
-- `chars REF UNIT ..`
says (commands.On v r) (replies.Units units) = text_line (verb_word (On v) ∷ reference_word r ∷ map decimal units)
-- `same REF REF true`, `same REF REF false`
says (commands.OnBoth v q r) (replies.Same same) =
    text_line (verb_word (OnBoth v) ∷ reference_word q ∷ reference_word r ∷ verdict same ∷ [])
-- `get N null`
says (commands.MakeAt v n r i) (replies.Made None) = text_line (verb_word (MakeAt v) ∷ n ∷ codes "null" ∷ [])
-- `load REF I V`
says (commands.OnAt v r i) (replies.Value x) =
    text_line (verb_word (OnAt v) ∷ reference_word r ∷ decimal i ∷ signed_decimal x ∷ [])
-- `eget N I V`, `cget`
says (commands.OnNameAt v n i) (replies.Value x) =
    text_line (verb_word (OnNameAt v) ∷ n ∷ decimal i ∷ signed_decimal x ∷ [])
-- `gc cleared C dropped D used U`, `gc busy K`
says (commands.OfRoom v) reply = said_of_collection reply
says (commands.WithTries v tries) reply = said_of_collection reply
says _ _ = []

-- a number that stands behind the fault's
abbrev pub number_behind : Fault → List (List ℕ)
number_behind (fault.SpaceFull found) = decimal found ∷ []
number_behind _ = []

-- what is printed for a command that was refused
abbrev pub refused : ℕ → Fault → List ℕ
refused number e = text_line (decimal number ∷ codes "!" ∷ (codes "E" ++ decimal (fault_number e)) ∷ number_behind e)

-- THE TEXT of a command on a line of the script
abbrev pub printed : ℕ → Command → Result Reply Fault → List ℕ
printed number c (Ok reply) = says c reply
printed number c (Err e) = refused number e

-- the name that a command sets
abbrev pub sets : Command → Option (List ℕ)
sets (commands.Make v n) = Some n
sets (commands.MakeFrom v n r) = Some n
sets (commands.MakeSized v n len) = Some n
sets (commands.MakeFilled v n len r) = Some n
sets (commands.MakeText v n units) = Some n
sets (commands.MakeAt v n r i) = Some n
sets _ = None

-- the reference that was made, NULL for none
abbrev pub reference_made : Option Handle → Handle
reference_made None = null
reference_made (Some h) = h

-- what a command that made something makes its name stand for
abbrev pub binding_made : Reply → Option Binding
binding_made (replies.Made h) = Some (bound.Reference (reference_made h))
binding_made (replies.Copied b) = Some (bound.Buffer b)
binding_made _ = None

abbrev pub names_with : Option Binding → Option (List ℕ) → Names → Names
names_with (Some s) (Some n) names = with_name names n s
names_with _ _ names = names

-- the names once a command's own is set: a command that makes something sets its name, and a refused one sets nothing
abbrev pub names_set : Command → Result Reply Fault → Names → Names
names_set c (Ok reply) names = names_with (binding_made reply) (sets c) names
names_set c (Err e) names = names

-- what a release leaves of the elements: themselves where it was to commit or was refused, and else nothing
abbrev pub elements_left : {A : Type 0} → Mode → Result Reply Fault → A → Option A
elements_left mode (Err e) x = Some x
elements_left Commit (Ok _) x = Some x
elements_left mode (Ok _) x = None

-- what stands there after a release: the buffer where it was to commit or was refused, and else nothing
abbrev pub left_by : Mode → Result Reply Fault → Binding → Binding
left_by mode (Err e) s = s
left_by Commit (Ok _) s = s
left_by mode (Ok _) s = bound.Nothing

-- the names once a command changed or freed the buffer of its name, which no other command does, and no refused one
abbrev pub buffers_after : Command → Result Reply Fault → Names → Names
buffers_after (commands.PutAt put_at.Put n i x) (Ok reply) names = names_put names n (putting i x (binding names n))
buffers_after (commands.Release release.Elements n r mode) (Ok reply) names =
    with_name names n (left_by mode (Ok reply) (binding names n))
buffers_after _ _ names = names

-- THE NAMES after a command
abbrev pub names_after : Command → Result Reply Fault → Names → Names
names_after c answer names = names_set c answer (buffers_after c answer names)

-- the line before a thread's lines
abbrev pub heading : List ℕ → List ℕ
heading name = codes "[" ++ name ++ codes "]" ++ 10 ∷ []

-- what the threads print, one after the other
abbrev pub text_of_parts : List ThreadPart → List (List ℕ) → List ℕ
text_of_parts (p ∷ ps) (lines ∷ rest) = heading p.name ++ lines ++ text_of_parts ps rest
text_of_parts _ _ = []

-- the last two lines: what stands at the end
abbrev pub ending : Summary → List ℕ
ending s = text_line (codes "[end]" ∷ []) ++ text_line (codes "globals" ∷ decimal s.globals ∷ codes "weaks"
    ∷ decimal s.weaks ∷ codes "live" ∷ decimal s.live ∷ codes "used" ∷ decimal s.used ∷ [])
