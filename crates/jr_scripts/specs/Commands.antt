-- What commands do.
use Rattle.std.specs.Prelude.{◌≡◌, ◌⊎◌, ℕ, ℤ, Bool, true, false, Option, Some, None, Result, Ok, Err, IfErr, [], ◌∷◌}
use Rattle.jr_word.specs.declared.config.Config.{Config}
use Rattle.jr_word.specs.declared.handle.RefKind.{RefKind}
use Rattle.jr_word.specs.declared.handle.RefKind.TheVariants.{Local, Global, Weak}
use Rattle.jr_word.specs.declared.handle.Handle.{Handle}
use Rattle.jr_word.specs.declared.kind.Kind.{Kind}
use Rattle.jr_word.specs.declared.kind.Kind.TheVariants.{Boolean, Byte, Char, Short, Int, Long}
use Rattle.jr_word.specs.declared.fault.Fault.{Fault}
use Rattle.jr_word.specs.declared.fault.Fault.TheVariants as fault
use Rattle.jr_model.specs.State.{State}
use Rattle.jr_model.specs.Calls.{Call}
use Rattle.jr_model.specs.Checks.{Word, Nothing, Malformed, Parts}
use Rattle.jr_model.specs.Programs.{Program, object}
use Rattle.jr_model.specs.CallPrograms.{get_array_critical, get_string_critical}
use Rattle.jr_steps.specs.declared.steps.Steps.{Ghosts}
use Rattle.jr_steps.specs.Holdings.{empty}
use Rattle.jr_syntax.specs.declared.name.Reference.{Reference}
use Rattle.jr_syntax.specs.declared.command.Command.{Command}
use Rattle.jr_syntax.specs.declared.command.Command.TheVariants as commands
use Rattle.jr_syntax.specs.declared.verb.Make.{Make}
use Rattle.jr_syntax.specs.declared.verb.Make.TheVariants as make
use Rattle.jr_syntax.specs.declared.verb.MakeFrom.{MakeFrom}
use Rattle.jr_syntax.specs.declared.verb.MakeFrom.TheVariants as make_from
use Rattle.jr_syntax.specs.declared.verb.On.TheVariants as on
use Rattle.jr_syntax.specs.declared.verb.OnBoth.TheVariants as on_both
use Rattle.jr_syntax.specs.declared.verb.OnName.TheVariants as on_name
use Rattle.jr_syntax.specs.declared.verb.WithCount.{WithCount}
use Rattle.jr_syntax.specs.declared.verb.WithCount.TheVariants as with_count
use Rattle.jr_syntax.specs.declared.verb.OnNameAt.TheVariants as on_name_at
use Rattle.jr_syntax.specs.declared.verb.PutAt.TheVariants as put_at
use Rattle.jr_syntax.specs.declared.verb.Release.TheVariants as release
use Rattle.jr_syntax.specs.declared.verb.MakeSized.{MakeSized}
use Rattle.jr_syntax.specs.declared.verb.MakeSized.TheVariants as make_sized
use Rattle.jr_syntax.specs.declared.verb.OpenLevel.{OpenLevel}
use Rattle.jr_syntax.specs.declared.verb.OpenLevel.TheVariants as at
use Rattle.jr_scripts.specs.declared.reply.Reply.{Reply}
use Rattle.jr_scripts.specs.declared.reply.Reply.TheVariants as replies
use Rattle.jr_frames.specs.Reading.{IsReadAs}
use Rattle.jr_critical.specs.Levels.{opened_by}
use Rattle.jr_gate.specs.Performing.{HasLearned}
use Rattle.jr_scripts.specs.Buffers.{copy_of}
use Rattle.jr_scripts.specs.Names.{Names, buffer_in, getting, putting, reference_in, referent, binding, wanted}
use Rattle.jr_weak.specs.declared.collecting.Collected.{Collected}
use Rattle.jr_env.specs.declared.env.Env.{Env}
use Rattle.jr_env.specs.Collections.{announced_collection, collection}
use Rattle.jr_env.specs.Deeds.{Deed, decided, done, new_plain, new_array, new_object_array, new_string}
use Rattle.jr_env.specs.Deeds.{new_reference, new_local_ref, delete_reference, delete_local_ref, is_same_object}
use Rattle.jr_env.specs.Deeds.{get_object_ref_type, push_local_frame, ensure_local_capacity, pop_local_frame}
use Rattle.jr_env.specs.Deeds.{kind_of, get_array_length, get_string_length, get_object_array_element}
use Rattle.jr_env.specs.Deeds.{set_object_array_element, get_array_region, set_array_region, get_array_elements}
use Rattle.jr_env.specs.Deeds.{release_array_elements, get_string_chars, ◌>>=◌, ◌>>◌, answered_by, within_by}
use Rattle.jr_env.specs.Envs.{Does}
use Rattle.jr_scripts.specs.Tries.{Tried}
use Rattle.jr_scripts.specs.declared.commands.elements.ElementAt.{ElementAt}
use Rattle.jr_scripts.specs.Numbers.{has_numbers, kind_numbered, word_of_number, first_number}

-- the kind of the array that is made
abbrev pub kind_made : MakeSized → Kind
kind_made make_sized.Boolean = Boolean
kind_made make_sized.Byte = Byte
kind_made make_sized.Char = Char
kind_made make_sized.Short = Short
kind_made make_sized.Int = Int
kind_made make_sized.Long = Long

-- the number at an index of an array of a kind, by one call
abbrev pub loading_once : ℕ → ℕ → Kind → Deed Reply
loading_once w i k = answered_by (λ words. replies.Value (first_number k words)) (get_array_region k w i 1)

-- THE NUMBER of an element was read, by one call
pub record ReadsNumber {S : Type 0} {G : Ghosts S} (element : ElementAt) (old new : Env S G)
    (answer : Result Reply Fault) : Type 0 where
  pub does : Does old new (loading_once element.array.0 element.index (kind_numbered element.kind)) answer

module _ (turns : ℕ) where
  -- a call, made again where it was raced, barred or moved
  abbrev pub tried : {A : Type 0} → Deed A → Deed A
  tried one = Tried one turns

  -- a call that makes a reference, or answers NULL
  abbrev pub makes_reference : Deed (Option Handle) → Deed Reply
  makes_reference one = do
    h ← tried one
    done (replies.Made h)

  -- a call that makes an object and a reference to it
  abbrev pub makes_new : Deed Handle → Deed Reply
  makes_new one = do
    h ← tried one
    done (replies.Made (Some h))

  -- the elements of an array of a kind are copied
  abbrev pub copying_as : ℕ → Kind → Deed Reply
  copying_as w k = do
    words ← tried (get_array_elements k w)
    done (replies.Copied (copy_of k words))

  -- the elements of the array that a word names are copied: a call for its kind, and one for the elements
  abbrev pub copying : ℕ → Deed Reply
  copying w = do
    k ← tried (kind_of w)
    decided (has_numbers k)
    copying_as w k

  -- what is made from what a word names
  abbrev pub making_from : MakeFrom → ℕ → Deed Reply
  making_from make_from.Global w = makes_reference (new_reference Global w)
  making_from make_from.Weak w = makes_reference (new_reference Weak w)
  making_from make_from.Local w = makes_reference (new_local_ref w)
  making_from make_from.Pop w = makes_reference (pop_local_frame w)
  making_from make_from.Elements w = copying w

  -- the delete call of the kind
  abbrev pub deleted_of : RefKind → ℕ → Deed (Unit {0})
  deleted_of Local w = tried (delete_local_ref w)
  deleted_of kind w = tried (delete_reference kind w)

  -- the delete call of the word's kind, for NULL that of a local; none for a malformed word
  abbrev pub deleted_as : ℕ → Word → Deed (Unit {0})
  deleted_as w Nothing = deleted_of Local w
  deleted_as w Malformed = decided (Err fault.Stale)
  deleted_as w (Parts h) = deleted_of h.kind w

  abbrev pub deletion : ℕ → Deed (Unit {0})
  deletion w old answer new = (a : Word) × IsReadAs w a × deleted_as w a old answer new

  -- the type of what stands there, 0 for nothing
  abbrev pub type_of : Option Handle → Deed ℕ
  type_of None = done 0
  type_of (Some h) = tried (get_object_ref_type h.0)

  -- the number at an index of an array of a kind
  abbrev pub loading_as : ℕ → ℕ → Kind → Deed Reply
  loading_as w i k = do
    words ← tried (get_array_region k w i 1)
    done (replies.Value (first_number k words))

  -- the number at an index of the array that a word names: a call for its kind, and one for the element
  abbrev pub loading : ℕ → ℕ → Deed Reply
  loading w i = do
    k ← tried (kind_of w)
    decided (has_numbers k)
    loading_as w i k

  -- a number is stored at an index of an array of a kind
  abbrev pub storing_as : ℕ → ℕ → ℤ → Kind → Deed Reply
  storing_as w i v k = do
    word ← decided (word_of_number k v)
    tried (set_array_region k w i (word ∷ []))
    done replies.Done

  -- a number is stored at an index of the array that a word names: a call for its kind, and one that stores
  abbrev pub storing : ℕ → ℕ → ℤ → Deed Reply
  storing w i v = do
    k ← tried (kind_of w)
    decided (has_numbers k)
    storing_as w i v k

-- the call for a new level of a region, where so many stand
abbrev pub get_critical : OpenLevel → ℕ → Program 0 object
get_critical at.Array = get_array_critical
get_critical at.Text = get_string_critical

-- the call that opens a region
abbrev pub opens : OpenLevel → Config → ℕ → ℕ → State → Word → Call ℕ
opens v = opened_by (get_critical v 0)

-- a region is opened over what a word names: the object of its first level;
-- where it is refused the thread holds nothing afterwards
abbrev pub opening_by : OpenLevel → ℕ → Deed ℕ
opening_by v w old answer new =
    (a : Word) × IsReadAs w a × within_by (λ c. 1) (λ c last t s. opens v c last t s a) old answer new
    × IfErr answer (λ e. new.held ≡ empty)

-- a collection, or so many threads were not outside. It is tried once, and never refused
abbrev pub collecting : Deed Reply
collecting old (Ok (replies.Collected c)) new = collection old (Ok c) new
collecting old (Ok (replies.Busy n)) new = collection old (Err (fault.Busy n)) new
collecting old _ new = ⊥

-- a collection, or so many threads kept it out
abbrev pub told : Result Collected Fault → Result Reply Fault
told (Ok c) = Ok (replies.Collected c)
told (Err (fault.Busy n)) = Ok (replies.Busy n)
told (Err e) = Err e

-- a collection that is announced, with so many tries to shut the gate
abbrev pub collecting_announced : ℕ → ℕ → Deed Reply
collecting_announced turns tries old answer new =
    (once : Result Collected Fault) × (answer ≡ told once) × tried turns (announced_collection tries) old once new

-- a name was waited for: some word, with which the thread learns what its poster had seen;
-- or the turns ran out, and nothing has changed
abbrev pub awaited : Deed Reply
awaited old answer new = ((w : Handle) × (answer ≡ Ok (replies.Made (Some w))) × HasLearned old new)
    ⊎ ((answer ≡ Err fault.Turns) × (new ≡ old))

module _ (turns : ℕ) where
  -- what is made of nothing else, or waited for
  abbrev pub making_or_waiting : Make → Deed Reply
  making_or_waiting make.Plain = makes_new turns new_plain
  making_or_waiting make.Wait = awaited

  -- a frame in which so many local references can be made, or whether so many more can be made
  abbrev pub making_room : WithCount → ℕ → Deed Reply
  making_room with_count.Push n = do
    tried turns (push_local_frame n)
    done replies.Done
  making_room with_count.Ensure n = do
    tried turns (ensure_local_capacity n)
    done replies.Done

-- the reference that a command wants
abbrev pub the_reference : Names → Reference → Deed Handle
the_reference names r = decided (wanted (referent names r))

module _ (turns : ℕ) (names : Names) where
  -- an array of objects, each element what a reference names
  abbrev pub filling : ℕ → Reference → Deed Reply
  filling len r = do
    w ← the_reference names r
    makes_new turns (new_object_array len w.0)

  -- a reference to the element at an index of an array of objects
  abbrev pub referring_to : Reference → ℕ → Deed Reply
  referring_to r i = do
    w ← the_reference names r
    makes_reference turns (get_object_array_element w.0 i)

  -- what is made of what a reference names
  abbrev pub made_of : MakeFrom → Reference → Deed Reply
  made_of v r = do
    w ← the_reference names r
    making_from turns v w.0

  -- a region is opened over what a reference names, with turns: the object of its first level
  abbrev pub opening_levels : OpenLevel → Reference → Deed ℕ
  opening_levels v r = do
    w ← the_reference names r
    tried turns (opening_by v w.0)

  -- THE COMMANDS where no region stands: what each does, and its reply; E19 for those of a region
  abbrev pub deed : Command → Deed Reply
  deed (commands.Make v n) = making_or_waiting turns v
  deed (commands.MakeFrom v n r) = made_of v r
  deed (commands.On on.Drop r) = do
    w ← the_reference names r
    deletion turns w.0
    done replies.Done
  deed (commands.On on.Type r) = do
    h ← decided (reference_in (referent names r))
    n ← type_of turns h
    done (replies.Type n)
  deed (commands.On on.Len r) = do
    w ← the_reference names r
    n ← tried turns (get_array_length w.0)
    done (replies.Length n)
  deed (commands.On on.TextLength r) = do
    w ← the_reference names r
    n ← tried turns (get_string_length w.0)
    done (replies.Length n)
  deed (commands.On on.Chars r) = do
    w ← the_reference names r
    units ← tried turns (get_string_chars w.0)
    done (replies.Units units)
  deed (commands.OnBoth on_both.Same q r) = do
    v ← the_reference names q
    w ← the_reference names r
    same ← tried turns (is_same_object v.0 w.0)
    done (replies.Same same)
  deed (commands.OnName on_name.Post n) = done replies.Done
  deed (commands.WithCount v n) = making_room turns v n
  deed (commands.MakeSized v n len) = makes_new turns (new_array (kind_made v) len)
  deed (commands.MakeFilled v n len r) = filling len r
  deed (commands.MakeText v n units) = makes_new turns (new_string units)
  deed (commands.MakeAt v n r i) = referring_to r i
  deed (commands.OnAt v r i) = do
    w ← the_reference names r
    loading turns w.0 i
  deed (commands.SetAt v r i q) = do
    a ← the_reference names r
    w ← the_reference names q
    tried turns (set_object_array_element a.0 i w.0)
    done replies.Done
  deed (commands.StoreAt v r i x) = do
    w ← the_reference names r
    storing turns w.0 i x
  deed (commands.OpenLevel v n r) = do
    o ← opening_levels v r
    done (replies.Level o)
  deed (commands.CloseLevel v mode) = decided (Err fault.InCritical)
  deed (commands.OfRoom v) = collecting
  deed (commands.WithTries v tries) = collecting_announced turns tries
  deed (commands.OnNameAt on_name_at.GetInLevel n i) = decided (Err fault.InCritical)
  deed (commands.PutAt put_at.PutInLevel n i x) = decided (Err fault.InCritical)
  deed (commands.OnNameAt on_name_at.Get n i) = do
    x ← decided (getting i (binding names n))
    done (replies.Value x)
  deed (commands.PutAt put_at.Put n i x) = do
    decided (putting i x (binding names n))
    done replies.Done
  deed (commands.Release release.Elements n r mode) = do
    b ← decided (buffer_in (binding names n))
    w ← the_reference names r
    tried turns (release_array_elements b.kind w.0 b.words mode)
    done replies.Done

-- a command that gives up references
abbrev pub gives_up : Command → Bool
gives_up (commands.On on.Drop r) = true
gives_up (commands.MakeFrom make_from.Pop n r) = true
gives_up _ = false
