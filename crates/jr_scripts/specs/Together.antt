-- WHAT A SCRIPT OF SEVERAL THREADS MEANS: its threads' texts, each of a program of steps over what all share, in some
-- order of their steps
use Rattle.std.specs.Prelude.{◌≡◌, ◌<◌, ◌+◌, ◌==◌, ◌&&◌, ◌||◌, ℕ, zero, suc, Bool, cond, not, nat_lt}
use Rattle.std.specs.Prelude.{Option, Some, None, Result, Ok, Err, List, [], ◌∷◌, ◌++◌, length, slice_index_or}
use Rattle.jr_word.specs.declared.config.Config.{Config}
use Rattle.jr_word.specs.declared.fault.Fault.{Fault}
use Rattle.jr_word.specs.declared.fault.Fault.TheVariants as fault
use Rattle.jr_word.specs.declared.handle.Handle.{Handle}
use Rattle.jr_word.specs.declared.handle.RefKind.TheVariants.{Global, Weak}
use Rattle.jr_model.specs.declared.event.Role.TheVariants.{Outside, Announcing, Collecting}
use Rattle.jr_model.specs.declared.frames.Mode.{Mode}
use Rattle.jr_model.specs.declared.frames.Mode.TheVariants.{Abort}
use Rattle.jr_model.specs.State.{is_barring, is_outside}
use Rattle.jr_model.specs.Programs.{AnswerKind, Program, at_both, none_known}
use Rattle.jr_model.specs.CallPrograms.{delete_local_ref, ensure_local_capacity, free_locals, get_array_elements}
use Rattle.jr_model.specs.CallPrograms.{get_array_length, get_array_region, get_object_array_element}
use Rattle.jr_model.specs.CallPrograms.{get_object_ref_type, get_string_chars, get_string_length, is_same_object}
use Rattle.jr_model.specs.CallPrograms.{kind_of, new_array, new_local_ref, new_object_array, new_plain, new_reference}
use Rattle.jr_model.specs.CallPrograms.{new_string, pop_local_frame, push_local_frame}
use Rattle.jr_model.specs.CallPrograms.{region_get, region_kind, region_set}
use Rattle.jr_model.specs.CallPrograms.{release_array_elements, set_array_region, set_object_array_element}
use Rattle.jr_model.specs.declared.summary.Summary.{Summary}
use Rattle.jr_world.specs.World.{Meaning, MeantOf, World, how_many, refs_of, standing}
use Rattle.jr_world.specs.Doing.{Act, Doing, Noted, Shared, ended, step, whatever, ◌>>=◌, ◌>>◌, decided, done, by_step}
use Rattle.jr_world.specs.Doing.{as_seen, entered_in_steps, first_shared, go_out, in_role, of_others, opened_in_steps}
use Rattle.jr_world.specs.Doing.{over_world, program_steps}
use Rattle.jr_world.specs.Schedules.{Machine, run}
use Rattle.jr_world.specs.Board.{word_under}
use Rattle.jr_weak.specs.declared.collecting.Collected.{Collected}
use Rattle.jr_env.specs.Tries.{is_tried_again}
use Rattle.jr_syntax.specs.declared.name.Reference.{Reference}
use Rattle.jr_syntax.specs.declared.thread.ThreadPart.{ThreadPart}
use Rattle.jr_syntax.specs.declared.script.Script.{Script}
use Rattle.jr_syntax.specs.declared.command.Command.{Command}
use Rattle.jr_syntax.specs.declared.command.Command.TheVariants as commands
use Rattle.jr_syntax.specs.declared.verb.Make.TheVariants as make
use Rattle.jr_syntax.specs.declared.verb.MakeFrom.{MakeFrom}
use Rattle.jr_syntax.specs.declared.verb.MakeFrom.TheVariants as make_from
use Rattle.jr_syntax.specs.declared.verb.On.{On}
use Rattle.jr_syntax.specs.declared.verb.On.TheVariants as on
use Rattle.jr_syntax.specs.declared.verb.WithCount.{WithCount}
use Rattle.jr_syntax.specs.declared.verb.WithCount.TheVariants as with_count
use Rattle.jr_syntax.specs.declared.verb.OnNameAt.TheVariants as on_name_at
use Rattle.jr_syntax.specs.declared.verb.PutAt.TheVariants as put_at
use Rattle.jr_scripts.specs.declared.reply.Reply.{Reply}
use Rattle.jr_scripts.specs.declared.reply.Reply.TheVariants as replies
use Rattle.jr_scripts.specs.Buffers.{Copied, copy_of}
use Rattle.jr_scripts.specs.Commands.{get_critical, kind_made, told}
use Rattle.jr_scripts.specs.Sweeps.{is_found_reached, swept, told_of}
use Rattle.jr_scripts.specs.Names.{Names, binding, buffer_in, getting, null, putting, reference_in, referent, wanted}
use Rattle.jr_scripts.specs.Names.{word_posted}
use Rattle.jr_scripts.specs.Numbers.{first_number, has_numbers, number_of_word, word_of_number}
use Rattle.jr_scripts.specs.Places.{Place, level_wanted, newest, nowhere, nth_object, place_after}
use Rattle.jr_scripts.specs.Posting.{ThreadWords, reply_to_wait, words_after}
use Rattle.jr_scripts.specs.RegionCommands.{read_kind}
use Rattle.jr_scripts.specs.Text.{ending, printed, text_of_parts}

-- A CALL THAT IS MADE AGAIN at once: it was barred, or another thread was faster. So up to so many times, and then E20
abbrev pub tried_in_steps : {A : Type 0} → ℕ → Doing A → Doing A
tried_in_steps zero call = decided (Err fault.Turns)
tried_in_steps (suc n) call =
    whatever call (λ answer. cond (is_tried_again answer) (tried_in_steps n call) (decided answer))

-- COLLECTIONS

-- how many other threads are not outside, and whether one of them keeps the gate closed
abbrev pub others_in : ℕ → Shared → ℕ
others_in t s = how_many (λ r. not (is_outside r)) (in_role Outside t s).roles

abbrev pub is_kept_closed : ℕ → Shared → Bool
is_kept_closed t s = of_others is_barring t s.roles

abbrev pub is_busy : {A : Type 0} → ℕ → Shared → Result A Fault
is_busy t s = Err (fault.Busy (others_in t s))

-- what no thread reaches is gone
abbrev pub sweeps_all : Meaning Collected
sweeps_all w = (Ok (told_of w (swept (is_found_reached w) w)), swept (is_found_reached w) w)

-- the gate is shut; not while others are in
abbrev pub shuts : Act (Unit {0})
shuts t luck s = cond (others_in t s == 0) (Ok tt, in_role Collecting t s) (is_busy t s, s)

-- all that isn't reached goes, and the gate is open again
abbrev pub sweeps_out : Act Collected
sweeps_out t luck s = over_world sweeps_all t luck (in_role Outside t s)

-- a collection, tried once
abbrev pub collected_in_steps : Doing Collected
collected_in_steps = by_step shuts >> by_step sweeps_out

-- before it is announced that the gate will be shut: without luck others come or go meanwhile, where there are others.
-- E23 then; nobody reads its counts
abbrev pub finds_gate_still : Act (Unit {0})
finds_gate_still t luck s = (cond (not luck && nat_lt 1 (length s.roles)) (Err (fault.Moved 0 0)) (Ok tt), s)

-- it is announced; not while another thread keeps the gate closed, and without luck not while others are in
abbrev pub announces : Act (Unit {0})
announces t luck s = cond (is_kept_closed t s || (not luck && nat_lt 0 (others_in t s))) (is_busy t s, s)
    (Ok tt, in_role Announcing t s)

-- the gate is shut, and all goes that isn't reached; or the announcement is taken back
abbrev pub sweep_or_out : Result (Unit {0}) Fault → Doing Collected
sweep_or_out (Ok shut) = by_step sweeps_out
sweep_or_out (Err e) = step go_out (λ out. ended (Err e))

-- a collection that is announced. How often it is tried tells nothing: this is the last try
abbrev pub announced_in_steps : Doing Collected
announced_in_steps = do
  by_step finds_gate_still
  by_step announces
  whatever (by_step shuts) sweep_or_out

-- THE BOARD

-- a word is posted under a name
abbrev pub posts_word : List ℕ → ℕ → Act Reply
posts_word n w t luck s = (Ok replies.Done, record s { board = s.board ++ (n, w) ∷ [] })

-- a wait: at once the word that the thread has; else the one on the board, or E20 without luck, or where none is there
abbrev pub hears_word : List ℕ → Act Reply
hears_word n t luck s = (cond luck (reply_to_wait (word_under s.board n)) (Err fault.Turns), s)

abbrev pub waits_for : Option ℕ → List ℕ → Doing Reply
waits_for (Some w) n = decided (reply_to_wait (Some w))
waits_for None n = by_step (hears_word n)

-- THE COMMANDS, by the calls that each makes

-- an answer as a reply
abbrev pub in_reply : {A : Type 0} → (A → Reply) → Doing A → Doing Reply
in_reply form call = do
  x ← call
  done (form x)

-- a command that makes a reference, or NULL
abbrev pub makes_a_reference : Doing (Option Handle) → Doing Reply
makes_a_reference = in_reply (λ h. replies.Made h)

-- one that makes an object
abbrev pub makes_an_object : Doing Handle → Doing Reply
makes_an_object = in_reply (λ h. replies.Made (Some h))

-- one that makes nothing
abbrev pub makes_nothing : Doing (Unit {0}) → Doing Reply
makes_nothing = in_reply (λ u. replies.Done)

-- what is noted where nothing is made for which others might leave no room
abbrev pub nothing_noted : Noted
nothing_noted = record { standing = 0; made = 0; used = 0 }

module _ (c : Config) (turns : ℕ) (names : Names) (words : ThreadWords) where
  -- a call that is handed two references, one, or none
  abbrev pub calls_on_both : {n : ℕ} {a : AnswerKind} → Handle → Handle → Program n a → Doing (MeantOf a)
  calls_on_both h g p =
      tried_in_steps turns (entered_in_steps (λ from. program_steps c from (at_both h.0 g.0) p none_known 0))

  abbrev pub calls_on : {n : ℕ} {a : AnswerKind} → Handle → Program n a → Doing (MeantOf a)
  calls_on h p = calls_on_both h null p

  abbrev pub calls_on_none : {n : ℕ} {a : AnswerKind} → Program n a → Doing (MeantOf a)
  calls_on_none p = calls_on null p

  -- one whose stay goes on where it isn't refused
  abbrev pub calls_opening : {n : ℕ} {a : AnswerKind} → Handle → Program n a → Doing (MeantOf a)
  calls_opening h p =
      tried_in_steps turns (opened_in_steps (λ from. program_steps c from (at_both h.0 0) p none_known 0))

  -- one that enters no gate, or is made in a stay, handed a reference or at the object of a level
  abbrev pub calls_within : {n : ℕ} {a : AnswerKind} → Handle → ℕ → Program n a → Doing (MeantOf a)
  calls_within h o p = program_steps c nothing_noted (at_both h.0 0) p none_known o

  -- A THREAD'S END: its region's, where one stands, and then its local references are freed
  abbrev pub ends_thread : List ℕ → Doing (Unit {0})
  ends_thread [] = calls_on_none free_locals
  ends_thread (o ∷ os) = by_step go_out >> calls_on_none free_locals

  -- the reference that a command wants: E2 where its name stands for nothing, E4 for a buffer
  abbrev pub the_named : Reference → Doing Handle
  the_named r = decided (wanted (referent names r))

  -- what is made of what a reference names
  abbrev pub doing_from : MakeFrom → Handle → Doing Reply
  -- `global N REF`
  doing_from make_from.Global h = makes_a_reference (calls_on h (new_reference Global))
  -- `weak N REF`
  doing_from make_from.Weak h = makes_a_reference (calls_on h (new_reference Weak))
  -- `local N REF`
  doing_from make_from.Local h = makes_a_reference (calls_on h new_local_ref)
  -- `pop N REF`
  doing_from make_from.Pop h = makes_a_reference (calls_on h pop_local_frame)
  -- `elems N REF`
  doing_from make_from.Elements h = do
    k ← calls_on h kind_of
    decided (has_numbers k)
    in_reply (λ copied. replies.Copied (copy_of k copied)) (calls_on h (get_array_elements k))

  -- the type of what stands there, 0 for nothing
  abbrev pub doing_type : Option Handle → Doing ℕ
  doing_type None = done 0
  doing_type (Some h) = calls_on h get_object_ref_type

  -- what is about one reference
  abbrev pub doing_about : On → Handle → Doing Reply
  -- `len REF`
  doing_about on.Len h = in_reply (λ n. replies.Length n) (calls_on h get_array_length)
  -- `slen REF`
  doing_about on.TextLength h = in_reply (λ n. replies.Length n) (calls_on h get_string_length)
  -- `chars REF`
  doing_about on.Chars h = in_reply (λ units. replies.Units units) (calls_on h get_string_chars)
  -- `drop REF`: the delete calls of all kinds take the same steps
  doing_about _ h = makes_nothing (calls_on h delete_local_ref)

  -- these calls enter no gate
  abbrev pub doing_room : WithCount → ℕ → Doing (Unit {0})
  -- `push K`
  doing_room with_count.Push n = tried_in_steps turns (calls_within null 0 (push_local_frame n))
  -- `ensure K`
  doing_room with_count.Ensure n = tried_in_steps turns (calls_within null 0 (ensure_local_capacity n))

  -- a buffer is copied back to an array; to abort takes no step, where there is a turn
  abbrev pub doing_back : Mode → Copied → Handle → Doing (Unit {0})
  doing_back Abort b h = tried_in_steps turns (done tt)
  doing_back mode b h = calls_on h (release_array_elements b.kind b.words)

  -- A COMMAND WHERE NO REGION STANDS: E19 for those of a region
  abbrev pub doing_outside : Command → Doing Reply
  -- `plain N`
  doing_outside (commands.Make make.Plain n) = makes_an_object (calls_on_none new_plain)
  -- `wait N`
  doing_outside (commands.Make make.Wait n) = waits_for (word_under words n) n
  -- `global N REF`, `weak`, `local`, `pop`, `elems`
  doing_outside (commands.MakeFrom v n r) = the_named r >>= doing_from v
  -- `type REF`
  doing_outside (commands.On on.Type r) = do
    h ← decided (reference_in (referent names r))
    in_reply (λ k. replies.Type k) (doing_type h)
  -- `len REF`, `slen`, `chars`, `drop`
  doing_outside (commands.On v r) = the_named r >>= doing_about v
  -- `same REF REF`
  doing_outside (commands.OnBoth v q r) = do
    h ← the_named q
    g ← the_named r
    in_reply (λ b. replies.Same b) (calls_on_both h g is_same_object)
  -- `post N`
  doing_outside (commands.OnName v n) = by_step (posts_word n (word_posted names n))
  -- `push K`, `ensure`
  doing_outside (commands.WithCount v n) = makes_nothing (doing_room v n)
  -- `boolean N LEN`, `byte`, `char`, `short`, `int`, `long`
  doing_outside (commands.MakeSized v n len) = makes_an_object (calls_on_none (new_array (kind_made v) len))
  -- `objs N LEN REF`
  doing_outside (commands.MakeFilled v n len r) =
      the_named r >>= (λ h. makes_an_object (calls_on h (new_object_array len)))
  -- `string N UNIT ..`
  doing_outside (commands.MakeText v n units) = makes_an_object (calls_on_none (new_string units))
  -- `get N REF I`
  doing_outside (commands.MakeAt v n r i) =
      the_named r >>= (λ h. makes_a_reference (calls_on h (get_object_array_element i)))
  -- `set REF I REF`
  doing_outside (commands.SetAt v r i q) = do
    h ← the_named r
    g ← the_named q
    makes_nothing (calls_on_both h g (set_object_array_element i))
  -- `load REF I`
  doing_outside (commands.OnAt v r i) = do
    h ← the_named r
    k ← calls_on h kind_of
    decided (has_numbers k)
    in_reply (λ found. replies.Value (first_number k found)) (calls_on h (get_array_region k i 1))
  -- `store REF I VALUE`
  doing_outside (commands.StoreAt v r i x) = do
    h ← the_named r
    k ← calls_on h kind_of
    decided (has_numbers k)
    word ← decided (word_of_number k x)
    makes_nothing (calls_on h (set_array_region k i (word ∷ [])))
  -- `crit N REF`, `critstr`
  doing_outside (commands.OpenLevel v n r) =
      the_named r >>= (λ h. in_reply (λ o. replies.Level o) (calls_opening h (get_critical v 0)))
  -- `gc`
  doing_outside (commands.OfRoom v) = whatever collected_in_steps (λ counts. decided (told counts))
  -- `gcann TRIES`
  doing_outside (commands.WithTries v tries) =
      whatever (tried_in_steps turns announced_in_steps) (λ counts. decided (told counts))
  -- `eget N I`
  doing_outside (commands.OnNameAt on_name_at.Get n i) =
      in_reply (λ x. replies.Value x) (decided (getting i (binding names n)))
  -- `eput N I VALUE`
  doing_outside (commands.PutAt put_at.Put n i x) =
      in_reply (λ b. replies.Done) (decided (putting i x (binding names n)))
  -- `release N REF MODE`
  doing_outside (commands.Release v n r mode) = do
    b ← decided (buffer_in (binding names n))
    h ← the_named r
    makes_nothing (doing_back mode b h)
  -- `cget`, `cset`, `endcrit`
  doing_outside _ = decided (Err fault.InCritical)

  -- what is done at the level that a name means, where levels of these names have these objects: E2 where none does
  abbrev pub doing_at_level : List (List ℕ) → List ℕ → List ℕ → (ℕ → Doing Reply) → Doing Reply
  doing_at_level levels objects n next = do
    l ← decided (level_wanted (newest levels n))
    next (nth_object objects l)

  -- the last of so many levels ends, and with the first the stay
  abbrev pub closes_level : ℕ → Doing (Unit {0})
  closes_level (suc zero) = by_step go_out
  closes_level _ = done tt

  -- A COMMAND IN A REGION: E19 for those that may not be made there
  abbrev pub doing_within : List (List ℕ) → List ℕ → Command → Doing Reply
  -- `crit N REF`, `critstr`
  doing_within levels objects (commands.OpenLevel v n r) = the_named r >>= (λ h.
      in_reply (λ o. replies.Level o) (calls_within h 0 (get_critical v (length objects))))
  -- `cget N I`
  doing_within levels objects (commands.OnNameAt on_name_at.GetInLevel n i) = doing_at_level levels objects n (λ o. do
    k ← calls_within null o region_kind
    decided (has_numbers (read_kind k))
    in_reply (λ word. replies.Value (number_of_word (read_kind k) word))
        (calls_within null o (region_get (read_kind k) i)))
  -- `cset N I VALUE`
  doing_within levels objects (commands.PutAt put_at.PutInLevel n i x) = doing_at_level levels objects n (λ o. do
    k ← calls_within null o region_kind
    decided (has_numbers k)
    word ← decided (word_of_number k x)
    makes_nothing (calls_within null o (region_set k i word)))
  -- `endcrit MODE`
  doing_within levels objects (commands.CloseLevel v mode) = makes_nothing (closes_level (length objects))
  -- `post N`
  doing_within levels objects (commands.OnName v n) = by_step (posts_word n (word_posted names n))
  -- `wait N`
  doing_within levels objects (commands.Make make.Wait n) = waits_for (word_under words n) n
  -- all others
  doing_within levels objects _ = decided (Err fault.InCritical)

module _ (c : Config) (turns : ℕ) where
  -- what a command does where the thread stands, with these words
  abbrev pub doing_at : Place → ThreadWords → List ℕ → Command → Doing Reply
  doing_at p words [] x = doing_outside c turns p.names words x
  doing_at p words (o ∷ os) x = doing_within c turns p.names words p.levels p.objects x

  -- A THREAD: its commands from here on, of which the first stands on this line, and its end. It answers its text
  abbrev pub lines_from : Place → ThreadWords → ℕ → List ℕ → List Command → Doing (List ℕ)
  lines_from p words line text [] = whatever (ends_thread c turns p.names words p.objects) (λ answer. done text)
  lines_from p words line text (x ∷ xs) = whatever (doing_at p words p.objects x) (λ answer. lines_from
      (place_after x answer p) (words_after p.names x answer words) (line + 1) (text ++ printed line x answer) xs)

  -- thread t of these parts, of which the first stands on this line
  abbrev pub thread_of : ℕ → List ThreadPart → ℕ → Doing (List ℕ)
  thread_of line [] t = done []
  thread_of line (p ∷ ps) zero = lines_from nowhere [] (line + 1) [] p.commands
  thread_of line (p ∷ ps) (suc t) = thread_of (line + 1 + length p.commands) ps t

-- what stands at the end
abbrev pub summary_of : World → Summary
summary_of w =
    record { globals = refs_of Global w; weaks = refs_of Weak w; live = standing w.objects; used = w.used }

-- before the first step: the first thread's part stands on line 2
abbrev pub first_machine : ℕ → Script → Machine (List ℕ)
first_machine turns s =
    record { programs = thread_of s.config turns 2 s.threads; shared = first_shared s.config.threads }

-- THE TEXT OF A RUN IS WHAT ITS SCRIPT MEANS, by some schedule that leads each thread to its end with its lines; the
-- last lines tell of what stands then
pub record MeansTogether (turns : ℕ) (s : Script) (text : List ℕ) : Type 0 where
  pub schedule : List (ℕ × Bool)
  pub lines : List (List ℕ)
  pub one_each : length lines ≡ length s.threads
  pub ended_all : (t : ℕ) → t < s.config.threads
      → (run schedule (first_machine turns s)).programs t ≡ ended (Ok (slice_index_or lines t []))
  pub text_is : text ≡ text_of_parts s.threads lines
      ++ ending (summary_of (as_seen 0 (run schedule (first_machine turns s)).shared))
