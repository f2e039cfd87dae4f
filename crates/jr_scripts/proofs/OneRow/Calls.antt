-- COMMANDS THAT TAKE STEPS FOLLOW.
use Rattle.std.proofs.Common.{◌≡◌, ℕ, zero, suc, Option, Some, None, Result, Ok, Err, List, [], ◌∷◌, Bool, true, false}
use Rattle.std.proofs.Common.{refl}
use Rattle.jr_word.specs.declared.fault.Fault.{Fault}
use Rattle.jr_word.specs.declared.config.Config.{Config}
use Rattle.jr_word.specs.declared.handle.Handle.{Handle}
use Rattle.jr_word.specs.declared.handle.RefKind.TheVariants.{Global, Weak}
use Rattle.jr_word.specs.declared.kind.Kind.{Kind}
use Rattle.jr_model.specs.declared.frames.Mode.{Mode}
use Rattle.jr_model.specs.declared.frames.Mode.TheVariants.{Abort, Commit, Copy}
use Rattle.jr_model.specs.CallPrograms.{delete_local_ref, free_locals, get_array_elements, get_array_length}
use Rattle.jr_model.specs.CallPrograms.{get_array_region}
use Rattle.jr_model.specs.CallPrograms.{get_object_array_element, get_object_ref_type, get_string_chars}
use Rattle.jr_model.specs.CallPrograms.{get_string_length, is_same_object, kind_of, new_array, new_local_ref}
use Rattle.jr_model.specs.CallPrograms.{new_object_array, new_plain, new_reference, new_string, pop_local_frame}
use Rattle.jr_model.specs.CallPrograms.{region_get, region_kind, region_set, release_array_elements, set_array_region}
use Rattle.jr_model.specs.CallPrograms.{set_object_array_element}
use Rattle.jr_model.specs.Programs.{AnswerKind, Program, Which, at_both, none_known}
use Rattle.jr_world.specs.World.{MeantOf, push, room_for}
use Rattle.jr_world.specs.Doing.{Doing, Shared, atom, entered_in_steps, program_steps, unless_refused, ◌>>=◌}
use Rattle.jr_world.specs.Doing.Doing.{ended}
use Rattle.jr_syntax.specs.declared.name.Reference.{Reference}
use Rattle.jr_syntax.specs.declared.command.Command.{Command}
use Rattle.jr_syntax.specs.declared.command.Command.TheVariants as commands
use Rattle.jr_syntax.specs.declared.verb.Make.TheVariants as make
use Rattle.jr_syntax.specs.declared.verb.MakeFrom.TheVariants as make_from
use Rattle.jr_syntax.specs.declared.verb.On.TheVariants as on
use Rattle.jr_syntax.specs.declared.verb.OpenLevel.{OpenLevel}
use Rattle.jr_syntax.specs.declared.verb.OpenLevel.TheVariants as at
use Rattle.jr_syntax.specs.declared.verb.WithCount.{WithCount}
use Rattle.jr_syntax.specs.declared.verb.WithCount.TheVariants as with_count
use Rattle.jr_syntax.specs.declared.verb.OnNameAt.TheVariants as on_name_at
use Rattle.jr_syntax.specs.declared.verb.PutAt.TheVariants as put_at
use Rattle.jr_scripts.specs.declared.reply.Reply.{Reply}
use Rattle.jr_scripts.specs.declared.reply.Reply.TheVariants as replies
use Rattle.jr_scripts.specs.Buffers.{Copied, copy_of}
use Rattle.jr_scripts.specs.Commands.{get_critical, kind_made}
use Rattle.jr_scripts.specs.Names.{Names, binding, buffer_in, getting, null, putting, reference_in, referent, wanted}
use Rattle.jr_scripts.specs.Numbers.{first_number, has_numbers, number_of_word, word_of_number}
use Rattle.jr_scripts.specs.Places.{Place, level_wanted, newest, nth_object}
use Rattle.jr_scripts.specs.Posting.{ThreadWords}
use Rattle.jr_scripts.specs.RegionCommands.{read_kind}
use Rattle.jr_scripts.specs.Together.{calls_on_both, calls_on_none, calls_within, closes_level, doing_at}
use Rattle.jr_scripts.specs.Together.{doing_at_level, doing_back}
use Rattle.jr_scripts.specs.Together.{doing_outside, doing_room, doing_type, doing_within, ends_thread, in_reply}
use Rattle.jr_scripts.specs.Together.{nothing_noted, tried_in_steps}
use Rattle.jr_scripts.specs.OneRow.{manner_of}
use Rattle.jr_scripts.specs.OneRow.Manner.{acts}
use Rattle.jr_scripts.proofs.OneRow.Alike.{Tidy}
use Rattle.jr_scripts.proofs.OneRow.Blind.{push_blind}
use Rattle.jr_scripts.proofs.OneRow.Follows.{Follows, but, once_follows}
use Rattle.jr_scripts.proofs.OneRow.Goes.{Goes, Stands, atom_goes, ended_goes, goes_bind, goes_less, goes_unless}
use Rattle.jr_scripts.proofs.OneRow.Goes.{reply_goes, tried_goes}
use Rattle.jr_scripts.proofs.OneRow.Parts.{room_goes}
use Rattle.jr_scripts.proofs.OneRow.Programs.{EachSuits, entered_goes, opened_goes, out_goes, program_goes}

-- A COPY's luck counts: `elems` and `chars` are one
abbrev pub is_copy : Command → Bool
is_copy (commands.MakeFrom make_from.Elements n r) = true
is_copy (commands.On on.Chars r) = true
is_copy _ = false

critical_suits : (notes : Bool) (v : OpenLevel) (levels : ℕ) → EachSuits false notes (get_critical v levels)
critical_suits notes at.Array levels = λ k n. tt
critical_suits notes at.Text levels = λ k n. tt

-- WHAT IS SO OF WHOLE CALLS, and of what is made of them, where luck counts for nothing, or once
pub record OfCalls (c : Config) (turns : ℕ) (P : Bool → (A : Type 0) → Doing A → Type 0) : Type 1 where
  pub answers : {A : Type 0} {once : Bool} (r : Result A Fault) → P once A (ended r)
  pub binds : {A B : Type 0} {once : Bool} {d : Doing A} {next : A → Doing B} → P false A d
      → ((x : A) → P once B (next x)) → P once B (d >>= next)
  pub replies : {A : Type 0} {once : Bool} {call : Doing A} (form : A → Reply) → P once A call
      → P once Reply (in_reply form call)
  pub tries : {A : Type 0} {once : Bool} {call : Doing A} → P once A call → P once A (tried_in_steps turns call)
  pub enters : {n : ℕ} {a : AnswerKind} {once : Bool} (handed : Which → ℕ) (p : Program n a) → EachSuits once true p
      → P once (MeantOf a) (entered_in_steps (λ from. program_steps c from handed p none_known 0))
  pub pushes : (n : ℕ) → P false (Unit {0}) (atom (push c n))
  pub asks : (n : ℕ) → P false (Unit {0}) (atom (room_for c n))

-- which commands are made of them, where no region stands
abbrev pub is_of_calls : Command → Bool
is_of_calls (commands.Make make.Wait n) = false
is_of_calls (commands.OnName v n) = false
is_of_calls (commands.OpenLevel v n r) = false
is_of_calls (commands.OfRoom v) = false
is_of_calls (commands.WithTries v tries) = false
is_of_calls _ = true

module _ (c : Config) (turns : ℕ) (names : Names) (words : ThreadWords)
    (P : Bool → (A : Type 0) → Doing A → Type 0) (so : OfCalls c turns P) where
  unless : {A B : Type 0} {once : Bool} {next : A → Doing B} → ((x : A) → P once B (next x)) → (r : Result A Fault)
      → P once B (unless_refused next r)
  unless rest (Ok x) = rest x
  unless rest (Err e) = so.answers (Err e)

  both : {n : ℕ} {a : AnswerKind} {once : Bool} (h g : Handle) (p : Program n a) → EachSuits once true p
      → P once (MeantOf a) (calls_on_both c turns names words h g p)
  both h g p suits = so.tries (so.enters (at_both h.0 g.0) p suits)

  call : {n : ℕ} {a : AnswerKind} {once : Bool} (h : Handle) (p : Program n a) → EachSuits once true p
      → P once (MeantOf a) (calls_on_both c turns names words h null p)
  call h p suits = both h null p suits

  type_so : (h : Option Handle) → P false ℕ (doing_type c turns names words h)
  type_so None = so.answers (Ok 0)
  type_so (Some h) = call h get_object_ref_type tt

  room_so : (v : WithCount) (n : ℕ) → P false (Unit {0}) (doing_room c turns names words v n)
  room_so with_count.Push n = so.tries (so.pushes n)
  room_so with_count.Ensure n = so.tries (so.asks n)

  back_so : (mode : Mode) (b : Copied) (h : Handle) → P false (Unit {0}) (doing_back c turns names words mode b h)
  back_so Abort b h = so.tries (so.answers (Ok tt))
  back_so Commit b h = call h (release_array_elements b.kind b.words) (λ k n. tt)
  back_so Copy b h = call h (release_array_elements b.kind b.words) (λ k n. tt)

  -- what is done with what a reference names, and with an array whose elements are numbers
  named : {once : Bool} {next : Handle → Doing Reply} (r : Reference) → ((h : Handle) → P once Reply (next h))
      → P once Reply (unless_refused next (wanted (referent names r)))
  named r rest = unless rest (wanted (referent names r))

  numbers : {once : Bool} {next : Kind → Doing Reply} (h : Handle) → ((k : Kind) → P once Reply (next k))
      → P once Reply
      (calls_on_both c turns names words h null kind_of >>= (λ k. unless_refused (λ x. next k) (has_numbers k)))
  numbers h rest = so.binds (call h kind_of (λ k n. tt)) (λ k. unless (λ x. rest k) (has_numbers k))

  pub outside_so : (x : Command) → is_of_calls x ≡ true
      → P (is_copy x) Reply (doing_outside c turns names words x)
  outside_so (commands.Make make.Plain n) is = so.replies _ (call null new_plain tt)
  outside_so (commands.Make make.Wait n) is = absurd cc
  outside_so (commands.MakeFrom make_from.Global n r) is =
      named r (λ h. so.replies _ (call h (new_reference Global) (tt, λ bad. absurd cc)))
  outside_so (commands.MakeFrom make_from.Weak n r) is =
      named r (λ h. so.replies _ (call h (new_reference Weak) (tt, λ bad. absurd cc)))
  outside_so (commands.MakeFrom make_from.Local n r) is = named r (λ h. so.replies _ (call h new_local_ref tt))
  outside_so (commands.MakeFrom make_from.Pop n r) is = named r (λ h. so.replies _ (call h pop_local_frame tt))
  outside_so (commands.MakeFrom make_from.Elements n r) is = named r (λ h. numbers h (λ k. so.replies
      (λ copied. replies.Copied (copy_of k copied)) (call h (get_array_elements k) (λ l n. tt))))
  outside_so (commands.On on.Type r) is =
      unless (λ h. so.replies _ (type_so h)) (reference_in (referent names r))
  outside_so (commands.On on.Len r) is = named r (λ h. so.replies _ (call h get_array_length (λ k n. tt)))
  outside_so (commands.On on.TextLength r) is = named r (λ h. so.replies _ (call h get_string_length (λ k n. tt)))
  outside_so (commands.On on.Chars r) is = named r (λ h. so.replies _ (call h get_string_chars (λ k n. tt)))
  outside_so (commands.On on.Drop r) is = named r (λ h. so.replies _ (call h delete_local_ref tt))
  outside_so (commands.OnBoth v q r) is =
      named q (λ h. named r (λ g. so.replies _ (both h g is_same_object tt)))
  outside_so (commands.OnName v n) is = absurd cc
  outside_so (commands.WithCount v n) is = so.replies _ (room_so v n)
  outside_so (commands.MakeSized v n len) is = so.replies _ (call null (new_array (kind_made v) len) tt)
  outside_so (commands.MakeFilled v n len r) is = named r (λ h. so.replies _ (call h (new_object_array len) tt))
  outside_so (commands.MakeText v n units) is = so.replies _ (call null (new_string units) tt)
  outside_so (commands.MakeAt v n r i) is =
      named r (λ h. so.replies _ (call h (get_object_array_element i) (λ k n. tt)))
  outside_so (commands.SetAt v r i q) is =
      named r (λ h. named q (λ g. so.replies _ (both h g (set_object_array_element i) (λ k n. tt))))
  outside_so (commands.OnAt v r i) is = named r (λ h. numbers h (λ k. so.replies
      (λ found. replies.Value (first_number k found)) (call h (get_array_region k i 1) (λ l n. tt))))
  outside_so (commands.StoreAt v r i x) is = named r (λ h. numbers h (λ k. unless
      (λ word. so.replies _ (call h (set_array_region k i (word ∷ [])) (λ l n. tt))) (word_of_number k x)))
  outside_so (commands.OpenLevel v n r) is = absurd cc
  outside_so (commands.OfRoom v) is = absurd cc
  outside_so (commands.WithTries v tries) is = absurd cc
  outside_so (commands.OnNameAt on_name_at.Get n i) is = so.replies _ (so.answers (getting i (binding names n)))
  outside_so (commands.PutAt put_at.Put n i x) is = so.replies _ (so.answers (putting i x (binding names n)))
  outside_so (commands.Release v n r mode) is =
      unless (λ b. named r (λ h. so.replies _ (back_so mode b h))) (buffer_in (binding names n))
  outside_so (commands.OnNameAt on_name_at.GetInLevel n i) is = so.answers _
  outside_so (commands.PutAt put_at.PutInLevel n i x) is = so.answers _
  outside_so (commands.CloseLevel v mode) is = so.answers _

-- which commands are calls, or take no step: not those that post, wait or collect
abbrev pub is_by_calls : Command → Bool
is_by_calls (commands.Make make.Wait n) = false
is_by_calls (commands.OnName v n) = false
is_by_calls (commands.OfRoom v) = false
is_by_calls (commands.WithTries v tries) = false
is_by_calls _ = true

abbrev CommandGoes : ℕ → Command → Doing Reply → Type 0
CommandGoes u x d = is_by_calls x ≡ true → Goes (is_copy x) u None None d

module _ (u : ℕ) (c : Config) (turns : ℕ) (names : Names) (words : ThreadWords) where
  calls_go : OfCalls c turns (λ once A d. Goes {A = A} once u None None d)
  calls_go = record {
    answers = ended_goes;
    binds = goes_bind;
    replies = reply_goes;
    tries = tried_goes turns;
    enters = λ handed p suits. entered_goes (λ from. program_goes _ true c from handed p none_known 0 suits);
    pushes = λ n. atom_goes (push_blind c n);
    asks = λ n. goes_less (room_goes c n);
  }

  within_goes : {n : ℕ} {a : AnswerKind} (h : Handle) (o : ℕ) (p : Program n a) → EachSuits false false p
      → Goes false u None None (calls_within c turns names words h o p)
  within_goes h o p suits = program_goes false false c nothing_noted (at_both h.0 0) p none_known o suits

  -- A THREAD'S END
  frees_goes : Goes false u None None (calls_on_none c turns names words free_locals)
  frees_goes = calls_go.tries (calls_go.enters (at_both 0 0) free_locals tt)

  pub end_goes : (objects : List ℕ) → Goes false u None None (ends_thread c turns names words objects)
  end_goes [] = frees_goes
  end_goes (o ∷ os) = goes_bind out_goes (λ x. frees_goes)

  -- A COMMAND WHERE NO REGION STANDS
  outside_goes : (x : Command) → CommandGoes u x (doing_outside c turns names words x)
  outside_goes (commands.OpenLevel v n r) is = goes_unless (λ h. reply_goes _ (tried_goes turns (opened_goes
      (λ from. program_goes false true c from (at_both h.0 0) (get_critical v 0) none_known 0
      (critical_suits true v 0))))) (wanted (referent names r))
  outside_goes (commands.Make make.Wait n) is = absurd cc
  outside_goes (commands.OnName v n) is = absurd cc
  outside_goes (commands.OfRoom v) is = absurd cc
  outside_goes (commands.WithTries v tries) is = absurd cc
  outside_goes x is = outside_so c turns names words (λ once A d. Goes {A = A} once u None None d) calls_go x refl

  -- A COMMAND IN A REGION
  level_goes : (levels : List (List ℕ)) (objects n : List ℕ) (next : ℕ → Doing Reply)
      → ((o : ℕ) → Goes false u None None (next o))
      → Goes false u None None (doing_at_level c turns names words levels objects n next)
  level_goes levels objects n next rest =
      goes_unless (λ l. rest (nth_object objects l)) (level_wanted (newest levels n))

  close_goes : (levels : ℕ) → Goes false u None None (closes_level c turns names words levels)
  close_goes zero = ended_goes (Ok tt)
  close_goes (suc zero) = out_goes
  close_goes (suc (suc levels)) = ended_goes (Ok tt)

  inside_goes : (levels : List (List ℕ)) (objects : List ℕ) (x : Command)
      → CommandGoes u x (doing_within c turns names words levels objects x)
  inside_goes levels objects (commands.OpenLevel v n r) is =
      goes_unless (λ h. reply_goes _ (within_goes h 0 (get_critical v _) (critical_suits false v _)))
      (wanted (referent names r))
  inside_goes levels objects (commands.OnNameAt on_name_at.GetInLevel n i) is = level_goes levels objects n _
      (λ o. goes_bind (within_goes null o region_kind (λ k n. tt)) (λ k. goes_unless
      (λ u. reply_goes (λ word. replies.Value (number_of_word (read_kind k) word))
      (within_goes null o (region_get (read_kind k) i) (λ l n. tt))) (has_numbers (read_kind k))))
  inside_goes levels objects (commands.PutAt put_at.PutInLevel n i x) is = level_goes levels objects n _
      (λ o. goes_bind (within_goes null o region_kind (λ k n. tt)) (λ k. goes_unless (λ u. goes_unless
      (λ word. reply_goes (λ u. replies.Done) (within_goes null o (region_set k i word) (λ l n. tt)))
      (word_of_number k x)) (has_numbers k)))
  inside_goes levels objects (commands.CloseLevel v mode) is = reply_goes _ (close_goes _)
  inside_goes levels objects (commands.OnName v n) is = absurd cc
  inside_goes levels objects (commands.Make make.Wait n) is = absurd cc
  inside_goes levels objects _ is = ended_goes _

pub calls_go_on : (c : Config) (turns : ℕ) (p : Place) (words : ThreadWords) (objects : List ℕ) (x : Command)
    → is_by_calls x ≡ true → (u : ℕ) → Goes (is_copy x) u None None (doing_at c turns p words objects x)
calls_go_on c turns p words [] x is u = outside_goes u c turns p.names words x is
calls_go_on c turns p words (o ∷ os) x is u = inside_goes u c turns p.names words p.levels p.objects x is

pub acts_follow : (c : Config) (turns : ℕ) (p : Place) (words : ThreadWords) (x : Command) → manner_of x ≡ acts
    → (u : ℕ) (z : Shared) → Tidy z → Follows (but u) u (doing_at c turns p words p.objects x) z
acts_follow c turns p words x is u z tidy = once_follows (but u) u refl (is_copy x) (Stands None) _ z tidy
    ((calls_go_on c turns p words p.objects x (by_calls x is) u).so z tidy tt)
  where
    by_calls : (x : Command) → manner_of x ≡ acts → is_by_calls x ≡ true
    by_calls (commands.Make make.Wait n) is = absurd cc
    by_calls (commands.OnName v n) is = absurd cc
    by_calls (commands.OfRoom v) is = absurd cc
    by_calls (commands.WithTries v tries) is = absurd cc
    by_calls x is = refl
