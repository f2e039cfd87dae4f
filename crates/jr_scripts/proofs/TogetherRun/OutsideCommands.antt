-- WHAT COMMANDS DO where no region stands is played: each by the calls that it makes.
use Rattle.std.proofs.Common.{◌≡◌, ◌<◌, ℕ, ℤ, Option, Some, None, List, [], ◌∷◌, length, Ok, Err, refl, subst}
use mathlib.Core.List.{IsPrefix}
use Rattle.jr_word.specs.declared.fault.Fault.TheVariants.{InCritical}
use Rattle.jr_word.specs.declared.handle.Handle.{Handle as HandleWord}
use Rattle.jr_word.specs.declared.handle.RefKind.TheVariants.{Global, Weak}
use Rattle.jr_model.specs.declared.frames.Mode.{Mode}
use Rattle.jr_model.specs.declared.frames.Mode.TheVariants.{Abort, Commit, Copy}
use Rattle.jr_model.specs.CallPrograms as programs
use Rattle.jr_model.specs.Frames.{Frames}
use Rattle.jr_model.specs.History.{History}
use Rattle.jr_model.specs.Programs.{at_both, handed_none, handed_one, nothing}
use Rattle.jr_model.proofs.Moments.{prefix_trans}
use Rattle.jr_env.specs.Deeds.{Deed, answered_by, decided, done, release_array_elements, set_array_region, ◌>>=◌}
use Rattle.jr_env.specs.Requests.{making_steps}
use Rattle.jr_world.specs.Doing.{Doing, unless_refused, whatever}
use Rattle.jr_world.specs.Doing.Doing.{ended}
use Rattle.jr_syntax.specs.declared.command.Command.{Command}
use Rattle.jr_syntax.specs.declared.command.Command.TheVariants as commands
use Rattle.jr_syntax.specs.declared.name.Reference.{Reference}
use Rattle.jr_syntax.specs.declared.verb.Make.TheVariants as make
use Rattle.jr_syntax.specs.declared.verb.MakeFrom.TheVariants as make_from
use Rattle.jr_syntax.specs.declared.verb.On.TheVariants as on
use Rattle.jr_syntax.specs.declared.verb.OnBoth.TheVariants as on_both
use Rattle.jr_syntax.specs.declared.verb.OnNameAt.TheVariants as on_name_at
use Rattle.jr_syntax.specs.declared.verb.PutAt.TheVariants as put_at
use Rattle.jr_syntax.specs.declared.verb.Release.TheVariants as release
use Rattle.jr_syntax.specs.declared.verb.WithCount.TheVariants as with_count
use Rattle.jr_scripts.specs.declared.binding.Binding.{Binding}
use Rattle.jr_scripts.specs.declared.reply.Reply.{Reply}
use Rattle.jr_scripts.specs.declared.reply.Reply.TheVariants as replies
use Rattle.jr_scripts.specs.Buffers.{Copied, copy_of}
use Rattle.jr_scripts.specs.Commands.{deed, deletion, get_critical, kind_made, opening_by, opening_levels, type_of}
use Rattle.jr_scripts.specs.Commands.{gives_up}
use Rattle.jr_scripts.specs.Names.{Names, binding, buffer_in, getting, putting, reference_in, referent, wanted}
use Rattle.jr_scripts.specs.Numbers.{first_number, word_of_number}
use Rattle.jr_scripts.specs.Posting.{ThreadWords}
use Rattle.jr_scripts.specs.Tries.{Tried}
use Rattle.jr_scripts.specs.Together.{doing_back, doing_outside, doing_type, in_reply, tried_in_steps}
use Rattle.jr_scripts.proofs.TogetherRun.Moments.{DeedPlays, HandleIfIs, HandleIs, HasDid, HasLeft, LevelIs, Meant}
use Rattle.jr_scripts.proofs.TogetherRun.Moments.{NamesAre, ReplyIs, Room, any_frames, times}
use Rattle.jr_scripts.proofs.TogetherRun.Moments.ReplyIs.{level_too, the_same}
use Rattle.jr_scripts.proofs.TogetherRun.Values.{alike, buffer_is, got_is, handle_later, names_later, plainly, put_is}
use Rattle.jr_scripts.proofs.TogetherRun.Values.{reference_is, referent_is}
use Rattle.jr_scripts.proofs.TogetherRun.AptPrograms.{all_left, array_apt, critical_apt, element_apt, elements_apt}
use Rattle.jr_scripts.proofs.TogetherRun.AptPrograms.{free_left, length_apt, local_apt, objects_apt, part_apt}
use Rattle.jr_scripts.proofs.TogetherRun.AptPrograms.{plain_apt, pop_apt, push_apt, reference_apt, release_apt}
use Rattle.jr_scripts.proofs.TogetherRun.AptPrograms.{room_apt, same_apt, set_apt, string_apt, string_length_apt}
use Rattle.jr_scripts.proofs.TogetherRun.AptPrograms.{type_apt, units_apt, write_apt}
use Rattle.jr_scripts.proofs.TogetherRun.PlayedDeeds.{bind_did, decided_did, decided_plays, formed_did, more_plays}
use Rattle.jr_scripts.proofs.TogetherRun.PlayedDeeds.{replied_plays}
use Rattle.jr_scripts.proofs.TogetherRun.PlayedCalls.{apart_plays, entering_in_steps, opening_plays, releasing_plays}
use Rattle.jr_scripts.proofs.TogetherRun.AskedCalls.{apart_call, asks, back_call, back_did, behind_decided}
use Rattle.jr_scripts.proofs.TogetherRun.AskedCalls.{both_told_did, copied_did, deletion_did, deletion_plays}
use Rattle.jr_scripts.proofs.TogetherRun.AskedCalls.{filling_did, fills_by, for_numbers, for_wanted, from_did}
use Rattle.jr_scripts.proofs.TogetherRun.AskedCalls.{kinds_did, loaded_did, makes_by, making_did, opened_did}
use Rattle.jr_scripts.proofs.TogetherRun.AskedCalls.{opening_call, referring_did, refers_by, regrouped, replied_did}
use Rattle.jr_scripts.proofs.TogetherRun.AskedCalls.{stored_did, telling_did, tells_both, tells_by, typed_did}
use Rattle.jr_scripts.proofs.TogetherRun.AskedCalls.{wanted_did, written_did}

-- the commands that are made of calls: they neither post nor wait, and collect nothing
abbrev pub IsByCalls : Command → Type 0
IsByCalls (commands.Make make.Wait n) = ⊥
IsByCalls (commands.OnName v n) = ⊥
IsByCalls (commands.OfRoom v) = ⊥
IsByCalls (commands.WithTries v tries) = ⊥
IsByCalls _ = Unit {0}

module _ (r : Room) (t : ℕ) (small : t < r.config.threads) (turns : ℕ) (names : Names) where
  pub outside_did : (x : Command) → IsByCalls x → HasDid r t (deed turns names x)
  outside_did (commands.Make make.Plain n) by_calls = making_did r t small turns (λ c. c.objects) programs.new_plain
  outside_did (commands.MakeFrom v n ref) by_calls =
      wanted_did r t small turns (referent names ref) (λ w. from_did r t small turns v w.0)
  outside_did (commands.On on.Drop ref) by_calls = wanted_did r t small turns (referent names ref) (λ w.
      formed_did r t (λ u. replies.Done) {deed = deletion turns w.0} (deletion_did r t small turns w.0))
  outside_did (commands.On on.Type ref) by_calls = bind_did r t {first = decided (reference_in (referent names ref))}
      {next = λ w. answered_by (λ n. replies.«Type» n) (type_of turns w)}
      (decided_did r t (reference_in (referent names ref))) (typed_did r t small turns)
  outside_did (commands.On on.Len ref) by_calls = wanted_did r t small turns (referent names ref)
      (λ w. telling_did r t small turns programs.get_array_length (λ n. replies.Length n) w.0)
  outside_did (commands.On on.TextLength ref) by_calls = wanted_did r t small turns (referent names ref)
      (λ w. telling_did r t small turns programs.get_string_length (λ n. replies.Length n) w.0)
  outside_did (commands.On on.Chars ref) by_calls = wanted_did r t small turns (referent names ref)
      (λ w. telling_did r t small turns programs.get_string_chars (λ units. replies.Units units) w.0)
  outside_did (commands.OnBoth on_both.Same q ref) by_calls = wanted_did r t small turns (referent names q)
      (λ v. wanted_did r t small turns (referent names ref) (λ w.
      both_told_did r t small turns (λ c. 0) programs.is_same_object (λ b. replies.Same b) v.0 w.0))
  outside_did (commands.WithCount with_count.Push n) by_calls =
      replied_did r t small turns (λ u. replies.Done) (apart_call r t small turns (programs.push_local_frame n))
  outside_did (commands.WithCount with_count.Ensure n) by_calls =
      replied_did r t small turns (λ u. replies.Done) (apart_call r t small turns (programs.ensure_local_capacity n))
  outside_did (commands.MakeSized v n len) by_calls =
      making_did r t small turns (making_steps len) (programs.new_array (kind_made v) len)
  outside_did (commands.MakeFilled v n len ref) by_calls =
      wanted_did r t small turns (referent names ref) (λ w. filling_did r t small turns len w.0)
  outside_did (commands.MakeText v n units) by_calls =
      making_did r t small turns (making_steps (length units)) (programs.new_string units)
  outside_did (commands.MakeAt v n ref i) by_calls = wanted_did r t small turns (referent names ref)
      (λ w. referring_did r t small turns (λ c. 1) (programs.get_object_array_element i) w.0)
  outside_did (commands.SetAt v ref i q) by_calls = wanted_did r t small turns (referent names ref)
      (λ v. wanted_did r t small turns (referent names q) (λ w.
      both_told_did r t small turns (λ c. 1) (programs.set_object_array_element i) (λ u. replies.Done) v.0 w.0))
  outside_did (commands.OnAt v ref i) by_calls = wanted_did r t small turns (referent names ref)
      (λ w. kinds_did r t small turns w.0 (loaded_did r t small turns w.0 i))
  outside_did (commands.StoreAt v ref i x) by_calls = wanted_did r t small turns (referent names ref)
      (λ w. kinds_did r t small turns w.0 (stored_did r t small turns w.0 i x))
  outside_did (commands.OpenLevel v n ref) by_calls = formed_did r t (λ o. replies.Level o)
      {deed = opening_levels turns names v ref}
      (wanted_did r t small turns (referent names ref) (λ w. opened_did r t small turns v w.0))
  outside_did (commands.OnNameAt on_name_at.Get n i) by_calls = formed_did r t (λ x. replies.Value x)
      {deed = decided (getting i (binding names n))} (decided_did r t (getting i (binding names n)))
  outside_did (commands.PutAt put_at.Put n i x) by_calls = formed_did r t (λ b. replies.Done)
      {deed = decided (putting i x (binding names n))} (decided_did r t (putting i x (binding names n)))
  outside_did (commands.Release release.Elements n ref mode) by_calls = bind_did r t
      {first = decided (buffer_in (binding names n))} {next = λ b. decided (wanted (referent names ref)) >>= (λ w.
      answered_by (λ u. replies.Done) (Tried (release_array_elements b.kind w.0 b.words mode) turns))}
      (decided_did r t (buffer_in (binding names n)))
      (λ b. wanted_did r t small turns (referent names ref) (λ w. back_did r t small turns b mode w.0))
  outside_did (commands.CloseLevel v mode) by_calls = decided_did r t {A = Reply} (Err InCritical)
  outside_did (commands.OnNameAt on_name_at.GetInLevel n i) by_calls = decided_did r t {A = Reply} (Err InCritical)
  outside_did (commands.PutAt put_at.PutInLevel n i x) by_calls = decided_did r t {A = Reply} (Err InCritical)
  outside_did x by_calls = absurd by_calls

  -- a reference that is wanted, and what follows
  at_named : {A A' : Type 0} {h : History} {F : Frames → Type 0} {U : History → A → A' → Type 0}
      {next : HandleWord → Deed A} {next' : HandleWord → Doing A'} (names' : Names) → NamesAre h names names'
      → (ref : Reference) → ((w : HandleWord) → HasDid r t (next w))
      → ((later : History) → IsPrefix h later → IsPrefix later r.whole → (w k : HandleWord) → HandleIs later w.0 k.0
      → DeedPlays r t later F U (next w) (next' k))
      → DeedPlays r t h F U (decided (wanted (referent names ref)) >>= next)
      (whatever (ended (wanted (referent names' ref))) (unless_refused next'))
  at_named names' are ref did rest = for_wanted r t small turns names names' are ref did rest

  -- the type of what stands there
  typed_plays : {h : History} {F : Frames → Type 0} (names' : Names) (told : ThreadWords) (a b : Option HandleWord)
      → HandleIfIs h a b → DeedPlays r t h F ReplyIs (answered_by (λ n. replies.«Type» n) (type_of turns a))
      (in_reply (λ n. replies.«Type» n) (doing_type r.config turns names' told b))
  typed_plays names' told None None is = replied_plays r t {V = λ later (x y : ℕ). x ≡ y} (λ n. replies.«Type» n)
      (λ n. replies.«Type» n) (decided_did r t (Ok 0)) (plainly (λ n. replies.«Type» n) (λ n. refl))
      (decided_plays r t (Ok 0) (Ok 0) (λ later since. refl))
  typed_plays names' told (Some w) (Some k) is = tells_by r t small turns (λ c. 0) programs.get_object_ref_type w.0 k.0
      (λ n. replies.«Type» n) (λ n. replies.«Type» n) (plainly (λ n. replies.«Type» n) (λ n. refl)) is
      (λ b f left. type_apt r.last f (handed_one b))
  typed_plays names' told _ _ is = absurd is

  -- a buffer is copied back, by the mode
  back_plays : {h : History} {F : Frames → Type 0} (names' : Names) (told : ThreadWords) (mode : Mode) (b : Copied)
      (w k : HandleWord) → HandleIs h w.0 k.0 → DeedPlays r t h F ReplyIs
      (answered_by (λ u. replies.Done) (Tried (release_array_elements b.kind w.0 b.words mode) turns))
      (in_reply (λ u. replies.Done) (doing_back r.config turns names' told mode b k))
  back_plays {h} names' told Copy b w k is = asks r t small turns
      {V = λ later (x : Option (List ℕ)) (y : Unit {0}). Unit {0}} (λ u. replies.Done) (λ u. replies.Done)
      (back_call r t small turns b.kind w.0 b.words Copy) (λ later x y so. the_same replies.Done refl)
      (λ later since. releasing_plays r t small None (programs.release_array_elements b.kind b.words) w.0 k.0
      (handle_later h later since w.0 k.0 is) (λ a f left. release_apt r.last f (handed_one a) b.kind b.words))
  back_plays {h} names' told Commit b w k is = asks r t small turns
      {V = λ later (x : Option (List ℕ)) (y : Unit {0}). Unit {0}} (λ u. replies.Done) (λ u. replies.Done)
      (back_call r t small turns b.kind w.0 b.words Commit) (λ later x y so. the_same replies.Done refl)
      (λ later since. releasing_plays r t small (Some b.words) (programs.release_array_elements b.kind b.words) w.0 k.0
      (handle_later h later since w.0 k.0 is) (λ a f left. release_apt r.last f (handed_one a) b.kind b.words))
  back_plays names' told Abort b w k is = asks r t small turns
      {V = λ later (x : Option (List ℕ)) (y : Unit {0}). Unit {0}} (λ u. replies.Done) (λ u. replies.Done)
      (back_call r t small turns b.kind w.0 b.words Abort) (λ later x y so. the_same replies.Done refl)
      (λ later since. decided_plays r t (Ok None) (Ok tt) (λ m after. tt))

  -- what may be done in a region alone
  barred : {h : History} {F : Frames → Type 0}
      → DeedPlays r t h F ReplyIs (decided (Err InCritical)) (ended (Err InCritical))
  barred = decided_plays r t (Err InCritical) (Err InCritical) (λ later since. refl)

  pub outside_plays : (h : History) (names' : Names) (told : ThreadWords) → NamesAre h names names' → (x : Command)
      → IsByCalls x → DeedPlays r t h (HasLeft r.last (times (gives_up x))) ReplyIs (deed turns names x)
      (doing_outside r.config turns names' told x)
  outside_plays h names' told are (commands.Make make.Plain n) by_calls = makes_by r t small turns (λ c. c.objects)
      programs.new_plain (λ f left. plain_apt r.last f handed_none (free_left r.last 0 f left))
  outside_plays h names' told are (commands.MakeSized v n len) by_calls = makes_by r t small turns (making_steps len)
      (programs.new_array (kind_made v) len)
      (λ f left. array_apt r.last f handed_none (free_left r.last 0 f left) (kind_made v) len)
  outside_plays h names' told are (commands.MakeText v n units) by_calls = makes_by r t small turns
      (making_steps (length units)) (programs.new_string units)
      (λ f left. string_apt r.last f handed_none (free_left r.last 0 f left) units)
  outside_plays h names' told are (commands.MakeFilled v n len ref) by_calls = at_named names' are ref
      (λ w. filling_did r t small turns len w.0) (λ later since begins w k is. fills_by r t small turns
      (making_steps len) (programs.new_object_array len) w.0 k.0 is
      (λ b f left. objects_apt r.last f (handed_one b) (free_left r.last 0 f left) len))
  outside_plays h names' told are (commands.MakeFrom make_from.Global n ref) by_calls = at_named names' are ref
      (λ w. from_did r t small turns make_from.Global w.0) (λ later since begins w k is. refers_by r t small turns
      (λ c. 0) (programs.new_reference Global) w.0 k.0 is (λ b f left. reference_apt r.last f (handed_one b) Global))
  outside_plays h names' told are (commands.MakeFrom make_from.Weak n ref) by_calls = at_named names' are ref
      (λ w. from_did r t small turns make_from.Weak w.0) (λ later since begins w k is. refers_by r t small turns
      (λ c. 0) (programs.new_reference Weak) w.0 k.0 is (λ b f left. reference_apt r.last f (handed_one b) Weak))
  outside_plays h names' told are (commands.MakeFrom make_from.Local n ref) by_calls = at_named names' are ref
      (λ w. from_did r t small turns make_from.Local w.0) (λ later since begins w k is. refers_by r t small turns
      (λ c. 0) programs.new_local_ref w.0 k.0 is
      (λ b f left. local_apt r.last f (handed_one b) (free_left r.last 0 f left)))
  outside_plays h names' told are (commands.MakeFrom make_from.Pop n ref) by_calls = at_named names' are ref
      (λ w. from_did r t small turns make_from.Pop w.0) (λ later since begins w k is. refers_by r t small turns
      (λ c. 0) programs.pop_local_frame w.0 k.0 is
      (λ b f left. pop_apt r.last f (handed_one b) (all_left r.last 0 f left)))
  outside_plays h names' told are (commands.MakeFrom make_from.Elements n ref) by_calls = at_named names' are ref
      (λ w. from_did r t small turns make_from.Elements w.0) (λ later since begins w k is. for_numbers r t small turns
      w.0 k.0 is (copied_did r t small turns w.0) (λ m after kind. tells_by r t small turns (λ c. 1)
      (programs.get_array_elements kind) w.0 k.0 (λ ws. replies.Copied (copy_of kind ws))
      (λ ws. replies.Copied (copy_of kind ws)) (plainly (λ ws. replies.Copied (copy_of kind ws)) (λ ws. refl))
      (handle_later later m after w.0 k.0 is) (λ b f left. elements_apt r.last f (handed_one b) kind)))
  outside_plays h names' told are (commands.MakeAt v n ref i) by_calls = at_named names' are ref
      (λ w. referring_did r t small turns (λ c. 1) (programs.get_object_array_element i) w.0)
      (λ later since begins w k is. refers_by r t small turns (λ c. 1) (programs.get_object_array_element i) w.0 k.0 is
      (λ b f left. element_apt r.last f (handed_one b) (free_left r.last 0 f left) i))
  outside_plays h names' told are (commands.On on.Drop ref) by_calls = at_named names' are ref
      (λ w. formed_did r t (λ u. replies.Done) {deed = deletion turns w.0} (deletion_did r t small turns w.0))
      (λ later since begins w k is. replied_plays r t {V = Meant r t nothing} (λ u. replies.Done) (λ u. replies.Done)
      (deletion_did r t small turns w.0) (λ m x y so. the_same replies.Done refl)
      (deletion_plays r t small turns begins w.0 k.0 is))
  outside_plays h names' told are (commands.On on.Type ref) by_calls = behind_decided r t small turns HandleIfIs
      (reference_in (referent names ref)) (reference_in (referent names' ref))
      (λ later since. reference_is later (referent names ref) (referent names' ref)
      (referent_is later names names' (names_later h later since names names' are) ref)) (typed_did r t small turns)
      (λ later since begins a b is. typed_plays names' told a b is)
  outside_plays h names' told are (commands.On on.Len ref) by_calls = at_named names' are ref
      (λ w. telling_did r t small turns programs.get_array_length (λ n. replies.Length n) w.0)
      (λ later since begins w k is. tells_by r t small turns (λ c. 1) programs.get_array_length w.0 k.0
      (λ n. replies.Length n) (λ n. replies.Length n) (plainly (λ n. replies.Length n) (λ n. refl)) is
      (λ b f left. length_apt r.last f (handed_one b)))
  outside_plays h names' told are (commands.On on.TextLength ref) by_calls = at_named names' are ref
      (λ w. telling_did r t small turns programs.get_string_length (λ n. replies.Length n) w.0)
      (λ later since begins w k is. tells_by r t small turns (λ c. 1) programs.get_string_length w.0 k.0
      (λ n. replies.Length n) (λ n. replies.Length n) (plainly (λ n. replies.Length n) (λ n. refl)) is
      (λ b f left. string_length_apt r.last f (handed_one b)))
  outside_plays h names' told are (commands.On on.Chars ref) by_calls = at_named names' are ref
      (λ w. telling_did r t small turns programs.get_string_chars (λ units. replies.Units units) w.0)
      (λ later since begins w k is. tells_by r t small turns (λ c. 1) programs.get_string_chars w.0 k.0
      (λ units. replies.Units units) (λ units. replies.Units units)
      (plainly (λ units. replies.Units units) (λ units. refl)) is (λ b f left. units_apt r.last f (handed_one b)))
  outside_plays h names' told are (commands.OnBoth on_both.Same q ref) by_calls = at_named names' are q
      (λ v. wanted_did r t small turns (referent names ref) (λ w.
      both_told_did r t small turns (λ c. 0) programs.is_same_object (λ b. replies.Same b) v.0 w.0))
      (λ later since begins v i one. at_named names' (names_later h later since names names' are) ref
      (λ w. both_told_did r t small turns (λ c. 0) programs.is_same_object (λ b. replies.Same b) v.0 w.0)
      (λ m after ends w k two. tells_both r t small turns (λ c. 0) programs.is_same_object v.0 w.0 i.0 k.0
      (λ b. replies.Same b) (λ b. replies.Same b) (plainly (λ b. replies.Same b) (λ b. refl))
      (handle_later later m after v.0 i.0 one) two (λ a b f left. same_apt r.last f (at_both a b))))
  outside_plays h names' told are (commands.SetAt v ref i q) by_calls = at_named names' are ref
      (λ v. wanted_did r t small turns (referent names q) (λ w.
      both_told_did r t small turns (λ c. 1) (programs.set_object_array_element i) (λ u. replies.Done) v.0 w.0))
      (λ later since begins v j one. at_named names' (names_later h later since names names' are) q
      (λ w. both_told_did r t small turns (λ c. 1) (programs.set_object_array_element i) (λ u. replies.Done) v.0 w.0)
      (λ m after ends w k two. tells_both r t small turns (λ c. 1) (programs.set_object_array_element i) v.0 w.0 j.0 k.0
      (λ u. replies.Done) (λ u. replies.Done) (λ n x y so. the_same replies.Done refl)
      (handle_later later m after v.0 j.0 one) two (λ a b f left. set_apt r.last f (at_both a b) i)))
  outside_plays h names' told are (commands.OnAt v ref i) by_calls = at_named names' are ref
      (λ w. kinds_did r t small turns w.0 (loaded_did r t small turns w.0 i)) (λ later since begins w k is.
      for_numbers r t small turns w.0 k.0 is (loaded_did r t small turns w.0 i) (λ m after kind.
      tells_by r t small turns (λ c. 1) (programs.get_array_region kind i 1) w.0 k.0
      (λ ws. replies.Value (first_number kind ws)) (λ ws. replies.Value (first_number kind ws))
      (plainly (λ ws. replies.Value (first_number kind ws)) (λ ws. refl)) (handle_later later m after w.0 k.0 is)
      (λ b f left. part_apt r.last f (handed_one b) kind i 1)))
  outside_plays h names' told are (commands.StoreAt v ref i x) by_calls = at_named names' are ref
      (λ w. kinds_did r t small turns w.0 (stored_did r t small turns w.0 i x)) (λ later since begins w k is.
      for_numbers r t small turns w.0 k.0 is (stored_did r t small turns w.0 i x) (λ m after kind.
      behind_decided r t small turns (λ l (a b : ℕ). a ≡ b) (word_of_number kind x) (word_of_number kind x)
      (λ l on. alike l (word_of_number kind x)) (written_did r t small turns w.0 i kind) (λ l on ends a b same.
      subst (λ z. DeedPlays r t l any_frames ReplyIs
      (answered_by (λ u. replies.Done) (Tried (set_array_region kind w.0 i (a ∷ [])) turns))
      (in_reply (λ u. replies.Done) (tried_in_steps turns
      (entering_in_steps r t small (programs.set_array_region kind i (z ∷ [])) (at_both k.0 0))))) same
      (tells_by r t small turns (λ c. 1) (programs.set_array_region kind i (a ∷ [])) w.0 k.0
      (λ u. replies.Done) (λ u. replies.Done) (λ l x y so. the_same replies.Done refl)
      (handle_later later l (prefix_trans later m l after on) w.0 k.0 is)
      (λ b f left. write_apt r.last f (handed_one b) kind i (a ∷ []))))))
  outside_plays h names' told are (commands.WithCount with_count.Push n) by_calls = asks r t small turns
      {V = Meant r t nothing} (λ u. replies.Done) (λ u. replies.Done)
      (apart_call r t small turns (programs.push_local_frame n)) (λ later x y so. the_same replies.Done refl)
      (λ later since. apart_plays r t small (programs.push_local_frame n) tt
      (λ f left. push_apt r.last f handed_none n (free_left r.last 0 f left)))
  outside_plays h names' told are (commands.WithCount with_count.Ensure n) by_calls = asks r t small turns
      {V = Meant r t nothing} (λ u. replies.Done) (λ u. replies.Done)
      (apart_call r t small turns (programs.ensure_local_capacity n)) (λ later x y so. the_same replies.Done refl)
      (λ later since. apart_plays r t small (programs.ensure_local_capacity n) tt
      (λ f left. room_apt r.last f handed_none n (free_left r.last 0 f left)))
  outside_plays h names' told are (commands.OpenLevel v n ref) by_calls = more_plays r t
      (regrouped (decided (wanted (referent names ref))) (λ w. Tried (opening_by v w.0) turns)
      (λ o. done (replies.Level o))) (at_named names' are ref
      (λ w. replied_did r t small turns (λ o. replies.Level o) (opening_call r t small turns v w.0))
      (λ later since begins w k is. asks r t small turns {V = LevelIs} (λ o. replies.Level o) (λ o. replies.Level o)
      (opening_call r t small turns v w.0) (λ m x y so. level_too so) (λ m after.
      more_plays r t (λ old new answer d. (d.0, d.1, d.2)) (opening_plays r t small (get_critical v 0) w.0 k.0
      (handle_later later m after w.0 k.0 is) (λ b f left. critical_apt r.last f (handed_one b) v 0)))))
  outside_plays h names' told are (commands.OnNameAt on_name_at.Get n i) by_calls = replied_plays r t
      {V = λ later (x y : ℤ). x ≡ y} (λ x. replies.Value x) (λ x. replies.Value x)
      (decided_did r t (getting i (binding names n))) (plainly (λ x. replies.Value x) (λ x. refl))
      (decided_plays r t (getting i (binding names n)) (getting i (binding names' n)) (λ later since.
      got_is later i (binding names n) (binding names' n) (names_later h later since names names' are n)))
  outside_plays h names' told are (commands.PutAt put_at.Put n i x) by_calls = replied_plays r t
      {V = λ later (a b : Binding). Unit {0}} (λ b. replies.Done) (λ b. replies.Done)
      (decided_did r t (putting i x (binding names n))) (λ later a b so. the_same replies.Done refl)
      (decided_plays r t (putting i x (binding names n)) (putting i x (binding names' n)) (λ later since.
      put_is later i x (binding names n) (binding names' n) (names_later h later since names names' are n)))
  outside_plays h names' told are (commands.Release release.Elements n ref mode) by_calls = behind_decided r t small
      turns (λ later (a b : Copied). a ≡ b) (buffer_in (binding names n)) (buffer_in (binding names' n))
      (λ later since. buffer_is later (binding names n) (binding names' n)
      (names_later h later since names names' are n)) (λ b. wanted_did r t small turns (referent names ref)
      (λ w. back_did r t small turns b mode w.0)) (λ later since begins b d same.
      subst (λ z. DeedPlays r t later (HasLeft r.last 0) ReplyIs (decided (wanted (referent names ref)) >>= (λ w.
      answered_by (λ u. replies.Done) (Tried (release_array_elements b.kind w.0 b.words mode) turns)))
      (whatever (ended (wanted (referent names' ref))) (unless_refused (λ k.
      in_reply (λ u. replies.Done) (doing_back r.config turns names' told mode z k))))) same
      (at_named names' (names_later h later since names names' are) ref
      (λ w. back_did r t small turns b mode w.0) (λ m after ends w k is. back_plays names' told mode b w k is)))
  outside_plays h names' told are (commands.CloseLevel v mode) by_calls = barred
  outside_plays h names' told are (commands.OnNameAt on_name_at.GetInLevel n i) by_calls = barred
  outside_plays h names' told are (commands.PutAt put_at.PutInLevel n i x) by_calls = barred
  outside_plays h names' told are x by_calls = absurd by_calls
