-- What the commands of a thread that is alone lead to, outside a region and in one.
use Rattle.std.proofs.Common.{◌≡◌, ℕ, ℤ, Bool, true, false, if◌then◌else◌, Option, Some, None, List, [], ◌∷◌, length}
use Rattle.std.proofs.Common.{inl, inr, nat_lt, Result, Ok, Err, IfErr, refl, sym, subst}
use Rattle.jr_word.specs.declared.fault.Fault.{Fault}
use Rattle.jr_word.specs.declared.fault.Fault.TheVariants.{Busy, InCritical, Range, Turns, Value}
use Rattle.jr_word.specs.declared.handle.RefKind.{RefKind}
use Rattle.jr_word.specs.declared.handle.RefKind.TheVariants.{Local, Global, Weak}
use Rattle.jr_word.specs.declared.handle.Handle.{Handle}
use Rattle.jr_word.specs.declared.kind.Kind.{Kind}
use Rattle.jr_word.specs.declared.kind.Kind.TheVariants.{Plain}
use Rattle.jr_model.specs.declared.frames.Mode.{Mode}
use Rattle.jr_model.specs.declared.frames.Mode.TheVariants.{Copy, Commit, Abort}
use Rattle.jr_model.specs.Checks.{Word, Nothing, Malformed, Parts}
use Rattle.jr_model.specs.Programs.{AnswerKind, Program, handed_one, object}
use Rattle.jr_model.specs.CallPrograms as programs
use Rattle.jr_model.specs.AllCalls.{PartOf, keeps, means, nests, opens, stays_out}
use Rattle.jr_model.specs.History.{PassView, state}
use Rattle.jr_model.proofs.EachCall.{lawful, part_lawful}
use Rattle.jr_gate.specs.Performing.{ThreadState}
use Rattle.jr_steps.specs.Holdings.{empty}
use Rattle.jr_frames.specs.Reading.{IsReadAs}
use Rattle.jr_critical.specs.Levels.{nested_by, opened_by}
use Rattle.jr_env.specs.Requests.{for_delete_local_ref, for_delete_reference, for_get_array_elements}
use Rattle.jr_env.specs.Requests.{for_get_array_length, for_get_array_region, for_get_object_array_element}
use Rattle.jr_env.specs.Requests.{for_get_object_ref_type, for_get_string_chars, for_get_string_length}
use Rattle.jr_env.specs.Requests.{for_is_same_object, for_kind_of, for_new_array, for_new_local_ref}
use Rattle.jr_env.specs.Requests.{for_new_object_array, for_new_plain, for_new_reference, for_new_string}
use Rattle.jr_env.specs.Requests.{for_pop_local_frame, for_set_array_region, for_set_object_array_element}
use Rattle.jr_env.specs.Deeds.{Deed, call_apart, call_on_by, decided, done, release_array_elements, within_by, ◌>>=◌}
use Rattle.jr_syntax.specs.declared.name.Reference.{Reference}
use Rattle.jr_syntax.specs.declared.command.Command.{Command}
use Rattle.jr_syntax.specs.declared.command.Command.TheVariants as commands
use Rattle.jr_syntax.specs.declared.verb.Make.TheVariants as make
use Rattle.jr_syntax.specs.declared.verb.MakeFrom.{MakeFrom}
use Rattle.jr_syntax.specs.declared.verb.MakeFrom.TheVariants as make_from
use Rattle.jr_syntax.specs.declared.verb.On.TheVariants as on
use Rattle.jr_syntax.specs.declared.verb.OnBoth.TheVariants as on_both
use Rattle.jr_syntax.specs.declared.verb.OnName.TheVariants as on_name
use Rattle.jr_syntax.specs.declared.verb.WithCount.TheVariants as with_count
use Rattle.jr_syntax.specs.declared.verb.OnNameAt.TheVariants as on_name_at
use Rattle.jr_syntax.specs.declared.verb.PutAt.TheVariants as put_at
use Rattle.jr_syntax.specs.declared.verb.Release.TheVariants as release
use Rattle.jr_syntax.specs.declared.verb.OpenLevel.{OpenLevel}
use Rattle.jr_scripts.specs.declared.reply.Reply.{Reply}
use Rattle.jr_scripts.specs.declared.reply.Reply.TheVariants as replies
use Rattle.jr_scripts.specs.declared.binding.Binding.{Binding}
use Rattle.jr_scripts.specs.declared.binding.Binding.TheVariants as bound
use Rattle.jr_scripts.specs.Buffers.{Copied, with_word_if}
use Rattle.jr_scripts.specs.Names.{Names, buffer_in, buffered, getting, putting, reference_in, referent, binding}
use Rattle.jr_scripts.specs.Names.{wanted}
use Rattle.jr_scripts.specs.Numbers.{has_numbers, is_number_of, word_of_number}
use Rattle.jr_scripts.specs.Places.{Place, by_region, level_wanted, newest, nth_object}
use Rattle.jr_scripts.specs.Commands.{awaited, collecting, deed, deletion, deleted_as, deleted_of}
use Rattle.jr_scripts.specs.Commands.{get_critical, kind_made, making_from, opening_by, the_reference, tried, type_of}
use Rattle.jr_scripts.specs.RegionCommands.{deed_at, deed_within, giving_up, giving_up_all, kind_of_level}
use Rattle.jr_scripts.specs.RegionCommands.{level_reading, level_writing, nesting, read_kind}
use Rattle.jr_scripts.specs.AloneAnswers.{IsAloneFault}
use Rattle.jr_scripts.proofs.AloneCalls.{IsAlone, LedAlone, LeadsAlone, answered_so, fault_alone, learned_alone}
use Rattle.jr_scripts.proofs.AloneCalls.{made_alone}
use Rattle.jr_scripts.proofs.AloneParts.{answered_alone, bind_alone, call_alone, decided_alone, done_alone}
use Rattle.jr_scripts.proofs.AloneParts.{tried_alone, whole_alone}
use Rattle.jr_scripts.proofs.AloneAnnouncing.{announcing_alone}

-- THE CALLS

-- a release that writes elements back, and these are kept, if they are
kept_alone : (elements : Option (List ℕ)) (k : Kind) (w : ℕ) (vs : List ℕ) → LeadsAlone (call_on_by (λ c. 1) w
    (λ c last t s a. means c last t s (keeps elements (handed_one a) (programs.release_array_elements k vs))))
kept_alone elements k w vs = record {
  led = λ old new answer alone d. (call_alone (λ c. 1)
      (keeps elements (handed_one d.0) (programs.release_array_elements k vs))).led old new answer alone d.2;
}

pub release_alone : (k : Kind) (w : ℕ) (vs : List ℕ) (mode : Mode) → LeadsAlone (release_array_elements k w vs mode)
release_alone k w vs Copy = kept_alone None k w vs
release_alone k w vs Commit = kept_alone (Some vs) k w vs
release_alone k w vs Abort = done_alone None

-- the calls that enter no gate
pub apart_alone : {n : ℕ} {a : AnswerKind} (p : Program n a) → LeadsAlone (call_apart p)
apart_alone p = record {
  led = λ old new answer alone d.
      (made_alone (λ c. 0) (λ c last t s. lawful c last t s (stays_out p)) refl).led old new answer alone d.0;
}

-- the calls that open a region, and those that add a level to it
opened_alone : (w : ℕ) (p : Program 0 object) → LeadsAlone (λ old answer new. (a : Word) × IsReadAs w a
    × within_by (λ c. 1) (λ c last t s. opened_by p c last t s a) old answer new × IfErr answer (λ e. new.held ≡ empty))
opened_alone w p = record {
  led = λ old new answer alone d. (made_alone (λ c. 1)
      (λ c last t s. lawful c last t s (opens (handed_one d.0) p)) refl).led old new answer alone d.2;
}

pub opening_alone : (v : OpenLevel) (w : ℕ) → LeadsAlone (opening_by v w)
opening_alone v w = opened_alone w (get_critical v 0)

nested_alone : (os : List ℕ) (w : ℕ) (p : ℕ → Program 0 object) → LeadsAlone (λ old answer new. (a : Word)
    × IsReadAs w a × within_by (λ c. 1) (λ c last t s. nested_by p c last t s os a) old answer new)
nested_alone os w p = record {
  led = λ old new answer alone d. (made_alone (λ c. 1)
      (λ c last t s. lawful c last t s (nests os (handed_one d.0) (p (length os)))) refl).led old new answer alone d.2;
}

nesting_alone : (v : OpenLevel) (os : List ℕ) (w : ℕ) → LeadsAlone (nesting v os w)
nesting_alone v os w = nested_alone os w (get_critical v)

-- a collection, which nobody keeps out
pub never_busy : (old new : ThreadState) (n : ℕ) → IsAlone new.pass → collecting old (Ok (replies.Busy n)) new → ⊥
never_busy old new n alone d = fault_alone
    (part_lawful old.pass.config old.pass.last old.pass.thread (state new.pass.seen) PartOf.collect) old.pass new.pass
    old.frames new.frames alone refl (Busy n) d.made.ran

pub collecting_alone : LeadsAlone collecting
collecting_alone = record { led = led }
  where
    led : (old new : ThreadState) (answer : Result Reply Fault) → IsAlone new.pass → collecting old answer new
        → LedAlone old.pass new.pass answer
    led old new (Ok (replies.Collected c)) alone d = answered_so
        (part_lawful old.pass.config old.pass.last old.pass.thread (state new.pass.seen) PartOf.collect) old.pass
        new.pass old.frames new.frames alone (Ok (c.cleared, c.dropped, c.used)) (Ok (replies.Collected c)) d.ran tt tt
    led old new (Ok (replies.Busy n)) alone d = absurd (never_busy old new n alone d)
    led old new _ alone d = absurd d

-- WHAT IS DECIDED WITHOUT A CALL

wanted_alone : (s : Binding) (p : PassView) → IfErr (wanted s) (IsAloneFault p)
wanted_alone bound.Nothing p = tt
wanted_alone _ p = tt

referred_alone : (s : Binding) (p : PassView) → IfErr (reference_in s) (IsAloneFault p)
referred_alone bound.Nothing p = tt
referred_alone _ p = tt

buffer_alone : (s : Binding) (p : PassView) → IfErr (buffer_in s) (IsAloneFault p)
buffer_alone bound.Nothing p = tt
buffer_alone _ p = tt

numbers_alone : (k : Kind) (p : PassView) → IfErr (has_numbers k) (IsAloneFault p)
numbers_alone Plain p = tt
numbers_alone _ p = tt

-- one of an answer and a refusal
tested_alone : {A : Type 0} (b : Bool) (x : A) (e : Fault) (p : PassView) → IsAloneFault p e
    → IfErr (if b then Ok x else Err e) (IsAloneFault p)
tested_alone true x e p fault = tt
tested_alone false x e p fault = fault

word_alone : (k : Kind) (v : ℤ) (p : PassView) → IfErr (word_of_number k v) (IsAloneFault p)
word_alone k v p = tested_alone (is_number_of k v) _ Value p tt

getting_alone : (i : ℕ) (s : Binding) (p : PassView) → IfErr (getting i s) (IsAloneFault p)
getting_alone i (bound.Buffer b) p = tested_alone (nat_lt i (length b.words)) _ Range p tt
getting_alone i _ p = tt

buffered_alone : (r : Result Copied Fault) (p : PassView) → IfErr r (IsAloneFault p)
    → IfErr (buffered r) (IsAloneFault p)
buffered_alone (Ok b) p fault = tt
buffered_alone (Err e) p fault = fault

placed_alone : (b : Copied) (i : ℕ) (r : Result ℕ Fault) (p : PassView) → IfErr r (IsAloneFault p)
    → IfErr (with_word_if b i r) (IsAloneFault p)
placed_alone b i (Ok w) p fault = tested_alone (nat_lt i (length b.words)) _ Range p tt
placed_alone b i (Err e) p fault = fault

putting_alone : (i : ℕ) (v : ℤ) (s : Binding) (p : PassView) → IfErr (putting i v s) (IsAloneFault p)
putting_alone i v (bound.Buffer b) p =
    buffered_alone _ p (placed_alone b i (word_of_number b.kind v) p (word_alone b.kind v p))
putting_alone i v _ p = tt

level_alone : (m : Option ℕ) (p : PassView) → IfErr (level_wanted m) (IsAloneFault p)
level_alone (Some l) p = tt
level_alone None p = tt

-- a reference that a command wants, and what it does with that
with_reference : {A : Type 0} (names : Names) (r : Reference) {next : Handle → Deed A}
    → ((w : Handle) → LeadsAlone (next w)) → LeadsAlone (the_reference names r >>= next)
with_reference names r q = bind_alone (decided_alone _ (wanted_alone (referent names r))) q

-- up to so many tries of a call, and the reply
replied : {A : Type 0} {turns : ℕ} {one : Deed A} (form : A → Reply) → LeadsAlone one
    → LeadsAlone (tried turns one >>= (λ x. done (form x)))
replied form p = answered_alone form (tried_alone p)

-- a command is refused in a region, or outside
barred_alone : LeadsAlone (decided {A = Reply} (Err InCritical))
barred_alone = decided_alone (Err InCritical) (λ p. tt)

awaited_alone : LeadsAlone awaited
awaited_alone = record { led = led }
  where
    led : (old new : ThreadState) (answer : Result Reply Fault) → IsAlone new.pass → awaited old answer new
        → LedAlone old.pass new.pass answer
    led old new answer alone (inl x) =
        subst (LedAlone old.pass new.pass) (sym x.1) (learned_alone old new _ alone x.2)
    led old new answer alone (inr x) = (decided_alone (Err Turns) (λ p. tt)).led old new answer alone x

-- THE COMMANDS WHERE NO REGION STANDS

module _ (turns : ℕ) where
  making_from_alone : (v : MakeFrom) (w : ℕ) → LeadsAlone (making_from turns v w)
  making_from_alone make_from.Global w = replied _ (whole_alone (for_new_reference Global w))
  making_from_alone make_from.Weak w = replied _ (whole_alone (for_new_reference Weak w))
  making_from_alone make_from.Local w = replied _ (whole_alone (for_new_local_ref w))
  making_from_alone make_from.Pop w = replied _ (whole_alone (for_pop_local_frame w))
  making_from_alone make_from.Elements w = bind_alone (tried_alone (whole_alone (for_kind_of w))) (λ k.
      bind_alone (decided_alone _ (numbers_alone k)) (λ u. replied _ (whole_alone (for_get_array_elements k w))))

  deleted_of_alone : (k : RefKind) (w : ℕ) → LeadsAlone (deleted_of turns k w)
  deleted_of_alone Local w = tried_alone (whole_alone (for_delete_local_ref w))
  deleted_of_alone Global w = tried_alone (whole_alone (for_delete_reference Global w))
  deleted_of_alone Weak w = tried_alone (whole_alone (for_delete_reference Weak w))

  deleted_as_alone : (w : ℕ) (a : Word) → LeadsAlone (deleted_as turns w a)
  deleted_as_alone w Nothing = deleted_of_alone Local w
  deleted_as_alone w Malformed = decided_alone _ (λ p. tt)
  deleted_as_alone w (Parts h) = deleted_of_alone h.kind w

  deletion_alone : (w : ℕ) → LeadsAlone (deletion turns w)
  deletion_alone w = record { led = λ old new answer alone d. (deleted_as_alone w d.0).led old new answer alone d.2 }

  type_of_alone : (h : Option Handle) → LeadsAlone (type_of turns h)
  type_of_alone None = done_alone 0
  type_of_alone (Some h) = tried_alone (whole_alone (for_get_object_ref_type h.0))

  deed_alone : (names : Names) (c : Command) → LeadsAlone (deed turns names c)
  deed_alone names (commands.Make make.Plain n) = replied _ (whole_alone for_new_plain)
  deed_alone names (commands.Make make.Wait n) = awaited_alone
  deed_alone names (commands.MakeFrom v n r) = with_reference names r (λ w. making_from_alone v w.0)
  deed_alone names (commands.On on.Drop r) = with_reference names r (λ w. answered_alone _ (deletion_alone w.0))
  deed_alone names (commands.On on.Type r) = bind_alone (decided_alone _ (referred_alone (referent names r))) (λ h.
      answered_alone _ (type_of_alone h))
  deed_alone names (commands.On on.Len r) = with_reference names r (λ w. replied _ (whole_alone
      (for_get_array_length w.0)))
  deed_alone names (commands.On on.TextLength r) = with_reference names r (λ w. replied _ (whole_alone
      (for_get_string_length w.0)))
  deed_alone names (commands.On on.Chars r) = with_reference names r (λ w. replied _ (whole_alone
      (for_get_string_chars w.0)))
  deed_alone names (commands.OnBoth on_both.Same q r) =
      with_reference names q (λ v. with_reference names r (λ w. replied _ (whole_alone (for_is_same_object v.0 w.0))))
  deed_alone names (commands.OnName on_name.Post n) = done_alone _
  deed_alone names (commands.WithCount with_count.Push n) = replied _ (apart_alone (programs.push_local_frame n))
  deed_alone names (commands.WithCount with_count.Ensure n) = replied _ (apart_alone (programs.ensure_local_capacity n))
  deed_alone names (commands.MakeSized v n len) = replied _ (whole_alone (for_new_array (kind_made v) len))
  deed_alone names (commands.MakeFilled v n len r) = with_reference names r (λ w. replied _ (whole_alone
      (for_new_object_array len w.0)))
  deed_alone names (commands.MakeText v n units) = replied _ (whole_alone (for_new_string units))
  deed_alone names (commands.MakeAt v n r i) = with_reference names r (λ w. replied _ (whole_alone
      (for_get_object_array_element w.0 i)))
  deed_alone names (commands.OnAt v r i) = with_reference names r (λ w. bind_alone (tried_alone (whole_alone
      (for_kind_of w.0))) (λ k.
      bind_alone (decided_alone _ (numbers_alone k)) (λ u. replied _ (whole_alone (for_get_array_region k w.0 i 1)))))
  deed_alone names (commands.SetAt v r i q) =
      with_reference names r (λ a. with_reference names q (λ w. replied _ (whole_alone
      (for_set_object_array_element a.0 i w.0))))
  deed_alone names (commands.StoreAt v r i x) = with_reference names r (λ w.
      bind_alone (tried_alone (whole_alone (for_kind_of w.0))) (λ k. bind_alone (decided_alone _ (numbers_alone k))
      (λ u.
      bind_alone (decided_alone _ (word_alone k x)) (λ word. replied _ (whole_alone (for_set_array_region k w.0 i
      (word ∷ [])))))))
  deed_alone names (commands.OpenLevel v n r) =
      answered_alone _ (with_reference names r (λ w. tried_alone (opening_alone v w.0)))
  deed_alone names (commands.CloseLevel v mode) = barred_alone
  deed_alone names (commands.OfRoom v) = collecting_alone
  deed_alone names (commands.WithTries v tries) = announcing_alone turns tries
  deed_alone names (commands.OnNameAt on_name_at.GetInLevel n i) = barred_alone
  deed_alone names (commands.OnNameAt on_name_at.Get n i) =
      answered_alone _ (decided_alone _ (getting_alone i (binding names n)))
  deed_alone names (commands.PutAt put_at.PutInLevel n i x) = barred_alone
  deed_alone names (commands.PutAt put_at.Put n i x) =
      answered_alone _ (decided_alone _ (putting_alone i x (binding names n)))
  deed_alone names (commands.Release release.Elements n r mode) =
      bind_alone (decided_alone _ (buffer_alone (binding names n))) (λ b.
      with_reference names r (λ w. replied _ (release_alone b.kind w.0 b.words mode)))

-- THE COMMANDS IN A REGION

giving_up_alone : (n : ℕ) → LeadsAlone (giving_up n)
giving_up_alone n = record {
  led = λ old new answer alone d. (made_alone (λ c. 0)
      (λ c last t s. part_lawful c last t s (PartOf.region_release n)) refl).led old new answer alone d.0;
}

level_kind_alone : (o : ℕ) → LeadsAlone (kind_of_level o)
level_kind_alone o = made_alone (λ c. 0) (λ c last t s. part_lawful c last t s
    (PartOf.at_level o programs.region_kind)) refl

level_reading_alone : (o i : ℕ) → LeadsAlone (level_reading o i)
level_reading_alone o i = bind_alone (level_kind_alone o) (λ k.
    bind_alone (decided_alone _ (numbers_alone (read_kind k))) (λ u. answered_alone _
    (made_alone (λ c. 0) (λ c last t s. part_lawful c last t s (PartOf.at_level o (programs.region_get
    (read_kind k) i))) refl)))

level_writing_alone : (o i : ℕ) (x : ℤ) → LeadsAlone (level_writing o i x)
level_writing_alone o i x = bind_alone (level_kind_alone o) (λ k.
    bind_alone (decided_alone _ (numbers_alone k)) (λ u. bind_alone (decided_alone _ (word_alone k x)) (λ word.
    answered_alone _ (made_alone (λ c. 0) (λ c last t s. part_lawful c last t s (PartOf.at_level o
    (programs.region_set k i word))) refl))))

in_region_alone : (p : Place) (c : Command) → LeadsAlone (deed_within p c)
in_region_alone p (commands.OpenLevel v n r) =
    with_reference p.names r (λ w. answered_alone _ (nesting_alone v p.objects w.0))
in_region_alone p (commands.OnNameAt on_name_at.GetInLevel n i) =
    bind_alone (decided_alone _ (level_alone (newest p.levels n))) (λ l. level_reading_alone (nth_object p.objects l) i)
in_region_alone p (commands.PutAt put_at.PutInLevel n i x) = bind_alone
    (decided_alone _ (level_alone (newest p.levels n))) (λ l. level_writing_alone (nth_object p.objects l) i x)
in_region_alone p (commands.CloseLevel v mode) = answered_alone _ (giving_up_alone (length p.objects))
in_region_alone p (commands.OnName on_name.Post n) = done_alone _
in_region_alone p (commands.Make make.Wait n) = awaited_alone
in_region_alone p _ = barred_alone

-- WHEREVER THE THREAD STANDS

pub place_alone : (turns : ℕ) (p : Place) (c : Command) → LeadsAlone (deed_at turns p c)
place_alone turns p c = go p.objects
  where
    go : (os : List ℕ) → LeadsAlone (by_region os (deed turns p.names c) (deed_within p c))
    go [] = deed_alone turns p.names c
    go (o ∷ os) = in_region_alone p c

-- a region that stands at the end is given up
pub given_up_alone : (os : List ℕ) → LeadsAlone (giving_up_all os)
given_up_alone [] = done_alone tt
given_up_alone (o ∷ os) = giving_up_alone 1
