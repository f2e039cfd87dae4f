-- EACH COMMAND of a thread that shares nothing follows that of the thread alone.
use Rattle.std.proofs.Common.{◌≡◌, ◌<◌, ◌+◌, ◌∙◌, ℕ, ℤ, zero, suc, Bool, true, false, not, nat_le, nat_lt, ◌==◌, Option}
use Rattle.std.proofs.Common.{Some, None, List, [], ◌∷◌, map, length, Result, Ok, Err, inl, inr, refl, sym, ap, subst}
use Rattle.std.proofs.Common.{arith}
use Rattle.std.proofs.lemmas.List.{length-map}
use Rattle.std.specs.List.{AllByRecursion}
use Rattle.jr_word.specs.declared.fault.Fault.{Fault}
use Rattle.jr_word.specs.declared.fault.Fault.TheVariants as fault
use Rattle.jr_word.specs.declared.config.Config.{Config}
use Rattle.jr_word.specs.declared.handle.Handle.{Handle}
use Rattle.jr_word.specs.declared.handle.RefKind.{RefKind}
use Rattle.jr_word.specs.declared.handle.RefKind.TheVariants.{Global, Local, Weak}
use Rattle.jr_word.specs.declared.kind.Kind.{Kind}
use Rattle.jr_model.specs.declared.frames.Mode.{Mode}
use Rattle.jr_model.specs.declared.frames.Mode.TheVariants.{Abort}
use Rattle.jr_model.specs.Checks.{is_text}
use Rattle.jr_model.specs.CallPrograms.{delete_local_ref, free_locals, get_array_elements, get_array_length}
use Rattle.jr_model.specs.CallPrograms.{get_array_region, get_object_array_element, get_tests, get_object_ref_type}
use Rattle.jr_model.specs.CallPrograms.{get_string_chars, get_string_length, is_same_object, kind_of, new_local_ref}
use Rattle.jr_model.specs.CallPrograms.{pop_local_frame, push_local_frame, new_reference, ensure_local_capacity}
use Rattle.jr_model.specs.CallPrograms.{region_get, region_kind, region_set, release_array_elements, set_array_region}
use Rattle.jr_model.specs.CallPrograms.{set_object_array_element}
use Rattle.jr_model.specs.Programs.{AnswerKind, Program, Which, at_both, handle, none_known, nothing, number, object}
use Rattle.jr_model.specs.Programs.{perhaps}
use Rattle.jr_world.specs.Doing.{Doing, Noted, Shared, by_step, entered_in_steps, opened_in_steps, program_steps}
use Rattle.jr_world.specs.Doing.{run_alone, unless_refused, ◌>>=◌}
use Rattle.jr_world.specs.Doing.Doing.{ended}
use Rattle.jr_syntax.specs.declared.name.Reference.{Reference}
use Rattle.jr_syntax.specs.declared.command.Command.{Command}
use Rattle.jr_syntax.specs.declared.command.Command.TheVariants as commands
use Rattle.jr_syntax.specs.declared.verb.Make.TheVariants as make
use Rattle.jr_syntax.specs.declared.verb.MakeFrom.TheVariants as make_from
use Rattle.jr_syntax.specs.declared.verb.On.TheVariants as on
use Rattle.jr_syntax.specs.declared.verb.OpenLevel.{OpenLevel}
use Rattle.jr_syntax.specs.declared.verb.OpenLevel.TheVariants as at
use Rattle.jr_syntax.specs.declared.verb.WithCount.{WithCount}
use Rattle.jr_syntax.specs.declared.verb.WithCount.TheVariants as with_count
use Rattle.jr_syntax.specs.declared.verb.OnNameAt.TheVariants as on_name_at
use Rattle.jr_syntax.specs.declared.verb.PutAt.TheVariants as put_at
use Rattle.jr_scripts.specs.declared.binding.Binding.{Binding}
use Rattle.jr_scripts.specs.declared.binding.Binding.TheVariants as bound
use Rattle.jr_scripts.specs.declared.reply.Reply.{Reply}
use Rattle.jr_scripts.specs.declared.reply.Reply.TheVariants as replies
use Rattle.jr_scripts.specs.Buffers.{Copied, copy_of}
use Rattle.jr_scripts.specs.Commands.{get_critical, kind_made}
use Rattle.jr_scripts.specs.Names.{Names, binding, buffer_in, getting, null, putting, reference_in, referent, wanted}
use Rattle.jr_scripts.specs.Names.{word_posted}
use Rattle.jr_scripts.specs.Numbers.{first_number, has_numbers, number_of_word, word_of_number}
use Rattle.jr_scripts.specs.Places.{Place, level_wanted, newest, nth_object}
use Rattle.jr_scripts.specs.Posting.{ThreadWords}
use Rattle.jr_scripts.specs.RegionCommands.{read_kind}
use Rattle.jr_scripts.specs.Together.{calls_on, calls_on_both, calls_on_none, calls_within, closes_level, doing_at}
use Rattle.jr_scripts.specs.Together.{doing_at_level, doing_back, doing_outside, doing_room, doing_type, doing_within}
use Rattle.jr_scripts.specs.Together.{ends_thread, in_reply, nothing_noted, posts_word}
use Rattle.jr_scripts.specs.OneRow.{manner_of}
use Rattle.jr_scripts.specs.Apart.{is_for_itself, objects_wanted, slots_wanted, words_wanted}
use Rattle.jr_scripts.proofs.NewestLevels.{level_fits}
use Rattle.jr_scripts.proofs.OneRow.Follows.{but, run_then}
use Rattle.jr_scripts.proofs.Apart.Goes.{Goes, anywhere, ended_goes, ended_so, goes_bind, leads_less, not_spoilt}
use Rattle.jr_scripts.proofs.Apart.Goes.{spoilt_so, step_goes, tried_goes, unless_goes, unless_same}
use Rattle.jr_scripts.proofs.Apart.Grown.{board_leaps}
use Rattle.jr_scripts.proofs.Apart.Leads.{Follows, LeadsTo, Outcome, ResultFor, leads_then}
use Rattle.jr_scripts.proofs.Apart.Makes.{array_follows, objects_follow, plain_follows, reference_follows}
use Rattle.jr_scripts.proofs.Apart.Makes.{string_follows}
use Rattle.jr_scripts.proofs.Apart.Rooms.{one_slot}
use Rattle.jr_scripts.proofs.Apart.Mirrors.{Asks, and_asks}
use Rattle.jr_scripts.proofs.Apart.Names.{BindingFor, NamesFor, PlaceFor, ReplyFor, referent_for, reply_stays}
use Rattle.jr_scripts.proofs.Apart.Numbers.{IsFor, Numbers, ObjectFor, Of, answer_stays, extends_itself, object_later}
use Rattle.jr_scripts.proofs.Apart.Numbers.{object_of, same, word_later}
use Rattle.jr_scripts.proofs.Apart.Programs.{EachSuits, entered_goes, opened_goes, out_goes, program_goes}
use Rattle.jr_scripts.proofs.Apart.Programs.AtHand.{an_object, nothing_yet}
use Rattle.jr_scripts.proofs.Apart.Kinds.{past, array_suits, objects_suit, text_suits, read_suits, critical_suits}
use Rattle.jr_scripts.proofs.Apart.Kinds.{Handed, both_handed, none_handed, null_for, one_handed}

abbrev pub asked_by : Command → Asks
asked_by x = record { slots = slots_wanted x; objects = objects_wanted x; words = words_wanted x }

-- the object of a level
nth_for : (k : Numbers) (us : List ℕ) (l : ℕ) → l < length us → AllByRecursion (λ o. o < length k.objects) us
    → ObjectFor k (nth_object (map (object_of k) us) l) (nth_object us l)
nth_for k [] l small all = absurd (omega arith)
nth_for k (u ∷ us) zero small all = (refl, all.0)
nth_for k (u ∷ us) (suc l) small all = nth_for k us l (omega arith) all.1

wanted_for : (k : Numbers) (b d : Binding) → BindingFor k b d → ResultFor (IsFor k handle) (wanted b) (wanted d)
wanted_for k bound.Nothing bound.Nothing is = refl
wanted_for k (bound.Reference h) (bound.Reference g) is = is
wanted_for k (bound.Buffer b) (bound.Buffer d) is = refl
wanted_for k b d is = absurd cc

reference_for : (k : Numbers) (b d : Binding) → BindingFor k b d
    → ResultFor (IsFor k (perhaps handle)) (reference_in b) (reference_in d)
reference_for k bound.Nothing bound.Nothing is = tt
reference_for k (bound.Reference h) (bound.Reference g) is = is
reference_for k (bound.Buffer b) (bound.Buffer d) is = refl
reference_for k b d is = absurd cc

-- what no handle is told of is the same in both
same_of : {A : Type 0} (k : Numbers) (f : Binding → A)
    → ((h g : Handle) → f (bound.Reference h) ≡ f (bound.Reference g)) → (b d : Binding) → BindingFor k b d → f b ≡ f d
same_of k f of_handles (bound.Reference h) (bound.Reference g) is = of_handles h g
same_of k f of_handles b d is = ap f is

module _ {c : Config} {t : ℕ} where
  reply_goes : {A : Type 0} {P : Of A} {k : Numbers} {d alone : Doing A} (form : A → Reply)
      → ((j : Numbers) (x y : A) → P j x y → ReplyFor j (form x) (form y)) → Goes c t anywhere P k d alone
      → Goes c t anywhere ReplyFor k (in_reply form d) (in_reply form alone)
  reply_goes form is first =
      goes_bind first (λ j more x y it. ended_so reply_stays (Ok (form x)) (Ok (form y)) (is j x y it))

  -- CALLS: in a stay of their own, in one that goes on, or in one that stands
  entered_on : {k : Numbers} {n : ℕ} {a : AnswerKind} (hands alone : Which → ℕ) (p : Program n a)
      → EachSuits nothing_yet p → Handed k hands alone → Goes c t anywhere (λ j. IsFor j a) k
      (entered_in_steps (λ from. program_steps c from hands p none_known 0))
      (entered_in_steps (λ from. program_steps c from alone p none_known 0))
  entered_on {a = a} hands alone p suits handed = entered_goes (λ from. program_steps c from hands p none_known 0)
      (λ from. program_steps c from alone p none_known 0) (answer_stays a)
      (λ from since j more. program_goes from since hands alone
      (λ p. word_later more (hands p) (alone p) (handed p)) nothing_yet 0 0 tt (λ z. tt) p suits)

  opened_on : {k : Numbers} {n : ℕ} {a : AnswerKind} (hands alone : Which → ℕ) (p : Program n a)
      → EachSuits nothing_yet p → Handed k hands alone → Goes c t anywhere (λ j. IsFor j a) k
      (opened_in_steps (λ from. program_steps c from hands p none_known 0))
      (opened_in_steps (λ from. program_steps c from alone p none_known 0))
  opened_on {a = a} hands alone p suits handed = opened_goes (λ from. program_steps c from hands p none_known 0)
      (λ from. program_steps c from alone p none_known 0) (answer_stays a)
      (λ from since j more. program_goes from since hands alone
      (λ p. word_later more (hands p) (alone p) (handed p)) nothing_yet 0 0 tt (λ z. tt) p suits)

  standing_on : {k : Numbers} {n : ℕ} {a : AnswerKind} (hands alone : Which → ℕ) (p : Program n a)
      → EachSuits nothing_yet p → Handed k hands alone → Goes c t anywhere (λ j. IsFor j a) k
      (program_steps c nothing_noted hands p none_known 0) (program_steps c nothing_noted alone p none_known 0)
  standing_on hands alone p suits handed =
      program_goes nothing_noted nothing_noted hands alone handed nothing_yet 0 0 tt (λ z. tt) p suits

  -- WHAT FOLLOWS
  goes_follows : {A : Type 0} {Q : Of A} {asked : Asks} {k : Numbers} {d alone : Doing A} → asked.slots ≡ 0
      → asked.objects ≡ 0 → asked.words ≡ 0 → Goes c t anywhere Q k d alone → Follows c t Q asked k d alone
  goes_follows {A} {Q} {asked} {k} {d} {alone} slots objects words goes = record {
    so = λ noted q z is. let w = run_alone 0 true alone z in
        subst (λ p. LeadsTo c t noted (Outcome None Q w q) d k p z) (sym (nothing_asked q))
        (leads_less c t noted (Outcome noted Q w q) (Outcome None Q w q) d k q z is
        (λ since j p r y so it. forgets noted w q since j p r y it) (goes.so k (extends_itself k) noted q z is tt));
  }
    where
      forgets : (noted : Option Noted) (w : Result A Fault × Shared) (q : Asks) (since : Option Noted) (j : Numbers)
          (p : Asks) (r : Result A Fault) (y : Shared) → Outcome noted Q w q since j p r y
          → Outcome None Q w q since j p r y
      forgets noted w q since j p r y (inl it) = inl (tt, it.1, it.2, it.3)
      forgets noted w q since j p r y (inr spoilt) = inr spoilt

      none_asked : (m n : ℕ) → m ≡ 0 → m + n ≡ n
      none_asked m n is = omega arith

      nothing_asked : (q : Asks) → and_asks asked q ≡ q
      nothing_asked q = λ i. record {
        slots = none_asked asked.slots q.slots slots i;
        objects = none_asked asked.objects q.objects objects i;
        words = none_asked asked.words q.words words i;
      }

  ended_follows : {A : Type 0} {Q : Of A} {asked : Asks} {k : Numbers} (r x : Result A Fault) → ResultFor (Q k) r x
      → Follows c t Q asked k (ended r) (ended x)
  ended_follows r x is =
      record { so = λ noted q z alone. inl (tt, is, refl, (omega arith, omega arith, omega arith)) }

  reply_follows : {A : Type 0} {P : Of A} {asked : Asks} {k : Numbers} {d alone : Doing A} (form : A → Reply)
      → ((j : Numbers) (x y : A) → P j x y → ReplyFor j (form x) (form y)) → Follows c t P asked k d alone
      → Follows c t ReplyFor asked k (in_reply form d) (in_reply form alone)
  reply_follows {A} {P} {asked} {k} {d} {alone} form so first = record {
    so = λ noted q z is. subst (λ w. LeadsTo c t noted (Outcome None ReplyFor w q) (in_reply form d) k
        (and_asks asked q) z) (sym (run_then (but 0) 0 alone next z)) (leads_then c t noted
        (Outcome None P (run_alone 0 true alone z) q) (Outcome None ReplyFor
        (run_alone 0 true (next (run_alone 0 true alone z).0) (run_alone 0 true alone z).1) q) d next k
        (and_asks asked q) z is (first.so noted q z is) (λ since j p r y more there it.
        go q since j p r (run_alone 0 true alone z).0 y (run_alone 0 true alone z).1 it));
  }
    where
      next : Result A Fault → Doing Reply
      next = unless_refused (λ x. ended (Ok (form x)))

      go : (q : Asks) (since : Option Noted) (j : Numbers) (p : Asks) (r x : Result A Fault) (y w : Shared)
          → Outcome None P (x, w) q since j p r y
          → LeadsTo c t since (Outcome None ReplyFor (run_alone 0 true (next x) w) q) (next r) j p y
      go q since j p (Ok x) (Ok b) y w (inl all) = inl (all.0, so j x b all.1, all.2, all.3)
      go q since j p (Ok x) (Err e) y w (inl all) = absurd all.1
      go q since j p (Err e) (Ok x) y w (inl all) = absurd all.1
      go q since j p (Err e) (Err f) y w (inl all) = inl (all.0, all.1, all.2, all.3)
      go q since j p (Ok x) b y w (inr bad) = absurd (not_spoilt bad)
      go q since j p (Err e) b y w (inr bad) = inr (spoilt_so e bad)

  unless_follows : {A B : Type 0} (P : A → A → Type 0) {Q : Of B} {asked : Asks} {k : Numbers}
      {next after : A → Doing B} (r x : Result A Fault) → ResultFor P r x
      → ((x y : A) → P x y → Follows c t Q asked k (next x) (after y))
      → Follows c t Q asked k (unless_refused next r) (unless_refused after x)
  unless_follows P (Ok x) (Ok y) is rest = rest x y is
  unless_follows P (Ok x) (Err e) is rest = absurd is
  unless_follows P (Err e) (Ok x) is rest = absurd is
  unless_follows P (Err e) (Err f) is rest = ended_follows (Err e) (Err f) is

  -- a word is posted, which nobody waits for
  post_on : {k : Numbers} (n : List ℕ) (w v : ℕ)
      → Goes c t anywhere ReplyFor k (by_step (posts_word n w)) (by_step (posts_word n v))
  post_on n w v = step_goes (posts_word n w) (posts_word n v)
      (λ luck j q s z more m at. (j, board_leaps m _ _, refl))

-- WHERE NO REGION STANDS: which commands make nothing that others might leave no room for
abbrev is_light : Command → Bool
is_light (commands.Make v n) = false
is_light (commands.MakeFrom make_from.Global n r) = false
is_light (commands.MakeFrom make_from.Weak n r) = false
is_light (commands.MakeSized v n len) = false
is_light (commands.MakeFilled v n len r) = false
is_light (commands.MakeText v n units) = false
is_light (commands.OfRoom v) = false
is_light (commands.WithTries v tries) = false
is_light _ = true

same_length : {k : Numbers} {p alone : Place} → PlaceFor k p alone → length p.objects ≡ length alone.objects
same_length {k} {p} {alone} places = ap length places.objects ∙ length-map alone.objects (object_of k)

module _ {c : Config} {t : ℕ} (turns : ℕ) (names alone : Names) (words heard : ThreadWords) (k : Numbers)
    (so : NamesFor k names alone) where
  both : {j : Numbers} {n : ℕ} {a : AnswerKind} (h g f e : Handle) (p : Program n a) → EachSuits nothing_yet p
      → IsFor j handle h f → IsFor j handle g e → Goes c t anywhere (λ i. IsFor i a) j
      (calls_on_both c turns names words h g p) (calls_on_both c turns alone heard f e p)
  both {j} {a = a} h g f e p suits one other = tried_goes (answer_stays a) turns
      (entered_on (at_both h.0 g.0) (at_both f.0 e.0) p suits (both_handed j h g f e one other))

  call : {j : Numbers} {n : ℕ} {a : AnswerKind} (h f : Handle) (p : Program n a) → EachSuits nothing_yet p
      → IsFor j handle h f → Goes c t anywhere (λ i. IsFor i a) j
      (calls_on c turns names words h p) (calls_on c turns alone heard f p)
  call {j} h f p suits is = both h null f null p suits is (null_for j)

  type_on : (h f : Option Handle) → IsFor k (perhaps handle) h f
      → Goes c t anywhere (λ i. IsFor i number) k (doing_type c turns names words h) (doing_type c turns alone heard f)
  type_on None None is = ended_goes (Ok 0) (Ok 0) (λ j more. refl)
  type_on None (Some f) is = absurd is
  type_on (Some h) None is = absurd is
  type_on (Some h) (Some f) is = call h f get_object_ref_type tt is

  room_on : (v : WithCount) (n : ℕ) → Goes c t anywhere (λ i. IsFor i nothing) k (doing_room c turns names words v n)
      (doing_room c turns alone heard v n)
  room_on with_count.Push n = tried_goes (answer_stays nothing) turns (standing_on (at_both 0 0) (at_both 0 0)
      (push_local_frame n) tt (none_handed k))
  room_on with_count.Ensure n = tried_goes (answer_stays nothing) turns (standing_on (at_both 0 0) (at_both 0 0)
      (ensure_local_capacity n) tt (none_handed k))

  back_on : (mode : Mode) (b : Copied) (h f : Handle) → IsFor k handle h f → Goes c t anywhere (λ i. IsFor i nothing) k
      (doing_back c turns names words mode b h) (doing_back c turns alone heard mode b f)
  back_on Abort b h f is =
      tried_goes (answer_stays nothing) turns (ended_goes (Ok tt) (Ok tt) (λ j more. refl))
  back_on _ b h f is = call h f (release_array_elements b.kind b.words) (
    tt,
    λ l n pass. array_suits b.kind l fault.NotArray fault.WrongElement
        ((not (n == length b.words), fault.Range) ∷ []) pass,
  ) is

  named : {next after : Handle → Doing Reply} (r : Reference)
      → ((h f : Handle) → IsFor k handle h f → Goes c t anywhere ReplyFor k (next h) (after f))
      → Goes c t anywhere ReplyFor k (unless_refused next (wanted (referent names r)))
      (unless_refused after (wanted (referent alone r)))
  named r rest = unless_goes (IsFor k handle) (wanted (referent names r)) (wanted (referent alone r))
      (wanted_for k (referent names r) (referent alone r) (referent_for k names alone so r)) rest

  numbers : {next after : Kind → Doing Reply} (h f : Handle) → IsFor k handle h f
      → ((j : Numbers) (l : Kind) → IsFor j handle h f → Goes c t anywhere ReplyFor j (next l) (after l))
      → Goes c t anywhere ReplyFor k
      (calls_on_both c turns names words h null kind_of >>= (λ l. unless_refused (λ x. next l) (has_numbers l)))
      (calls_on_both c turns alone heard f null kind_of >>= (λ l. unless_refused (λ x. after l) (has_numbers l)))
  numbers {next} {after} h f is rest = goes_bind (call h f kind_of (tt, λ l n. tt) is) (λ j more l m it. subst
      (λ m. Goes c t anywhere ReplyFor j (unless_refused (λ x. next l) (has_numbers l))
      (unless_refused (λ x. after m) (has_numbers m))) it
      (unless_same (has_numbers l) (λ x. rest j l (word_later more h.0 f.0 is))))

  -- an answer that is the same in both
  told_same : {A : Type 0} (form : A → Reply) → ((j : Numbers) (x : A) → ReplyFor j (form x) (form x))
      → (r x : Result A Fault) → r ≡ x
      → Goes c t anywhere ReplyFor k (unless_refused (λ y. ended (Ok (form y))) r)
      (unless_refused (λ y. ended (Ok (form y))) x)
  told_same form is r x e = subst (λ x. Goes c t anywhere ReplyFor k (unless_refused (λ y. ended (Ok (form y))) r)
      (unless_refused (λ y. ended (Ok (form y))) x)) e
      (unless_same r (λ x. ended_goes (Ok (form x)) (Ok (form x)) (λ j more. is j x)))

  outside_on : (x : Command) → is_light x ≡ true
      → Goes c t anywhere ReplyFor k (doing_outside c turns names words x) (doing_outside c turns alone heard x)
  outside_on (commands.Make v n) is = absurd cc
  outside_on (commands.MakeFrom make_from.Global n r) is = absurd cc
  outside_on (commands.MakeFrom make_from.Weak n r) is = absurd cc
  outside_on (commands.MakeFrom make_from.Local n r) is = named r (λ h f it.
      reply_goes _ (λ j x y made. made) (call h f new_local_ref tt it))
  outside_on (commands.MakeFrom make_from.Pop n r) is = named r (λ h f it.
      reply_goes _ (λ j x y made. made) (call h f pop_local_frame tt it))
  outside_on (commands.MakeFrom make_from.Elements n r) is = named r (λ h f it. numbers h f it (λ j l later.
      reply_goes (λ copied. replies.Copied (copy_of l copied))
      (λ i x y e. ap (λ copied. replies.Copied (copy_of l copied)) e)
      (call h f (get_array_elements l)
      (tt, λ m n pass. array_suits l m fault.NotArray fault.WrongElement [] pass) later)))
  outside_on (commands.On on.Type r) is = unless_goes (IsFor k (perhaps handle)) (reference_in (referent names r))
      (reference_in (referent alone r))
      (reference_for k (referent names r) (referent alone r) (referent_for k names alone so r))
      (λ h f it. reply_goes (λ n. replies.Type n) (λ j x y e. ap (λ n. replies.Type n) e) (type_on h f it))
  outside_on (commands.On on.Len r) is = named r (λ h f it. reply_goes (λ n. replies.Length n)
      (λ j x y e. ap (λ n. replies.Length n) e) (call h f get_array_length (tt, λ l n pass. tt) it))
  outside_on (commands.On on.TextLength r) is = named r (λ h f it. reply_goes (λ n. replies.Length n)
      (λ j x y e. ap (λ n. replies.Length n) e) (call h f get_string_length (tt, λ l n pass. tt) it))
  outside_on (commands.On on.Chars r) is = named r (λ h f it. reply_goes (λ n. replies.Units n)
      (λ j x y e. ap (λ n. replies.Units n) e)
      (call h f get_string_chars (tt, λ l n pass. text_suits l fault.WrongKind [] pass) it))
  outside_on (commands.On on.Drop r) is = named r (λ h f it.
      reply_goes _ (λ j x y e. refl) (call h f delete_local_ref tt it))
  outside_on (commands.OnBoth v q r) is = named q (λ h f it. named r (λ g e its. reply_goes (λ b. replies.Same b)
      (λ j x y e. ap (λ b. replies.Same b) e) (both h g f e is_same_object tt it its)))
  outside_on (commands.OnName v n) is = post_on n (word_posted names n) (word_posted alone n)
  outside_on (commands.WithCount v n) is = reply_goes _ (λ j x y e. refl) (room_on v n)
  outside_on (commands.MakeSized v n len) is = absurd cc
  outside_on (commands.MakeFilled v n len r) is = absurd cc
  outside_on (commands.MakeText v n units) is = absurd cc
  outside_on (commands.MakeAt v n r i) is = named r (λ h f it. reply_goes _ (λ j x y made. made)
      (call h f (get_object_array_element i) (
        tt,
        λ l n pass. (
          objects_suit l fault.NotArray fault.WrongElement
              ((nat_le n i, fault.Range) ∷ []) pass,
          tt,
        ),
      ) it))
  outside_on (commands.SetAt v r i q) is = named r (λ h f it. named q (λ g e its. reply_goes _ (λ j x y e. refl)
      (both h g f e (set_object_array_element i) (
        tt,
        λ l n pass. objects_suit l fault.NotArray
            fault.WrongElement ((nat_le n i, fault.Range) ∷ []) pass,
      ) it its)))
  outside_on (commands.OnAt v r i) is = named r (λ h f it. numbers h f it (λ j l later. reply_goes
      (λ found. replies.Value (first_number l found)) (λ i x y e. ap (λ found. replies.Value (first_number l found)) e)
      (call h f (get_array_region l i 1) (
        tt,
        λ m n pass. array_suits l m fault.NotArray
            fault.WrongElement ((nat_lt n (i + 1), fault.Range) ∷ []) pass,
      ) later)))
  outside_on (commands.StoreAt v r i x) is = named r (λ h f it. numbers h f it (λ j l later. unless_same
      (word_of_number l x) (λ word. reply_goes _ (λ i x y e. refl)
      (call h f (set_array_region l i (word ∷ [])) (
        tt,
        λ m n pass. array_suits l m fault.NotArray
            fault.WrongElement ((nat_lt n (i + 1), fault.Range) ∷ []) pass,
      ) later))))
  outside_on (commands.OpenLevel v n r) is = named r (λ h f it. reply_goes _ (λ j x y e. e) (tried_goes
      (answer_stays object) turns (opened_on (at_both h.0 0) (at_both f.0 0) (get_critical v 0)
      (critical_suits nothing_yet v 0) (one_handed k h f it))))
  outside_on (commands.OfRoom v) is = absurd cc
  outside_on (commands.WithTries v tries) is = absurd cc
  outside_on (commands.OnNameAt on_name_at.Get n i) is = told_same (λ x. replies.Value x)
      (λ j x. refl) (getting i (binding names n)) (getting i (binding alone n))
      (same_of k (getting i) (λ h g. refl) (binding names n) (binding alone n) (so n))
  outside_on (commands.PutAt put_at.Put n i x) is = told_same (λ b. replies.Done) (λ j b. refl)
      (putting i x (binding names n)) (putting i x (binding alone n))
      (same_of k (putting i x) (λ h g. refl) (binding names n) (binding alone n) (so n))
  outside_on (commands.Release v n r mode) is = subst (λ q. Goes c t anywhere ReplyFor k
      (doing_outside c turns names words (commands.Release v n r mode)) (unless_refused (λ b. unless_refused
      (λ h. in_reply (λ u. replies.Done) (doing_back c turns alone heard mode b h)) (wanted (referent alone r))) q))
      (same_of k buffer_in (λ h g. refl) (binding names n) (binding alone n) (so n))
      (unless_same (buffer_in (binding names n)) (λ b. named r (λ h f it.
      reply_goes _ (λ j x y e. refl) (back_on mode b h f it))))
  outside_on (commands.OnNameAt on_name_at.GetInLevel n i) is =
      ended_goes (Err fault.InCritical) (Err fault.InCritical) (λ j more. refl)
  outside_on (commands.PutAt put_at.PutInLevel n i x) is =
      ended_goes (Err fault.InCritical) (Err fault.InCritical) (λ j more. refl)
  outside_on (commands.CloseLevel v mode) is =
      ended_goes (Err fault.InCritical) (Err fault.InCritical) (λ j more. refl)

  -- a reference in a slot
  slot_follows : (l : RefKind) → (l ≡ Local → ⊥) → (r : Reference) → Follows c t ReplyFor one_slot k
      (unless_refused (λ h. in_reply (λ x. replies.Made x) (calls_on c turns names words h (new_reference l)))
      (wanted (referent names r)))
      (unless_refused (λ h. in_reply (λ x. replies.Made x) (calls_on c turns alone heard h (new_reference l)))
      (wanted (referent alone r)))
  slot_follows l slot r = unless_follows (IsFor k handle) (wanted (referent names r)) (wanted (referent alone r))
      (wanted_for k (referent names r) (referent alone r) (referent_for k names alone so r))
      (λ h f it. reply_follows (λ x. replies.Made x) (λ j x y made. made)
      (reference_follows turns names alone words heard l slot h f it))

  outside_follows : (x : Command) → is_for_itself (manner_of x) ≡ true → Follows c t ReplyFor (asked_by x) k
      (doing_outside c turns names words x) (doing_outside c turns alone heard x)
  outside_follows (commands.Make make.Plain n) is = reply_follows (λ h. replies.Made (Some h)) (λ j x y made. made)
      (plain_follows turns names alone words heard)
  outside_follows (commands.Make make.Wait n) is = absurd cc
  outside_follows (commands.MakeFrom make_from.Global n r) is = slot_follows Global (λ bad. absurd cc) r
  outside_follows (commands.MakeFrom make_from.Weak n r) is = slot_follows Weak (λ bad. absurd cc) r
  outside_follows (commands.MakeSized v n len) is = reply_follows (λ h. replies.Made (Some h)) (λ j x y made. made)
      (array_follows turns names alone words heard (kind_made v) len)
  outside_follows (commands.MakeFilled v n len r) is = unless_follows (IsFor k handle)
      (wanted (referent names r)) (wanted (referent alone r))
      (wanted_for k (referent names r) (referent alone r) (referent_for k names alone so r))
      (λ h f it. reply_follows (λ x. replies.Made (Some x)) (λ j x y made. made)
      (objects_follow turns names alone words heard len h f it))
  outside_follows (commands.MakeText v n units) is = reply_follows (λ h. replies.Made (Some h)) (λ j x y made. made)
      (string_follows turns names alone words heard units)
  outside_follows (commands.OfRoom v) is = absurd cc
  outside_follows (commands.WithTries v tries) is = absurd cc
  outside_follows x is = goes_follows refl refl refl (outside_on x refl)

module _ {c : Config} {t : ℕ} (turns : ℕ) (words other : ThreadWords) {k : Numbers} (p alone : Place)
    (places : PlaceFor k p alone) where
  -- IN A REGION
  level_on : (n : List ℕ) (next after : ℕ → Doing Reply)
      → ((o u : ℕ) → ObjectFor k o u → Goes c t anywhere ReplyFor k (next o) (after u))
      → Goes c t anywhere ReplyFor k (doing_at_level c turns p.names words p.levels p.objects n next)
      (doing_at_level c turns alone.names other alone.levels alone.objects n after)
  level_on n next after rest = subst (λ ls. Goes c t anywhere ReplyFor k
      (doing_at_level c turns p.names words ls p.objects n next)
      (doing_at_level c turns alone.names other alone.levels alone.objects n after)) (sym places.levels)
      (go (level_wanted (newest alone.levels n)) refl)
    where
      go : (r : Result ℕ Fault) → level_wanted (newest alone.levels n) ≡ r → Goes c t anywhere ReplyFor k
          (unless_refused (λ l. next (nth_object p.objects l)) r)
          (unless_refused (λ l. after (nth_object alone.objects l)) r)
      go (Ok l) is = subst (λ os. Goes c t anywhere ReplyFor k (next (nth_object os l))
          (after (nth_object alone.objects l)))
          (sym places.objects) (rest _ _ (nth_for k alone.objects l
          (level_fits alone.levels n l (length alone.objects) places.as_many is) places.have_objects))
      go (Err e) is = ended_goes (Err e) (Err e) (λ j more. refl)

  close_on : (levels : ℕ) → Goes c t anywhere same k (closes_level c turns p.names words levels)
      (closes_level c turns alone.names other levels)
  close_on zero = ended_goes (Ok tt) (Ok tt) (λ j more. refl)
  close_on (suc zero) = out_goes
  close_on (suc (suc levels)) = ended_goes (Ok tt) (Ok tt) (λ j more. refl)

  within_on : {n : ℕ} {a : AnswerKind} {j : Numbers} (o u : ℕ) → ObjectFor j o u → (x : Program n a)
      → EachSuits an_object x → Goes c t anywhere (λ i. IsFor i a) j
      (calls_within c turns p.names words null o x) (calls_within c turns alone.names other null u x)
  within_on {j = j} o u is x suits = program_goes nothing_noted nothing_noted (at_both 0 0) (at_both 0 0)
      (none_handed j) an_object o u is (λ z. tt) x suits

  open_on : (v : OpenLevel) (r : Reference) → Goes c t anywhere ReplyFor k
      (unless_refused (λ h. in_reply (λ o. replies.Level o)
      (calls_within c turns p.names words h 0 (get_critical v (length p.objects)))) (wanted (referent p.names r)))
      (unless_refused (λ h. in_reply (λ o. replies.Level o)
      (calls_within c turns alone.names other h 0 (get_critical v (length alone.objects))))
      (wanted (referent alone.names r)))
  open_on v r = subst (λ m. Goes c t anywhere ReplyFor k
      (unless_refused (λ h. in_reply (λ o. replies.Level o)
      (calls_within c turns p.names words h 0 (get_critical v (length p.objects)))) (wanted (referent p.names r)))
      (unless_refused (λ h. in_reply (λ o. replies.Level o)
      (calls_within c turns alone.names other h 0 (get_critical v m))) (wanted (referent alone.names r))))
      (same_length places)
      (named turns p.names alone.names words other k places.names r (λ h f it. reply_goes (λ o. replies.Level o)
      (λ j x y e. e) (standing_on (at_both h.0 0) (at_both f.0 0) (get_critical v (length p.objects))
      (critical_suits nothing_yet v (length p.objects)) (one_handed k h f it))))

  get_on : (n : List ℕ) (i : ℕ) → Goes c t anywhere ReplyFor k
      (doing_within c turns p.names words p.levels p.objects (commands.OnNameAt on_name_at.GetInLevel n i))
      (doing_within c turns alone.names other alone.levels alone.objects
      (commands.OnNameAt on_name_at.GetInLevel n i))
  get_on n i = level_on n _ _ (λ o u it. goes_bind (within_on o u it region_kind (tt, λ l m. tt))
      (λ j more l m e. subst (λ m. Goes c t anywhere ReplyFor j
      (unless_refused (λ x. in_reply (λ word. replies.Value (number_of_word (read_kind l) word))
      (calls_within c turns p.names words null o (region_get (read_kind l) i))) (has_numbers (read_kind l)))
      (unless_refused (λ x. in_reply (λ word. replies.Value (number_of_word (read_kind m) word))
      (calls_within c turns alone.names other null u (region_get (read_kind m) i))) (has_numbers (read_kind m)))) e
      (unless_same (has_numbers (read_kind l)) (λ x. reply_goes
      (λ word. replies.Value (number_of_word (read_kind l) word))
      (λ b x y e. ap (λ word. replies.Value (number_of_word (read_kind l) word)) e)
      (within_on o u (object_later more o u it) (region_get (read_kind l) i) (
        tt,
        λ b m pass. read_suits (read_kind l) b
            fault.WrongElement ((nat_le m i, fault.Range) ∷ []) pass,
      ))))))

  put_on : (n : List ℕ) (i : ℕ) (x : ℤ) → Goes c t anywhere ReplyFor k
      (doing_within c turns p.names words p.levels p.objects (commands.PutAt put_at.PutInLevel n i x))
      (doing_within c turns alone.names other alone.levels alone.objects (commands.PutAt put_at.PutInLevel n i x))
  put_on n i x = level_on n _ _ (λ o u it. goes_bind
      (within_on o u it region_kind (tt, λ l m. tt))
      (λ j more l m e. subst (λ m. Goes c t anywhere ReplyFor j
      (unless_refused (λ y. unless_refused (λ word. in_reply (λ y. replies.Done)
      (calls_within c turns p.names words null o (region_set l i word))) (word_of_number l x)) (has_numbers l))
      (unless_refused (λ y. unless_refused (λ word. in_reply (λ y. replies.Done)
      (calls_within c turns alone.names other null u (region_set m i word))) (word_of_number m x)) (has_numbers m))) e
      (unless_same (has_numbers l) (λ y. unless_same (word_of_number l x) (λ word. reply_goes
      (λ y. replies.Done) (λ b y z e. refl) (within_on o u (object_later more o u it) (region_set l i word) (
        tt,
        λ b m pass. read_suits l b fault.WrongElement ((nat_le m i, fault.Range) ∷ [])
            (past (is_text b) fault.NotArray (get_tests l i b m) pass),
      )))))))

  inside_follows : (x : Command) → is_for_itself (manner_of x) ≡ true → Follows c t ReplyFor (asked_by x) k
      (doing_within c turns p.names words p.levels p.objects x)
      (doing_within c turns alone.names other alone.levels alone.objects x)
  inside_follows (commands.Make make.Wait n) is = absurd cc
  inside_follows (commands.OpenLevel v n r) is = goes_follows refl refl refl (open_on v r)
  inside_follows (commands.OnNameAt on_name_at.GetInLevel n i) is = goes_follows refl refl refl (get_on n i)
  inside_follows (commands.PutAt put_at.PutInLevel n i x) is = goes_follows refl refl refl (put_on n i x)
  inside_follows (commands.CloseLevel v mode) is = goes_follows refl refl refl (reply_goes
      (λ u. replies.Done) (λ j x y e. refl) (subst (λ m. Goes c t anywhere same k
      (closes_level c turns p.names words (length p.objects)) (closes_level c turns alone.names other m))
      (same_length places)
      (close_on (length p.objects))))
  inside_follows (commands.OnName v n) is =
      goes_follows refl refl refl (post_on n (word_posted p.names n) (word_posted alone.names n))
  inside_follows x is = ended_follows (Err fault.InCritical) (Err fault.InCritical) refl

  pub command_follows : (x : Command) → is_for_itself (manner_of x) ≡ true → Follows c t ReplyFor (asked_by x) k
      (doing_at c turns p words p.objects x) (doing_at c turns alone other alone.objects x)
  command_follows x is = go p.objects alone.objects places.objects
    where
      go : (os us : List ℕ) → os ≡ map (object_of k) us → Follows c t ReplyFor (asked_by x) k
          (doing_at c turns p words os x) (doing_at c turns alone other us x)
      go [] [] e = outside_follows turns p.names alone.names words other k places.names x is
      go [] (u ∷ us) e = absurd cc
      go (o ∷ os) [] e = absurd cc
      go (o ∷ os) (u ∷ us) e = inside_follows x is

  pub end_goes : Goes c t anywhere same k (ends_thread c turns p.names words p.objects)
      (ends_thread c turns alone.names other alone.objects)
  end_goes = go p.objects alone.objects places.objects
    where
      freed : Goes c t anywhere same k (calls_on_none c turns p.names words free_locals)
          (calls_on_none c turns alone.names other free_locals)
      freed = call turns p.names alone.names words other k places.names null null free_locals tt (null_for k)

      go : (os us : List ℕ) → os ≡ map (object_of k) us → Goes c t anywhere same k
          (ends_thread c turns p.names words os) (ends_thread c turns alone.names other us)
      go [] [] is = freed
      go [] (u ∷ us) is = absurd cc
      go (o ∷ os) [] is = absurd cc
      go (o ∷ os) (u ∷ us) is = goes_bind out_goes (λ j more x y e. call turns p.names alone.names words
          other k places.names null null free_locals tt (null_for j))
