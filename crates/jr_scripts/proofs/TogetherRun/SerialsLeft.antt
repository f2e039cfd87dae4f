-- What commands leave of serials: how many handles each place gives, and how many references are given up.
use Rattle.std.proofs.Common.{◌≡◌, ◌≤◌, inl, inr, ℕ, ℤ, zero, suc, ◌+◌, true, Option, Some, None, List, [], ◌∷◌}
use Rattle.std.proofs.Common.{◌++◌, length, Result, Ok, Err, refl, sym, subst, arith}
use Rattle.jr_word.specs.declared.config.Config.{Config}
use Rattle.jr_word.specs.declared.fault.Fault.{Fault}
use Rattle.jr_word.specs.declared.fault.Fault.TheVariants.{InCritical}
use Rattle.jr_word.specs.declared.handle.Handle.{Handle}
use Rattle.jr_word.specs.declared.handle.RefKind.{RefKind}
use Rattle.jr_word.specs.declared.handle.RefKind.TheVariants.{Global, Local, Weak}
use Rattle.jr_word.specs.declared.kind.Kind.{Kind}
use Rattle.jr_model.specs.declared.event.Act.{Act}
use Rattle.jr_model.specs.declared.event.Act.TheVariants.{Gate}
use Rattle.jr_model.specs.declared.event.GateAct.TheVariants.{Enter, Leave}
use Rattle.jr_model.specs.declared.frames.Mode.{Mode}
use Rattle.jr_model.specs.declared.frames.Mode.TheVariants.{Abort, Commit, Copy}
use Rattle.jr_model.specs.State.{State}
use Rattle.jr_model.specs.Frames.{Frames, all_refs, stored_at}
use Rattle.jr_model.specs.History.{Did, state}
use Rattle.jr_model.specs.Calls.{Call, Ran}
use Rattle.jr_model.specs.Checks.{Malformed, Nothing, Parts, Word}
use Rattle.jr_model.specs.Programs.{AnswerKind, Program, at_object, handed_none, handed_one, none_known}
use Rattle.jr_model.specs.CallPrograms as programs
use Rattle.jr_model.specs.AllCalls.{CallOf, PartOf, enters, keeps, means, nests, opens, stays_out}
use Rattle.jr_model.proofs.Composed.{Gives, Going, entered_gives}
use Rattle.jr_model.proofs.EachCall.{lawful, part_lawful}
use Rattle.jr_model.proofs.Exactly.{append_all}
use Rattle.jr_model.proofs.Stays.{did_then}
use Rattle.jr_gate.specs.Performing.{ThreadState}
use Rattle.jr_weak.specs.declared.collecting.Collected.{Collected}
use Rattle.jr_env.specs.Collections.{announced_collection}
use Rattle.jr_env.specs.Deeds.{Deed, answered_by, call_apart, call_on_by, decided, done, free_locals}
use Rattle.jr_env.specs.Deeds.{release_array_elements, whole, within_by, ◌>>=◌}
use Rattle.jr_env.specs.Requests.{Request, asks, gives, named, on_word, on_words, told_by}
use Rattle.jr_env.specs.Requests as requests
use Rattle.jr_env.specs.Tries.{is_tried_again}
use Rattle.one_order.proofs.Lists.{all_weaker}
use Rattle.jr_syntax.specs.declared.name.Reference.{Reference}
use Rattle.jr_syntax.specs.declared.command.Command.{Command}
use Rattle.jr_syntax.specs.declared.command.Command.TheVariants as commands
use Rattle.jr_syntax.specs.declared.verb.Make.TheVariants as make
use Rattle.jr_syntax.specs.declared.verb.MakeFrom.{MakeFrom}
use Rattle.jr_syntax.specs.declared.verb.MakeFrom.TheVariants as make_from
use Rattle.jr_syntax.specs.declared.verb.On.TheVariants as on
use Rattle.jr_syntax.specs.declared.verb.OnBoth.TheVariants as on_both
use Rattle.jr_syntax.specs.declared.verb.OnName.TheVariants as on_name
use Rattle.jr_syntax.specs.declared.verb.WithCount.TheVariants as with_count
use Rattle.jr_syntax.specs.declared.verb.OnNameAt.TheVariants as on_name_at
use Rattle.jr_syntax.specs.declared.verb.PutAt.TheVariants as put_at
use Rattle.jr_syntax.specs.declared.verb.Release.TheVariants as release
use Rattle.jr_syntax.specs.declared.verb.OpenLevel.{OpenLevel}
use Rattle.jr_syntax.specs.declared.verb.OpenLevel.TheVariants as at
use Rattle.jr_scripts.specs.declared.reply.Reply.{Reply}
use Rattle.jr_scripts.specs.Commands.{gives_up}
use Rattle.jr_scripts.specs.declared.reply.Reply.TheVariants as replies
use Rattle.jr_scripts.specs.Names.{Names}
use Rattle.jr_scripts.specs.Places.{Place, by_region, nth_object}
use Rattle.jr_scripts.specs.Commands.{awaited, collecting, collecting_announced, deed, deleted_as, deleted_of}
use Rattle.jr_scripts.specs.Commands.{deletion, get_critical, kind_made, making_from, opening_by, the_reference}
use Rattle.jr_scripts.specs.Commands.{tried, type_of}
use Rattle.jr_scripts.specs.RegionCommands.{deed_at, deed_within, giving_up, giving_up_all, level_reading}
use Rattle.jr_scripts.specs.RegionCommands.{level_writing, nesting, read_kind}
use Rattle.jr_scripts.specs.Runs.{IsFreed}
use Rattle.jr_scripts.specs.Tries.{Tried, again, answered, gave_up}
use Rattle.jr_scripts.proofs.TogetherRun.Moments.{Counts, IsPass, Settles, deleted_in, times}
use Rattle.jr_scripts.proofs.TogetherRun.PlayedDeeds.{nothing_did, pass_later}
use Rattle.jr_scripts.proofs.TogetherRun.ProgramsCount.{Anyhow, AreUncounted, CallCounts, CallGiving, Counted, IsGiving}
use Rattle.jr_scripts.proofs.TogetherRun.ProgramsCount.{IsUncounted, both_count, call_counts, drops_uncounted}
use Rattle.jr_scripts.proofs.TogetherRun.ProgramsCount.{lawful_counts, more_counts, precede_uncounted}
use Rattle.jr_scripts.proofs.TogetherRun.ProgramsCount.{program_counts, released_counts, same_counts}
use Rattle.jr_scripts.proofs.TogetherRun.ProgramsCount.{uncounted, uncounted_settle}
use Rattle.jr_scripts.proofs.TogetherRun.CollectionCounts.{announced_collection_counts, collection_counts}

-- a request for a program gives up references so often at the most, whatever the words say
abbrev RequestGiving : ℕ → {A : Type 0} → Request A → Type 0
RequestGiving m (asks silent words p) = IsGiving m p
RequestGiving m (on_word w next) = (a : Word) → RequestGiving m (next a)
RequestGiving m (on_words v w next) = (a b : Word) → RequestGiving m (next a b)
RequestGiving m (gives form first) = RequestGiving m first
RequestGiving m (told_by form first) = RequestGiving m first
RequestGiving m (named name first) = RequestGiving m first

module _ (c : Config) (last t : ℕ) where
  -- what was counted between two moments
  record HasCounted (n : ℕ) (old new : ThreadState) : Type 0 where
    acts : List Act
    did : Did old.pass new.pass acts
    counted : Counted last 1 1 n old.frames acts new.frames

  -- a deed that counts so often
  record DeedCounts (n : ℕ) {A : Type 0} (deed : Deed A) : Type 0 where
    counts : (old new : ThreadState) (answer : Result A Fault) → IsPass c last t old.pass → deed old answer new
        → HasCounted n old new

  -- a deed that may be done again: where it is refused it has counted nothing
  record TryCounts (n : ℕ) {A : Type 0} (deed : Deed A) : Type 0 where
    each : DeedCounts n deed
    refuses : (old new : ThreadState) (e : Fault) → IsPass c last t old.pass → deed old (Err e) new
        → HasCounted 0 old new

  stayed : {n : ℕ} (old : ThreadState) → IsPass c last t old.pass → HasCounted n old old
  stayed old pass = record { acts = []; did = nothing_did old old pass refl; counted = same_counts tt refl }

  more : {m n : ℕ} {old new : ThreadState} → m ≤ n → HasCounted m old new → HasCounted n old new
  more less x = record { acts = x.acts; did = x.did; counted = more_counts less x.counted }

  both : {m n s : ℕ} {old mid new : ThreadState} → m + n ≤ s → HasCounted m old mid → HasCounted n mid new
      → HasCounted s old new
  both {m} {n} {old = old} {mid = mid} {new = new} most x y = record {
    acts = x.acts ++ y.acts;
    did = did_then x.acts y.acts x.did y.did;
    counted = both_count {m = m} {n = n} most old.frames mid.frames new.frames x.acts y.acts x.counted y.counted;
  }

  -- what is decided without a call
  decided_counts : {n : ℕ} {A : Type 0} (r : Result A Fault) → DeedCounts n (decided r)
  decided_counts r = record {
    counts = λ old new answer pass d. subst (HasCounted _ old) (sym d.1) (stayed old pass);
  }

  done_counts : {n : ℕ} {A : Type 0} (x : A) → DeedCounts n (done x)
  done_counts x = decided_counts (Ok x)

  -- one deed and then another
  bind_counts : {m n s : ℕ} {A B : Type 0} {first : Deed A} {next : A → Deed B} → m + n ≤ s → DeedCounts m first
      → ((x : A) → DeedCounts n (next x)) → DeedCounts s (first >>= next)
  bind_counts {m} {n} {s} {A} {B} {first} {next} most p q = record { counts = counts }
    where
      counts : (old new : ThreadState) (answer : Result B Fault) → IsPass c last t old.pass
          → (first >>= next) old answer new → HasCounted s old new
      counts old new answer pass (inl r) =
          let x = p.counts old r.1 (Ok r.0) pass r.2 in
          both {m = m} {n = n} most x ((q r.0).counts r.1 new answer (pass_later x.acts x.did pass) r.3)
      counts old new answer pass (inr r) = more {m = m} (omega (arith, most)) (p.counts old new (Err r.0) pass r.2)

  -- what counts nothing, and then a deed
  before : {n : ℕ} {A B : Type 0} {first : Deed A} {next : A → Deed B} → DeedCounts 0 first
      → ((x : A) → DeedCounts n (next x)) → DeedCounts n (first >>= next)
  before {n} p q = bind_counts {m = 0} {n = n} (omega arith) p q

  -- a deed, and its answer in another form
  told_counts : {n : ℕ} {A B : Type 0} (form : A → B) {one : Deed A} → DeedCounts n one
      → DeedCounts n (answered_by form one)
  told_counts {n} form p = bind_counts {m = n} {n = 0} (omega arith) p (λ x. done_counts (form x))

  -- CALLS

  -- a call that was made
  made_counts : {n : ℕ} {A : Type 0} (silent : Config → ℕ) {work : Config → ℕ → ℕ → State → Call A}
      → ((c : Config) (last t : ℕ) (s : State) → CallCounts last n (work c last t s))
      → TryCounts n (within_by silent work)
  made_counts {n} {A} silent {work} call = record {
    each = record {
      counts = λ old new answer pass d. record {
        acts = d.ran.acts;
        did = d.ran.did;
        counted = subst (λ l. Counted l 1 1 n old.frames d.ran.acts new.frames) pass.last_is
            ((call old.pass.config old.pass.last old.pass.thread (state new.pass.seen)).counts old.frames new.frames
            d.ran.acts answer d.ran.is);
      };
    };
    refuses = λ old new e pass d. record {
      acts = d.ran.acts;
      did = d.ran.did;
      counted = subst (λ l. Counted l 1 1 0 old.frames d.ran.acts new.frames) pass.last_is
          ((call old.pass.config old.pass.last old.pass.thread (state new.pass.seen)).refuses old.frames new.frames
          d.ran.acts e d.ran.is);
    };
  }

  -- a deed that says more
  weaker : {n : ℕ} {A : Type 0} {less much : Deed A}
      → ((old new : ThreadState) (answer : Result A Fault) → much old answer new → less old answer new)
      → TryCounts n less → TryCounts n much
  weaker f p = record {
    each = record { counts = λ old new answer pass d. p.each.counts old new answer pass (f old new answer d) };
    refuses = λ old new e pass d. p.refuses old new e pass (f old new (Err e) d);
  }

  -- each call of an env
  env_counts : {n : ℕ} {a : AnswerKind} (silent : Config → ℕ) (x : CallOf a) → CallGiving n x
      → TryCounts n (within_by silent (λ c last t s. means c last t s x))
  env_counts silent x is =
      made_counts silent (λ c last t s. lawful_counts (lawful c last t s x) (call_counts c t s x is))

  -- a program at an object
  at_level_counts : {n : ℕ} {a : AnswerKind} (o : ℕ) (p : Program n a) → IsGiving 0 p
      → DeedCounts 0 (within_by (λ c. 0) (λ c last t s. at_object c last t s o p))
  at_level_counts o p is = (made_counts (λ c. 0) (λ c last t s. lawful_counts
      (part_lawful c last t s (PartOf.at_level o p))
      (program_counts c t s handed_none p is none_known o))).each

  -- the answer in another form
  told_try : {n : ℕ} {A B : Type 0} (form : A → B) {one : Deed A} → TryCounts n one → TryCounts n (answered_by form one)
  told_try {A = A} {B = B} form {one} p = record { each = told_counts form p.each; refuses = refuses }
    where
      refuses : (old new : ThreadState) (e : Fault) → IsPass c last t old.pass → answered_by form one old (Err e) new
          → HasCounted 0 old new
      refuses old new e pass (inl r) = absurd (let bad = r.3.0 in cc)
      refuses old new e pass (inr r) = p.refuses old new r.0 pass r.2

  whole_counts : {n : ℕ} {A : Type 0} (r : Request A) → RequestGiving n r → TryCounts n (whole r)
  whole_counts (asks silent words p) is = weaker (λ old new answer d. d.0) (env_counts silent (enters words p) is)
  whole_counts (on_word w next) is = record {
    each = record {
      counts = λ old new answer pass d. (whole_counts (next d.0) (is d.0)).each.counts old new answer pass d.2;
    };
    refuses = λ old new e pass d. (whole_counts (next d.0) (is d.0)).refuses old new e pass d.2;
  }
  whole_counts (on_words v w next) is = record {
    each = record {
      counts = λ old new answer pass d.
          (whole_counts (next d.0 d.1) (is d.0 d.1)).each.counts old new answer pass d.4;
    };
    refuses = λ old new e pass d. (whole_counts (next d.0 d.1) (is d.0 d.1)).refuses old new e pass d.4;
  }
  whole_counts (gives form first) is = told_try form (whole_counts first is)
  whole_counts (told_by form first) is = record {
    each = record {
      counts = λ old new answer pass d. (whole_counts first is).each.counts old new _ pass d;
    };
    refuses = λ old new e pass d. (whole_counts first is).refuses old new e pass d;
  }
  whole_counts (named name first) is = whole_counts first is

  -- a call that is made again has counted nothing
  again_counts : {A : Type 0} {n : ℕ} {one : Deed A} → TryCounts n one → (old new : ThreadState)
      (answer : Result A Fault) → is_tried_again answer ≡ true → IsPass c last t old.pass → one old answer new
      → HasCounted 0 old new
  again_counts p old new (Ok x) is pass d = absurd cc
  again_counts p old new (Err e) is pass d = p.refuses old new e pass d

  tries_count : {A : Type 0} {n : ℕ} {one : Deed A} → TryCounts n one → (k : ℕ) (old new : ThreadState)
      (answer : Result A Fault) → IsPass c last t old.pass → Tried one k old answer new → HasCounted n old new
  tries_count p (suc k) old new answer pass (answered d final) = p.each.counts old new answer pass d
  tries_count {n = n} p (suc k) old new answer pass (again {mid = mid} {once = once} d is rest) =
      let x = again_counts p old mid once is pass d in
      both {m = 0} {n = n} (omega arith) x (tries_count p k mid new answer (pass_later x.acts x.did pass) rest)
  tries_count p zero old new answer pass gave_up = stayed old pass

  tried_counts : {A : Type 0} {n turns : ℕ} {one : Deed A} → TryCounts n one → DeedCounts n (tried turns one)
  tried_counts {turns = turns} p =
      record { counts = λ old new answer pass d. tries_count p turns old new answer pass d }

  -- up to so many tries of a call, and the reply
  replied : {A : Type 0} {n turns : ℕ} {one : Deed A} (form : A → Reply) → TryCounts n one
      → DeedCounts n (tried turns one >>= (λ x. done (form x)))
  replied form p = told_counts form (tried_counts p)

  -- THE CALLS OF COMMANDS

  kept_counts : (elements : Option (List ℕ)) (k : Kind) (w : ℕ) (vs : List ℕ) → TryCounts 0 (call_on_by (λ c. 1) w
      (λ c last t s a. means c last t s (keeps elements (handed_one a) (programs.release_array_elements k vs))))
  kept_counts elements k w vs = record {
    each = record { counts = λ old new answer pass d. (of d.0).each.counts old new answer pass d.2.0 };
    refuses = λ old new e pass d. (of d.0).refuses old new e pass d.2.0;
  }
    where
      of : (a : Word) → TryCounts 0 (within_by (λ c. 1) (λ c last t s. means c last t s
          (keeps elements (handed_one a) (programs.release_array_elements k vs))))
      of a = env_counts (λ c. 1) (keeps elements (handed_one a) (programs.release_array_elements k vs)) (λ l n. refl)

  nothing_tried : {A : Type 0} (x : A) → TryCounts 0 (done x)
  nothing_tried x = record { each = done_counts x; refuses = λ old new e pass d. absurd (let bad = d.0 in cc) }

  release_counts : (k : Kind) (w : ℕ) (vs : List ℕ) (mode : Mode) → TryCounts 0 (release_array_elements k w vs mode)
  release_counts k w vs Copy = kept_counts None k w vs
  release_counts k w vs Commit = kept_counts (Some vs) k w vs
  release_counts k w vs Abort = nothing_tried None

  apart_counts : {n : ℕ} {a : AnswerKind} (p : Program n a) → IsGiving 0 p → TryCounts 0 (call_apart p)
  apart_counts p is = weaker (λ old new answer d. d.0) (env_counts (λ c. 0) (stays_out p) is)

  critical_giving : (v : OpenLevel) (k : ℕ) → IsGiving 0 (get_critical v k)
  critical_giving at.Array k = λ l n. refl
  critical_giving at.Text k = λ l n. refl

  opening_counts : (v : OpenLevel) (w : ℕ) → TryCounts 0 (opening_by v w)
  opening_counts v w = record {
    each = record { counts = λ old new answer pass d. (of d.0).each.counts old new answer pass d.2 };
    refuses = λ old new e pass d. (of d.0).refuses old new e pass d.2;
  }
    where
      of : (a : Word) → TryCounts 0 (within_by (λ c. 1) (λ c last t s. means c last t s
          (opens (handed_one a) (get_critical v 0))))
      of a = env_counts (λ c. 1) (opens (handed_one a) (get_critical v 0)) (critical_giving v 0)

  nesting_counts : (v : OpenLevel) (os : List ℕ) (w : ℕ) → DeedCounts 0 (nesting v os w)
  nesting_counts v os w = record {
    counts = λ old new answer pass d. (env_counts (λ c. 1) (nests os (handed_one d.0) (get_critical v (length os)))
        (critical_giving v (length os))).each.counts old new answer pass d.2;
  }

  awaited_counts : DeedCounts 0 awaited
  awaited_counts = record { counts = counts }
    where
      counts : (old new : ThreadState) (answer : Result Reply Fault) → IsPass c last t old.pass → awaited old answer new
          → HasCounted 0 old new
      counts old new answer pass (inl x) =
          record { acts = []; did = x.2.did; counted = same_counts tt x.2.frames }
      counts old new answer pass (inr x) = subst (HasCounted 0 old) (sym x.1) (stayed old pass)

  with_reference : {n : ℕ} {A : Type 0} (names : Names) (r : Reference) {next : Handle → Deed A}
      → ((w : Handle) → DeedCounts n (next w)) → DeedCounts n (the_reference names r >>= next)
  with_reference names r q = before (decided_counts _) q

  barred : DeedCounts 0 (decided {A = Reply} (Err InCritical))
  barred = decided_counts (Err InCritical)

  -- COLLECTIONS

  -- a part of calls that was made
  ran_counted : {n : ℕ} {A : Type 0} {call : Call A} {answer : Result A Fault} (old new : ThreadState)
      → CallCounts last n call → Ran old.pass new.pass old.frames new.frames call answer → HasCounted n old new
  ran_counted {answer = answer} old new part ran = record {
    acts = ran.acts;
    did = ran.did;
    counted = part.counts old.frames new.frames ran.acts answer ran.is;
  }

  collecting_counts : DeedCounts 0 collecting
  collecting_counts = record { counts = counts }
    where
      counts : (old new : ThreadState) (answer : Result Reply Fault) → IsPass c last t old.pass
          → collecting old answer new → HasCounted 0 old new
      counts old new (Ok (replies.Collected x)) pass d = ran_counted old new (collection_counts last) d.ran
      counts old new (Ok (replies.Busy n)) pass d = ran_counted old new (collection_counts last) d.made.ran
      counts old new _ pass d = absurd d

  tried_once_counts : (tries : ℕ) → TryCounts 0 (announced_collection tries)
  tried_once_counts tries = record { each = record { counts = counts }; refuses = refuses }
    where
      refuses : (old new : ThreadState) (e : Fault) → IsPass c last t old.pass
          → announced_collection tries old (Err e) new → HasCounted 0 old new
      refuses old new e pass d = ran_counted old new (announced_collection_counts last tries) d.made.ran

      counts : (old new : ThreadState) (answer : Result Collected Fault) → IsPass c last t old.pass
          → announced_collection tries old answer new → HasCounted 0 old new
      counts old new (Ok x) pass d = ran_counted old new (announced_collection_counts last tries) d.done.ran
      counts old new (Err e) pass d = refuses old new e pass d

  announced_counts : (turns tries : ℕ) → DeedCounts 0 (collecting_announced turns tries)
  announced_counts turns tries = record {
    counts = λ old new answer pass d.
        (tried_counts {turns = turns} (tried_once_counts tries)).counts old new d.0 pass d.2;
  }

  -- THE COMMANDS WHERE NO REGION STANDS

  module _ (turns : ℕ) where
    making_from_counts : (v : MakeFrom) (n : List ℕ) (r : Reference) (w : ℕ)
        → DeedCounts (times (gives_up (commands.MakeFrom v n r))) (making_from turns v w)
    making_from_counts make_from.Global n r w =
        replied _ (whole_counts (requests.for_new_reference Global w) (λ a. refl))
    making_from_counts make_from.Weak n r w =
        replied _ (whole_counts (requests.for_new_reference Weak w) (λ a. refl))
    making_from_counts make_from.Local n r w = replied _ (whole_counts (requests.for_new_local_ref w) (λ a. refl))
    making_from_counts make_from.Pop n r w = replied _ (whole_counts (requests.for_pop_local_frame w) (λ a. refl))
    making_from_counts make_from.Elements n r w =
        before (tried_counts (whole_counts (requests.for_kind_of w) (λ a k m. refl))) (λ k.
        before (decided_counts _) (λ u. replied _
        (whole_counts (requests.for_get_array_elements k w) (λ a l m. refl))))

    deleted_of_counts : (k : RefKind) (w : ℕ) → DeedCounts 1 (deleted_of turns k w)
    deleted_of_counts Local w = tried_counts (whole_counts (requests.for_delete_local_ref w) (λ a. refl))
    deleted_of_counts Global w = tried_counts (whole_counts (requests.for_delete_reference Global w) (λ a. refl))
    deleted_of_counts Weak w = tried_counts (whole_counts (requests.for_delete_reference Weak w) (λ a. refl))

    deleted_as_counts : (w : ℕ) (a : Word) → DeedCounts 1 (deleted_as turns w a)
    deleted_as_counts w Nothing = deleted_of_counts Local w
    deleted_as_counts w Malformed = decided_counts _
    deleted_as_counts w (Parts h) = deleted_of_counts h.kind w

    deletion_counts : (w : ℕ) → DeedCounts 1 (deletion turns w)
    deletion_counts w = record {
      counts = λ old new answer pass d. (deleted_as_counts w d.0).counts old new answer pass d.2;
    }

    type_of_counts : (h : Option Handle) → DeedCounts 0 (type_of turns h)
    type_of_counts None = done_counts 0
    type_of_counts (Some h) = tried_counts (whole_counts (requests.for_get_object_ref_type h.0) (λ a. refl))

    outside_counts : (names : Names) (x : Command) → DeedCounts (times (gives_up x)) (deed turns names x)
    outside_counts names (commands.Make make.Plain n) = replied _ (whole_counts requests.for_new_plain refl)
    outside_counts names (commands.Make make.Wait n) = awaited_counts
    outside_counts names (commands.MakeFrom v n r) = with_reference names r (λ w. making_from_counts v n r w.0)
    outside_counts names (commands.On on.Drop r) =
        with_reference names r (λ w. told_counts _ (deletion_counts w.0))
    outside_counts names (commands.On on.Type r) =
        before (decided_counts _) (λ h. told_counts _ (type_of_counts h))
    outside_counts names (commands.On on.Len r) = with_reference names r (λ w.
        replied _ (whole_counts (requests.for_get_array_length w.0) (λ a k m. refl)))
    outside_counts names (commands.On on.TextLength r) = with_reference names r (λ w.
        replied _ (whole_counts (requests.for_get_string_length w.0) (λ a k m. refl)))
    outside_counts names (commands.On on.Chars r) = with_reference names r (λ w.
        replied _ (whole_counts (requests.for_get_string_chars w.0) (λ a k m. refl)))
    outside_counts names (commands.OnBoth on_both.Same q r) =
        with_reference names q (λ v. with_reference names r (λ w.
        replied _ (whole_counts (requests.for_is_same_object v.0 w.0) (λ a b. refl))))
    outside_counts names (commands.OnName on_name.Post n) = done_counts _
    outside_counts names (commands.WithCount with_count.Push n) =
        replied _ (apart_counts (programs.push_local_frame n) refl)
    outside_counts names (commands.WithCount with_count.Ensure n) =
        replied _ (apart_counts (programs.ensure_local_capacity n) refl)
    outside_counts names (commands.MakeSized v n len) =
        replied _ (whole_counts (requests.for_new_array (kind_made v) len) refl)
    outside_counts names (commands.MakeFilled v n len r) = with_reference names r (λ w.
        replied _ (whole_counts (requests.for_new_object_array len w.0) (λ a. refl)))
    outside_counts names (commands.MakeText v n units) =
        replied _ (whole_counts (requests.for_new_string units) refl)
    outside_counts names (commands.MakeAt v n r i) = with_reference names r (λ w.
        replied _ (whole_counts (requests.for_get_object_array_element w.0 i) (λ a k m. refl)))
    outside_counts names (commands.OnAt v r i) = with_reference names r (λ w.
        before (tried_counts (whole_counts (requests.for_kind_of w.0) (λ a k m. refl))) (λ k.
        before (decided_counts _) (λ u. replied _
        (whole_counts (requests.for_get_array_region k w.0 i 1) (λ a l m. refl)))))
    outside_counts names (commands.SetAt v r i q) =
        with_reference names r (λ a. with_reference names q (λ w.
        replied _ (whole_counts (requests.for_set_object_array_element a.0 i w.0) (λ x y k m. refl))))
    outside_counts names (commands.StoreAt v r i x) = with_reference names r (λ w.
        before (tried_counts (whole_counts (requests.for_kind_of w.0) (λ a k m. refl))) (λ k.
        before (decided_counts _) (λ u. before (decided_counts _) (λ word. replied _
        (whole_counts (requests.for_set_array_region k w.0 i (word ∷ [])) (λ a l m. refl))))))
    outside_counts names (commands.OpenLevel v n r) =
        told_counts _ (with_reference names r (λ w. tried_counts (opening_counts v w.0)))
    outside_counts names (commands.CloseLevel v mode) = barred
    outside_counts names (commands.OfRoom v) = collecting_counts
    outside_counts names (commands.WithTries v tries) = announced_counts turns tries
    outside_counts names (commands.OnNameAt on_name_at.GetInLevel n i) = barred
    outside_counts names (commands.OnNameAt on_name_at.Get n i) = told_counts _ (decided_counts _)
    outside_counts names (commands.PutAt put_at.PutInLevel n i x) = barred
    outside_counts names (commands.PutAt put_at.Put n i x) = told_counts _ (decided_counts _)
    outside_counts names (commands.Release release.Elements n r mode) =
        before (decided_counts _) (λ b. with_reference names r (λ w.
        replied _ (release_counts b.kind w.0 b.words mode)))

  -- THE COMMANDS IN A REGION

  giving_up_counts : (n : ℕ) → DeedCounts 0 (giving_up n)
  giving_up_counts n = record {
    counts = λ old new answer pass d. (made_counts (λ c. 0) (λ c last t s. lawful_counts
        (part_lawful c last t s (PartOf.region_release n)) (released_counts n))).each.counts old new answer pass d.0;
  }

  level_reading_counts : (o i : ℕ) → DeedCounts 0 (level_reading o i)
  level_reading_counts o i = before (at_level_counts o programs.region_kind (λ k m. refl)) (λ k.
      before (decided_counts _) (λ u. told_counts _
      (at_level_counts o (programs.region_get (read_kind k) i) (λ l m. refl))))

  level_writing_counts : (o i : ℕ) (x : ℤ) → DeedCounts 0 (level_writing o i x)
  level_writing_counts o i x = before (at_level_counts o programs.region_kind (λ k m. refl)) (λ k.
      before (decided_counts _) (λ u. before (decided_counts _) (λ word. told_counts _
      (at_level_counts o (programs.region_set k i word) (λ l m. refl)))))

  -- what is barred counts no more than anything
  inside_counts : (p : Place) (x : Command) → DeedCounts (times (gives_up x)) (deed_within p x)
  inside_counts p (commands.OpenLevel v n r) =
      with_reference p.names r (λ w. told_counts _ (nesting_counts v p.objects w.0))
  inside_counts p (commands.OnNameAt on_name_at.GetInLevel n i) =
      before (decided_counts _) (λ l. level_reading_counts (nth_object p.objects l) i)
  inside_counts p (commands.PutAt put_at.PutInLevel n i x) =
      before (decided_counts _) (λ l. level_writing_counts (nth_object p.objects l) i x)
  inside_counts p (commands.CloseLevel v mode) = told_counts _ (giving_up_counts (length p.objects))
  inside_counts p (commands.OnName on_name.Post n) = done_counts _
  inside_counts p (commands.Make make.Wait n) = awaited_counts
  inside_counts p _ = decided_counts _

  -- WHEREVER THE THREAD STANDS

  place_counts : (turns : ℕ) (p : Place) (x : Command) → DeedCounts (times (gives_up x)) (deed_at turns p x)
  place_counts turns p x = go p.objects
    where
      go : (os : List ℕ) → DeedCounts (times (gives_up x)) (by_region os (deed turns p.names x) (deed_within p x))
      go [] = outside_counts turns p.names x
      go (o ∷ os) = inside_counts p x

  given_up_counts : (os : List ℕ) → DeedCounts 0 (giving_up_all os)
  given_up_counts [] = done_counts tt
  given_up_counts (o ∷ os) = giving_up_counts 1

  counts_of : {n : ℕ} (old new : ThreadState) → HasCounted n old new → Counts last n old new
  counts_of old new x = record {
    acts = x.acts;
    did = x.did;
    given = x.counted.given;
    left = λ k left. x.counted.left left.some_frame k left;
    deletes = x.counted.deletes;
    settles = x.counted.settles;
  }

  -- A COMMAND counts as often as it gives up references
  pub command_counts : (turns : ℕ) (p : Place) (x : Command) → (old new : ThreadState)
      (answer : Result Reply Fault) → IsPass c last t old.pass → deed_at turns p x old answer new
      → Counts last (times (gives_up x)) old new
  command_counts turns p x old new answer pass d =
      counts_of old new ((place_counts turns p x).counts old new answer pass d)

  -- a region that stands at the end is given up
  pub levels_count : (objects : List ℕ) (old new : ThreadState) → IsPass c last t old.pass
      → giving_up_all objects old (Ok tt) new → Counts last 0 old new
  levels_count objects old new pass d = counts_of old new ((given_up_counts objects).counts old new (Ok tt) pass d)

  -- AT THE END all references are freed, and nothing is counted

  record HasFreed (old new : ThreadState) : Type 0 where
    acts : List Act
    did : Did old.pass new.pass acts
    none : AreUncounted acts

  -- acts that don't count
  abbrev Freed : Going
  Freed old acts new = AreUncounted acts

  freed_in_stay : (f g : Frames) (xs : List Act) → Freed f xs g → Freed f (Gate Enter ∷ xs ++ Gate Leave ∷ []) g
  freed_in_stay f g xs none = append_all IsUncounted (Gate Enter ∷ xs) (Gate Leave ∷ []) (tt, none) (tt, tt)

  freeing_gives : (d : Config) (l u : ℕ) (s : State)
      → Gives Freed Anyhow (means d l u s (enters handed_none programs.free_locals))
  freeing_gives d l u s = entered_gives {Bad = Anyhow} freed_in_stay (λ f g xs e x. tt) (λ f. tt) (record {
    goes = λ old new acts x r. subst AreUncounted (sym r.0) (drops_uncounted (all_refs old));
    fails = λ old new acts e r. tt;
  })

  freed_once : (old new : ThreadState) (answer : Result (Unit {0}) Fault) → free_locals old answer new
      → HasFreed old new
  freed_once old new answer d = record { acts = d.0.ran.acts; did = d.0.ran.did; none = of answer d.0.ran.is }
    where
      s : State
      s = state new.pass.seen

      of : (answer : Result (Unit {0}) Fault)
          → means old.pass.config old.pass.last old.pass.thread s (enters handed_none programs.free_locals)
          old.frames d.0.ran.acts answer new.frames
          → AreUncounted d.0.ran.acts
      of (Ok x) r = (freeing_gives old.pass.config old.pass.last old.pass.thread s).goes old.frames new.frames
          d.0.ran.acts x r
      of (Err e) r = all_weaker (precede_uncounted e) d.0.ran.acts
          ((lawful old.pass.config old.pass.last old.pass.thread s
          (enters handed_none programs.free_locals)).fails old.frames new.frames d.0.ran.acts e r).before

  freed_tries : (k : ℕ) (old new : ThreadState) (answer : Result (Unit {0}) Fault) → IsPass c last t old.pass
      → Tried free_locals k old answer new → HasFreed old new
  freed_tries (suc k) old new answer pass (answered d final) = freed_once old new answer d
  freed_tries (suc k) old new answer pass (again {mid = mid} {once = once} d is rest) =
      let x = freed_once old mid once d in
      let y = freed_tries k mid new answer (pass_later x.acts x.did pass) rest in
      record {
        acts = x.acts ++ y.acts;
        did = did_then x.acts y.acts x.did y.did;
        none = append_all IsUncounted x.acts y.acts x.none y.none;
      }
  freed_tries zero old new answer pass gave_up =
      record { acts = []; did = nothing_did old old pass refl; none = tt }

  -- .. and so the thread has come to its end
  pub freed_counts : (turns : ℕ) (told left : ThreadState) → IsPass c last t told.pass → IsFreed turns told left
      → (acts : List Act) × Did told.pass left.pass acts × ((p : ℕ) → stored_at p acts ≡ 0)
      × (length (deleted_in acts) ≡ 0) × Settles acts
  freed_counts turns told left pass freed =
      let x = freed_tries turns told left freed.answer pass freed.tries in
      let none = uncounted x.acts x.none in (x.acts, x.did, none.0, none.1, uncounted_settle x.acts x.none)
