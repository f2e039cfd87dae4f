-- CALLS IN A STAY that stands are played, and leave it standing.
use Rattle.std.proofs.Common.{◌≡◌, ◌≢◌, ◌<◌, ℕ, Bool, true, false, cond, inl, inr, Option, Some, None, Result, Ok, Err}
use Rattle.std.proofs.Common.{IfErr, List, [], ◌∷◌, ◌++◌, map, length, refl, sym, ap, subst, ◌∙◌, append-nil}
use Rattle.std.specs.List.{AllByRecursion}
use mathlib.Core.List.{IsPrefix}
use Rattle.jr_word.specs.declared.config.Config.{Config}
use Rattle.jr_word.specs.declared.fault.Fault.{Fault}
use Rattle.jr_word.specs.declared.fault.Fault.TheVariants as fault
use Rattle.jr_word.specs.declared.kind.Kind.{Kind}
use Rattle.jr_model.specs.declared.event.Found.{Found}
use Rattle.jr_model.specs.declared.event.Found.TheVariants.{Object, Cleared, Stale}
use Rattle.jr_model.specs.declared.event.GateAct.TheVariants.{Leave}
use Rattle.jr_model.specs.declared.event.Act.{Act}
use Rattle.jr_model.specs.declared.event.Act.TheVariants.{Gate}
use Rattle.jr_model.specs.declared.event.Role.TheVariants.{Outside, Within}
use Rattle.jr_model.specs.State.{State}
use Rattle.jr_model.specs.Frames.{Frames, object_of}
use Rattle.jr_model.specs.History.{Did, History, IsLegal, IsLegalFrom, PassView, mine, role_from, state}
use Rattle.jr_model.specs.Calls.{Call, Ran, decided as decides, done as gives, refuse_if, ◌>>=◌ as ◌then◌}
use Rattle.jr_model.specs.Checks.{Word, is_local}
use Rattle.jr_model.specs.Refusals.{Grounds}
use Rattle.jr_model.specs.Tests.{AreSilent, Tests, is_silent, tested}
use Rattle.jr_model.specs.Parts.{found_answer, found_object, local_answer, local_object, look, looked, not_null}
use Rattle.jr_model.specs.References.{resolved}
use Rattle.jr_model.specs.Programs.{AnswerKind, AnswerOf, Which, none_known, set_known, call_of, ended, Ending, Program}
use Rattle.jr_model.specs.Programs.{ends, names, wants, looks, tests, gives_kind, gives_object, reads, writes}
use Rattle.jr_model.proofs.EachCall.{program_stays}
use Rattle.jr_model.proofs.Exactly.{append_all}
use Rattle.jr_model.proofs.Gates.{apart_state}
use Rattle.jr_model.proofs.Histories.{legal_append, mine_append}
use Rattle.jr_model.proofs.Lawful.{NoLeave}
use Rattle.jr_model.proofs.Stays.{append_cancel, did_then, mine_did, role_of_state}
use Rattle.jr_gate.specs.Performing.{ThreadState}
use Rattle.jr_env.specs.Deeds.{Deed, answered_by, decided, within_by, ◌>>=◌}
use Rattle.jr_world.specs.Doing.{Doing, Noted, program_steps, unless_refused, whatever}
use Rattle.jr_world.specs.Plays.{Plays}
use Rattle.jr_world.specs.Playing.{IsApt, WordIs}
use Rattle.jr_world.proofs.CallPlays.{none_along}
use Rattle.jr_world.proofs.EndingPlays.{parts_play}
use Rattle.jr_world.proofs.Standing.{Stays, front_legal, is_of_gate, still_within}
use Rattle.jr_world.proofs.StayedCall.{calls_in_stays_play, is_noted_at, noted_at}
use Rattle.one_order.specs.Orders.Item.{does as acting}
use Rattle.jr_syntax.specs.declared.verb.OpenLevel.{OpenLevel}
use Rattle.jr_syntax.specs.declared.verb.OpenLevel.TheVariants as at
use Rattle.jr_scripts.specs.Commands.{get_critical}
use Rattle.jr_scripts.specs.Together.{nothing_noted}
use Rattle.jr_scripts.proofs.TogetherRun.Moments.{DeedPlays, EndsSo, HasDid, IsPass, LevelIs, Meant, Room, Since}
use Rattle.jr_scripts.proofs.TogetherRun.Moments.{any_frames}
use Rattle.jr_scripts.proofs.TogetherRun.Values.{level_later}
use Rattle.jr_scripts.proofs.TogetherRun.PlayedDeeds.{bind_plays, nothing_did, one_did, pass_later}
use Rattle.jr_scripts.proofs.TogetherRun.PlayedCalls.{lies_in, meant_so, settled, turned}

-- NO REFUSAL of such a call speaks of the room

record Quiet {A : Type 0} (call : Call A) : Type 0 where
  silent : (f g : Frames) (acts : List Act) (e : Fault) → call f acts (Err e) g → is_silent e ≡ true

quiet_then : {A B : Type 0} {first : Call A} {next : A → Call B} → Quiet first → ((x : A) → Quiet (next x))
    → Quiet (first then next)
quiet_then {A} {B} {first} {next} one rest = record { silent = go }
  where
    go : (f g : Frames) (acts : List Act) (e : Fault) → (first then next) f acts (Err e) g → is_silent e ≡ true
    go f g acts e (inl d) = (rest d.0).silent d.1 g d.3 e d.6
    go f g acts e (inr d) =
        let same : e ≡ d.0 = (let is = d.1 in cc) in
        subst (λ z. is_silent z ≡ true) (sym same) (one.silent f g acts d.0 d.2)

quiet_decided : {A : Type 0} (x : Result A Fault) → IfErr x (λ e. is_silent e ≡ true) → Quiet (decides x)
quiet_decided (Ok x) so = record { silent = λ f g acts e d. absurd (let bad = d.1 in cc) }
quiet_decided (Err x) so = record {
  silent = λ f g acts e d.
      let same : e ≡ x = (let is = d.1 in cc) in subst (λ z. is_silent z ≡ true) (sym same) so;
}

quiet_if : (b : Bool) (e : Fault) → is_silent e ≡ true → Quiet (refuse_if b e)
quiet_if true e so = quiet_decided (Err e) so
quiet_if false e so = quiet_decided (Ok tt) tt

quiet_tested : {A : Type 0} (ts : Tests) {next : Call A} → AreSilent ts → Quiet next → Quiet (tested ts next)
quiet_tested [] are next = next
quiet_tested ((b, e) ∷ ts) are next = quiet_then (quiet_if b e are.0) (λ x. quiet_tested ts are.1 next)

quiet_looked : (a : Word) → Quiet (looked a)
quiet_looked Word.Nothing = quiet_decided (Ok None) tt
quiet_looked Word.Malformed = quiet_decided (Ok None) tt
quiet_looked (Word.Parts h) = go (is_local h)
  where
    local_silent : (z : Option ℕ) → IfErr (local_answer z) (λ e. is_silent e ≡ true)
    local_silent None = refl
    local_silent (Some o) = tt

    found_silent : (z : Found) → IfErr (found_answer z) (λ e. is_silent e ≡ true)
    found_silent (Object o) = tt
    found_silent Cleared = tt
    found_silent Stale = refl

    seen : Quiet (look h)
    seen = record { silent = λ f g acts e d. absurd (let bad = d.2 in cc) }

    go : (b : Bool) → Quiet (cond b (λ (old : Frames). local_object (object_of old h) old) (look h then found_object))
    go true = record {
      silent = λ f g acts e d.
          (quiet_decided (local_answer (object_of f h)) (local_silent (object_of f h))).silent f g acts e d;
    }
    go false = quiet_then seen (λ z. quiet_decided (found_answer z) (found_silent z))

quiet_wanted : (z : Option ℕ) → Quiet (not_null z)
quiet_wanted (Some o) = quiet_decided (Ok o) tt
quiet_wanted None = quiet_decided (Err fault.Null) refl

-- a program with no refusal but those of a reference, of NULL, and of its tests
abbrev EndsQuietly : {n : ℕ} {a : AnswerKind} → Ending n a → Type 0
EndsQuietly (gives_kind k) = Unit {0}
EndsQuietly gives_object = Unit {0}
EndsQuietly (reads i) = Unit {0}
EndsQuietly (writes i v) = Unit {0}
EndsQuietly _ = ⊥

abbrev pub IsQuiet : {n : ℕ} {a : AnswerKind} → Program n a → Type 0
IsQuiet (ends e) = EndsQuietly e
IsQuiet (names p next) = IsQuiet next
IsQuiet (wants p next) = IsQuiet next
IsQuiet (looks next) = (k : Kind) (n : ℕ) → IsQuiet (next k n)
IsQuiet (tests ts silent next) = IsQuiet next
IsQuiet _ = ⊥

module _ (c : Config) (last thread : ℕ) (s : State) (words : Which → Word) where
  quiet_resolved : (a : Word) → Quiet (resolved c last thread a)
  quiet_resolved a = quiet_then (quiet_if _ fault.Stale refl) (λ x. quiet_then (quiet_if _ fault.Stale refl) (λ y.
      quiet_then (quiet_if _ fault.Foreign refl) (λ z. quiet_looked a)))

  quiet_ended : {n : ℕ} {a : AnswerKind} (e : Ending n a) → EndsQuietly e → (known : Which → Option ℕ) (o : ℕ)
      → Quiet (ended c last thread words e known o)
  quiet_ended (gives_kind k) quiet known o = quiet_decided (Ok k) tt
  quiet_ended gives_object quiet known o = quiet_decided (Ok o) tt
  quiet_ended (reads i) quiet known o = record { silent = λ f g acts e d. absurd (let bad = d.2 in cc) }
  quiet_ended (writes i v) quiet known o = record { silent = λ f g acts e d. absurd (let bad = d.1 in cc) }
  quiet_ended _ quiet known o = absurd quiet

  quiet_program : {n : ℕ} {a : AnswerKind} (p : Program n a) → IsQuiet p → (known : Which → Option ℕ) (o : ℕ)
      → Quiet (call_of c last thread s words p known o)
  quiet_program (ends e) quiet known o = quiet_ended e quiet known o
  quiet_program (names w p) quiet known o =
      quiet_then (quiet_resolved (words w)) (λ x. quiet_program p quiet (set_known known w x) o)
  quiet_program (wants w p) quiet known o = quiet_then (quiet_wanted (known w)) (λ q. quiet_program p quiet known q)
  quiet_program (looks next) quiet known o = record {
    silent = λ f g acts e d. (quiet_program (next d.0.kind (length d.0.words)) (quiet d.0.kind (length d.0.words))
        known o).silent f g acts e d.2;
  }
  quiet_program (tests ts silent p) quiet known o = quiet_tested ts silent (quiet_program p quiet known o)
  quiet_program _ quiet known o = absurd quiet

pub critical_quiet : (v : OpenLevel) (levels : ℕ) → IsQuiet (get_critical v levels)
critical_quiet at.Array levels = λ kind long. tt
critical_quiet at.Text levels = λ kind long. tt

-- AN ANSWER IN ANOTHER FORM, of a call and so of its deed
pub formed_made : {A B : Type 0} (silent : Config → ℕ) (asked : Config → ℕ → ℕ → State → Call A) (form : A → B)
    (old new : ThreadState) (answer : Result B Fault)
    → within_by silent (λ c last t s. asked c last t s then (λ x. gives (form x))) old answer new
    → answered_by form (within_by silent asked) old answer new
formed_made {A} {B} silent asked form old new answer m = go m.ran.is
  where
    call : Call A
    call = asked old.pass.config old.pass.last old.pass.thread (state new.pass.seen)

    go : (call then (λ x. gives (form x))) old.frames m.ran.acts answer new.frames
        → answered_by form (within_by silent asked) old answer new
    go (inl d) = inl (
      d.0,
      new,
      record {
        ran = record {
          acts = m.ran.acts;
          did = m.ran.did;
          is = subst (λ l. call old.frames l (Ok d.0) new.frames)
              (sym (d.4 ∙ ap (λ l. d.2 ++ l) d.6.0 ∙ append-nil d.2))
              (subst (λ z. call old.frames d.2 (Ok d.0) z) (sym d.6.2) d.5);
          begun = m.ran.begun;
          window = m.ran.window;
          grounds = tt;
        };
        spent = m.spent;
      },
      (d.6.1, refl),
    )
    go (inr d) = inr (
      d.0,
      d.1,
      record {
        ran = record {
          acts = m.ran.acts;
          did = m.ran.did;
          is = d.2;
          begun = m.ran.begun;
          window = m.ran.window;
          grounds = subst (λ z. IfErr z (Grounds m.ran.begun new.pass)) d.1 m.ran.grounds;
        };
        spent = m.spent;
      },
    )

module _ (r : Room) (t : ℕ) (small : t < r.config.threads) where
  -- WHERE A STAY GOES ON
  stays_later : (h later : History) (acts : List Act) → IsPrefix later r.whole → IsPrefix h later
      → mine later t ≡ mine h t ++ acts → (state h).role t ≡ Within → NoLeave acts
      → Stays r.config r.last r.whole t r.legal h later
  stays_later h later acts begins (since, is) own within none = record {
    since = since;
    is = sym is;
    within = within;
    none = none_along r.config r.last t (state h) since (apart_state r.config r.last h both.0) within
        (subst NoLeave (sym mine_since) none) both.1;
  }
    where
      both : IsLegal r.config r.last h × IsLegalFrom r.config r.last (state h) since
      both = (legal_append r.config r.last h since).0 (subst (IsLegal r.config r.last) (sym is)
          (front_legal r.config r.last r.whole t r.legal later begins))

      mine_since : mine since t ≡ acts
      mine_since = append_cancel (mine h t) (mine since t) acts
          (sym (mine_append h since t) ∙ ap (λ l. mine l t) is ∙ own)

  -- from within, a thread that doesn't leave does nothing at the gate
  pub none_at_gate : (old new : PassView) (acts : List Act) → IsPass r.config r.last t old → Did old new acts
      → (state old.seen).role t ≡ Within → NoLeave acts → AllByRecursion (λ a. is_of_gate a ≡ false) acts
  none_at_gate old new acts pass did within none =
      subst (AllByRecursion (λ a. is_of_gate a ≡ false)) (mine_did acts did)
      (none_along old.config old.last old.thread (state old.seen) did.begins.0
      (apart_state old.config old.last old.seen both.0)
      (subst (λ u. (state old.seen).role u ≡ Within) (sym pass.thread) within)
      (subst NoLeave (sym (mine_did acts did)) none) both.1)
    where
      both : IsLegal old.config old.last old.seen × IsLegalFrom old.config old.last (state old.seen) did.begins.0
      both = (legal_append old.config old.last old.seen did.begins.0).0
          (subst (IsLegal old.config old.last) (sym did.begins.1) did.legal)

  -- its role stays
  pub role_kept : (old new : PassView) (acts : List Act) → IsPass r.config r.last t old → Did old new acts
      → (state old.seen).role t ≡ Within → AllByRecursion (λ a. is_of_gate a ≡ false) acts
      → (state new.seen).role t ≡ Within
  role_kept old new acts pass did within none =
      still_within r.config r.last r.whole t r.legal old.seen new.seen (record {
        since = did.begins.0;
        is = sym did.begins.1;
        within = within;
        none = subst (λ u. AllByRecursion (λ a. is_of_gate a ≡ false) (mine did.begins.0 u)) pass.thread
            (subst (AllByRecursion (λ a. is_of_gate a ≡ false)) (sym (mine_did acts did)) none);
      })

  -- WHAT A DEED DOES are acts of its thread, and none of them is an exit
  pub record Remains {A : Type 0} (deed : Deed A) : Type 0 where
    pub stays : (old new : ThreadState) (answer : Result A Fault) → IsPass r.config r.last t old.pass
        → deed old answer new → (acts : List Act) × Did old.pass new.pass acts × NoLeave acts

  pub remains_did : {A : Type 0} {deed : Deed A} → Remains deed → HasDid r t deed
  remains_did remains old new answer pass d = let s = remains.stays old new answer pass d in (s.0, s.1)

  pub decided_remains : {A : Type 0} (x : Result A Fault) → Remains (decided x)
  decided_remains x = record { stays = λ old new answer pass d. ([], nothing_did old new pass d.1, tt) }

  pub bind_remains : {A B : Type 0} {first : Deed A} {next : A → Deed B} → Remains first
      → ((x : A) → Remains (next x)) → Remains (first >>= next)
  bind_remains {A} {B} {first} {next} one rest = record { stays = go }
    where
      go : (old new : ThreadState) (answer : Result B Fault) → IsPass r.config r.last t old.pass
          → (first >>= next) old answer new → (acts : List Act) × Did old.pass new.pass acts × NoLeave acts
      go old new answer pass (inl d) =
          let a = one.stays old d.1 (Ok d.0) pass d.2 in
          let b = (rest d.0).stays d.1 new answer (pass_later a.0 a.1 pass) d.3 in
          (a.0 ++ b.0, did_then a.0 b.0 a.1 b.1, append_all (λ x. x ≢ Gate Leave) a.0 b.0 a.2 b.2)
      go old new answer pass (inr d) = one.stays old new (Err d.0) pass d.2

  -- one deed and then another, in a stay
  pub bind_stays : {A B A' B' : Type 0} {h : History} {V : History → A → A' → Type 0} {U : History → B → B' → Type 0}
      {first : Deed A} {first' : Doing A'} {next : A → Deed B} {next' : A' → Doing B'} → Remains first
      → ((x : A) → Remains (next x)) → DeedPlays r t h any_frames V first first' → (state h).role t ≡ Within
      → ((later : History) (x : A) (y : A') → IsPrefix h later → IsPrefix later r.whole
      → Stays r.config r.last r.whole t r.legal h later
      → V later x y → DeedPlays r t later any_frames U (next x) (next' y))
      → DeedPlays r t h any_frames U (first >>= next) (whatever first' (unless_refused next'))
  bind_stays {first = first} remains rest plays within then_plays = bind_plays r t (remains_did remains)
      (λ x. remains_did (rest x)) plays (λ old mid x pass d fits. tt)
      (λ old mid x y acts later pass d did seen begins from own so.
      let s = remains.stays old mid (Ok x) pass d in
      then_plays later x y from begins (stays_later _ later acts begins from own within
      (subst NoLeave (one_did s.0 acts s.1 did) s.2)) so)

  module _ {n : ℕ} {a : AnswerKind} (p : Program n a) where
    -- A CALL IN A STAY, handed these references, at this object
    abbrev pub staying : (Config → ℕ) → (Which → Word) → ℕ → Deed (AnswerOf a)
    staying silent words o = within_by silent (λ c last t s. call_of c last t s words p none_known o)

    pub staying_remains : (silent : Config → ℕ) (words : Which → Word) (o : ℕ) → Remains (staying silent words o)
    staying_remains silent words o = record {
      stays = λ old new answer pass d. (
        d.ran.acts,
        d.ran.did,
        program_stays old.pass.config old.pass.last old.pass.thread (state new.pass.seen) words p none_known o
            old.frames new.frames d.ran.acts answer d.ran.is,
      );
    }

    pub staying_plays : {h : History} {F : Frames → Type 0} (silent : Config → ℕ) (words : Which → Word)
        (numbers : Which → ℕ) (o j : ℕ) → IsQuiet p → ((f : Frames) → IsApt r.last f words p)
        → ((from : Noted) → program_steps r.config from numbers p none_known j
        ≡ program_steps r.config nothing_noted numbers p none_known j)
        → ((later : History) → IsPrefix h later → IsPrefix later r.whole → (w : Which)
        → WordIs later (words w) (numbers w))
        → (state h).role t ≡ Within → LevelIs h o j → DeedPlays r t h F (Meant r t a) (staying silent words o)
        (program_steps r.config nothing_noted numbers p none_known j)
    staying_plays {h} silent words numbers o j quiet apt alike words_are within at_object = record {
      plays = λ old new past answer acts behind pass d did begins come since fits.
          let made = turned r t small old.pass new.pass old.frames new.frames answer
          (λ c l. call_of c l old.pass.thread (state new.pass.seen) words p none_known o) pass d.ran in
          subst (λ q. Plays r.config r.whole t (EndsSo r t (Meant r t a) new answer) new.frames behind q past
          old.frames (map acting acts)) (alike (noted_at past))
          (settled r t small a (Meant r t a) old new past answer answer
          (program_steps r.config (noted_at past) numbers p none_known j) made.acts acts behind (meant_so r t a answer)
          pass made.did did
          (calls_in_stays_play parts_play r.config r.last r.whole old.pass new.pass past old.frames new.frames n a p
          words numbers o j (noted_at past) answer behind (lies_in r t small old.pass new.pass acts pass did begins)
          come (subst (λ u. (state past).role u ≡ Within) (sym pass.thread) (within_past past since))
          (is_noted_at past) (words_are past since.0 come.begins) (apt old.frames)
          (level_later r t h past (stays_here past since come.begins) come.begins o j at_object)
          (is_quiet answer old new made) made));
    }
      where
        is_quiet : (answer : Result (AnswerOf a) Fault) (old new : ThreadState)
            → Ran old.pass new.pass old.frames new.frames
            (call_of r.config r.last old.pass.thread (state new.pass.seen) words p none_known o) answer
            → IfErr answer (λ e. is_silent e ≡ true)
        is_quiet (Ok x) old new made = tt
        is_quiet (Err e) old new made = (quiet_program r.config r.last old.pass.thread (state new.pass.seen) words p
            quiet none_known o).silent old.frames new.frames made.acts e made.is

        stays_here : (past : History) → Since r t h past → IsPrefix past r.whole
            → Stays r.config r.last r.whole t r.legal h past
        stays_here past since begins =
            stays_later h past [] begins since.0 (since.1 ∙ sym (append-nil (mine h t))) within tt

        within_past : (past : History) → Since r t h past → (state past).role t ≡ Within
        within_past past since =
            role_of_state past t ∙ ap (role_from Outside) since.1 ∙ sym (role_of_state h t) ∙ within
