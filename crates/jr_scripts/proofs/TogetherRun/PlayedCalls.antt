-- EACH CALL IS PLAYED, by how it stands to the gate and what it is handed.
use Rattle.std.proofs.Common.{◌≡◌, ◌≢◌, ◌<◌, inl, inr, ℕ, Option, List, [], ◌∷◌, ◌++◌, map, Result, Ok, Err, IfErr}
use Rattle.std.proofs.Common.{refl, sym, ap, subst, ◌∙◌, append_assoc, append-nil}
use Rattle.std.specs.List.{AllByRecursion}
use mathlib.Core.List.{IsPrefix}
use Rattle.jr_word.specs.declared.config.Config.{Config}
use Rattle.jr_word.specs.declared.fault.Fault.{Fault}
use Rattle.jr_model.specs.declared.event.Act.{Act}
use Rattle.jr_model.specs.declared.event.Act.TheVariants.{Gate}
use Rattle.jr_model.specs.declared.event.GateAct.TheVariants.{Enter, Leave}
use Rattle.jr_model.specs.declared.event.Role.TheVariants.{Within}
use Rattle.jr_model.specs.State.{State}
use Rattle.jr_model.specs.Steps.{after}
use Rattle.jr_model.specs.Refusals.{Grounds}
use Rattle.jr_model.specs.Frames.{Frames}
use Rattle.jr_model.specs.History.{Did, History, IsLegal, IsLegalFrom, PassView, by, state, state_from}
use Rattle.jr_model.specs.Calls.{Call, Ran, done, entered, opened, ◌>>=◌}
use Rattle.jr_model.specs.Checks.{Word, Nothing}
use Rattle.jr_model.specs.Programs.{AnswerKind, AnswerOf, Program, Which, one, other, at_both, handed_none, handed_one}
use Rattle.jr_model.specs.Programs.{none_known, nothing, object, work_of}
use Rattle.jr_model.specs.AllCalls.{enters, keeps, means, opens, stays_out}
use Rattle.jr_model.proofs.EachCall.{lawful, program_stays}
use Rattle.jr_model.proofs.Gates.{IsApart, apart_after, apart_state, stay_act}
use Rattle.jr_model.proofs.Histories.{legal_append, state_append}
use Rattle.jr_model.proofs.Lawful.{safe}
use Rattle.jr_model.proofs.Moments.{first_act, prefix_self}
use Rattle.jr_model.proofs.Stays.{mine_did, never}
use Rattle.jr_model.proofs.Updates.{at_number_self}
use Rattle.jr_gate.specs.Performing.{ThreadState}
use Rattle.jr_frames.specs.Reading.{IsReadAs}
use Rattle.jr_critical.specs.Levels.{opened_by}
use Rattle.jr_env.specs.Deeds.{Deed, call_apart, call_by, call_on_by, within_by}
use Rattle.jr_world.specs.World.{MeantOf}
use Rattle.jr_world.specs.Doing.{Doing, Noted, entered_in_steps, opened_in_steps, program_steps}
use Rattle.jr_world.specs.Plays.{Plays}
use Rattle.jr_world.specs.Playing.{AnsweredBy, CallsPlay, EndsAnswered, EntersNoGate, HasComeTo, IsApt, LiesIn, WordIs}
use Rattle.jr_world.proofs.EachCall.{calls_play}
use Rattle.jr_world.proofs.EndingPlays.{parts_play}
use Rattle.jr_world.proofs.Joining.{weakened}
use Rattle.jr_world.proofs.OpenedCall.{opened_calls_play}
use Rattle.jr_world.proofs.OutsideCall.{calls_outside_play}
use Rattle.one_order.specs.Orders.{Item}
use Rattle.one_order.specs.Orders.Item.{does as acting}
use Rattle.jr_scripts.specs.Together.{nothing_noted}
use Rattle.jr_scripts.proofs.TogetherRun.Moments.{AnswerSo, DeedPlays, EndsSo, HandleIs, HasDid, IsPass, LevelIs, Meant}
use Rattle.jr_scripts.proofs.TogetherRun.Moments.{Room}
use Rattle.jr_scripts.proofs.TogetherRun.Values.{handle_later, read_is}
use Rattle.jr_scripts.proofs.TogetherRun.PlayedDeeds.{one_did}

-- what is meant by an answer, as deeds have it
pub meant_so : (r : Room) (t : ℕ) (a : AnswerKind) (answer : Result (AnswerOf a) Fault) (later : History)
    (y : Result (MeantOf a) Fault) → AnsweredBy a answer later y → AnswerSo (Meant r t a) later answer y
meant_so r t a (Ok x) later (Ok y) so = so
meant_so r t a (Err e) later (Err d) so = so
meant_so r t a _ later _ so = absurd so

-- .. of the object of a level
level_so : (answer : Result ℕ Fault) (later : History) (y : Result ℕ Fault) → AnsweredBy object answer later y
    → AnswerSo LevelIs later answer y
level_so (Ok x) later (Ok y) so = so
level_so (Err e) later (Err d) so = so
level_so _ later _ so = absurd so

-- what is told of the references that are handed in
pub both_words : (h : History) (b d : Word) (i k : ℕ) → WordIs h b i → WordIs h d k → (w : Which)
    → WordIs h (at_both b d w) (at_both i k w)
both_words h b d i k first second one = first
both_words h b d i k first second other = second

-- A RELEASE that keeps elements is the call within it, answered so
record Released (old new : PassView) (f g : Frames) (work : Call (Unit {0}))
    (answer : Result (Option (List ℕ)) Fault) : Type 0 where
  given : Result (Unit {0}) Fault
  ran : Ran old new f g (entered work) given
  told : (later : History) (y : Result (Unit {0}) Fault) → AnsweredBy nothing given later y
      → AnswerSo {A = Option (List ℕ)} {B = Unit {0}} (λ now x z. Unit {0}) later answer y

released : (kept : Option (List ℕ)) (old new : PassView) (f g : Frames) (work : Call (Unit {0}))
    (answer : Result (Option (List ℕ)) Fault) → Ran old new f g (entered work >>= (λ u. done kept)) answer
    → Released old new f g work answer
released kept old new f g work answer ran = go ran.is
  where
    Told : Result (Option (List ℕ)) Fault → History → Result (Unit {0}) Fault → Type 0
    Told x later y = AnswerSo {A = Option (List ℕ)} {B = Unit {0}} (λ now x z. Unit {0}) later x y

    done_so : (later : History) (y : Result (Unit {0}) Fault) → AnsweredBy nothing (Ok tt) later y
        → Told (Ok kept) later y
    done_so later (Ok y) so = tt
    done_so later (Err d) so = absurd so

    refused_so : (e : Fault) (later : History) (y : Result (Unit {0}) Fault) → AnsweredBy nothing (Err e) later y
        → Told (Err e) later y
    refused_so e later (Ok y) so = absurd so
    refused_so e later (Err d) so = so

    go : (entered work >>= (λ u. done kept)) f ran.acts answer g → Released old new f g work answer
    go (inl (x, mid, front, rest, all, first, (none, told, same))) = record {
      given = Ok x;
      ran = record {
        acts = ran.acts;
        did = ran.did;
        is = subst (λ l. entered work f l (Ok x) g) (sym (all ∙ (ap (λ l. front ++ l) none ∙ append-nil front)))
            (subst (λ h. entered work f front (Ok x) h) (sym same) first);
        begun = ran.begun;
        window = ran.window;
        grounds = tt;
      };
      told = λ later y so. subst (λ z. Told z later y) (sym told) (done_so later y so);
    }
    go (inr (e, refused, first)) = record {
      given = Err e;
      ran = record {
        acts = ran.acts;
        did = ran.did;
        is = first;
        begun = ran.begun;
        window = ran.window;
        grounds = subst (λ z. IfErr z (Grounds ran.begun new)) refused ran.grounds;
      };
      told = λ later y so. subst (λ z. Told z later y) (sym refused) (refused_so e later y so);
    }

-- within, a thread stays so until it leaves
within_along : (c : Config) (last t : ℕ) (s : State) (es : History) → IsApart s.role → s.role t ≡ Within
    → AllByRecursion (λ e. e ≢ by t (Gate Leave)) es → IsLegalFrom c last s es → (state_from s es).role t ≡ Within
within_along c last t s [] apart within none l = within
within_along c last t s (e ∷ es) apart within none l = within_along c last t (after s e) es
    (apart_after c last s e apart l.0) (stay_act c last t s e.thread e.act apart within none.0 l.0.1).0 none.1 l.1

-- a thread that entered, and has not left since, is within
entered_within : (old new : PassView) (acts : List Act) → Did old new (Gate Enter ∷ acts)
    → AllByRecursion (λ a. a ≢ Gate Leave) acts → (state new.seen).role old.thread ≡ Within
entered_within old new acts did none =
    let f = first_act old.thread (Gate Enter) acts did.begins.0 (mine_did (Gate Enter ∷ acts) did) in
    let front = old.seen ++ f.before in
    let parts : new.seen ≡ front ++ by old.thread (Gate Enter) ∷ f.since = sym did.begins.1
    ∙ (ap (λ l. old.seen ++ l) f.parts ∙ sym (append_assoc old.seen f.before (by old.thread (Gate Enter) ∷ f.since))) in
    let both = (legal_append old.config old.last front (by old.thread (Gate Enter) ∷ f.since)).0
    (subst (IsLegal old.config old.last) parts did.legal) in
    let begun = after (state front) (by old.thread (Gate Enter)) in
    let stays = within_along old.config old.last old.thread begun f.since
    (apart_after old.config old.last (state front) (by old.thread (Gate Enter))
    (apart_state old.config old.last front both.0) both.1.0)
    (at_number_self (state front).role old.thread Within)
    (never (Gate Leave) f.since old.thread (subst (AllByRecursion (λ a. a ≢ Gate Leave)) (sym f.rest) none))
    both.1.1 in
    ap (λ h. (state h).role old.thread) parts
    ∙ (ap (λ (s : State). s.role old.thread) (state_append front (by old.thread (Gate Enter) ∷ f.since)) ∙ stays)

module _ (r : Room) (t : ℕ) (small : t < r.config.threads) where
  -- what a deed does lies in the room
  pub lies_in : (old new : PassView) (acts : List Act) → IsPass r.config r.last t old → Did old new acts
      → IsPrefix new.seen r.whole → LiesIn r.config r.last r.whole old new
  lies_in old new acts is did begins = record {
    room = did.config ∙ is.config;
    serial = did.last ∙ is.last_is;
    thread = did.thread;
    small = subst (λ u. u < r.config.threads) (sym is.thread) small;
    begins = begins;
    legal = r.legal;
    serials = r.serials;
  }

  -- a call that was made is the room's
  pub turned : {A : Type 0} (old new : PassView) (f g : Frames) (answer : Result A Fault) (call : Config → ℕ → Call A)
      → IsPass r.config r.last t old → Ran old new f g (call old.config old.last) answer
      → Ran old new f g (call r.config r.last) answer
  turned old new f g answer call is ran = subst (λ c. Ran old new f g (call c r.last) answer) is.config
      (subst (λ l. Ran old new f g (call old.config l) answer) is.last_is ran)

  -- a call that is played is so as a deed, by the thread's name, whatever is told of the answer
  pub settled : {X : Type 0} (a : AnswerKind) (V : History → X → MeantOf a → Type 0) (old new : ThreadState)
      (past : History) (given : Result (AnswerOf a) Fault) (answer : Result X Fault) (d : Doing (MeantOf a))
      (xs acts : List Act) (behind : List (Item Act))
      → ((later : History) (y : Result (MeantOf a) Fault) → AnsweredBy a given later y → AnswerSo V later answer y)
      → IsPass r.config r.last t old.pass → Did old.pass new.pass xs → Did old.pass new.pass acts
      → Plays r.config r.whole old.pass.thread (EndsAnswered r.whole new.pass a given) new.frames behind d past
      old.frames (map acting xs)
      → Plays r.config r.whole t (EndsSo r t V new answer) new.frames behind d past old.frames (map acting acts)
  settled a V old new past given answer d xs acts behind told is first second plays =
      subst (λ l. Plays r.config r.whole t (EndsSo r t V new answer) new.frames behind d past old.frames
      (map acting l)) (one_did xs acts first second)
      (subst (λ u. Plays r.config r.whole u (EndsSo r t V new answer) new.frames behind d past old.frames
      (map acting xs)) is.thread
      (weakened r.config r.whole old.pass.thread (EndsAnswered r.whole new.pass a given) (EndsSo r t V new answer)
      new.frames behind past (λ later y begins so. (so.0, told later y so.1)) (prefix_self past) plays))

  -- a word that is handed in, at a later moment
  word_later : (h past : History) → IsPrefix h past → IsPrefix past r.whole → (w n : ℕ) (b : Word) → IsReadAs w b
      → HandleIs h w n → WordIs past b n
  word_later h past goes begins w n b read so = read_is r past begins w n b read (handle_later h past goes w n so)

  -- A CALL AT THE GATE, by its law
  module _ (at_gate : (A : Type 0) → Call A → Call A) (in_steps : (A : Type 0) → (Noted → Doing A) → Doing A)
      (law : CallsPlay at_gate in_steps) {n : ℕ} {a : AnswerKind} (p : Program n a) where
    gate_plays : {X : Type 0} (V : History → X → MeantOf a → Type 0) (old new : ThreadState) (past : History)
        (words : Which → Word) (numbers : Which → ℕ) (given : Result (AnswerOf a) Fault) (answer : Result X Fault)
        (acts : List Act) (behind : List (Item Act))
        → ((later : History) (y : Result (MeantOf a) Fault) → AnsweredBy a given later y → AnswerSo V later answer y)
        → IsPass r.config r.last t old.pass
        → Ran old.pass new.pass old.frames new.frames (at_gate (AnswerOf a)
        (work_of old.pass.config old.pass.last old.pass.thread (state new.pass.seen) words p)) given
        → Did old.pass new.pass acts → IsPrefix new.pass.seen r.whole → HasComeTo r.whole old.pass past
        → ((w : Which) → WordIs past (words w) (numbers w)) → IsApt r.last old.frames words p
        → Plays r.config r.whole t (EndsSo r t V new answer) new.frames behind
        (in_steps (MeantOf a) (λ from. program_steps r.config from numbers p none_known 0)) past old.frames
        (map acting acts)
    gate_plays V old new past words numbers given answer acts behind told is ran did begins come words_are apt =
        let ran' = turned old.pass new.pass old.frames new.frames given
        (λ c l. at_gate (AnswerOf a) (work_of c l old.pass.thread (state new.pass.seen) words p)) is ran in
        settled a V old new past given answer
        (in_steps (MeantOf a) (λ from. program_steps r.config from numbers p none_known 0)) ran'.acts acts behind told
        is ran'.did did
        (law r.config r.last r.whole old.pass new.pass past old.frames new.frames n a p words numbers given behind
        (lies_in old.pass new.pass acts is did begins) come words_are apt ran')

  module _ {n : ℕ} {a : AnswerKind} (p : Program n a) where
    -- A CALL WITH A STAY OF ITS OWN, handed these references
    abbrev pub entering : (Config → ℕ) → (Which → Word) → Deed (AnswerOf a)
    entering silent words = call_by silent (λ c last t s. entered (work_of c last t s words p))

    abbrev pub entering_in_steps : (Which → ℕ) → Doing (MeantOf a)
    entering_in_steps numbers = entered_in_steps (λ from. program_steps r.config from numbers p none_known 0)

    pub entering_did : (silent : Config → ℕ) (words : Which → Word) → HasDid r t (entering silent words)
    entering_did silent words old new answer is d = (d.0.ran.acts, d.0.ran.did)

    -- no refusal changes the frames
    pub entering_refused : (silent : Config → ℕ) (words : Which → Word) (old new : ThreadState) (e : Fault)
        → IsPass r.config r.last t old.pass → entering silent words old (Err e) new → new.frames ≡ old.frames
    entering_refused silent words old new e is d = (safe (lawful old.pass.config old.pass.last old.pass.thread
        (state new.pass.seen) (enters words p))).frames old.frames new.frames d.0.ran.acts e d.0.ran.is

    entering_plays : {h : History} {F : Frames → Type 0} (silent : Config → ℕ) (words : Which → Word)
        (numbers : Which → ℕ)
        → ((past : History) → IsPrefix h past → IsPrefix past r.whole → (w : Which) → WordIs past (words w) (numbers w))
        → ((f : Frames) → F f → IsApt r.last f words p)
        → DeedPlays r t h F (Meant r t a) (entering silent words) (entering_in_steps numbers)
    entering_plays silent words numbers words_are apt = record {
      plays = λ old new past answer acts behind is d did begins come since f.
          gate_plays (λ A. entered) (λ A. entered_in_steps) (calls_play parts_play) p (Meant r t a) old new past words
          numbers answer answer acts behind (meant_so r t a answer) is d.0.ran did begins come
          (words_are past since.0 come.begins) (apt old.frames f);
    }

    -- .. none
    pub entering_none_plays : {h : History} {F : Frames → Type 0} (silent : Config → ℕ)
        → ((f : Frames) → F f → IsApt r.last f handed_none p)
        → DeedPlays r t h F (Meant r t a) (entering silent handed_none) (entering_in_steps (at_both 0 0))
    entering_none_plays silent apt = entering_plays silent handed_none (at_both 0 0)
        (λ past goes begins. both_words past Nothing Nothing 0 0 refl refl) apt

    -- .. one, which a word says
    abbrev pub entering_on : (Config → ℕ) → ℕ → Deed (AnswerOf a)
    entering_on silent w old answer new = (b : Word) × IsReadAs w b × entering silent (handed_one b) old answer new

    pub entering_on_did : (silent : Config → ℕ) (w : ℕ) → HasDid r t (entering_on silent w)
    entering_on_did silent w old new answer is d = entering_did silent (handed_one d.0) old new answer is d.2

    pub entering_on_refused : (silent : Config → ℕ) (w : ℕ) (old new : ThreadState) (e : Fault)
        → IsPass r.config r.last t old.pass → entering_on silent w old (Err e) new → new.frames ≡ old.frames
    entering_on_refused silent w old new e is d = entering_refused silent (handed_one d.0) old new e is d.2

    pub entering_on_plays : {h : History} {F : Frames → Type 0} (silent : Config → ℕ) (w k : ℕ) → HandleIs h w k
        → ((b : Word) (f : Frames) → IsReadAs w b → F f → IsApt r.last f (handed_one b) p)
        → DeedPlays r t h F (Meant r t a) (entering_on silent w) (entering_in_steps (at_both k 0))
    entering_on_plays {h} {F} silent w k so apt = record {
      plays = λ old new past answer acts behind is d. (entering_plays {h = h} {F = F} silent (handed_one d.0)
          (at_both k 0) (λ later goes begins. both_words later d.0 Nothing k 0
          (word_later h later goes begins w k d.0 d.1 so) refl) (λ f held. apt d.0 f d.1 held)).plays old new past
          answer acts behind is d.2;
    }

    -- .. two
    abbrev pub entering_on_both : (Config → ℕ) → ℕ → ℕ → Deed (AnswerOf a)
    entering_on_both silent v w old answer new =
        (b d : Word) × IsReadAs v b × IsReadAs w d × entering silent (at_both b d) old answer new

    pub entering_on_both_did : (silent : Config → ℕ) (v w : ℕ) → HasDid r t (entering_on_both silent v w)
    entering_on_both_did silent v w old new answer is d = entering_did silent (at_both d.0 d.1) old new answer is d.4

    pub entering_on_both_refused : (silent : Config → ℕ) (v w : ℕ) (old new : ThreadState) (e : Fault)
        → IsPass r.config r.last t old.pass → entering_on_both silent v w old (Err e) new → new.frames ≡ old.frames
    entering_on_both_refused silent v w old new e is d = entering_refused silent (at_both d.0 d.1) old new e is d.4

    pub entering_on_both_plays : {h : History} {F : Frames → Type 0} (silent : Config → ℕ) (v w i k : ℕ)
        → HandleIs h v i → HandleIs h w k → ((b d : Word) (f : Frames) → IsReadAs v b → IsReadAs w d → F f
        → IsApt r.last f (at_both b d) p)
        → DeedPlays r t h F (Meant r t a) (entering_on_both silent v w) (entering_in_steps (at_both i k))
    entering_on_both_plays {h} {F} silent v w i k first second apt = record {
      plays = λ old new past answer acts behind is d. (entering_plays {h = h} {F = F} silent (at_both d.0 d.1)
          (at_both i k) (λ later goes begins. both_words later d.0 d.1 i k
          (word_later h later goes begins v i d.0 d.2 first) (word_later h later goes begins w k d.1 d.3 second))
          (λ f held. apt d.0 d.1 f d.2 d.3 held)).plays old new past answer acts behind is d.4;
    }

    -- A CALL THAT ENTERS NO GATE
    pub apart_did : HasDid r t (call_apart p)
    apart_did old new answer is d = (d.0.ran.acts, d.0.ran.did)

    pub apart_refused : (old new : ThreadState) (e : Fault) → IsPass r.config r.last t old.pass
        → call_apart p old (Err e) new → new.frames ≡ old.frames
    apart_refused old new e is d = (safe (lawful old.pass.config old.pass.last old.pass.thread (state new.pass.seen)
        (stays_out p))).frames old.frames new.frames d.0.ran.acts e d.0.ran.is

    pub apart_plays : {h : History} {F : Frames → Type 0} → EntersNoGate p
        → ((f : Frames) → F f → IsApt r.last f handed_none p)
        → DeedPlays r t h F (Meant r t a) (call_apart p)
        (program_steps r.config nothing_noted (at_both 0 0) p none_known 0)
    apart_plays none apt = record {
      plays = λ old new past answer acts behind is d did begins come since f.
          let ran = turned old.pass new.pass old.frames new.frames answer
          (λ c l. work_of c l old.pass.thread (state new.pass.seen) handed_none p) is d.0.ran in
          settled a (Meant r t a) old new past answer answer
          (program_steps r.config nothing_noted (at_both 0 0) p none_known 0) ran.acts acts behind
          (meant_so r t a answer) is ran.did did
          (calls_outside_play r.config r.last r.whole old.pass new.pass past old.frames new.frames n a p handed_none
          (at_both 0 0) nothing_noted answer behind (lies_in old.pass new.pass acts is did begins) come none
          (apt old.frames f) ran);
    }

  -- A RELEASE that writes elements back, and these are kept, if they are
  module _ (kept : Option (List ℕ)) (p : Program 0 nothing) (w : ℕ) where
    abbrev pub releasing : Deed (Option (List ℕ))
    releasing = call_on_by (λ c. 1) w (λ c last t s b. means c last t s (keeps kept (handed_one b) p))

    pub releasing_did : HasDid r t releasing
    releasing_did old new answer is d = (d.2.0.ran.acts, d.2.0.ran.did)

    pub releasing_refused : (old new : ThreadState) (e : Fault) → IsPass r.config r.last t old.pass
        → releasing old (Err e) new → new.frames ≡ old.frames
    releasing_refused old new e is d = (safe (lawful old.pass.config old.pass.last old.pass.thread
        (state new.pass.seen) (keeps kept (handed_one d.0) p))).frames old.frames new.frames d.2.0.ran.acts e
        d.2.0.ran.is

    pub releasing_plays : {h : History} {F : Frames → Type 0} (k : ℕ) → HandleIs h w k
        → ((b : Word) (f : Frames) → F f → IsApt r.last f (handed_one b) p)
        → DeedPlays r t h F (λ later x y. Unit {0}) releasing (entering_in_steps p (at_both k 0))
    releasing_plays {h} {F} k so apt = record {
      plays = λ old new past answer acts behind is d did begins come since f.
          let it = released kept old.pass new.pass old.frames new.frames (work_of old.pass.config old.pass.last
          old.pass.thread (state new.pass.seen) (handed_one d.0) p) answer d.2.0.ran in
          gate_plays (λ A. entered) (λ A. entered_in_steps) (calls_play parts_play) p (λ later x y. Unit {0}) old new
          past (handed_one d.0) (at_both k 0) it.given answer acts behind it.told is it.ran did begins come
          (both_words past d.0 Nothing k 0 (word_later h past since.0 come.begins w k d.0 d.1 so) refl)
          (apt d.0 old.frames f);
    }

  -- A REGION IS OPENED over what a word says
  module _ (p : Program 0 object) (w : ℕ) where
    abbrev pub opening : Deed ℕ
    opening old answer new =
        (b : Word) × IsReadAs w b × within_by (λ c. 1) (λ c last t s. opened_by p c last t s b) old answer new

    pub opening_did : HasDid r t opening
    opening_did old new answer is d = (d.2.ran.acts, d.2.ran.did)

    pub opening_refused : (old new : ThreadState) (e : Fault) → IsPass r.config r.last t old.pass
        → opening old (Err e) new → new.frames ≡ old.frames
    opening_refused old new e is d = (safe (lawful old.pass.config old.pass.last old.pass.thread (state new.pass.seen)
        (opens (handed_one d.0) p))).frames old.frames new.frames d.2.ran.acts e d.2.ran.is

    pub opening_plays : {h : History} {F : Frames → Type 0} (k : ℕ) → HandleIs h w k
        → ((b : Word) (f : Frames) → F f → IsApt r.last f (handed_one b) p)
        → DeedPlays r t h F LevelIs opening
        (opened_in_steps (λ from. program_steps r.config from (at_both k 0) p none_known 0))
    opening_plays {h} {F} k so apt = record {
      plays = λ old new past answer acts behind is d did begins come since f.
          gate_plays (λ A. opened) (λ A. opened_in_steps) (opened_calls_play parts_play) p LevelIs old new past
          (handed_one d.0) (at_both k 0) answer answer acts behind (level_so answer) is d.2.ran did begins come
          (both_words past d.0 Nothing k 0 (word_later h past since.0 come.begins w k d.0 d.1 so) refl)
          (apt d.0 old.frames f);
    }

    -- .. and then the thread is within
    pub opening_within : (old new : ThreadState) (o : ℕ) → IsPass r.config r.last t old.pass
        → opening old (Ok o) new → (state new.pass.seen).role t ≡ Within
    opening_within old new o is d = go d.2.ran.is
      where
        work : Call ℕ
        work = work_of old.pass.config old.pass.last old.pass.thread (state new.pass.seen) (handed_one d.0) p

        go : opened work old.frames d.2.ran.acts (Ok o) new.frames → (state new.pass.seen).role t ≡ Within
        go (inl barred) = absurd (let bad = barred.1 in cc)
        go (inr (acts, (all, ran))) = subst (λ u. (state new.pass.seen).role u ≡ Within) is.thread
            (entered_within old.pass new.pass acts (subst (Did old.pass new.pass) all d.2.ran.did)
            (program_stays old.pass.config old.pass.last old.pass.thread (state new.pass.seen) (handed_one d.0) p
            none_known 0 old.frames new.frames acts (Ok o) ran))
