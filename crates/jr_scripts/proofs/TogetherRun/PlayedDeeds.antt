-- The passes of a thread go on, and it comes to later moments. Deeds that are played are put together: answers with no
-- event, one deed and then another, and tries.
use Rattle.std.proofs.Common.{◌≡◌, ◌++◌, inl, inr, zero, suc, ℕ, cond, true, List, [], map, Result, Ok, Err}
use Rattle.std.proofs.Common.{refl, sym, ap, subst, ◌∙◌, append-nil}
use mathlib.Core.List.{IsPrefix}
use Rattle.jr_word.specs.declared.config.Config.{Config}
use Rattle.jr_word.specs.declared.fault.Fault.{Fault}
use Rattle.jr_word.specs.declared.fault.Fault.TheVariants.{Barred, Moved, Raced, Turns}
use Rattle.jr_model.specs.declared.event.Act.{Act}
use Rattle.jr_model.specs.Frames.{Frames}
use Rattle.jr_model.specs.History.{Did, History, IsLegal, PassView, mine}
use Rattle.jr_model.proofs.Moments.{prefix_self, prefix_trans}
use Rattle.jr_model.proofs.Stays.{append_cancel, did_nothing, did_then}
use Rattle.jr_gate.specs.Performing.{ThreadState}
use Rattle.jr_env.specs.Deeds.{Deed, answered_by, decided, ◌>>=◌}
use Rattle.jr_env.specs.Tries.{is_tried_again}
use Rattle.jr_world.specs.Doing.{Doing, unless_refused, whatever}
use Rattle.jr_world.specs.Doing.Doing.{ended}
use Rattle.jr_world.specs.Plays.{Plays}
use Rattle.jr_world.specs.Plays.Plays.{has_ended}
use Rattle.jr_world.specs.Playing.{HasComeTo, SameFault}
use Rattle.jr_world.proofs.Joining.{joined_later, weakened}
use Rattle.jr_world.proofs.ProgramPlays.{map_append}
use Rattle.one_order.specs.Orders.{Item}
use Rattle.one_order.specs.Orders.Item.{does as acting}
use Rattle.jr_scripts.specs.Tries.{Tried, answered, again, gave_up}
use Rattle.jr_scripts.specs.Together.{in_reply, tried_in_steps}
use Rattle.jr_scripts.specs.declared.reply.Reply.{Reply}
use Rattle.jr_scripts.specs.Commands.{awaited}
use Rattle.jr_scripts.proofs.TogetherRun.Moments.{AnswerSo, DeedPlays, EndsSo, HasDid, IsPass, ReplyIs, Room, Since}

-- what a thread did between two moments is one list of acts
pub one_did : {old new : PassView} (xs ys : List Act) → Did old new xs → Did old new ys → xs ≡ ys
one_did {old = old} xs ys first second =
    append_cancel (mine old.seen old.thread) xs ys (sym first.own ∙ second.own)

-- one refusal is worth another try where the other is
same_worth : (A B : Type 0) (e d : Fault) → SameFault e d
    → is_tried_again {A = A} (Err e) ≡ is_tried_again {A = B} (Err d)
same_worth A B e d same = go e d same
  where
    itself : (x : Fault) → is_tried_again {A = A} (Err x) ≡ is_tried_again {A = B} (Err x)
    itself (Raced looked found) = refl
    itself Barred = refl
    itself (Moved looked found) = refl
    itself _ = refl

    go : (x y : Fault) → SameFault x y → is_tried_again {A = A} (Err x) ≡ is_tried_again {A = B} (Err y)
    go (Raced looked found) (Raced noted now) alike = refl
    go (Moved looked found) (Moved noted now) alike = refl
    go x y alike = itself x ∙ ap (λ (z : Fault). is_tried_again {A = B} (Err z)) alike

-- .. and so is one answer where the other is
answer_worth : {A B : Type 0} (V : History → A → B → Type 0) (h : History) (x : Result A Fault) (y : Result B Fault)
    → AnswerSo V h x y → is_tried_again x ≡ is_tried_again y
answer_worth V h (Ok x) (Ok y) so = refl
answer_worth {A} {B} V h (Err e) (Err d) so = same_worth A B e d so
answer_worth V h _ _ so = absurd so

-- A PASS of a thread, and where the thread has come by what it did
module _ {c : Config} {last t : ℕ} where
  -- later on, the pass is still the thread's
  pub pass_later : {old new : PassView} (acts : List Act) → Did old new acts → IsPass c last t old → IsPass c last t new
  pass_later {old} {new} acts did is = record {
    config = did.config ∙ is.config;
    last_is = did.last ∙ is.last_is;
    thread = did.thread ∙ is.thread;
    legal = subst (λ c. IsLegal c last new.seen) is.config
        (subst (λ l. IsLegal old.config l new.seen) is.last_is did.legal);
  }

  -- it has seen a legal history
  pub pass_legal : (p : PassView) → IsPass c last t p → IsLegal p.config p.last p.seen
  pass_legal p is = subst (λ c. IsLegal c p.last p.seen) (sym is.config)
      (subst (λ l. IsLegal c l p.seen) (sym is.last_is) is.legal)

  pub nothing_did : (old new : ThreadState) → IsPass c last t old.pass → new ≡ old → Did old.pass new.pass []
  nothing_did old new is same = subst (λ (m : ThreadState). Did old.pass m.pass []) (sym same)
      (did_nothing old.pass (pass_legal old.pass is))

  -- a wait does nothing
  pub awaited_did : (old new : ThreadState) (answer : Result Reply Fault) → IsPass c last t old.pass
      → awaited old answer new → Did old.pass new.pass []
  awaited_did old new answer is (inl (w, found, learned)) = learned.did
  awaited_did old new answer is (inr (none, same)) = nothing_did old new is same

  -- the thread's own acts, by its number
  pub own_acts : {old new : PassView} (acts : List Act) → IsPass c last t old → Did old new acts
      → mine new.seen t ≡ mine old.seen t ++ acts
  own_acts {old} {new} acts is did = subst (λ u. mine new.seen u ≡ mine old.seen u ++ acts) is.thread did.own

  -- where it has come, it did as much as its pass has seen
  pub own_come : {whole : History} (pass : PassView) (past : History) → IsPass c last t pass
      → HasComeTo whole pass past → mine past t ≡ mine pass.seen t
  own_come pass past is come = subst (λ u. mine past u ≡ mine pass.seen u) is.thread come.own

  -- .. and from there to where it has come later, what it did since
  pub own_since : {whole : History} {old new : PassView} (acts : List Act) (past later : History) → IsPass c last t old
      → Did old new acts → HasComeTo whole old past → HasComeTo whole new later → mine later t ≡ mine past t ++ acts
  own_since {old = old} {new = new} acts past later is did come come' =
      own_come new later (pass_later acts did is) come'
      ∙ (own_acts acts is did ∙ ap (λ l. l ++ acts) (sym (own_come old past is come)))

  -- .. so it has come there, where it did so much more
  pub come_later : {whole : History} (old new : PassView) (acts : List Act) (past later : History) → IsPass c last t old
      → Did old new acts → HasComeTo whole old past → IsPrefix later whole → mine later t ≡ mine past t ++ acts
      → HasComeTo whole new later
  come_later old new acts past later is did come begins own = record {
    begins = begins;
    own = subst (λ u. mine later u ≡ mine new.seen u) (sym (did.thread ∙ is.thread))
        (own ∙ ap (λ l. l ++ acts) (own_come old past is come) ∙ sym (own_acts acts is did));
  }

module _ (r : Room) (t : ℕ) where
  pub decided_did : {A : Type 0} (x : Result A Fault) → HasDid r t (decided x)
  decided_did x old new answer is d = ([], nothing_did old new is d.1)

  -- .. so the program has ended, with what is so of the answer
  ended_plays : {A B : Type 0} (V : History → A → B → Type 0) (old new : ThreadState) (past : History)
      (answer : Result A Fault) (y : Result B Fault) (acts : List Act) (behind : List (Item Act))
      → IsPass r.config r.last t old.pass → new ≡ old → Did old.pass new.pass acts → HasComeTo r.whole old.pass past
      → AnswerSo V past answer y
      → Plays r.config r.whole t (EndsSo r t V new answer) new.frames behind (ended y) past old.frames (map acting acts)
  ended_plays V old new past answer y acts behind is same did come so =
      subst (λ l. Plays r.config r.whole t (EndsSo r t V new answer) new.frames behind (ended y) past old.frames
      (map acting l)) (sym nothing)
      (subst (λ f. Plays r.config r.whole t (EndsSo r t V new answer) new.frames behind (ended y) past f [])
      (ap (λ (m : ThreadState). m.frames) same)
      (has_ended y (subst (λ (m : ThreadState). HasComeTo r.whole m.pass past) (sym same) come, so)))
    where
      nothing : acts ≡ []
      nothing = one_did acts [] did (nothing_did old new is same)

  pub decided_plays : {A B : Type 0} {h : History} {F : Frames → Type 0} {V : History → A → B → Type 0}
      (x : Result A Fault) (y : Result B Fault) → ((later : History) → IsPrefix h later → AnswerSo V later x y)
      → DeedPlays r t h F V (decided x) (ended y)
  decided_plays {V = V} x y so = record {
    plays = λ old new past answer acts behind is d did begins come since f.
        ended_plays V old new past answer y acts behind is d.1 did come
        (subst (λ a. AnswerSo V past a y) (sym d.0) (so past since.0));
  }

  -- ONE DEED AND THEN ANOTHER
  pub bind_did : {A B : Type 0} {first : Deed A} {next : A → Deed B} → HasDid r t first
      → ((x : A) → HasDid r t (next x)) → HasDid r t (first >>= next)
  bind_did does_first does_next old new answer is (inl d) =
      let front = does_first old d.1 (Ok d.0) is d.2 in
      let rest = does_next d.0 d.1 new answer (pass_later front.0 front.1 is) d.3 in
      (front.0 ++ rest.0, did_then front.0 rest.0 front.1 rest.1)
  bind_did does_first does_next old new answer is (inr d) = does_first old new (Err d.0) is d.2

  -- a refusal, and nothing behind it
  refused_plays : {A B A' B' : Type 0} (V : History → A → A' → Type 0) (U : History → B → B' → Type 0)
      (old new : ThreadState) (past : History) (e : Fault) (acts : List Act) (behind : List (Item Act))
      (d : Doing A') (next : A' → Doing B')
      → Plays r.config r.whole t (EndsSo r t V new (Err e)) new.frames behind d past old.frames (map acting acts)
      → Plays r.config r.whole t (EndsSo r t U new (Err e)) new.frames behind (whatever d (unless_refused next)) past
      old.frames (map acting acts)
  refused_plays {A' = A'} V U old new past e acts behind d next plays =
      subst (λ l. Plays r.config r.whole t (EndsSo r t U new (Err e)) new.frames behind
      (whatever d (unless_refused next)) past old.frames l) (append-nil (map acting acts))
      (joined_later r.config r.whole t (EndsSo r t V new (Err e)) (EndsSo r t U new (Err e)) new.frames new.frames
      (unless_refused next) [] behind d past old.frames (map acting acts) plays ends)
    where
      ends : (later : History) (y : Result A' Fault) → IsPrefix past later → EndsSo r t V new (Err e) later y
          → Plays r.config r.whole t (EndsSo r t U new (Err e)) new.frames behind (unless_refused next y) later
          new.frames []
      ends later (Ok y) begins so = absurd so.1
      ends later (Err d) begins so = has_ended (Err d) so

  -- an answer, and what comes behind it
  answered_plays : {A A' B' : Type 0} (V : History → A → A' → Type 0) (U : History → Result B' Fault → Type 0)
      (old mid new : ThreadState) (past : History) (x : A) (xs ys : List Act) (behind : List (Item Act))
      (d : Doing A') (next : A' → Doing B')
      → Plays r.config r.whole t (EndsSo r t V mid (Ok x)) mid.frames (map acting ys ++ behind) d past old.frames
      (map acting xs)
      → ((later : History) (y : A') → IsPrefix past later → HasComeTo r.whole mid.pass later → V later x y
      → Plays r.config r.whole t U new.frames behind (next y) later mid.frames (map acting ys))
      → Plays r.config r.whole t U new.frames behind (whatever d (unless_refused next)) past old.frames
      (map acting (xs ++ ys))
  answered_plays {A' = A'} V U old mid new past x xs ys behind d next plays follows =
      subst (λ l. Plays r.config r.whole t U new.frames behind (whatever d (unless_refused next)) past old.frames l)
      (sym (map_append acting xs ys))
      (joined_later r.config r.whole t (EndsSo r t V mid (Ok x)) U mid.frames new.frames (unless_refused next)
      (map acting ys) behind d past old.frames (map acting xs) plays ends)
    where
      ends : (later : History) (y : Result A' Fault) → IsPrefix past later → EndsSo r t V mid (Ok x) later y
          → Plays r.config r.whole t U new.frames behind (unless_refused next y) later mid.frames (map acting ys)
      ends later (Ok y) begins so = follows later y begins so.0 so.1
      ends later (Err d) begins so = absurd so.1

  pub bind_plays : {A B A' B' : Type 0} {h : History} {F F' : Frames → Type 0} {V : History → A → A' → Type 0}
      {U : History → B → B' → Type 0} {first : Deed A} {first' : Doing A'} {next : A → Deed B} {next' : A' → Doing B'}
      → HasDid r t first → ((x : A) → HasDid r t (next x)) → DeedPlays r t h F V first first'
      → ((old mid : ThreadState) (x : A) → IsPass r.config r.last t old.pass → first old (Ok x) mid → F old.frames
      → F' mid.frames)
      → ((old mid : ThreadState) (x : A) (y : A') (acts : List Act) (later : History)
      → IsPass r.config r.last t old.pass → first old (Ok x) mid → Did old.pass mid.pass acts
      → IsPrefix mid.pass.seen r.whole → IsPrefix later r.whole → IsPrefix h later → mine later t ≡ mine h t ++ acts
      → V later x y → DeedPlays r t later F' U (next x) (next' y))
      → DeedPlays r t h F U (first >>= next) (whatever first' (unless_refused next'))
  bind_plays {B = B} {h = h} {F = F} {V = V} {U = U} {first = first} {first' = first'} {next = next} {next' = next'}
      does_first does_next it held follows = record { plays = plays }
    where
      plays : (old new : ThreadState) (past : History) (answer : Result B Fault) (acts : List Act)
          (behind : List (Item Act)) → IsPass r.config r.last t old.pass → (first >>= next) old answer new
          → Did old.pass new.pass acts → IsPrefix new.pass.seen r.whole → HasComeTo r.whole old.pass past
          → Since r t h past → F old.frames
          → Plays r.config r.whole t (EndsSo r t U new answer) new.frames behind
          (whatever first' (unless_refused next')) past old.frames (map acting acts)
      plays old new past answer acts behind is (inl (x, mid, did_first, did_next)) did begins come since f =
          let front = does_first old mid (Ok x) is did_first in
          let is_mid = pass_later front.0 front.1 is in
          let rest = does_next x mid new answer is_mid did_next in
          let all : front.0 ++ rest.0 ≡ acts =
          one_did (front.0 ++ rest.0) acts (did_then front.0 rest.0 front.1 rest.1) did in
          let mid_begins = prefix_trans mid.pass.seen new.pass.seen r.whole (rest.1).begins begins in
          subst (λ l. Plays r.config r.whole t (EndsSo r t U new answer) new.frames behind
          (whatever first' (unless_refused next')) past old.frames (map acting l)) all
          (answered_plays V (EndsSo r t U new answer) old mid new past x front.0 rest.0 behind first' next'
          (it.plays old mid past (Ok x) front.0 (map acting rest.0 ++ behind) is did_first front.1 mid_begins come
          since f)
          (λ later y later_begins come' so. (follows old mid x y front.0 later is did_first front.1 mid_begins
          come'.begins (prefix_trans h past later since.0 later_begins)
          (own_since front.0 past later is front.1 come come' ∙ ap (λ l. l ++ front.0) since.1) so).plays mid new later
          answer rest.0 behind is_mid did_next rest.1 begins come' (prefix_self later, refl)
          (held old mid x is did_first f)))
      plays old new past answer acts behind is (inr (e, refused, did_first)) did begins come since f =
          subst (λ z. Plays r.config r.whole t (EndsSo r t U new z) new.frames behind
          (whatever first' (unless_refused next')) past old.frames (map acting acts)) (sym refused)
          (refused_plays V U old new past e acts behind first' next'
          (it.plays old new past (Err e) acts behind is did_first did begins come since f))

  -- AN ANSWER IN ANOTHER FORM
  pub formed_did : {A B : Type 0} (form : A → B) {deed : Deed A} → HasDid r t deed → HasDid r t (answered_by form deed)
  formed_did form does_so = bind_did does_so (λ x. decided_did (Ok (form x)))

  -- .. of the deed alone
  pub told_plays : {A B C : Type 0} {h : History} {F : Frames → Type 0} {V : History → A → C → Type 0}
      {U : History → B → C → Type 0} {deed : Deed A} {d : Doing C} (form : A → B) → HasDid r t deed
      → ((later : History) (x : A) (y : C) → V later x y → U later (form x) y) → DeedPlays r t h F V deed d
      → DeedPlays r t h F U (answered_by form deed) d
  told_plays {B = B} {C = C} {h = h} {F = F} {V = V} {U = U} {deed = deed} {d = d} form does_so so_too it =
      record { plays = plays }
    where
      plays : (old new : ThreadState) (past : History) (answer : Result B Fault) (acts : List Act)
          (behind : List (Item Act)) → IsPass r.config r.last t old.pass → answered_by form deed old answer new
          → Did old.pass new.pass acts → IsPrefix new.pass.seen r.whole → HasComeTo r.whole old.pass past
          → Since r t h past → F old.frames
          → Plays r.config r.whole t (EndsSo r t U new answer) new.frames behind d past old.frames (map acting acts)
      plays old new past answer acts behind is (inl (x, mid, did_so, (told, same))) did begins come since f =
          subst (λ z. Plays r.config r.whole t (EndsSo r t U new z) new.frames behind d past old.frames
          (map acting acts)) (sym told)
          (weakened r.config r.whole t (EndsSo r t V new (Ok x)) (EndsSo r t U new (Ok (form x))) new.frames behind past
          answered_too (prefix_self past)
          (it.plays old new past (Ok x) acts behind is (subst (deed old (Ok x)) (sym same) did_so) did begins come since
          f))
        where
          answered_too : (later : History) (y : Result C Fault) → IsPrefix past later → EndsSo r t V new (Ok x) later y
              → EndsSo r t U new (Ok (form x)) later y
          answered_too later (Ok y) later_begins (come', so) = (come', so_too later x y so)
          answered_too later (Err e) later_begins (come', so) = absurd so
      plays old new past answer acts behind is (inr (e, refused, did_so)) did begins come since f =
          subst (λ z. Plays r.config r.whole t (EndsSo r t U new z) new.frames behind d past old.frames
          (map acting acts)) (sym refused)
          (weakened r.config r.whole t (EndsSo r t V new (Err e)) (EndsSo r t U new (Err e)) new.frames behind past
          refused_too (prefix_self past) (it.plays old new past (Err e) acts behind is did_so did begins come since f))
        where
          refused_too : (later : History) (y : Result C Fault) → IsPrefix past later → EndsSo r t V new (Err e) later y
              → EndsSo r t U new (Err e) later y
          refused_too later (Ok y) later_begins (come', so) = absurd so
          refused_too later (Err e) later_begins (come', so) = (come', so)

  -- .. and of its program too
  pub replied_plays : {A A' : Type 0} {h : History} {F : Frames → Type 0} {V : History → A → A' → Type 0}
      {deed : Deed A} {d : Doing A'} (form : A → Reply) (form' : A' → Reply) → HasDid r t deed
      → ((later : History) (x : A) (y : A') → V later x y → ReplyIs later (form x) (form' y))
      → DeedPlays r t h F V deed d → DeedPlays r t h F ReplyIs (answered_by form deed) (in_reply form' d)
  replied_plays {h = h} {F = F} {V = V} {deed = deed} {d = d} form form' does_so so_too it = record { plays = plays }
    where
      plays : (old new : ThreadState) (past : History) (answer : Result Reply Fault) (acts : List Act)
          (behind : List (Item Act)) → IsPass r.config r.last t old.pass → answered_by form deed old answer new
          → Did old.pass new.pass acts → IsPrefix new.pass.seen r.whole → HasComeTo r.whole old.pass past
          → Since r t h past → F old.frames
          → Plays r.config r.whole t (EndsSo r t ReplyIs new answer) new.frames behind (in_reply form' d) past
          old.frames (map acting acts)
      plays old new past answer acts behind is (inl (x, mid, did_so, (told, same))) did begins come since f =
          subst (λ z. Plays r.config r.whole t (EndsSo r t ReplyIs new z) new.frames behind (in_reply form' d) past
          old.frames (map acting acts)) (sym told)
          (subst (λ l. Plays r.config r.whole t (EndsSo r t ReplyIs new (Ok (form x))) new.frames behind
          (in_reply form' d) past old.frames (map acting l)) (append-nil acts)
          (answered_plays V (EndsSo r t ReplyIs new (Ok (form x))) old new new past x acts [] behind d
          (λ y. ended (Ok (form' y)))
          (it.plays old new past (Ok x) acts behind is (subst (deed old (Ok x)) (sym same) did_so) did begins come since
          f)
          (λ later y later_begins come' so. has_ended (Ok (form' y)) (come', so_too later x y so))))
      plays old new past answer acts behind is (inr (e, refused, did_so)) did begins come since f =
          subst (λ z. Plays r.config r.whole t (EndsSo r t ReplyIs new z) new.frames behind (in_reply form' d) past
          old.frames (map acting acts)) (sym refused)
          (refused_plays V ReplyIs old new past e acts behind d (λ y. ended (Ok (form' y)))
          (it.plays old new past (Err e) acts behind is did_so did begins come since f))

  -- A DEED OF WHICH MORE IS TOLD
  pub more_plays : {A B : Type 0} {h : History} {F : Frames → Type 0} {V : History → A → B → Type 0}
      {deed more : Deed A} {d : Doing B}
      → ((old new : ThreadState) (answer : Result A Fault) → more old answer new → deed old answer new)
      → DeedPlays r t h F V deed d → DeedPlays r t h F V more d
  more_plays less it = record {
    plays = λ old new past answer acts behind is d. it.plays old new past answer acts behind is (less old new answer d);
  }

  -- A CALL THAT IS MADE AGAIN: no refusal changes the frames
  pub tried_did : {A : Type 0} {one : Deed A} (turns : ℕ) → HasDid r t one → HasDid r t (Tried one turns)
  tried_did (suc n) does_one old new answer is (answered d final) = does_one old new answer is d
  tried_did (suc n) does_one old new answer is (again {mid = mid} {once = once} d more rest) =
      let front = does_one old mid once is d in
      let back = tried_did n does_one mid new answer (pass_later front.0 front.1 is) rest in
      (front.0 ++ back.0, did_then front.0 back.0 front.1 back.1)
  tried_did zero does_one old new answer is gave_up = ([], nothing_did old old is refl)

  pub tried_plays : {A B : Type 0} {h : History} {F : Frames → Type 0} {V : History → A → B → Type 0} {one : Deed A}
      {one' : Doing B} (turns : ℕ) → HasDid r t one
      → ((old new : ThreadState) (e : Fault) → IsPass r.config r.last t old.pass → one old (Err e) new
      → new.frames ≡ old.frames)
      → ((later : History) → IsPrefix h later → DeedPlays r t later F V one one')
      → DeedPlays r t h F V (Tried one turns) (tried_in_steps turns one')
  tried_plays {A = A} {B = B} {h = h} {F = F} {V = V} {one = one} {one' = one'} turns does_one refused it =
      record { plays = λ old new past answer acts behind. tries_play turns h it old new past answer acts behind }
    where
      -- the program of so many tries is played so
      Tries : ℕ → ThreadState → ThreadState → History → Result A Fault → List (Item Act) → List Act → Type 0
      Tries n old new past answer behind acts = Plays r.config r.whole t (EndsSo r t V new answer) new.frames behind
          (tried_in_steps n one') past old.frames (map acting acts)

      same_after : (old mid : ThreadState) (once : Result A Fault) → IsPass r.config r.last t old.pass
          → one old once mid → is_tried_again once ≡ true → mid.frames ≡ old.frames
      same_after old mid (Ok x) is d more = absurd cc
      same_after old mid (Err e) is d more = refused old mid e is d

      -- one try, and what comes behind it
      once_plays : (n : ℕ) (from past : History) (old mid new : ThreadState) (once answer : Result A Fault)
          (xs ys : List Act) (behind : List (Item Act)) → DeedPlays r t from F V one one'
          → IsPass r.config r.last t old.pass → one old once mid → Did old.pass mid.pass xs
          → IsPrefix mid.pass.seen r.whole → HasComeTo r.whole old.pass past → Since r t from past → F old.frames
          → ((later : History) (y : Result B Fault) → IsPrefix past later → EndsSo r t V mid once later y
          → Plays r.config r.whole t (EndsSo r t V new answer) new.frames behind
          (cond (is_tried_again once) (tried_in_steps n one') (ended y)) later mid.frames (map acting ys))
          → Tries (suc n) old new past answer behind (xs ++ ys)
      once_plays n from past old mid new once answer xs ys behind each is d did begins come since f follows =
          subst (λ l. Plays r.config r.whole t (EndsSo r t V new answer) new.frames behind
          (tried_in_steps (suc n) one') past old.frames l) (sym (map_append acting xs ys))
          (joined_later r.config r.whole t (EndsSo r t V mid once) (EndsSo r t V new answer) mid.frames new.frames
          (λ y. cond (is_tried_again y) (tried_in_steps n one') (ended y)) (map acting ys) behind one' past old.frames
          (map acting xs) (each.plays old mid past once xs (map acting ys ++ behind) is d did begins come since f)
          (λ later y later_begins so. subst (λ b. Plays r.config r.whole t (EndsSo r t V new answer) new.frames behind
          (cond b (tried_in_steps n one') (ended y)) later mid.frames (map acting ys))
          (answer_worth V later once y so.1) (follows later y later_begins so)))

      tries_play : (n : ℕ) (from : History)
          → ((later : History) → IsPrefix from later → DeedPlays r t later F V one one')
          → (old new : ThreadState) (past : History) (answer : Result A Fault) (acts : List Act)
          (behind : List (Item Act)) → IsPass r.config r.last t old.pass → Tried one n old answer new
          → Did old.pass new.pass acts → IsPrefix new.pass.seen r.whole → HasComeTo r.whole old.pass past
          → Since r t from past → F old.frames → Tries n old new past answer behind acts
      tries_play (suc n) from each old new past answer acts behind is (answered d final) did begins come since f =
          subst (Tries (suc n) old new past answer behind) (append-nil acts)
          (once_plays n from past old new new answer answer acts [] behind (each from (prefix_self from)) is d did
          begins come since f
          (λ later y later_begins so. subst (λ b. Plays r.config r.whole t (EndsSo r t V new answer) new.frames behind
          (cond b (tried_in_steps n one') (ended y)) later new.frames []) (sym final) (has_ended y so)))
      tries_play (suc n) from each old new past answer acts behind is (again {mid = mid} {once = once} d more rest) did
          begins come since f =
          let front = does_one old mid once is d in
          let is_mid = pass_later front.0 front.1 is in
          let back = tried_did n does_one mid new answer is_mid rest in
          let all : front.0 ++ back.0 ≡ acts =
          one_did (front.0 ++ back.0) acts (did_then front.0 back.0 front.1 back.1) did in
          let mid_begins = prefix_trans mid.pass.seen new.pass.seen r.whole (back.1).begins begins in
          subst (Tries (suc n) old new past answer behind) all
          (once_plays n from past old mid new once answer front.0 back.0 behind (each from (prefix_self from)) is d
          front.1 mid_begins come since f
          (λ later y later_begins so. subst (λ b. Plays r.config r.whole t (EndsSo r t V new answer) new.frames behind
          (cond b (tried_in_steps n one') (ended y)) later mid.frames (map acting back.0)) (sym more)
          (tries_play n later (λ later' goes. each later' (prefix_trans from later later'
          (prefix_trans from past later since.0 later_begins) goes)) mid new later answer back.0 behind is_mid rest
          back.1 begins so.0 (prefix_self later, refl) (subst F (sym (same_after old mid once is d more)) f))))
      tries_play zero from each old new past answer acts behind is gave_up did begins come since f =
          ended_plays V old old past (Err Turns) (Err Turns) acts behind is refl did come refl
