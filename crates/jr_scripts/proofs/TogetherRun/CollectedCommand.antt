-- THE COMMAND THAT COLLECTS AT ONE TRY is played, and what it does are acts of its thread.
use Rattle.std.proofs.Common.{◌≡◌, ◌<◌, ◌++◌, ◌==◌, ℕ, Bool, true, false, cond, Result, Ok, Err, List}
use Rattle.std.proofs.Common.{[], ◌∷◌, length, map, inl, inr, refl, sym, ap, subst, ◌∙◌, arith, append_assoc}
use Rattle.std.proofs.Common.{append-nil}
use Rattle.std.proofs.lemmas.List.{length-append}
use mathlib.Core.List.{IsPrefix}
use Rattle.jr_word.specs.declared.fault.Fault.{Fault}
use Rattle.jr_word.specs.declared.fault.Fault.TheVariants.{Busy}
use Rattle.jr_model.specs.declared.event.Act.{Act}
use Rattle.jr_model.specs.declared.event.Act.TheVariants.{Gate, ShutBusy}
use Rattle.jr_model.specs.declared.event.Event.{Event}
use Rattle.jr_model.specs.declared.event.GateAct.TheVariants.{Reopen, Shut}
use Rattle.jr_model.specs.CollectionCalls.{Collects, IsWhole, collection_acts, sweeping_acts}
use Rattle.jr_model.specs.Frames.{Frames}
use Rattle.jr_model.specs.History.{Did, History, PassView, by, mine, state}
use Rattle.jr_model.specs.Parts.{collect}
use Rattle.jr_model.specs.State.{Handle}
use Rattle.jr_model.proofs.Histories.{mine_append, mine_push}
use Rattle.jr_model.proofs.Stays.{append_cancel}
use Rattle.jr_model.proofs.Updates.{eq_self}
use Rattle.jr_gate.specs.Performing.{ThreadState}
use Rattle.jr_weak.specs.declared.collecting.Collected.{Collected}
use Rattle.jr_env.specs.Collections.{IsCollected, IsKeptOut}
use Rattle.jr_world.specs.Doing.{Doing, by_step, unless_refused, whatever}
use Rattle.jr_world.specs.Doing.Doing.{ended}
use Rattle.jr_world.specs.Plays.{Plays}
use Rattle.jr_world.specs.Plays.Plays.{has_ended}
use Rattle.jr_world.specs.Playing.{HasComeTo}
use Rattle.one_order.specs.Orders.{Item}
use Rattle.one_order.specs.Orders.Item.{does as acting}
use Rattle.jr_scripts.specs.declared.reply.Reply.{Reply}
use Rattle.jr_scripts.specs.declared.reply.Reply.TheVariants as replies
use Rattle.jr_scripts.specs.Commands.{collecting, told}
use Rattle.jr_scripts.specs.Together.{collected_in_steps, sweeps_out}
use Rattle.jr_scripts.proofs.TogetherRun.Moments.{DeedPlays, EndsSo, HasDid, IsPass, ReplyIs, Room, Since}
use Rattle.jr_scripts.proofs.TogetherRun.Moments.ReplyIs.{the_same}
use Rattle.jr_scripts.proofs.TogetherRun.PlayedDeeds.{come_later, one_did, own_come}
use Rattle.jr_scripts.proofs.TogetherRun.CollectionPlays.{collected_plays, kept_plays, others_own}

-- ONE PLACE in a history: a thread has done as much before it

same_rest : (d : Bool) (a : Act) (xs ys : List Act) → cond d (a ∷ xs) xs ≡ cond d (a ∷ ys) ys → xs ≡ ys
same_rest true a xs ys is = cc
same_rest false a xs ys is = is

-- an act of the thread is none of no acts
some_own : (t : ℕ) (e : Event) (a : Act) (es : History) → e ≡ by t a → mine (e ∷ es) t ≡ [] → ⊥
some_own t e a es is none =
    let bad : e.act ∷ mine es t ≡ [] = sym (ap (λ d. cond d (e.act ∷ mine es t) (mine es t))
    (ap (λ (f : Event). f.thread == t) is ∙ eq_self t)) ∙ none in
    absurd cc

pub same_place : (t : ℕ) (a b : Act) (xs ys zs ws : History) → xs ++ by t a ∷ ys ≡ zs ++ by t b ∷ ws
    → mine xs t ≡ mine zs t → xs ≡ zs
same_place t a b [] ys [] ws is own = refl
same_place t a b [] ys (z ∷ zs) ws is own = absurd (let same : z ≡ by t a = cc in some_own t z a zs same (sym own))
same_place t a b (x ∷ xs) ys [] ws is own = absurd (let same : x ≡ by t b = cc in some_own t x b xs same own)
same_place t a b (x ∷ xs) ys (z ∷ zs) ws is own =
    let head : x ≡ z = cc in
    let tail : xs ++ by t a ∷ ys ≡ zs ++ by t b ∷ ws = cc in
    ap (λ e. e ∷ xs) head ∙ ap (λ es. z ∷ es) (same_place t a b xs ys zs ws tail
    (same_rest (x.thread == t) x.act (mine xs t) (mine zs t) (own ∙ sym (ap (λ e. mine (e ∷ zs) t) head))))

-- nothing comes before, where all is as long without it
none_before : (a b : Act) (front xs back : List Act) → front ++ a ∷ (xs ++ b ∷ back) ≡ a ∷ (xs ++ b ∷ []) → front ≡ []
none_before a b [] xs back is = refl
none_before a b (x ∷ front) xs back is =
    let all = ap length is in
    let first = length-append (x ∷ front) (a ∷ (xs ++ b ∷ back)) in
    let second = length-append xs (b ∷ back) in
    let third = length-append xs (b ∷ []) in
    absurd (omega (arith, all, first, second, third))

module _ (whole : History) (old new : PassView) (cleared : List Handle) (dropped : List ℕ) (used : ℕ)
    (collects : Collects old new cleared dropped used) where
  abbrev u : ℕ
  u = old.thread

  abbrev after : History
  after = collects.place.inside ++ by u (Gate Reopen) ∷ collects.place.rest

  parts_are : new.seen ≡ collects.place.before ++ by u (Gate Shut) ∷ after
  parts_are = collects.place.parts ∙ append_assoc collects.place.before (by u (Gate Shut) ∷ collects.place.inside)
      (by u (Gate Reopen) ∷ collects.place.rest)

  -- what the thread did from its shut on
  own_after : mine (by u (Gate Shut) ∷ after) u
      ≡ Gate Shut ∷ (sweeping_acts cleared dropped used ++ Gate Reopen ∷ mine collects.place.rest u)
  own_after = ap (λ d. cond d (Gate Shut ∷ mine after u) (mine after u)) (eq_self u)
      ∙ ap (λ acts. Gate Shut ∷ acts)
      (mine_append collects.place.inside (by u (Gate Reopen) ∷ collects.place.rest) u
      ∙ (ap (λ acts. acts ++ mine (by u (Gate Reopen) ∷ collects.place.rest) u) collects.place.own
      ∙ ap (λ d. sweeping_acts cleared dropped used
      ++ cond d (Gate Reopen ∷ mine collects.place.rest u) (mine collects.place.rest u)) (eq_self u)))

  -- before its shut it did nothing more
  own_before : mine collects.place.before u ≡ mine old.seen u
  own_before =
      let since : History = collects.place.from.0 in
      let front : mine collects.place.before u ≡ mine old.seen u ++ mine since u =
      ap (λ h. mine h u) (sym collects.place.from.1) ∙ mine_append old.seen since u in
      let all : mine old.seen u ++ (mine since u
      ++ Gate Shut ∷ (sweeping_acts cleared dropped used ++ Gate Reopen ∷ mine collects.place.rest u))
      ≡ mine old.seen u ++ collection_acts cleared dropped used =
      sym (append_assoc (mine old.seen u) (mine since u)
      (Gate Shut ∷ (sweeping_acts cleared dropped used ++ Gate Reopen ∷ mine collects.place.rest u)))
      ∙ (ap (λ acts. acts ++ Gate Shut ∷ (sweeping_acts cleared dropped used
      ++ Gate Reopen ∷ mine collects.place.rest u)) (sym front)
      ∙ (ap (λ acts. mine collects.place.before u ++ acts) (sym own_after)
      ∙ (sym (mine_append collects.place.before (by u (Gate Shut) ∷ after) u)
      ∙ (ap (λ h. mine h u) (sym parts_are) ∙ collects.did.own)))) in
      front ∙ (ap (λ acts. mine old.seen u ++ acts)
      (none_before (Gate Shut) (Gate Reopen) (mine since u) (sweeping_acts cleared dropped used)
      (mine collects.place.rest u)
      (append_cancel (mine old.seen u) (mine since u ++ Gate Shut ∷ (sweeping_acts cleared dropped used
      ++ Gate Reopen ∷ mine collects.place.rest u)) (collection_acts cleared dropped used) all))
      ∙ append-nil (mine old.seen u))

  shut_there : IsPrefix new.seen whole → (before : History) → IsPrefix (before ++ by u (Gate Shut) ∷ []) whole
      → mine before u ≡ mine old.seen u → IsWhole (state before) cleared dropped
  shut_there begins before next own = subst (λ h. IsWhole (state h) cleared dropped)
      (same_place u (Gate Shut) (Gate Shut) collects.place.before (after ++ begins.0) before next.0
      (sym (append_assoc collects.place.before (by u (Gate Shut) ∷ after) begins.0)
      ∙ (ap (λ h. h ++ begins.0) (sym parts_are) ∙ (begins.1
      ∙ (sym next.1 ∙ append_assoc before (by u (Gate Shut) ∷ []) next.0))))
      (own_before ∙ sym own)) collects.whole

-- A COLLECTION LEFT NOTHING OUT where its shut is played: up to that moment of the whole history the thread has done as
-- much
pub shut_whole : (whole : History) (t : ℕ) (old new : PassView) (cleared : List Handle) (dropped : List ℕ) (used : ℕ)
    → Collects old new cleared dropped used → old.thread ≡ t → IsPrefix new.seen whole → (before : History)
    → IsPrefix (before ++ by t (Gate Shut) ∷ []) whole → mine before t ≡ mine old.seen t
    → IsWhole (state before) cleared dropped
shut_whole whole t old new cleared dropped used collects is begins before next own =
    shut_there whole old new cleared dropped used collects begins before
    (subst (λ u. IsPrefix (before ++ by u (Gate Shut) ∷ []) whole) (sym is) next)
    (subst (λ u. mine before u ≡ mine old.seen u) (sym is) own)

-- WHAT THE CALL DOES leaves the frames
keeps_frames : (f g : Frames) (acts : List Act) (answer : Result (ℕ × ℕ × ℕ) Fault) → collect f acts answer g → g ≡ f
keeps_frames f g acts answer (inl (cleared, dropped, used, did, is, same)) = same
keeps_frames f g acts answer (inr (inl (x, mid, front, rest, both, (n, one, is, same), (none, refused, after)))) =
    after ∙ same
keeps_frames f g acts answer (inr (inr (e, refused, (n, one, is, same)))) = same

-- .. and where it is kept out, it is this act
kept_act : (f g : Frames) (acts : List Act) (n : ℕ) → collect f acts (Err (Busy n)) g → acts ≡ ShutBusy n ∷ []
kept_act f g acts n (inl (cleared, dropped, used, did, is, same)) = absurd cc
kept_act f g acts n (inr (inl (x, mid, front, rest, both, (m, one, is, same), (none, refused, after)))) =
    both ∙ (ap (λ l. l ++ rest) one ∙ (ap (λ l. ShutBusy m ∷ l) none ∙ ap (λ z. ShutBusy z ∷ []) cc))
kept_act f g acts n (inr (inr (e, refused, (m, one, is, same)))) = absurd cc

module _ (r : Room) (t : ℕ) (small : t < r.config.threads) where
  pub collecting_did : HasDid r t collecting
  collecting_did old new (Ok (replies.Collected c)) pass d = (d.ran.acts, d.ran.did)
  collecting_did old new (Ok (replies.Busy n)) pass d = (d.made.ran.acts, d.made.ran.did)
  collecting_did old new answer pass d = absurd d

  abbrev program : Doing Reply
  program = whatever collected_in_steps (λ counts. ended (told counts))

  -- what follows its shut
  abbrev follows : Result (Unit {0}) Fault → Doing Reply
  follows shut = whatever (unless_refused (λ u. by_step sweeps_out) shut) (λ counts. ended (told counts))

  module _ (old new : ThreadState) (past : History) (acts : List Act) (behind : List (Item Act))
      (pass : IsPass r.config r.last t old.pass) (did : Did old.pass new.pass acts)
      (begins : IsPrefix new.pass.seen r.whole) (come : HasComeTo r.whole old.pass past) where
    abbrev IsPlayed : Reply → Frames → List Act → Type 0
    IsPlayed x f acts = Plays r.config r.whole t (EndsSo r t ReplyIs new (Ok x)) new.frames behind program past f
        (map acting acts)

    -- A REFUSED SHUT is all
    kept_out : (n : ℕ) → IsKeptOut old new (Busy n) → IsPlayed (replies.Busy n) old.frames acts
    kept_out n kept =
        let one : acts ≡ ShutBusy n ∷ [] = one_did acts kept.made.ran.acts did kept.made.ran.did
        ∙ kept_act old.frames new.frames kept.made.ran.acts n kept.made.ran.is in
        let same : new.frames ≡ old.frames =
        keeps_frames old.frames new.frames kept.made.ran.acts (Err (Busy n)) kept.made.ran.is in
        subst (λ l. IsPlayed (replies.Busy n) old.frames l) (sym one)
        (subst (λ f. IsPlayed (replies.Busy n) f (ShutBusy n ∷ [])) same
        (kept_plays r.config r.last r.whole t r.legal (EndsSo r t ReplyIs new (Ok (replies.Busy n))) new.frames behind
        follows past new.frames [] n
        (λ now next. has_ended (Ok (replies.Busy n)) (
          come_later old.pass new.pass (ShutBusy n ∷ []) past (now ++ by t (ShutBusy n) ∷ []) pass
              (subst (Did old.pass new.pass) one did) come next.next
              (mine_push now t (ShutBusy n)
              ∙ ap (λ l. l ++ ShutBusy n ∷ []) (others_own r.config r.whole t past now next.goes)),
          the_same (replies.Busy n) refl,
        ))))

    -- THE COLLECTION
    collected : (c : Collected) → IsCollected old new c → IsPlayed (replies.Collected c) old.frames acts
    collected c it =
        let all : acts ≡ collection_acts it.cleared it.dropped c.used =
        one_did acts (collection_acts it.cleared it.dropped c.used) did it.collects.did in
        let same : new.frames ≡ old.frames =
        keeps_frames old.frames new.frames it.ran.acts (Ok (c.cleared, c.dropped, c.used)) it.ran.is in
        let counted : record { cleared = length it.cleared; dropped = length it.dropped; used = c.used } ≡ c =
        λ i. record { cleared = it.clears i; dropped = it.drops i; used = c.used } in
        subst (λ l. IsPlayed (replies.Collected c) old.frames l) (sym all)
        (subst (λ f. IsPlayed (replies.Collected c) f (collection_acts it.cleared it.dropped c.used)) same
        (collected_plays r.config r.last r.whole t r.legal (EndsSo r t ReplyIs new (Ok (replies.Collected c)))
        new.frames behind told follows past it.cleared it.dropped c.used refl
        (λ before next. shut_whole r.whole t old.pass new.pass it.cleared it.dropped c.used it.collects pass.thread
        begins before next.next
        (others_own r.config r.whole t past before next.goes ∙ own_come old.pass past pass come))
        (λ later so_far own. (
          come_later old.pass new.pass (collection_acts it.cleared it.dropped c.used) past later pass
              it.collects.did come so_far own,
          subst (λ d. ReplyIs later (replies.Collected c) (replies.Collected d)) (sym counted)
              (the_same (replies.Collected c) refl),
        ))))

  pub collecting_plays : {h : History} {F : Frames → Type 0}
      → DeedPlays r t h F ReplyIs collecting (whatever collected_in_steps (λ counts. ended (told counts)))
  collecting_plays {h} {F} = record { plays = plays }
    where
      plays : (old new : ThreadState) (past : History) (answer : Result Reply Fault) (acts : List Act)
          (behind : List (Item Act)) → IsPass r.config r.last t old.pass → collecting old answer new
          → Did old.pass new.pass acts → IsPrefix new.pass.seen r.whole → HasComeTo r.whole old.pass past
          → Since r t h past → F old.frames
          → Plays r.config r.whole t (EndsSo r t ReplyIs new answer) new.frames behind program past old.frames
          (map acting acts)
      plays old new past (Ok (replies.Collected c)) acts behind pass d did begins come since f =
          collected old new past acts behind pass did begins come c d
      plays old new past (Ok (replies.Busy n)) acts behind pass d did begins come since f =
          kept_out old new past acts behind pass did begins come n d
      plays old new past answer acts behind pass d did begins come since f = absurd d
