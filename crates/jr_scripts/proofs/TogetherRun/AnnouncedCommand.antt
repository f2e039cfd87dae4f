-- THE COMMAND WHOSE COLLECTION IS ANNOUNCED is played, and what it does are acts of its thread.
use Rattle.std.proofs.Common.{◌≡◌, ◌<◌, ℕ, Result, Ok, Err, List, [], ◌∷◌, ◌++◌, map, length}
use Rattle.std.proofs.Common.{refl, sym, ap, subst, ◌∙◌, append_assoc, append-nil}
use mathlib.Core.List.{IsPrefix}
use Rattle.jr_word.specs.declared.fault.Fault.{Fault}
use Rattle.jr_word.specs.declared.fault.Fault.TheVariants.{Busy, Moved, Raced}
use Rattle.jr_model.specs.declared.event.GateAct.TheVariants.{Cancel, Shut}
use Rattle.jr_model.specs.declared.event.Act.{Act}
use Rattle.jr_model.specs.declared.event.Act.TheVariants.{Gate, Meet, ShutBusy}
use Rattle.jr_model.specs.CollectionCalls.{IsWhole, announcing_acts, collection_acts}
use Rattle.jr_model.specs.Frames.{Frames}
use Rattle.jr_model.specs.History.{Did, History, mine, state}
use Rattle.jr_model.specs.State.{Handle}
use Rattle.jr_model.proofs.Stays.{did_then}
use Rattle.jr_gate.specs.Performing.{ThreadState}
use Rattle.jr_weak.specs.declared.collecting.Collected.{Collected}
use Rattle.jr_weak.specs.Collecting.{WasGivenUp}
use Rattle.jr_weak.specs.Collecting.WasGivenUp.{closed_at_exchange, closed_at_look, moved_at_exchange, taken_back}
use Rattle.jr_env.specs.Collections.{IsCollectedAnnounced, IsGivenUp, announced_collection}
use Rattle.jr_world.specs.Doing.{whatever}
use Rattle.jr_world.specs.Doing.Doing.{ended}
use Rattle.jr_world.specs.Plays.{ActsNext, Plays}
use Rattle.jr_world.specs.Plays.Plays.{has_ended}
use Rattle.jr_world.specs.Playing.{HasComeTo, SameFault}
use Rattle.jr_world.proofs.Joining.{joined_later}
use Rattle.one_order.specs.Orders.{Item}
use Rattle.one_order.specs.Orders.Item.{does as acting}
use Rattle.jr_scripts.specs.Tries.{Tried}
use Rattle.jr_scripts.specs.declared.reply.Reply.{Reply}
use Rattle.jr_scripts.specs.declared.reply.Reply.TheVariants as replies
use Rattle.jr_scripts.specs.Commands.{collecting_announced, told}
use Rattle.jr_scripts.specs.Together.{announced_in_steps, tried_in_steps}
use Rattle.jr_scripts.proofs.TogetherRun.KeptFrames.{announced_keeps, same_collected}
use Rattle.jr_scripts.proofs.TogetherRun.AnnouncedPlays.{announced_tries, closed_plays, late_plays, moved_plays}
use Rattle.jr_scripts.proofs.TogetherRun.AnnouncedPlays.{moved_several, swept_plays, taken_back_plays}
use Rattle.jr_scripts.proofs.TogetherRun.CollectionPlays.{others_own}
use Rattle.jr_scripts.proofs.TogetherRun.CollectedCommand.{shut_whole}
use Rattle.jr_scripts.proofs.TogetherRun.Moments.{AnswerSo, DeedPlays, EndsSo, HasDid, IsPass, ReplyIs, Room, Since}
use Rattle.jr_scripts.proofs.TogetherRun.Moments.ReplyIs.{the_same}
use Rattle.jr_scripts.proofs.TogetherRun.PlayedDeeds.{come_later, one_did, own_acts, own_come, pass_later, tried_did}
use Rattle.jr_scripts.proofs.TogetherRun.PlayedDeeds.{tried_plays}

-- both collections came to the same
abbrev Same : History → Collected → Collected → Type 0
Same later a b = a ≡ b

-- WHAT IS TOLD of both answers is one reply
told_so : (later : History) (x y : Result Collected Fault) → AnswerSo Same later x y
    → AnswerSo ReplyIs later (told x) (told y)
told_so later (Ok a) (Ok b) so =
    subst (λ z. ReplyIs later (replies.Collected a) (replies.Collected z)) so (the_same (replies.Collected a) refl)
told_so later (Err e) (Err d) so = go e d so
  where
    itself : (x : Fault) → AnswerSo ReplyIs later (told (Err x)) (told (Err x))
    itself (Busy n) = the_same (replies.Busy n) refl
    itself (Raced looked found) = tt
    itself (Moved looked found) = tt
    itself _ = refl

    go : (x y : Fault) → SameFault x y → AnswerSo ReplyIs later (told (Err x)) (told (Err y))
    go (Raced looked found) (Raced noted now) alike = tt
    go (Moved looked found) (Moved noted now) alike = tt
    go x y alike = subst (λ z. AnswerSo ReplyIs later (told (Err x)) (told (Err z))) alike (itself x)
told_so later _ _ so = absurd so

module _ (r : Room) (t : ℕ) (small : t < r.config.threads) where
  -- A REFUSAL of one try leaves the frames
  given_up_keeps : (tries : ℕ) (old new : ThreadState) (e : Fault) → IsGivenUp tries old new e
      → new.frames ≡ old.frames
  given_up_keeps tries old new e d =
      announced_keeps tries old.frames new.frames d.made.ran.acts (Err e) d.made.ran.is

  once_did : (tries : ℕ) → HasDid r t (announced_collection tries)
  once_did tries old new (Ok x) is d = (d.done.ran.acts, d.done.ran.did)
  once_did tries old new (Err e) is d = (d.made.ran.acts, d.made.ran.did)

  -- ONE TRY is played so, to such frames and with such acts
  abbrev OncePlays : ℕ → ThreadState → ThreadState → History → List (Item Act) → Result Collected Fault → Frames
      → List Act → Type 0
  OncePlays tries old new past behind answer g acts = Plays r.config r.whole t (EndsSo r t Same new answer) g behind
      announced_in_steps past old.frames (map acting acts)

  -- between its moments
  module _ (tries : ℕ) (old new : ThreadState) (past : History) (behind : List (Item Act))
      (is : IsPass r.config r.last t old.pass) (begins : IsPrefix new.pass.seen r.whole)
      (come : HasComeTo r.whole old.pass past) where
    -- where it has ended with this answer
    abbrev Ends : Result Collected Fault → History → Result Collected Fault → Type 0
    Ends answer = EndsSo r t Same new answer

    -- a collection
    collected_once : (x : Collected) (d : IsCollectedAnnounced tries old new x)
        → OncePlays tries old new past behind (Ok x) old.frames
        (announcing_acts d.refused ++ collection_acts d.done.cleared d.done.dropped x.used)
    collected_once x d =
        announced_tries r.config r.last r.whole t r.legal (Ends (Ok x)) old.frames behind d.refused sweep past
        (λ later own. swept_plays r.config r.last r.whole t r.legal (Ends (Ok x)) old.frames behind later
        cleared dropped x.used (complete later own) (ends later own))
      where
        cleared : List Handle
        cleared = d.done.cleared

        dropped : List ℕ
        dropped = d.done.dropped

        before : List Act
        before = announcing_acts d.refused

        sweep : List Act
        sweep = collection_acts cleared dropped x.used

        first : Did old.pass d.done.collects.shutting before
        first = d.done.collects.announced

        complete : (later : History) → mine later t ≡ mine past t ++ before → (shutting : History)
            → ActsNext r.config r.whole t later shutting (Gate Shut) → IsWhole (state shutting) cleared dropped
        complete later own shutting goes = shut_whole r.whole t d.done.collects.shutting new.pass cleared dropped x.used
            d.done.collects.done (pass_later before first is).thread begins shutting goes.next
            (others_own r.config r.whole t later shutting goes.goes
            ∙ (own ∙ (ap (λ l. l ++ before) (own_come old.pass past is come) ∙ sym (own_acts before is first))))

        ends : (later : History) → mine later t ≡ mine past t ++ before → (end : History) → IsPrefix end r.whole
            → mine end t ≡ mine later t ++ sweep
            → Ends (Ok x) end (Ok (record { cleared = length cleared; dropped = length dropped; used = x.used }))
        ends later own end end_begins since = (
          come_later old.pass new.pass (before ++ sweep) past end is
              (did_then before sweep first d.done.collects.done.did) come end_begins
              (since ∙ (ap (λ l. l ++ sweep) own ∙ append_assoc (mine past t) before sweep)),
          same_collected x (record { cleared = length cleared; dropped = length dropped; used = x.used })
              (sym d.done.clears) (sym d.done.drops) refl,
        )

    -- a refusal: where the thread has done its acts, it has come with the pass
    refused_there : (e : Fault) (acts xs : List Act) → Did old.pass new.pass acts → acts ≡ xs → (y : Fault)
        → SameFault e y → (later : History) → IsPrefix later r.whole → mine later t ≡ mine past t ++ xs
        → Ends (Err e) later (Err y)
    refused_there e acts xs did are y same later later_begins own = (
      come_later old.pass new.pass xs past later is (subst (Did old.pass new.pass) are did) come later_begins own,
      same,
    )

    same_busy : (e : Fault) (n : ℕ) → e ≡ Busy n → SameFault e (Busy n)
    same_busy e n busy = subst (λ z. SameFault z (Busy n)) (sym busy) refl

    -- .. at each of its ends
    refused_once : (e : Fault) (acts : List Act) → Did old.pass new.pass acts
        → WasGivenUp tries old.pass new.pass old.held new.held acts e
        → OncePlays tries old new past behind (Err e) old.frames acts
    refused_once e acts did (closed_at_look n are busy some closed held) =
        subst (OncePlays tries old new past behind (Err e) old.frames) (sym are)
        (closed_plays r.config r.last r.whole t r.legal (Ends (Err e)) old.frames behind n past
        (refused_there e acts (ShutBusy n ∷ []) did are (Busy n) (same_busy e n busy)))
    refused_once e acts did (closed_at_exchange n are busy some closed held) =
        subst (OncePlays tries old new past behind (Err e) old.frames) (sym are)
        (late_plays r.config r.last r.whole t r.legal (Ends (Err e)) old.frames behind n past
        (refused_there e acts (Meet ∷ ShutBusy n ∷ []) did are (Busy n) (same_busy e n busy)))
    refused_once e acts did (moved_at_exchange looked found are moved gate held) =
        subst (OncePlays tries old new past behind (Err e) old.frames) (sym are)
        (moved_plays r.config r.last r.whole t r.legal (Ends (Err e)) old.frames behind past
        (moved_several r.config t looked found old.pass new.pass small (pass_later acts did is).config
        (own_acts (Meet ∷ Meet ∷ []) is (subst (Did old.pass new.pass) are did)) gate)
        (refused_there e acts (Meet ∷ Meet ∷ []) did are (Moved 0 0)
        (subst (λ z. SameFault z (Moved 0 0)) (sym moved) tt)))
    refused_once e acts did (taken_back refused n are busy some all until held) =
        subst (OncePlays tries old new past behind (Err e) old.frames) (sym are)
        (announced_tries r.config r.last r.whole t r.legal (Ends (Err e)) old.frames behind refused out past
        (λ later own. taken_back_plays r.config r.last r.whole t r.legal (Ends (Err e)) old.frames behind n later
        (λ end end_begins since. refused_there e acts (announcing_acts refused ++ out) did are (Busy n)
        (same_busy e n busy) end end_begins (since
        ∙ (ap (λ l. l ++ out) own ∙ append_assoc (mine past t) (announcing_acts refused) out)))))
      where
        out : List Act
        out = ShutBusy n ∷ Gate Cancel ∷ []

  once_plays : (tries : ℕ) {h : History} {F : Frames → Type 0}
      → DeedPlays r t h F Same (announced_collection tries) announced_in_steps
  once_plays tries {h} {F} = record { plays = plays }
    where
      plays : (old new : ThreadState) (past : History) (answer : Result Collected Fault) (acts : List Act)
          (behind : List (Item Act)) → IsPass r.config r.last t old.pass → announced_collection tries old answer new
          → Did old.pass new.pass acts → IsPrefix new.pass.seen r.whole → HasComeTo r.whole old.pass past
          → Since r t h past → F old.frames → OncePlays tries old new past behind answer new.frames acts
      plays old new past (Ok x) acts behind is d did begins come since f =
          let before = announcing_acts d.refused in
          let sweep = collection_acts d.done.cleared d.done.dropped x.used in
          let all : before ++ sweep ≡ acts = one_did (before ++ sweep) acts
          (did_then before sweep d.done.collects.announced d.done.collects.done.did) did in
          subst (λ g. OncePlays tries old new past behind (Ok x) g acts)
          (sym (announced_keeps tries old.frames new.frames d.done.ran.acts (Ok (x.cleared, x.dropped, x.used))
          d.done.ran.is))
          (subst (OncePlays tries old new past behind (Ok x) old.frames) all
          (collected_once tries old new past behind is begins come x d))
      plays old new past (Err e) acts behind is d did begins come since f =
          subst (λ g. OncePlays tries old new past behind (Err e) g acts) (sym (given_up_keeps tries old new e d))
          (subst (OncePlays tries old new past behind (Err e) old.frames)
          (one_did d.made.ran.acts acts d.made.ran.did did)
          (refused_once tries old new past behind is begins come e d.made.ran.acts d.made.ran.did d.ended))

  module _ (turns tries : ℕ) where
    pub announced_did : HasDid r t (collecting_announced turns tries)
    announced_did old new answer is d = tried_did r t turns (once_did tries) old new d.0 is d.2

    -- its tries, one after the other
    turns_play : {h : History} {F : Frames → Type 0} → DeedPlays r t h F Same (Tried (announced_collection tries) turns)
        (tried_in_steps turns announced_in_steps)
    turns_play = tried_plays r t turns (once_did tries)
        (λ old new e is d. given_up_keeps tries old new e d) (λ later since. once_plays tries)

    pub announced_plays : {h : History} {F : Frames → Type 0}
        → DeedPlays r t h F ReplyIs (collecting_announced turns tries)
        (whatever (tried_in_steps turns announced_in_steps) (λ counts. ended (told counts)))
    announced_plays {h} {F} = record { plays = plays }
      where
        plays : (old new : ThreadState) (past : History) (answer : Result Reply Fault) (acts : List Act)
            (behind : List (Item Act)) → IsPass r.config r.last t old.pass
            → collecting_announced turns tries old answer new → Did old.pass new.pass acts
            → IsPrefix new.pass.seen r.whole → HasComeTo r.whole old.pass past → Since r t h past → F old.frames
            → Plays r.config r.whole t (EndsSo r t ReplyIs new answer) new.frames behind
            (whatever (tried_in_steps turns announced_in_steps) (λ counts. ended (told counts))) past
            old.frames (map acting acts)
        plays old new past answer acts behind is d did begins come since f =
            subst (λ z. Plays r.config r.whole t (EndsSo r t ReplyIs new z) new.frames behind
            (whatever (tried_in_steps turns announced_in_steps) (λ counts. ended (told counts))) past
            old.frames (map acting acts)) (sym d.1)
            (subst (λ l. Plays r.config r.whole t (EndsSo r t ReplyIs new (told d.0)) new.frames behind
            (whatever (tried_in_steps turns announced_in_steps) (λ counts. ended (told counts))) past
            old.frames l) (append-nil (map acting acts))
            (joined_later r.config r.whole t (EndsSo r t Same new d.0) (EndsSo r t ReplyIs new (told d.0)) new.frames
            new.frames (λ counts. ended (told counts)) [] behind (tried_in_steps turns announced_in_steps)
            past old.frames (map acting acts)
            ((turns_play {h = h} {F = F}).plays old new past d.0 acts behind is d.2 did begins come since f)
            (λ later y later_begins so. has_ended (told y) (so.0, told_so later d.0 y so.1))))
