-- A call whose stay goes on where it isn't refused is played.
use Rattle.std.proofs.Common.{◌≡◌, inl, inr, ℕ, Result, Ok, Err, List, [], ◌∷◌, ◌++◌, map, refl, sym, ap, subst, ◌∙◌}
use Rattle.std.proofs.Common.{append_assoc, append-nil}
use mathlib.Core.List.{IsPrefix}
use Rattle.jr_word.specs.declared.config.Config.{Config}
use Rattle.jr_word.specs.declared.fault.Fault.{Fault}
use Rattle.jr_model.specs.declared.event.GateAct.TheVariants.{Enter}
use Rattle.jr_model.specs.declared.event.Act.{Act}
use Rattle.jr_model.specs.declared.event.Act.TheVariants.{Gate}
use Rattle.jr_model.specs.Frames.{Frames}
use Rattle.jr_model.specs.History.{History, PassView, mine, state}
use Rattle.jr_model.specs.Windows.{Begins}
use Rattle.jr_model.specs.Checks.{Word}
use Rattle.jr_model.specs.Calls.{Call, Ran, opened}
use Rattle.jr_model.specs.Programs.{AnswerKind, AnswerOf, Program, Which, none_known, work_of}
use Rattle.jr_world.specs.World.{MeantOf}
use Rattle.jr_world.specs.Doing.{Shared, go_out, opened_in_steps, out_after, out_if_refused, program_steps, step}
use Rattle.jr_world.specs.Doing.Doing.{ended}
use Rattle.jr_world.specs.Plays.{ActsNext, Plays, InStands}
use Rattle.jr_world.specs.Plays.Plays.{has_ended}
use Rattle.jr_world.specs.Playing.{AnsweredBy, HasComeTo, LiesIn, OpenedPlays}
use Rattle.jr_world.proofs.CallPlays.{begun_is, entry, mine_entry, scene, stays_to, work_plays}
use Rattle.jr_world.proofs.EachCall.{StaysPlay, knocks_play, visits_play}
use Rattle.jr_world.proofs.EndedCalls.{call_ends}
use Rattle.jr_world.proofs.GatePlays.{enters_plays}
use Rattle.jr_world.proofs.InStay.{StaysOn, Then}
use Rattle.jr_world.proofs.Joining.{joined_later}
use Rattle.one_order.specs.Orders.Item.{does as acting}

-- ONE CALL that enters and doesn't leave
module _ (c : Config) (last : ℕ) (whole : History) (old new : PassView) (f g : Frames) (n : ℕ) (a : AnswerKind)
    (p : Program n a) (words : Which → Word) (answer : Result (AnswerOf a) Fault) (lies : LiesIn c last whole old new)
    {past : History} (come : HasComeTo whole old past) {call : Call (AnswerOf a)} (r : Ran old new f g call answer)
    (acts : List Act)
    (ran : work_of c last old.thread (state new.seen) words p f acts answer g) (now : History) (s : Shared)
    (next : ActsNext c whole old.thread past now (Gate Enter)) (st : InStands c old.thread now f s)
    (all : r.acts ≡ Gate Enter ∷ acts) where
  -- all that it does is seen, and it stays there
  stays_seen : StaysOn (scene c last whole old new f g n a p words answer lies come r acts ran now s next st)
      (entry c last whole old new f g n a p words answer lies come r acts ran now s next st) new.seen
  stays_seen = stays_to c last whole old new f g n a p words answer lies come r acts ran now s next st new.seen
      (r.did.own ∙ ap (λ l. mine old.seen old.thread ++ l) all
      ∙ sym (append_assoc (mine old.seen old.thread) (Gate Enter ∷ []) acts)
      ∙ ap (λ l. l ++ acts)
      (sym (mine_entry c last whole old new f g n a p words answer lies come r acts ran now s next st)))
      lies.begins
      (subst (λ h. IsPrefix h new.seen)
      (begun_is c last whole old new f g n a p words answer lies come r acts ran now s next st
      (subst (λ l. Begins old l r.begun) all r.window.first refl)) r.window.to)

module _ (parts : StaysPlay) where
  pub opened_calls_play : OpenedPlays
  opened_calls_play c last whole old new past f g n a p words numbers (Err e) behind lies come words_are apt r =
      call_ends c last whole old new past f g a (Err e) behind lies come r (go r.is)
    where
      leaves : (later : History) (x : Result (MeantOf a) Fault) → AnsweredBy a (Err e) later x
          → out_after x ≡ step go_out (λ _. ended x)
      leaves later (Ok y) so = absurd so
      leaves later (Err d) so = refl

      go : opened (work_of c last old.thread (state new.seen) words p) f r.acts (Err e) g
          → Plays c whole old.thread (AnsweredBy a (Err e)) g behind
          (opened_in_steps (λ from. program_steps c from numbers p none_known 0)) past f (map acting r.acts)
      go (inl barred) = knocks_play c last whole old new past f g a (Err e) behind
          (λ from. out_if_refused (program_steps c from numbers p none_known 0)) r.acts lies barred
      go (inr (acts, (all, ran))) = visits_play parts c last whole old new past f g n a p words numbers (Err e) behind
          lies come out_after r acts words_are apt leaves all ran
  opened_calls_play c last whole old new past f g n a p words numbers (Ok x) behind lies come words_are apt r =
      call_ends c last whole old new past f g a (Ok x) behind lies come r (go r.is)
    where
      ends : (later : History) (y : Result (MeantOf a) Fault) → AnsweredBy a (Ok x) later y
          → Plays c whole old.thread (AnsweredBy a (Ok x)) g behind (out_after y) later g []
      ends later (Ok y) so = has_ended (Ok y) so
      ends later (Err d) so = absurd so

      go : opened (work_of c last old.thread (state new.seen) words p) f r.acts (Ok x) g
          → Plays c whole old.thread (AnsweredBy a (Ok x)) g behind
          (opened_in_steps (λ from. program_steps c from numbers p none_known 0)) past f (map acting r.acts)
      go (inl barred) = absurd (let bad = barred.1 in cc)
      go (inr (acts, (all, ran))) = subst (λ l. Plays c whole old.thread (AnsweredBy a (Ok x)) g behind
          (opened_in_steps (λ from. program_steps c from numbers p none_known 0)) past f (map acting l)) (sym all)
          (enters_plays c last whole old.thread lies.legal (AnsweredBy a (Ok x)) behind
          (λ from. out_if_refused (program_steps c from numbers p none_known 0)) past f g (map acting acts)
          (λ now s next st.
          let k = scene c last whole old new f g n a p words (Ok x) lies come r acts ran now s next st in
          let from = entry c last whole old new f g n a p words (Ok x) lies come r acts ran now s next st in
          let stays = stays_seen c last whole old new f g n a p words (Ok x) lies come r acts ran now s next st all in
          subst (λ l. Plays c whole old.thread (AnsweredBy a (Ok x)) g behind
          (out_if_refused (program_steps c k.noted numbers p none_known 0)) from f l) (append-nil (map acting acts))
          (joined_later c whole old.thread (Then k a (Ok x)) (AnsweredBy a (Ok x)) g g out_after [] behind
          (program_steps c k.noted numbers p none_known 0) from f (map acting acts)
          (work_plays c last whole old new f g n a p words (Ok x) lies come r acts ran now s next st numbers behind
          (parts k (state new.seen) new.seen (inl stays) lies.begins refl) words_are apt tt)
          (λ later y begins so. ends later y so.2))))
