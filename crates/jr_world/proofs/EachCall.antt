-- Each call of JNI that has a stay of its own is played.
use Rattle.std.proofs.Common.{◌≡◌, inl, inr, ℕ, Result, Err, List, [], ◌∷◌, ◌++◌, map, refl, sym, ap, subst, ◌∙◌}
use mathlib.Core.List.{IsPrefix}
use Rattle.jr_word.specs.declared.config.Config.{Config}
use Rattle.jr_word.specs.declared.fault.Fault.{Fault}
use Rattle.jr_word.specs.declared.fault.Fault.TheVariants.{Barred}
use Rattle.jr_model.specs.declared.event.GateAct.TheVariants.{Enter, Knock, Leave, Withdraw}
use Rattle.jr_model.specs.declared.event.Act.{Act}
use Rattle.jr_model.specs.declared.event.Act.TheVariants.{Gate}
use Rattle.jr_model.specs.State.{State}
use Rattle.jr_model.specs.Frames.{Frames}
use Rattle.jr_model.specs.History.{History, PassView, state}
use Rattle.jr_model.specs.Windows.{Begins, Ends, IsBehind, IsLastSeen}
use Rattle.jr_model.specs.Checks.{Word}
use Rattle.jr_model.specs.Calls.{Call, Ran, entered}
use Rattle.jr_model.specs.Programs.{AnswerKind, AnswerOf, Program, Which, none_known, work_of}
use Rattle.jr_model.proofs.Windows.{ends_last}
use Rattle.jr_world.specs.World.{MeantOf}
use Rattle.jr_world.specs.Doing.{Doing, Noted, entered_in_steps, go_in, go_out, inside, program_steps, step}
use Rattle.jr_world.specs.Doing.{then_out, whatever}
use Rattle.jr_world.specs.Doing.Doing.{ended}
use Rattle.jr_world.specs.Plays.{Plays}
use Rattle.jr_world.specs.Playing.{AnsweredBy, EnteredPlays, HasComeTo, IsApt, LiesIn, WordIs}
use Rattle.jr_world.proofs.CallPlays.{call_plays, exit_begins, scene, seen_is, stays_exit}
use Rattle.jr_world.proofs.ElementPlays.{left_objects}
use Rattle.jr_world.proofs.EndedCalls.{call_ends}
use Rattle.jr_world.proofs.GatePlays.{barred_plays, enters_plays}
use Rattle.jr_world.proofs.InStay.{InOneStay, Scene}
use Rattle.jr_world.proofs.ProgramPlays.{PartsPlay, map_append}
use Rattle.one_order.specs.Orders.{Item}
use Rattle.one_order.specs.Orders.Item.{does as acting}

-- A CALL that finds the gate shut is played
pub knocks_play : (c : Config) (last : ℕ) (whole : History) (old new : PassView) (past : History) (f g : Frames)
    (a : AnswerKind) (answer : Result (AnswerOf a) Fault) (behind : List (Item Act)) (more : Noted → Doing (MeantOf a))
    (acts : List Act)
    → LiesIn c last whole old new
    → (acts ≡ Gate Knock ∷ Gate Withdraw ∷ []) × (answer ≡ Err Barred) × (g ≡ f)
    → Plays c whole old.thread (AnsweredBy a answer) g behind (step go_in (inside more)) past f (map acting acts)
knocks_play c last whole old new past f g a answer behind more acts lies (all, refused, same) =
    subst (Played g answer) (sym all)
    (subst (λ x. Played g x (Gate Knock ∷ Gate Withdraw ∷ [])) (sym refused)
    (subst (λ h. Played h (Err Barred) (Gate Knock ∷ Gate Withdraw ∷ [])) (sym same)
    (barred_plays c last whole old.thread lies.legal (AnsweredBy a (Err Barred)) behind more past f
    (λ later. refl))))
  where
    Played : Frames → Result (AnswerOf a) Fault → List Act → Type 0
    Played h x l = Plays c whole old.thread (AnsweredBy a x) h behind (step go_in (inside more)) past f
        (map acting l)

-- what a call does in its stay is played, with the objects of a moment of it
abbrev pub StaysPlay : Type 0
StaysPlay = (k : Scene) (z : State) (exit : History) → InOneStay k exit → IsPrefix exit k.whole
    → z.objects ≡ (state exit).objects → PartsPlay k z

module _ (parts : StaysPlay) where
  -- A CALL that goes in and out is played, where what it does behind its work is to go out
  pub visits_play : (c : Config) (last : ℕ) (whole : History) (old new : PassView) (past : History)
      (f g : Frames) (n : ℕ) (a : AnswerKind) (p : Program n a) (words : Which → Word) (numbers : Which → ℕ)
      (answer : Result (AnswerOf a) Fault) (behind : List (Item Act)) (lies : LiesIn c last whole old new)
      (come : HasComeTo whole old past) (next' : Result (MeantOf a) Fault → Doing (MeantOf a))
      {call : Call (AnswerOf a)} (r : Ran old new f g call answer) (acts : List Act)
      → ((w : Which) → WordIs past (words w) (numbers w)) → IsApt last f words p
      → ((later : History) (x : Result (MeantOf a) Fault) → AnsweredBy a answer later x
      → next' x ≡ step go_out (λ _. ended x))
      → r.acts ≡ Gate Enter ∷ acts ++ Gate Leave ∷ []
      → work_of c last old.thread (state new.seen) words p f acts answer g
      → Plays c whole old.thread (AnsweredBy a answer) g behind
      (step go_in (inside (λ from. whatever (program_steps c from numbers p none_known 0) next'))) past f
      (map acting r.acts)
  visits_play c last whole old new past f g n a p words numbers answer behind lies come next' r acts words_are apt out
      all ran =
      subst (λ l. Plays c whole old.thread (AnsweredBy a answer) g behind
      (step go_in (inside (λ from. whatever (program_steps c from numbers p none_known 0) next'))) past f
      (map acting l)) (sym all)
      (subst (λ l. Plays c whole old.thread (AnsweredBy a answer) g behind
      (step go_in (inside (λ from. whatever (program_steps c from numbers p none_known 0) next'))) past f
      (acting (Gate Enter) ∷ l)) (sym (map_append acting acts (Gate Leave ∷ [])))
      (enters_plays c last whole old.thread lies.legal (AnsweredBy a answer) behind
      (λ from. whatever (program_steps c from numbers p none_known 0) next') past f g
      (map acting acts ++ acting (Gate Leave) ∷ [])
      (λ now s next st.
      let begun : IsBehind old (Gate Enter) r.begun = subst (λ l. Begins old l r.begun) all r.window.first refl in
      let left : IsLastSeen new (Gate Leave) =
      ends_last old new (Gate Enter ∷ acts) (Gate Leave) (subst (Ends old new) all r.window.last) refl in
      let stays = stays_exit c last whole old new f g n a p words answer lies come r acts ran now s next st left.before
      left.is all begun in
      let begins = exit_begins c last whole old new f g n a p words answer lies come r acts ran now s next st
      left.before left.is all in
      let same : (state new.seen).objects ≡ (state left.before).objects = ap (λ h. (state h).objects)
      (seen_is c last whole old new f g n a p words answer lies come r acts ran now s next st left.before left.is all)
      ∙ left_objects left.before old.thread in
      call_plays c last whole old new f g n a p words answer lies come r acts ran now s next st left.before left.is all
      begun behind numbers (parts (scene c last whole old new f g n a p words answer lies come r acts ran now s next st)
      (state new.seen) left.before (inl stays) begins same) words_are apt next' out)))

  pub calls_play : EnteredPlays
  calls_play c last whole old new past f g n a p words numbers answer behind lies come words_are apt r =
      call_ends c last whole old new past f g a answer behind lies come r (go r.is)
    where
      go : entered (work_of c last old.thread (state new.seen) words p) f r.acts answer g
          → Plays c whole old.thread (AnsweredBy a answer) g behind
          (entered_in_steps (λ from. program_steps c from numbers p none_known 0)) past f (map acting r.acts)
      go (inl barred) = knocks_play c last whole old new past f g a answer behind
          (λ from. then_out (program_steps c from numbers p none_known 0)) r.acts lies barred
      go (inr (acts, all, ran)) = visits_play c last whole old new past f g n a p words numbers answer behind lies come
          (λ x. step go_out (λ _. ended x)) r acts words_are apt (λ later x so. refl) all ran
