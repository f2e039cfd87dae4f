-- Where a call that was played has ended: its thread has come there with the pass that the call left.
use Rattle.std.proofs.Common.{◌≡◌, ℕ, Result, List, [], ◌∷◌, ◌++◌, map, refl, sym, ap, subst, ◌∙◌}
use Rattle.std.proofs.Common.{append_assoc, append-nil}
use mathlib.Core.List.{IsPrefix}
use Rattle.jr_word.specs.declared.config.Config.{Config}
use Rattle.jr_word.specs.declared.fault.Fault.{Fault}
use Rattle.jr_model.specs.declared.event.Act.{Act}
use Rattle.jr_model.specs.Calls.{Call, Ran}
use Rattle.jr_model.specs.Frames.{Frames}
use Rattle.jr_model.specs.History.{History, PassView, by, mine}
use Rattle.jr_model.specs.Programs.{AnswerKind, AnswerOf}
use Rattle.jr_model.proofs.Histories.{mine_append, mine_push}
use Rattle.jr_world.specs.World.{MeantOf}
use Rattle.jr_world.specs.Doing.{Doing}
use Rattle.jr_world.specs.Plays.{ActsNext, OthersGoOn, Plays}
use Rattle.jr_world.specs.Plays.Plays.{has_ended, moves, waits, does, unseen, says, listens}
use Rattle.jr_world.specs.Playing.{AnsweredBy, EndsAnswered, HasComeTo, LiesIn}
use Rattle.one_order.specs.Orders.{Item}
use Rattle.one_order.specs.Orders.Item.{does as acting, posts as posting, hears as hearing}

-- the acts among a thread's items
abbrev pub acts_in : List (Item Act) → List Act
acts_in [] = []
acts_in (acting a ∷ items) = a ∷ acts_in items
acts_in (posting n w ∷ items) = acts_in items
acts_in (hearing n w ∷ items) = acts_in items

all_acts : (acts : List Act) → acts_in (map acting acts) ≡ acts
all_acts [] = refl
all_acts (a ∷ acts) = ap (λ l. a ∷ l) (all_acts acts)

-- what is so at the end of a program that is played is so at a moment of the whole at which its thread has done all
-- that it was to do
module _ {A : Type 0} (c : Config) (whole : History) (t : ℕ) (V U : History → Result A Fault → Type 0) (g : Frames)
    (behind : List (Item Act)) (own : List Act)
    (so_there : (later : History) (r : Result A Fault) → IsPrefix later whole → mine later t ≡ own → V later r
    → U later r) where
  by_others : (past now : History) (acts : List Act) → mine past t ++ acts ≡ own → OthersGoOn c whole t past now
      → mine now t ++ acts ≡ own
  by_others past now acts so goes = ap (λ l. l ++ acts) (ap (λ h. mine h t) goes.is ∙ mine_append past goes.since t
      ∙ ap (λ l. mine past t ++ l) goes.others ∙ append-nil (mine past t)) ∙ so

  by_act : (past now : History) (a : Act) (acts : List Act) → mine past t ++ a ∷ acts ≡ own
      → ActsNext c whole t past now a → mine (now ++ by t a ∷ []) t ++ acts ≡ own
  by_act past now a acts so next = ap (λ l. l ++ acts) (mine_push now t a)
      ∙ append_assoc (mine now t) (a ∷ []) acts ∙ by_others past now (a ∷ acts) so next.goes

  pub ends_done : {d : Doing A} {past : History} {f : Frames} {items : List (Item Act)} → IsPrefix past whole
      → mine past t ++ acts_in items ≡ own → Plays c whole t V g behind d past f items
      → Plays c whole t U g behind d past f items
  ends_done begins so (has_ended {past = past} r is) =
      has_ended r (so_there past r begins (sym (append-nil (mine past t)) ∙ so) is)
  ends_done {past = past} {items = items} begins so (moves luck f' stands goes_on) = moves luck f' stands
      (λ now s goes st. ends_done goes.begins (by_others past now (acts_in items) so goes) (goes_on now s goes st))
  ends_done {past = past} {items = items} begins so (waits luck a f' is stands goes_on) = waits luck a f' is stands
      (λ now s next st.
      ends_done next.goes.begins (by_others past now (acts_in items) so next.goes) (goes_on now s next st))
  ends_done {past = past} begins so (does {items = items} luck a f' stands goes_on) = does luck a f' stands
      (λ now s next st. ends_done next.next (by_act past now a (acts_in items) so next) (goes_on now s next st))
  ends_done {past = past} begins so (unseen {items = items} a stands goes_on) = unseen a stands
      (λ now next. ends_done next.next (by_act past now a (acts_in items) so next) (goes_on now next))
  ends_done {past = past} begins so (says {items = items} luck n w stands goes_on) = says luck n w stands
      (λ now s goes st. ends_done goes.begins (by_others past now (acts_in items) so goes) (goes_on now s goes st))
  ends_done {past = past} begins so (listens {items = items} luck n w stands goes_on) = listens luck n w stands
      (λ now s goes st posted.
      ends_done goes.begins (by_others past now (acts_in items) so goes) (goes_on now s goes st posted))

-- A CALL THAT IS PLAYED ends where its thread has come with the pass that it left
pub call_ends : (c : Config) (last : ℕ) (whole : History) (old new : PassView) (past : History) (f g : Frames)
    (a : AnswerKind) (answer : Result (AnswerOf a) Fault) (behind : List (Item Act)) {d : Doing (MeantOf a)}
    {call : Call (AnswerOf a)} → LiesIn c last whole old new → HasComeTo whole old past
    → (r : Ran old new f g call answer)
    → Plays c whole old.thread (AnsweredBy a answer) g behind d past f (map acting r.acts)
    → Plays c whole old.thread (EndsAnswered whole new a answer) g behind d past f (map acting r.acts)
call_ends c last whole old new past f g a answer behind lies come r = ends_done c whole old.thread
    (AnsweredBy a answer) (EndsAnswered whole new a answer) g behind (mine new.seen old.thread)
    (λ later x begins own is. (
      record {
        begins = begins;
        own = subst (λ u. mine later u ≡ mine new.seen u) (sym lies.thread) own;
      },
      is,
    ))
    come.begins
    (ap (λ l. mine past old.thread ++ l) (all_acts r.acts) ∙ ap (λ l. l ++ r.acts) come.own ∙ sym r.did.own)
