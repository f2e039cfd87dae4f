-- Programs that are played one after the other are played.
use Rattle.std.proofs.Common.{ℕ, Result, List, [], ◌∷◌, ◌++◌, ◌∙◌, refl, sym, append_assoc}
use mathlib.Core.List.{IsPrefix}
use Rattle.jr_word.specs.declared.config.Config.{Config}
use Rattle.jr_word.specs.declared.fault.Fault.{Fault}
use Rattle.jr_model.specs.declared.event.Act.{Act}
use Rattle.jr_model.specs.Frames.{Frames}
use Rattle.jr_model.specs.History.{History, by}
use Rattle.jr_model.proofs.Moments.{prefix_self, prefix_trans}
use Rattle.jr_world.specs.Doing.{Doing, whatever}
use Rattle.jr_world.specs.Plays.{OthersGoOn, ActsNext, Plays}
use Rattle.jr_world.specs.Plays.Plays.{has_ended, moves, waits, does, unseen, says, listens}
use Rattle.one_order.specs.Orders.{Item}

-- one, and then the other by whatever it answered: where the one is played before all that the other does,
-- and the other from each moment at which the one may have ended
module _ {A B : Type 0} (c : Config) (whole : History) (t : ℕ) (V : History → Result A Fault → Type 0)
    (U : History → Result B Fault → Type 0) (g k : Frames) (next : Result A Fault → Doing B)
    (more behind : List (Item Act))
    (follows : (later : History) (r : Result A Fault) → V later r → Plays c whole t U k behind (next r) later g more)
  where
    pub joined : {d : Doing A} {past : History} {f : Frames} {items : List (Item Act)}
        → Plays c whole t V g (more ++ behind) d past f items
        → Plays c whole t U k behind (whatever d next) past f (items ++ more)
    joined (has_ended {past = past} r so) = follows past r so
    joined (moves luck f' stands goes_on) = moves luck f' stands (λ now s goes st. joined (goes_on now s goes st))
    joined (waits {items = items} luck a f' is stands goes_on) = waits luck a f' (append_assoc items more behind ∙ is)
        stands (λ now s goes st. joined (goes_on now s goes st))
    joined (does luck a f' stands goes_on) = does luck a f' stands (λ now s goes st. joined (goes_on now s goes st))
    joined (unseen a stands goes_on) = unseen a stands (λ now goes. joined (goes_on now goes))
    joined (says luck n w stands goes_on) = says luck n w stands (λ now s goes st. joined (goes_on now s goes st))
    joined (listens luck n w stands goes_on) =
        listens luck n w stands (λ now s goes st posted. joined (goes_on now s goes st posted))

-- what is so at the end is so behind where the program began
module _ {A : Type 0} (c : Config) (whole : History) (t : ℕ) (V U : History → Result A Fault → Type 0) (g : Frames)
    (behind : List (Item Act)) (base : History)
    (so : (later : History) (r : Result A Fault) → IsPrefix base later → V later r → U later r) where
  by_others : (past now : History) → IsPrefix base past → OthersGoOn c whole t past now → IsPrefix base now
  by_others past now begins goes = prefix_trans base past now begins (goes.since, sym goes.is)

  by_act : (past now : History) (a : Act) → IsPrefix base past → ActsNext c whole t past now a
      → IsPrefix base (now ++ by t a ∷ [])
  by_act past now a begins next = prefix_trans base now (now ++ by t a ∷ []) (by_others past now begins next.goes)
      (by t a ∷ [], refl)

  pub weakened : {d : Doing A} {past : History} {f : Frames} {items : List (Item Act)} → IsPrefix base past
      → Plays c whole t V g behind d past f items → Plays c whole t U g behind d past f items
  weakened begins (has_ended {past = past} r is) = has_ended r (so past r begins is)
  weakened {past = past} begins (moves luck f' stands goes_on) = moves luck f' stands
      (λ now s goes st. weakened (by_others past now begins goes) (goes_on now s goes st))
  weakened {past = past} begins (waits luck a f' is stands goes_on) = waits luck a f' is stands
      (λ now s next st. weakened (by_others past now begins next.goes) (goes_on now s next st))
  weakened {past = past} begins (does luck a f' stands goes_on) = does luck a f' stands
      (λ now s next st. weakened (by_act past now a begins next) (goes_on now s next st))
  weakened {past = past} begins (unseen a stands goes_on) = unseen a stands
      (λ now next. weakened (by_act past now a begins next) (goes_on now next))
  weakened {past = past} begins (says luck n w stands goes_on) = says luck n w stands
      (λ now s goes st. weakened (by_others past now begins goes) (goes_on now s goes st))
  weakened {past = past} begins (listens luck n w stands goes_on) = listens luck n w stands
      (λ now s goes st posted. weakened (by_others past now begins goes) (goes_on now s goes st posted))

-- one, and then the other from each moment at which the one may have ended, which is behind where it began
pub joined_later : {A B : Type 0} (c : Config) (whole : History) (t : ℕ) (V : History → Result A Fault → Type 0)
    (U : History → Result B Fault → Type 0) (g k : Frames) (next : Result A Fault → Doing B)
    (more behind : List (Item Act)) (d : Doing A) (past : History) (f : Frames) (items : List (Item Act))
    → Plays c whole t V g (more ++ behind) d past f items
    → ((later : History) (r : Result A Fault) → IsPrefix past later → V later r
    → Plays c whole t U k behind (next r) later g more)
    → Plays c whole t U k behind (whatever d next) past f (items ++ more)
joined_later {A} c whole t V U g k next more behind d past f items plays follows =
    joined c whole t (λ later r. IsPrefix past later × V later r) U g k next more behind
    (λ later r both. follows later r both.0 both.1)
    (weakened c whole t V (λ later r. IsPrefix past later × V later r) g (more ++ behind) past
    (λ later r begins is. (begins, is)) (prefix_self past) plays)
