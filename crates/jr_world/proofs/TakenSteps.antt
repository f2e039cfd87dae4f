-- A step whose outcome is known: what it answers, and what it leaves.
use Rattle.std.proofs.Common.{◌≡◌, ℕ, true, false, Result, List, [], ◌∷◌, ◌++◌, sym, subst}
use Rattle.jr_word.specs.declared.config.Config.{Config}
use Rattle.jr_word.specs.declared.fault.Fault.{Fault}
use Rattle.jr_model.specs.declared.event.Act.{Act}
use Rattle.jr_model.specs.declared.event.Role.TheVariants.{Within}
use Rattle.jr_model.specs.Frames.{Frames}
use Rattle.jr_model.specs.History.{History, IsLegal, by, state}
use Rattle.jr_world.specs.Doing.{Doing, Shared, step}
use Rattle.jr_world.specs.Doing as doing
use Rattle.jr_world.specs.Plays.{OthersGoOn, ActsNext, LeavesOthers, Plays, InStands}
use Rattle.jr_world.proofs.OpenParts.{does_in, moves_in}
use Rattle.jr_world.proofs.Standing.{is_of_gate}
use Rattle.one_order.specs.Orders.{Item}
use Rattle.one_order.specs.Orders.Item.{does as acting}

module _ {X A : Type 0} (c : Config) (whole : History) (t : ℕ) (V : History → Result A Fault → Type 0) (g : Frames)
    (behind : List (Item Act)) (act : doing.Act X) (next : Result X Fault → Doing A)
  where
    -- from what is shared the step answers so, leaves this, and what follows is played from there
    pub record Takes (s : Shared) (then : History) (f : Frames) (items : List (Item Act)) : Type 0 where
      pub answer : Result X Fault
      pub left : Shared
      pub is : act t true s ≡ (answer, left)
      pub stands : InStands c t then f left
      pub keeps : LeavesOthers t s left
      pub plays : Plays c whole t V g behind (next answer) then f items

    left_so : (s : Shared) (then : History) (f : Frames) (items : List (Item Act)) → Takes s then f items
        → InStands c t then f (act t true s).1 × LeavesOthers t s (act t true s).1
    left_so s then f items takes =
        subst (λ (z : Result X Fault × Shared). InStands c t then f z.1 × LeavesOthers t s z.1)
        (sym takes.is) (takes.stands, takes.keeps)

    goes_so : (s : Shared) (then : History) (f : Frames) (items : List (Item Act)) → Takes s then f items
        → Plays c whole t V g behind (next (act t true s).0) then f items
    goes_so s then f items takes = subst (λ (z : Result X Fault × Shared).
        Plays c whole t V g behind (next z.0) then f items) (sym takes.is) takes.plays

    -- the step is taken at any moment
    pub moves_so : (past : History) (f f' : Frames) (items : List (Item Act)) (last : ℕ) → IsLegal c last whole
        → (state past).role t ≡ Within
        → ((now : History) (s : Shared) → OthersGoOn c whole t past now → InStands c t now f s
        → Takes s now f' items)
        → Plays c whole t V g behind (step act next) past f items
    moves_so past f f' items last legal within takes = moves_in c last whole t legal within true f'
        (λ now s goes st. left_so s now f' items (takes now s goes st))
        (λ now s goes st. goes_so s now f' items (takes now s goes st))

    -- the step is taken at an act of the thread
    pub does_so : (past : History) (a : Act) (f f' : Frames) (items : List (Item Act)) (last : ℕ) → IsLegal c last whole
        → (state past).role t ≡ Within → is_of_gate a ≡ false
        → ((now : History) (s : Shared) → ActsNext c whole t past now a → InStands c t now f s
        → Takes s (now ++ by t a ∷ []) f' items)
        → Plays c whole t V g behind (step act next) past f (acting a ∷ items)
    does_so past a f f' items last legal within no_gate takes = does_in c last whole t legal within true a f' no_gate
        (λ now s next_is st. left_so s (now ++ by t a ∷ []) f' items (takes now s next_is st))
        (λ now s next_is st. goes_so s (now ++ by t a ∷ []) f' items (takes now s next_is st))
