-- Calls of scripts that are made again.
use Rattle.std.specs.Prelude.{◌≡◌, ℕ, suc, true, false, if◌then◌else◌, Result, Ok, Err}
use Rattle.std.specs.Fn.{CalledAtMut, Mut}
use denote.Ref.{MutBor}
use Rattle.jr_word.specs.declared.fault.Fault.{Fault}
use Rattle.jr_word.specs.declared.fault.Fault.TheVariants as fault
use Rattle.jr_env.specs.declared.patience.Patience.{Patience}
use Rattle.jr_env.specs.Tries.{is_tried_again}

-- up to so many tries, until one is answered otherwise; and else the turns ran out
pub data Tried {M A : Type 0} (one : M → Result A Fault → M → Type 0) : ℕ → M → Result A Fault → M → Type 0 where
  answered : {n : ℕ} {old new : M} {answer : Result A Fault} → one old answer new → is_tried_again answer ≡ false
      → Tried one (suc n) old answer new
  again : {n : ℕ} {old mid new : M} {once answer : Result A Fault} → one old once mid → is_tried_again once ≡ true
      → Tried one n mid answer new → Tried one (suc n) old answer new
  gave_up : {old : M} → Tried one 0 old (Err fault.Turns) old

-- a closure was called up to so many times, each call
-- at what the one before left behind the `&mut` and of the closure
abbrev pub CalledInTurns : {F E T : Type 0} → Mut F (MutBor E × Unit {0}) (Result T Fault × (MutBor E × Unit {0})) → ℕ
    → F × E → Result T Fault → F × E → Type 0
CalledInTurns g turns = Tried (λ old answer new. CalledAtMut g old.0 old.1 answer new.0 new.1) turns

-- the patience for so many turns: a turn, and as many tries more as there are turns behind it,
-- none for want of room, and no yield between them; and where there is no turn the turns ran out
abbrev pub IsPatienceFor : ℕ → Result Patience Fault → Type 0
IsPatienceFor turns (Ok p) = (turns ≡ suc p.more) × (p.waits_for_room ≡ false) × (p.yields ≡ false)
IsPatienceFor turns (Err e) = (turns ≡ 0) × (e ≡ fault.Turns)

-- the refusal of a call that is made no more: the turns ran out where it would be made again
abbrev pub last_refusal : Fault → Fault
last_refusal e = if is_tried_again {A = Unit {0}} (Err e) then fault.Turns else e
