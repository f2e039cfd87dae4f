-- What is done about a room that is full: collections that are announced until one gets its turn, a call that is made
-- again behind one, and the deletion of a weak reference that is cleared.
use Rattle.std.specs.Prelude.{ℕ, suc, Bool, true, false, Result, Ok, Err}
use Rattle.jr_word.specs.declared.fault.Fault.{Fault}
use Rattle.jr_word.specs.declared.handle.RefKind.TheVariants.{Weak}
use Rattle.jr_weak.specs.declared.collecting.Collected.{Collected}
use Rattle.jr_env.specs.Collections.{announced_collection}
use Rattle.jr_env.specs.Deeds.{Deed, delete_reference, done, is_same_object, ◌>>=◌, ◌>>◌}
use Rattle.jr_env.specs.Tries.{MadeCollecting, made_again}

-- A CALL WAS MADE, AND AGAIN as long as it was refused, whatever the refusal,
-- but no more than so many times: the last answer is the answer
pub data MadeUntilServed {M A : Type 0} (one : M → Result A Fault → M → Type 0) : ℕ → M → Result A Fault → M → Type 0
  where
    served_now : {more : ℕ} {old new : M} {x : A} → one old (Ok x) new → MadeUntilServed one more old (Ok x) new
    refused_once : {more : ℕ} {old mid new : M} {e : Fault} {answer : Result A Fault} → one old (Err e) mid
        → MadeUntilServed one more mid answer new → MadeUntilServed one (suc more) old answer new
    tried_last : {old new : M} {answer : Result A Fault} → one old answer new → MadeUntilServed one 0 old answer new

-- a collection is announced, and again up to so many times as long as it gets no turn
abbrev pub collection_in_turn : ℕ → ℕ → Deed Collected
collection_in_turn tries more = MadeUntilServed (announced_collection tries) more

-- the deed of a call, with such a collection between where it lacked room, each time done again up to so many times
abbrev pub made_collecting_in_turn : {A : Type 0} → ℕ → Bool → ℕ → Deed A → Deed A
made_collecting_in_turn tries waits more one =
    MadeCollecting (made_again waits more one) (collection_in_turn tries more)

-- a weak reference is deleted where it was found cleared: whether it was
abbrev pub deleting_where : Bool → ℕ → ℕ → Bool → Deed Bool
deleting_where waits more w true = do
  made_again waits more (delete_reference Weak w)
  done true
deleting_where waits more w false = done false

-- a weak reference is compared with NULL, and deleted where it is cleared
abbrev pub deleting_cleared : Bool → ℕ → ℕ → Deed Bool
deleting_cleared waits more w = do
  cleared ← made_again waits more (is_same_object w 0)
  deleting_where waits more w cleared
