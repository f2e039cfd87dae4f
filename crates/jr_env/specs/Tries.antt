-- Calls that are made again, and those that are made again behind a collection.
use Rattle.std.specs.Prelude.{◌≡◌, ◌||◌, ℕ, suc, Bool, true, false, Result, Ok, Err}
use Rattle.std.specs.Fn.{CalledAtMut, Mut}
use denote.Ref.{MutBor}
use Rattle.jr_word.specs.declared.fault.Fault.{Fault}
use Rattle.jr_word.specs.declared.fault.Fault.TheVariants as fault
use Rattle.jr_env.specs.Collections.{collection}
use Rattle.jr_env.specs.Deeds.{Deed}

-- a call with this answer is made again at once:
-- it was raced or barred, or another thread went in or out while it announced
abbrev pub is_tried_again : {A : Type 0} → Result A Fault → Bool
is_tried_again (Err (fault.Raced l f)) = true
is_tried_again (Err fault.Barred) = true
is_tried_again (Err (fault.Moved l f)) = true
is_tried_again _ = false

-- a call with this answer is made again behind a collection: it lacked words, or the number of an object
abbrev pub lacks_room : {A : Type 0} → Result A Fault → Bool
lacks_room (Err (fault.SpaceFull u)) = true
lacks_room (Err fault.ObjectsFull) = true
lacks_room _ = false

-- an answer is worth another try:
-- it is one that is made again at once, or lacked room where another thread is to make some meanwhile
abbrev pub is_worth_a_try : {A : Type 0} → Bool → Result A Fault → Bool
is_worth_a_try false answer = is_tried_again answer
is_worth_a_try true answer = is_tried_again answer || lacks_room answer

-- A CALL WAS MADE, AND AGAIN as long as its answer was worth another try, but no more than so many times:
-- the last answer is the answer
pub data MadeAgain {M A : Type 0} (waits : Bool) (one : M → Result A Fault → M → Type 0) : ℕ → M → Result A Fault → M
    → Type 0 where
  settled : {more : ℕ} {old new : M} {answer : Result A Fault} → one old answer new
      → is_worth_a_try waits answer ≡ false → MadeAgain waits one more old answer new
  once_more : {more : ℕ} {old mid new : M} {once answer : Result A Fault} → one old once mid
      → is_worth_a_try waits once ≡ true → MadeAgain waits one more mid answer new
      → MadeAgain waits one (suc more) old answer new
  the_last : {old new : M} {answer : Result A Fault} → one old answer new → MadeAgain waits one 0 old answer new

-- the deed of a call, done again up to so many times
abbrev pub made_again : {A : Type 0} → Bool → ℕ → Deed A → Deed A
made_again waits more one = MadeAgain waits one more

-- A CLOSURE WAS CALLED, AND AGAIN up to so many times, each call
-- at what the one before left behind the `&mut` and of the closure
abbrev pub CalledAgain : {F E T : Type 0} → Mut F (MutBor E × Unit {0}) (Result T Fault × (MutBor E × Unit {0})) → Bool
    → ℕ → F × E → Result T Fault → F × E → Type 0
CalledAgain g waits more = MadeAgain waits (λ old answer new. CalledAtMut g old.0 old.1 answer new.0 new.1) more

-- A CALL WAS MADE, WITH ONE COLLECTION BETWEEN where it lacked room, and then once more;
-- where the collection was kept out, that is the answer
pub data MadeCollecting {M A C : Type 0} (call : M → Result A Fault → M → Type 0)
    (collects : M → Result C Fault → M → Type 0) : M → Result A Fault → M → Type 0 where
  served : {old new : M} {answer : Result A Fault} → call old answer new → lacks_room answer ≡ false
      → MadeCollecting call collects old answer new
  collected : {old mid next new : M} {once answer : Result A Fault} {c : C} → call old once mid → lacks_room once ≡ true
      → collects mid (Ok c) next → call next answer new → MadeCollecting call collects old answer new
  kept_out : {old mid new : M} {once : Result A Fault} {e : Fault} → call old once mid → lacks_room once ≡ true
      → collects mid (Err e) new → MadeCollecting call collects old (Err e) new

-- the deed of a call, with a collection between, each time done again up to so many times
abbrev pub made_collecting : {A : Type 0} → Bool → ℕ → Deed A → Deed A
made_collecting waits more one = MadeCollecting (made_again waits more one) collection
