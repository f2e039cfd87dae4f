-- What a call may do: its acts in order, its answer, and the frames that it leaves.
use Rattle.std.specs.Prelude.{◌≡◌, ◌⊎◌, ◌≤◌, ℕ, zero, suc, Bool, true, false, Some, Result}
use Rattle.std.specs.Prelude.{Ok, Err, MatchResult, IfErr, List, [], ◌∷◌, ◌++◌, length}
use Rattle.jr_word.specs.declared.kind.Kind.{Kind}
use Rattle.jr_word.specs.declared.fault.Fault.{Fault}
use Rattle.jr_word.specs.declared.fault.Fault.TheVariants.{Barred, Memory}
use Rattle.jr_model.specs.declared.event.Act.{Act}
use Rattle.jr_model.specs.declared.event.Act.TheVariants.{Gate}
use Rattle.jr_model.specs.declared.event.GateAct.TheVariants.{Enter, Knock, Leave, Withdraw}
use Rattle.jr_model.specs.State.{Contents, State}
use Rattle.jr_model.specs.History.{History, PassView, Did}
use Rattle.jr_model.specs.Frames.{Frames}
use Rattle.jr_model.specs.Windows.{IsWindow}
use Rattle.jr_model.specs.Refusals.{Grounds}

-- a call: from these frames it may have these acts, give this answer, and leave those frames
abbrev pub Call : Type 0 → Type 1
Call A = Frames → List Act → Result A Fault → Frames → Type 0

-- no act, and this answer or refusal
abbrev pub decided : {A : Type 0} → Result A Fault → Call A
decided r old acts answer new = (acts ≡ []) × (answer ≡ r) × (new ≡ old)

-- no act, and this answer
abbrev pub done : {A : Type 0} → A → Call A
done x = decided (Ok x)

-- no act, and this refusal
abbrev pub refuse : {A : Type 0} → Fault → Call A
refuse e = decided (Err e)

-- this one act
abbrev pub act : Act → Call (Unit {0})
act a old acts answer new = (acts ≡ a ∷ []) × (answer ≡ Ok tt) × (new ≡ old)

-- one act with some x, which is the answer
abbrev pub some_act : {X : Type 0} → (X → Act) → Call X
some_act {X} act old acts answer new = (x : X) × (acts ≡ act x ∷ []) × (answer ≡ Ok x) × (new ≡ old)

infixl 1 ◌>>=◌
infixl 1 ◌>>◌
-- one and then the other, with the answer of the one; a refusal ends the call
abbrev pub ◌>>=◌ : {A B : Type 0} → Call A → (A → Call B) → Call B
◌>>=◌ {A} first next old acts answer new =
    ((x : A) × (mid : Frames) × (front : List Act) × (rest : List Act) × (acts ≡ front ++ rest)
    × first old front (Ok x) mid × next x mid rest answer new)
    ⊎ ((e : Fault) × (answer ≡ Err e) × first old acts (Err e) new)

-- one and then the other
abbrev pub ◌>>◌ : {A B : Type 0} → Call A → Call B → Call B
◌>>◌ first next = first >>= (λ _. next)

-- one or the other
abbrev pub one_of : {A : Type 0} → Call A → Call A → Call A
one_of p q old acts answer new = p old acts answer new ⊎ q old acts answer new

-- the work, by so many acts at the most
abbrev pub at_most : {A : Type 0} → ℕ → Call A → Call A
at_most most work old acts answer new = (length acts ≤ most) × work old acts answer new

-- this refusal where the test holds, and else nothing
abbrev pub refuse_if : Bool → Fault → Call (Unit {0})
refuse_if true e = refuse e
refuse_if false e = done tt

-- the work, or no memory is left for so many elements; for none it is not asked
abbrev pub unless_memory_for : {A : Type 0} → ℕ → Call A → Call A
unless_memory_for zero work = work
unless_memory_for (suc n) work = one_of work (refuse Memory)

-- what follows for the kind and the length of the object in s
abbrev pub for_object : {A : Type 0} → State → ℕ → (Kind → ℕ → Call A) → Call A
for_object {A} s o next old acts answer new =
    (x : Contents) × (s.objects o ≡ Some x) × next x.kind (length x.words) old acts answer new

-- the work in a stay of its own, or the gate is shut
abbrev pub entered : {A : Type 0} → Call A → Call A
entered work old acts answer new =
    ((acts ≡ Gate Knock ∷ Gate Withdraw ∷ []) × (answer ≡ Err Barred) × (new ≡ old))
    ⊎ ((inside : List Act) × (acts ≡ Gate Enter ∷ inside ++ Gate Leave ∷ []) × work old inside answer new)

-- the same, but the stay goes on where the work is not refused
abbrev pub opened : {A : Type 0} → Call A → Call A
opened work old acts answer new =
    ((acts ≡ Gate Knock ∷ Gate Withdraw ∷ []) × (answer ≡ Err Barred) × (new ≡ old))
    ⊎ ((inside : List Act) × MatchResult answer (λ x. (acts ≡ Gate Enter ∷ inside) × work old inside answer new) (λ e.
    (acts ≡ Gate Enter ∷ inside ++ Gate Leave ∷ []) × work old inside answer new))

-- A CALL THAT WAS MADE: between two moments of a pass and its frames the thread did what the call does,
-- with this answer. The call has its window, and a refusal that speaks of the room has its grounds there
pub record Ran {A : Type 0} (old new : PassView) (before after : Frames) (call : Call A)
    (answer : Result A Fault) : Type 0 where
  pub acts : List Act
  pub did : Did old new acts
  pub is : call before acts answer after
  pub begun : History
  pub window : IsWindow old new acts begun
  pub grounds : IfErr answer (Grounds begun new)
