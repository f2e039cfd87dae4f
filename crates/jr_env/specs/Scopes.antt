-- A closure that runs in a frame of local references of its own, over a copy of an array's elements, or in a critical
-- region.
use Rattle.std.specs.Prelude.{◌≡◌, ℕ, List, Option, Result, Ok, Err, length}
use Rattle.std.specs.Fn.{FnOnceReturnsAtMut, Once}
use Rattle.std.specs.List.{refill}
use denote.Ref.{MutBor}
use Rattle.jr_word.specs.declared.fault.Fault.{Fault}
use Rattle.jr_word.specs.declared.handle.Handle.{Handle}
use Rattle.jr_env.specs.declared.copying.Unreleased.{Unreleased}
use Rattle.jr_env.specs.declared.copying.Unreleased.TheVariants.{NotCopied, NotReleased}
use Rattle.jr_env.specs.declared.scope.Unscoped.{Unscoped}
use Rattle.jr_env.specs.declared.scope.Unscoped.TheVariants.{NotOpened, NotPopped}

-- the one holds of a frame that was not opened, the other of what was answered in a frame that was not popped
abbrev pub IfUnscoped : {T : Type 0} → (Fault → Type 0) → (T → Fault → Type 0) → Unscoped T → Type 0
IfUnscoped opening popping (NotOpened e) = opening e
IfUnscoped opening popping (NotPopped x e) = popping x e

-- the refusal in it
abbrev pub refusal_in : {T : Type 0} → Unscoped T → Fault
refusal_in (NotOpened e) = e
refusal_in (NotPopped x e) = e

-- A CLOSURE RAN IN A FRAME OF ITS OWN, with this answer:
-- the frame was opened, the closure called once, and the frame popped, for this word, with this outcome
abbrev pub RanInFrame : {E F T : Type 0} → (E → E → ℕ → Result (Unit {0}) Fault → Type 0)
    → (E → E → ℕ → Result (Option Handle) Fault → Type 0) → Once F (MutBor E × Unit {0}) (T × (MutBor E × Unit {0}))
    → F → E → E → ℕ → T → ℕ → Result (Option Handle) Fault → Type 0
RanInFrame {E} opens closes g body old new capacity x kept popped = (begun : E) × (left : E)
    × opens old begun capacity (Ok tt) × FnOnceReturnsAtMut g body begun x left × closes left new kept popped

-- the word that a frame is popped for: that of the answer, and of NULL where the closure gave up
abbrev pub kept_word : Result Handle Fault → ℕ
kept_word (Ok h) = h.0
kept_word (Err e) = 0

-- A CLOSURE RAN IN A FRAME OF ITS OWN, which was popped for the reference that it answered
abbrev pub RanReturning : {E F : Type 0} → (E → E → ℕ → Result (Unit {0}) Fault → Type 0)
    → (E → E → ℕ → Result (Option Handle) Fault → Type 0)
    → Once F (MutBor E × Unit {0}) (Result Handle Fault × (MutBor E × Unit {0}))
    → F → E → E → ℕ → Result Handle Fault → Result (Option Handle) Fault → Type 0
RanReturning opens closes g body old new capacity x popped = (kept : Handle) × (kept.0 ≡ kept_word x)
    × RanInFrame opens closes g body old new capacity x kept.0 popped

-- what is handed on: the reference in the frame below, and where the closure gave up, its refusal
abbrev pub handed_on : Result Handle Fault → Option Handle → Result (Option Handle) Fault
handed_on (Ok h) below = Ok below
handed_on (Err e) below = Err e

-- the one holds of elements that were not copied out, the other of an answer, and of elements that were not released
abbrev pub IfUnreleased : {T V : Type 0} → (Fault → Type 0) → (T → V → Fault → Type 0) → Unreleased T V → Type 0
IfUnreleased copying releasing (NotCopied e) = copying e
IfUnreleased copying releasing (NotReleased x left e) = releasing x left e

-- the refusal in it
abbrev pub refusal_of_copy : {T V : Type 0} → Unreleased T V → Fault
refusal_of_copy (NotCopied e) = e
refusal_of_copy (NotReleased x left e) = e

-- A CLOSURE RAN OVER A COPY, with this answer: the elements were copied out, the closure was called once with a slice
-- of them, and they were released with what the slice showed then, as many as they were, with this outcome
abbrev pub RanOverCopy : {M F V T R : Type 0} → (M → Result (List V) Fault → M → Type 0)
    → (List V → M → R → M → Type 0) → Once F (MutBor (List V) × Unit {0}) (T × (MutBor (List V) × Unit {0})) → F → M
    → M → T → List V → R → Type 0
RanOverCopy {M} {V = V} copies releases g body old new x left released = (begun : M) × (copied shown : List V)
    × copies old (Ok copied) begun × FnOnceReturnsAtMut g body copied x shown
    × (left ≡ refill (length copied) copied shown) × releases left begun released new

-- A CLOSURE RAN IN A REGION, with this answer: it was called once, and what it left of the region was ended
abbrev pub RanInRegion : {R F T L : Type 0} → (R → L → Type 0)
    → Once F (MutBor R × Unit {0}) (T × (MutBor R × Unit {0})) → F → R → T → L → Type 0
RanInRegion {R} ended g body region x lent = (left : R) × FnOnceReturnsAtMut g body region x left × ended left lent
