-- Answers as C sees them.
use Rattle.std.specs.Prelude.{ℕ, Bool, true, false, Option, Some, None, Result, Ok, Err}
use Rattle.jr_word.specs.declared.handle.Handle.{Handle as HandleWord}
use Rattle.jr_word.specs.declared.fault.Fault.{Fault}
use Rattle.jr_word.specs.declared.fault.Fault.TheVariants.{SpaceFull, Raced, Busy, LeftInside, Moved}
use Rattle.jr_word.specs.Fault.{fault_number}
use Rattle.luthrady.specs.declared.reply.Reply.{Reply}

-- the number that a refusal has beside its own, the first where it has two, 0 where it has none
abbrev pub told_beside : Fault → ℕ
told_beside (SpaceFull found) = found
told_beside (Raced looked found) = looked
told_beside (Busy threads) = threads
told_beside (LeftInside threads) = threads
told_beside (Moved looked found) = looked
told_beside _ = 0

-- the second number that a refusal has beside its own, 0 where it has none
abbrev pub found_beside : Fault → ℕ
found_beside (Raced looked found) = found
found_beside (Moved looked found) = found
found_beside _ = 0

-- THE REPLY for an answer, whose number this is:
-- a refusal has its number and the two that it tells, and an answer has no refusal's number
abbrev pub reply_of : {A : Type 0} → (A → ℕ) → Result A Fault → Reply
reply_of word (Ok a) = record { value = word a; fault = 0; told = 0; found = 0 }
reply_of word (Err e) =
    record { value = 0; fault = fault_number e; told = told_beside e; found = found_beside e }

-- the number of a number
abbrev pub the_number : ℕ → ℕ
the_number n = n

-- the number of a reference: its word
abbrev pub the_word : HandleWord → ℕ
the_word h = h.0

-- the number of a reference or none: its word, or NULL
abbrev pub word_or_null : Option HandleWord → ℕ
word_or_null (Some h) = h.0
word_or_null None = 0

-- the number of a yes or a no
abbrev pub zero_or_one : Bool → ℕ
zero_or_one true = 1
zero_or_one false = 0

-- the number of nothing
abbrev pub nothing_told : Unit {0} → ℕ
nothing_told u = 0
