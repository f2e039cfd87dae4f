-- How many words of array space are used, as one look tells it.
use Rattle.std.specs.Prelude.{◌≡◌, ℕ, Result}
use Rattle.jr_word.specs.declared.fault.Fault.{Fault}
use Rattle.jr_model.specs.Checks.{Nothing}
use Rattle.jr_steps.specs.declared.steps.Steps.{Ghosts}
use Rattle.jr_frames.specs.declared.held.Held.{Held}
use Rattle.jr_env.specs.Deeds.{Deed, DoesOutside}
use Rattle.jr_env.specs.Seeing.{SeesSo, Telling, seen_by_call, seen_in_stay}

-- so many words are used
abbrev pub AreUsed : Telling ℕ
AreUsed c thread f s n = s.used ≡ n

-- THE WORDS THAT ARE USED were so many at a moment since the thread's step before, and before the exit: the call
-- enters and leaves, by one operation more at the most
abbrev pub words_used : Deed ℕ
words_used = seen_by_call AreUsed Nothing

-- the same in a stay
abbrev pub words_used_within : Deed ℕ
words_used_within = seen_in_stay AreUsed Nothing

module _ {S : Type 0} {G : Ghosts S} where
  -- they were told over what a thread holds, by a call of its own, with this answer
  abbrev pub TellsUsedOver : Held S G → Held S G → Result ℕ Fault → Type 0
  TellsUsedOver old new answer =
      DoesOutside G.facts old.steps new.steps old.frames.frames new.frames.frames words_used answer

  -- and in a stay
  abbrev pub TellsUsedWithin : Held S G → Held S G → ℕ → Type 0
  TellsUsedWithin old new n = SeesSo G.facts AreUsed old.steps new.steps old.frames.frames Nothing n
