-- What is told of a word that native code hands in, from one moment of its pass and frames to another.
use Rattle.std.specs.Prelude.{ℕ, Result}
use Rattle.jr_word.specs.declared.fault.Fault.{Fault}
use Rattle.jr_model.specs.Checks.{Word}
use Rattle.jr_steps.specs.declared.steps.Steps.{Ghosts}
use Rattle.jr_frames.specs.declared.explaining.Explanation.{Explanation}
use Rattle.jr_frames.specs.declared.held.Held.{Held}
use Rattle.jr_frames.specs.Explaining.{IsExplained}
use Rattle.jr_frames.specs.Reading.{IsReadAs}
use Rattle.jr_env.specs.Deeds.{Deed, DoesOutside}
use Rattle.jr_env.specs.Seeing.{Telling, seen_by_call, seen_in_stay}

-- what a word is explained as: the answer was so at its one look, or at a moment in between where the word needs none
abbrev pub explanation_of : Word → Telling Explanation
explanation_of a c thread f s e = IsExplained c thread f s a e

-- a word was explained by a call: its entry, its one look, if it needs one, and its exit;
-- and it took one operation more at the most
abbrev pub explained_by_call : Word → Deed Explanation
explained_by_call a = seen_by_call (explanation_of a) a

-- the same in a stay, without an entry and an exit
abbrev pub explained_in_stay : Word → Deed Explanation
explained_in_stay a = seen_in_stay (explanation_of a) a

-- WHAT A WORD IS, that native code hands in
abbrev pub explain : ℕ → Deed Explanation
explain w old answer new = (a : Word) × IsReadAs w a × explained_by_call a old answer new

-- the same in a stay
abbrev pub explaining : ℕ → Deed Explanation
explaining w old answer new = (a : Word) × IsReadAs w a × explained_in_stay a old answer new

-- THE WORD WAS EXPLAINED over what a thread holds, by a call of its own, with this answer
abbrev pub ExplainsOver : {S : Type 0} {G : Ghosts S} → Held S G → Held S G → Word → Result Explanation Fault → Type 0
ExplainsOver {G = G} old new a answer =
    DoesOutside G.facts old.steps new.steps old.frames.frames new.frames.frames (explained_by_call a) answer
