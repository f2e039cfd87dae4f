-- What one look tells, from one moment of a pass and its frames to another.
use Rattle.std.specs.Prelude.{ℕ, Ok, IfOk}
use Rattle.jr_word.specs.declared.config.Config.{Config}
use Rattle.jr_model.specs.State.{State}
use Rattle.jr_model.specs.Frames.{Frames}
use Rattle.jr_model.specs.Calls.{entered}
use Rattle.jr_model.specs.Checks.{Word}
use Rattle.jr_steps.specs.Knowing.{Facts, Holds, view}
use Rattle.jr_gate.specs.Performing.{Performed, ThreadState}
use Rattle.jr_frames.specs.Explaining.{WasSeen, glance}
use Rattle.jr_env.specs.Deeds.{Deed, call_by, within_by}

-- what is told of the sizes of a room, of a thread with its frames, and of a state
abbrev pub Telling : Type 0 → Type 1
Telling A = Config → ℕ → Frames → State → A → Type 0

-- this was so at the one look that the word needs, or at a moment in between where it needs none
abbrev pub WasSeenSo : {A : Type 0} → Telling A → Word → ThreadState → A → ThreadState → Type 0
WasSeenSo so a old x new =
    WasSeen old.pass.config a (λ s. so old.pass.config old.pass.thread old.frames s x) old.pass new.pass

-- it was told by a call: its entry, the one look that the word needs, if it needs one, and its exit;
-- and it took one operation more at the most
abbrev pub seen_by_call : {A : Type 0} → Telling A → Word → Deed A
seen_by_call so a old answer new = call_by (λ c. 1) (λ c last t s. entered (glance c a)) old answer new
    × IfOk answer (λ x. WasSeenSo so a old x new)

-- the same in a stay, without an entry and an exit
abbrev pub seen_in_stay : {A : Type 0} → Telling A → Word → Deed A
seen_in_stay so a old answer new = within_by (λ c. 1) (λ c last t s. glance c a) old answer new
    × IfOk answer (λ x. WasSeenSo so a old x new)

-- and over any steps, within a stay
abbrev pub SeesSo : {S A : Type 0} → (S → Facts) → Telling A → S → S → Frames → Word → A → Type 0
SeesSo facts so old new f a x =
    Performed facts old new f f 1 (Holds f) (λ s. glance (facts old).stands.config a) (Ok x) (λ j k.
    WasSeen (facts old).stands.config a (λ s. so (facts old).stands.config (facts old).stands.thread f s x) (view j)
    (view k) × Holds f k)
