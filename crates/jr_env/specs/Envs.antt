-- What a call of an env did.
use Rattle.std.specs.Prelude.{◌≡◌, Result}
use Rattle.jr_word.specs.declared.fault.Fault.{Fault}
use Rattle.jr_model.specs.declared.event.Role.{Role}
use Rattle.jr_model.specs.declared.event.Role.TheVariants.{Outside}
use Rattle.jr_model.specs.Frames.{Frames}
use Rattle.jr_steps.specs.declared.known.Known.{Known}
use Rattle.jr_steps.specs.declared.steps.Steps.{Ghosts}
use Rattle.jr_steps.specs.Knowing.{Holds}
use Rattle.jr_env.specs.declared.env.Env.{Env}
use Rattle.jr_env.specs.Deeds.{CarriedOut, Deed, DoesOutside}

-- THE THREAD STANDS OUTSIDE, as it does wherever no region of the env stands
abbrev pub IsOutside : {S : Type 0} {G : Ghosts S} → Env S G → Type 0
IsOutside {G = G} env = (G.facts env.held.steps).stands.role ≡ Outside

-- THE DEED WAS DONE from the one to the other, with this answer:
-- where this was known with the frames, that is, and the thread has the role
abbrev pub WasDoneFrom : {S A : Type 0} {G : Ghosts S} → Env S G → Env S G → (Frames → Known → Type 0)
    → (Frames → Known → Type 0) → Role → Deed A → Result A Fault → Type 0
WasDoneFrom {G = G} old new met shown role deed answer =
    CarriedOut G.facts old.held.steps new.held.steps old.held.frames.frames new.held.frames.frames role
    (met old.held.frames.frames) (shown new.held.frames.frames) deed answer

-- the same, where the thread keeps its role and nothing but its frames is told of
abbrev pub WasDone : {S A : Type 0} {G : Ghosts S} → Env S G → Env S G → Deed A → Result A Fault → Type 0
WasDone {G = G} old new deed answer =
    CarriedOut G.facts old.held.steps new.held.steps old.held.frames.frames new.held.frames.frames
    (G.facts old.held.steps).stands.role (Holds old.held.frames.frames) (Holds new.held.frames.frames) deed answer

-- THE CALL DID THE DEED, with this answer: from where the thread stood outside, or once it had
-- made the exit from a stay that a region left; and afterwards it stands outside in any case
abbrev pub Does : {S A : Type 0} {G : Ghosts S} → Env S G → Env S G → Deed A → Result A Fault → Type 0
Does {G = G} old new deed answer =
    DoesOutside G.facts old.held.steps new.held.steps old.held.frames.frames new.held.frames.frames deed answer
