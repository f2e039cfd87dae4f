-- Where native code begins in a thread of a room, and what it may say of itself from there.
use Rattle.std.specs.Prelude.{◌≡◌, ℕ, false, Ok, []}
use mathlib.Core.List.{IsPrefix}
use Rattle.jr_word.specs.declared.config.Config.{Config}
use Rattle.jr_model.specs.declared.event.Role.TheVariants.{Outside}
use Rattle.jr_model.specs.Frames.{Frames, fresh_frames}
use Rattle.jr_model.specs.History.{History}
use Rattle.jr_steps.specs.declared.known.Known.{Known}
use Rattle.jr_steps.specs.declared.steps.Steps.{Ghosts}
use Rattle.jr_steps.specs.Holdings.{empty}
use Rattle.jr_steps.specs.Knowing.{Facts}
use Rattle.jr_gate.specs.Performing.{HasLearned}
use Rattle.jr_env.specs.declared.env.Env.{Env}
use Rattle.jr_env.specs.Deeds.{Deed}

-- what is known before the first step: the thread has seen nothing, holds nothing, and took no operation
abbrev pub nothing_yet : Config → ℕ → ℕ → Known
nothing_yet c last t = record { config = c; last = last; thread = t; seen = []; holdings = empty; taken = 0 }

-- THE STEPS HAVE DONE NOTHING: they are the thread's, in a room of these sizes and this last serial, and it stands
-- outside; nothing else need be known than that it did nothing, and its first search for a free slot begins at slot 0
pub record HaveDoneNothing {S : Type 0} (facts : S → Facts) (c : Config) (last t : ℕ) (s : S) : Type 0 where
  pub config : (facts s).stands.config ≡ c
  pub last_is : (facts s).stands.last ≡ last
  pub thread : (facts s).stands.thread ≡ t
  pub outside : (facts s).stands.role ≡ Outside
  pub hint : (facts s).hint ≡ 0
  pub knows : (facts s).knows (nothing_yet c last t)

-- and the pass is spent, and the frames are those with which a thread begins
pub record HasBegun {S : Type 0} (facts : S → Facts) (c : Config) (last t : ℕ) (s : S) (f : Frames) : Type 0 where
  pub steps : HaveDoneNothing facts c last t s
  pub spent : (facts s).stands.fresh ≡ false
  pub frames : f ≡ fresh_frames c.locals

-- THE ENV STANDS AT ITS START, in the thread of this number, in a room of these sizes with the greatest last serial
abbrev pub IsAtStart : {S : Type 0} {G : Ghosts S} → Config → ℕ → Env S G → Type 0
IsAtStart {G = G} c t env = HasBegun G.facts c 4294967295 t env.held.steps env.held.frames.frames

-- A MESSAGE WAS TAKEN OVER, which says this of what its thread had seen,
-- and its note was learned: all that its thread had seen is seen
abbrev pub takes_over : {A : Type 0} → (A → Config → History → Type 0) → Deed A
takes_over {A} says old answer new = (x : A) × (answer ≡ Ok x) × (noted : History)
    × ∥ says x old.pass.config noted ∥₁ × IsPrefix noted new.pass.seen × HasLearned old new
