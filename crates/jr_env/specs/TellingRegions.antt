-- How a critical region is opened over an env by who tells of refusals.
use Rattle.std.specs.Prelude.{◌≡◌, ℕ, Option, None, false, Result, Ok, Err, IfOk, IfErr, List, [], ◌∷◌, codes}
use Rattle.jr_word.specs.declared.fault.Fault.{Fault}
use Rattle.jr_steps.specs.declared.steps.Steps as steps
use Rattle.jr_critical.specs.declared.levels.Levels.{Levels}
use Rattle.jr_env.specs.declared.env.Env.{Env}
use Rattle.jr_env.specs.declared.critical_region.Region.{Region}
use Rattle.jr_env.specs.declared.levels_beside.First.{First}
use Rattle.jr_env.specs.declared.levels_beside.First.TheVariants.{Array, Text}
use Rattle.jr_env.specs.declared.patience.Patience.{Patience}
use Rattle.jr_env.specs.declared.span.Span.{Span}
use Rattle.jr_env.specs.TellingCalls.{RefusalTold}
use Rattle.jr_env.specs.Retried.{TriesAgainToOpen, first_word}

-- no further try
abbrev pub once : Patience
once = record { more = 0; yields = false; waits_for_room = false }

-- the call that opens a region with this first level
abbrev pub opening_name : First → List ℕ
opening_name (Array h) = codes "GetPrimitiveArrayCritical"
opening_name (Text h) = codes "GetStringCritical"

module _ {N S : Type 0} {G : steps.Ghosts S} (approached : N → N → Type 0) (env_in : N → Env S G)
    (with_env : N → Env S G → N) where
  -- a region was to be opened: what comes before it was done, and then the env beneath tried as long as there was
  -- patience
  abbrev pub OpensBeneath : Patience → First → N → Result Levels Fault → N → Type 0
  OpensBeneath p first old answer new = (mid : N) × (left : Env S G) × approached old mid
      × TriesAgainToOpen p first (env_in mid) answer left × (new ≡ with_env mid left)

module _ {N S : Type 0} {G : steps.Ghosts S} (told : N → N → List ℕ → List ℕ → Option Span → Fault → Type 0)
    (approached : N → N → Type 0) (env_in : N → Env S G) (with_env : N → Env S G → N) where
  -- A REGION WAS TO BE OPENED, with patience; and of the answer it was told, where it is a refusal
  pub record OpensTold (p : Patience) (first : First) (old new : N) (answer : Result Levels Fault) : Type 0 where
    pub left : N
    pub opens : OpensBeneath approached env_in with_env p first old answer left
    pub tells : RefusalTold told left new (opening_name first) (first_word first ∷ []) None answer

  -- A REGION STANDS OVER SOMEBODY WHO WAS LEFT SO, but for the env, which the region has;
  -- or none was opened, and somebody was left and told so
  abbrev pub OpensRegion : Patience → First → N → Result (Region S G) Fault → Type 0
  OpensRegion p first old answer =
      IfOk answer (λ r. (left : N) × OpensTold p first old left (Ok r.levels) × (r.env.now ≡ env_in left))
      × IfErr answer (λ e. (left : N) × OpensTold p first old left (Err e))
