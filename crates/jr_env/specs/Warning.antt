-- What an env did that warns before words of its room or places for local references run out: the call, and of what is
-- left behind it what its warner is told.
use Rattle.std.specs.Prelude.{◌≡◌, ◌⊎◌, ◌-◌, ◌&&◌, ℕ, Bool, true, false, nat_lt, Result, Ok, Err, List}
use Rattle.jr_word.specs.declared.fault.Fault.{Fault}
use Rattle.jr_model.specs.Frames.{free_places}
use Rattle.jr_steps.specs.declared.steps.Steps.{Ghosts}
use Rattle.jr_env.specs.declared.demand.Demand.{Demand}
use Rattle.jr_env.specs.declared.demand.Demand.TheVariants.{Nothing, Slot, Object}
use Rattle.jr_env.specs.declared.env.Env.{Env}
use Rattle.jr_env.specs.declared.warned.Scarce.{Scarce}
use Rattle.jr_env.specs.declared.warned.Scarce.TheVariants.{Words, Locals}
use Rattle.jr_env.specs.declared.warned.Shortage.{Shortage}
use Rattle.jr_env.specs.declared.warned.Warned.{Warned}
use Rattle.jr_env.specs.Deeds.{in_a_stay, whole}
use Rattle.jr_env.specs.Demands.{Demands}
use Rattle.jr_env.specs.Envs.{Does, IsOutside}
use Rattle.jr_env.specs.LentStays.{DoesInside, WasBarred, WasEntered}
use Rattle.jr_env.specs.OpenStays.{EndsAsOneStay, LeavesOver}
use Rattle.jr_env.specs.Requests.{Request, request_name}
use Rattle.jr_env.specs.UsedWords.{words_used_within}

-- whether a call that asks this of the room takes words of it
abbrev pub takes_words : Demand → Bool
takes_words Nothing = false
takes_words Slot = false
takes_words (Object n) = nat_lt 0 n

module _ {S : Type 0} {G : Ghosts S} where
  -- how many places for local references are left to the env's thread
  abbrev pub places_left : Env S G → ℕ
  places_left env = free_places env.held.frames.last env.held.frames.frames

  -- A CALL WAS MADE IN A STAY OF ITS OWN, and a look in the same stay told how many words were used behind it:
  -- by one entry and one exit
  pub record MadeSeeing {A : Type 0} (old new : Env S G) (request : Request A) (answer : Result A Fault) (used : ℕ)
      : Type 0 where
    pub begun : Env S G
    pub left : Env S G
    pub seen : Env S G
    pub enters : WasEntered old begun
    pub call : DoesInside begun left (in_a_stay request) answer
    pub looks : DoesInside left seen words_used_within (Ok used)
    pub leaves : LeavesOver seen.held new.held
    pub one_stay : EndsAsOneStay seen.held new.held
    pub frames : new.held.frames ≡ seen.held.frames
    pub outside : IsOutside new

module _ {S : Type 0} {G : Ghosts S} {W : Type 0} where
  -- the warned env with this env beneath
  abbrev pub over_env : Warned S W G → Env S G → Warned S W G
  over_env warned beneath = record warned { env = record warned.env { now = beneath } }

  -- THE ENV DID THIS, and the warner was told nothing
  pub record ActsUnwarned (act : Env S G → Env S G → Type 0) (old new : Warned S W G) : Type 0 where
    pub same_reference : new.env.ghost_name ≡ old.env.ghost_name
    pub warner : new.warner ≡ old.warner
    pub reserve : new.reserve ≡ old.reserve
    pub acts : act old.env.now new.env.now

module _ {W : Type 0} (warns : W → W → Shortage → Type 0) where
  -- the warner was told of this thread's call, what runs short, and how much of it is left
  pub record HasWarned (thread : ℕ) (name : List ℕ) (scarce : Scarce) (left : ℕ) (old new : W) : Type 0 where
    pub shortage : Shortage
    pub heard : warns old new shortage
    pub whose : shortage.thread ≡ thread
    pub which : shortage.call.now ≡ name
    pub what : shortage.scarce ≡ scarce
    pub much : shortage.left ≡ left

  -- so it was where it is short, and else it was told nothing
  abbrev pub WarnsWhere : Bool → (thread : ℕ) → (name : List ℕ) → Scarce → (left : ℕ) → W → W → Type 0
  WarnsWhere true thread name scarce left old new = HasWarned thread name scarce left old new
  WarnsWhere false thread name scarce left old new = new ≡ old

module _ {S : Type 0} {G : Ghosts S} {W : Type 0} (warns : W → W → Shortage → Type 0) where
  -- THE WARNER WAS TOLD just where this is short, and nothing else was done
  pub record WarnsIf (short : Bool) (name : List ℕ) (scarce : Scarce) (left : ℕ) (old new : Warned S W G)
      : Type 0 where
    pub same_reference : new.env.ghost_name ≡ old.env.ghost_name
    pub same_env : new.env.now ≡ old.env.now
    pub reserve : new.reserve ≡ old.reserve
    pub told : WarnsWhere warns short (G.facts new.env.now.held.steps).stands.thread name scarce left old.warner
        new.warner

  -- just where fewer words are left beside so many than the reserve
  abbrev pub WarnsOfWords : (name : List ℕ) → (used : ℕ) → Warned S W G → Warned S W G → Type 0
  WarnsOfWords name used old new =
      let left = (G.facts old.env.now.held.steps).stands.config.words - used in
      WarnsIf (nat_lt left old.reserve.words) name Words left old new

  -- just where fewer places are left than so many, and than the reserve
  abbrev pub WarnsOfLocals : (name : List ℕ) → (before : ℕ) → Warned S W G → Warned S W G → Type 0
  WarnsOfLocals name before old new =
      let left = places_left old.env.now in
      WarnsIf (nat_lt left before && nat_lt left old.reserve.locals) name Locals left old new

  -- a call that takes words was made, in a stay in which they were looked at;
  -- and the warner was told where they run short
  pub record SeesWords {A : Type 0} (old new : Warned S W G) (request : Request A) (answer : Result A Fault)
      : Type 0 where
    pub used : ℕ
    pub mid : Warned S W G
    pub made : ActsUnwarned (λ before behind. MadeSeeing before behind request answer used) old mid
    pub warned : WarnsOfWords (request_name request) used mid new

  -- a call was made that takes words, or doesn't: the one in a stay in which they were looked at, unless it was barred;
  -- the other as the env makes it
  abbrev pub MakesIf : {A : Type 0} → Bool → Warned S W G → Warned S W G → Request A → Result A Fault → Type 0
  MakesIf true old new request answer = SeesWords old new request answer
      ⊎ ((e : Fault) × (answer ≡ Err e) × ActsUnwarned (λ before behind. WasBarred before behind e) old new)
  MakesIf false old new request answer =
      ActsUnwarned (λ before behind. Does before behind (whole request) answer) old new

  -- A CALL WAS MADE, by what it asks of the room; and where it takes words, the warner was told where they run short
  pub record MakesTelling {A : Type 0} (old new : Warned S W G) (request : Request A) (answer : Result A Fault)
      : Type 0 where
    pub demand : Demand
    pub asked : Demands request demand
    pub made : MakesIf (takes_words demand) old new request answer

  -- this was done, and then the warner was told where it left fewer places for local references than before,
  -- and these run short
  pub record TellsOfLocals (did : Warned S W G → Warned S W G → Type 0) (name : List ℕ) (old new : Warned S W G)
      : Type 0 where
    pub mid : Warned S W G
    pub call : did old mid
    pub locals : WarnsOfLocals name (places_left old.env.now) mid new

  -- A CALL OF A WARNED ENV: it was made, and the warner was told where the words that it takes run short,
  -- and then where places do of which it took one
  abbrev pub WasWarned : {A : Type 0} → (old new : Warned S W G) → Request A → Result A Fault → Type 0
  WasWarned old new request answer =
      TellsOfLocals (λ before behind. MakesTelling before behind request answer) (request_name request) old new
