-- A call of a warned env, by what it asks of the room, and what its warner is told.
use Rattle.std.proofs.Common.{◌≡◌, ℕ, List, true, Result, inl, subst, sym}
use Rattle.jr_word.specs.declared.fault.Fault.{Fault}
use Rattle.jr_steps.specs.declared.steps.Steps.{Ghosts}
use Rattle.jr_env.specs.declared.demand.Demand.{Demand}
use Rattle.jr_env.specs.declared.warned.Shortage.{Shortage}
use Rattle.jr_env.specs.declared.warned.Warned.{Warned}
use Rattle.jr_env.specs.Demands.{Demands}
use Rattle.jr_env.specs.Requests.{Request, request_name}
use Rattle.jr_env.specs.Warning.{ActsUnwarned, MadeSeeing, MakesIf, MakesTelling, TellsOfLocals, WarnsOfLocals}
use Rattle.jr_env.specs.Warning.{WarnsOfWords, places_left, takes_words}

module _ {S : Type 0} {G : Ghosts S} {W A : Type 0} {warns : W → W → Shortage → Type 0} {old : Warned S W G}
    {request : Request A} {answer : Result A Fault} (mid : Warned S W G) where
  -- one that takes words was made in a stay, and its words were looked at
  pub tells_words : {new : Warned S W G} {name : List ℕ} {used : ℕ} (d : Demand) → Demands request d
      → takes_words d ≡ true → ActsUnwarned (λ before behind. MadeSeeing before behind request answer used) old mid
      → name ≡ request_name request → WarnsOfWords warns name used mid new
      → MakesTelling warns old new request answer
  tells_words {new} {used = used} d asked takes made named warned = record {
    demand = d;
    asked = asked;
    made = subst (λ b. MakesIf warns b old new request answer) (sym takes) (inl (record {
      used = used;
      mid = mid;
      made = made;
      warned = subst (λ n. WarnsOfWords warns n used mid new) named warned;
    }));
  }

-- behind what was done the places were looked at
pub tells_locals : {S : Type 0} {G : Ghosts S} {W : Type 0} {warns : W → W → Shortage → Type 0}
    {old new : Warned S W G} {did : Warned S W G → Warned S W G → Type 0} {called name : List ℕ} {before : ℕ}
    (mid : Warned S W G) → did old mid → name ≡ called → before ≡ places_left old.env.now
    → WarnsOfLocals warns name before mid new → TellsOfLocals warns did called old new
tells_locals {warns = warns} {old} {new} {name = name} mid did named counted warned = record {
  mid = mid;
  call = did;
  locals = subst (λ n. WarnsOfLocals warns n (places_left old.env.now) mid new) named
      (subst (λ n. WarnsOfLocals warns name n mid new) counted warned);
}
