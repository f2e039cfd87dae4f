-- What was refused as it was begun.
use Rattle.std.proofs.Common.{◌≡◌, ℕ, Result, Err, refl, ap, ◌∙◌}
use Rattle.std.specs.Result.{IsErrAnd}
use Rattle.std.proofs.lemmas.Result.{err_from_is_err_and}
use Rattle.jr_word.specs.declared.config.Config.{Config}
use Rattle.jr_word.specs.declared.fault.Fault.{Fault}
use Rattle.jr_weak.specs.declared.collecting.Collected.{Collected}
use Rattle.jr_env.specs.declared.demand.Demand.{Demand}
use Rattle.jr_stressed.specs.declared.stressed.Stressed.{Stressed}
use Rattle.jr_stressed.specs.Refusals.{MachineLists}
use Rattle.jr_stressed.specs.Stressing.{WasBegun, WasStressed}

-- a refusal that `?` hands on
pub handed : {A : Type 0} {e : Fault} (r : Result A Fault) → IsErrAnd r (λ y. y ≡ e) → r ≡ Err e
handed r h = let x = err_from_is_err_and r h in x.1 ∙ ap Err x.2

-- what was refused so was refused under stress
pub refused_first : {N A : Type 0} {collected : ℕ → N → N → Result Collected Fault → Type 0} {sizes : N → Config}
    {does : N → N → Result A Fault → Type 0} {asks : Demand → Type 0} {old mid : Stressed N} {demand : Demand}
    {e : Fault} {answer : Result A Fault} → asks demand → WasBegun collected sizes old mid demand (Err e)
    → MachineLists (sizes mid.caller.now) demand e → answer ≡ Err e
    → WasStressed collected sizes does asks old mid answer
refused_first {mid = mid} {demand} {e} asked begins listed says = record {
  mid = mid;
  demand = demand;
  asked = asked;
  begun = Err e;
  begins = begins;
  goes_on = (says, refl, listed);
}
