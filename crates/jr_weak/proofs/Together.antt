-- All arrays are moved together, once only marked objects are present.
use Rattle.std.proofs.Common.{◌≡◌, ◌≤◌, ◌+◌, ℕ, Bool, List, [], ◌∷◌, length, take, arith}
use Rattle.std.proofs.lemmas.List.{length-take}
use mathlib.Core.Logic.{∥∥₁_map}
use Rattle.jr_model.specs.declared.event.Act.TheVariants.{Settle}
use Rattle.jr_steps.specs.declared.known.Known.{Known}
use Rattle.jr_steps.specs.Knowing.{Facts, MayKnow}
use Rattle.jr_gate.specs.Acting.{ActedTo}
use Rattle.jr_compact.specs.Compacting.{CanCompact, AreCompacted}
use Rattle.jr_compact.specs.Counting.{TakesWithin}
use Rattle.jr_weak.specs.Marks.{IsQueue}
use Rattle.jr_weak.specs.Sweeping.{AreDropped}
use Rattle.jr_weak.proofs.Queues.{listed_each, listed_once}

module _ (ms : List Bool) (found : List ℕ) (count : ℕ) (q : IsQueue ms found count) (now : List ℕ)
    (is : now ≡ found) where
  can_compact : (k : Known) → AreDropped ms k → CanCompact (take count now) k
  can_compact k d =
      let each = listed_each ms found count q now is in
      record {
        distinct = listed_once ms found count q now is;
        listed = λ o. ((λ p. (each o).1 (d.present o p)), (λ c. d.marked o ((each o).0 c)));
        settled = d.can.1;
      }

  module _ {S : Type 0} (facts : S → Facts) (a : S) where
    pub may_compact : MayKnow facts a (AreDropped ms) → MayKnow facts a (CanCompact (take count now))
    may_compact may = ∥∥₁_map may (λ k. (k.0, k.1, can_compact k.0 k.2))

    -- and they are moved together, of no more objects than the list has room for
    pub acted_compact : (b : S) (used room : ℕ) → length now ≤ room
        → ActedTo facts a b (Settle used ∷ []) (CanCompact (take count now)) (λ j k. AreCompacted used j k
        × TakesWithin (length (take count now) + (used + used + used) + 1) j k)
        → ActedTo facts a b (Settle used ∷ []) (AreDropped ms) (λ j k. AreCompacted used j k
        × TakesWithin (room + (used + used + used) + 1) j k)
    acted_compact b used room short p = record {
      stands_is = p.stands_is;
      hint_is = p.hint_is;
      leads = λ k s d.
          let x = p.leads k s (can_compact k d) in
          let part = length-take count now in
          let few = x.3.0.1 in
          (x.0, x.1, x.2, ((x.3.0.0, omega arith), x.3.1, x.3.2));
    }
