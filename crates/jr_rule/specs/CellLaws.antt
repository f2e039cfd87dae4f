-- What always holds of words and of a thread that steps on them: the impls cite these, and there is nothing to believe.
use Rattle.std.specs.Prelude.{ℕ, Bool, ◌≡◌, ◌<◌, ◌^◌, true, List}
use mathlib.Core.Logic.{∥∥₁_map}
use Rattle.std.proofs.Props.{props}
use Rattle.jr_model.specs.declared.event.Role.{Role}
use Rattle.jr_steps.specs.declared.known.Known.{Known}
use Rattle.jr_steps.specs.Knowing.{anything, IsOf}
use Rattle.jr_rule.specs.Cells.{Sight, IsAmong, IsStanding, facts_at, stands_at, AreSoundWords}
use Rattle.std.proofs.Common.{sym, subst}
use Rattle.atomic_table.specs.Seated.{TableId}
use Rattle.jr_word.specs.declared.config.Config.{Config}
use Rattle.jr_word.specs.Config.{in_limits, IsLimited}
use Rattle.jr_steps.specs.Holdings.{InSpace}
use Rattle.jr_rule.specs.Sights.{sight_of_seat, IsSeatOf, sight_of_words}
use Rattle.jr_rule.specs.Rule.{SeatState}

module _ (z : Sight) (role : Role) (fresh : Bool) where
  pub among_of : (k : Known) → z.knows k × IsOf (stands_at z role fresh) k → IsAmong z k
  among_of k h = record { is = h.0; config = h.1.config; last = h.1.last; thread = h.1.thread }

  pub some_of : (hint : ℕ) → IsStanding z role fresh hint
      → ∥ ((k : Known) × (facts_at z role fresh hint).knows k × anything k) ∥₁
  some_of hint s = ∥∥₁_map s.some (λ k. (k.0, k.1, tt))

-- where words are is one fact
pub seat_one : {row id : TableId} {c : Config} {last : ℕ} {m : SeatState} {thread : ℕ}
    → IsProp (IsSeatOf row c last id m thread)
seat_one = hlevel props

pub unit_one : IsProp (Unit {0})
unit_one = hlevel props

pub seat_sound : {row id : TableId} {c : Config} {last : ℕ} {m : SeatState} {thread : ℕ}
    → IsSeatOf row c last id m thread → AreSoundWords (sight_of_seat id m)
seat_sound s = record {
  sized = s.sized;
  row = s.below;
  space = λ k h. subst (λ (z : Known). InSpace z.config z.holdings) (sym h.is) s.space;
  lone = λ none k h. absurd cc;
}

pub words_sound : (c : Config) (last : ℕ) (words : List ℕ) → in_limits c ≡ true → IsLimited c → last < 2 ^ 32
    → AreSoundWords (sight_of_words c last words)
words_sound c last words limits limited few = record {
  sized = record { limits = limits; limited = limited; serials = few };
  row = limited.threads.0;
  space = λ k h. h.is.space;
  lone = λ none k h. h.is.did_all;
}
