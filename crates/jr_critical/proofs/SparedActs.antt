-- The acts of a part that is read or written.
use Rattle.std.proofs.Common.{◌≡◌, ◌+◌, ℕ, suc, Bool, true, List, [], ◌∷◌, length}
use Rattle.std.proofs.Common.{Result, refl, sym, ap, subst}
use Rattle.std.specs.List.{AllByRecursion}
use Rattle.jr_word.specs.declared.fault.Fault.{Fault}
use Rattle.jr_model.specs.declared.event.Act.{Act}
use Rattle.jr_model.specs.Frames.{Frames}
use Rattle.jr_model.specs.Parts.{read, write, read_acts, write_acts}
use Rattle.jr_model.proofs.Agreement.{spares_places}
use Rattle.jr_steps.specs.Knowing.{fresh_from}
use Rattle.jr_gate.specs.Performing.{hint_from}
use Rattle.jr_heap.proofs.StayFacts.{NoLeave}

-- so many, which are no exit, and leave places, freshness and the hint as they are
pub record AreSpared (n : ℕ) (acts : List Act) : Type 0 where
  pub long : length acts ≡ n
  pub stays : NoLeave acts
  pub spares : AllByRecursion (λ a. spares_places a ≡ true) acts
  pub fresh : (b : Bool) → fresh_from b acts ≡ b
  pub hint : (slots i : ℕ) → hint_from slots i acts ≡ i

-- none are
pub none_spared : AreSpared 0 []
none_spared = record { long = refl; stays = tt; spares = tt; fresh = λ b. refl; hint = λ slots i. refl }

spared_read : (o start : ℕ) (vs : List ℕ) → AreSpared (length vs) (read_acts o start vs)
spared_read o start [] = none_spared
spared_read o start (v ∷ vs) = let x = spared_read o (start + 1) vs in
    record {
      long = ap suc x.long;
      stays = ((λ e. cc), x.stays);
      spares = (refl, x.spares);
      fresh = x.fresh;
      hint = x.hint;
    }

spared_write : (o start : ℕ) (vs : List ℕ) → AreSpared (length vs) (write_acts o start vs)
spared_write o start [] = none_spared
spared_write o start (v ∷ vs) = let x = spared_write o (start + 1) vs in
    record {
      long = ap suc x.long;
      stays = ((λ e. cc), x.stays);
      spares = (refl, x.spares);
      fresh = x.fresh;
      hint = x.hint;
    }

pub read_spared : (o start n : ℕ) (f g : Frames) (acts : List Act) (answer : Result (List ℕ) Fault)
    → read o start n f acts answer g → AreSpared n acts
read_spared o start n f g acts answer r =
    subst (AreSpared n) (sym r.2) (subst (λ m. AreSpared m (read_acts o start r.0)) r.1 (spared_read o start r.0))

pub write_spared : (o start : ℕ) (vs : List ℕ) (f g : Frames) (acts : List Act) (answer : Result (Unit {0}) Fault)
    → write o start vs f acts answer g → AreSpared (length vs) acts
write_spared o start vs f g acts answer r = subst (AreSpared (length vs)) (sym r.0) (spared_write o start vs)
