-- How local references are taken out of frames, one by one, for whatever was known.
use Rattle.std.specs.Prelude.{◌≡◌, ℕ, Option, Ok, List}
use Rattle.jr_model.specs.declared.event.Act.{Act}
use Rattle.jr_model.specs.Frames.{Frames}
use Rattle.jr_model.specs.Calls.{Call}
use Rattle.jr_steps.specs.Knowing.{Facts, keeps, HasOptional, Holds}
use Rattle.jr_gate.specs.Performing.{Performed}

-- just these acts
abbrev pub dropping : List Act → Call (Unit {0})
dropping drops old acts answer new = (acts ≡ drops) × (answer ≡ Ok tt)

module _ {S : Type 0} (facts : S → Facts) where
  -- local references were taken out in a stay:
  -- the pass holds what it held, the frames go on agreeing with the locals, and an object that was present still is
  abbrev pub Drops : S → S → Frames → Frames → Call (Unit {0}) → Type 0
  Drops old new f g call = (o : Option ℕ)
      → Performed facts old new f g 0 (λ k. Holds f k × HasOptional o k) (λ s. call) (Ok tt) (λ j k. keeps j k
      × Holds g k × HasOptional o k)
