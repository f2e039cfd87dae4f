-- For the crate's own functions: what loads tell of the state, one after the other, while the thread collects.
use Rattle.std.specs.Prelude.{◌≤◌, ℕ}
use Rattle.jr_steps.specs.declared.known.Known.{Known}
use Rattle.jr_steps.specs.Knowing.{Facts, CanReopen, state_of}
use Rattle.jr_compact.specs.Counting.{SawWithin}

-- loads were made and nothing else, no more than this says of what was known:
-- this is so afterwards, and the gate may still be opened
abbrev pub LoadsTell : {S : Type 0} → (S → Facts) → (Known → ℕ) → S → S → (Known → Type 0) → Type 0
LoadsTell facts most old new tells = SawWithin facts most old new CanReopen (λ j k. CanReopen k × tells k)

-- so many words are used at least, of which so many are at the most
-- those of objects that nothing reaches, and the gate may be opened
abbrev pub HasUsed : ℕ → ℕ → Known → Type 0
HasUsed present unreached k = CanReopen k × (unreached ≤ present) × (present ≤ (state_of k).used)
