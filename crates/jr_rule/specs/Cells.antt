-- WORDS THAT ONE THREAD STEPS ON, whoever keeps them:
-- what is known of them, what a kind of step owes there, and what it tells.
use Rattle.std.specs.Prelude.{◌≡◌, ◌<◌, ℕ, Bool, None, List}
use Rattle.jr_word.specs.Config.{row_words}
use Rattle.jr_model.specs.declared.event.Act.{Act}
use Rattle.jr_model.specs.declared.event.Role.{Role}
use Rattle.jr_model.specs.History.{role_of}
use Rattle.jr_steps.specs.declared.known.Known.{Known}
use Rattle.jr_steps.specs.Holdings.{InSpace}
use Rattle.jr_steps.specs.Knowing.{Facts, Standing, IsOf, DidAll, Goes, view}
use Rattle.jr_rule.specs.Rule.{IsSized, Owes}

-- WHAT IS KNOWN OF THE WORDS: how the thread that steps on them stood at first, outside and
-- fresh, in their room (none where no other thread steps on them); and what it may know
pub record Sight : Type 1 where
  pub first : Standing
  pub knows : Known → Type 0

-- the thread may know this
pub record IsAmong (z : Sight) (k : Known) : Type 0 where
  pub is : z.knows k
  pub config : k.config ≡ z.first.config
  pub last : k.last ≡ z.first.last
  pub thread : k.thread ≡ z.first.thread

-- what always holds of the words: their sizes fit, the thread is one of the room's, what it
-- holds lies in the space, and where the words are of no room it did all that it knows itself
pub record AreSoundWords (z : Sight) : Type 0 where
  pub sized : IsSized z.first.config z.first.last
  pub row : z.first.thread < z.first.config.threads
  pub space : (k : Known) → IsAmong z k → InSpace k.config k.holdings
  pub lone : z.first.room ≡ None → (k : Known) → IsAmong z k → DidAll k

-- something that may be known meets the condition
abbrev pub May : Sight → (Known → Type 0) → Type 0
May z met = ∥ ((k : Known) × IsAmong z k × met k) ∥₁

-- WHAT A KIND OF STEP OWES THERE, whatever is known and meets the condition
abbrev pub OwesThere : Sight → (Known → Type 0) → ℕ → (ℕ → ℕ) → (Known → ℕ → List Act → Known → Type 0) → Type 0
OwesThere z met i f told = (k : Known) → IsAmong z k → ∥ met k ∥₁ → Owes k i f (told k)

-- A STEP IS OWED at a word of the row: something that may be known meets the condition, and whatever does owes it
pub record IsOwed (z : Sight) (met : Known → Type 0) (i : ℕ) (f : ℕ → ℕ)
    (told : Known → ℕ → List Act → Known → Type 0) : Type 0 where
  pub place : i < row_words z.first.config
  pub may : May z met
  pub owes : OwesThere z met i f told

-- WHAT A STEP TELLS of what was known:
-- it has made something known of it, by these acts, none or one, and this holds of the number that it found
pub record StepsTo (z z' : Sight) (told : Known → ℕ → List Act → Known → Type 0) (n : ℕ) (k : Known) : Type 0 where
  pub new : Known
  pub acts : List Act
  pub is : IsAmong z' new
  pub goes : Goes k acts new
  pub says : told k n acts new

pub record HasStepped (z z' : Sight) (met : Known → Type 0) (told : Known → ℕ → List Act → Known → Type 0)
    (n : ℕ) : Type 0 where
  pub first : z'.first ≡ z.first
  pub makes : (k : Known) → IsAmong z k → met k → StepsTo z z' told n k

-- these are the acts of which it tells, whatever may be known and meets the condition
abbrev pub AreItsActs : Sight → (Known → Type 0) → (Known → ℕ → List Act → Known → Type 0) → ℕ → List Act → Type 0
AreItsActs z met told n acts = (k k' : Known) (done : List Act) → IsAmong z k → met k → told k n done k' → done ≡ acts

-- THE STEP WENT by the acts of which it tells
abbrev pub WentBy : (List Act → Type 0) → Sight → (Known → Type 0) → (Known → ℕ → List Act → Known → Type 0) → ℕ
    → Type 0
WentBy goes z met told n = (acts : List Act) → AreItsActs z met told n acts → goes acts

-- the condition, of a thread in this role
abbrev pub InRole : Role → (Known → Type 0) → Known → Type 0
InRole r met k = (role_of (view k) ≡ r) × met k

-- A THREAD THAT STEPS ON THE WORDS: how it stands, and what may be known of it
abbrev pub stands_at : Sight → Role → Bool → Standing
stands_at z role fresh = record (z.first) { role = role; fresh = fresh }

abbrev pub facts_at : Sight → Role → Bool → ℕ → Facts
facts_at z role fresh hint =
    record { stands = stands_at z role fresh; knows = λ k. z.knows k × IsOf (stands_at z role fresh) k; hint = hint }

-- what always holds of it: it knows something, and its hint is one of the room's slots
pub record IsStanding (z : Sight) (role : Role) (fresh : Bool) (hint : ℕ) : Type 0 where
  pub some : ∥ ((k : Known) × (facts_at z role fresh hint).knows k) ∥₁
  pub below : hint < z.first.config.slots
