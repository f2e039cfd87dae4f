-- How slots are searched for a free one, for whatever was known.
use Rattle.std.specs.Prelude.{◌≡◌, ◌≤◌, ◌<◌, ◌+◌, ℕ, Bool, true, false, Option}
use Rattle.std.specs.Prelude.{Some, None, List, [], ◌∷◌, ◌++◌, map, length}
use Rattle.jr_word.specs.declared.handle.RefKind.{RefKind}
use Rattle.jr_model.specs.declared.event.Act.{Act}
use Rattle.jr_model.specs.declared.event.Act.TheVariants.{Create, Probe}
use Rattle.jr_model.specs.State.{Handle}
use Rattle.jr_model.specs.History.{History, PassView, Did}
use Rattle.jr_model.specs.Refusals.{WasOccupied}
use Rattle.jr_steps.specs.declared.known.Known.{Known}
use Rattle.jr_steps.specs.Knowing.{Facts, view, keeps, Takes, HasObject}

-- looks at slots, and then the creation, if one was won
abbrev pub search_acts : ℕ → List (ℕ × Bool) → Option Handle → List Act
search_acts o looks None = map (λ l. Probe l.0 l.1) looks
search_acts o looks (Some h) = map (λ l. Probe l.0 l.1) looks ++ Create h o ∷ []

-- a global or weak handle of the kind, if there is one
abbrev pub OfKind : RefKind → Option Handle → Type 0
OfKind k None = Unit {0}
OfKind k (Some h) = (h.kind ≡ k) × (h.owner ≡ 0)

-- where none was won, each index from the first to the last was probed since this moment, and occupied then or later
abbrev pub EachOccupied : History → PassView → ℕ → ℕ → Option Handle → Type 0
EachOccupied begun new first last (Some h) = Unit {0}
EachOccupied begun new first last None = (i : ℕ) → first ≤ i → i < last → WasOccupied begun new i

-- each slot from first to last takes two operations at the most
abbrev pub TwoEach : ℕ → ℕ → List Act → Type 0
TwoEach first last acts = first + first + length acts ≤ last + last

-- SLOTS WERE TRIED IN TURN, each from the first one on and before the last, all of them or up to the one that was won:
-- each was looked at once, and once more by the exchange where it was free and another thread was faster
pub data InTurn : ℕ → ℕ → List (ℕ × Bool) → Option Handle → Type 0 where
  ended : {n : ℕ} → InTurn n n [] None
  won : {n last : ℕ} (h : Handle) → h.index ≡ n → n < last → InTurn n last ((n, false) ∷ []) (Some h)
  occupied : {n last : ℕ} {looks : List (ℕ × Bool)} {made : Option Handle} → InTurn (n + 1) last looks made
      → InTurn n last ((n, true) ∷ looks) made
  lost : {n last : ℕ} {looks : List (ℕ × Bool)} {made : Option Handle} (found : Bool) → InTurn (n + 1) last looks made
      → InTurn n last ((n, false) ∷ (n, found) ∷ looks) made

-- from the hint up to the last slot, and where none was won there, from slot 0 up to the hint
pub data GoesRound (hint slots : ℕ) : List (ℕ × Bool) → Option Handle → Type 0 where
  above : {looks : List (ℕ × Bool)} {h : Handle} → InTurn hint slots looks (Some h)
      → GoesRound hint slots looks (Some h)
  below : {looks rest : List (ℕ × Bool)} {made : Option Handle} → InTurn hint slots looks None → InTurn 0 hint rest made
      → GoesRound hint slots (looks ++ rest) made

module _ {S : Type 0} (facts : S → Facts) where
  -- the slots from first to last were searched in this order for a free one, for a new reference to a present object:
  -- by one operation for each act, and by no more than two for each slot. The pass holds what it held
  pub record Searched (old new : S) (kind : RefKind) (o : ℕ) (order : List (ℕ × Bool) → Option Handle → Type 0)
      (first last : ℕ) (made : Option Handle) : Type 0 where
    pub stands_is : (facts new).stands ≡ (facts old).stands
    pub kind_is : OfKind kind made
    pub did : (k : Known) → (facts old).knows k → HasObject o k
        → (k' : Known) × (facts new).knows k' × HasObject o k' × EachOccupied k.seen (view k') first last made
        × (looks : List (ℕ × Bool)) × Did (view k) (view k') (search_acts o looks made)
        × Takes (length (search_acts o looks made)) k k' × TwoEach first last (search_acts o looks made) × keeps k k'
        × order looks made
