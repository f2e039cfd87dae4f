-- What the notes of a thread say was posted.
use Rattle.std.specs.Prelude.{◌≡◌, ◌⊎◌, ◌<◌, ℕ, suc, Bool, true, false, List, Option, Some, None, get_or}
use Rattle.std.specs.List.{AllByRecursion}
use Rattle.std.specs.Sync.OnceLock.{Named}
use Rattle.atomic_table.specs.Seated.{TableId}
use Rattle.jr_model.specs.History.{History}
use Rattle.jr_scripts.specs.declared.sighting.Sighting.{Sighting}
use Rattle.jr_scripts.specs.declared.sighting.Posted.{Posted}
use Rattle.jr_scripts.specs.Layouts.{cell_number}
use Rattle.jr_scripts.specs.Posting.{Account, ThreadWords}

-- the cell at a number
abbrev pub cell_at : List Named → ℕ → ℕ
cell_at cells i = (get_or cells i (record { id = 0 })).id

-- each note is of the cell at its number
abbrev pub AreOfCells : {T : Type 0} → List Named → List (Option (Sighting T)) → Type 0
AreOfCells {T = T} cells notes =
    (i : ℕ) (note : Sighting T) → get_or notes i None ≡ Some note → note.token.of ≡ cell_at cells i

-- nothing was noted
abbrev pub IsBlank : {T : Type 0} → List (Option (Sighting T)) → Type 0
IsBlank notes = (i : ℕ) → get_or notes i None ≡ None

-- what was posted, by a note, if there is one
abbrev pub posted_in : {T : Type 0} → Option (Sighting T) → Option (Posted T)
posted_in (Some note) = Some note.token.value
posted_in None = None

-- what is noted at a number, if there is a number
abbrev pub posted_by_number : {T : Type 0} → List (Option (Sighting T)) → Option ℕ → Option (Posted T)
posted_by_number notes (Some i) = posted_in (get_or notes i None)
posted_by_number notes None = None

-- WHAT IS NOTED under a name, by notes of a board whose names have these numbers: the word, and what was told with it
abbrev pub posted_noted : {T : Type 0} → List (List ℕ × ℕ) → List (Option (Sighting T)) → List ℕ → Option (Posted T)
posted_noted numbers notes n = posted_by_number notes (cell_number numbers n)

-- what was noted is noted still
abbrev pub StaysNoted : {T : Type 0} → List (Option (Sighting T)) → List (Option (Sighting T)) → Type 0
StaysNoted {T = T} old new =
    (i : ℕ) (p : Posted T) → posted_in (get_or old i None) ≡ Some p → posted_in (get_or new i None) ≡ Some p

-- the other's notes were not lost, and what they have these have too
pub record HasAllOf {T : Type 0} (ours : List (Option (Sighting T))) (lost : Bool)
    (theirs : List (Option (Sighting T))) : Type 0 where
  pub safe : lost ≡ false
  pub kept : StaysNoted theirs ours

-- THE WORD IS NOTED under a name, and this is so of what was posted there
pub record HasNoted {T : Type 0} (numbers : List (List ℕ × ℕ)) (notes : List (Option (Sighting T))) (n : List ℕ) (w : ℕ)
    (so : Posted T → Type 0) : Type 0 where
  pub posted : Posted T
  pub is : posted_noted numbers notes n ≡ Some posted
  pub word : posted.word ≡ w
  pub says : so posted

-- each of the words is noted under its name, with a stamp below this
abbrev pub AreBelow : {T : Type 0} → List (List ℕ × ℕ) → List (Option (Sighting T)) → ℕ → ThreadWords → Type 0
AreBelow {T = T} numbers notes stamp =
    AllByRecursion (λ x. (p : Posted T) × (posted_noted numbers notes x.0 ≡ Some p) × (p.stamp < stamp))

-- THE WORDS ARE NOTED of a thread that has heard no stamp above this: anything where the notes were lost
abbrev pub words_noted : {T : Type 0} → Bool → List (List ℕ × ℕ) → List (Option (Sighting T)) → ℕ → ThreadWords → Type 0
words_noted lost numbers notes heard words = (lost ≡ true) ⊎ AreBelow numbers notes (suc heard) words

-- WHAT A THREAD'S NOTES TELL, of a board that serves these, where what is told with a word says this
-- of what its poster had seen, and this of what whoever heard it has: anything where they were lost
abbrev pub account_noted : {T : Type 0} → (Option TableId → Type 0) → (T → History → Type 0) → (T → History → Type 0)
    → Bool → List (List ℕ × ℕ) → List (Option (Sighting T)) → Account
account_noted serves says reaches lost numbers notes = record {
  serves = serves;
  posted = λ words n w seen. (lost ≡ true)
      ⊎ HasNoted numbers notes n w (λ p. says p.told seen × AreBelow numbers notes p.stamp words);
  heard = λ n w seen. (lost ≡ true) ⊎ HasNoted numbers notes n w (λ p. reaches p.told seen);
}
