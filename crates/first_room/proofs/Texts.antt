-- Lines that are written one after the other.
use Rattle.std.proofs.Common.{ℕ, List, [], ◌∷◌, Option}
use Rattle.std.specs.Io.KnownBytes.{Appends}
use Rattle.std.proofs.KnownBytes.{Appends-nil, Appends-trans}
use Rattle.first_room.specs.Hour.{report_text}

-- so it goes from the one to the other: each line was written behind those before
pub data Grows : Option (List ℕ) → Option (List ℕ) → List (List ℕ) → Type 0 where
  none : {a : Option (List ℕ)} → Grows a a []
  more : {a b c : Option (List ℕ)} {l : List ℕ} {ls : List (List ℕ)} → Appends a b l → Grows b c ls → Grows a c (l ∷ ls)

pub grown : {a b : Option (List ℕ)} {ls : List (List ℕ)} → Grows a b ls → Appends a b (report_text ls)
grown (none {a}) = Appends-nil a
grown (more {a} {b} {c} {l} {ls} here rest) = Appends-trans a b c l (report_text ls) here (grown rest)
