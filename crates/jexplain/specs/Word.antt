-- For the crate's own functions: what `jexplain word` tells.
use Rattle.std.specs.Prelude.{◌≡◌, ◌≢◌, ℕ, false, List, [], ◌∷◌, ◌++◌, codes}
use Rattle.std.specs.Fmt.{decimal, digits}
use Rattle.jr_word.specs.declared.handle.RefKind.TheVariants.{Local, Global, Weak}
use Rattle.jr_word.specs.declared.handle.RefKind.{RefKind}
use Rattle.jr_word.specs.declared.handle.HandleParts.{HandleParts}
use Rattle.jr_word.specs.Handle.{handle_word, IsHandle}

-- a word as logs have it: `0x` and hexadecimal digits
abbrev pub logged_word : ℕ → List ℕ
logged_word w = codes "0x" ++ digits 16 false w

-- what is told of a handle's kind: what it refers by, of which thread, and what its index numbers
abbrev pub told_kind : RefKind → HandleParts → List ℕ
told_kind Local h = codes " is a local reference of thread " ++ decimal h.owner ++ codes ": place "
told_kind Global h = codes " is a global reference: slot "
told_kind Weak h = codes " is a weak global reference: slot "

-- the line of a handle, behind its word: its kind, its thread and place or its slot, and its serial
abbrev pub handle_line : List ℕ → HandleParts → List ℕ
handle_line word h = word ++ told_kind h.kind h ++ decimal h.index ++ codes ", serial " ++ decimal h.serial ++ 10 ∷ []

-- the line of a word that is no handle's, behind it
abbrev pub no_handle_line : List ℕ → List ℕ
no_handle_line word = word ++ codes " is no handle: calls answer E2" ++ 10 ∷ []

-- the line of a word: that of the handle whose word it is, or that it is NULL, or that it is no handle's
pub data TellsWord (w : ℕ) : List ℕ → Type 0 where
  null : w ≡ 0 → TellsWord w (codes "0x0 is NULL" ++ 10 ∷ [])
  no_handle : w ≢ 0 → ((h : HandleParts) → IsHandle h → w ≢ handle_word h)
      → TellsWord w (no_handle_line (logged_word w))
  handle : (h : HandleParts) → IsHandle h → w ≡ handle_word h → TellsWord w (handle_line (logged_word w) h)
