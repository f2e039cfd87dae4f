-- What `jrefs word` and `jrefs widen` print.
use Rattle.std.specs.Prelude.{◌≡◌, ◌≢◌, ℕ, ◌&&◌, false, nat_le, List, [], ◌∷◌, ◌++◌}
use Rattle.std.specs.Prelude.{length, Option, Some, None, codes, if◌then◌else◌}
use Rattle.std.specs.List.{list_all}
use Rattle.std.specs.Char.{is_ascii_hexdigit}
use Rattle.std.specs.Str.Parse.{digits_value}
use Rattle.std.specs.Fmt.{decimal, digits}
use Rattle.jr_word.specs.declared.handle.RefKind.{RefKind}
use Rattle.jr_word.specs.declared.handle.RefKind.TheVariants.{Local, Global, Weak}
use Rattle.jr_word.specs.declared.handle.HandleParts.{HandleParts}
use Rattle.jr_word.specs.Handle.{handle_word, IsHandle}
use Rattle.jr_word.specs.Narrow.{IsNarrowHandle, narrow_handle_word}

-- the number that 1 to 16 hexadecimal digits stand for
abbrev pub hex_value : List ℕ → Option ℕ
hex_value text = if nat_le 1 (length text) && (nat_le (length text) 16 && list_all is_ascii_hexdigit text)
    then Some (digits_value 16 text) else None

abbrev pub kind_word : RefKind → List ℕ
kind_word Local = codes "local"
kind_word Global = codes "global"
kind_word Weak = codes "weak"

-- the line of a handle
abbrev pub parts_line : HandleParts → List ℕ
parts_line h = kind_word h.kind ++ codes " serial " ++ decimal h.serial ++ codes " index " ++ decimal h.index
    ++ codes " owner " ++ decimal h.owner ++ 10 ∷ []

-- the line of a word: that of the handle whose word it is, `null` for 0, `invalid` where it is no handle's
pub data Describes (w : ℕ) : List ℕ → Type 0 where
  null : w ≡ 0 → Describes w (codes "null" ++ 10 ∷ [])
  invalid : w ≢ 0 → ((h : HandleParts) → IsHandle h → w ≢ handle_word h) → Describes w (codes "invalid" ++ 10 ∷ [])
  handle : (h : HandleParts) → IsHandle h → w ≡ handle_word h → Describes w (parts_line h)

-- the line of a word of the earlier layout: the word of the handle that it was, in lower-case
-- hexadecimal digits without leading zeros; `null` for 0, `invalid` where it was no handle's
pub data SaysWidened (w : ℕ) : List ℕ → Type 0 where
  no_reference : w ≡ 0 → SaysWidened w (codes "null" ++ 10 ∷ [])
  no_handle : w ≢ 0 → ((h : HandleParts) → IsNarrowHandle h → w ≢ narrow_handle_word h)
      → SaysWidened w (codes "invalid" ++ 10 ∷ [])
  widened : (h : HandleParts) → IsNarrowHandle h → w ≡ narrow_handle_word h
      → SaysWidened w (digits 16 false (handle_word h) ++ 10 ∷ [])
