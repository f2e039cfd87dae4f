-- The header of an object.
use Rattle.std.specs.Prelude.{◌≡◌, ◌⊎◌, ℕ, ◌+◌, ◌*◌, ◌^◌, ◌<◌}
use Rattle.jr_word.specs.declared.kind.Kind.TheVariants.{Plain}
use Rattle.jr_word.specs.declared.header.HeaderParts.{HeaderParts}
use Rattle.jr_word.specs.Kind.{kind_code}

-- a plain object has no elements
abbrev pub LengthFits : HeaderParts → Type 0
LengthFits p = p.kind ≡ Plain → p.length ≡ 0

-- an object without elements has place 0
abbrev pub PlaceFits : HeaderParts → Type 0
PlaceFits p = p.length ≡ 0 → p.place ≡ 0

-- the parts that a header can have
pub record IsHeader (p : HeaderParts) : Type 0 where
  pub length : p.length < 2 ^ 24
  pub place : p.place < 2 ^ 24
  pub length_fits : LengthFits p
  pub place_fits : PlaceFits p

-- THE WORD of a header: bits 0 to 3 the kind, 4 to 27 the length, 28 to 51 the place
abbrev pub header_word : HeaderParts → ℕ
header_word p = kind_code p.kind + 16 * p.length + 2 ^ 28 * p.place

-- the word of a header, or 0
abbrev pub IsHeaderOrZero : ℕ → Type 0
IsHeaderOrZero n = (n ≡ 0) ⊎ ((p : HeaderParts) × IsHeader p × (n ≡ header_word p))
