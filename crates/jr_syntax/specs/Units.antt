-- Units: what a string is made of.
use Rattle.std.specs.Prelude.{◌≡◌, ℕ, List, length, take}
use Rattle.jr_syntax.specs.Kind.{WordKind, Arguments, up_to}
use Rattle.jr_syntax.specs.Count.{number_at_most}

-- how many units a string may have
abbrev pub most_units : ℕ
most_units = 64

-- a UNIT: a NUMBER that is at most the greatest 16 bits
abbrev pub unit : WordKind ℕ
unit = number_at_most 65535

-- any number of units, up to the most
abbrev pub units : Arguments (List ℕ)
units = up_to most_units unit

-- units of which the first are kept, and the others are nothing
pub record AreKept (units : List ℕ) (len : ℕ) : Type 0 where
  pub counted : length (take len units) ≡ len
