-- A reference as a word.
use Rattle.std.specs.Prelude.{ℕ, ◌+◌, ◌*◌, ◌^◌, ◌<◌, Option, Some, None}
use Rattle.jr_word.specs.declared.handle.RefKind.{RefKind}
use Rattle.jr_word.specs.declared.handle.RefKind.TheVariants.{Local, Global, Weak}
use Rattle.jr_word.specs.declared.handle.HandleParts.{HandleParts}
use Rattle.jr_word.specs.declared.handle.Handle.{Handle}

-- the number of a kind of reference
abbrev pub reference_code : RefKind → ℕ
reference_code Local = 1
reference_code Global = 2
reference_code Weak = 3

-- how many threads can own a reference: each of 64 a local one, and thread 0 alone any other
abbrev pub owner_limit : RefKind → ℕ
owner_limit Local = 64
owner_limit Global = 1
owner_limit Weak = 1

-- the parts that a handle can have
pub record IsHandle (p : HandleParts) : Type 0 where
  pub serial : p.serial < 2 ^ 32
  pub index : p.index < 2 ^ 16
  pub owner : p.owner < owner_limit p.kind

-- THE WORD of a handle: bits 0 to 1 its kind, 2 to 33 its serial, 34 to 49 its index, 50 to 55 its owner
abbrev pub handle_word : HandleParts → ℕ
handle_word p = reference_code p.kind + 4 * p.serial + 2 ^ 34 * p.index + 2 ^ 50 * p.owner

-- an answer as an argument: the handle that it is, and the word 0 for none
abbrev pub or_null : Option Handle → Handle
or_null None = record { 0 = 0 }
or_null (Some h) = h
