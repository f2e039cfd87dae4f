-- The word of a place for a local reference.
use Rattle.std.specs.Prelude.{ℕ, ◌^◌, ◌<◌, ⊤}
use Rattle.jr_word.specs.declared.local.LocalParts.{LocalParts}
use Rattle.jr_word.specs.declared.local.LocalParts.TheVariants.{Free, Object}

-- the parts that a local place can have: objects are numbered from 1
abbrev pub IsLocalPlace : LocalParts → Type 0
IsLocalPlace Free = ⊤
IsLocalPlace (Object object) = (0 < object) × (object < 2 ^ 16)

-- THE WORD of a local place: the number of its object, 0 where it is free
abbrev pub local_word : LocalParts → ℕ
local_word Free = 0
local_word (Object object) = object
