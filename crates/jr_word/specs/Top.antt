-- The word of the top.
use Rattle.std.specs.Prelude.{ℕ, ◌^◌, ◌<◌}
use Rattle.jr_word.specs.declared.top.TopParts.{TopParts}

-- the parts that the top can have
pub record IsTop (p : TopParts) : Type 0 where
  pub used : p.used < 2 ^ 24

-- THE WORD of the top: bits 0 to 23 the words reserved
abbrev pub top_word : TopParts → ℕ
top_word p = p.used
