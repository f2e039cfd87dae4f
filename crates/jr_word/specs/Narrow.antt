-- A reference as a word of the earlier layout, whose serials have 16 bits.
use Rattle.std.specs.Prelude.{◌≡◌, ℕ, ◌+◌, ◌*◌, ◌^◌, ◌<◌, ◌⊎◌}
use Rattle.jr_word.specs.declared.handle.HandleParts.{HandleParts}
use Rattle.jr_word.specs.Handle.{reference_code, owner_limit, handle_word}

-- the parts that a handle of the earlier layout can have
pub record IsNarrowHandle (p : HandleParts) : Type 0 where
  pub serial : p.serial < 2 ^ 16
  pub index : p.index < 2 ^ 16
  pub owner : p.owner < owner_limit p.kind

-- THE EARLIER WORD of a handle: bits 0 to 1 its kind, 2 to 17 its serial, 18 to 33 its index, 34 to 39 its owner
abbrev pub narrow_handle_word : HandleParts → ℕ
narrow_handle_word p = reference_code p.kind + 4 * p.serial + 2 ^ 18 * p.index + 2 ^ 34 * p.owner

-- a word of the earlier layout widens to a word of today's: null to null, and a handle to the handle of the same parts
abbrev pub Widens : ℕ → ℕ → Type 0
Widens word wide = ((word ≡ 0) × (wide ≡ 0))
    ⊎ ((parts : HandleParts) × IsNarrowHandle parts × (word ≡ narrow_handle_word parts) × (wide ≡ handle_word parts))
