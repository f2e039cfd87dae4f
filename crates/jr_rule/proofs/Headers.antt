-- What the word of a header tells.
use Rattle.std.proofs.Common.{◌≡◌, ◌≢◌, ◌≤◌, ℕ, Option, Some, None, IsSome, refl, arith}
use Rattle.jr_word.specs.declared.kind.Kind.{Kind}
use Rattle.jr_word.specs.declared.kind.Kind.TheVariants.{Plain}
use Rattle.jr_word.specs.declared.header.HeaderParts.{HeaderParts}
use Rattle.jr_word.specs.Header.{header_word}
use Rattle.jr_word.specs.Kind.{kind_code}
use Rattle.jr_model.specs.State.{Contents}
use Rattle.jr_rule.specs.Image.{IsHeaderOf}

pub kind_some : (k : Kind) → 1 ≤ kind_code k
kind_some Plain = omega arith
kind_some _ = omega arith

-- a header is 0 where no object is present
pub header_none : (x : Option Contents) (w : ℕ) → IsHeaderOf x w → w ≡ 0 → x ≡ None
header_none None w h e = refl
header_none (Some x) w h e = let some = kind_some h.parts.kind in let is = h.word in absurd (omega arith)

pub header_some : (x : Option Contents) (w : ℕ) → IsHeaderOf x w → w ≢ 0 → IsSome x
header_some None w h ne = absurd (ne h)
header_some (Some x) w h ne = refl

-- no header's word is 0
pub header_positive : (p : HeaderParts) → 1 ≤ header_word p
header_positive p = let some = kind_some p.kind in omega arith
