-- A name in its place.
use Rattle.std.proofs.Common.{◌≡◌, ℕ, true, List, ◌++◌, length, take, ap, ◌∙◌}
use Rattle.std.proofs.Math.Seq.{take-append_seam}
use Rattle.jr_syntax.specs.Name.{is_name, IsKept}

-- a word with others behind it
pub kept : (w r : List ℕ) → is_name w ≡ true → IsKept (w ++ r) (length w)
kept w r f =
    let same : take (length w) (w ++ r) ≡ w = take-append_seam w r in
    record { form = ap is_name same ∙ f; counted = ap length same }
