-- A piece more is a longer beginning.
use Rattle.std.proofs.Common.{◌≡◌, ℕ, List, ◌+◌, ◌-◌, length, take, drop, arith}
use Rattle.std.proofs.Common.{subst, sym, ap, ◌∙◌, ◌++◌, length-drop, take_all}
use Rattle.std.proofs.Math.Seq.{take-add}
use Rattle.std.specs.Io.KnownBytes.{Appends}
use Rattle.std.proofs.KnownBytes.{Appends-trans}
use Rattle.jrefs.proofs.output.write_out.Goals as goal

pub loop-preserved : goal.loop-preserved
loop-preserved g c =
    let bytes = c.args.bytes.now in
    let before = c.loop.invariant in
    let more = c.in_ok-done.field-0 in
    let rest = drop c.loop.done bytes in
    let left : take (length bytes - c.loop.done) rest ≡ rest =
    take_all _ rest (omega (arith, length-drop c.loop.done bytes)) in
    let piece : take (c.loop.done + more) bytes
    ≡ take c.loop.done bytes ++ take more (take (length bytes - c.loop.done) rest) =
    take-add c.loop.done more bytes ∙ ap (λ (xs : List ℕ). take c.loop.done bytes ++ take more xs) (sym left) in (
      omega (arith, before.0, simp left at c.in_ok-done.ensures.most, length-drop c.loop.done bytes),
      subst (Appends _ _) (sym piece) (Appends-trans _ _ _ _ _ before.1 c.in_ok-done.ensures.ok),
    )
