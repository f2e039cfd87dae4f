-- The loop ends where the reader is at its end, or the limit is reached.
use Rattle.std.proofs.Common.{◌≡◌, ◌-◌, ℕ, List, length, arith, subst, sym}
use Rattle.std.specs.Io.KnownBytes.{Consumes}
use Rattle.std.proofs.KnownBytes.{Consumes-trans}
use Rattle.jrefs.proofs.ReadBytes.{all_read, most_read}
use Rattle.jrefs.proofs.TakenBytes.{takes_more}
use Rattle.jrefs.proofs.input.input_of.Goals as goal

pub returns-then-branch-eq0-clause-ok : goal.returns-then-branch-eq0-clause-ok
returns-then-branch-eq0-clause-ok g c =
    let last = c.in_ok-read_piece.ensures.ok in
    let gone = Consumes-trans _ _ _ _ last.0 c.loop-reader.invariant.1 last.3 in
    all_read 65537 _ _ c.read_piece.new.input.items (subst (Consumes _ _) (sym {A = List ℕ} last.2) gone)
    (c.in_ok-read_piece.ensures.end c.if-branch-eq0.true) c.in_ok-read_piece.ensures.most

pub returns-clause-ok : goal.returns-clause-ok
returns-clause-ok g c =
    let before = c.loop-reader.invariant in
    let full : length c.loop-reader.input.items ≡ 65537 =
    omega (arith, before.0, c.loop-reader-test.false, c.len.ensures) in
    most_read _ _ _ _ before.1 full

pub returns-in_err-read_piece-clause-reads : goal.returns-in_err-read_piece-clause-reads
returns-in_err-read_piece-clause-reads g c =
    let before = c.loop-reader.invariant in
    let so_far = length c.loop-reader.input.items in
    takes_more so_far (65537 - so_far) 65537 _ _ _ c.loop-reader.input.items before.1 (omega arith)
    c.in_err-read_piece.ensures.refused (omega (arith, before.0))
