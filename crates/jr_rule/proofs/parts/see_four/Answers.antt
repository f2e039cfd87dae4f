use Rattle.std.proofs.Common.{◌≡◌, ◌+◌, ℕ, take, length, slice_set, refl, subst, ◌∙◌, arith}
use Rattle.std.proofs.lemmas.List.{length-set}
use Rattle.jr_steps.specs.Knowing.{SawPart}
use Rattle.jr_steps.proofs.PartFacts.{saw_more}
use Rattle.jr_rule.specs.Parts.{facts_within}
use Rattle.jr_rule.proofs.FromMayKnow.{still_known}
use Rattle.jr_rule.proofs.parts.see_four.Goals as goal

pub see_one-second-requires-clause-known : goal.see_one-second-requires-clause-known
see_one-second-requires-clause-known g c = still_known c.see_one-first.ensures.step c.requires.known

pub see_one-third-requires-clause-known : goal.see_one-third-requires-clause-known
see_one-third-requires-clause-known g c =
    still_known c.see_one-second.ensures.step (still_known c.see_one-first.ensures.step c.requires.known)

pub see_one-fourth-requires-clause-known : goal.see_one-fourth-requires-clause-known
see_one-fourth-requires-clause-known g c = still_known c.see_one-third.ensures.step (still_known
    c.see_one-second.ensures.step (still_known c.see_one-first.ensures.step c.requires.known))

pub returns-clause-known : goal.returns-clause-known
returns-clause-known g c =
    still_known c.see_one-fourth.ensures.step (still_known c.see_one-third.ensures.step (still_known
    c.see_one-second.ensures.step (still_known c.see_one-first.ensures.step c.requires.known)))

pub returns-clause-step : goal.returns-clause-step
returns-clause-step g c = λ p saw.
    let i : ℕ = c.args.index in
    let es = c.args.elements.now in
    let a = c.of_word.result in
    let b = c.of_word-2.result in
    let d = c.of_word-3.result in
    let e = c.of_word-4.result in
    let two : i + 1 + 1 ≡ i + 2 = omega arith in
    let three : i + 2 + 1 ≡ i + 3 = omega arith in
    let four : i + 3 + 1 ≡ i + 4 = omega arith in
    let n1 : length (slice_set es i a) ≡ length es = length-set es i a in
    let n2 : length (slice_set (slice_set es i a) (i + 1) b) ≡ length es =
    length-set (slice_set es i a) (i + 1) b ∙ n1 in
    let n3 : length (slice_set (slice_set (slice_set es i a) (i + 1) b) (i + 2) d) ≡ length es =
    length-set (slice_set (slice_set es i a) (i + 1) b) (i + 2) d ∙ n2 in
    let inside = c.requires.index in
    let s1 = saw_more g.E.Elem.element_of c.args.part.object c.args.part.header c.args.part.start i
    (c.args.part.start + i) es a c.see_one-first.result (omega arith) refl c.of_word.ensures saw
    c.see_one-first.ensures.step in
    let s2 = saw_more g.E.Elem.element_of c.args.part.object c.args.part.header c.args.part.start (i + 1)
    (c.args.part.start + i + 1)
    (slice_set es i a) b c.see_one-second.result (omega arith) (omega arith) c.of_word-2.ensures s1
    c.see_one-second.ensures.step in
    let s3 = saw_more g.E.Elem.element_of c.args.part.object c.args.part.header c.args.part.start (i + 2)
    (c.args.part.start + i + 2)
    (slice_set (slice_set es i a) (i + 1) b) d c.see_one-third.result (omega arith) (omega arith)
    c.of_word-3.ensures (subst (λ n. SawPart (facts_within g.C.Cells.sight) p c.see_one-second.new.cells
    c.args.part.object c.args.part.header c.args.part.start g.E.Elem.element_of
    (take n (slice_set (slice_set es i a) (i + 1) b))) two s2)
    c.see_one-third.ensures.step in
    let s4 = saw_more g.E.Elem.element_of c.args.part.object c.args.part.header c.args.part.start (i + 3)
    (c.args.part.start + i + 3)
    (slice_set (slice_set (slice_set es i a) (i + 1) b) (i + 2) d) e c.see_one-fourth.result (omega arith)
    (omega arith) c.of_word-4.ensures
    (subst (λ n. SawPart (facts_within g.C.Cells.sight) p c.see_one-third.new.cells c.args.part.object
    c.args.part.header c.args.part.start g.E.Elem.element_of
    (take n (slice_set (slice_set (slice_set es i a) (i + 1) b) (i + 2) d))) three s3)
    c.see_one-fourth.ensures.step in
    subst (λ n. SawPart (facts_within g.C.Cells.sight) p c.see_one-fourth.new.cells c.args.part.object
    c.args.part.header c.args.part.start g.E.Elem.element_of
    (take n (slice_set (slice_set (slice_set (slice_set es i a) (i + 1) b) (i + 2) d) (i + 3) e))) four s4
