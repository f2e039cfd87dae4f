use Rattle.std.proofs.Common.{◌≡◌, Ok, subst, w64}
use Rattle.std.proofs.lemmas.Int.{to_z-of_z}
use Rattle.jr_scripts.specs.Numbers.{word_of_number}
use Rattle.jr_scripts.proofs.BufferNumbers.{put_ok, put_err}
use Rattle.jr_scripts.proofs.buffer.put_at.Goals as goal

pub returns-clause-ok : goal.returns-clause-ok
returns-clause-ok g c =
    let word = subst (λ v. word_of_number g.E.Elem.KIND v ≡ Ok (g.E.Elem.word_of c.in_ok-element.element))
    (to_z-of_z w64 c.args.number c.ranges.number) c.in_ok-element.ensures.ok in
    put_ok g.E.Elem.KIND g.E.Elem.word_of c.args.elements.now c.set.new.self c.args.index c.args.number
    c.in_ok-element.element word c.set.result c.set.ensures.ok

pub returns-clause-err : goal.returns-clause-err
returns-clause-err g c =
    let word = subst (λ v. word_of_number g.E.Elem.KIND v ≡ Ok (g.E.Elem.word_of c.in_ok-element.element))
    (to_z-of_z w64 c.args.number c.ranges.number) c.in_ok-element.ensures.ok in
    put_err g.E.Elem.KIND g.E.Elem.word_of c.args.elements.now c.set.new.self c.args.index c.args.number
    c.in_ok-element.element word c.set.result c.set.ensures.err
