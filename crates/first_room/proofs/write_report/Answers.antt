-- The lines are the report's.
use Rattle.std.proofs.Common.{◌≡◌, rules, subst, to_z, of_z, w32}
use Rattle.std.specs.Io.KnownBytes.{Appends}
use Rattle.std.specs.Prelude.{codes}
use Rattle.std.specs.Fmt.{decimal, signed_decimal}
use Rattle.first_room.specs.Hour.{told_line, yes_or_no}
use Rattle.first_room.proofs.Texts.{none, more, grown}
use Rattle.first_room.proofs.write_report.Goals as goal

pub returns : goal.returns
returns g c =
    let r = c.args.report in
    let w = g.W.Write.contents in
    let a : Appends (w c.args.out.now) (w c.writeln.new.self)
    (told_line (codes "a collection is refused: E14, inside: ") (decimal r.inside)) =
    search (rules, c.in_ok-writeln.ensures.bytes) in
    let own : to_z w32 (of_z w32 c.args.report.read) ≡ c.args.report.read = search rules in
    let told : Appends (w c.writeln.new.self) (w c.writeln-2.new.self)
    (told_line (codes "the second thread reads ") (signed_decimal (to_z w32 (of_z w32 c.args.report.read)))) =
    search (rules, c.in_ok-writeln-2.ensures.bytes) in
    let b : Appends (w c.writeln.new.self) (w c.writeln-2.new.self)
    (told_line (codes "the second thread reads ") (signed_decimal r.read)) = subst (λ z. Appends (w c.writeln.new.self)
    (w c.writeln-2.new.self) (told_line (codes "the second thread reads ") (signed_decimal z))) own told in
    let d : Appends (w c.writeln-2.new.self) (w c.writeln-3.new.self)
    (told_line (codes "the weak reference is to null: ") (yes_or_no r.cleared)) =
    search (rules, c.in_ok-writeln-3.ensures.bytes) in
    let e : Appends (w c.writeln-3.new.self) (w c.writeln-4.new.self)
    (told_line (codes "the deleted reference has type ") (decimal r.kind)) =
    search (rules, c.in_ok-writeln-4.ensures.bytes) in
    let f : Appends (w c.writeln-4.new.self) (w c.writeln-5.new.self)
    (told_line (codes "global references left: ") (decimal r.left.globals)) =
    search (rules, c.in_ok-writeln-5.ensures.bytes) in
    let h : Appends (w c.writeln-5.new.self) (w c.writeln-6.new.self)
    (told_line (codes "weak references left: ") (decimal r.left.weaks)) =
    search (rules, c.in_ok-writeln-6.ensures.bytes) in
    let i : Appends (w c.writeln-6.new.self) (w c.writeln-7.new.self)
    (told_line (codes "objects left: ") (decimal r.left.live)) = search (rules, c.in_ok-writeln-7.ensures.bytes) in
    let j : Appends (w c.writeln-7.new.self) (w c.writeln-8.new.self)
    (told_line (codes "words left: ") (decimal r.left.used)) = search (rules, c.in_ok-writeln-8.ensures.bytes) in
    grown (more a (more b (more d (more e (more f (more h (more i (more j none))))))))
