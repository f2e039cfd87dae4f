use Rattle.std.proofs.Common.{sym, subst}
use Rattle.jr_weak.specs.Markers.{marks_of}
use Rattle.jr_weak.specs.Sweeping.{SweepsNumber}
use Rattle.jr_weak.proofs.Drops.{number_marked, number_none, number_may, number_dropped}
use Rattle.jr_weak.proofs.marker.Marker.drop_number.Goals as goal

pub returns-then-is_marked : goal.returns-then-is_marked
returns-then-is_marked g c = number_marked g.met.S.Steps.fits (marks_of c.args.self.now) c.args.object c.requires.role
    (c.is_marked.ensures.0 c.if-is_marked.true)

pub returns-in_err-_header : goal.returns-in_err-_header
returns-in_err-_header g c =
    subst (λ r. SweepsNumber g.S.Steps.facts (marks_of c.args.self.now) c.args.object c.args.steps.now
    c.scan_header.new.self r) (sym c.from_residual.ensures)
    (number_none g.met.S.Steps.fits (marks_of c.args.self.now) c.args.object c.requires.role c.in_err-_header.ensures)

pub drop_header-requires-clause-can : goal.drop_header-requires-clause-can
drop_header-requires-clause-can g c = number_may g.met.S.Steps.fits (marks_of c.args.self.now) c.args.object
    c.requires.role (λ m. let z = c.is_marked.ensures.1 m in let w = c.if-is_marked.false in cc) c.in_ok-_header._header
    c.in_ok-_header.ensures c.requires.can

pub returns : goal.returns
returns g c = number_dropped g.met.S.Steps.fits (marks_of c.args.self.now) c.args.object c.requires.role
    (λ m. let z = c.is_marked.ensures.1 m in let w = c.if-is_marked.false in cc) c.in_ok-_header._header
    c.in_ok-_header.ensures c.drop_header.ensures
