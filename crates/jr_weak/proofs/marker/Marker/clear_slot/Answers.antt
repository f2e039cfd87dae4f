use Rattle.std.proofs.Common.{◌≡◌, None, Some, sym, subst}
use Rattle.jr_weak.specs.Marks.{IsMarked, weak_in}
use Rattle.jr_weak.specs.Markers.{marks_of}
use Rattle.jr_weak.specs.Sweeping.{SweepsSlot}
use Rattle.jr_weak.proofs.Sweeps.{slot_left, slot_may, slot_cleared, weak_pair}
use Rattle.jr_weak.proofs.marker.Marker.clear_slot.Goals as goal

pub returns-in_err-serial : goal.returns-in_err-serial
returns-in_err-serial g c =
    let none : None ≡ weak_in c.scan_slot-parts.result = c.in_err-serial.ensures in
    subst (λ r. SweepsSlot g.S.Steps.facts (marks_of c.args.self.now) c.args.index c.args.steps.now
    c.scan_slot-parts.new.self r) (sym c.from_residual.ensures)
    (slot_left g.met.S.Steps.fits (marks_of c.args.self.now) c.args.index c.requires.role c.scan_slot-parts.result
    c.scan_slot-parts.ensures (λ n o e. absurd cc))

pub returns-then-is_marked : goal.returns-then-is_marked
returns-then-is_marked g c =
    let is : weak_in c.scan_slot-parts.result ≡ Some (c.in_ok-serial.serial, c.in_ok-serial.object) =
    sym c.in_ok-serial.ensures in
    slot_left g.met.S.Steps.fits (marks_of c.args.self.now) c.args.index c.requires.role c.scan_slot-parts.result
    c.scan_slot-parts.ensures (λ n o e.
    subst (IsMarked (marks_of c.args.self.now)) (weak_pair c.scan_slot-parts.result c.in_ok-serial.serial
    c.in_ok-serial.object n o is e) (c.is_marked.ensures.0 c.if-is_marked.true))

pub wipe-requires-clause-can : goal.wipe-requires-clause-can
wipe-requires-clause-can g c =
    let is : weak_in c.scan_slot-parts.result ≡ Some (c.in_ok-serial.serial, c.in_ok-serial.object) =
    sym c.in_ok-serial.ensures in
    slot_may g.met.S.Steps.fits (marks_of c.args.self.now) c.args.index c.requires.role c.scan_slot-parts.result
    c.scan_slot-parts.ensures c.in_ok-serial.serial c.in_ok-serial.object is
    (λ m. let z = c.is_marked.ensures.1 m in let w = c.if-is_marked.false in cc) c.requires.marked

pub returns : goal.returns
returns g c =
    let is : weak_in c.scan_slot-parts.result ≡ Some (c.in_ok-serial.serial, c.in_ok-serial.object) =
    sym c.in_ok-serial.ensures in
    subst (λ w. SweepsSlot g.S.Steps.facts (marks_of c.args.self.now) c.args.index c.args.steps.now c.wipe.new.self
    (Some (record { 0 = w }))) (sym c.pack.ensures)
    (slot_cleared g.met.S.Steps.fits (marks_of c.args.self.now) c.args.index c.requires.role c.scan_slot-parts.result
    c.scan_slot-parts.ensures c.in_ok-serial.serial c.in_ok-serial.object is
    (λ m. let z = c.is_marked.ensures.1 m in let w = c.if-is_marked.false in cc) c.wipe.ensures)
