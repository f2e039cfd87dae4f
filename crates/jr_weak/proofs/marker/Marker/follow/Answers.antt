use Rattle.std.proofs.Common.{◌<◌, refl, sym, ap, subst, ◌∙◌, arith}
use Rattle.jr_steps.specs.Knowing.{Standing}
use Rattle.jr_weak.specs.Marks.{IsMarked}
use Rattle.jr_weak.proofs.Leading.{may_marked}
use Rattle.jr_weak.proofs.Queues.{same_default, queue_few, queue_number}
use Rattle.jr_weak.proofs.ElementMarks.{followed_none, followed_next, followed_all}
use Rattle.jr_weak.proofs.marker.Marker.follow.Goals as goal

pub loop-next-init : goal.loop-next-init
loop-next-init g c = (
  followed_none g.met.S.Steps.fits c.args.self.now.marked.items c.args.steps.now c.args.self.now.found.items,
  refl,
  omega arith,
)

pub returns-then-next-self-clause-marks : goal.returns-then-next-self-clause-marks
returns-then-next-self-clause-marks g c =
    let s = c.loop-next.self in
    let few = queue_few s.marked.items s.found.items s.count s.queue in
    let n = c.requires.room in
    let f = c.loop-next.invariant.1 in
    let most = c.loop-next.invariant.2 in
    followed_all g.met.S.Steps.fits c.loop-next.next c.loop-next.invariant.0 c.requires.role s.queue c.if-next-self.true
    most (omega arith)

pub mark_elements-requires-clause-number : goal.mark_elements-requires-clause-number
mark_elements-requires-clause-number g c =
    let s = c.loop-next.self in
    let q = s.queue in
    let l : c.loop-next.next < s.count = let z = c.if-next-self.false in omega arith in
    let few = queue_few s.marked.items s.found.items s.count q in
    let is =
    c.index-object.ensures ∙ same_default s.found.items c.loop-next.next c.index-object.result.now 0 (omega arith) in
    let z = queue_number s.marked.items s.found.items s.count c.index-object.result.now q
    (subst (IsMarked s.marked.items) (sym is) (q.listed c.loop-next.next l)) in
    let high = z.1 in
    let at = ap (λ (w : Standing). w.config.objects) (c.loop-next.invariant.0).saw.stands_is in
    let f = c.loop-next.invariant.1 in
    let n = c.requires.room in
    (z.0, omega arith)

pub mark_elements-requires-clause-marked : goal.mark_elements-requires-clause-marked
mark_elements-requires-clause-marked g c =
    let s = c.loop-next.self in
    let q = s.queue in
    let l : c.loop-next.next < s.count = let z = c.if-next-self.false in omega arith in
    let few = queue_few s.marked.items s.found.items s.count q in
    let is =
    c.index-object.ensures ∙ same_default s.found.items c.loop-next.next c.index-object.result.now 0 (omega arith) in
    subst (IsMarked s.marked.items) (sym is) (q.listed c.loop-next.next l)

pub mark_elements-requires-clause-marking : goal.mark_elements-requires-clause-marking
mark_elements-requires-clause-marking g c = may_marked c.requires.marking c.loop-next.invariant.0

pub loop-next-preserved : goal.loop-next-preserved
loop-next-preserved g c =
    let s = c.loop-next.self in
    let q = s.queue in
    let l : c.loop-next.next < s.count = let z = c.if-next-self.false in omega arith in
    let few = queue_few s.marked.items s.found.items s.count q in
    let is =
    c.index-object.ensures ∙ same_default s.found.items c.loop-next.next c.index-object.result.now 0 (omega arith) in
    let m = c.mark_elements.ensures in (
      followed_next g.met.S.Steps.fits c.loop-next.next c.loop-next.invariant.0 c.index-object.result.now
          c.requires.role l is m.before m.marks,
      m.room ∙ c.loop-next.invariant.1,
      (let more = (m.before).more in omega arith),
    )

pub returns-clause-marks : goal.returns-clause-marks
returns-clause-marks g c =
    let s = c.loop-next.self in
    let few = queue_few s.marked.items s.found.items s.count s.queue in
    let a = c.loop-next.auto.next-end in
    let b = c.loop-next-test.false in
    let n = c.len-objects.ensures in
    let f = c.loop-next.invariant.1 in
    let most = c.loop-next.invariant.2 in
    let r = c.requires.room in
    followed_all g.met.S.Steps.fits c.loop-next.next c.loop-next.invariant.0 c.requires.role s.queue (omega arith) most
    (omega arith)
