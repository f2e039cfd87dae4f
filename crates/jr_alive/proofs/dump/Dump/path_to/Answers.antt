use Rattle.std.proofs.Common.{◌≡◌, sym, subst, ◌∙◌}
use Rattle.jr_alive.specs.declared.search.Origin.TheVariants as origin
use Rattle.jr_alive.proofs.Walked.{Walking, walk_fails, walk_goes}
use Rattle.jr_alive.proofs.dump.Dump.path_to.Goals as goal

pub loop-origin-preserved : goal.loop-origin-preserved
loop-origin-preserved c =
    let d = c.args.self.now in
    let es = c.in_ok-reached.reached.entries.items in
    let from : c.in-Some.field-0.origin ≡ origin.Element c.in-Element.array c.in-Element.index = cc in
    subst (λ ss. Walking d 0 es c.args.object c.in-Element.array ss) (sym c.in_ok-push-in-Element.ensures.items)
    (walk_goes d 0 es c.args.object c.loop-origin.at c.loop-origin.edges.items c.in_ok-reached.ensures
    c.loop-origin.invariant c.in-Some.field-0 (sym c.entry.ensures ∙ c.in-Some.is) c.in-Element.array c.in-Element.index
    from)

pub returns : goal.returns
returns c =
    let d = c.args.self.now in
    let es = c.in_ok-reached.reached.entries.items in
    walk_fails d 0 es c.args.object c.loop-origin.at c.loop-origin.edges.items c.in_ok-reached.ensures
    c.loop-origin.invariant (sym c.entry.ensures ∙ c.in_default.is)
