use Rattle.std.proofs.Common.{◌+◌, slice_index_or, refl, sym, ap, ◌∙◌, subst}
use Rattle.jr_word.specs.declared.local.LocalParts.TheVariants as local
use Rattle.jr_alive.specs.declared.search.Search.{Search}
use Rattle.jr_alive.proofs.Rooted.{LocalsTo, locals_skip, locals_take}
use Rattle.jr_alive.proofs.search.Search.reach_locals.Goals as goal
use Rattle.jr_alive.proofs.search.Search.reach_locals.Goals.{in-Object+in_ok-reach, in_default}

pub loop-index-preserved : goal.loop-index-preserved
loop-index-preserved c =
    let d = c.args.dump.now in
    let old = c.args.self.now in
    let n = c.loop-index.index in
    let so : Search → Type 0 =
    λ s. LocalsTo d c.args.without (n + 1) old.entries.items old.queue.items s.entries.items s.queue.items in
    let is = ap (λ xs. slice_index_or xs n local.Free) c.deref-parts-items.ensures.value in
    elim c.match-parts.branch [
      | in-Object+in_ok-reach w ↦
          subst so
          (sym w.self-is)
          (locals_take c.loop-index.invariant (local.Object w.in-Object.object) (sym w.in-Object.is
          ∙ is) w.in-Object.object
          refl w.reach.new.self.entries.items w.reach.new.self.queue.items w.in_ok-reach.ensures.stands
          w.in_ok-reach.ensures.farthest w.in_ok-reach.ensures.grows w.in_ok-reach.ensures.found)
      | in_default w ↦
          subst so
          (sym w.self-is)
          (locals_skip c.loop-index.invariant (slice_index_or d.locals.items n local.Free) refl (λ o e.
          w.in_default.not-Object o (is ∙ e)))
    ]
