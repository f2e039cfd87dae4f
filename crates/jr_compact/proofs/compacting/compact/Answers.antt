use Rattle.std.proofs.Common.{rules}
use Rattle.std.proofs.lemmas.List.Sorted.{IsNonDecreasingBy-from_sort_by_key}
use Rattle.jr_compact.proofs.Together.{place_at}
use Rattle.jr_compact.proofs.Compacts.{sorted_noted, settleable, used_fits, compacted}
use Rattle.jr_compact.proofs.compacting.compact.Goals as goal

pub bring_together-used-requires-clause-sorted : goal.bring_together-used-requires-clause-sorted
bring_together-used-requires-clause-sorted g c =
    IsNonDecreasingBy-from_sort_by_key place_at _ c.sort_unstable_by_key.ensures.sorted (λ a r q k. search rules)

pub bring_together-used-requires-clause-noted : goal.bring_together-used-requires-clause-noted
bring_together-used-requires-clause-noted g c = sorted_noted g.S.Steps.facts g.met.S.Steps.fits c.args.present.now _ _
    c.sort_unstable_by_key.ensures.permutation c.note-count.ensures.noted c.requires.can

pub set_top-requires-clause-room : goal.set_top-requires-clause-room
set_top-requires-clause-room g c = used_fits g.S.Steps.facts g.met.S.Steps.fits c.args.present.now _ _
    c.sort_unstable_by_key.ensures.permutation c.note-count.ensures.noted c.bring_together-used.ensures c.requires.can

pub set_top-requires-clause-can : goal.set_top-requires-clause-can
set_top-requires-clause-can g c = settleable g.S.Steps.facts g.met.S.Steps.fits c.args.present.now _ _
    c.sort_unstable_by_key.ensures.permutation c.note-count.ensures.noted c.bring_together-used.ensures c.requires.can

pub returns-clause-acts : goal.returns-clause-acts
returns-clause-acts g c =
    compacted g.S.Steps.facts g.met.S.Steps.fits c.args.present.now _ _ c.sort_unstable_by_key.ensures.permutation
    c.note-count.ensures.noted c.bring_together-used.ensures c.requires.role c.set_top.ensures
