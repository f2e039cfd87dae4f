use Rattle.std.proofs.Common.{◌≡◌, Some, None, IsSome, slice_set, not, ap, subst, sym, ◌∙◌}
use Rattle.jr_alive.specs.Graph.{IsInDump}
use Rattle.jr_alive.specs.Searching.{IsSearching, entry_at}
use Rattle.jr_alive.proofs.Found.{none_from}
use Rattle.jr_alive.proofs.OneMore.{stands}
use Rattle.jr_alive.proofs.search.Search.reach.Goals as goal

pub returns-clause-stands : goal.returns-clause-stands
returns-clause-stands c =
    let d = c.args.dump.now in
    let x = c.args.without in
    let es = c.args.self.now.entries.items in
    let o = c.args.object in
    let there : IsInDump d x o = subst IsSome c.header.ensures (c.is_none.ensures ∙ ap not c.if-is_none.false) in
    let none = none_from c.entry.result c.is_some.result c.is_some.ensures c.if-is_some.false in
    let new : entry_at es o ≡ None = sym c.entry.ensures ∙ none in
    subst (λ n. IsSearching d x (slice_set es n (Some c.args.entry)) c.push.new.self.items) (sym c.from.ensures)
    (subst (λ q. IsSearching d x (slice_set es o (Some c.args.entry)) q) (sym c.in_ok-push.ensures.items)
    (stands d x es c.args.self.now.queue.items c.requires.stands o c.args.entry there new c.requires.farthest
    (c.requires.named there)))
