use Rattle.std.proofs.Common.{◌≡◌, ◌-◌, ℕ, Bool, List, Result}
use Rattle.jr_word.specs.declared.fault.Fault.{Fault}
use Rattle.jr_word.specs.declared.handle.Handle.{Handle as NativeHandle}
use Rattle.jr_model.specs.Frames.{Frames}
use Rattle.jr_weak.specs.declared.collecting.Collected.{Collected}
use Rattle.jr_weak.specs.Listing.{ListsTell}
use Rattle.jr_env.specs.Collections.{FitsRoom}
use Rattle.jr_env.specs.Deeds.{DoesOutside}
use Rattle.jr_env.specs.Listings.{listed_in_turn}
use Rattle.luthrady.proofs.collecting.collect_until_served.Given as goal

abbrev pub invariant-loop : goal.invariant-loop
invariant-loop g l =
    (l.marker ≡ l.fn.marker)
    × ((l.handles ≡ l.fn.handles) × (l.numbers ≡ l.fn.numbers))
    × (FitsRoom l.fn.marker l.fn.env → FitsRoom l.marker l.env
    × ((marks : List Bool) (hs : List NativeHandle) (ns : List ℕ) (answer : Result Collected Fault) (last : _)
    (after : Frames) → DoesOutside g.S.Steps.facts l.env.held.steps last l.env.held.frames.frames after
    (listed_in_turn l.tries (l.more - l.counter) marks (ListsTell l.fn.handles l.fn.numbers hs ns)) answer
    → DoesOutside g.S.Steps.facts l.fn.env.held.steps last l.fn.env.held.frames.frames after
    (listed_in_turn l.tries l.more marks (ListsTell l.fn.handles l.fn.numbers hs ns)) answer))
