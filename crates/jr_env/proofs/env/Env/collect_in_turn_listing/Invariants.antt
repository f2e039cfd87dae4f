use Rattle.std.proofs.Common.{◌≡◌, ◌-◌, ℕ, Bool, List, Result}
use Rattle.jr_word.specs.declared.fault.Fault.{Fault}
use Rattle.jr_word.specs.declared.handle.Handle.{Handle as NativeHandle}
use Rattle.jr_model.specs.Frames.{Frames}
use Rattle.jr_weak.specs.declared.collecting.Collected.{Collected}
use Rattle.jr_weak.specs.Listing.{ListsTell}
use Rattle.jr_env.specs.Collections.{FitsRoom}
use Rattle.jr_env.specs.Deeds.{DoesOutside}
use Rattle.jr_env.specs.Listings.{listed_in_turn}
use Rattle.jr_env.proofs.env.Env.collect_in_turn_listing.Given as goal

abbrev pub invariant-loop : goal.invariant-loop
invariant-loop g l =
    FitsRoom l.marker l.self
    × (l.marker ≡ l.fn.marker)
    × ((g.S.Steps.facts l.self.held.steps).stands.config ≡ (g.S.Steps.facts l.fn.self.held.steps).stands.config)
    × ((l.handles ≡ l.fn.handles) × (l.numbers ≡ l.fn.numbers))
    × ((marks : List Bool) (hs : List NativeHandle) (ns : List ℕ) (answer : Result Collected Fault) (last : _)
    (after : Frames) → DoesOutside g.S.Steps.facts l.self.held.steps last l.self.held.frames.frames after
    (listed_in_turn l.tries (l.patience.more - l.counter) marks (ListsTell l.fn.handles l.fn.numbers hs ns)) answer
    → DoesOutside g.S.Steps.facts l.fn.self.held.steps last l.fn.self.held.frames.frames after
    (listed_in_turn l.tries l.patience.more marks (ListsTell l.fn.handles l.fn.numbers hs ns)) answer)
