use Rattle.std.proofs.Common.{ap, sym, ◌∙◌}
use Rattle.jr_model.specs.Frames.{free_places}
use Rattle.jr_frames.specs.Table.{Table}
use Rattle.jr_frames.proofs.FreePlaces.{free_counted}
use Rattle.jr_frames.proofs.frames.Frames.free_places.Goals as goal

pub returns : goal.returns
returns c = c.from.ensures ∙ sym (free_counted c.self.inside c.self.invariant)
    ∙ ap (λ (t : Table). free_places t.last t.frames) c.self.view_is
