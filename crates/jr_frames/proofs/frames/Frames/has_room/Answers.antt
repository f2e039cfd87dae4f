use Rattle.std.proofs.Common.{rules, ◌≡◌, ap, ◌∙◌, sym}
use Rattle.jr_model.specs.Frames.{free_places}
use Rattle.jr_frames.specs.Table.{Table}
use Rattle.jr_frames.proofs.FreePlaces.{free_counted}
use Rattle.jr_frames.proofs.frames.Frames.has_room.Goals as goal

pub returns : goal.returns
returns c =
    let counted : free_places c.args.self.now.last c.args.self.now.frames ≡ c.self.inside.free =
    sym (ap (λ (t : Table). free_places t.last t.frames) c.self.view_is)
    ∙ free_counted c.self.inside c.self.invariant in
    let room = c.from.ensures in
    search rules
