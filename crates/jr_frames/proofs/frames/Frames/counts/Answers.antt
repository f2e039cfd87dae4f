use Rattle.std.proofs.Common.{◌∙◌, ap, length, nat_le, slice_index, sym}
use Rattle.jr_model.specs.Frames.{all_refs, free_places}
use Rattle.jr_model.specs.Maps.{count_below}
use Rattle.jr_frames.specs.Table.{Table}
use Rattle.jr_frames.proofs.FreePlaces.{free_counted}
use Rattle.jr_frames.proofs.PlacesCounted.{given_counted, standing_counted}
use Rattle.jr_frames.proofs.frames.Frames.counts.Goals as goal

pub returns : goal.returns
returns c = record {
  frames = c.depth.ensures;
  standing = c.count_places-standing.ensures.standing ∙ sym (standing_counted c.self.inside c.self.invariant)
      ∙ ap (λ (t : Table). length (all_refs t.frames)) c.self.view_is;
  free = sym (free_counted c.self.inside c.self.invariant)
      ∙ ap (λ (t : Table). free_places t.last t.frames) c.self.view_is;
  given = c.count_places-standing.ensures.given ∙ sym (given_counted c.self.inside c.self.invariant)
      ∙ ap (λ (t : Table). count_below (length t.frames.given) (λ p. nat_le 1 (slice_index t.frames.given p)))
      c.self.view_is;
}
