use Rattle.std.proofs.Common.{◌∙◌, [], ◌∷◌, ap}
use Rattle.jr_frames.proofs.DroppingAll.{frees}
use Rattle.jr_frames.proofs.Dropping.{owner_then}
use Rattle.jr_frames.proofs.free.free_all.Goals as goal

pub returns-clause-call : goal.returns-clause-call
returns-clause-call g c =
    frees g.met.S.Steps.fits c.empty_frames.ensures.call c.empty_frames.ensures.none c.empty_frames.ensures.given
    (c.take_empty_frames.ensures.freed
    ∙ ap (λ given. record { frames = [] ∷ []; given = given }) c.empty_frames.ensures.given)

pub returns-clause-same : goal.returns-clause-same
returns-clause-same g c = owner_then c.empty_frames.ensures.same c.take_empty_frames.ensures.same
