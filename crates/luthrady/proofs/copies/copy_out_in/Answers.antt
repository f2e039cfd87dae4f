use Rattle.std.proofs.Common.{ap, length, map}
use Rattle.jr_critical.specs.LevelParts.{part_read}
use Rattle.luthrady.specs.InRegions.{ReadsAll}
use Rattle.luthrady.proofs.OwnRegions.{done_in_region, handed, not_opened}
use Rattle.luthrady.proofs.copies.copy_out_in.Goals as goal

-- src/copies.rt
pub returns-in_err-levels-clause-call : goal.returns-in_err-levels-clause-call
returns-in_err-levels-clause-call g c =
    not_opened (ReadsAll g.E.Elem.KIND (length c.args.elements.now)) _ _ _ _ _ _
    (ap (λ r. part_read r (map g.E.Elem.word_of c.args.elements.now)) (handed _ _ c.from_residual.ensures.1))
    c.in_err-levels.ensures.refused

pub returns-clause-call : goal.returns-clause-call
returns-clause-call g c =
    done_in_region (ReadsAll g.E.Elem.KIND (length c.args.elements.now)) _ _ c.read_all-answer.new.env _ _ _ _ _
    c.in_ok-levels.ensures.entered c.in_ok-levels.ensures.region c.read_all-answer.ensures.call
    c.read_all-answer.ensures.region c.read_all-answer.ensures.frames c.close_all.ensures.call
    c.close_all.ensures.undisturbed c.close_all.ensures.frames c.close_all.ensures.outside
