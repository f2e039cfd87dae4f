use Rattle.std.proofs.Common.{map}
use Rattle.luthrady.specs.InRegions.{WritesAll}
use Rattle.luthrady.proofs.OwnRegions.{done_in_region, handed, not_opened}
use Rattle.luthrady.proofs.copies.copy_back_in.Goals as goal

-- src/copies.rt
pub returns-in_err-levels : goal.returns-in_err-levels
returns-in_err-levels g c =
    not_opened (WritesAll g.E.Elem.KIND (map g.E.Elem.word_of c.args.elements.now)) _ _ _ _ _ _
    (handed _ _ c.from_residual.ensures.1) c.in_err-levels.ensures.refused

pub returns : goal.returns
returns g c =
    done_in_region (WritesAll g.E.Elem.KIND (map g.E.Elem.word_of c.args.elements.now)) _ _
    c.write_all-answer.new.env _ _ _ _ _
    c.in_ok-levels.ensures.entered c.in_ok-levels.ensures.region c.write_all-answer.ensures.call
    c.write_all-answer.ensures.region c.write_all-answer.ensures.frames c.close_all.ensures.call
    c.close_all.ensures.undisturbed c.close_all.ensures.frames c.close_all.ensures.outside
