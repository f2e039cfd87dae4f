use Rattle.std.proofs.Common.{ap, length, map}
use Rattle.jr_word.specs.declared.kind.Kind.TheVariants.{Char}
use Rattle.jr_critical.specs.LevelParts.{ReadsPartAt, part_read}
use Rattle.luthrady.specs.Replies.{the_number}
use Rattle.luthrady.proofs.OwnRegions.{done_in_region, handed, not_opened}
use Rattle.luthrady.proofs.strings.read_units_in.Goals as goal

-- src/strings.rt
pub returns-in_err-levels-clause-call : goal.returns-in_err-levels-clause-call
returns-in_err-levels-clause-call g c =
    not_opened (λ a b v r. ReadsPartAt a b v 0 Char c.args.start (length c.args.units.now) r) _ _ _ _ _ _
    (ap (λ r. part_read r (map the_number c.args.units.now)) (handed _ _ c.from_residual.ensures.1))
    c.in_err-levels.ensures.refused

pub returns-clause-call : goal.returns-clause-call
returns-clause-call g c =
    done_in_region (λ a b v r. ReadsPartAt a b v 0 Char c.args.start (length c.args.units.now) r) _ _
    c.get_part-answer.new.env _ _ _ _ _
    c.in_ok-levels.ensures.entered c.in_ok-levels.ensures.region c.get_part-answer.ensures.call
    c.get_part-answer.ensures.region c.get_part-answer.ensures.frames c.close_all.ensures.call
    c.close_all.ensures.undisturbed c.close_all.ensures.frames c.close_all.ensures.outside
