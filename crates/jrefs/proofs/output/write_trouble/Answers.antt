-- The line was made whole, and all or a beginning of it was written.
use Rattle.std.proofs.Common.{◌≡◌, rules, subst}
use Rattle.jrefs.specs.Act.{AppendsBeginning}
use Rattle.jrefs.specs.Trouble.{trouble_line}
use Rattle.jrefs.proofs.TakenBytes.{begins_either_way}
use Rattle.jrefs.proofs.output.write_trouble.Goals as goal

pub returns : goal.returns
returns g c =
    let whole : c.as_slice.result.now ≡ trouble_line c.args.trouble.now = search rules in
    subst (AppendsBeginning _ _) whole
    (begins_either_way _ _ _ c.write_out.result c.write_out.ensures.ok c.write_out.ensures.cut_off)
