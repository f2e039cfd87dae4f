use Rattle.std.proofs.Common.{◌∙◌, ap, sym}
use Rattle.jr_scripts.specs.Text.{left_by}
use Rattle.jr_scripts.proofs.NameMaps.{released_names}
use Rattle.jr_scripts.proofs.commands.copies.release.Goals as goal

pub returns-clause-names : goal.returns-clause-names
returns-clause-names g c =
    released_names c.args.names.now c.take.new.self c.set.new.self c.args.name.now c.args.target.now c.args.mode
    c.release_buffer-released.result.answer c.in_ok-buffer.field-0.now c.take.result
    c.release_buffer-released.result.left c.set.result c.in_ok-buffer.ensures c.take.ensures.new c.take.ensures.old
    (c.release_buffer-released.ensures.left
    ∙ ap (left_by c.args.mode c.release_buffer-released.result.answer) (sym c.in-Buffer.is))
    c.set.ensures.ok c.set.ensures.absent
