use Rattle.std.proofs.Common.{◌∙◌, ap, sym, None}
use Rattle.std.specs.FinMap.{from_entries, insert}
use Rattle.jr_scripts.specs.Names.{name_order}
use Rattle.jr_scripts.proofs.NameMaps.{kept_as, named_in, not_set, one_named, whatever_err}
use Rattle.jr_scripts.proofs.names.Names.set.Goals as goal

pub returns-clause-ok : goal.returns-clause-ok
returns-clause-ok c =
    one_named c.self.inside.bindings.entries c.insert.new.self.entries c.copy.result c.args.binding
    c.in_ok-insert.ensures.updates.0
    ∙ (ap (λ n. insert (from_entries {R = name_order} c.self.inside.bindings.entries) n c.args.binding) c.copy.ensures
    ∙ ap (λ m. insert m c.args.name.now c.args.binding) c.self.view_is)

pub returns-in_err-insert-clause-absent : goal.returns-in_err-insert-clause-absent
returns-in_err-insert-clause-absent c =
    whatever_err c.from_residual.result (not_set c.args.self.now c.args.name.now
    (kept_as c.self.inside.bindings.entries c.args.self.now c.args.name.now c.self.view_is None
    (ap (named_in c.self.inside.bindings.entries) (sym c.copy.ensures) ∙ c.in_err-insert.ensures.absent)))
