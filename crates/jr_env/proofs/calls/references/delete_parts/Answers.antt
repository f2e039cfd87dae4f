use Rattle.jr_env.proofs.Removing.{removes, removes_other, removes_outside}
use Rattle.jr_env.proofs.calls.references.delete_parts.Goals as goal

pub returns-then-not-names_kind : goal.returns-then-not-names_kind
returns-then-not-names_kind g c = λ f. removes_other g.met.S.Steps.fits c.args.steps.now f
    (g.S.Steps.facts c.args.steps.now).stands.config c.args.kind c.args.handle (cc)

pub returns-then-lies_outside : goal.returns-then-lies_outside
returns-then-lies_outside g c = λ f. removes_outside g.met.S.Steps.fits c.args.steps.now f
    (g.S.Steps.facts c.args.steps.now).stands.config c.args.kind c.args.handle (cc) (cc)

pub returns : goal.returns
returns g c =
    removes (g.S.Steps.facts c.args.steps.now).stands.config c.args.kind c.args.handle (cc) (cc) c.delete.ensures
