use Rattle.std.proofs.Common.{subst}
use Rattle.jr_env.specs.Retried.{TriesAgainToOpen}
use Rattle.jr_scripts.proofs.Retries.{tried_in_turns, tried_never}
use Rattle.jr_scripts.proofs.Within.{did_tries, has_tried}
use Rattle.jr_scripts.proofs.commands.regions.open.Goals as goal

pub returns-in_err-patience-clause-does : goal.returns-in_err-patience-clause-does
returns-in_err-patience-clause-does g c = did_tries c.args.verb c.args.handle g.met.S.Steps.fits c.args.env.now
    c.args.env.now c.requires (tried_never c.in_err-patience.field-0.0 c.from_residual.result c.from_residual.ensures.1
    c.in_err-patience.ensures)

pub returns-clause-does : goal.returns-clause-does
returns-clause-does g c = did_tries c.args.verb c.args.handle g.met.S.Steps.fits c.args.env.now
    c.retry_open.new.env c.requires
    (tried_in_turns c.in_ok-patience.patience c.retry_open.result c.map_err.result c.in_ok-patience.ensures
    (subst (λ f. TriesAgainToOpen c.in_ok-patience.patience f c.args.env.now c.retry_open.result
    c.retry_open.new.env) c.first_of.ensures c.retry_open.ensures.tried) c.map_err.ensures.cases)

pub returns-clause-one : goal.returns-clause-one
returns-clause-one g c = (has_tried c.args.verb c.args.handle c.args.env.now
    c.retry_open.new.env c.requires
    (tried_in_turns c.in_ok-patience.patience c.retry_open.result c.map_err.result c.in_ok-patience.ensures
    (subst (λ f. TriesAgainToOpen c.in_ok-patience.patience f c.args.env.now c.retry_open.result
    c.retry_open.new.env) c.first_of.ensures c.retry_open.ensures.tried) c.map_err.ensures.cases)).0

pub returns-clause-outside : goal.returns-clause-outside
returns-clause-outside g c = (has_tried c.args.verb c.args.handle c.args.env.now
    c.retry_open.new.env c.requires
    (tried_in_turns c.in_ok-patience.patience c.retry_open.result c.map_err.result c.in_ok-patience.ensures
    (subst (λ f. TriesAgainToOpen c.in_ok-patience.patience f c.args.env.now c.retry_open.result
    c.retry_open.new.env) c.first_of.ensures c.retry_open.ensures.tried) c.map_err.ensures.cases)).1
