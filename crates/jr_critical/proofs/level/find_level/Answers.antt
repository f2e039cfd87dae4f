use Rattle.std.proofs.Common.{sym, arith}
use Rattle.jr_model.specs.declared.frames.TheConstants.{LEVELS}
use Rattle.jr_frames.specs.Reading.{word_of}
use Rattle.jr_critical.proofs.LevelFound.{level_not_found, level_found, level_too_many}
use Rattle.jr_critical.proofs.LevelFound.{level_of_no_kind, is_less, no_less}
use Rattle.jr_critical.proofs.level.find_level.Goals as goal

pub returns-in_err-object-clause-call : goal.returns-in_err-object-clause-call
returns-in_err-object-clause-call g c = level_not_found (word_of c.args.target) c.args.wanted c.args.count
    c.from_residual.result c.from_residual.ensures.1 c.in_err-object.ensures.beside

pub returns-in_err-accepts-clause-call : goal.returns-in_err-accepts-clause-call
returns-in_err-accepts-clause-call g c =
    level_of_no_kind (word_of c.args.target) c.args.wanted c.args.count g.met.S.Steps.fits c.in_ok-object.ensures.beside
    c.from_residual-in_err-accepts.result c.from_residual-in_err-accepts.ensures.1 (sym c.in_err-accepts.ensures)

pub returns-then-count-ge-LEVELS-clause-call : goal.returns-then-count-ge-LEVELS-clause-call
returns-then-count-ge-LEVELS-clause-call g c =
    level_too_many (word_of c.args.target) c.args.wanted c.args.count g.met.S.Steps.fits c.in_ok-object.ensures.beside
    (sym c.in_ok-accepts.ensures) (no_less LEVELS c.args.count c.if-count-ge-LEVELS.true)

pub returns-clause-call : goal.returns-clause-call
returns-clause-call g c =
    level_found (word_of c.args.target) c.args.wanted c.args.count g.met.S.Steps.fits c.in_ok-object.ensures.beside
    (sym c.in_ok-accepts.ensures) (is_less LEVELS c.args.count (let l = c.if-count-ge-LEVELS.false in omega arith))
