use Rattle.std.proofs.Common.{sym, subst}
use Rattle.jr_scripts.specs.Advancing.{DidCommand}
use Rattle.jr_scripts.proofs.advance.advance.Goals as goal

pub returns-in-Some-clause-did : goal.returns-in-Some-clause-did
returns-in-Some-clause-did g c = subst
    (λ r. DidCommand g.B.Board.layout g.B.Board.tells g.B.Board.looked g.B.Board.follows c.args.turns
    c.args.command.now
    c.args.ledger.now.words.items c.args.env.now c.within.new.env c.args.ledger.now.names c.args.ledger.now.names r
    c.within.result.region
    c.args.board.now c.within.new.board c.within.result.answer)
    (sym c.in-Some.is) c.within.ensures

pub returns-in-None-clause-did : goal.returns-in-None-clause-did
returns-in-None-clause-did g c = subst
    (λ r. DidCommand g.B.Board.layout g.B.Board.tells g.B.Board.looked g.B.Board.follows c.args.turns
    c.args.command.now
    c.args.ledger.now.words.items c.args.env.now c.outside.new.env c.args.ledger.now.names c.outside.new.ledger.names r
    c.outside.result.region
    c.args.board.now c.outside.new.board c.outside.result.answer)
    (sym c.in-None.is) c.outside.ensures.did
