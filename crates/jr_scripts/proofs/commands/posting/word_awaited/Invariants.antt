use Rattle.jr_scripts.specs.Posting.{LooksInVain, Keeps, Follows}
use Rattle.jr_scripts.proofs.Speaking.{IsAsItWas}
use Rattle.jr_scripts.proofs.commands.posting.word_awaited.Given as goal

abbrev pub invariant-loop : goal.invariant-loop
invariant-loop g l = LooksInVain g.B.Board.looked l.name l.fn.board l.counter l.board
    × Keeps g.B.Board.layout g.B.Board.tells l.fn.board l.board
    × Follows g.B.Board.follows l.fn.board l.board (λ words. words) × IsAsItWas g.S.Steps.facts l.fn.steps l.steps
