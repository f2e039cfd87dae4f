use Rattle.std.proofs.Common.{arith, sym, subst}
use Rattle.jr_steps.specs.Knowing.{Standing}
use Rattle.jr_scripts.specs.Posting.{no_look}
use Rattle.jr_scripts.proofs.Speaking.{as_it_was, as_it_was_then, found_none, looked_again}
use Rattle.jr_scripts.proofs.Speaking.{looked_all, looked_none, looked_then, keeps_all, still_more}
use Rattle.jr_scripts.proofs.commands.posting.word_awaited.Goals as goal

pub loop-init : goal.loop-init
loop-init g c = (no_look, keeps_all, (λ words f. f), as_it_was g.S.Steps.facts)

pub look-requires : goal.look-requires
look-requires g c = c.loop.invariant.1.serves _ (subst
    (λ (s : Standing). (g.B.Board.tells c.args.board.now).serves s.room) (sym c.loop.invariant.3.stands_is) c.requires)

pub loop-preserved : goal.loop-preserved
loop-preserved g c = (
  looked_again c.loop.counter c.loop.invariant.0 c.in-None.ensures.once,
  still_more g.B.Board.layout g.B.Board.tells c.loop.invariant.1 c.in-None.ensures.kept,
  (λ words f. c.in-None.ensures.follows words (c.loop.invariant.2 words f)),
  as_it_was_then g.S.Steps.facts c.loop.invariant.3 (found_none g.S.Steps.facts c.in-None.ensures.found),
)

pub returns-in-Some-clause-found : goal.returns-in-Some-clause-found
returns-in-Some-clause-found g c = looked_then g.S.Steps.facts c.loop.invariant.3 c.in-Some.ensures.found

pub returns-in-Some-clause-kept : goal.returns-in-Some-clause-kept
returns-in-Some-clause-kept g c = still_more g.B.Board.layout g.B.Board.tells c.loop.invariant.1 c.in-Some.ensures.kept

pub returns-clause-found : goal.returns-clause-found
returns-clause-found g c = looked_none g.S.Steps.facts c.loop.invariant.3 (λ k. tt)

pub returns-clause-vain : goal.returns-clause-vain
returns-clause-vain g c = (_, _, looked_all c.loop.counter c.args.turns (omega arith) c.loop.invariant.0)

pub returns-clause-kept : goal.returns-clause-kept
returns-clause-kept g c = c.loop.invariant.1

pub returns-in-Some-clause-follows : goal.returns-in-Some-clause-follows
returns-in-Some-clause-follows g c = λ words f. c.in-Some.ensures.follows words (c.loop.invariant.2 words f)

pub returns-clause-follows : goal.returns-clause-follows
returns-clause-follows g c = c.loop.invariant.2
