use Rattle.std.proofs.Common.{Some, sym, ◌∙◌, subst}
use Rattle.jr_world.specs.Board.{word_under}
use Rattle.jr_scripts.specs.Posting.{WasInVain}
use Rattle.jr_scripts.proofs.Speaking.{has_known, has_waited, keeps_all, known_words, own_looked}
use Rattle.jr_scripts.proofs.commands.posting.wait.Goals as goal

pub returns-in-Some-clause-waited : goal.returns-in-Some-clause-waited
returns-in-Some-clause-waited g c =
    has_known g.S.Steps.facts g.met.S.Steps.fits c.args.env.now.held.steps c.args.name.now (g.B.Board.tells
    c.args.board.now)
    (WasInVain g.B.Board.looked c.args.turns c.args.name.now) (word_under c.args.words.now c.args.name.now)
    c.in-Some.word c.reply_of.result (sym c.word_under.ensures ∙ c.in-Some.is) c.reply_of.ensures

pub returns-in-Some-clause-follows : goal.returns-in-Some-clause-follows
returns-in-Some-clause-follows g c = (
  Some c.in-Some.word,
  c.reply_of.ensures,
  subst (g.B.Board.follows c.args.board.now) (known_words c.args.name.now c.in-Some.word c.args.words.now
      (sym c.word_under.ensures ∙ c.in-Some.is)) c.requires.follows,
)

pub returns-in-Some-clause-kept : goal.returns-in-Some-clause-kept
returns-in-Some-clause-kept g c = keeps_all

pub returns-clause-waited : goal.returns-clause-waited
returns-clause-waited g c = has_waited g.S.Steps.facts (g.B.Board.tells c.word_awaited.new.board) c.args.name.now
    (WasInVain g.B.Board.looked c.args.turns c.args.name.now) (word_under c.args.words.now c.args.name.now)
    c.word_awaited.result c.reply_of-2.result (sym c.word_under.ensures ∙ c.in_default.is) c.reply_of-2.ensures
    c.word_awaited.ensures.found c.word_awaited.ensures.vain

pub returns-clause-follows : goal.returns-clause-follows
returns-clause-follows g c =
    (c.word_awaited.result, c.reply_of-2.ensures, c.word_awaited.ensures.follows c.args.words.now c.requires.follows)

pub invariant_of-held : goal.invariant_of-held
invariant_of-held g c = record {
  own = own_looked g.S.Steps.facts (g.B.Board.tells c.word_awaited.new.board) c.args.name.now c.word_awaited.result
      c.word_awaited.ensures.found c.args.env.now.held.own;
}
