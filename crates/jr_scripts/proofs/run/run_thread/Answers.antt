use Rattle.std.proofs.Common.{rules, arith, refl, sym, ap, subst, ◌∙◌}
use Rattle.jr_word.specs.declared.config.Config.{Config}
use Rattle.jr_scripts.proofs.CommandLoop.{begun, finished, followed, went_on, cut_off}
use Rattle.jr_scripts.proofs.Speaking.{carries_on, keeps_all, still_more}
use Rattle.jr_scripts.proofs.run.run_thread.Goals as goal

pub loop-i-init : goal.loop-i-init
loop-i-init g c = (
  begun _ _ _ _ _ _ _ _ c.requires.outside c.new-ledger.ensures.names c.new-ledger.ensures.words,
  c.requires.outside,
  refl,
  keeps_all,
  subst (g.B.Board.follows c.args.board.now) (sym c.new-ledger.ensures.words) c.requires.follows,
)

pub loop-i-preserved : goal.loop-i-preserved
loop-i-preserved g c = (
  went_on (carries_on g.B.Board.layout g.B.Board.tells g.B.Board.looked c.args.task.turns _ _
      c.advance-outcome.ensures.did.kept) _
      _ _ c.loop-i.i c.command-item.result _ _ _ _ _ _ (sym c.advance-outcome.ensures.words) _ _ c.record.result
      (omega arith) (search rules) c.loop-i.invariant.0 c.advance-outcome.ensures.did.does
      c.advance-outcome.ensures.did.names c.advance-outcome.ensures.did.levels
      c.advance-outcome.ensures.did.objects c.record.ensures c.in-Ok.is,
  c.advance-outcome.ensures.did.stand,
  c.advance-outcome.ensures.room ∙ c.loop-i.invariant.2,
  still_more g.B.Board.layout g.B.Board.tells c.loop-i.invariant.3 c.advance-outcome.ensures.did.kept,
  followed c.command-item.result _ _ _ _ _ _ _ _ _ _ c.record.result (g.B.Board.follows
      c.advance-outcome.new.board)
      (sym c.advance-outcome.ensures.words) c.advance-outcome.ensures.did.names c.record.ensures c.in-Ok.is
      c.advance-outcome.ensures.did.follows,
)

pub advance-outcome-requires-clause-follows : goal.advance-outcome-requires-clause-follows
advance-outcome-requires-clause-follows g c = c.loop-i.invariant.4

pub advance-outcome-requires-clause-there : goal.advance-outcome-requires-clause-there
advance-outcome-requires-clause-there g c =
    c.loop-i.invariant.3.serves _ (subst (λ room. (g.B.Board.tells c.args.board.now).serves room)
    (sym (c.loop-i.invariant.0).stands_is.room) c.requires.there)

pub advance-outcome-requires-clause-room : goal.advance-outcome-requires-clause-room
advance-outcome-requires-clause-room g c = c.loop-i.invariant.2
    ∙ (c.requires.room ∙ sym (ap (λ (x : Config). x.objects) (c.loop-i.invariant.0).stands_is.config))

pub returns-in_default-clause-room : goal.returns-in_default-clause-room
returns-in_default-clause-room g c = c.advance-outcome.ensures.room ∙ c.loop-i.invariant.2

pub returns-clause-room : goal.returns-clause-room
returns-clause-room g c = c.loop-i.invariant.2

pub returns-in_default-clause-kept : goal.returns-in_default-clause-kept
returns-in_default-clause-kept g c =
    still_more g.B.Board.layout g.B.Board.tells c.loop-i.invariant.3 c.advance-outcome.ensures.did.kept

pub returns-clause-kept : goal.returns-clause-kept
returns-clause-kept g c = c.loop-i.invariant.3

pub returns-in_default-clause-explained : goal.returns-in_default-clause-explained
returns-in_default-clause-explained g c =
    cut_off (carries_on g.B.Board.layout g.B.Board.tells g.B.Board.looked c.args.task.turns _ _
    c.advance-outcome.ensures.did.kept)
    _ _ _ c.loop-i.i c.command-item.result _ _ _ _ _ _ (sym c.advance-outcome.ensures.words) _ _ c.record.result _
    c.requires.outside (omega arith) (search rules) c.loop-i.invariant.0 c.advance-outcome.ensures.did.does
    c.advance-outcome.ensures.did.objects c.record.ensures c.in_default.is c.end.ensures.does

pub returns-clause-explained : goal.returns-clause-explained
returns-clause-explained g c =
    finished c.loop-i.i c.requires.outside (omega arith) c.loop-i.invariant.0 c.end-2.ensures.does
