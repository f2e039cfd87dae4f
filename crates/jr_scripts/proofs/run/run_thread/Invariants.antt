use Rattle.std.proofs.Common.{◌≡◌, take}
use Rattle.jr_weak.specs.Markers.{room_of}
use Rattle.jr_scripts.specs.Advancing.{StandsWith}
use Rattle.jr_scripts.specs.Posting.{Keeps, talk_of}
use Rattle.jr_scripts.proofs.CommandLoop.{Going}
use Rattle.jr_scripts.proofs.run.run_thread.Given as goal

abbrev pub invariant-loop-i : goal.invariant-loop-i
invariant-loop-i g l =
    Going g.S.Steps.facts l.fn.env.held.steps l.env.held.steps l.fn.env.held.frames.frames l.env.held.frames.frames
    (talk_of g.B.Board.tells g.B.Board.looked l.task.turns l.board) l.task.turns l.task.first
    (take l.i l.task.commands.now) l.fn.out.items l.out.items l.ledger.names l.ledger.words.items l.region
    × StandsWith l.region l.env
    × (room_of l.marker ≡ room_of l.fn.marker)
    × Keeps g.B.Board.layout g.B.Board.tells l.fn.board l.board
    × g.B.Board.follows l.board l.ledger.words.items
