use Rattle.std.proofs.Common.{ap, arith}
use Rattle.jr_scripts.specs.declared.board.Posts.{Posts}
use Rattle.jr_scripts.specs.Layouts.{layout_of}
use Rattle.jr_scripts.specs.Telling.{account_told, has_seen}
use Rattle.jr_scripts.proofs.Noted.{below_still, posted_behind, put_words, told_still}
use Rattle.jr_scripts.proofs.Speaking.{room_posted}
use Rattle.jr_scripts.proofs.room_board.SightingsPinnedNoteOfBoardRoomSteps.post.Goals as goal

pub returns-clause-posted : goal.returns-clause-posted
returns-clause-posted g c =
    let board = c.put.new.self in
    let told = c.by-told.result in
    λ words had. room_posted (account_told board.is_lost board.posts.now.numbers.entries board.notes.items) words
    c.args.name.now c.args.word told.pinned c.by-told.ensures.same c.by-told.ensures.pinned
    (λ h is. posted_behind _ (λ t. has_seen t h) words c.args.name.now c.args.word c.put.ensures.lost
    (ap (λ (p : Posts _). p.numbers.entries) c.put.ensures.same) c.put.ensures.kept is c.put.ensures.noted had)

pub returns-clause-follows : goal.returns-clause-follows
returns-clause-follows g c = λ words had. put_words _ words c.args.name.now c.args.word c.put.ensures.lost
    (ap (λ (p : Posts _). p.numbers.entries) c.put.ensures.same) c.put.ensures.kept c.put.ensures.heard
    c.put.ensures.noted had

pub returns-clause-kept : goal.returns-clause-kept
returns-clause-kept g c =
    let numbers = ap (λ (p : Posts _). p.numbers.entries) c.put.ensures.same in record {
      same = ap layout_of c.put.ensures.same;
      serves = λ room s. s;
      posted = λ words n w h x. told_still c.put.ensures.lost numbers c.put.ensures.kept
          (λ p e. (e.0, below_still _ _ words numbers c.put.ensures.kept (omega arith) e.1)) x;
      heard = λ n w h x. told_still c.put.ensures.lost numbers c.put.ensures.kept (λ p e. e) x;
    }
