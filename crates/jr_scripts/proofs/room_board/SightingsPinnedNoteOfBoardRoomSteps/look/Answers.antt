use Rattle.std.proofs.Common.{◌≡◌, arith, rules, true, ap, refl, inr}
use Rattle.jr_scripts.specs.declared.board.Posts.{Posts}
use Rattle.jr_scripts.specs.Layouts.{layout_of}
use Rattle.jr_scripts.specs.Telling.{account_told, have_seen}
use Rattle.jr_scripts.proofs.Noted.{below_still, noted_at, told_still, words_more}
use Rattle.jr_scripts.proofs.Speaking.{room_heard}
use Rattle.jr_scripts.proofs.room_board.SightingsPinnedNoteOfBoardRoomSteps.look.Goals as goal

pub returns-clause-found : goal.returns-clause-found
returns-clause-found g c =
    let board = c.hear.new.self in
    let posted = c.posted-posted.result.now in
    let was : c.learned_by.result ≡ true = search rules in
    room_heard (account_told board.is_lost board.posts.now.numbers.entries board.notes.items) c.args.name.now
    posted.word posted.told.pinned (c.learned_by.ensures.step was) (c.learned_by.ensures.learned was)
    (λ h seen. noted_at board.notes.items c.args.name.now c.in_ok-number.number posted c.in_ok-number.note.token.value
    posted.word (λ p. have_seen p.told h) (ap (λ (p : Posts _). p.numbers.entries) c.hear.ensures.same)
    c.in_ok-number.ensures.number refl seen c.posted-posted.ensures c.hear.ensures.noted)

pub returns-clause-follows : goal.returns-clause-follows
returns-clause-follows g c =
    let board = c.hear.new.self in
    let posted = c.posted-posted.result.now in
    let same = ap (λ (p : Posts _). p.numbers.entries) c.hear.ensures.same in
    λ words had. words_more _ {so = λ p. p.stamp ≡ posted.stamp} words c.args.name.now posted.word c.hear.ensures.lost
    same c.hear.ensures.kept (λ p e. let few = c.hear.ensures.stamp in omega arith) (inr c.hear.ensures.heard)
    (noted_at board.notes.items c.args.name.now c.in_ok-number.number posted c.in_ok-number.note.token.value posted.word
    (λ p. p.stamp ≡ posted.stamp) same c.in_ok-number.ensures.number refl refl c.posted-posted.ensures
    c.hear.ensures.noted) had

pub returns-clause-kept : goal.returns-clause-kept
returns-clause-kept g c =
    let numbers = ap (λ (p : Posts _). p.numbers.entries) c.hear.ensures.same in record {
      same = ap layout_of c.hear.ensures.same;
      serves = λ room s. s;
      posted = λ words n w h x. told_still c.hear.ensures.lost numbers c.hear.ensures.kept
          (λ p e. (e.0, below_still _ _ words numbers c.hear.ensures.kept (omega arith) e.1)) x;
      heard = λ n w h x. told_still c.hear.ensures.lost numbers c.hear.ensures.kept (λ p e. e) x;
    }
