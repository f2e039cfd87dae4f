use Rattle.std.proofs.Common.{◌≡◌, ap, arith, refl, inr}
use Rattle.jr_scripts.specs.declared.board.Posts.{Posts}
use Rattle.jr_scripts.specs.Layouts.{layout_of}
use Rattle.jr_scripts.proofs.Noted.{below_still, noted_at, told_still, words_more}
use Rattle.jr_scripts.proofs.Speaking.{learns_nothing}
use Rattle.jr_scripts.proofs.sightings.SightingsUnitBoard.look.Goals as goal

pub returns-clause-found : goal.returns-clause-found
returns-clause-found g c =
    let board = c.hear.new.self in
    let posted = c.posted-posted.result.now in
    record {
      stands_is = refl;
      hint_is = refl;
      leads = λ k s m. (
        k,
        s,
        learns_nothing g.S.Steps.facts g.met.S.Steps.fits c.args._steps.now k s,
        noted_at board.notes.items c.args.name.now c.in_ok-number.number posted c.in_ok-number.note.token.value
            posted.word (λ p. Unit {0}) (ap (λ (p : Posts _). p.numbers.entries) c.hear.ensures.same)
            c.in_ok-number.ensures.number refl tt c.posted-posted.ensures c.hear.ensures.noted,
      );
    }

pub returns-clause-follows : goal.returns-clause-follows
returns-clause-follows g c =
    let board = c.hear.new.self in
    let posted = c.posted-posted.result.now in
    let same = ap (λ (p : Posts _). p.numbers.entries) c.hear.ensures.same in
    λ words had. words_more _ {so = λ p. p.stamp ≡ posted.stamp} words c.args.name.now posted.word c.hear.ensures.lost
    same c.hear.ensures.kept (λ p e. let few = c.hear.ensures.stamp in omega arith) (inr c.hear.ensures.heard)
    (noted_at board.notes.items c.args.name.now c.in_ok-number.number posted c.in_ok-number.note.token.value posted.word
    (λ p. p.stamp ≡ posted.stamp) same c.in_ok-number.ensures.number refl refl c.posted-posted.ensures
    c.hear.ensures.noted) had

pub returns-clause-kept : goal.returns-clause-kept
returns-clause-kept g c =
    let numbers = ap (λ (p : Posts _). p.numbers.entries) c.hear.ensures.same in record {
      same = ap layout_of c.hear.ensures.same;
      serves = λ room s. s;
      posted = λ words n w h x. told_still c.hear.ensures.lost numbers c.hear.ensures.kept
          (λ p e. (tt, below_still _ _ words numbers c.hear.ensures.kept (omega arith) e.1)) x;
      heard = λ n w h x. told_still c.hear.ensures.lost numbers c.hear.ensures.kept (λ p e. tt) x;
    }
