use Rattle.std.proofs.Common.{ap, arith, refl}
use Rattle.jr_scripts.specs.declared.board.Posts.{Posts}
use Rattle.jr_scripts.specs.Layouts.{layout_of}
use Rattle.jr_scripts.proofs.Noted.{below_still, posted_behind, put_words, told_still}
use Rattle.jr_scripts.proofs.sightings.SightingsUnitBoard.post.Goals as goal

pub returns-clause-posted : goal.returns-clause-posted
returns-clause-posted g c = λ words had. record {
  stands_is = refl;
  hint_is = refl;
  leads = λ k s m. (
    k,
    s,
    refl,
    posted_behind _ (λ t. Unit {0}) words c.args.name.now c.args.word c.put.ensures.lost
        (ap (λ (p : Posts _). p.numbers.entries) c.put.ensures.same) c.put.ensures.kept tt c.put.ensures.noted had,
  );
}

pub returns-clause-follows : goal.returns-clause-follows
returns-clause-follows g c = λ words had. put_words _ words c.args.name.now c.args.word c.put.ensures.lost
    (ap (λ (p : Posts _). p.numbers.entries) c.put.ensures.same) c.put.ensures.kept c.put.ensures.heard
    c.put.ensures.noted had

pub returns-clause-kept : goal.returns-clause-kept
returns-clause-kept g c =
    let numbers = ap (λ (p : Posts _). p.numbers.entries) c.put.ensures.same in record {
      same = ap layout_of c.put.ensures.same;
      serves = λ room s. s;
      posted = λ words n w h x. told_still c.put.ensures.lost numbers c.put.ensures.kept
          (λ p e. (tt, below_still _ _ words numbers c.put.ensures.kept (omega arith) e.1)) x;
      heard = λ n w h x. told_still c.put.ensures.lost numbers c.put.ensures.kept (λ p e. tt) x;
    }
