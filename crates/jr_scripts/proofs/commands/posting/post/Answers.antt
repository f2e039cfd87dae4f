use Rattle.jr_scripts.proofs.Speaking.{own_posted}
use Rattle.jr_scripts.proofs.commands.posting.post.Goals as goal

pub invariant_of-held : goal.invariant_of-held
invariant_of-held g c = record {
  own = own_posted g.S.Steps.facts (g.B.Board.tells c.post.new.self) c.requires.follows.0 c.args.name.now c.args.word
      (c.post.ensures.posted c.requires.follows.0 c.requires.follows.1) c.args.env.now.held.own;
}
