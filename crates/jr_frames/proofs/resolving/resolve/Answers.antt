use Rattle.jr_model.specs.Checks.{is_malformed, is_out_of_bounds}
use Rattle.jr_frames.specs.Reading.{word_of}
use Rattle.jr_frames.proofs.Reading.{either_first, either_second, neither}
use Rattle.jr_frames.proofs.Resolution.{resolves_outside, resolves_foreign, resolves_looked}
use Rattle.jr_frames.proofs.resolving.resolve.Goals as goal
use Rattle.jr_frames.proofs.resolving.resolve.Goals.{then-is_malformed-via-then-is_malformed}
use Rattle.jr_frames.proofs.resolving.resolve.Goals.{then-is_malformed-via-else-is_malformed+then-lies_outside}

pub returns-then-is_malformed : goal.returns-then-is_malformed
returns-then-is_malformed g c = let s = (g.S.Steps.facts c.args.steps.now).stands in let w = word_of c.args.reference in
    resolves_outside g.met.S.Steps.fits c.args.steps.now c.args.frames.now.frames s.config s.last s.thread w
    (elim c.then-is_malformed.branch [
      | then-is_malformed-via-then-is_malformed b ↦ either_first (is_malformed w) (is_out_of_bounds s.config w) (cc)
      | then-is_malformed-via-else-is_malformed+then-lies_outside b ↦
          either_second (is_malformed w) (is_out_of_bounds s.config w) (cc)
    ])

pub returns-then-belongs_elsewhere : goal.returns-then-belongs_elsewhere
returns-then-belongs_elsewhere g c = let s = (g.S.Steps.facts c.args.steps.now).stands in
    let w = word_of c.args.reference in
    resolves_foreign g.met.S.Steps.fits c.args.steps.now c.args.frames.now.frames s.config s.last s.thread w
    (neither (is_malformed w) (is_out_of_bounds s.config w) (cc) (cc)) (cc)

pub returns : goal.returns
returns g c = let s = (g.S.Steps.facts c.args.steps.now).stands in let w = word_of c.args.reference in
    resolves_looked s.config s.last s.thread c.args.frames.now.frames w
    (neither (is_malformed w) (is_out_of_bounds s.config w) (cc) (cc)) (cc) c.look_up.ensures
