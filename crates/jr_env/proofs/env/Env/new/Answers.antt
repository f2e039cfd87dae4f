use Rattle.std.proofs.Common.{◌≡◌, rules}
use Rattle.jr_model.specs.Frames.{fresh_frames}
use Rattle.jr_frames.proofs.StillReady.{ready_new}
use Rattle.jr_env.proofs.EndedStays.{can_call}
use Rattle.jr_env.proofs.env.Env.new.Goals as goal

pub invariant_of-held : goal.invariant_of-held
invariant_of-held g c =
    let steps = c.args.steps in
    let s = (g.S.Steps.facts c.spend.new.self).stands in
    let is : c.new-frames.result ≡ record { frames = fresh_frames s.config.locals; thread = s.thread; last = s.last } =
    cc in
    let fresh = c.fresh.ensures in
    record {
      own = (ready_new c.new-frames.result g.met.S.Steps.fits c.spend.ensures is c.requires (search rules)
          (g.met.S.Steps.some_known steps)).own;
    }

pub invariant_of-result : goal.invariant_of-result
invariant_of-result g c =
    let steps = c.args.steps in
    let s = (g.S.Steps.facts c.spend.new.self).stands in
    let is : c.new-frames.result ≡ record { frames = fresh_frames s.config.locals; thread = s.thread; last = s.last } =
    cc in
    let fresh = c.fresh.ensures in
    record {
      ready = can_call (ready_new c.new-frames.result g.met.S.Steps.fits c.spend.ensures is c.requires (search rules)
          (g.met.S.Steps.some_known steps));
    }
