use Rattle.std.proofs.Common.{refl, sym, ◌∙◌}
use Rattle.jr_frames.proofs.StillReady.{ready_left}
use Rattle.jr_critical.proofs.Closing.{closes_first, closes_last, stand_left}
use Rattle.jr_critical.proofs.levels.Levels.close.Goals as goal

pub invariant_of-held : goal.invariant_of-held
invariant_of-held g c = record { own = (ready_left c.requires.ready c.leave.ensures).own }

pub returns-then-is_empty-clause-call : goal.returns-then-is_empty-clause-call
returns-then-is_empty-clause-call g c = closes_first c.requires c.pop.new.self.items c.pop.ensures.rest
    (sym c.is_empty.ensures ∙ c.if-is_empty.true) c.leave.ensures

pub returns-clause-call : goal.returns-clause-call
returns-clause-call g c =
    closes_last c.requires c.pop.new.self.items c.pop.ensures.rest (sym c.is_empty.ensures ∙ c.if-is_empty.false)
    (record { inside = c.args.self.inside; levels = c.pop.new.self }) refl g.met.S.Steps.fits

pub returns-clause-stand : goal.returns-clause-stand
returns-clause-stand g c =
    stand_left c.requires c.pop.new.self.items c.pop.ensures.rest (sym c.is_empty.ensures ∙ c.if-is_empty.false)
    (record { inside = c.args.self.inside; levels = c.pop.new.self }) refl refl
